-- The plain JSON of a value whose interfaces may hold others: each is shown as what it holds. The parts of a value are
-- numbered in the order of their first bytes, the value itself first. A filling stands in the part whose number is that
-- of the parts that begin before its place.
-- (docs/FORMAT.md, Plain values; Fillings and segments: this project's own.)
use Rattle.std.specs.Prelude.{◌≡◌, ℕ, ◌+◌, Bool, true, false, List, [], ◌∷◌, ◌++◌, take, get_or}
use Rattle.json.specs.Json.{Json}
use Rattle.json.specs.Json as json
use Rattle.gob_types.specs.declared.id.TypeId.{TypeId}
use Rattle.gob_types.specs.Table.{Table}
use Rattle.gob_value.specs.Tree.{Tree, Trees, no_tree, tree, Pairs, no_pair, pair, Fields, no_field, field}
use Rattle.gob_value.specs.Tree as Value
use Rattle.gob_value.specs.Top.{SpellsTop}
use Rattle.gob_read.specs.Held.{PartialBody}
use Rattle.gob_read.specs.Weight.{part_count}
use Rattle.gob_plain.specs.declared.style.Style.{Style}
use Rattle.gob_plain.specs.Filled.{SaysValueWith, within}
use Rattle.gob_plain.specs.Plain.{name_text}
use Rattle.gob_filled.specs.Filled.{Definitions, Filled, filled, Fillings, no_filling, filling}

abbrev mutual
  -- the numbers of the parts of a value that are nil, in order, where its own number is n
  pub nil_parts : ℕ → Tree → List ℕ
  nil_parts n Value.nil = n ∷ []
  nil_parts n (Value.many vs) = nil_parts_of_each (n + 1) vs
  nil_parts n (Value.pairs ps) = nil_parts_of_pairs (n + 1) ps
  nil_parts n (Value.fields fs) = nil_parts_of_fields (n + 1) fs
  nil_parts n v = []

  pub nil_parts_of_each : ℕ → Trees → List ℕ
  nil_parts_of_each n no_tree = []
  nil_parts_of_each n (tree v vs) = nil_parts n v ++ nil_parts_of_each (n + part_count v) vs

  pub nil_parts_of_pairs : ℕ → Pairs → List ℕ
  nil_parts_of_pairs n no_pair = []
  nil_parts_of_pairs n (pair x v ps) = nil_parts n x
      ++ (nil_parts (n + part_count x) v ++ nil_parts_of_pairs (n + part_count x + part_count v) ps)

  pub nil_parts_of_fields : ℕ → Fields → List ℕ
  nil_parts_of_fields n no_field = []
  nil_parts_of_fields n (field f v fs) = nil_parts n v ++ nil_parts_of_fields (n + part_count v) fs

-- a held value, by the name of its type where it is tagged: {"NAME":value}
abbrev pub tagged_json : Bool → List ℕ → Json → Json
tagged_json true name i = json.object (json.member (name_text name) i json.no_members)
tagged_json false name i = i

mutual
  -- the JSON says the value of the type in this style: its nils, in their order, say this
  pub data SaysFilled (tagged : Bool) : Style → Table → TypeId → Filled → Json → Type 0 where
    says_filled : {style : Style} {T : Table} {t : TypeId} {v : Tree} {fs : Fillings} {b : List ℕ} {said : List Json}
        {j : Json} → SpellsTop T t v b → NilsSay tagged (within style) T t b (nil_parts 0 v) fs said
        → SaysValueWith (λ k i. i ≡ get_or said k json.null) style T t v j → SaysFilled tagged style T t (filled v fs) j

  -- the nils that are the parts of these numbers, in a value that is spelled so, say this: one in which a filling
  -- stands what that has it hold, and any other null; each filling stands in one of them
  pub data NilsSay (tagged : Bool) : Style → Table → TypeId → List ℕ → List ℕ → Fillings → List Json → Type 0 where
    no_nil : {style : Style} {T : Table} {t : TypeId} {b : List ℕ} → NilsSay tagged style T t b [] no_filling []
    says_null : {style : Style} {T : Table} {t : TypeId} {b ns : List ℕ} {n : ℕ} {fs : Fillings} {said : List Json}
        → NilsSay tagged style T t b ns fs said → NilsSay tagged style T t b (n ∷ ns) fs (json.null ∷ said)
    says_held : {style : Style} {T : Table} {t u : TypeId} {b ns name : List ℕ} {n raws place : ℕ} {ds : Definitions}
        {w : Filled} {fs : Fillings} {i : Json} {said : List Json} → PartialBody T t (take place b) n raws
        → SaysFilled tagged style T u w i → NilsSay tagged style T t b ns fs said
        → NilsSay tagged style T t b (n ∷ ns) (filling place name ds u w fs) (tagged_json tagged name i ∷ said)
