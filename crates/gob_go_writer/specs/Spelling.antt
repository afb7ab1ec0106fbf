-- The spelling of an item as it is kept, whether or not it is one of a stream: its numbers and descriptions, and the
-- bytes of its skeletons, where each filling stands in the place of one byte. That of a value is a list of letters:
-- bytes, and the cut behind each definition.
-- (docs/FORMAT.md, Fillings and segments.)
use Rattle.std.specs.Prelude.{◌≡◌, ℕ, pos, negsuc, ◌+◌, ◌-◌, ◌^◌, ◌<◌, ◌≤◌, List, [], ◌∷◌, ◌++◌, length, take, drop}
use Rattle.gob_num.specs.Unsigned.{IsUnsigned}
use Rattle.gob_num.specs.Signed.{IsSigned}
use Rattle.gob_types.specs.declared.id.TypeId.{TypeId}
use Rattle.gob_types.specs.Base.{wire_type}
use Rattle.gob_types.specs.Table.{Table}
use Rattle.gob_value.specs.Spelling.{Spells}
use Rattle.gob_value.specs.Tree.{Tree, depth}
use Rattle.gob_value.specs.View.{view}
use Rattle.gob_value.specs.declared.value.Value.{Value}
use Rattle.gob_stream.specs.Bounds.{greatest_depth}
use Rattle.gob_filled.specs.Filled.{cut, AreSegments}
use Rattle.gob_go.specs.declared.filled.Definition.{Definition}
use Rattle.gob_go.specs.declared.filled.Filled.{Filled, out-Filled}
use Rattle.gob_go.specs.declared.filled.Filling.{Filling, out-Filling}
use Rattle.gob_go.specs.declared.item.GoItem.{GoItem}
use Rattle.gob_go.specs.declared.item.GoItem.TheVariants as item

-- of a definition: the id below 0, and the description, which is no deeper than trees may be
pub record SpellsDefinition (T : Table) (id : TypeId) (v : Tree) (ls : List ℕ) : Type 0 where
  pub below : ℕ
  pub number : List ℕ
  pub description : List ℕ
  pub id_is : id.0 ≡ below + 1
  pub small : id.0 < 2 ^ 63
  pub numbered : IsSigned (negsuc below) number
  pub described : Spells T wire_type v description
  pub shallow : depth v ≤ greatest_depth
  pub whole : ls ≡ number ++ description

-- of definitions in a value, each of which ends its segment
pub data SpellDefinitions (T : Table) : List Definition → List ℕ → Type 0 where
  none_spelled : SpellDefinitions T [] []
  one_spelled : {d : Definition} {ds : List Definition} {b ls : List ℕ} → SpellsDefinition T d.id (view d.described) b
      → SpellDefinitions T ds ls → SpellDefinitions T (d ∷ ds) (b ++ (cut ∷ ls))

-- of a name, behind its count
pub record SpellsName (name bytes : List ℕ) : Type 0 where
  pub count : List ℕ
  pub counts : IsUnsigned (length name) count
  pub whole : bytes ≡ count ++ name

mutual
  -- of what is left of a value behind so many bytes of its skeleton, where these fillings are left
  pub data SpellsRest (T : Table) : (skeleton : List ℕ) → (done : ℕ) → List Filling → List ℕ → Type 0 where
    as_it_stands : {skeleton : List ℕ} {done : ℕ} → SpellsRest T skeleton done [] (drop done skeleton)
    -- the bytes up to the place of the next filling, and the filling, for the byte there
    next_filled : {skeleton held ls : List ℕ} {done : ℕ} {f : Filling} {fs : List Filling}
        → done ≤ (out-Filling f).place → (out-Filling f).place < length skeleton → SpellsFilling T f held
        → SpellsRest T skeleton ((out-Filling f).place + 1) fs ls
        → SpellsRest T skeleton done (f ∷ fs) (take ((out-Filling f).place - done) (drop done skeleton) ++ (held ++ ls))

  -- of a filling: the name, the definitions, the type number, and the segments of what is held
  pub data SpellsFilling (T : Table) : Filling → List ℕ → Type 0 where
    fills : {f : Filling} {name ds n ls held : List ℕ} → SpellsName (out-Filling f).name.items name
        → SpellDefinitions T (out-Filling f).definitions.items ds → IsSigned (pos (out-Filling f).id.0) n
        → SpellsRest T (out-Filled (out-Filling f).value).skeleton.items 0
        (out-Filled (out-Filling f).value).fillings.items ls
        → AreSegments ls held → SpellsFilling T f (name ++ (ds ++ (n ++ held)))

-- of a value
abbrev pub SpellsValue : Table → Filled → List ℕ → Type 0
SpellsValue T kept ls = SpellsRest T (out-Filled kept).skeleton.items 0 (out-Filled kept).fillings.items ls

-- of an item: a definition behind its count, or the segments of a type number and a value
pub data IsSpelling (T : Table) : GoItem → List ℕ → Type 0 where
  of_definition : {id : TypeId} {described : Value} {c ls : List ℕ} → SpellsDefinition T id (view described) ls
      → IsUnsigned (length ls) c → IsSpelling T (item.Define id described) (c ++ ls)
  of_value : {id : TypeId} {kept : Filled} {n ls bytes : List ℕ} → IsSigned (pos id.0) n → SpellsValue T kept ls
      → AreSegments (n ++ ls) bytes → IsSpelling T (item.Put id kept) bytes
