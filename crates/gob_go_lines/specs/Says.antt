-- What JSON says of a value whose interfaces may hold others: the bytes that spell the value. An interface holds
-- nothing, or, where the lines are those of `show --go`, the value of a type that is ready, which lies one deeper,
-- behind its name, its type's number and the count of its bytes. No definition stands in the bytes. For a number a text
-- of its digits may stand.
-- (docs/FORMAT.md, The JSON lines: this project's own; Fillings and segments.)
use Rattle.std.specs.Prelude.{◌≡◌, ℕ, pos, ◌+◌, ◌-◌, ◌<◌, ◌≤◌, Bool, IsTrue, List, [], ◌∷◌, ◌++◌, codes, length, Some}
use Rattle.std.specs.Prelude.{slice_get}
use Rattle.serde_json.specs.Data.{Data, array, object, Items, no_items, item, no_members, member}
use Rattle.gob_num.specs.Unsigned.{AreBytes, IsUnsigned}
use Rattle.gob_num.specs.Signed.{IsSigned}
use Rattle.gob_types.specs.declared.id.TypeId.{TypeId}
use Rattle.gob_types.specs.declared.basic.Basic.{Basic}
use Rattle.gob_types.specs.declared.basic.Basic.TheVariants as basic
use Rattle.gob_types.specs.declared.kind.Field.{Field}
use Rattle.gob_types.specs.declared.kind.Kind.{Kind}
use Rattle.gob_types.specs.declared.kind.Kind.TheVariants as kind
use Rattle.gob_types.specs.declared.kind.Marshal.{Marshal}
use Rattle.gob_types.specs.declared.kind.Shape.{Shape}
use Rattle.gob_types.specs.Table.{Table, shape_of}
use Rattle.gob_value.specs.Bytes.{HoldsBytes}
use Rattle.gob_value.specs.Spelling.{SpellsAs}
use Rattle.gob_value.specs.Top.{IsStruct}
use Rattle.gob_value.specs.Tree.{Tree}
use Rattle.gob_json.specs.Json.{no_type, opaque_json, pair_json, text_json, triple_json}
use Rattle.gob_stream.specs.Body.{MayPut}
use Rattle.gob_lines.specs.Numbers.{IsBasicJson, IsNatural}

abbrev pub items_of : List Data → Items
items_of [] = no_items
items_of (j ∷ js) = item j (items_of js)

-- what an interface holds, by its type's name and number: {"interface":{"name":s,"type":n,"value":v}}
abbrev pub held_json : List ℕ → Data → Data → Data
held_json name typed value = object (member (codes "interface") (object (member (codes "name") (text_json name)
    (member (codes "type") typed (member (codes "value") value no_members)))) no_members)

mutual
  -- the JSON says the value of the type that is spelled so, no part of it deeper than the limit
  pub data Says (T : Table) (H : Bool) : TypeId → (limit : ℕ) → Data → List ℕ → Type 0 where
    of_type : {t : TypeId} {s : Shape} {limit : ℕ} {j : Data} {b : List ℕ} → shape_of T t ≡ Some s → 0 < limit
        → SaysAs T H s.kind limit j b → Says T H t limit j b

  -- a value of a kind
  pub data SaysAs (T : Table) (H : Bool) : Kind → (limit : ℕ) → Data → List ℕ → Type 0 where
    of_basic : {k : Basic} {limit : ℕ} {v : Tree} {j : Data} {b : List ℕ} → SpellsAs T (kind.Basic k) v b
        → HoldsBytes v → IsBasicJson T no_type v j → SaysAs T H (kind.Basic k) limit j b
    of_opaque : {m : Marshal} {limit : ℕ} {c : List ℕ} (s : List ℕ) → AreBytes s → IsUnsigned (length s) c
        → SaysAs T H (kind.Opaque m) limit (opaque_json s) (c ++ s)
    of_slice : {e : TypeId} {limit : ℕ} {js : List Data} {c b : List ℕ} → IsUnsigned (length js) c
        → SaysEach T H e (limit - 1) js b → SaysAs T H (kind.Slice e) limit (array (items_of js)) (c ++ b)
    of_array : {e : TypeId} {limit n : ℕ} {js : List Data} {c b : List ℕ} → length js ≡ n → IsUnsigned (length js) c
        → SaysEach T H e (limit - 1) js b → SaysAs T H (kind.Array e n) limit (array (items_of js)) (c ++ b)
    of_map : {k e : TypeId} {limit : ℕ} {js : List Data} {c b : List ℕ} → IsUnsigned (length js) c
        → SaysPairs T H k e (limit - 1) js b → SaysAs T H (kind.Map k e) limit (array (items_of js)) (c ++ b)
    of_struct : {types : List Field} {limit : ℕ} {js : List Data} {b : List ℕ} → SaysFields T H types 0 (limit - 1) js b
        → SaysAs T H (kind.Struct types) limit (array (items_of js)) b
    -- {"interface":{"name":NAME,"type":ID,"value":J}}
    of_held : {held : TypeId} {limit : ℕ} {a n c b : List ℕ} {number j : Data} (name : List ℕ) → IsTrue H
        → AreBytes name → 0 < length name → IsUnsigned (length name) a → MayPut T held → IsSigned (pos held.0) n
        → IsNatural held.0 number → SaysTop T H held (limit - 1) j b → IsUnsigned (length b) c
        → SaysAs T H (kind.Basic basic.Interface) limit (held_json name number j) (a ++ (name ++ (n ++ (c ++ b))))

  -- the bytes spell it behind its tag, which a struct doesn't have
  pub data SaysTop (T : Table) (H : Bool) : TypeId → (limit : ℕ) → Data → List ℕ → Type 0 where
    at_once : {t : TypeId} {s : Shape} {limit : ℕ} {j : Data} {b : List ℕ} → shape_of T t ≡ Some s → IsStruct s.kind
        → Says T H t limit j b → SaysTop T H t limit j b
    tagged : {t : TypeId} {s : Shape} {limit : ℕ} {j : Data} {b : List ℕ} → shape_of T t ≡ Some s → ¬ IsStruct s.kind
        → Says T H t limit j b → SaysTop T H t limit j (0 ∷ b)

  -- each says an element of the type
  pub data SaysEach (T : Table) (H : Bool) : TypeId → (limit : ℕ) → List Data → List ℕ → Type 0 where
    no_element : {e : TypeId} {limit : ℕ} → SaysEach T H e limit [] []
    element : {e : TypeId} {limit : ℕ} {j : Data} {js : List Data} {b c : List ℕ} → Says T H e limit j b
        → SaysEach T H e limit js c → SaysEach T H e limit (j ∷ js) (b ++ c)

  -- each says a key and its element
  pub data SaysPairs (T : Table) (H : Bool) : TypeId → TypeId → (limit : ℕ) → List Data → List ℕ → Type 0 where
    no_entry : {k e : TypeId} {limit : ℕ} → SaysPairs T H k e limit [] []
    entry : {k e : TypeId} {limit : ℕ} {x j : Data} {js : List Data} {a b c : List ℕ} → Says T H k limit x a
        → Says T H e limit j b → SaysPairs T H k e limit js c
        → SaysPairs T H k e limit (pair_json x j ∷ js) (a ++ (b ++ c))

  -- each says a field that is present, of which the next has this number or a greater one: its number, its name and
  -- its value
  pub data SaysFields (T : Table) (H : Bool) : List Field → (next limit : ℕ) → List Data → List ℕ → Type 0 where
    end_of_fields : {types : List Field} {next limit : ℕ} {b : List ℕ} → IsUnsigned 0 b
        → SaysFields T H types next limit [] b
    next_field : {types : List Field} {next limit f : ℕ} {e : Field} {number j : Data} {js : List Data}
        {a b c : List ℕ} → next ≤ f → slice_get types f ≡ Some e → IsUnsigned (f + 1 - next) a → IsNatural f number
        → Says T H e.id limit j b → SaysFields T H types (f + 1) limit js c
        → SaysFields T H types next limit (triple_json number (text_json e.name) j ∷ js) (a ++ (b ++ c))
