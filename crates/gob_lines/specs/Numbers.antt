-- What stands for a number in a line that is read: the number, or a text of its digits, which readers of JSON that
-- round large numbers keep. (docs/FORMAT.md, The JSON lines: this project's own.)
use Rattle.std.specs.Prelude.{ℕ, ℤ, List, decimal}
use Rattle.std.specs.Fmt.{signed_decimal}
use Rattle.json.specs.Token.{Token}
use Rattle.serde_json.specs.Data.{Data, string, array, object, Items, no_items, item, Members, no_members, member}
use Rattle.gob_types.specs.declared.id.TypeId.{TypeId}
use Rattle.gob_types.specs.Table.{Table}
use Rattle.gob_value.specs.Tree.{Tree}
use Rattle.gob_value.specs.Tree as Value
use Rattle.gob_json.specs.Json.{integer_json, natural_json, value_json}
use Rattle.gob_lines.specs.Reads.{Reads}

-- the JSON of the number, or a text of its digits
pub data IsNatural (n : ℕ) : Data → Type 0 where
  natural_number : IsNatural n (natural_json n)
  natural_text : IsNatural n (string (decimal n))

pub data IsInteger (i : ℤ) : Data → Type 0 where
  integer_number : IsInteger i (integer_json i)
  integer_text : IsInteger i (string (signed_decimal i))

-- the JSON that `show` prints of a value without parts, or where that is a number a text of its digits
pub data IsBasicJson (T : Table) (t : TypeId) : Tree → Data → Type 0 where
  as_shown : {v : Tree} → IsBasicJson T t v (value_json T t v)
  of_int : {i : ℤ} {j : Data} → IsInteger i j → IsBasicJson T t (Value.int i) j
  of_uint : {n : ℕ} {j : Data} → IsNatural n j → IsBasicJson T t (Value.uint n) j

-- the first of the old tokens are those of JSON of this kind
pub record ReadsSome (Is : Data → Type 0) (old new : List Token) : Type 0 where
  pub json : Data
  pub is : Is json
  pub reads : Reads json old new

mutual
  -- the JSON is the other, but for texts of digits in the places of numbers
  pub data IsWithTexts : (written shown : Data) → Type 0 where
    same : {d : Data} → IsWithTexts d d
    natural_as_text : {n : ℕ} {j : Data} → IsNatural n j → IsWithTexts j (natural_json n)
    integer_as_text : {i : ℤ} {j : Data} → IsInteger i j → IsWithTexts j (integer_json i)
    in_array : {js ks : Items} → AreWithTexts js ks → IsWithTexts (array js) (array ks)
    in_object : {ms ns : Members} → MembersAreWithTexts ms ns → IsWithTexts (object ms) (object ns)

  pub data AreWithTexts : (written shown : Items) → Type 0 where
    no_items_with_texts : AreWithTexts no_items no_items
    item_with_texts : {j k : Data} {js ks : Items} → IsWithTexts j k → AreWithTexts js ks
        → AreWithTexts (item j js) (item k ks)

  pub data MembersAreWithTexts : (written shown : Members) → Type 0 where
    no_members_with_texts : MembersAreWithTexts no_members no_members
    member_with_texts : {name : List ℕ} {j k : Data} {ms ns : Members} → IsWithTexts j k → MembersAreWithTexts ms ns
        → MembersAreWithTexts (member name j ms) (member name k ns)
