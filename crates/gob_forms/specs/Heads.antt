-- What the first numbers of an item say, and where items may stand, as these say it. (docs/FORMAT.md, Items.)
use Rattle.std.specs.Prelude.{◌≡◌, ℕ, pos, negsuc, ◌+◌, ◌-◌, ◌<◌, ◌≤◌, min, ◌⊎◌, Bool, true, false, List, length}
use Rattle.std.specs.Prelude.{take, drop, slice_index}
use Rattle.std.specs.Prelude.{IsTrue, ◌↔◌}
use Rattle.gob_num.specs.Place.{IsUnsignedAt}
use Rattle.gob_num.specs.Signed.{IsSigned}
use Rattle.gob_forms.specs.declared.chain.Chain.{Chain}
use Rattle.gob_forms.specs.declared.head.Head.{Head}

-- the bytes spell a type number: the id before a value, and the id below 0 before a definition
pub data IsTypeNumber : (id : ℕ) → (defines : Bool) → List ℕ → Type 0 where
  of_value : {id : ℕ} {a : List ℕ} → IsSigned (pos id) a → IsTypeNumber id false a
  of_definition : {id n : ℕ} {a : List ℕ} → id ≡ n + 1 → IsSigned (negsuc n) a → IsTypeNumber id true a

-- the item begins with this count, and this type number behind it
pub record IsHead (item : List ℕ) (h : Head) : Type 0 where
  pub counts : IsUnsignedAt h.count item 0 h.count_size
  pub order : h.count_size < h.size
  pub inside : h.size ≤ length item
  pub numbers : IsTypeNumber h.id.0 h.defines (take (h.size - h.count_size) (drop h.count_size item))

-- where the item ends, or the bytes do
abbrev pub head_end : Head → (item : List ℕ) → ℕ
head_end h item = min (h.count_size + h.count) (length item)

-- what stands behind both numbers, up to there
abbrev pub head_body : Head → (item : List ℕ) → List ℕ
head_body h item = drop h.size (take (head_end h item) item)

-- as many bytes stand behind the count as it says
abbrev pub IsWhole : Head → (item : List ℕ) → Type 0
IsWhole h item = h.count ≤ length item - h.count_size

-- of a basic type, whose number a tag of 0 follows
pub record IsBasicValue (h : Head) (item : List ℕ) : Type 0 where
  pub low : 1 ≤ h.id.0
  pub high : h.id.0 ≤ 8
  pub value : h.defines ≡ false
  pub inside : h.size < length item
  pub tag : slice_index item h.size ≡ 0

-- a stream may have an item with this head: of a type that a stream may define, or a value of a basic type; and
-- something stands behind the head
pub record MayCome (h : Head) (item : List ℕ) : Type 0 where
  pub of_type : (64 ≤ h.id.0) ⊎ IsBasicValue h item
  pub body : 0 < length (head_body h item)

-- an item may stand at the front of the bytes
pub record BeginsItem (bytes : List ℕ) : Type 0 where
  pub head : Head
  pub is : IsHead bytes head
  pub may : MayCome head bytes

-- and it is a definition
pub record BeginsDefinition (bytes : List ℕ) : Type 0 where
  pub head : Head
  pub is : IsHead bytes head
  pub may : MayCome head bytes
  pub defines : head.defines ≡ true

-- a whole item may stand between the places
pub record MayStand (bytes : List ℕ) (begin end : ℕ) : Type 0 where
  pub head : Head
  pub is : IsHead (drop begin bytes) head
  pub may : MayCome head (drop begin bytes)
  pub whole : IsWhole head (drop begin bytes)
  pub end_is : end ≡ begin + head.count_size + head.count

-- so many of them, one behind another
pub data ItemsMayStand (bytes : List ℕ) : (begin count end : ℕ) → Type 0 where
  no_item : {begin : ℕ} → ItemsMayStand bytes begin 0 begin
  one_more : {begin count more next end : ℕ} → ItemsMayStand bytes begin count next → MayStand bytes next end
      → more ≡ count + 1 → ItemsMayStand bytes begin more end

-- as many as may stand there from the place on, or the most that are looked for
pub record IsChain (bytes : List ℕ) (begin most : ℕ) (c : Chain) : Type 0 where
  pub end : ℕ
  pub stand : ItemsMayStand bytes begin c.items end
  pub few : c.items ≤ most
  pub longest : (c.items ≡ most) ⊎ ((next : ℕ) → ¬ MayStand bytes end next)
  pub to_end : IsTrue c.is_to_end ↔ (end ≡ length bytes)
