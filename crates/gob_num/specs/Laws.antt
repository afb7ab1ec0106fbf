-- The laws of numbers' spellings, each for any relation `Spells` of a value with bytes.
-- Source: they follow from Go's encoding/gob documentation, Encoding Details; docs/FORMAT.md, Numbers.
use Rattle.std.specs.Prelude.{◌≡◌, ◌↔◌, ℕ, List, ◌++◌}
use Rattle.gob_num.specs.Unsigned.{AreBytes, IsUnsigned, IsUnsignedPrefix, BeginsNumber, GoesPastNumber, IsBadHead}
use Rattle.gob_num.specs.Unsigned.{IsNotMinimal}
use Rattle.gob_num.specs.Spelled.{IsSpelled, Same}

-- no spelling begins another: where two stand at the front of one list, their values, their bytes and what follows
-- are equal
abbrev pub BeginNoOther : (A : Type 0) → (A → List ℕ → Type 0) → Type 0
BeginNoOther A Spells = (v w : A) (b c x y : List ℕ) → Spells v b → Spells w c → b ++ x ≡ c ++ y → Same v w b c x y

-- a value has one spelling
abbrev pub AreUnique : (A : Type 0) → (A → List ℕ → Type 0) → Type 0
AreUnique A Spells = (v : A) (b c : List ℕ) → Spells v b → Spells v c → b ≡ c

-- a spelling has one value
abbrev pub TellTheValue : (A : Type 0) → (A → List ℕ → Type 0) → Type 0
TellTheValue A Spells = (v w : A) (b : List ℕ) → Spells v b → Spells w b → v ≡ w

-- each value that fits has a spelling, and no other value has one
abbrev pub SpellAll : (A : Type 0) → (A → Type 0) → (A → List ℕ → Type 0) → Type 0
SpellAll A Fits Spells = (v : A) → Fits v ↔ IsSpelled (Spells v)

-- what bytes are to the spellings of unsigned numbers
pub data Beginning : Type 0 where
  prefix : Beginning
  whole : Beginning
  past : Beginning
  bad_head : Beginning
  not_minimal : Beginning

abbrev pub Begins : Beginning → List ℕ → Type 0
Begins prefix bytes = IsUnsignedPrefix bytes
Begins whole bytes = (n : ℕ) × IsUnsigned n bytes
Begins past bytes = GoesPastNumber bytes
Begins bad_head bytes = IsBadHead bytes
Begins not_minimal bytes = IsNotMinimal bytes

-- bytes begin in one of these ways ..
abbrev pub BeginSomehow : Type 0
BeginSomehow = (bytes : List ℕ) → AreBytes bytes → (k : Beginning) × Begins k bytes

-- .. and in no two of them
abbrev pub BeginOneWay : Type 0
BeginOneWay = (j k : Beginning) (bytes : List ℕ) → Begins j bytes → Begins k bytes → j ≡ k

-- a proper prefix of a spelling is known by its own bytes
abbrev pub PrefixesAreKnown : Type 0
PrefixesAreKnown = (bytes : List ℕ) → IsUnsignedPrefix bytes ↔ BeginsNumber bytes
