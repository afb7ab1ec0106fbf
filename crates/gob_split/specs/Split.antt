-- Into which parts the texts of items are split. (docs/FORMAT.md, Parts of a stream: this project's own.)
use Rattle.std.specs.Prelude.{◌≡◌, ℕ, ◌+◌, ◌<◌, ◌≤◌, ◌⊎◌, List, [], ◌∷◌, ◌++◌, length, Option, Some, None}
use Rattle.gob_split.specs.Text.{Text, text_bytes}
use Rattle.gob_split.specs.declared.part_size.PartSize.{PartSize}
use Rattle.gob_split.specs.declared.part_size.PartSize.TheVariants as size

-- a part so far: its bytes, how many values there are in it, and how many in its last item
pub record StreamPart : Type 0 where
  pub bytes : List ℕ
  pub values : ℕ
  pub ends : ℕ

-- the parts, of which the last one may get more
abbrev pub all_parts : List (List ℕ) → Option StreamPart → List (List ℕ)
all_parts full None = full
all_parts full (Some p) = full ++ p.bytes ∷ []

-- ---- the definitions in force, and the values
abbrev pub definitions_of : List Text → List ℕ
definitions_of [] = []
definitions_of (t ∷ texts) = t.definitions ++ definitions_of texts

abbrev pub value_count : List ℕ → ℕ
value_count [] = 0
value_count (b ∷ value) = 1

abbrev pub values_of : List Text → ℕ
values_of [] = 0
values_of (t ∷ texts) = value_count t.value + values_of texts

-- ---- where a part ends
abbrev pub IsDone : PartSize → Option StreamPart → Type 0
IsDone how None = Unit {0}
IsDone (size.Bytes n) (Some p) = (0 < p.ends) × (n ≤ length p.bytes)
IsDone (size.Values n) (Some p) = (0 < p.ends) × (n ≤ p.values)

abbrev pub HasRoom : PartSize → StreamPart → Type 0
HasRoom (size.Bytes n) p = (p.ends ≡ 0) ⊎ (length p.bytes < n)
HasRoom (size.Values n) p = (p.ends ≡ 0) ⊎ (p.values < n)

-- the next item goes into a new part, which begins with the definitions in force, where the last one is done, or there
-- is none; else into that
pub data Turns (how : PartSize) (defining : List ℕ) (full : List (List ℕ)) : Option StreamPart → List (List ℕ)
    → StreamPart
    → Type 0 where
  turns : {last : Option StreamPart} → IsDone how last
      → Turns how defining full last (all_parts full last) (record { bytes = defining; values = 0; ends = 0 })
  stays : {p : StreamPart} → HasRoom how p → Turns how defining full (Some p) full p

abbrev pub with_text : StreamPart → Text → StreamPart
with_text p t = record {
  bytes = p.bytes ++ text_bytes t;
  values = p.values + value_count t.value;
  ends = value_count t.value;
}

-- the texts, one behind another, are split so
pub data IsSplit (how : PartSize) : List Text → List (List ℕ) → Option StreamPart → Type 0 where
  no_parts : IsSplit how [] [] None
  part_then : {texts : List Text} {full full' : List (List ℕ)} {last : Option StreamPart} {p : StreamPart} (t : Text)
      → IsSplit how texts full last → Turns how (definitions_of texts) full last full' p
      → IsSplit how (texts ++ t ∷ []) full' (Some (with_text p t))

-- ---- what was written of parts where a write failed: the first ones, the last of them maybe in part
pub data IsCut (parts : List (List ℕ)) : List (List ℕ) → Type 0 where
  cut_between : {written : List (List ℕ)} (rest : List (List ℕ)) → parts ≡ written ++ rest → IsCut parts written
  cut_within : (before : List (List ℕ)) (prefix rest : List ℕ) → parts ≡ before ++ (prefix ++ rest) ∷ []
      → IsCut parts (before ++ prefix ∷ [])
