-- What a word says of a field that has another name in a stream. (docs/FORMAT.md, The program: this project's own.)
use Rattle.std.specs.Prelude.{◌≡◌, ◌≢◌, ◌<◌, ◌⊎◌, ⊤, ℕ, List, [], ◌∷◌, ◌++◌, length, take, get_or, Option, Some, None}
use Rattle.std.specs.Prelude.{slice_get}
use Rattle.std.specs.Borrow.{Bor}
use Rattle.gob_rename.specs.declared.fault.WordFault.{WordFault}
use Rattle.gob_rename.specs.declared.fault.WordFault.TheVariants as word_fault
use Rattle.gob_rename.specs.declared.fault.WordsFault.{WordsFault}
use Rattle.gob_rename.specs.declared.fault.WordsFault.TheVariants as words_fault
use Rattle.gob_rename.specs.declared.rename.Rename.{Rename}

-- none of the bytes is this one
abbrev pub Lacks : (byte : ℕ) → List ℕ → Type 0
Lacks byte text = (place : ℕ) → place < length text → get_or text place 0 ≢ byte

-- what stands in front of the old name: nothing, or the struct's name and a dot (46)
abbrev pub in_front : Option (Bor (List ℕ)) → List ℕ
in_front None = []
in_front (Some name) = name.now ++ 46 ∷ []

-- what stands before the equals sign (61) says this; the old name has no dot
pub record IsSaidAt (place new : List ℕ) (said : Rename) : Type 0 where
  pub text : place ≡ in_front said.of ++ said.old.now
  pub undotted : Lacks 46 said.old.now
  pub new_is : said.new.now ≡ new

-- the word says this: it is cut at its first equals sign
pub record Says (word : List ℕ) (said : Rename) : Type 0 where
  pub place : List ℕ
  pub new : List ℕ
  pub text : word ≡ place ++ 61 ∷ new
  pub first : Lacks 61 place
  pub names : IsSaidAt place new said

-- the name of the struct is there, and empty
abbrev pub IsEmptyOf : Option (Bor (List ℕ)) → Type 0
IsEmptyOf None = ⊥
IsEmptyOf (Some name) = name.now ≡ []

-- one of its names is empty
abbrev pub HasEmptyName : Rename → Type 0
HasEmptyName said = IsEmptyOf said.of ⊎ (said.old.now ≡ []) ⊎ (said.new.now ≡ [])

-- why the word says nothing
abbrev pub IsWordFault : List ℕ → WordFault → Type 0
IsWordFault word word_fault.NoEqualsSign = Lacks 61 word
IsWordFault word word_fault.EmptyName = (said : Rename) × Says word said × HasEmptyName said

-- each of the words says one of them, in order, and none of these has an empty name
pub data AreSaid : (words : List (List ℕ)) → (renames : List Rename) → Type 0 where
  no_word : AreSaid [] []
  one_word : {word : List ℕ} {words : List (List ℕ)} {said : Rename} {others : List Rename} → Says word said
      → ¬ HasEmptyName said → AreSaid words others → AreSaid (word ∷ words) (said ∷ others)

-- those before the word of this number say some, and it says nothing, for this reason
pub record IsFirstFault (words : List (List ℕ)) (number : ℕ) (why : WordFault) : Type 0 where
  pub before : List Rename
  pub said : AreSaid (take number words) before
  pub word : List ℕ
  pub there : slice_get words number ≡ Some word
  pub fault : IsWordFault word why

-- why the words say nothing
abbrev pub IsWordsFault : List (List ℕ) → WordsFault → Type 0
IsWordsFault words (words_fault.Word number why) = IsFirstFault words number why
IsWordsFault words words_fault.Memory = ⊤
