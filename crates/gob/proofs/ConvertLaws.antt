-- Words that say which fields have another name.
use Rattle.std.proofs.Common.{◌≡◌, ◌<◌, ◌∙◌, ℕ, suc, List, arith, length, map, ap, refl}
use Rattle.std.specs.Borrow.{Bor}
use Rattle.std.proofs.Math.ListN.{length-map}
use Rattle.std.proofs.lemmas.Option.{slice_get_within}
use Rattle.gob_rename.specs.declared.rename.Rename.{Rename}
use Rattle.gob_rename.specs.declared.fault.WordFault.{WordFault}
use Rattle.gob_rename.specs.declared.fault.WordsFault.TheVariants as words_fault
use Rattle.gob_rename.specs.Words.{AreSaid, IsWordsFault, no_word, one_word}

-- as many are said as there are words
as_many_said : {words : List (List ℕ)} {renames : List Rename} → AreSaid words renames
    → length renames ≡ length words
as_many_said no_word = refl
as_many_said (one_word says full others) = ap (λ n. suc n) (as_many_said others)

pub as_many_renames : (words : List (Bor (List ℕ))) {renames : List Rename}
    → AreSaid (map (λ word. word.now) words) renames → length renames ≡ length words
as_many_renames words said =
    as_many_said said ∙ length-map words (λ (word : Bor (List ℕ)). word.now)

-- and the one that says nothing is among them
pub is_word : (words : List (Bor (List ℕ))) (number : ℕ) (why : WordFault)
    → IsWordsFault (map (λ word. word.now) words) (words_fault.Word number why) → number < length words
is_word words number why is = omega (
  arith,
  slice_get_within (map (λ (word : Bor (List ℕ)). word.now) words) number is.word is.there,
  length-map words (λ (word : Bor (List ℕ)). word.now),
)
