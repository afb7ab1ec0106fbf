-- The words in bytes, each of which ends before a byte 0.
use Rattle.std.proofs.Common.{◌≡◌, ◌∙◌, ◌<◌, ℕ, List, [], ◌∷◌, ◌++◌, length, map, ap, sym, subst, arith, append_assoc}
use Rattle.std.proofs.Common.{append-nil}
use Rattle.std.specs.Borrow.{Bor}
use Rattle.std.proofs.lemmas.List.{map-append}
use Rattle.std.proofs.Math.ListN.{length-append, length-map}
use Rattle.std.proofs.lemmas.Option.{slice_get_within}
use Rattle.gob_rename.specs.declared.fault.WordFault.{WordFault}
use Rattle.gob_rename.specs.Words.{AreSaid, IsFirstFault, Lacks}
use Rattle.gob_rename.specs.declared.rename.Rename.{Rename}
use Rattle.gob_c.specs.Renames.{AreWordsIn, AsksRenames, no_word, word_then}

abbrev pub texts : List (Bor (List ℕ)) → List (List ℕ)
texts words = map (λ (word : Bor (List ℕ)). word.now) words

-- these are the first words in the bytes, and those in the rest are the others
abbrev pub Begins : (bytes rest : List ℕ) → (words : List (Bor (List ℕ))) → Type 0
Begins bytes rest words =
    (later : List (List ℕ)) → AreWordsIn rest later → AreWordsIn bytes (texts words ++ later)

pub begins_with_none : (bytes rest : List ℕ) (words : List (Bor (List ℕ))) → words ≡ [] → rest ≡ bytes
    → Begins bytes rest words
begins_with_none bytes rest words none same later are =
    subst (λ ws. AreWordsIn bytes (texts ws ++ later)) (sym none) (subst (λ r. AreWordsIn r later) same are)

one_longer : (words more : List (Bor (List ℕ))) (word : Bor (List ℕ)) (later : List (List ℕ))
    → more ≡ words ++ word ∷ [] → texts words ++ word.now ∷ later ≡ texts more ++ later
one_longer words more word later longer =
    sym (append_assoc (texts words) (word.now ∷ []) later)
    ∙ ap (λ ws. ws ++ later) (sym (map-append (λ (w : Bor (List ℕ)). w.now) words (word ∷ [])))
    ∙ ap (λ ws. texts ws ++ later) (sym longer)

pub one_more : (bytes rest : List ℕ) (words more : List (Bor (List ℕ))) (word behind : Bor (List ℕ))
    → rest ≡ word.now ++ 0 ∷ behind.now → Lacks 0 word.now → more ≡ words ++ word ∷ [] → Begins bytes rest words
    → Begins bytes behind.now more
one_more bytes rest words more word behind text lacks longer begins later are =
    subst (λ ws. AreWordsIn bytes ws) (one_longer words more word later longer)
    (begins (word.now ∷ later) (subst (λ r. AreWordsIn r (word.now ∷ later)) (sym text) (word_then lacks are)))

pub shorter : (rest word behind : List ℕ) → rest ≡ word ++ 0 ∷ behind → length behind < length rest
shorter rest word behind text = omega (arith, ap length text, length-append word (0 ∷ behind))

pub all_words : (bytes rest : List ℕ) (words : List (Bor (List ℕ))) → Lacks 0 rest → Begins bytes rest words
    → AreWordsIn bytes (texts words)
all_words bytes rest words lacks begins =
    subst (λ ws. AreWordsIn bytes ws) (append-nil (texts words)) (begins [] (no_word lacks))

-- the word that says nothing is among the words
pub is_word : (words : List (Bor (List ℕ))) (number : ℕ) (why : WordFault) → IsFirstFault (texts words) number why
    → number < length words
is_word words number why is = omega (
  arith,
  slice_get_within (texts words) number is.word is.there,
  length-map words (λ (word : Bor (List ℕ)). word.now),
)

-- ---- what they say

pub asks : (bytes text : List ℕ) (words given : List (Bor (List ℕ))) (rs : List Rename) → text ≡ bytes → given ≡ words
    → AreWordsIn text (texts words) → AreSaid (texts given) rs → AsksRenames bytes rs
asks bytes text words given rs same is in_text said = record {
  words = texts words;
  in_bytes = subst (λ b. AreWordsIn b (texts words)) same in_text;
  said = subst (λ ws. AreSaid (texts ws) rs) is said;
}

pub says_none : (bytes text : List ℕ) (words given : List (Bor (List ℕ))) (number : ℕ) (why : WordFault)
    → text ≡ bytes → given ≡ words → AreWordsIn text (texts words) → IsFirstFault (texts given) number why
    → (all : List (List ℕ)) × (first : ℕ) × AreWordsIn bytes all × IsFirstFault all first why
says_none bytes text words given number why same is in_text first = (
  texts words,
  number,
  subst (λ b. AreWordsIn b (texts words)) same in_text,
  subst (λ ws. IsFirstFault (texts ws) number why) is first,
)
