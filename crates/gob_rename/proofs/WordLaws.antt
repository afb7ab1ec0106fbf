-- Words that say which field has another name.
use Rattle.std.proofs.Common.{◌≡◌, ◌∙◌, ◌<◌, ap, sym, subst, ℕ, List, [], ◌∷◌, ◌++◌, length, get_or, map, take, Some}
use Rattle.std.proofs.Common.{None}
use Rattle.std.proofs.Common.{◌≤◌, ◌+◌, ◌==◌, drop, MatchOption, Option, append_assoc, option_map}
use Rattle.std.specs.Borrow.{Bor}
use Rattle.std.specs.Str.{NoCharPasses}
use Rattle.std.specs.Str.Pattern.{RFindsChar}
use Rattle.std.proofs.Math.ListN.{take-append-drop}
use Rattle.std.proofs.lemmas.Str.Pattern.{NoCharPasses-char, drop_at_char}
use Rattle.std.proofs.lemmas.List.{map_more, take-map, take_all}
use Rattle.std.proofs.lemmas.Option.{slice_get-get_or, slice_get-map}
use Rattle.gob_rename.specs.declared.fault.WordFault.{WordFault}
use Rattle.gob_rename.specs.declared.rename.Rename.{Rename}
use Rattle.gob_rename.specs.Words.{AreSaid, HasEmptyName, IsSaidAt, IsWordFault, IsWordsFault, Lacks, Says, no_word}
use Rattle.gob_rename.specs.Words.{one_word}
use Rattle.gob_rename.specs.declared.fault.WordsFault.TheVariants as words_fault

-- ---- before the equals sign

-- the clause of `rsplit_once` at a character: the parts around the last one
pub cut_at_last : (c : ℕ) (text : List ℕ) (r : Option (Bor (List ℕ) × Bor (List ℕ)))
    → MatchOption r (RFindsChar c text None) (λ x. (i : ℕ) × (j : ℕ) × RFindsChar c text (Some (i, j))
    × (x.0.now ≡ take i text) × (x.1.now ≡ drop j text) × (i ≤ j) × (length x.0.now ≡ i)
    × (length x.1.now + j ≡ length text))
    → c < 128 → MatchOption r (Lacks c text) (λ x. (text ≡ x.0.now ++ c ∷ x.1.now) × Lacks c x.1.now)
cut_at_last c text None h low = λ i. NoCharPasses-char c text i h low
cut_at_last c text (Some x) h low = (
  sym (take-append-drop h.0 text) ∙ ap (λ l. l ++ drop h.0 text) (sym h.3)
      ∙ ap (λ l. x.0.now ++ l) (drop_at_char c text h.0 h.1 h.2.1 low ∙ ap (λ l. c ∷ l) (sym h.4)),
  λ i. NoCharPasses-char c x.1.now i (subst (λ l. NoCharPasses (λ d. d == c) l) (sym h.4) h.2.0) low,
)

-- the names around the last dot
pub said_of : (place new of old : List ℕ) (a b n : Bor (List ℕ)) → place ≡ of ++ 46 ∷ old → Lacks 46 old
    → a.now ≡ of → b.now ≡ old → n.now ≡ new → IsSaidAt place new (record { of = Some a; old = b; new = n })
said_of place new of old a b n text lacks p q r = record {
  text = text ∙ sym (append_assoc of (46 ∷ []) old) ∙ ap (λ x. (x ++ 46 ∷ []) ++ old) (sym p)
      ∙ ap (λ y. (a.now ++ 46 ∷ []) ++ y) (sym q);
  undotted = subst (λ y. Lacks 46 y) (sym q) lacks;
  new_is = r;
}

-- or one name without a dot
pub said_of_all : (place new : List ℕ) (b n : Bor (List ℕ)) → Lacks 46 place → b.now ≡ place
    → n.now ≡ new → IsSaidAt place new (record { of = None; old = b; new = n })
said_of_all place new b n lacks q r =
    record { text = sym q; undotted = subst (λ y. Lacks 46 y) (sym q) lacks; new_is = r }

-- and the new one behind it
pub says_at : {word place new : List ℕ} {said : Rename} → word ≡ place ++ 61 ∷ new → Lacks 61 place
    → IsSaidAt place new said → Says word said
says_at {place = place} {new = new} text first names =
    record { place = place; new = new; text = text; first = first; names = names }

-- ---- one word after another

abbrev pub texts : List (Bor (List ℕ)) → List (List ℕ)
texts words = map (λ (word : Bor (List ℕ)). word.now) words

said_behind : {words : List (List ℕ)} {renames : List Rename} {word : List ℕ} {said : Rename} → AreSaid words renames
    → Says word said → ¬ HasEmptyName said → AreSaid (words ++ word ∷ []) (renames ++ said ∷ [])
said_behind no_word says full = one_word says full no_word
said_behind (one_word s f others) says full = one_word s f (said_behind others says full)

pub one_more : (words : List (Bor (List ℕ))) (number : ℕ) (d : Bor (List ℕ)) (renames more : List Rename)
    (said : Rename) → number < length words → Says (get_or words number d).now said → ¬ HasEmptyName said
    → more ≡ renames ++ said ∷ [] → AreSaid (texts (take number words)) renames
    → AreSaid (texts (take (number + 1) words)) more
one_more words number d renames more said within says full e are =
    subst (λ w. AreSaid w more) (sym (map_more (λ (word : Bor (List ℕ)). word.now) words number d within))
    (subst (λ r. AreSaid (texts (take number words) ++ (get_or words number d).now ∷ []) r) (sym e)
    (said_behind are says full))

pub says_nothing : (words : List (Bor (List ℕ))) (number : ℕ) (d : Bor (List ℕ)) (why : WordFault)
    (before : List Rename) → number < length words → IsWordFault (get_or words number d).now why
    → AreSaid (texts (take number words)) before → IsWordsFault (texts words) (words_fault.Word number why)
says_nothing words number d why before within is are = record {
  before = before;
  said = subst (λ w. AreSaid w before) (sym (take-map (λ (word : Bor (List ℕ)). word.now) number words)) are;
  word = (get_or words number d).now;
  there = slice_get-map (λ (word : Bor (List ℕ)). word.now) words number
      ∙ ap (λ (o : Option (Bor (List ℕ))). option_map (λ word. word.now) o) (slice_get-get_or words number d within);
  fault = is;
}

pub none_said : (words : List (Bor (List ℕ))) {renames : List Rename} → renames ≡ []
    → AreSaid (texts (take 0 words)) renames
none_said words e = subst (λ r. AreSaid [] r) (sym e) no_word

pub all_said : (words : List (Bor (List ℕ))) (number : ℕ) (renames : List Rename) → length words ≤ number
    → AreSaid (texts (take number words)) renames → AreSaid (texts words) renames
all_said words number renames all are = subst (λ w. AreSaid (texts w) renames) (take_all number words all) are
