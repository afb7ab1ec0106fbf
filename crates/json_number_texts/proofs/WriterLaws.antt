-- What was passed on when a writer sends and takes.
use Rattle.std.proofs.Common.{◌≡◌, ℕ, ◌+◌, ◌-◌, List, [], ◌∷◌, ◌++◌, Option, Some, None, refl, sym, ap, ◌∙◌, append-nil}
use Rattle.std.proofs.Common.{zero, suc, Result, Ok, Err, IsErr, MatchResult, OnOk}
use Rattle.std.proofs.Common.{append_assoc, drop, drop-drop, length, take, All, map, false, take-append-drop, subst}
use Rattle.std.proofs.lemmas.Bool.{false≢true}
use Rattle.std.proofs.lemmas.List.{take_rest}
use Rattle.std.specs.Io.KnownBytes.{Appends, Keeps, append_known}
use Rattle.std.proofs.KnownBytes.{append_known-moved}
use Rattle.serde_json.specs.Data.{Data}
use Rattle.serde_json.specs.Written.{has_float}
use Rattle.json_number_texts.specs.Texts.{as_texts, lines, place_after, with_texts}
use Rattle.json_number_texts.specs.declared.place.Place.{Place}
use Rattle.json_number_texts.specs.declared.place.Place.TheVariants as place
use Rattle.json_number_texts.proofs.PieceLaws.{pieces_of}
use Rattle.json_number_texts.proofs.TextLaws.{lines_become}

some_kept : (xs : List ℕ) (b : Option (List ℕ)) → Keeps (Some xs) b → b ≡ Some xs
some_kept xs None k = absurd k
some_kept xs (Some y) k = ap Some k

pub kept_some : (a b : Option (List ℕ)) (xs : List ℕ) → Keeps a b → a ≡ Some xs → b ≡ Some xs
kept_some a b xs k e = some_kept xs b (subst (λ o. Keeps o b) e k)

-- some of what waits is sent
pub sent_on : (a b : Option (List ℕ)) (text shown : List ℕ) (sent n : ℕ) → shown ≡ text
    → Appends a b (take n (take (length shown - sent) (drop sent shown)))
    → Keeps (append_known a (drop sent text)) (append_known b (drop (sent + n) text))
sent_on a b text shown sent n same h =
    append_known-moved a b (take n (drop sent text)) (drop (sent + n) text) (drop sent text)
    (subst (λ l. Appends a b (take n l)) (take_rest shown sent ∙ ap (drop sent) same) h)
    (sym (take-append-drop n (drop sent text)) ∙ ap (λ l. take n (drop sent text) ++ l) (drop-drop n sent text))

-- ---- what was given grows by a piece

none_waits : (known : Option (List ℕ)) → append_known known [] ≡ known
none_waits None = refl
none_waits (Some xs) = ap Some (append-nil xs)

append_both : (known : Option (List ℕ)) (a b : List ℕ) → append_known (append_known known a) b
    ≡ append_known known (a ++ b)
append_both None a b = refl
append_both (Some xs) a b = ap Some (append_assoc xs a b)

pub taken_on : (known : Option (List ℕ)) (before given piece waits text : List ℕ) (p : Place)
    → append_known known waits ≡ Some (before ++ with_texts place.Outside given) → p ≡ place_after place.Outside given
    → text ≡ waits ++ with_texts p piece
    → append_known known text ≡ Some (before ++ with_texts place.Outside (given ++ piece))
taken_on known before given piece waits text p e q is =
    ap (append_known known) is ∙ sym (append_both known waits (with_texts p piece))
    ∙ ap (λ k. append_known k (with_texts p piece)) e
    ∙ ap Some (append_assoc before (with_texts place.Outside given) (with_texts p piece)
    ∙ ap (λ l. before ++ l) (ap (λ r. with_texts place.Outside given ++ with_texts r piece) q
    ∙ sym (pieces_of place.Outside given piece).texts))

pub place_on : (given piece : List ℕ) (p q : Place) → p ≡ place_after place.Outside given → q ≡ place_after p piece
    → q ≡ place_after place.Outside (given ++ piece)
place_on given piece p q e is = is ∙ ap (λ r. place_after r piece) e ∙ sym (pieces_of place.Outside given piece).place

-- ---- where nothing waits

pub lines_out : (a b c : Option (List ℕ)) (before waits : List ℕ) (ds : List Data) → All (λ d. has_float d ≡ false) ds
    → a ≡ Some (before ++ with_texts place.Outside (lines ds)) → Keeps a (append_known b waits) → waits ≡ []
    → Keeps b c → c ≡ Some (before ++ lines (map as_texts ds))
lines_out a b c before waits ds f e k none h =
    kept_some b c _ h (sym (none_waits b) ∙ ap (append_known b) (sym none) ∙ kept_some a (append_known b waits) _ k e
    ∙ ap (λ l. Some (before ++ l)) (lines_become ds f))

-- ---- results

pub on_err : {A E Q : Type 0} (P : A → Type 0) (r : Result A E) → IsErr r → Q → MatchResult r P (λ _. Q)
on_err P (Ok x) e q = absurd (false≢true e)
on_err P (Err x) e q = q

pub on_ok : {A E P : Type 0} (r : Result A E) → P → OnOk r P
on_ok (Ok x) p = p
on_ok (Err e) p = tt

-- ---- slices

-- the front of a list has as many elements of it
pub front_again : (n : ℕ) (xs : List ℕ) → take (length (take n xs)) xs ≡ take n xs
front_again zero [] = refl
front_again (suc n) [] = refl
front_again zero (x ∷ xs) = refl
front_again (suc n) (x ∷ xs) = ap (λ l. x ∷ l) (front_again n xs)

pub drop_on : (sent : ℕ) (old new more : List ℕ) → sent ≡ 0 → new ≡ old ++ more → drop sent new ≡ drop sent old ++ more
drop_on sent old new more none e = rw none e
