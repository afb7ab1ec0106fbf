-- Where a text ends, and what stands behind it.
use Rattle.std.proofs.Common.{◌≡◌, ◌≢◌, ℕ, ◌+◌, ◌<◌, ◌≤◌, List, [], ◌∷◌, ◌++◌}
use Rattle.std.proofs.Common.{length, take, drop, get_or, Option, Some, None, refl, sym, ap, subst, ◌∙◌, arith}
use Rattle.std.proofs.Common.{append_assoc, append-nil, add-one, length-append, Result, Ok, Err}
use Rattle.std.proofs.Math.Seq.{take-length, take-suc}
use Rattle.std.proofs.lemmas.List.{length-take-le, drop-append-le, take-append-drop, take-append-le}
use Rattle.std.specs.Prelude.{IfOk, IfErr, IsErrAnd}
use Rattle.gob_stream.specs.Calls.Waiting.{waiting, Brings}
use Rattle.gob_stream.specs.declared.waiting.Waiting.{Waiting}
use Rattle.gob_write.specs.Lines.{IsLeft}
use Rattle.gob_write.specs.Texts.{EndsIn, IsSearched, LeavesOpen, NextText, WaitsText, behind_text, byte_mark}
use Rattle.gob_write.specs.Texts.{first_text, if_open, open_behind, rest_of_text}
use Rattle.gob_write.specs.declared.fault.LinesFault.{LinesFault}
use Rattle.gob_write.specs.declared.fault.LinesFault.TheVariants as fault
use Rattle.gob_write.specs.declared.texts.Mark.{Mark}
use Rattle.gob_write.specs.declared.texts.Open.{Open}
use Rattle.gob_write.specs.declared.texts.Open.TheVariants as opened
use Rattle.gob_write.specs.declared.texts.Searched.{Searched}
use Rattle.gob_write.proofs.LineLaws.{ends, left_there, no_more}

-- ---- of a text that waits

counted : {most count : ℕ} {bytes : List ℕ} {w : Waiting} {left : Option (List ℕ)}
    → WaitsText most bytes w left count → length (take count (waiting w)) ≡ count
counted {count = count} {w = w} h = length-take-le count (waiting w) h.within

counts : {most count : ℕ} {bytes : List ℕ} {w : Waiting} {left : Option (List ℕ)}
    → WaitsText most bytes w left count → length (first_text bytes) ≡ count
counts h = ap length (sym h.text) ∙ counted h

pub text_length : {most count : ℕ} {bytes text : List ℕ} {w : Waiting} {left : Option (List ℕ)}
    → WaitsText most bytes w left count → text ≡ take count (waiting w) → length text ≤ most
text_length h is = omega (arith, ap length is, counted h, h.short)

pub text_some : {most count : ℕ} {bytes : List ℕ} {w : Waiting} {left : Option (List ℕ)}
    → WaitsText most bytes w left count → count ≢ 0 → bytes ≢ []
text_some h some none = some (sym (counted h) ∙ ap length (h.text ∙ ap first_text none))

pub text_left : {most count : ℕ} {bytes : List ℕ} {w w' : Waiting} {left : Option (List ℕ)}
    → WaitsText most bytes w left count → waiting w' ≡ drop count (waiting w) → IsLeft w' left (behind_text bytes)
text_left {count = count} {bytes = bytes} {w = w} h passed = record {
  unread = h.left.unread;
  known = h.left.known;
  whole = ap (λ (n : ℕ). drop n bytes) (counts h) ∙ ap (drop count) h.left.whole
      ∙ drop-append-le count (waiting w) h.left.unread h.within ∙ ap (λ (l : List ℕ). l ++ h.left.unread) (sym passed);
}

pub text_whole : {most count : ℕ} {bytes text : List ℕ} {w : Waiting} {left : Option (List ℕ)}
    → WaitsText most bytes w left count → text ≡ take count (waiting w) → bytes ≡ text ++ behind_text bytes
text_whole {count = count} {bytes = bytes} {w = w} h is =
    let front = ap (take count) h.left.whole ∙ take-append-le count (waiting w) h.left.unread h.within ∙ sym is in
    sym (ap (λ (l : List ℕ). l ++ behind_text bytes) (sym front)
    ∙ ap (λ (n : ℕ). take count bytes ++ drop n bytes) (counts h) ∙ take-append-drop count bytes)

-- ---- byte by byte

pub one_byte : (bytes : List ℕ) (o p : Open) (x : ℕ) → LeavesOpen bytes o → Some p ≡ open_behind o (byte_mark x)
    → LeavesOpen (bytes ++ x ∷ []) p
one_byte bytes o p x h is = record {
  goes_on = λ rest. ap first_text (append_assoc bytes (x ∷ []) rest) ∙ h.goes_on (x ∷ rest)
      ∙ ap (λ (q : Option Open). bytes ++ x ∷ if_open q (λ r. rest_of_text r rest)) (sym is)
      ∙ sym (append_assoc bytes (x ∷ []) (rest_of_text p rest));
}

pub last_byte : (bytes : List ℕ) (o : Open) (x : ℕ) → LeavesOpen bytes o → None ≡ open_behind o (byte_mark x)
    → (rest : List ℕ) → first_text ((bytes ++ x ∷ []) ++ rest) ≡ bytes ++ x ∷ []
last_byte bytes o x h is rest = ap first_text (append_assoc bytes (x ∷ []) rest) ∙ h.goes_on (x ∷ rest)
    ∙ ap (λ (q : Option Open). bytes ++ x ∷ if_open q (λ r. rest_of_text r rest)) (sym is)

-- ---- the bytes that were searched

more_taken : (bytes : List ℕ) (k : ℕ) → k < length bytes
    → take (k + 1) bytes ≡ take k bytes ++ get_or bytes k 0 ∷ []
more_taken bytes k within = ap (λ (n : ℕ). take n bytes) (add-one k) ∙ take-suc bytes k 0 within

pub none_searched : (bytes : List ℕ) → IsSearched (record { count = 0; unclosed = opened.Nothing }) bytes
none_searched bytes = record { within = omega arith; leaves = record { goes_on = λ rest. refl } }

pub searched_more : {s : Searched} {bytes : List ℕ} (p : Open) (m : Mark) (r : Option Open) → IsSearched s bytes
    → s.count < length bytes → m ≡ byte_mark (get_or bytes s.count 0) → r ≡ open_behind s.unclosed m → r ≡ Some p
    → IsSearched (record { count = s.count + 1; unclosed = p }) bytes
searched_more {s = s} {bytes = bytes} p m r h within marked left is =
    let goes = sym is ∙ left ∙ ap (λ (n : Mark). open_behind s.unclosed n) marked in
    record {
      within = omega (arith, within);
      leaves = subst (λ (l : List ℕ). LeavesOpen l p) (sym (more_taken bytes s.count within))
          (one_byte (take s.count bytes) s.unclosed p (get_or bytes s.count 0) h.leaves goes);
    }

pub searched_ends : {s : Searched} {bytes : List ℕ} (o : Open) (m : Mark) (r : Option Open) → IsSearched s bytes
    → s.count < length bytes → m ≡ byte_mark (get_or bytes s.count 0) → r ≡ open_behind s.unclosed m → r ≡ None
    → EndsIn (record { count = s.count + 1; unclosed = o }) bytes
searched_ends {s = s} {bytes = bytes} o m r h within marked left is =
    let ends = sym is ∙ left ∙ ap (λ (n : Mark). open_behind s.unclosed n) marked in
    let x = get_or bytes s.count 0 in
    let cut = more_taken bytes s.count within in
    let all = ap (λ (l : List ℕ). l ++ drop (s.count + 1) bytes) (sym cut) ∙ take-append-drop (s.count + 1) bytes in
    record {
      some = omega arith;
      within = omega (arith, within);
      ends = λ rest.
          ap (λ (l : List ℕ). first_text (l ++ rest)) (sym all)
          ∙ ap first_text (append_assoc (take s.count bytes ++ x ∷ []) (drop (s.count + 1) bytes) rest)
          ∙ last_byte (take s.count bytes) s.unclosed x h.leaves ends (drop (s.count + 1) bytes ++ rest) ∙ sym cut;
    }

-- a read brings bytes behind those that were searched
pub searched_there : {s : Searched} (w w' : Waiting) {now now' : Option (List ℕ)} {count : ℕ}
    → IsSearched s (waiting w) → Brings now now' (waiting w) (waiting w') count → IsSearched s (waiting w')
searched_there {s = s} w w' h got =
    let same = ap (take s.count) got.behind ∙ take-append-le s.count (waiting w) got.more h.within in
    record {
      within = omega (arith, h.within, ap length got.behind, length-append (waiting w) got.more);
      leaves = subst (λ (l : List ℕ). LeavesOpen l s.unclosed) (sym same) h.leaves;
    }

-- all of them were searched
all_searched : {s : Searched} (bytes : List ℕ) → IsSearched s bytes → s.count ≡ length bytes
    → LeavesOpen bytes s.unclosed
all_searched {s = s} bytes h all =
    subst (λ (l : List ℕ). LeavesOpen l s.unclosed) (ap (λ (n : ℕ). take n bytes) all ∙ take-length bytes) h.leaves

-- ---- what a call answers

-- a text of so many bytes waits, where it may have as many
pub text_waits : (most line : ℕ) (s : Searched) {bytes : List ℕ} {w : Waiting} {now : Option (List ℕ)}
    (r : Result ℕ LinesFault) → IfOk r (λ n. (n ≡ s.count) × (s.count ≤ most))
    → IfErr r (λ f. (f ≡ fault.TooLong line most) × (most < s.count)) → IsLeft w now bytes
    → EndsIn s (waiting w) → NextText most line bytes w now r
text_waits most line s {bytes = bytes} {w = w} {now = now} (Ok n) ok err left ends =
    subst (λ (m : ℕ). WaitsText most bytes w now m) (sym ok.0) (record {
      left = left;
      within = ends.within;
      text = sym (ap first_text left.whole ∙ ends.ends left.unread);
      short = ok.1;
      none = λ zero. absurd (omega (arith, ends.some, zero));
    })
text_waits most line s {bytes = bytes} {w = w} {now = now} (Err f) ok err left ends =
    let long : length (first_text bytes) ≡ s.count =
    ap length (ap first_text left.whole ∙ ends.ends left.unread) ∙ length-take-le s.count (waiting w) ends.within in
    subst (λ (e : LinesFault). NextText most line bytes w now (Err e)) (sym err.0)
    (refl, refl, omega (arith, err.1, long))

-- the text goes on behind the bytes that wait, which are more than it may have
pub too_long : (most line : ℕ) (s : Searched) {bytes : List ℕ} {w : Waiting} {now : Option (List ℕ)}
    (r : Result ℕ LinesFault) (f : LinesFault) → IsErrAnd r (λ e. e ≡ f)
    → (f ≡ fault.TooLong line most) × (most < s.count) → IsSearched s (waiting w) → s.count ≡ length (waiting w)
    → IsLeft w now bytes → NextText most line bytes w now r
too_long most line s (Ok n) f is long searched all left = absurd is
too_long most line s {bytes = bytes} {w = w} {now = now} (Err e) f is long searched all left =
    let text = ap first_text left.whole ∙ (all_searched (waiting w) searched all).goes_on left.unread in
    let longer = ap length text ∙ length-append (waiting w) (rest_of_text s.unclosed left.unread) in
    subst (λ (e : LinesFault). NextText most line bytes w now (Err e)) (sym (is ∙ long.0))
    (refl, refl, omega (arith, long.1, longer, all))

-- at the end of the input all that waits is the last text
pub last_text : {most : ℕ} {s : Searched} {bytes : List ℕ} {w w' : Waiting} {now now' : Option (List ℕ)}
    → IsSearched s (waiting w) → s.count ≡ length (waiting w) → s.count ≤ most → IsLeft w now bytes
    → Brings now now' (waiting w) (waiting w') 0 → WaitsText most bytes w' now' s.count
last_text {s = s} {bytes = bytes} {w = w} {w' = w'} searched all short left got =
    let there = left_there left got in
    let same = no_more w w' got in
    let whole : bytes ≡ waiting w = there.whole
    ∙ ap (λ (l : List ℕ). waiting w' ++ l) (ends there.known (got.end refl)) ∙ append-nil (waiting w') ∙ same in
    let text : first_text bytes ≡ waiting w = ap first_text (whole ∙ sym (append-nil (waiting w)))
    ∙ (all_searched (waiting w) searched all).goes_on [] ∙ append-nil (waiting w) in
    record {
      left = there;
      within = omega (arith, ap length same, all);
      text = ap (take s.count) same ∙ ap (λ (n : ℕ). take n (waiting w)) all ∙ take-length (waiting w) ∙ sym text;
      short = short;
      none = λ zero. whole ∙ empty (waiting w) (sym all ∙ zero);
    }
  where
    empty : (l : List ℕ) → length l ≡ 0 → l ≡ []
    empty [] e = refl
    empty (x ∷ xs) e = absurd (omega (arith, e))
