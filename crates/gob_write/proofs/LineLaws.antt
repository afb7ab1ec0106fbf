-- Where a line ends, and what stands behind it.
use Rattle.std.proofs.Common.{◌≡◌, ◌≢◌, ℕ, ◌+◌, ◌<◌, ◌≤◌, Bool, true, false, cond, eqb, List, [], ◌∷◌, ◌++◌}
use Rattle.std.proofs.Common.{length, take, drop, Option, Some, None, refl, sym, ap, subst, ◌∙◌, arith, length-append}
use Rattle.std.proofs.Common.{append_assoc, add-one, zero, suc, true≢false}
use Rattle.std.proofs.lemmas.List.{length-take-le, drop-append-le}
use Rattle.std.specs.Io.BufRead.{take_through, drop_through}
use Rattle.memchr.specs.Find.{Passes, is_byte, Nowhere, NoneBefore}
use Rattle.gob_stream.specs.Calls.Waiting.{waiting}
use Rattle.gob_stream.specs.declared.waiting.Waiting.{Waiting}
use Rattle.gob_stream.specs.Calls.Waiting.{Brings}
use Rattle.gob_write.specs.Lines.{first_line, behind_line, IsLeft, NextLine, Waits}
use Rattle.gob_write.specs.declared.fault.LinesFault.{LinesFault}
use Rattle.gob_write.specs.declared.fault.LinesFault.TheVariants as fault
use Rattle.std.specs.Prelude.{IfOk, IfErr, IsErrAnd}
use Rattle.std.specs.Io.KnownBytes.{Consumes, IsAtEnd}
use Rattle.std.proofs.Math.Seq.{take-add, take-length}
use Rattle.std.proofs.lemmas.List.{take-append-drop, length-drop, take-append-le}
use Rattle.std.proofs.Common.{◌-◌, Result, Ok, Err, append-nil}

behind_at : (b : Bool) (x : ℕ) (xs : List ℕ) → drop_through 10 xs ≡ drop (length (take_through 10 xs)) xs
    → cond b xs (drop_through 10 xs) ≡ drop (length (cond b (x ∷ []) (x ∷ take_through 10 xs))) (x ∷ xs)
behind_at true x xs e = refl
behind_at false x xs e = e

-- what stands behind a line is what is left without its bytes
behind : (bytes : List ℕ) → behind_line bytes ≡ drop (length (first_line bytes)) bytes
behind [] = refl
behind (x ∷ xs) = behind_at (eqb x 10) x xs (behind xs)

counted : {most count : ℕ} {bytes : List ℕ} {w : Waiting} {left : Option (List ℕ)}
    → Waits most bytes w left count → length (take count (waiting w)) ≡ count
counted {count = count} {w = w} h = length-take-le count (waiting w) h.within

pub line_length : {most count : ℕ} {bytes line : List ℕ} {w : Waiting} {left : Option (List ℕ)}
    → Waits most bytes w left count → line ≡ take count (waiting w) → length line ≤ most
line_length h is = omega (arith, ap length is, counted h)

pub some_left : {most count : ℕ} {bytes : List ℕ} {w : Waiting} {left : Option (List ℕ)}
    → Waits most bytes w left count → count ≢ 0 → bytes ≢ []
some_left h some none = some (sym (counted h) ∙ ap length (h.line ∙ ap first_line none))

pub left_behind : {most count : ℕ} {bytes : List ℕ} {w w' : Waiting} {left : Option (List ℕ)}
    → Waits most bytes w left count → waiting w' ≡ drop count (waiting w) → IsLeft w' left (behind_line bytes)
left_behind {count = count} {bytes = bytes} {w = w} h passed = record {
  unread = h.left.unread;
  known = h.left.known;
  whole = behind bytes ∙ ap (λ (l : List ℕ). drop (length l) bytes) (sym h.line)
      ∙ ap (λ (n : ℕ). drop n bytes) (counted h) ∙ ap (drop count) h.left.whole
      ∙ drop-append-le count (waiting w) h.left.unread h.within ∙ ap (λ (l : List ℕ). l ++ h.left.unread) (sym passed);
}

-- ---- bytes without a line feed, and the first one

-- the bytes have none: a line that begins with them goes on behind them
pub record HasNoFeed (bytes : List ℕ) : Type 0 where
  pub goes_on : (rest : List ℕ) → first_line (bytes ++ rest) ≡ bytes ++ first_line rest

pub no_feed : HasNoFeed []
no_feed = record { goes_on = λ rest. refl }

pub more_without : (a b : List ℕ) → HasNoFeed a → HasNoFeed b → HasNoFeed (a ++ b)
more_without a b p q = record {
  goes_on = λ rest. ap first_line (append_assoc a b rest) ∙ p.goes_on (b ++ rest)
      ∙ ap (λ (l : List ℕ). a ++ l) (q.goes_on rest) ∙ sym (append_assoc a b (first_line rest));
}

missed : (b : Bool) (x : ℕ) (xs : List ℕ) → (b ≡ true → ⊥) → cond b (x ∷ []) xs ≡ xs
missed true x xs none = absurd (none refl)
missed false x xs none = refl

-- a place of the list, and the same place behind one more element
later_place : (x : ℕ) (xs : List ℕ) (k : ℕ) → Passes (is_byte 10) xs k → Passes (is_byte 10) (x ∷ xs) (k + 1)
later_place x xs k hit = rw add-one hit

-- a search that finds none
pub none_found : (bytes : List ℕ) → Nowhere (Passes (is_byte 10) bytes) 0 (length bytes) → HasNoFeed bytes
none_found [] none = no_feed
none_found (x ∷ xs) none =
    let later : HasNoFeed xs = none_found xs (λ k low high hit. none (k + 1) (omega arith) (omega arith)
    (later_place x xs k hit)) in
    record {
      goes_on = λ rest. missed (eqb x 10) x _ (λ hit. none 0 (omega arith) (omega arith) hit)
          ∙ ap (λ (l : List ℕ). x ∷ l) (later.goes_on rest);
    }

hit_at : (b : Bool) (x : ℕ) (xs : List ℕ) → b ≡ true → cond b (x ∷ []) xs ≡ x ∷ []
hit_at true x xs h = refl
hit_at false x xs h = absurd (true≢false (sym h))

-- and one that finds one
pub found : (bytes rest : List ℕ) (k : ℕ) → NoneBefore (Passes (is_byte 10) bytes) 0 (length bytes) k
    → Passes (is_byte 10) bytes k → first_line (bytes ++ rest) ≡ take (k + 1) bytes
found [] rest k before hit = absurd (omega (arith, before.high))
found (x ∷ xs) rest zero before hit = hit_at (eqb x 10) x _ hit
found (x ∷ xs) rest (suc k) before hit =
    let sooner : NoneBefore (Passes (is_byte 10) xs) 0 (length xs) k = record {
      low = omega arith;
      high = omega (arith, before.high);
      before = λ j low high here. before.before (j + 1) (omega arith) (omega arith) (later_place x xs j here);
    } in
    let next : suc (k + 1) ≡ suc k + 1 = omega arith in
    missed (eqb x 10) x _ (λ here. before.before 0 (omega arith) (omega arith) here)
    ∙ ap (λ (l : List ℕ). x ∷ l) (found xs rest k sooner hit) ∙ ap (λ (n : ℕ). take n (x ∷ xs)) next

-- ---- the bytes that wait

-- all that wait behind those that were searched
pub all_behind : (s : ℕ) (w : List ℕ) → take (length w - s) (drop s w) ≡ drop s w
all_behind s w = ap (λ (n : ℕ). take n (drop s w)) (sym (length-drop s w)) ∙ take-length (drop s w)

-- none of them has a line feed
pub none_waits : (s : ℕ) (w : List ℕ) {hay : List ℕ} → HasNoFeed (take s w) → hay ≡ drop s w
    → Nowhere (Passes (is_byte 10) hay) 0 (length hay) → HasNoFeed w
none_waits s w front is none =
    subst HasNoFeed (take-append-drop s w)
    (more_without (take s w) (drop s w) front (none_found (drop s w)
    (subst (λ (l : List ℕ). Nowhere (Passes (is_byte 10) l) 0 (length l)) is none)))

-- or the first one stands there
pub one_waits : (s k : ℕ) (w hay rest : List ℕ) → HasNoFeed (take s w) → hay ≡ drop s w
    → NoneBefore (Passes (is_byte 10) hay) 0 (length hay) k → Passes (is_byte 10) hay k
    → take (s + k + 1) w ≡ first_line (w ++ rest)
one_waits s k w hay rest front is before hit =
    let here = found hay rest k before hit in
    let more : s + k + 1 ≡ s + (k + 1) = omega arith in
    ap (λ (n : ℕ). take n w) more ∙ take-add s (k + 1) w
    ∙ sym (ap (λ (l : List ℕ). first_line (l ++ rest)) (sym (take-append-drop s w))
    ∙ ap first_line (append_assoc (take s w) (drop s w) rest) ∙ front.goes_on (drop s w ++ rest)
    ∙ ap (λ (l : List ℕ). take s w ++ l) (ap (λ (l : List ℕ). first_line (l ++ rest)) (sym is)
    ∙ here ∙ ap (take (k + 1)) is))

-- ---- what a call answers

-- a line of so many bytes waits, where it may have as many
pub line_waits : (most number count : ℕ) {bytes : List ℕ} {w : Waiting} {now : Option (List ℕ)}
    (r : Result ℕ LinesFault) → IfOk r (λ n. (n ≡ count) × (count ≤ most))
    → IfErr r (λ f. (f ≡ fault.TooLong number most) × (most < count)) → IsLeft w now bytes → count ≤ length (waiting w)
    → 0 < count → take count (waiting w) ≡ first_line bytes → NextLine most number bytes w now r
line_waits most number count {bytes = bytes} {w = w} {now = now} (Ok n) ok err left within some line =
    subst (λ (m : ℕ). Waits most bytes w now m) (sym ok.0) (record {
      left = left;
      within = within;
      line = line;
      short = ok.1;
      none = λ zero. absurd (omega (arith, some, zero));
    })
line_waits most number count {bytes = bytes} {w = w} {now = now} (Err f) ok err left
    within some line =
    let counts : length (first_line bytes) ≡ count =
    ap length (sym line) ∙ length-take-le count (waiting w) within in
    subst (λ (e : LinesFault). NextLine most number bytes w now (Err e)) (sym err.0)
    (refl, refl, omega (arith, err.1, counts))

-- the bytes that wait have no line feed, and are more than a line may have
pub too_long : (most number : ℕ) {bytes : List ℕ} {w : Waiting} {now : Option (List ℕ)} (r : Result ℕ LinesFault)
    (f : LinesFault) → IsErrAnd r (λ e. e ≡ f) → (f ≡ fault.TooLong number most) × (most < length (waiting w))
    → HasNoFeed (waiting w) → IsLeft w now bytes → NextLine most number bytes w now r
too_long most number (Ok n) f is long none left = absurd is
too_long most number {bytes = bytes} {w = w} {now = now} (Err e) f is long none left =
    let line : first_line bytes ≡ waiting w ++ first_line left.unread =
    ap first_line left.whole ∙ none.goes_on left.unread in
    let longer = ap length line ∙ length-append (waiting w) (first_line left.unread) in
    subst (λ (e : LinesFault). NextLine most number bytes w now (Err e)) (sym (is ∙ long.0))
    (refl, refl, omega (arith, long.1, longer))

brought : {w w' : Waiting} {now now' : Option (List ℕ)} {bytes : List ℕ} {count : ℕ} (left : IsLeft w now bytes)
    → (got : Brings now now' (waiting w) (waiting w') count) → (o : Option (List ℕ)) → now' ≡ o
    → Consumes (Some left.unread) o got.more → IsLeft w' now' bytes
brought {w = w} {w' = w'} left got None e read = absurd read
brought {w = w} {w' = w'} left got (Some rest) e read = record {
  unread = rest;
  known = e;
  whole = left.whole ∙ ap (λ (l : List ℕ). waiting w ++ l) read
      ∙ sym (append_assoc (waiting w) got.more rest) ∙ ap (λ (l : List ℕ). l ++ rest) (sym got.behind);
}

-- the bytes are those that wait behind a read too
pub left_there : {w w' : Waiting} {now now' : Option (List ℕ)} {bytes : List ℕ} {count : ℕ} → IsLeft w now bytes
    → Brings now now' (waiting w) (waiting w') count → IsLeft w' now' bytes
left_there {now' = now'} left got = brought left got now' refl
    (subst (λ (o : Option (List ℕ)). Consumes o now' got.more) left.known got.read)

pub no_more : (w w' : Waiting) {now now' : Option (List ℕ)} → Brings now now' (waiting w) (waiting w') 0
    → waiting w' ≡ waiting w
no_more w w' got = got.behind ∙ ap (λ (l : List ℕ). waiting w ++ l) (nothing got.more (sym got.counted))
    ∙ append-nil (waiting w)
  where
    nothing : (l : List ℕ) → length l ≡ 0 → l ≡ []
    nothing [] e = refl
    nothing (x ∷ xs) e = absurd (omega (arith, e))

pub ends : {o : Option (List ℕ)} {unread : List ℕ} → o ≡ Some unread → IsAtEnd o → unread ≡ []
ends {unread = unread} e end = subst IsAtEnd e end

-- at the end of the input all that waits is the last line
pub last_line : {most : ℕ} {bytes : List ℕ} {w w' : Waiting} {now now' : Option (List ℕ)}
    → HasNoFeed (waiting w) → length (waiting w) ≤ most → IsLeft w now bytes
    → Brings now now' (waiting w) (waiting w') 0 → Waits most bytes w' now' (length (waiting w))
last_line {most = most} {bytes = bytes} {w = w} {w' = w'} none short left got =
    let there = left_there left got in
    let same = no_more w w' got in
    let all : bytes ≡ waiting w = there.whole
    ∙ ap (λ (l : List ℕ). waiting w' ++ l) (ends there.known (got.end refl)) ∙ append-nil (waiting w') ∙ same in
    let line : first_line bytes ≡ waiting w = ap first_line (all ∙ sym (append-nil (waiting w)))
    ∙ none.goes_on [] ∙ append-nil (waiting w) in
    record {
      left = there;
      within = omega (arith, ap length same);
      line = ap (take (length (waiting w))) same ∙ take-length (waiting w) ∙ sym line;
      short = short;
      none = λ zero. all ∙ empty (waiting w) zero;
    }
  where
    empty : (l : List ℕ) → length l ≡ 0 → l ≡ []
    empty [] e = refl
    empty (x ∷ xs) e = absurd (omega (arith, e))

-- what was searched stands in front of what a read brings
pub searched_there : (w w' : Waiting) {now now' : Option (List ℕ)} {count : ℕ} → HasNoFeed (waiting w)
    → Brings now now' (waiting w) (waiting w') count → HasNoFeed (take (length (waiting w)) (waiting w'))
searched_there w w' none got = subst HasNoFeed (sym (ap (take (length (waiting w))) got.behind
    ∙ take-append-le (length (waiting w)) (waiting w) got.more (omega arith) ∙ take-length (waiting w))) none

pub longer_there : (w w' : Waiting) {now now' : Option (List ℕ)} {count : ℕ}
    → Brings now now' (waiting w) (waiting w') count → length (waiting w) ≤ length (waiting w')
longer_there w w' got = omega (arith, ap length got.behind, length-append (waiting w) got.more)

-- a count that is at most this
pub if_ok_le : (count most n : ℕ) (r : Result ℕ LinesFault) → IfOk r (λ m. (m ≡ count) × (count ≤ most)) → count ≤ n
    → IfOk r (λ m. m ≤ n)
if_ok_le count most n (Ok m) h le = omega (arith, h.0, le)
if_ok_le count most n (Err f) h le = tt
