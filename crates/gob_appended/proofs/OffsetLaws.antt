-- A reader that goes on still tells where the bytes stood that it has given.
use Rattle.std.proofs.Common.{◌≡◌, ℕ, ◌+◌, ◌-◌, ◌^◌, ◌<◌, ◌≤◌, ◌⊎◌, inl, inr, List, [], ◌++◌, length, take, drop, min}
use Rattle.std.proofs.Common.{arith, refl, sym, ap, ◌∙◌, subst, Option, Some, length-append, drop-drop, map, get_or}
use Rattle.std.proofs.Common.{zero, suc, ◌∷◌, nat_le, if◌then◌else◌, true, false, [], Bool, None}
use Rattle.std.specs.Prelude.{option_map}
use Rattle.std.proofs.lemmas.Bool.{cases_lt, lt-leb, true≢false}
use Rattle.std.proofs.lemmas.List.{drop-append-le, get_or-drop, get_or-map, get_or_append_left, length-drop}
use Rattle.std.proofs.lemmas.List.{length-take-le}
use Rattle.std.proofs.Math.Seq.{drop-append_seam}
use Rattle.gob_appended.specs.Cuts.{Leaves, are_before, left_out_at}
use Rattle.gob_appended.specs.Known.{known}
use Rattle.gob_appended.specs.Left.{part_of}
use Rattle.gob_appended.specs.Offsets.{GivesMore, GivesNone, TellsOffsets, given_of, offset_of}
use Rattle.gob_appended.specs.Once.{Byte, byte_at, bytes_from, once_from}
use Rattle.gob_appended.specs.Reader.{ahead, place_among}
use Rattle.gob_appended.specs.Waiting.{waiting}
use Rattle.gob_appended.specs.declared.appended.Appended.{Appended}
use Rattle.gob_appended.specs.declared.places.Places.{Places}
use Rattle.gob_appended.proofs.CutLaws.{all_before}

-- ---- what is noted

same_place : (p q : Places) (k : ℕ) → q.left_out ≡ p.left_out → q.cuts.items ≡ p.cuts.items
    → place_among q k ≡ place_among p k
same_place p q k l c =
    ap (λ a. min (k + left_out_at a q.cuts.items k) (2 ^ 64 - 1)) l
    ∙ ap (λ cs. min (k + left_out_at p.left_out cs k) (2 ^ 64 - 1)) c

-- what is left out behind an offset changes nothing for that, nor behind 2^64 - 1 bytes
left_behind : (given g k old new a off : ℕ) → g ≡ min given (2 ^ 64 - 1) → k < given
    → new ≡ (if nat_le g k then a else old) → min (k + old) (2 ^ 64 - 1) ≡ min off (2 ^ 64 - 1)
    → min (k + new) (2 ^ 64 - 1) ≡ min off (2 ^ 64 - 1)
left_behind given g k old new a off is l e h =
    elim (cases_lt k g) [
      | inl m ↦ let same : new ≡ old = rw (lt-leb g k m) at e in ap (λ n. min (k + n) (2 ^ 64 - 1)) same ∙ h
      | inr m ↦ omega arith
    ]

tells_left : {input : List ℕ} {given left_out : ℕ} {p q : Places} (n : ℕ) → q.given ≡ p.given
    → q.left_out ≡ min (p.left_out + n) (2 ^ 64 - 1)
    → Leaves p.given p.left_out q.left_out p.cuts.items q.cuts.items
    → TellsOffsets input given left_out p → TellsOffsets input given (left_out + n) q
tells_left {input = input} {given = given} {p = p} n same more leaves t = record {
  given_is = same ∙ t.given_is;
  left_out_is = let now = t.left_out_is in omega arith;
  each = λ k l. left_behind given p.given k _ _ _ (offset_of input k) t.given_is l (leaves k) (t.each k l);
}

-- what is given behind what was left out has its offset behind that
all_counts : (k left_out noted : ℕ) → noted ≡ min left_out (2 ^ 64 - 1)
    → min (k + noted) (2 ^ 64 - 1) ≡ min (k + left_out) (2 ^ 64 - 1)
all_counts k left_out noted e = omega arith

tells_given : {input : List ℕ} {given left_out : ℕ} {p q : Places} (n : ℕ)
    → q.given ≡ min (p.given + n) (2 ^ 64 - 1) → q.left_out ≡ p.left_out → q.cuts.items ≡ p.cuts.items
    → are_before p.given p.cuts.items ≡ true
    → ((k : ℕ) → given ≤ k → k < given + n → offset_of input k ≡ k + left_out)
    → TellsOffsets input given left_out p → TellsOffsets input (given + n) left_out q
tells_given {input = input} {given = given} {left_out = left_out} {p = p} {q = q} n more same cuts ordered stand t =
    record {
      given_is = let now = t.given_is in omega arith;
      left_out_is = same ∙ t.left_out_is;
      each = λ k l. same_place p q k same cuts ∙ each k l (cases_lt k given);
    }
  where
    each : (k : ℕ) → k < given + n → (k < given) ⊎ (given ≤ k)
        → place_among p k ≡ min (offset_of input k) (2 ^ 64 - 1)
    each k l (inl m) = t.each k m
    each k l (inr m) =
        let now = t.given_is in
        ap (λ a. min (k + a) (2 ^ 64 - 1)) (all_before p.given k p.left_out p.cuts.items ordered (omega arith))
        ∙ all_counts k left_out p.left_out t.left_out_is
        ∙ ap (λ a. min a (2 ^ 64 - 1)) (sym (stand k m l))

-- ---- the bytes that are given

length_from : (i : ℕ) (xs : List ℕ) → length (bytes_from i xs) ≡ length xs
length_from i [] = refl
length_from i (x ∷ xs) = ap suc (length_from (suc i) xs)

offset_from : (i : ℕ) (xs : List ℕ) (k : ℕ) (d : Byte) → k < length xs → (get_or (bytes_from i xs) k d).offset ≡ i + k
offset_from i [] k d l = absurd (omega arith)
offset_from i (x ∷ xs) zero d l = omega arith
offset_from i (x ∷ xs) (suc k) d l = offset_from (suc i) xs k d (omega arith) ∙ omega arith

-- the bytes from a place on begin with these
stand_from : (bs rest : List Byte) (given i : ℕ) (xs : List ℕ) (k : ℕ) → drop given bs ≡ bytes_from i xs ++ rest
    → given ≤ k → k < given + length xs → get_or (map (λ (b : Byte). b.offset) bs) k 0 ≡ i + (k - given)
stand_from bs rest given i xs k e m l =
    let d = byte_at 0 0 in
    let at : given + (k - given) ≡ k = omega arith in
    let size : length (bytes_from i xs) ≡ length xs = length_from i xs in
    let few : k - given < length xs = omega arith in
    let all : length bs - given ≡ length (bytes_from i xs) + length rest =
    sym (length-drop given bs) ∙ ap length e ∙ length-append (bytes_from i xs) rest in
    get_or-map (λ (b : Byte). b.offset) bs k d 0 (omega arith)
    ∙ ap (λ j. (get_or bs j d).offset) (sym at)
    ∙ ap (λ (b : Byte). b.offset) (sym (get_or-drop given bs (k - given) d))
    ∙ ap (λ (cs : List Byte). (get_or cs (k - given) d).offset) e
    ∙ ap (λ (b : Byte). b.offset) (get_or_append_left (bytes_from i xs) rest d (k - given) (omega arith))
    ∙ offset_from i xs (k - given) d few

enough : (bs rest : List Byte) (given i : ℕ) (xs : List ℕ) (n : ℕ) → length xs ≡ n → given ≤ length bs
    → drop given bs ≡ bytes_from i xs ++ rest → given + n ≤ length bs
enough bs rest given i xs n size few e =
    let all : length bs - given ≡ length (bytes_from i xs) + length rest =
    sym (length-drop given bs) ∙ ap length e ∙ length-append (bytes_from i xs) rest in
    omega (arith, length_from i xs)

behind_these : (bs rest : List Byte) (given i : ℕ) (xs : List ℕ) (n : ℕ) → length xs ≡ n
    → drop given bs ≡ bytes_from i xs ++ rest → rest ≡ drop (given + n) bs
behind_these bs rest given i xs n size e =
    sym (drop-append_seam (bytes_from i xs) rest)
    ∙ ap (λ k. drop k (bytes_from i xs ++ rest)) (length_from i xs ∙ size)
    ∙ ap (drop n) (sym e) ∙ drop-drop n given bs

-- ---- the bytes that wait

passed : (w ys input : List ℕ) (n i : ℕ) → n ≤ length w → w ++ ys ≡ drop i input → drop n w ++ ys ≡ drop (i + n) input
passed w ys input n i few e = sym (drop-append-le n w ys few) ∙ ap (drop n) e ∙ drop-drop n i input

in_bounds : (w ys input : List ℕ) (n i : ℕ) {k : ℕ} → n ≤ length w → i ≤ length input → w ++ ys ≡ drop i input
    → i + n ≡ k → k ≤ length input
in_bounds w ys input n i few l e is =
    let all : length w + length ys ≡ length input - i =
    sym (length-append w ys) ∙ ap length e ∙ length-drop i input in
    omega arith

-- ---- the reader

-- it is judged what becomes of the bytes that wait
pub judged : {R : Type 0} {remaining : R → Option (List ℕ)} {s t : Appended R} → t.places ≡ s.places
    → ahead remaining t ≡ ahead remaining s → waiting t.waiting ≡ waiting s.waiting
    → ((i : ℕ) (u : List ℕ) → ahead remaining s ≡ Some u
    → once_from i (known s.known) (part_of s.left) (waiting s.waiting ++ u)
    ≡ once_from i (known t.known) (part_of t.left) (waiting s.waiting ++ u))
    → GivesNone remaining s t
judged {s = s} {t = t} same ahead_is waits on input given h = record {
  left_out = h.left_out;
  unread = h.unread;
  reads = ahead_is ∙ h.reads;
  in_input = h.in_input;
  behind = ap (λ w. w ++ h.unread) waits ∙ h.behind;
  few = h.few;
  others = ap (λ w. once_from (given + h.left_out) (known t.known) (part_of t.left) (w ++ h.unread)) waits
      ∙ sym (on (given + h.left_out) h.unread h.reads) ∙ h.others;
  offsets = subst (TellsOffsets input given h.left_out) (sym same) h.offsets;
}

-- nothing is left to be read of a reader that has ended
pub none_left : (known : Option (List ℕ)) (ended : Bool) (u : List ℕ) → ended ≡ true
    → (if ended then option_map (λ _. []) known else known) ≡ Some u → u ≡ []
none_left known false u end e = absurd (true≢false (sym end))
none_left None true u end e = cc
none_left (Some ys) true u end e = cc

-- a definition is left out
pub leaves_out : {R : Type 0} {remaining : R → Option (List ℕ)} {s t : Appended R} (n : ℕ)
    → n ≤ length (waiting s.waiting) → t.places.given ≡ s.places.given
    → t.places.left_out ≡ min (s.places.left_out + n) (2 ^ 64 - 1)
    → Leaves s.places.given s.places.left_out t.places.left_out s.places.cuts.items t.places.cuts.items
    → ahead remaining t ≡ ahead remaining s → waiting t.waiting ≡ drop n (waiting s.waiting)
    → ((i : ℕ) (ys : List ℕ) → once_from i (known s.known) (part_of s.left) (waiting s.waiting ++ ys)
    ≡ once_from (i + n) (known t.known) (part_of t.left) (waiting t.waiting ++ ys))
    → GivesNone remaining s t
leaves_out {s = s} {t = t} n few same more leaves ahead_is waits on input given h =
    let i = given + h.left_out in
    let there : i + n ≡ given + (h.left_out + n) = omega arith in
    record {
      left_out = h.left_out + n;
      unread = h.unread;
      reads = ahead_is ∙ h.reads;
      in_input = in_bounds (waiting s.waiting) h.unread input n i few h.in_input h.behind there;
      behind = ap (λ w. w ++ h.unread) waits ∙ passed (waiting s.waiting) h.unread input n i few h.behind
          ∙ ap (λ k. drop k input) there;
      few = h.few;
      others = ap (λ k. once_from k (known t.known) (part_of t.left) (waiting t.waiting ++ h.unread)) (sym there)
          ∙ sym (on i h.unread) ∙ h.others;
      offsets = tells_left n same more leaves h.offsets;
    }

-- some bytes are given
pub gives : {R : Type 0} {remaining : R → Option (List ℕ)} {s t : Appended R} (n : ℕ)
    → n ≤ length (waiting s.waiting) → t.places.given ≡ min (s.places.given + n) (2 ^ 64 - 1)
    → t.places.left_out ≡ s.places.left_out → t.places.cuts.items ≡ s.places.cuts.items
    → are_before s.places.given s.places.cuts.items ≡ true
    → ahead remaining t ≡ ahead remaining s → waiting t.waiting ≡ drop n (waiting s.waiting)
    → ((i : ℕ) (ys : List ℕ) → once_from i (known s.known) (part_of s.left) (waiting s.waiting ++ ys)
    ≡ bytes_from i (take n (waiting s.waiting))
    ++ once_from (i + n) (known t.known) (part_of t.left) (waiting t.waiting ++ ys))
    → GivesMore remaining s t n
gives {s = s} {t = t} n few more same cuts ordered ahead_is waits on input given h =
    let i = given + h.left_out in
    let w = take n (waiting s.waiting) in
    let rest = once_from (i + n) (known t.known) (part_of t.left) (waiting t.waiting ++ h.unread) in
    let there : i + n ≡ given + n + h.left_out = omega arith in
    let size : length w ≡ n = length-take-le n (waiting s.waiting) few in
    let split : drop given (given_of input) ≡ bytes_from i w ++ rest = sym h.others ∙ on i h.unread in
    record {
      left_out = h.left_out;
      unread = h.unread;
      reads = ahead_is ∙ h.reads;
      in_input = in_bounds (waiting s.waiting) h.unread input n i few h.in_input h.behind there;
      behind = ap (λ w. w ++ h.unread) waits ∙ passed (waiting s.waiting) h.unread input n i few h.behind
          ∙ ap (λ k. drop k input) there;
      few = enough (given_of input) rest given i w n size h.few split;
      others = ap (λ k. once_from k (known t.known) (part_of t.left) (waiting t.waiting ++ h.unread)) (sym there)
          ∙ behind_these (given_of input) rest given i w n size split;
      offsets = tells_given n more same cuts ordered
          (λ k m l. let at = stand_from (given_of input) rest given i w k split m (omega arith) in omega arith)
          h.offsets;
    }
