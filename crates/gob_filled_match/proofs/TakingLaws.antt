-- Numbers taken out of a skeleton, nil by nil.
use Rattle.std.proofs.Common.{◌≡◌, ◌∙◌, ◌≤◌, ◌<◌, ◌+◌, ◌-◌, ℕ, zero, suc, List, [], ◌∷◌, ◌++◌, length, take, drop}
use Rattle.std.proofs.Common.{ap, append_assoc, arith, refl, subst, sym}
use Rattle.std.specs.Global.{Global}
use Rattle.std.specs.Prelude.{Vec}
use Rattle.std.proofs.lemmas.List.{append-nil, drop-drop, length-append, length-drop, length-take-le, take-append-drop}
use Rattle.std.proofs.lemmas.List.{nil_from_length, take_all}
use Rattle.gob_num.specs.Unsigned.{IsUnsigned, short, long}
use Rattle.gob_types.specs.declared.id.TypeId.{TypeId}
use Rattle.gob_types.specs.Table.{Table}
use Rattle.gob_value.specs.Top.{SpellsTop}
use Rattle.gob_value.specs.Tree.{Tree}
use Rattle.gob_value.specs.Machine.Begins.{BeginsThisNumber, HoldsBetween}
use Rattle.gob_read.specs.Calls.Builders.{check_building}
use Rattle.gob_read.specs.Calls.UnderWay.{HasReadBody}
use Rattle.gob_read.specs.Calls.UpToNil.{NoNilBegun}
use Rattle.gob_read.specs.declared.check_builder.CheckBuilder.{CheckBuilder}
use Rattle.gob_read.specs.declared.check_builder.Counts.{Counts}
use Rattle.gob_read.specs.declared.reader.BodyReader.{BodyReader}
use Rattle.gob_filled_match.specs.Received.{IsBeforeNil}
use Rattle.gob_filled_match.specs.Machine.Taking.{AddsNil, adds_none, adds_filled, EndsSkeleton, GoesOn, HasNumbers}
use Rattle.gob_filled_match.specs.Machine.Taking.{none_left, number_next, StandsInNumbers, TakesNumber}
use Rattle.gob_filled_match.specs.Machine.Taking.{TakesNumbers}
use Rattle.gob_filled_match.specs.declared.taking.FilledNil.{FilledNil}
use Rattle.gob_filled_match.specs.declared.taking.Skeleton.{Skeleton}

-- bytes in front that have no number stay
past : {Before : List ℕ → Type 0} {d left ms : List ℕ} {nils : List FilledNil} (c : List ℕ)
    → HasNumbers Before (d ++ c) left nils ms → HasNumbers Before d (c ++ left) nils (c ++ ms)
past c none_left = none_left
past {Before = Before} {d = d} c (number_next {nil = nil} {nils = nils} {left = left} {a = a} {ms = ms} e before place u
    h) =
    subst (λ x. HasNumbers Before d x (nil ∷ nils) (c ++ (e ++ (a ++ ms)))) (append_assoc c e (0 ∷ left))
    (subst (λ x. HasNumbers Before d ((c ++ e) ++ 0 ∷ left) (nil ∷ nils) x) (append_assoc c e (a ++ ms))
    (number_next (c ++ e) (subst Before (append_assoc d c e) before) (place ∙ ap length (append_assoc d c e)) u
    (subst (λ x. HasNumbers Before x left nils ms)
    (append_assoc d c (e ++ 0 ∷ []) ∙ ap (λ x. d ++ x) (sym (append_assoc c e (0 ∷ [])))) h)))

zero_is : {a : List ℕ} → IsUnsigned 0 a → a ≡ 0 ∷ []
zero_is (short l) = refl
zero_is (long k) = let large = k.large in absurd (omega (arith, large))

-- what a nil adds behind these bytes
record Added (Before : List ℕ → Type 0) (z c a : List ℕ) (old new : List FilledNil) : Type 0 where
  pub more : List FilledNil
  pub nils : new ≡ old ++ more
  pub on : (left ms : List ℕ) (nils : List FilledNil) → HasNumbers Before (z ++ (c ++ 0 ∷ [])) left nils ms
      → HasNumbers Before z ((c ++ 0 ∷ []) ++ left) (more ++ nils) (c ++ (a ++ ms))

added : {Before : List ℕ → Type 0} {z c a : List ℕ} {k : ℕ} {old new : List FilledNil}
    → AddsNil (length (z ++ c)) k old new → IsUnsigned k a → Before (z ++ c) → Added Before z c a old new
added {Before = Before} {z = z} {c = c} {a = a} {old = old} adds_none u before = record {
  more = [];
  nils = sym (append-nil old);
  on = λ left ms nils h.
      subst (λ x. HasNumbers Before z ((c ++ 0 ∷ []) ++ left) nils (c ++ (x ++ ms))) (sym (zero_is u))
      (subst (λ x. HasNumbers Before z ((c ++ 0 ∷ []) ++ left) nils x) (append_assoc c (0 ∷ []) ms)
      (past (c ++ 0 ∷ []) h));
}
added {Before = Before} {z = z} {c = c} {a = a} (adds_filled {k = k}) u before =
    let nil : FilledNil = record { place = length (z ++ c); number = suc k } in record {
      more = nil ∷ [];
      nils = refl;
      on = λ left ms nils h.
          subst (λ x. HasNumbers Before z x (nil ∷ nils) (c ++ (a ++ ms))) (sym (append_assoc c (0 ∷ []) left))
          (number_next {nil = nil} c before refl u h);
    }

pub number_on : {U : Table} {u : TypeId} {numbered : List ℕ} {at used behind : ℕ} {old new : Skeleton}
    → TakesNumber numbered at used behind old new
    → IsBeforeNil U u (old.bytes.items ++ take used (drop at numbered)) → GoesOn U u numbered at behind old new
number_on {U = U} {u = u} {numbered = numbered} {at = at} {used = used} {behind = behind} {old = old} t before =
    let d : Added (IsBeforeNil U u) old.bytes.items (take used (drop at numbered)) t.spelled _ _ =
    added t.nils t.is before in
    record {
      more = take used (drop at numbered) ++ 0 ∷ [];
      more_nils = d.more;
      bytes = t.bytes;
      nils = d.nils;
      numbers = λ left nils h.
          subst (λ x. HasNumbers (IsBeforeNil U u) old.bytes.items ((take used (drop at numbered) ++ 0 ∷ []) ++ left)
          (d.more ++ nils) x) (sym t.rest) (d.on left (drop behind numbered) nils
          (subst (λ x. HasNumbers (IsBeforeNil U u) x left nils (drop behind numbered)) t.bytes h));
    }

-- ---- at the start

pub not_yet : (U : Table) (u : TypeId) (numbered : List ℕ) (at : ℕ) (s : Skeleton) → GoesOn U u numbered at at s s
not_yet U u numbered at s = record {
  more = [];
  more_nils = [];
  bytes = sym (append-nil s.bytes.items);
  nils = sym (append-nil s.nils.items);
  numbers = λ left nils h. h;
}

-- ---- at the end

-- behind the last number nothing is left
pub ends_at_nil : {U : Table} {u : TypeId} {numbered : List ℕ} {at behind : ℕ} {s t : Skeleton} {v : Tree}
    → GoesOn U u numbered at behind s t → drop behind numbered ≡ [] → SpellsTop U u v t.bytes.items
    → EndsSkeleton U u numbered at s t
ends_at_nil {U = U} {u = u} {numbered = numbered} {at = at} {s = s} {t = t} {v = v} p none spelled = record {
  more = p.more;
  more_nils = p.more_nils;
  bytes = p.bytes;
  nils = p.nils;
  numbers =
      subst (λ x. HasNumbers (IsBeforeNil U u) s.bytes.items x p.more_nils (drop at numbered)) (append-nil p.more)
      (subst (λ x. HasNumbers (IsBeforeNil U u) s.bytes.items (p.more ++ []) x (drop at numbered))
      (append-nil p.more_nils) (p.numbers [] []
      (subst (λ x. HasNumbers (IsBeforeNil U u) t.bytes.items [] [] x) (sym none) none_left)));
  value = v;
  spelled = spelled;
}

-- or bytes without a number
pub ends_behind : {U : Table} {u : TypeId} {numbered : List ℕ} {at : ℕ} {s t : Skeleton} {v : Tree}
    → t.bytes.items ≡ s.bytes.items ++ drop at numbered → t.nils ≡ s.nils → SpellsTop U u v t.bytes.items
    → EndsSkeleton U u numbered at s t
ends_behind {U = U} {u = u} {numbered = numbered} {at = at} {s = s} {t = t} {v = v} bytes nils spelled = record {
  more = drop at numbered;
  more_nils = [];
  bytes = bytes;
  nils = ap (λ (l : Vec FilledNil Global). l.items) nils ∙ sym (append-nil s.nils.items);
  numbers = none_left;
  value = v;
  spelled = spelled;
}

-- ---- a number that stands behind some bytes
pub adds : {p q k : ℕ} {old new : List FilledNil} → 0 < k → p ≡ q
    → new ≡ old ++ record { place = q; number = k } ∷ [] → AddsNil p k old new
adds {k = zero} l e n = absurd (omega (arith, l))
adds {p = p} {k = suc k} {old = old} l e n =
    subst (λ x. AddsNil p (suc k) old x)
    (sym (n ∙ ap (λ (q : ℕ). old ++ record { place = q; number = suc k } ∷ []) (sym e))) adds_filled

pub adds_no : {p k : ℕ} {old new : List FilledNil} → k ≤ 0 → new ≡ old → AddsNil p k old new
adds_no {p = p} {k = zero} {old = old} l n = subst (λ x. AddsNil p 0 old x) (sym n) adds_none
adds_no {k = suc k} l n = absurd (omega (arith, l))

pub takes_number : {numbered bytes : List ℕ} {at used behind k : ℕ} {old new : Skeleton}
    → HoldsBetween (BeginsThisNumber k) numbered (at + used) behind → at + used < behind
    → bytes ≡ old.bytes.items ++ take used (drop at numbered) → new.bytes.items ≡ bytes ++ 0 ∷ []
    → AddsNil (length bytes) k old.nils.items new.nils.items → TakesNumber numbered at used behind old new
takes_number {numbered = numbered} {at = at} {used = used} {behind = behind} {k = k} {old = old} {new = new} h onward b
    e n =
    let c = take used (drop at numbered) in record {
      number = k;
      spelled = h.begins.bytes;
      is = h.begins.spelled;
      rest = sym (take-append-drop used (drop at numbered))
          ∙ ap (λ x. c ++ x) (drop-drop used at numbered ∙ h.begins.whole);
      inside = h.inside;
      onward = onward;
      bytes = e ∙ ap (λ x. x ++ 0 ∷ []) b ∙ append_assoc old.bytes.items c (0 ∷ []);
      nils = subst (λ x. AddsNil (length x) k old.nils.items new.nils.items) b n;
    }

-- ---- the reader behind a nil
pub stands_on : {U : Table} {u : TypeId} {numbered : List ℕ} {at used behind : ℕ} {old new : Skeleton}
    {reader : BodyReader CheckBuilder Counts} → TakesNumber numbered at used behind old new → at + used < behind
    → length old.bytes.items ≤ at → used ≤ length (drop at numbered)
    → HasReadBody check_building U u 65536
    (length (old.bytes.items ++ take used (drop at numbered)) + (length numbered - behind + 1)) reader
    ((old.bytes.items ++ take used (drop at numbered)) ++ 0 ∷ [])
    → NoNilBegun U reader → StandsInNumbers U u numbered behind reader new
stands_on {U = U} {u = u} {numbered = numbered} {at = at} {used = used} {behind = behind} {old = old} {new = new}
    {reader = reader} t onward few within read clear =
    let z = old.bytes.items in
    let c = take used (drop at numbered) in
    let counted : length c ≡ used = length-take-le used (drop at numbered) within in
    let sum : length (z ++ c) ≡ length z + length c = length-append z c in
    let bytes : (z ++ c) ++ 0 ∷ [] ≡ new.bytes.items = append_assoc z c (0 ∷ []) ∙ sym t.bytes in
    let longer : length ((z ++ c) ++ 0 ∷ []) ≡ length (z ++ c) + 1 = length-append (z ++ c) (0 ∷ []) in
    let all : length new.bytes.items ≡ length (z ++ c) + 1 = ap length (sym bytes) ∙ longer in
    let same : length (z ++ c) + (length numbered - behind + 1) ≡ length new.bytes.items + (length numbered - behind) =
    omega arith in
    record {
      read = subst (λ x. HasReadBody check_building U u 65536 x reader new.bytes.items) same
          (subst (λ x. HasReadBody check_building U u 65536
          (length (z ++ c) + (length numbered - behind + 1)) reader x) bytes read);
      clear = clear;
      inside = t.inside;
      short = omega arith;
    }

at_most : (n : ℕ) → length {A = ℕ} (take n (0 ∷ [])) ≤ 1
at_most zero = omega arith
at_most (suc zero) = omega arith
at_most (suc (suc n)) = omega arith

-- nothing is left where all that was announced is read
pub none_left_behind : (numbered z : List ℕ) (behind used : ℕ) → behind ≤ length numbered
    → length (z ++ take used (0 ∷ [])) ≡ length z + (length numbered - behind + 1) → drop behind numbered ≡ []
none_left_behind numbered z behind used inside e =
    let sum : length (z ++ take used (0 ∷ [])) ≡ length z + length {A = ℕ} (take used (0 ∷ [])) =
    length-append z (take used (0 ∷ [])) in
    let few = at_most used in
    let rest : length (drop behind numbered) ≡ length numbered - behind = length-drop behind numbered in
    nil_from_length (drop behind numbered) (omega arith)

none_taken : (n : ℕ) → take {A = ℕ} n [] ≡ []
none_taken zero = refl
none_taken (suc n) = refl

-- the one byte 0 was taken then
pub zero_taken : (z : List ℕ) (used more : ℕ) → length (z ++ take used (0 ∷ [])) ≡ length z + (more + 1)
    → z ++ take used (0 ∷ []) ≡ z ++ 0 ∷ []
zero_taken z zero more e =
    let sum : length (z ++ []) ≡ length z + 0 = length-append z [] in absurd (omega (arith, e, sum))
zero_taken z (suc n) more e = ap (λ (l : List ℕ). z ++ 0 ∷ l) (none_taken n)

-- all bytes were, where as many were as there are
pub whole_taken : (z bytes : List ℕ) (used : ℕ) → used ≤ length bytes
    → length (z ++ take used bytes) ≡ length z + length bytes → take used bytes ≡ bytes
whole_taken z bytes used within e =
    let sum : length (z ++ take used bytes) ≡ length z + length (take used bytes) = length-append z (take used bytes) in
    let count : length (take used bytes) ≡ used = length-take-le used bytes within in
    take_all used bytes (omega arith)

-- the bytes from a place on, as a slice has them
pub rest_is : (at : ℕ) (bytes : List ℕ) → take (length bytes - at) (drop at bytes) ≡ drop at bytes
rest_is at bytes =
    let count : length (drop at bytes) ≡ length bytes - at = length-drop at bytes in
    take_all (length bytes - at) (drop at bytes) (omega arith)

pub all_taken : {U : Table} {u : TypeId} {numbered : List ℕ} {s t : Skeleton} → s.bytes.items ≡ [] → s.nils.items ≡ []
    → EndsSkeleton U u numbered 0 s t → TakesNumbers U u t numbered
all_taken {U = U} {u = u} {numbered = numbered} {s = s} {t = t} no_byte no_nil e = record {
  value = e.value;
  spelled = e.spelled;
  numbers =
      subst (λ x. HasNumbers (IsBeforeNil U u) [] x t.nils.items numbered)
      (sym (e.bytes ∙ ap (λ x. x ++ e.more) no_byte))
      (subst (λ x. HasNumbers (IsBeforeNil U u) [] e.more x numbered) (sym (e.nils ∙ ap (λ x. x ++ e.more_nils) no_nil))
      (subst (λ x. HasNumbers (IsBeforeNil U u) x e.more e.more_nils numbered) no_byte e.numbers));
}
