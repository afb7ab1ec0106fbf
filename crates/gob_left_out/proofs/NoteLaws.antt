-- Fields that are noted, one part of a value after another.
use Rattle.std.proofs.Common.{◌≡◌, ℕ, zero, suc, ◌+◌, ◌<◌, ◌≤◌, ◌⊎◌, inl, inr, List, [], ◌∷◌, ◌++◌, length, Some}
use Rattle.std.proofs.Common.{true≢false, is_some, arith, refl, sym, ap, ◌∙◌, subst, append_assoc, append-nil, Bool, true}
use Rattle.std.proofs.Common.{false, get_or, take, ◌-◌, length-append, Vec}
use Rattle.std.proofs.lemmas.List.Quantifiers.{position-Some}
use Rattle.std.specs.Global.{Global}
use Rattle.std.specs.Map.{keys_of}
use borrow.Author.Tests.{eqb-true}
use Rattle.gob_num.specs.declared.memory.Memory.{Memory}
use Rattle.gob_match.proofs.FoundLaws.{same_exact, same_pair}
use Rattle.std.proofs.Math.Nat.{eq-or-lt_of_le}
use Rattle.std.proofs.lemmas.Option.{slice_get_within}
use Rattle.std.specs.Prelude.{Err, Ok, OnOk, Result, position, slice_get, ◌&&◌, ◌==◌}
use Rattle.gob_types.proofs.PublicLaws.{slice_get-append_left, some_injective}
use Rattle.gob_match.proofs.SearchLaws.{below_or_past, slice_get-append_right}
use Rattle.gob_left_out.specs.declared.field.UnwantedField.{UnwantedField}
use Rattle.gob_left_out.specs.declared.walk.Met.{Met}
use Rattle.gob_left_out.specs.LeftOut.{AreLeftOut, HasRow, LeavesOut, Row}
use Rattle.gob_left_out.specs.Tally.{same_field}
use Rattle.gob_left_out.specs.Machine.Walk.{Behind, IsAlone, Leaves, Meets, Notes, SomeOf}
use Rattle.gob_types.specs.Table.{Table}
use Rattle.gob_value.specs.Tree.{Tree}
use Rattle.gob_match.specs.declared.pair.TypePair.{TypePair}
use Rattle.gob_match.specs.declared.step.TypeStep.{TypeStep}

-- ---- rows
row_kept : (old more : List Row) {x : UnwantedField} → HasRow old x → HasRow (old ++ more) x
row_kept old more h = record {
  place = h.place;
  row = h.row;
  there = slice_get-append_left old more h.place (slice_get_within old h.place h.row h.there) ∙ h.there;
  is = h.is;
}

pub row_on : {old new : List Row} {x : UnwantedField} (more : List Row) → new ≡ old ++ more → HasRow old x
    → HasRow new x
row_on {old = old} {x = x} more grown h = subst (λ (rows : List Row). HasRow rows x) (sym grown) (row_kept old more h)

past_by : (k n : ℕ) → n ≤ k → (j : ℕ) × (k ≡ n + j)
past_by k zero within = (k, omega arith)
past_by zero (suc n) within = absurd (omega arith)
past_by (suc k) (suc n) within = let j = past_by k n (omega arith) in (j.0, omega (arith, j.1))

-- ---- what is noted
pub notes_none : {old new : List Row} {P : Leaves} → new ≡ old → ((path : _) (x : UnwantedField) → ¬ P path x)
    → Notes old new P
notes_none {old = old} same none = record {
  more = [];
  grown = same ∙ sym (append-nil old);
  has = λ path x holds. absurd (none path x holds);
  only = λ k r there. absurd (true≢false (sym (ap is_some there)));
}

pub notes_both : {old mid new : List Row} {P Q R : Leaves} → Notes old mid P → Notes mid new Q
    → ((path : _) (x : UnwantedField) → P path x → R path x) → ((path : _) (x : UnwantedField) → Q path x → R path x)
    → ((path : _) (x : UnwantedField) → R path x → P path x ⊎ Q path x) → Notes old new R
notes_both {old = old} {mid = mid} {new = new} {P = P} {Q = Q} {R = R} a b first second either = record {
  more = a.more ++ b.more;
  grown = b.grown ∙ ap (λ rows. rows ++ b.more) a.grown ∙ append_assoc old a.more b.more;
  has = λ path x holds. has path x (either path x holds);
  only = only;
}
  where
    has : (path : List TypeStep) (x : UnwantedField) → P path x ⊎ Q path x → HasRow new x
    has path x (inl p) = row_on b.more b.grown (a.has path x p)
    has path x (inr q) = b.has path x q

    only : (k : ℕ) (r : Row) → slice_get (a.more ++ b.more) k ≡ Some r → R r.1.items r.0
    only k r there = by (below_or_past k (length a.more))
      where
        by : (k < length a.more) ⊎ (length a.more ≤ k) → R r.1.items r.0
        by (inl below) = first _ _ (a.only k r (sym (slice_get-append_left a.more b.more k below) ∙ there))
        by (inr past) =
            let j = past_by k (length a.more) past in
            second _ _ (b.only j.0 r (sym (slice_get-append_right a.more b.more k j.0 j.1) ∙ there))

pub notes_as : {old new : List Row} {P Q : Leaves} → Notes old new P
    → ((path : _) (x : UnwantedField) → P path x → Q path x) → ((path : _) (x : UnwantedField) → Q path x → P path x)
    → Notes old new Q
notes_as a on back = record {
  more = a.more;
  grown = a.grown;
  has = λ path x holds. a.has path x (back path x holds);
  only = λ k r there. on _ _ (a.only k r there);
}

-- ---- what is met
behind_as : {trail : List TypeStep} {P Q : Leaves} → ((path : _) (x : UnwantedField) → P path x → Q path x)
    → (path : List TypeStep) (x : UnwantedField) → Behind trail P path x → Behind trail Q path x
behind_as on path x b = record { rest = b.rest; whole = b.whole; holds = on b.rest x b.holds }

pub meets_none : {met : Met} {P : Leaves} → ((path : _) (x : UnwantedField) → ¬ P path x) → Meets met met P
meets_none none = record { trail = refl; notes = notes_none refl (λ path x b. none b.rest x b.holds) }

pub meets_as : {old new : Met} {P Q : Leaves} → Meets old new P → ((path : _) (x : UnwantedField) → P path x → Q path x)
    → ((path : _) (x : UnwantedField) → Q path x → P path x) → Meets old new Q
meets_as m on back = record { trail = m.trail; notes = notes_as m.notes (behind_as on) (behind_as back) }

pub meets_both : {old mid new : Met} {P Q R : Leaves} → Meets old mid P → Meets mid new Q
    → ((path : _) (x : UnwantedField) → P path x → R path x) → ((path : _) (x : UnwantedField) → Q path x → R path x)
    → ((path : _) (x : UnwantedField) → R path x → P path x ⊎ Q path x) → Meets old new R
meets_both {old = old} {mid = mid} {new = new} {P = P} {Q = Q} {R = R} a b first second either = record {
  trail = b.trail ∙ a.trail;
  notes = notes_both a.notes (subst (λ (trail : List TypeStep). Notes mid.fields new.fields (Behind trail Q)) a.trail
      b.notes) (behind_as first) (behind_as second) split;
}
  where
    split : (path : List TypeStep) (x : UnwantedField) → Behind old.trail.items R path x
        → Behind old.trail.items P path x ⊎ Behind old.trail.items Q path x
    split path x b = by (either b.rest x b.holds)
      where
        by : P b.rest x ⊎ Q b.rest x → Behind old.trail.items P path x ⊎ Behind old.trail.items Q path x
        by (inl p) = inl (record { rest = b.rest; whole = b.whole; holds = p })
        by (inr q) = inr (record { rest = b.rest; whole = b.whole; holds = q })

-- ---- items, one after another
pub meets_first : {A : Type 0} {items : List A} {met : Met} {P : A → Leaves} → Meets met met (SomeOf items 0 P)
meets_first = meets_none (λ path x s. absurd (omega (arith, s.below)))

pub meets_more : {A : Type 0} {items : List A} {n : ℕ} {item : A} {P : A → Leaves} {old mid new : Met}
    → Meets old mid (SomeOf items n P) → slice_get items n ≡ Some item → Meets mid new (P item)
    → Meets old new (SomeOf items (n + 1) P)
meets_more {A = A} {items = items} {n = n} {item = item} {P = P} a there b = meets_both a b
    (λ path x s. record {
      index = s.index;
      below = omega (arith, s.below);
      item = s.item;
      there = s.there;
      holds = s.holds;
    })
    (λ path x p. record { index = n; below = omega arith; item = item; there = there; holds = p })
    split
  where
    split : (path : List TypeStep) (x : UnwantedField) → SomeOf items (n + 1) P path x → SomeOf items n P path x ⊎ P item path x
    split path x s = by (eq-or-lt_of_le (omega (arith, s.below)))
      where
        by : (s.index ≡ n) ⊎ (s.index < n) → SomeOf items n P path x ⊎ P item path x
        by (inr below) =
            inl (record { index = s.index; below = below; item = s.item; there = s.there; holds = s.holds })
        by (inl same) =
            let is : s.item ≡ item = some_injective (sym s.there ∙ ap (slice_get items) same ∙ there) in
            inr (subst (λ (y : A). P y path x) is s.holds)

pub meets_all : {A : Type 0} {items : List A} {P : A → Leaves} {old new : Met} (n : ℕ)
    → Meets old new (SomeOf items n P) → length items ≤ n → Meets old new (SomeOf items (length items) P)
meets_all {items = items} n m whole = meets_as m
    (λ path x s. record {
      index = s.index;
      below = slice_get_within items s.index s.item s.there;
      item = s.item;
      there = s.there;
      holds = s.holds;
    })
    (λ path x s. record {
      index = s.index;
      below = omega (arith, s.below, whole);
      item = s.item;
      there = s.there;
      holds = s.holds;
    })

-- ---- a step that is taken back
take_front : {A : Type 0} (xs ys : List A) → take (length xs) (xs ++ ys) ≡ xs
take_front [] ys = refl
take_front (x ∷ xs) ys = ap (λ l. x ∷ l) (take_front xs ys)

pub step_back : {A : Type 0} (steps : List A) {pushed left : List A} {n : ℕ} (s : A) → pushed ≡ steps ++ s ∷ []
    → n ≡ length pushed → left ≡ take (n - 1) pushed → left ≡ steps
step_back steps {pushed = pushed} {n = n} s grown counted e =
    let size = ap length grown ∙ length-append steps (s ∷ []) in
    e ∙ ap (λ (m : ℕ). take m pushed) (omega (arith, counted, size)) ∙ ap (take (length steps)) grown
    ∙ take_front steps (s ∷ [])

-- what was met behind a step
pub meets_behind : {old inner last new : Met} {s : TypeStep} {P : Leaves} → inner.trail.items ≡ old.trail.items ++ s ∷ []
    → inner.fields ≡ old.fields → Meets inner last P → new.trail.items ≡ old.trail.items → new.fields ≡ last.fields
    → Meets old new (Behind (s ∷ []) P)
meets_behind {old = old} {inner = inner} {last = last} {new = new} {s = s} {P = P} pushed same m back kept = record {
  trail = back;
  notes = subst (λ (rows : List Row). Notes rows new.fields (Behind old.trail.items (Behind (s ∷ []) P))) same
      (subst (λ (rows : List Row). Notes inner.fields rows (Behind old.trail.items (Behind (s ∷ []) P))) (sym kept)
      (notes_as m.notes on under));
}
  where
    on : (path : List TypeStep) (x : UnwantedField) → Behind inner.trail.items P path x
        → Behind old.trail.items (Behind (s ∷ []) P) path x
    on path x b = record {
      rest = s ∷ b.rest;
      whole = b.whole ∙ ap (λ l. l ++ b.rest) pushed ∙ append_assoc old.trail.items (s ∷ []) b.rest;
      holds = record { rest = b.rest; whole = refl; holds = b.holds };
    }

    under : (path : List TypeStep) (x : UnwantedField) → Behind old.trail.items (Behind (s ∷ []) P) path x
        → Behind inner.trail.items P path x
    under path x b = record {
      rest = b.holds.rest;
      whole = b.whole ∙ ap (λ l. old.trail.items ++ l) b.holds.whole
          ∙ sym (append_assoc old.trail.items (s ∷ []) b.holds.rest)
          ∙ sym (ap (λ l. l ++ b.holds.rest) pushed);
      holds = b.holds.holds;
    }

-- ---- a field is noted
both_true : (a b : Bool) → (a && b) ≡ true → (a ≡ true) × (b ≡ true)
both_true true b e = (refl, e)
both_true false b e = absurd (true≢false (sym e))

pub same_exact_field : (x y : UnwantedField) → same_field x y ≡ true → x ≡ y
same_exact_field x y e =
    let b = both_true (same_pair x.pair y.pair) (x.number == y.number) e in
    let p = same_exact x.pair y.pair b.0 in
    let n = eqb-true x.number y.number b.1 in
    (λ i. record { pair = p i; number = n i })

row_of_key : (rows : List Row) (k : ℕ) (x : UnwantedField) → k < length (keys_of rows)
    → same_field x (get_or (keys_of rows) k x) ≡ true → HasRow rows x
row_of_key [] k x within e = absurd (omega arith)
row_of_key (r ∷ rows) zero x within e =
    record { place = 0; row = r; there = refl; is = sym (same_exact_field x r.0 e) }
row_of_key (r ∷ rows) (suc k) x within e =
    let h = row_of_key rows k x (omega arith) e in
    record { place = suc h.place; row = h.row; there = h.there; is = h.is }

pub known_row : (rows : List Row) (x : UnwantedField) (k : ℕ) → position (same_field x) (keys_of rows) ≡ Some k
    → HasRow rows x
known_row rows x k e =
    let h = position-Some (same_field x) (keys_of rows) k x e in row_of_key rows k x h.0 h.1

pub notes_known : {rows : List Row} {field : UnwantedField} {steps : List TypeStep} → HasRow rows field
    → Notes rows rows (IsAlone field steps)
notes_known {rows = rows} h = record {
  more = [];
  grown = sym (append-nil rows);
  has = λ path x e. subst (λ (x : UnwantedField). HasRow rows x) (sym e.0) h;
  only = λ k r there. absurd (true≢false (sym (ap is_some there)));
}

last_row : (rows : List Row) (r : Row) → slice_get (rows ++ r ∷ []) (length rows) ≡ Some r
last_row [] r = refl
last_row (x ∷ rows) r = last_row rows r

pub notes_new : {old new : List Row} {field : UnwantedField} {steps : List TypeStep} (path : Vec TypeStep Global)
    → new ≡ old ++ (field, path) ∷ [] → path.items ≡ steps → Notes old new (IsAlone field steps)
notes_new {old = old} {new = new} {field = field} {steps = steps} path grown is = record {
  more = (field, path) ∷ [];
  grown = grown;
  has = λ other x e. subst (λ (x : UnwantedField). HasRow new x) (sym e.0) (record {
    place = length old;
    row = (field, path);
    there = ap (λ (rows : List Row). slice_get rows (length old)) grown ∙ last_row old (field, path);
    is = refl;
  });
  only = only;
}
  where
    only : (k : ℕ) (r : Row) → slice_get ((field, path) ∷ []) k ≡ Some r → IsAlone field steps r.1.items r.0
    only zero r there =
        let same = some_injective there in
        (ap (λ (r : Row). r.0) (sym same), ap (λ (r : Row). r.1.items) (sym same) ∙ is)
    only (suc k) r there = absurd (true≢false (sym (ap is_some there)))

-- where the walk stands
pub meets_noted : {old new : Met} {P Q : Leaves} → new.trail.items ≡ old.trail.items → Notes old.fields new.fields P
    → ((path : List TypeStep) (x : UnwantedField) → P path x → Behind old.trail.items Q path x)
    → ((path : List TypeStep) (x : UnwantedField) → Behind old.trail.items Q path x → P path x) → Meets old new Q
meets_noted same n on back = record { trail = same; notes = notes_as n on back }

-- ---- an answer that may lack memory
pub met_ok : {P Q : Type 0} (r : Result (Unit {0}) Memory) → OnOk r P → (P → Q) → OnOk r Q
met_ok (Ok u) p f = f p
met_ok (Err e) p f = tt

-- ---- the whole value
pub left_out_at : {T U : Table} {p : TypePair} {v : Tree} {old new : Met} → old.trail.items ≡ [] → old.fields ≡ []
    → Meets old new (LeavesOut T U p v) → AreLeftOut T U p v new.fields
left_out_at {T = T} {U = U} {p = p} {v = v} {new = new} start none m = record {
  each = λ k r there.
      let b = m.notes.only k r (ap (λ rows. slice_get rows k) (sym (m.notes.grown ∙ ap (λ rows. rows ++ m.notes.more) none)) ∙ there) in
      subst (λ (path : List TypeStep). LeavesOut T U p v path r.0)
      (sym (b.whole ∙ ap (λ trail. trail ++ b.rest) start)) b.holds;
  all = λ path x l. m.notes.has path x (record {
    rest = path;
    whole = sym (ap (λ trail. trail ++ path) start);
    holds = l;
  });
}
