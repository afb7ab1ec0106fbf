-- What taking one item comes to, step by step.
use Rattle.std.proofs.Common.{◌≡◌, ℕ, ◌+◌, ◌<◌, ◌≤◌, List, [], ◌∷◌, ◌++◌, length, take, drop, Option, Some, None}
use Rattle.std.proofs.Common.{Result, Ok, Err, arith, refl, sym, ap, ◌∙◌, subst}
use Rattle.std.proofs.Common.{append_assoc, length-append, length-drop, true, IfSome}
use Rattle.std.proofs.Math.Seq.{take-add}
use Rattle.std.proofs.lemmas.List.{append-nil, take-append-drop, take_all, take_rest}
use Rattle.gob_types.specs.Base.{base_table}
use Rattle.gob_types.specs.Table.{Table}
use Rattle.gob_stream.specs.declared.fault.Fault.{Fault}
use Rattle.gob_stream.specs.declared.fault.Fault.TheVariants as fault
use Rattle.gob_stream.specs.declared.fault.Refusal.{Refusal}
use Rattle.gob_stream.specs.Bounds.{within_trees}
use Rattle.gob_stream.specs.Honest.{OfRefusal}
use Rattle.gob_filled.specs.Outcome.{FilledOutcome, refused}
use Rattle.gob_filled.specs.Stream.{FilledItem, FilledStream}
use Rattle.gob_go.specs.Calls.Session.{FinishAnswers, HasRead, IsBetweenItems, StepAnswers, limits_of, types_of}
use Rattle.gob_go.specs.Machine.SessionState.{SessionState}
use Rattle.gob_go.specs.Machine.Stages.{AdvancesOver, over_some, over_item}
use Rattle.gob_go.specs.declared.item.GoItem.{GoItem}
use Rattle.gob_go.proofs.SessionSteps.{usable}
use Rattle.gob_stream.proofs.Reader.FeedingSteps.{rest_of}
use Rattle.gob_go.proofs.FinishSteps.{count_begins_here, nothing_expects}
use Rattle.gob_go.proofs.SessionAnswers.{table_between}
use Rattle.gob_go.proofs.WholeSteps.{between_at}
use Rattle.gob_salvage.specs.Taking.{HasReadAll, OneMore, ReadsOne, RefusesNext}

-- ---- bytes
pub further : (bytes piece : List ℕ) (used step : ℕ) → (bytes ++ take used piece) ++ take step (rest_of piece used)
    ≡ bytes ++ take (used + step) piece
further bytes piece used step =
    ap (λ l. (bytes ++ take used piece) ++ take step l) (take_rest piece used)
    ∙ append_assoc bytes (take used piece) (take step (drop used piece))
    ∙ ap (λ l. bytes ++ l) (sym (take-add used step piece))

all_bytes : (bytes piece : List ℕ) (used : ℕ) → (bytes ++ take used piece) ++ rest_of piece used ≡ bytes ++ piece
all_bytes bytes piece used =
    ap (λ l. (bytes ++ take used piece) ++ l) (take_rest piece used)
    ∙ append_assoc bytes (take used piece) (drop used piece) ∙ ap (λ l. bytes ++ l) (take-append-drop used piece)

-- ---- one item
-- so many bytes of the piece were taken, and no item is whole with them
pub record HasTaken (s s' : SessionState) (piece : List ℕ) (used steps : ℕ) : Type 0 where
  pub within : used ≤ length piece
  pub onward : steps ≤ used
  pub limits : limits_of s' ≡ limits_of s
  pub read : (items : List FilledItem) (bytes : List ℕ) → HasRead s items bytes
      → HasRead s' items (bytes ++ take used piece)

pub take_start : {s : SessionState} (piece : List ℕ) → HasTaken s s piece 0 0
take_start {s = s} piece = record {
  within = omega arith;
  onward = omega arith;
  limits = refl;
  read = λ items bytes a. subst (λ (b : List ℕ). HasRead s items b) (sym (append-nil bytes)) a;
}

-- a step over the front of a piece
pub record StepsOver (s s' : SessionState) (piece : List ℕ) (used : ℕ) (item : Option GoItem) : Type 0 where
  pub some : (0 < used) × (used ≤ length piece)
  pub limits : limits_of s' ≡ limits_of s
  pub between : IfSome item (λ _. IsBetweenItems s')
  pub advances : (items : List FilledItem) (bytes : List ℕ) → HasRead s items bytes
      → AdvancesOver true s' items bytes piece used item

stands_over : {s' : SessionState} {items : List FilledItem} {bytes piece : List ℕ} {used : ℕ} {item : Option GoItem}
    → AdvancesOver true s' items bytes piece used item → item ≡ None → HasRead s' items (bytes ++ take used piece)
stands_over (over_some p l a) e = a
stands_over (over_item p l m a) e = absurd (cc)

gives_over : {s' : SessionState} {items : List FilledItem} {bytes piece : List ℕ} {used : ℕ} {item : Option GoItem}
    {given : GoItem} → AdvancesOver true s' items bytes piece used item → item ≡ Some given
    → OneMore s' items (bytes ++ take used piece)
gives_over (over_some p l a) e = absurd (cc)
gives_over (over_item {i = i} p l m a) e = record { item = i; after = a }

pub take_on : {s t t' : SessionState} {piece : List ℕ} {used steps step : ℕ} {item : Option GoItem}
    → HasTaken s t piece used steps → StepsOver t t' (rest_of piece used) step item → item ≡ None
    → HasTaken s t' piece (used + step) (steps + 1)
take_on {t' = t'} {piece = piece} {used = used} {step = step} h o e =
    let w = h.within in let n = h.onward in let p = o.some.0 in let q = o.some.1 in
    record {
      within = omega (arith, ap length (take_rest piece used), length-drop used piece);
      onward = omega arith;
      limits = o.limits ∙ h.limits;
      read = λ items bytes a. subst (λ (b : List ℕ). HasRead t' items b) (further bytes piece used step)
          (stands_over (o.advances items (bytes ++ take used piece) (h.read items bytes a)) e);
    }

pub take_last : {s t t' : SessionState} {piece : List ℕ} {used steps step : ℕ} {item : Option GoItem} {given : GoItem}
    → HasTaken s t piece used steps → StepsOver t t' (rest_of piece used) step item → item ≡ Some given
    → ReadsOne s t' (take (used + step) piece)
take_last {t' = t'} {piece = piece} {used = used} {step = step} h o e items bytes a =
    subst (λ (b : List ℕ). OneMore t' items b) (further bytes piece used step)
    (gives_over (o.advances items (bytes ++ take used piece) (h.read items bytes a)) e)

pub taken_few : {s t t' : SessionState} {piece : List ℕ} {used steps step : ℕ} {item : Option GoItem}
    → HasTaken s t piece used steps → StepsOver t t' (rest_of piece used) step item
    → (0 < used + step) × (used + step ≤ length piece)
taken_few {piece = piece} {used = used} h o =
    let w = h.within in let p = o.some.0 in let q = o.some.1 in
    (omega arith, omega (arith, ap length (take_rest piece used), length-drop used piece))

-- the bytes are refused so from where the first ones of the piece were taken on
as_from : {s t : SessionState} {items : List FilledItem} {piece : List ℕ} {used steps : ℕ} {R : Refusal}
    (bytes : List ℕ) → HasTaken s t piece used steps
    → FilledOutcome base_table (within_trees (limits_of t)) (bytes ++ piece) items (refused R)
    → FilledOutcome base_table (within_trees (limits_of s)) (bytes ++ piece) items (refused R)
as_from {items = items} {piece = piece} {R = R} bytes h o =
    subst (λ L. FilledOutcome base_table (within_trees L) (bytes ++ piece) items (refused R)) h.limits o

pub take_stops : (A : Type 0) {s t : SessionState} (t' : SessionState) {piece : List ℕ} {used steps : ℕ} (e : Fault)
    → HasTaken s t piece used steps
    → ((items : List FilledItem) (bytes : List ℕ) → HasRead t items bytes
    → StepAnswers t t' items bytes (rest_of piece used) (Err e))
    → OfRefusal {A = A} (RefusesNext s piece) (Err e)
take_stops A {t = t} t' {piece = piece} {used = used} (fault.Refused R) h f = λ items bytes a.
    let x = f items (bytes ++ take used piece) (h.read items bytes a) in
    as_from bytes h (subst (λ (l : List ℕ). FilledOutcome base_table (within_trees (limits_of t)) l items (refused R))
    (all_bytes bytes piece used) x.0.outcome)
take_stops A t' fault.Read h f = tt
take_stops A t' fault.Memory h f = tt
take_stops A t' fault.Failed h f = tt

pub ended : (A : Type 0) (s s' : SessionState) (items : List FilledItem) (bytes : List ℕ) (e : Fault)
    → FinishAnswers s s' items bytes (Err e)
    → OfRefusal {A = A} (λ R. FilledOutcome base_table (within_trees (limits_of s)) bytes items (refused R)) (Err e)
ended A s s' items bytes (fault.Refused R) f = f.0
ended A s s' items bytes fault.Read f = tt
ended A s s' items bytes fault.Memory f = tt
ended A s s' items bytes fault.Failed f = tt

pub take_ends : {A : Type 0} {s t : SessionState} {piece : List ℕ} {used steps : ℕ} (res : Result A Fault)
    → HasTaken s t piece used steps → length piece ≤ used
    → ((items : List FilledItem) (bytes : List ℕ) → HasRead t items bytes
    → OfRefusal (λ R. FilledOutcome base_table (within_trees (limits_of t)) bytes items (refused R)) res)
    → OfRefusal (RefusesNext s piece) res
take_ends (Ok a) h l f = tt
take_ends {t = t} {piece = piece} {used = used} (Err (fault.Refused R)) h l f = λ items bytes a.
    as_from bytes h (subst (λ (p : List ℕ). FilledOutcome base_table (within_trees (limits_of t)) (bytes ++ p) items
    (refused R)) (take_all used piece l) (f items (bytes ++ take used piece) (h.read items bytes a)))
take_ends (Err fault.Read) h l f = tt
take_ends (Err fault.Memory) h l f = tt
take_ends (Err fault.Failed) h l f = tt

-- ---- between two items
pub between_stream : {s : SessionState} {items : List FilledItem} {bytes : List ℕ} (a : HasRead s items bytes)
    → IsBetweenItems s → FilledStream base_table (within_trees (limits_of s)) items bytes (types_of s)
between_stream {s = s} {items = items} {bytes = bytes} a between =
    let none : a.under_way ≡ [] = count_begins_here a between refl in
    let prefix : bytes ≡ a.prefix = a.whole ∙ ap (λ y. a.prefix ++ y) none ∙ append-nil a.prefix in
    subst (λ (b : List ℕ). FilledStream base_table (within_trees (limits_of s)) items b (types_of s)) (sym prefix)
    (subst (λ (T : Table). FilledStream base_table (within_trees (limits_of s)) items a.prefix T)
    (table_between a between) a.stream)

none_of_none : (x y : List ℕ) → [] ≡ x ++ y → y ≡ []
none_of_none [] y e = sym e
none_of_none (a ∷ x) y e = absurd (cc)

pub new_between : {s : SessionState} → HasRead s [] [] → IsBetweenItems s
new_between a =
    let none = none_of_none a.prefix a.under_way a.whole in
    let k = nothing_expects a.stage none in
    between_at (usable a) k.is (k.begins_at ∙ omega (
      arith,
      a.taken,
      ap length a.whole,
      length-append a.prefix a.under_way,
      ap length none,
    ))

-- ---- reading again
pub read_more : {s s' : SessionState} (kept : List ℕ) (at used : ℕ) → HasReadAll s (take at kept)
    → ReadsOne s s' (take used (rest_of kept at)) → IsBetweenItems s' → HasReadAll s' (take (at + used) kept)
read_more {s' = s'} kept at used h f between =
    let m = f h.items (take at kept) h.has in
    record {
      items = h.items ++ m.item ∷ [];
      has = subst (λ (b : List ℕ). HasRead s' (h.items ++ m.item ∷ []) b) (further [] kept at used) m.after;
      between = between;
    }
