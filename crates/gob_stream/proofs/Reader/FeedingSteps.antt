-- How far feeding has come in a piece.
use Rattle.std.proofs.Common.{◌≡◌, ◌-◌, ◌∙◌, List, ℕ, [], ◌∷◌, ◌++◌, None, Some, Result, Ok, Err, ap, append_assoc}
use Rattle.std.proofs.Common.{drop, length, refl, subst, sym, take}
use Rattle.std.proofs.lemmas.List.{append-nil, nil_from_length, take-append-drop, take_rest}
use Rattle.std.specs.Result.{IsErrAnd}
use Rattle.gob_stream.specs.Feeding.{FeedsBy, ReachesBy, StopsBy, TakesBy, at_item, at_step, no_item, no_step, one_item}
use Rattle.gob_stream.specs.Reading.{Given}
use Rattle.gob_stream.specs.Stepping.{Stepping}
use Rattle.gob_stream.specs.declared.fault.Fault.{Fault}
use Rattle.gob_stream.specs.declared.fault.Fault.TheVariants as fault
use Rattle.gob_stream.specs.declared.session.Advance.{Advance}

-- bytes from there on, as a slice
abbrev pub rest_of : List ℕ → ℕ → List ℕ
rest_of bytes used = take (length bytes - used) (drop used bytes)

-- steps took the bytes before the rest, and gave what is new
pub record HasFedTo {X Item Told : Type 0} (d : Stepping X Item Told) (s s' : X) (out out' : List Item)
    (piece rest : List ℕ) : Type 0 where
  pub given : List Item
  pub taken : List ℕ
  pub appended : out' ≡ out ++ given
  pub whole : piece ≡ taken ++ rest
  pub reached : ReachesBy d s given taken s'
  pub limits : d.limits s' ≡ d.limits s

module _ {X Item Told : Type 0} (d : Stepping X Item Told) where
  pub fed_nothing : (s : X) (out : List Item) (piece : List ℕ) → HasFedTo d s s out out piece piece
  fed_nothing s out piece = record {
    given = [];
    taken = [];
    appended = sym (append-nil out);
    whole = refl;
    reached = no_step;
    limits = refl;
  }

  behind : {piece : List ℕ} (taken rest : List ℕ) (used : ℕ) → piece ≡ taken ++ rest
      → piece ≡ (taken ++ take used rest) ++ rest_of rest used
  behind taken rest used e =
      e ∙ ap (λ l. taken ++ l) (sym (take-append-drop used rest))
      ∙ sym (append_assoc taken (take used rest) (drop used rest))
      ∙ ap (λ l. (taken ++ take used rest) ++ l) (sym (take_rest rest used))

  pub fed_further : {s t t' : X} {out out' : List Item} {piece rest : List ℕ} {step : Advance Item}
      → HasFedTo d s t out out' piece rest → TakesBy d t t' rest step → step.item ≡ None
      → HasFedTo d s t' out out' piece (rest_of rest step.used)
  fed_further {rest = rest} {step = step} h o none = record {
    given = h.given;
    taken = _;
    appended = h.appended;
    whole = behind h.taken rest step.used h.whole;
    reached = no_item h.reached o none;
    limits = o.limits ∙ h.limits;
  }

  pub fed_item : {s t t' u : X} {out out' out'' : List Item} {piece rest : List ℕ} {step : Advance Item} {item : Item}
      → HasFedTo d s t out out' piece rest → TakesBy d t t' rest step → step.item ≡ Some item → u ≡ t'
      → out'' ≡ out' ++ item ∷ [] → HasFedTo d s u out out'' piece (rest_of rest step.used)
  fed_item {s = s} {out = out} {rest = rest} {step = step} {item = item} h o one same more = record {
    given = h.given ++ item ∷ [];
    taken = _;
    appended = more ∙ ap (λ l. l ++ item ∷ []) h.appended ∙ append_assoc out h.given (item ∷ []);
    whole = behind h.taken rest step.used h.whole;
    reached = subst (λ t. ReachesBy d s (h.given ++ item ∷ []) (h.taken ++ take step.used rest) t) (sym same)
        (one_item h.reached o one);
    limits = ap (λ t. d.limits t) same ∙ o.limits ∙ h.limits;
  }

  -- all of the piece was taken
  pub feeds_all : {s s' : X} {out out' : List Item} {piece rest : List ℕ} → HasFedTo d s s' out out' piece rest
      → length rest ≡ 0 → Given out out' (λ given. ReachesBy d s given piece s')
  feeds_all {s = s} {s' = s'} {rest = rest} h none = record {
    given = h.given;
    appended = h.appended;
    holds = subst (λ l. ReachesBy d s h.given l s')
        (sym (h.whole ∙ ap (λ l. h.taken ++ l) (nil_from_length rest none) ∙ append-nil h.taken)) h.reached;
  }

  -- a step stops
  pub stops_at_step : {s t s' : X} {out out' : List Item} {piece rest : List ℕ} (result : Result (Unit {0}) Fault)
      (f : Fault) → IsErrAnd result (λ e. e ≡ f) → HasFedTo d s t out out' piece rest → d.steps t s' rest (Err f)
      → Given out out' (λ given. FeedsBy d s s' piece given result)
  stops_at_step (Ok u) f is h o = absurd is
  stops_at_step {s = s} {s' = s'} {piece = piece} (Err e) f is h o = record {
    given = h.given;
    appended = h.appended;
    holds = subst (λ f. StopsBy d s s' piece h.given f) (sym is) (at_step h.reached h.whole o);
  }

  -- memory is wanting for the item that a step gave
  pub stops_at_item : {s t t' s' : X} {out out' out'' : List Item} {piece rest : List ℕ} {step : Advance Item}
      {item : Item} (result : Result (Unit {0}) Fault) (f : Fault) → IsErrAnd result (λ e. e ≡ f) → f ≡ fault.Memory
      → HasFedTo d s t out out' piece rest → TakesBy d t t' rest step → step.item ≡ Some item
      → d.table s' ≡ d.table t' → d.taken s' ≡ d.taken t' → out'' ≡ out'
      → Given out out'' (λ given. FeedsBy d s s' piece given result)
  stops_at_item (Ok u) f is memory h o one table taken same = absurd is
  stops_at_item {s = s} {s' = s'} {piece = piece} (Err e) f is memory h o one table taken same = record {
    given = h.given;
    appended = same ∙ h.appended;
    holds = subst (λ f. StopsBy d s s' piece h.given f) (sym (is ∙ memory))
        (at_item h.reached h.whole o one table taken);
  }
