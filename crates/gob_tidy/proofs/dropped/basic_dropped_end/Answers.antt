use Rattle.std.proofs.Common.{refl, sym, subst, drop, ◌≢◌, Some}
use Rattle.std.specs.Prelude.{slice_get}
use Rattle.gob_types.specs.declared.kind.Kind.TheVariants as kind
use Rattle.gob_value.specs.Machine.Begins.{BeginsKept}
use Rattle.gob_value.proofs.KeptLaws.{complex_kept_at, kept_at, nil_kept}
use Rattle.gob_value.proofs.PublicLaws.{both, seen}
use Rattle.gob_tidy.proofs.DroppedLaws.{zero_dropped, zeros_dropped}
use Rattle.gob_tidy.proofs.WholeTidied.{if_some}
use Rattle.gob_tidy.proofs.dropped.basic_dropped_end.Goals as goal

pub returns-in_err-behind-in-Complex-clause-kept : goal.returns-in_err-behind-in-Complex-clause-kept
returns-in_err-behind-in-Complex-clause-kept c = λ none.
    kept_at (kind.Basic c.args.basic) c.args.body.now c.args.at (c.in_err-behind-in-Complex.ensures.none refl)

pub returns-in-Interface-clause-kept : goal.returns-in-Interface-clause-kept
returns-in-Interface-clause-kept c = λ none. subst (λ b. BeginsKept (kind.Basic b) (drop c.args.at c.args.body.now))
    (sym c.in-Interface.is) (nil_kept (drop c.args.at c.args.body.now))

pub returns-in_ok-behind-in-Complex-clause-dropped : goal.returns-in_ok-behind-in-Complex-clause-dropped
returns-in_ok-behind-in-Complex-clause-dropped c =
    rw c.in-Complex.is (if_some c.zero_end-in-Complex.result
    (λ end s T. both c.in_ok-behind-in-Complex.ensures.stands s (zeros_dropped T))
    c.zero_end-in-Complex.ensures.stands)

pub returns-in_ok-behind-in-Complex-clause-kept : goal.returns-in_ok-behind-in-Complex-clause-kept
returns-in_ok-behind-in-Complex-clause-kept c = λ none.
    subst (λ b. BeginsKept (kind.Basic b) (drop c.args.at c.args.body.now)) (sym c.in-Complex.is)
    (complex_kept_at c.args.body.now c.args.at
    (subst (λ at. slice_get c.args.body.now at ≢ Some 0) c.in_ok-behind-in-Complex.ensures.onward
    (c.zero_end-in-Complex.ensures.none none)))

pub returns-in_default-clause-dropped : goal.returns-in_default-clause-dropped
returns-in_default-clause-dropped c =
    if_some c.zero_end-in_default.result
    (λ end s T. seen s (zero_dropped T c.args.basic c.in_default.not-Interface c.in_default.not-Complex))
    c.zero_end-in_default.ensures.stands

pub returns-in_default-clause-kept : goal.returns-in_default-clause-kept
returns-in_default-clause-kept c = λ none.
    kept_at (kind.Basic c.args.basic) c.args.body.now c.args.at (c.zero_end-in_default.ensures.none none)
