-- A zero begins with a byte 0, and one of a complex number has two.
use Rattle.std.proofs.Common.{sym, subst, drop}
use Rattle.gob_types.specs.declared.kind.Kind.TheVariants as kind
use Rattle.gob_value.specs.Machine.Begins.{BeginsKept}
use Rattle.gob_value.proofs.KeptLaws.{kept_at, complex_kept_at, nil_kept}
use Rattle.gob_value.proofs.whole.is_basic_dropped_at.Goals as goal

pub returns-in-Interface : goal.returns-in-Interface
returns-in-Interface c = λ kept. subst (λ b. BeginsKept (kind.Basic b) (drop c.args.at c.args.body.now))
    (sym c.in-Interface.is) (nil_kept (drop c.args.at c.args.body.now))

pub returns-then-is_zero_at : goal.returns-then-is_zero_at
returns-then-is_zero_at c = λ kept. subst (λ b. BeginsKept (kind.Basic b) (drop c.args.at c.args.body.now))
    (sym c.in-Complex.is) (complex_kept_at c.args.body.now c.args.at (c.is_zero_at-then-is_zero_at.ensures kept))

pub returns-else-is_zero_at : goal.returns-else-is_zero_at
returns-else-is_zero_at c = λ kept.
    kept_at (kind.Basic c.args.basic) c.args.body.now c.args.at (c.is_zero_at.ensures kept)

pub returns-in_default : goal.returns-in_default
returns-in_default c = λ kept.
    kept_at (kind.Basic c.args.basic) c.args.body.now c.args.at (c.is_zero_at-in_default.ensures kept)
