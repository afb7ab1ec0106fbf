use Rattle.std.proofs.Common.{Result, Ok, Err}
use Rattle.std.specs.Prelude.{IfOk, IfErr}
use Rattle.gob_value.proofs.LooseLaws.{loose_shape, loose_fault}
use Rattle.gob_value.proofs.described_shape.shape_from_loosely.Goals as goal

when_ok : {A E : Type 0} {P Q : A → Type 0} (r : Result A E) → ((a : A) → P a → Q a) → IfOk r P → IfOk r Q
when_ok (Ok a) f p = f a p
when_ok (Err e) f p = tt

when_err : {A E : Type 0} {P Q : E → Type 0} (r : Result A E) → ((e : E) → P e → Q e) → IfErr r P → IfErr r Q
when_err (Ok a) f p = tt
when_err (Err e) f p = f e p

pub returns-clause-shape : goal.returns-clause-shape
returns-clause-shape c = when_ok c.shape_from.result (λ s d. loose_shape c.said_id.ensures d) c.shape_from.ensures.shape

pub returns-clause-fault : goal.returns-clause-fault
returns-clause-fault c = when_err c.shape_from.result (λ f m. loose_fault f c.said_id.ensures m)
    c.shape_from.ensures.fault
