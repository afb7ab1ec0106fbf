-- The two numbers make a head, and no head stands where one of them doesn't.
use Rattle.std.proofs.Common.{refl}
use Rattle.gob_forms.proofs.HeadLaws.{head_stands, no_second}
use Rattle.gob_forms.proofs.head.head_of.Goals as goal

pub returns-in_err-spelled-clause-none : goal.returns-in_err-spelled-clause-none
returns-in_err-spelled-clause-none c = λ _. no_second c.in_ok-count.ensures.found
    (c.uint_at-2.ensures.none c.in_err-spelled.was)

pub returns-clause-found : goal.returns-clause-found
returns-clause-found c = head_stands c.to_signed-number.result c.in_ok-count.ensures.found
    c.in_ok-spelled.ensures.found c.to_signed-number.ensures c.unsigned_abs.ensures.value refl
