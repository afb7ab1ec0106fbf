use Rattle.gob_value.proofs.WholeSteps.{if_some, numbers_stand}
use Rattle.gob_value.proofs.whole.numbers_end.Goals as goal

pub returns : goal.returns
returns c =
    if_some c.uints_end.result (λ end s T tidy e shape f a. numbers_stand T tidy e shape f a c.requires s)
    c.uints_end.ensures.found
