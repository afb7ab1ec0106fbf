use Rattle.std.proofs.Common.{refl}
use Rattle.gob_salvage.proofs.AgainSteps.{passes_again}
use Rattle.gob_salvage.proofs.keeping.Keeper.pass_repeated.Goals as goal

pub returns : goal.returns
returns c = λ S bytes h r.
    passes_again bytes _ h r c.in_ok-push.ensures.items refl refl refl refl refl refl refl refl refl refl refl refl refl
    refl
