use Rattle.std.proofs.Common.{refl}
use Rattle.gob_tidy.proofs.WholeTidied.{if_some, nil_given}
use Rattle.gob_tidy.proofs.tidying.tidy_nil.Goals as goal

pub returns : goal.returns
returns g c =
    if_some c.copy_each.result (λ end s. nil_given c.args.part.body.now c.args.part.at end c.requires.nil
    c.in_ok-put_place.ensures refl s) c.copy_each.ensures
