use Rattle.std.proofs.Common.{◌∙◌, arith, eqb-true}
use Rattle.gob_tidy.proofs.WholeTidied.{whole_tidied}
use Rattle.gob_tidy.proofs.tidying.tidy_form.Goals as goal

pub returns-in-Some : goal.returns-in-Some
returns-in-Some g c = λ ends.
    whole_tidied c.args.whole.body.now c.args.whole.nils.now c.in-Some.end (omega arith) (eqb-true _ _ ends)
    (c.reserve.ensures.items ∙ c.clear.ensures.items) c.requires.none c.in-Some.ensures
