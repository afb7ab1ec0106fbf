use Rattle.std.proofs.Common.{refl, sym, subst}
use Rattle.gob_types.specs.Defined.{types}
use Rattle.gob_join.specs.Machine.Joining.{TakesStep}
use Rattle.gob_join.specs.Renaming.{among}
use Rattle.gob_join.proofs.JoiningLaws.{step_taken}
use Rattle.gob_join.proofs.run.take_step.Goals as goal

pub returns-in-None-clause-taken : goal.returns-in-None-clause-taken
returns-in-None-clause-taken c = subst (λ o. TakesStep o c.args.writer.now c.args.writer.now c.args.text.now.items
    c.args.text.now.items (types c.args.table.now) (among c.args.known.now.renaming)
    (among c.args.known.now.renaming)) (sym c.in-None.is) (refl, refl, refl)

pub returns-in-Some-clause-taken : goal.returns-in-Some-clause-taken
returns-in-Some-clause-taken c = step_taken c.take_item.new.writer c.args.text.now.items c.take_item.new.text.items
    (among c.take_item.new.known.renaming) c.take_item.result c.in-Some.is c.take_item.ensures.taken
