use Rattle.std.proofs.Common.{[], subst, sym}
use Rattle.gob_go_writer.specs.Calls.Writer.{HasPut}
use Rattle.gob_convert.proofs.WantedLaws.{front_new}
use Rattle.gob_convert.proofs.wanted.Front.new.Goals as goal

pub returns-clause-new : goal.returns-clause-new
returns-clause-new c = front_new (subst (λ b. HasPut c.in_ok-new.field-0 [] b) (sym c.new-2.ensures.items)
    c.in_ok-new.ensures.nothing) c.new-3.ensures.items
