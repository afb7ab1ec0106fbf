use Rattle.std.proofs.Common.{◌∙◌, sym, subst}
use Rattle.gob_read.specs.Calls.Reader.{ReaderHasRead}
use Rattle.gob_read.proofs.Machine.Nils.{nil_depth}
use Rattle.gob_read.proofs.Machine.Bodies.{run_at_nil}
use Rattle.gob_read.proofs.reader.BodyReader.depth_of_nil.Goals as goal

pub returns-in-Some : goal.returns-in-Some
returns-in-Some g c = λ T n t limit announced e z h x.
    let r = subst (λ o. ReaderHasRead T t limit announced g.B.Builder.building.received o z)
    c.in-Some.is h in
    c.depth_now.ensures ∙ nil_depth (run_at_nil c.in-Some.run' (sym c.in-Some.is) n) r.so_far x
