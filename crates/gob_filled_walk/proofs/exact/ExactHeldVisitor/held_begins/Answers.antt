-- One event has its text.
use Rattle.std.proofs.Common.{Ok, append-nil, refl, subst, sym}
use Rattle.gob_filled_walk.proofs.WalkLaws.{ok_more}
use Rattle.gob_filled_walk.specs.HeldText.{held_head}
use Rattle.gob_filled_walk.proofs.exact.ExactHeldVisitor.held_begins.Goals as goal

pub returns : goal.returns
returns g c = ok_more c.put_held_head.result (λ p. (
  refl,
  subst (λ t. g.O.TextOut.puts c.args.self.now.out.now c.put_held_head.new.out t (Ok tt))
      (sym (append-nil (held_head c.args.name.now c.args.id))) p,
)) c.put_held_head.ensures
