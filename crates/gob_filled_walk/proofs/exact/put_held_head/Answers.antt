-- The pieces one behind another.
use Rattle.std.proofs.Common.{Ok}
use Rattle.gob_filled_walk.proofs.WalkLaws.{on_ok}
use Rattle.gob_filled_walk.specs.HeldText.{held_head}
use Rattle.gob_filled_walk.proofs.exact.put_held_head.Goals as goal

pub returns : goal.returns
returns g c =
    let joined = g.met.O.TextOut.joined in
    on_ok (λ r. g.O.TextOut.puts c.args.out.now c.put-3.new.self (held_head c.args.name.now c.args.id) r) c.put-3.result
    (joined _ _ _ _ _ _ c.in_ok-put.ensures (joined _ _ _ _ _ _ c.in_ok-put_text.ensures
    (joined _ _ _ _ _ _ c.in_ok-put-2.ensures (joined _ _ _ _ _ _ c.in_ok-put_natural.ensures c.put-3.ensures))))
