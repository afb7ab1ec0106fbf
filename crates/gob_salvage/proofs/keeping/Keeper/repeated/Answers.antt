use Rattle.std.proofs.Common.{Some, ap, subst}
use Rattle.gob_stream.specs.declared.limits.Limits.{Limits}
use Rattle.gob_salvage.specs.Again.{IsNumbered}
use Rattle.gob_salvage.proofs.AgainSteps.{again_next}
use Rattle.gob_salvage.proofs.keeping.Keeper.repeated.Goals as goal

pub returns : goal.returns
returns c =
    let f = c.in_ok-frame.frame in
    let t = c.in_ok-frame.ensures in
    again_next c.args.self.now (Some c.in_ok-again.again) c.in_ok-again.ensures c.if-not-self.false c.if-frame.false
    t.behind t.within (subst (λ n. IsNumbered n c.args.bytes.now c.args.self.now.at f.head f.body f.end f.number)
    (ap (λ (l : Limits). l.item) c.limits-limits.ensures) t.numbered) t.frame
    (c.defines_again.ensures c.if-not-defines_again.false)
