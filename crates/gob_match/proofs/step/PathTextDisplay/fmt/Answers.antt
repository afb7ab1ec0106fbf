use Rattle.std.proofs.Common.{true, refl}
use Rattle.std.proofs.lemmas.Grind.{put_two}
use Rattle.gob_match.specs.ClashText.{step_text}
use Rattle.gob_match.proofs.TextLaws.{next_text}
use Rattle.gob_match.proofs.step.PathTextDisplay.fmt.Goals as goal

pub loop-step-preserved : goal.loop-step-preserved
loop-step-preserved g c = λ plain.
    let before = c.loop-step.invariant plain in
    put_two g.W.Write.write_str_gives _ _ _ _ _ _ before (c.in_ok-fmt.ensures.writes before.plain (refl {a = true}))
    (next_text step_text c.args.self.now.0.now c.loop-step.step-index c.step-item.result
    c.loop-step-test.true c.step-item.is)
