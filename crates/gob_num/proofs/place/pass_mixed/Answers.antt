use Rattle.std.proofs.Common.{arith}
use Rattle.gob_num.proofs.PlaceLaws.{passes_none, passes_one_more}
use Rattle.gob_num.proofs.place.pass_mixed.Goals as goal

pub mixed-init : goal.mixed-init
mixed-init c = record { passed = passes_none; inside = c.requires.place }

pub mixed-preserved : goal.mixed-preserved
mixed-preserved c =
    let stands = c.size_at-size.ensures (omega (arith, c.if-size-eq0.false)) in
    record {
      passed = passes_one_more (omega (arith, c.mixed-test.true)) stands c.mixed.invariant.passed;
      inside = stands.1.inside;
    }
