use Rattle.std.proofs.Common.{◌≡◌, ◌+◌, arith, subst}
use Rattle.gob_num.specs.Place.{NumberStandsAt}
use Rattle.gob_num.proofs.PlaceLaws.{passes_none, passes_one_more}
use Rattle.gob_num.proofs.place.Counted.pass_alike.Goals as goal

pub alike-init : goal.alike-init
alike-init c = record {
  passed = passes_none;
  inside = c.requires.place;
  size = omega (arith, c.from-size.ensures);
}

pub alike-preserved : goal.alike-preserved
alike-preserved c =
    let stands = c.begins_number.ensures c.if-begins_number.true in
    let size = c.alike.invariant.size in
    let next : c.alike.at + 1 + c.args.self.count ≡ c.alike.at + (c.from-size.result + 1) = omega (arith, size) in
    let here = subst (λ e. NumberStandsAt c.args.bytes.now c.alike.at e) next stands in
    record {
      passed = passes_one_more (omega (arith, c.alike-test.true)) here c.alike.invariant.passed;
      inside = here.1.inside;
      size = size;
    }
