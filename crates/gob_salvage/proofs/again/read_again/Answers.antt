use Rattle.std.proofs.Common.{◌∙◌, [], arith, ap, length, length-drop}
use Rattle.std.proofs.lemmas.List.{take_rest}
use Rattle.gob_stream.proofs.Reader.FeedingSteps.{rest_of}
use Rattle.gob_salvage.proofs.PassingSteps.{read_passed, reads_some, still_read}
use Rattle.gob_salvage.proofs.TakingSteps.{new_between, read_more}
use Rattle.gob_salvage.proofs.again.read_again.Goals as goal

pub items-init : goal.items-init
items-init c = record {
  read = record {
    items = [];
    has = c.in_ok-session.ensures.has_read;
    between = new_between c.in_ok-session.ensures.has_read;
  };
  within = omega arith;
  limits = c.in_ok-session.ensures.limits;
}

pub items-preserved : goal.items-preserved
items-preserved c =
    let few = c.in-Ok.ensures.used.1 in let w = c.items.invariant.within in
    let p = c.pass_values-passed.ensures in
    record {
      read = read_more c.args.kept.now c.items.at c.in-Ok.used
          (still_read (rest_of c.args.kept.now c.items.at) c.items.invariant.read p.passed (omega arith) p.limits)
          c.in-Ok.ensures.read c.in-Ok.ensures.between;
      within = omega (arith, ap length (take_rest c.args.kept.now c.items.at), length-drop c.items.at c.args.kept.now);
      limits = c.in-Ok.ensures.limits ∙ p.limits ∙ c.items.invariant.limits;
    }

pub items-preserved-then-passed-gt0 : goal.items-preserved-then-passed-gt0
items-preserved-then-passed-gt0 c =
    let p = c.pass_values-passed.ensures in let w = c.items.invariant.within in let q = p.passed.within in
    record {
      read = read_passed c.args.kept.now c.items.at c.pass_values-passed.result.used c.items.invariant.read p.passed
          (p.both (omega arith)).1;
      within = omega (arith, ap length (take_rest c.args.kept.now c.items.at), length-drop c.items.at c.args.kept.now);
      limits = p.limits ∙ c.items.invariant.limits;
    }

pub items-smaller-then-passed-gt0 : goal.items-smaller-then-passed-gt0
items-smaller-then-passed-gt0 c =
    let p = c.pass_values-passed.ensures in let w = c.items.invariant.within in let q = p.passed.within in
    let some = reads_some c.items.invariant.read p.passed (p.both (omega arith)).1 p.limits in
    omega (arith, ap length (take_rest c.args.kept.now c.items.at), length-drop c.items.at c.args.kept.now)
