use Rattle.std.proofs.Common.{◌+◌, ◌∙◌, drop, sym, refl, arith}
use Rattle.gob_go_source.specs.Scanning.{end_of}
use Rattle.gob_go_source.proofs.ScanLaws.{begun, goes_on, ends_before, ends_behind, is_broken, ends_last, breaks_last}
use Rattle.gob_go_source.proofs.scan.end_of.Goals as goal

pub bytes-init : goal.bytes-init
bytes-init c = record { so_far = begun (end_of c.args.scan c.args.bytes.now); within = omega arith }

pub bytes-preserved : goal.bytes-preserved
bytes-preserved c = record {
  so_far = goes_on c.bytes.goes_on c.in-On.next c.in-Some.byte c.bytes.at (drop (c.bytes.at + 1) c.args.bytes.now)
      (drop c.bytes.at c.args.bytes.now) (end_of c.args.scan c.args.bytes.now) c.bytes.invariant.so_far
      c.in-Some.ensures.some c.in-On.ensures;
  within = omega (arith, c.in-Some.ensures.within);
}

pub returns-in-Before-clause-end : goal.returns-in-Before-clause-end
returns-in-Before-clause-end c =
    ends_before c.bytes.goes_on c.in-Some.byte c.bytes.at (drop (c.bytes.at + 1) c.args.bytes.now)
    (drop c.bytes.at c.args.bytes.now) (end_of c.args.scan c.args.bytes.now) c.bytes.invariant.so_far
    c.in-Some.ensures.some c.in-Before.ensures

pub returns-in-Behind-clause-end : goal.returns-in-Behind-clause-end
returns-in-Behind-clause-end c =
    ends_behind c.bytes.goes_on c.in-Some.byte c.bytes.at (drop (c.bytes.at + 1) c.args.bytes.now)
    (drop c.bytes.at c.args.bytes.now) (end_of c.args.scan c.args.bytes.now) c.bytes.invariant.so_far
    c.in-Some.ensures.some c.in-Behind.ensures

pub returns-in-Broken-clause-end : goal.returns-in-Broken-clause-end
returns-in-Broken-clause-end c =
    is_broken c.bytes.goes_on c.in-Some.byte c.bytes.at (drop (c.bytes.at + 1) c.args.bytes.now)
    (drop c.bytes.at c.args.bytes.now) (end_of c.args.scan c.args.bytes.now) c.bytes.invariant.so_far
    c.in-Some.ensures.some c.in-Broken.ensures

pub returns-then-may_end-clause-end : goal.returns-then-may_end-clause-end
returns-then-may_end-clause-end c =
    ends_last c.bytes.goes_on c.bytes.at (drop c.bytes.at c.args.bytes.now) (end_of c.args.scan c.args.bytes.now)
    c.bytes.invariant.so_far (c.in_default.ensures.none refl) (sym c.if-may_end.true ∙ c.may_end.ensures)

pub returns-else-may_end-clause-end : goal.returns-else-may_end-clause-end
returns-else-may_end-clause-end c =
    breaks_last c.bytes.goes_on c.bytes.at (drop c.bytes.at c.args.bytes.now) (end_of c.args.scan c.args.bytes.now)
    c.bytes.invariant.so_far (c.in_default.ensures.none refl) (sym c.if-may_end.false ∙ c.may_end.ensures)
