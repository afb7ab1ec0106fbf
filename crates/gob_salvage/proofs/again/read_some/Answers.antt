use Rattle.std.proofs.Common.{◌∙◌, ◌≡◌, ap, arith, subst}
use Rattle.gob_stream.specs.Bounds.{within_trees}
use Rattle.gob_salvage.specs.Searching.{BeginsStream}
use Rattle.gob_salvage.proofs.SearchLaws.{begins_so, read_none, read_one}
use Rattle.gob_salvage.proofs.again.read_some.Goals as goal

pub items-init : goal.items-init
items-init c = record {
  some = read_none c.args.piece.now c.in_ok-session.ensures.has_read;
  limits = c.in_ok-session.ensures.limits;
}

pub items-preserved : goal.items-preserved
items-preserved c = record {
  some = read_one c.args.piece.now c.items.invariant.some c.in-Ok.ensures.read c.in-Ok.ensures.between
      c.in-Ok.ensures.used.1;
  limits = c.in-Ok.ensures.limits ∙ c.items.invariant.limits;
}

pub returns-then-end-piece : goal.returns-then-end-piece
returns-then-end-piece c =
    let s = c.items.invariant.some in
    begins_so s.read s.counted s.inside (ap (λ L. within_trees L) c.items.invariant.limits)

pub returns-in-Err-Refused : goal.returns-in-Err-Refused
returns-in-Err-Refused c =
    let s = c.items.invariant.some in
    begins_so s.read s.counted s.inside (ap (λ L. within_trees L) c.items.invariant.limits)

pub returns : goal.returns
returns c =
    let s = c.items.invariant.some in
    let all : c.items.items ≡ c.args.most = omega arith in
    subst (λ n. BeginsStream (within_trees c.args.limits) c.args.piece.now n c.items.end) all
    (begins_so s.read s.counted s.inside (ap (λ L. within_trees L) c.items.invariant.limits))
