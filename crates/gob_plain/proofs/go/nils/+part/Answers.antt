-- Part by part the nils of more parts are appended, and fewer parts are left.
use Rattle.std.proofs.Common.{ap, arith, sym, subst}
use Rattle.gob_tape.specs.Seeing.{Gives, nodes_left, parts_of}
use Rattle.gob_json_writer.proofs.TapeLaws.{fewer_left, next_is}
use Rattle.gob_plain.proofs.NilPartLaws.{nils_begun, nils_ended, nils_on}
use Rattle.gob_plain.proofs.go.nils.+part.Goals as goal

pub loop-inner-init : goal.loop-inner-init
loop-inner-init t c =
    let same = c.into_iter-inner-iterator.ensures.into_iter_gives in
    let nodes = ap nodes_left same in
    let few = c.children-inner-items.ensures.fewer in record {
      next = tt;
      finite = tt;
      fewer = omega (arith, nodes, few);
      left = λ f v s. nils_begun (subst (λ p. Gives p (parts_of v)) (sym same)
          (c.children-inner-items.ensures.parts f v s)) (c.kind.ensures f v s) c.in-Some.ensures.1
          c.in_ok-push_own.ensures;
    }

pub loop-inner-preserved : goal.loop-inner-preserved
loop-inner-preserved t c =
    let fewer = fewer_left c.next.ensures.steps c.in-Some-inner.is in
    let few = c.loop-inner.invariant.fewer in record {
      next = tt;
      finite = tt;
      fewer = omega (arith, fewer, few);
      left = λ f v s.
          nils_on (c.loop-inner.invariant.left f v s) (next_is c.next.ensures.steps c.in-Some-inner.is)
          c.in_ok-behind.ensures.behind c.in_ok-behind.ensures.nils;
    }

pub returns-clause-behind : goal.returns-clause-behind
returns-clause-behind t c = λ f v s.
    (nils_ended (c.loop-inner.invariant.left f v s) (next_is c.next.ensures.steps c.in-None.is)).0

pub returns-clause-nils : goal.returns-clause-nils
returns-clause-nils t c = λ f v s.
    (nils_ended (c.loop-inner.invariant.left f v s) (next_is c.next.ensures.steps c.in-None.is)).1
