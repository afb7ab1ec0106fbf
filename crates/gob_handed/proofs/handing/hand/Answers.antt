use Rattle.std.proofs.Common.{◌≡◌, ◌+◌, ◌≤◌, ◌∙◌, ap, arith, get_or, length, refl, subst, sym}
use Rattle.std.proofs.lemmas.Bool.{false≢true}
use Rattle.std.proofs.lemmas.Grind.{drop_more_same}
use Rattle.std.proofs.lemmas.List.{drop-set-lt}
use Rattle.std.proofs.lemmas.Option.{get_or_from_slice_get, slice_get_within}
use Rattle.gob_types.specs.Defined.{types}
use Rattle.gob_handed.specs.Handed.{handout_bytes, handout_nodes, none_handed}
use Rattle.gob_handed.proofs.PutsLaws.{hand_step, same_at}
use Rattle.gob_handed.proofs.handing.hand.Goals as goal

pub handouts-init : goal.handouts-init
handouts-init c = ((none_handed, (omega arith, omega arith)), refl)

pub handouts-preserved : goal.handouts-preserved
handouts-preserved c =
    let T = types c.args.table.now in
    let old = c.args.handouts.now in
    let i = c.handouts.index in
    let got = c.index-handouts-index.result in
    let here = get_or c.handouts.handouts i got in
    let left = c.handouts.invariant.1 in
    let nodes = c.in-Some.ensures.nodes in
    let bytes = c.in-Some.ensures.bytes in
    let is : here ≡ get_or old i here =
    same_at c.handouts.handouts old i got left ∙ ap (λ d. get_or old i d) c.index-handouts-index.is in
    let long : c.room_of-room.result.bytes ≡ length (handout_bytes T here) =
    omega (arith, c.room_of-room.ensures.bytes, bytes.end, bytes.room) in (
      hand_step T old i here c.handouts.heads c.head_of-head.result c.handouts.at c.in-Some.behind c.handouts.nodes
          c.put_handout.new.nodes c.handouts.pool c.put_handout.new.pool (omega arith) (omega arith) is
          c.handouts.invariant.0 nodes bytes (c.head_of-head.ensures T c.room_of-room.ensures.nodes long),
      drop-set-lt (i + 1) c.handouts.handouts i c.put_handout.new.handout (omega arith)
          ∙ drop_more_same c.handouts.handouts old i left,
    )

pub returns-in_default-clause-room : goal.returns-in_default-clause-room
returns-in_default-clause-room c = λ h e lt ns bs.
    let T = types c.args.table.now in
    let old = c.args.handouts.now in
    let i = c.handouts.index in
    let got = c.index-handouts-index.result in
    let same : h ≡ get_or c.handouts.handouts i got =
    sym (same_at c.handouts.handouts old i got c.handouts.invariant.1 ∙ get_or_from_slice_get old i h got e) in
    let nodes = subst (λ u. c.handouts.at.nodes + length (handout_nodes T u) ≤ length c.args.nodes.now) same ns in
    let bytes = subst (λ u. c.handouts.at.bytes + length (handout_bytes T u) ≤ length c.args.pool.now) same bs in
    absurd (false≢true (c.in_default.ensures.room (omega (arith, nodes)) (omega (arith, bytes))))

pub returns-clause-room : goal.returns-clause-room
returns-clause-room c = λ h e lt ns bs. omega (arith, slice_get_within c.args.handouts.now c.min-most.result h e, lt)
