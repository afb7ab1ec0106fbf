use Rattle.std.proofs.Common.{arith, refl, reverse, ap, ◌<◌, ◌^◌, length}
use Rattle.std.proofs.lemmas.Option.{slice_get_read}
use Rattle.std.proofs.lemmas.Result.{IfOk-from_err}
use Rattle.gob_tape.proofs.TidyingLaws.{nothing_told, node_reached, all_told_of}
use Rattle.gob_tape.proofs.tidying.tidy_nodes.Goals as goal

pub nodes-init : goal.nodes-init
nodes-init g c = nothing_told (ap reverse c.new-stack.ensures.items) (record {
  held = _;
  taped = c.in_ok-builder.ensures;
})

pub nodes-preserved : goal.nodes-preserved
nodes-preserved g c =
    let nodes = c.args.nodes.now in
    let n : length nodes < 2 ^ 64 = omega (arith) in
    node_reached c.nodes.invariant (λ due. c.in_ok-tidy_node.ensures nodes due n
    (slice_get_read nodes _ c.nodes.place _ refl (omega arith) c.index-nodes-place.is))

pub returns : goal.returns
returns g c = all_told_of (omega arith) c.nodes.invariant

pub returns-in_err-builder : goal.returns-in_err-builder
returns-in_err-builder g c = IfOk-from_err c.from_residual.result _ c.from_residual.ensures.0

pub returns-in_err-tidy_node : goal.returns-in_err-tidy_node
returns-in_err-tidy_node g c = IfOk-from_err c.from_residual-in_err-tidy_node.result _
    c.from_residual-in_err-tidy_node.ensures.0
