use Rattle.std.proofs.Common.{arith, length-take}
use Rattle.gob_stream.proofs.Reader.WholeSteps.{found_items}
use Rattle.gob_stream.proofs.values.whole_values.Goals as goal

pub returns : goal.returns
returns c =
    found_items c.args.limits.now c.args.offset c.args.depth c.args.piece.now c.min-near.result
    c.runs_of.ensures.are c.item.ensures
    (omega (arith, c.depth.ensures.depth, c.min-depth.ensures))
    (omega (arith, c.min-near.ensures, c.saturating_sub-room.ensures, c.stream.ensures.stream))

pub slice_bounds-runs_of-end : goal.slice_bounds-runs_of-end
slice_bounds-runs_of-end c =
    omega (arith, c.min-near.ensures, length-take c.min-near.result c.args.piece.now)
