use Rattle.std.proofs.Common.{sym}
use Rattle.gob_types.specs.Defined.{types}
use Rattle.gob_types.proofs.RankLaws.{filled_told}
use Rattle.gob_types.proofs.grounds.filled_element.Goals as goal

pub returns : goal.returns
returns c = filled_told (types c.args.table.now) c.args.id c.in_ok-shape.shape.now (sym c.in_ok-shape.ensures)
    c.element_of_filled.result c.element_of_filled.ensures
