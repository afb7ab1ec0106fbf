use Rattle.std.proofs.lemmas.Result.{err_from_is_err_and}
use Rattle.gob_go.specs.Machine.Parts.{of_item}
use Rattle.gob_go.proofs.NextCountSteps.{item_fault}
use Rattle.gob_go.proofs.levels.Levels.begin_item_segment.Goals as goal

pub returns-in_err-of_item : goal.returns-in_err-of_item
returns-in_err-of_item c =
    let p = err_from_is_err_and c.from_residual.result c.from_residual.ensures.1 in
    rw (p.1, p.2) (item_fault c.in_err-of_item.field-0.0 c.requires c.in_err-of_item.ensures)

pub returns : goal.returns
returns c = of_item c.requires c.in_ok-of_item.ensures.0 c.in_ok-of_item.ensures.1
