use Rattle.std.proofs.Common.{◌∙◌, ap}
use Rattle.std.specs.Prelude.{None, Some}
use Rattle.gob_num.proofs.PlaceLaws.{all_taken}
use Rattle.gob_go_source.specs.Scanning.{end_of}
use Rattle.gob_go_source.proofs.LexingLaws.{front_is}
use Rattle.gob_go_source.proofs.piece.front_of.Goals as goal

pub returns-clause-front : goal.returns-clause-front
returns-clause-front c =
    let start = c.in_ok-start.start in
    front_is c.args.text.now start (Some c.in_ok-count.count) c.in_ok-start.ensures.start
    (c.in_ok-count.ensures.end ∙ ap (end_of start.scan) (all_taken c.args.text.now start.len))

pub returns-in_err-count-clause-front : goal.returns-in_err-count-clause-front
returns-in_err-count-clause-front c =
    let start = c.in_ok-start.start in
    rw c.from_residual-in_err-count.ensures
    (front_is c.args.text.now start None c.in_ok-start.ensures.start
    (c.in_err-count.ensures.end ∙ ap (end_of start.scan) (all_taken c.args.text.now start.len)))
