-- One more part is on its line.
use Rattle.gob_views.proofs.PlainLaws.{part_on}
use Rattle.gob_views.proofs.value_line.push_part_lines.Goals as goal

pub parts-preserved : goal.parts-preserved
parts-preserved c = λ j read.
    let left = c.parts.invariant j read in
    let next = rw c.in-Some-3.is at (c.in_ok-part.ensures.next left.left left.has) in
    part_on left next (c.in_ok-push_json.ensures next.part next.text_of_it.printed next.text_of_it.read)
