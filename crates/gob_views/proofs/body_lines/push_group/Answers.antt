-- So many parts were put.
use Rattle.std.proofs.Common.{◌≡◌, ◌-◌, arith, drop, length, take}
use Rattle.std.proofs.lemmas.List.{length-drop, take_all}
use Rattle.gob_views.proofs.PartLineLaws.{put_parts}
use Rattle.gob_views.proofs.body_lines.push_group.Goals as goal

pub returns-clause-put : goal.returns-clause-put
returns-clause-put c = λ each has.
    let body = c.args.body.now in
    let begin = c.args.ahead.begin in
    let all : take (length body - begin) (drop begin body) ≡ drop begin body =
    take_all (length body - begin) (drop begin body) (omega (arith, length-drop begin body)) in
    rw all at (put_parts {lines = c.args.of.now.lines} c.args.of.now.style c.args.depth c.args.ahead.parts each
    has c.next_parts-group.ensures.whole c.in_ok-push_parts_alone.ensures)
