use Rattle.gob_make.proofs.OpaqueLaws.{number_shown}
use Rattle.gob_make.proofs.opaque.number_bytes.Goals as goal

pub returns-then-branch : goal.returns-then-branch
returns-then-branch c =
    number_shown c.args.content c.deref.result.now c.in-Some.bytes.items c.args.text.now c.deref.ensures.value
    (c.in_ok-is_said.ensures c.if-branch.true)
