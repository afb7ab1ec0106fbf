use Rattle.gob_make.proofs.OpaqueLaws.{string_shown}
use Rattle.gob_make.proofs.opaque.bytes_of.Goals as goal

pub returns-then-branch : goal.returns-then-branch
returns-then-branch c =
    string_shown c.args.content c.deref.result.now c.in-Some-2.bytes.items c.args.text.now c.deref.ensures.value
    (c.in_ok-is_said.ensures c.if-branch.true)
