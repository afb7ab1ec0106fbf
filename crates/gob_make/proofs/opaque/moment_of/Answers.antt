use Rattle.std.proofs.Common.{◌≡◌, ◌∙◌}
use Rattle.gob_make.specs.Tells.{parts_text}
use Rattle.gob_make.proofs.OpaqueLaws.{moment_shown}
use Rattle.gob_make.proofs.opaque.moment_of.Goals as goal

pub returns-then-branch : goal.returns-then-branch
returns-then-branch c =
    let shown : c.in-Ok.shown.now ≡ parts_text c.in-Some.parts =
    c.in-Ok.ensures.cases.0 ∙ c.deref.ensures.value ∙ c.in_ok-trimmed.ensures in
    moment_shown c.args.content c.deref-2.result.now c.in-Some-2.bytes.items c.args.text.now
    (parts_text c.in-Some.parts) c.in-Ok.shown.now c.requires c.deref-2.ensures.value c.in-Some.ensures shown
    (c.in_ok-is_said.ensures c.if-branch.true)
