use Rattle.std.proofs.lemmas.Result.{on_ok_weaker}
use Rattle.gob_tool.proofs.Profile.FormLaws.{hoisted_text, short_given}
use Rattle.gob_tool.proofs.go.forms.push_hoisted.Goals as goal

pub hoist_and_write-requires : goal.hoist_and_write-requires
hoist_and_write-requires c = short_given c.requires.of_stream c.in-Ok.ensures.made c.in-Ok.ensures.short

pub returns-in-Ok : goal.returns-in-Ok
returns-in-Ok c = on_ok_weaker c.hoist_and_write.result
    (λ h i m. hoisted_text i c.in-Ok.ensures.made c.in-Ok.ensures.short h m) c.hoist_and_write.ensures
