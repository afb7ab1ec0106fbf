use Rattle.std.proofs.Common.{w64}
use Rattle.std.proofs.lemmas.Int.{to_z_pos}
use Rattle.std.proofs.lemmas.Result.{on_ok_weaker}
use Rattle.gob_tool.specs.Machine.Rewritten.{spells_value}
use Rattle.gob_tool.proofs.TidiedLaws.{numbered_as}
use Rattle.gob_tool.proofs.received_form.push_put.Goals as goal

pub returns : goal.returns
returns c = on_ok_weaker c.push_content.result (λ h.
    spells_value c.in_ok-spell_top.ensures
    (numbered_as (to_z_pos w64 c.args.id.0 c.requires.number) c.deref.ensures.value h)) c.push_content.ensures
