-- A line where it is time to.
use Rattle.std.proofs.Common.{rules, ◌≡◌, ◌∙◌, string_bytes}
use Rattle.gob_progress.proofs.TellingLaws.{tells_nothing, tells_reached}
use Rattle.gob_progress.proofs.meter.Meter.pass.Goals as goal

pub returns-in_default-clause-told : goal.returns-in_default-clause-told
returns-in_default-clause-told g c = tells_nothing _ _ _

pub returns-in_default-line-clause-told : goal.returns-in_default-line-clause-told
returns-in_default-line-clause-told g c = tells_nothing _ _ _

pub returns-in-Ok-clause-told : goal.returns-in-Ok-clause-told
returns-in-Ok-clause-told g c =
    let bytes : c.as_bytes.result.now ≡ string_bytes c.in-Ok.line = search rules in
    tells_reached _ _ _ _ _ c.write.result _ (bytes ∙ c.in-Ok.ensures) c.write.ensures.bytes
