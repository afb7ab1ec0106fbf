use Rattle.std.proofs.Common.{w64}
use Rattle.std.proofs.lemmas.Int.{to_z_pos}
use Rattle.gob_tool.proofs.TidiedLaws.{sends_tidy, tidied_text, tidy_as_it_stands}
use Rattle.gob_tool.proofs.tidied.send_tidy_whole.Goals as goal

pub returns-then-is_tidy_whole : goal.returns-then-is_tidy_whole
returns-then-is_tidy_whole g c =
    sends_tidy _ _ _ _ c.send_content.result (λ text h.
    tidy_as_it_stands _ (to_z_pos w64 c.args.id.0 c.requires.number) (c.is_tidy_whole.ensures c.if-is_tidy_whole.true)
    h) c.send_content.ensures

pub returns-in-Ok-true : goal.returns-in-Ok-true
returns-in-Ok-true g c =
    sends_tidy _ _ _ _ c.send_content-in-Ok-true.result (λ text h.
    tidied_text _ (to_z_pos w64 c.args.id.0 c.requires.number) (c.in-Ok-true.ensures c.in-Ok-true.field-0-test)
    c.deref.ensures.value h) c.send_content-in-Ok-true.ensures
