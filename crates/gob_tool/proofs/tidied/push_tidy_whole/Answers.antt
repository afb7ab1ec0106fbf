use Rattle.std.proofs.Common.{w64}
use Rattle.std.proofs.lemmas.Int.{to_z_pos}
use Rattle.gob_tool.proofs.TidiedLaws.{tidied_text, tidy_as_it_stands}
use Rattle.gob_tool.proofs.tidied.push_tidy_whole.Goals as goal

pub returns-then-is_tidy_whole-clause-found : goal.returns-then-is_tidy_whole-clause-found
returns-then-is_tidy_whole-clause-found c = λ found.
    tidy_as_it_stands _ (to_z_pos w64 c.args.id.0 c.requires.number) (c.is_tidy_whole.ensures c.if-is_tidy_whole.true)
    c.in_ok-push_content.ensures

pub returns-clause-found : goal.returns-clause-found
returns-clause-found c = λ found.
    tidied_text _ (to_z_pos w64 c.args.id.0 c.requires.number) (c.in_ok-tidy_whole.ensures c.if-not-branch.false)
    c.deref.ensures.value c.in_ok-push_content-2.ensures
