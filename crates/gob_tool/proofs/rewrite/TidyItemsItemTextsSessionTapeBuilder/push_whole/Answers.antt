use Rattle.gob_tool.proofs.TidiedLaws.{number_small, waits_tidied}
use Rattle.gob_tool.proofs.rewrite.TidyItemsItemTextsSessionTapeBuilder.push_whole.Goals as goal

pub push_tidy_whole-requires-clause-number : goal.push_tidy_whole-requires-clause-number
push_tidy_whole-requires-clause-number g c = number_small c.in-Some.ensures.body.names

pub returns : goal.returns
returns g c =
    waits_tidied c.table.result.now c.rewritten_depth-depth.ensures c.table.ensures c.in-Some.ensures.between
    c.in-Some.ensures.body (c.in_ok-push_tidy_whole.ensures.found c.if-not-branch.false)
