use Rattle.gob_tool.proofs.TidiedLaws.{number_small, waits_tidied}
use Rattle.gob_tool.proofs.rewrite.TidyItemsItemTextsSessionTapeBuilder.send_whole.Goals as goal

pub send_tidy_whole-requires : goal.send_tidy_whole-requires
send_tidy_whole-requires g c = record { number = number_small c.in_ok-item.ensures.body.names }

pub returns : goal.returns
returns g c =
    let sent = c.in_ok-sent.ensures in (
      sent.0,
      waits_tidied c.table.result.now c.rewritten_depth-depth.ensures c.table.ensures c.in_ok-item.ensures.between
          c.in_ok-item.ensures.body sent.1,
      sent.2,
      sent.3,
    )
