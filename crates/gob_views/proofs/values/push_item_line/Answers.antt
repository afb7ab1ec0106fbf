use Rattle.std.proofs.Common.{◌≡◌, rules}
use Rattle.std.proofs.lemmas.Result.{on_ok_weaker}
use Rattle.gob_go.specs.declared.item.GoItem.TheVariants as item
use Rattle.gob_views.proofs.PlainLaws.{definition_line, value_line}
use Rattle.gob_views.proofs.values.push_item_line.Goals as goal

pub returns-in-Define : goal.returns-in-Define
returns-in-Define c =
    let is : c.args.item.now ≡ item.Define c.in-Define.id c.in-Define.described = search rules in
    definition_line c.args.lines is c.requires

pub returns-in-Put : goal.returns-in-Put
returns-in-Put c =
    let is : c.args.item.now ≡ item.Put c.in-Put.id c.in-Put.value = search rules in
    on_ok_weaker c.push_filled_line.result (λ made. value_line is made) c.push_filled_line.ensures
