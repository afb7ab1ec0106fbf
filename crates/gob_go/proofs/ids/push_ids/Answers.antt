use Rattle.std.proofs.Common.{rules, ◌≡◌}
use Rattle.std.proofs.lemmas.Result.{on_ok_weaker}
use Rattle.gob_go.specs.declared.item.GoItem.TheVariants as item
use Rattle.gob_go.proofs.IdLaws.{definition_given, value_given}
use Rattle.gob_go.proofs.ids.push_ids.Goals as goal

pub returns-in_ok-push-in-Define : goal.returns-in_ok-push-in-Define
returns-in_ok-push-in-Define c =
    let is : c.args.item.now ≡ item.Define c.in-Define.id c.in-Define.described = search rules in
    definition_given _ _ c.args.item.now c.in-Define.id c.in-Define.described is c.in_ok-push-in-Define.ensures.items

pub returns-in-Put : goal.returns-in-Put
returns-in-Put c =
    let is : c.args.item.now ≡ item.Put c.in-Put.id c.in-Put.value = search rules in
    on_ok_weaker c.push_inner_ids.result (λ kept. value_given _ _ c.args.item.now c.in-Put.id c.in-Put.value is kept)
    c.push_inner_ids.ensures
