use Rattle.std.proofs.Common.{rules, ◌≡◌}
use Rattle.std.proofs.lemmas.Result.{on_ok_weaker}
use Rattle.gob_types.specs.Defined.{types}
use Rattle.gob_go.specs.declared.item.GoItem.TheVariants as item
use Rattle.gob_tool.proofs.Profile.LineLaws.{definition_given}
use Rattle.gob_tool.proofs.go.item_lines.push_lines.Goals as goal

pub returns-in-Define : goal.returns-in-Define
returns-in-Define c =
    let is : c.args.item.now ≡ item.Define c.in-Define.id c.in-Define.described = search rules in
    on_ok_weaker c.push_definition.result
    (λ made. definition_given (types c.args.table.now) c.args.item.now c.in-Define.id c.in-Define.described
    is c.requires made) c.push_definition.ensures
