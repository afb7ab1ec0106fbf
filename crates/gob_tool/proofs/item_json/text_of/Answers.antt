-- The writer holds the text of its tokens.
use Rattle.std.proofs.Common.{rules, ◌≡◌, ◌++◌, ◌∙◌, [], string_bytes}
use Rattle.json.specs.Print.{print}
use Rattle.gob_tool.proofs.PrintLaws.{printed}
use Rattle.gob_tool.proofs.item_json.text_of.Goals as goal

pub returns : goal.returns
returns c d written =
    let none : c.args.out.before ≡ [] = search rules in
    let whole : c.into_inner.result.items ≡ c.args.out.before ++ print c.args.out.tokens = search rules in
    let text : string_bytes c.in-Ok.text ≡ c.into_inner.result.items = search rules in
    text ∙ printed d _ _ _ whole none written
