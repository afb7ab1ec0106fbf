-- The line is the compact text of the item's JSON and a line feed.
use Rattle.std.proofs.Common.{rules, ◌≡◌, ◌++◌, ◌∷◌, ◌∙◌, ap, [], List, ℕ, sym}
use Rattle.json.specs.Tree.{json_tokens}
use Rattle.serde_json.specs.Written.{outline}
use Rattle.gob_types.specs.Defined.{types}
use Rattle.gob_stream.specs.Item.{item_view}
use Rattle.gob_tool.specs.Line.{item_json}
use Rattle.gob_tool.specs.Machine.Lines.{line_given}
use Rattle.gob_tool.proofs.PrintLaws.{printed}
use Rattle.gob_tool.proofs.item_line.given_line.Goals as goal

pub returns : goal.returns
returns c =
    let T = types c.args.table.now in
    let shown = item_json T (item_view c.in-Some.item) in
    let tokens : c.write_item.new.out.tokens ≡ json_tokens (outline shown) = search rules in
    let before = c.write_item.ensures.before ∙ c.new-out.ensures.before
    ∙ ap (λ v. v.items) c.replace.ensures.value ∙ c.requires in
    let text = printed shown _ _ _ c.into_inner-made.ensures.items before tokens in
    c.in_ok-push.ensures.items ∙ ap (λ (l : List ℕ). l ++ 10 ∷ []) text ∙ sym (ap (λ o. line_given T o) c.in-Some.is)
