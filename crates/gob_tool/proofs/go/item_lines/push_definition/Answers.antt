-- The line is the compact text of the definition's JSON and a line feed.
use Rattle.std.proofs.Common.{rules, ◌≡◌, ◌∙◌, ap}
use Rattle.json.specs.Tree.{json_tokens}
use Rattle.serde_json.specs.Written.{outline}
use Rattle.gob_types.specs.Defined.{types}
use Rattle.gob_stream.specs.Item.{defines}
use Rattle.gob_tool.specs.Line.{item_json}
use Rattle.gob_tool.proofs.Profile.LineLaws.{line_printed}
use Rattle.gob_tool.proofs.go.item_lines.push_definition.Goals as goal

pub returns : goal.returns
returns c = λ v.
    let shown = item_json (types c.args.table.now) (defines c.args.id v) in
    let tokens : c.write_definition-written.new.out.tokens ≡ json_tokens (outline shown) = search rules in
    line_printed shown c.into_inner.result.items c.into_inner.ensures.items
    (c.write_definition-written.ensures.before ∙ c.new-out.ensures.before ∙ ap (λ l. l.items) c.replace.ensures.value)
    tokens c.in_ok-push.ensures.items
