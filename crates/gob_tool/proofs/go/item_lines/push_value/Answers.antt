-- The line is the compact text of the value's JSON and a line feed.
use Rattle.std.proofs.Common.{rules, ◌≡◌, ◌∙◌, ap}
use Rattle.json.specs.Tree.{json_tokens}
use Rattle.serde_json.specs.Written.{outline}
use Rattle.gob_types.specs.Defined.{types}
use Rattle.gob_json_writer.specs.NilsJson.{put_json_with}
use Rattle.gob_json_writer.specs.FilledJson.{put_shows}
use Rattle.gob_tool.proofs.Profile.LineLaws.{line_printed}
use Rattle.gob_tool.proofs.go.item_lines.push_value.Goals as goal

pub returns : goal.returns
returns c = λ w v N m s.
    let shown = put_json_with N (types c.args.table.now) c.args.id v in
    let written = (c.write_filled-written.ensures.each shown (put_shows m s)).tokens in
    let tokens : c.write_filled-written.new.out.tokens ≡ json_tokens (outline shown) = search rules in
    line_printed shown c.into_inner.result.items c.into_inner.ensures.items
    (c.write_filled-written.ensures.before ∙ c.new-out.ensures.before ∙ ap (λ l. l.items) c.replace.ensures.value)
    tokens c.in_ok-push.ensures.items
