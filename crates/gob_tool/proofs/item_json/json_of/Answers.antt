-- What the writer holds is the compact text of the item's JSON.
use Rattle.std.proofs.Common.{rules, ◌≡◌}
use Rattle.json.specs.Tree.{json_tokens}
use Rattle.serde_json.specs.Written.{outline}
use Rattle.gob_types.specs.Defined.{types}
use Rattle.gob_stream.specs.Item.{item_view}
use Rattle.gob_tool.specs.Line.{item_json}
use Rattle.gob_tool.proofs.item_json.json_of.Goals as goal

pub returns : goal.returns
returns c =
    let shown = item_json (types c.args.table.now) (item_view c.args.item.now) in
    let tokens : c.write_item.new.out.tokens ≡ json_tokens (outline shown) = search rules in
    c.text_of.ensures shown tokens
