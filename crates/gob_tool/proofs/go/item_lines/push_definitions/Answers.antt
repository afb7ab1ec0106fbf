use Rattle.std.proofs.Math.ListN.{drop_of_length-le}
use Rattle.gob_types.specs.Defined.{types}
use Rattle.gob_tool.proofs.Profile.LineLaws.{definition_made, definitions_made}
use Rattle.gob_tool.proofs.go.item_lines.push_definitions.Goals as goal

pub loop-definition-preserved : goal.loop-definition-preserved
loop-definition-preserved c =
    definition_made (types c.args.table.now) c.args.lines.now.items c.loop-definition.lines.items c.args.definitions.now
    c.loop-definition.definition-index c.definition-item.result c.definition-item.is c.loop-definition-test.true
    c.loop-definition.invariant c.in_ok-push_definition.ensures

pub returns : goal.returns
returns c =
    definitions_made (types c.args.table.now) c.args.lines.now.items c.args.definitions.now
    c.loop-definition.definition-index (drop_of_length-le c.args.definitions.now c.loop-definition-test.false)
    c.loop-definition.invariant
