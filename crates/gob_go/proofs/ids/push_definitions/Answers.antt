use Rattle.std.proofs.Math.ListN.{drop_of_length-le}
use Rattle.gob_go.proofs.IdLaws.{definition_kept, definitions_kept}
use Rattle.gob_go.proofs.ids.push_definitions.Goals as goal

pub loop-definition-preserved : goal.loop-definition-preserved
loop-definition-preserved c =
    definition_kept c.args.ids.now.items c.loop-definition.ids.items c.args.definitions.now
    c.loop-definition.definition-index c.definition-item.result c.definition-item.is c.loop-definition-test.true
    c.loop-definition.invariant c.in_ok-push.ensures.items

pub returns : goal.returns
returns c =
    definitions_kept c.args.ids.now.items c.args.definitions.now c.loop-definition.definition-index
    (drop_of_length-le c.args.definitions.now c.loop-definition-test.false) c.loop-definition.invariant
