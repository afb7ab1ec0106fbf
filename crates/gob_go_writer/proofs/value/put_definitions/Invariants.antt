use Rattle.std.proofs.Common.{drop}
use Rattle.gob_types.specs.Defined.{types}
use Rattle.gob_go_writer.specs.Spelling.{SpellDefinitions}
use Rattle.gob_go_writer.proofs.PartSteps.{Going}
use Rattle.gob_go_writer.proofs.value.put_definitions.Given as goal

abbrev pub invariant-loop-definition : goal.invariant-loop-definition
invariant-loop-definition l = Going (SpellDefinitions (types l.table) l.definitions)
    (SpellDefinitions (types l.table) (drop l.definition-index l.definitions)) l.fn.segments l.segments
