use Rattle.std.proofs.Common.{◌≡◌, ◌++◌, drop}
use Rattle.gob_types.specs.Defined.{types}
use Rattle.gob_go.specs.Meaning.{definitions_of}
use Rattle.gob_tool.specs.LineGo.{definition_lines}
use Rattle.gob_tool.proofs.go.item_lines.push_definitions.Given as goal

abbrev pub invariant-loop-definition : goal.invariant-loop-definition
invariant-loop-definition l =
    l.fn.lines.items ++ definition_lines (types l.table) (definitions_of l.definitions)
    ≡ l.lines.items ++ definition_lines (types l.table) (definitions_of (drop l.definition-index l.definitions))
