use Rattle.std.proofs.Common.{◌≡◌, ◌++◌, drop}
use Rattle.gob_go.specs.Meaning.{definitions_of}
use Rattle.gob_go.specs.Ids.{definition_ids}
use Rattle.gob_go.proofs.ids.push_definitions.Given as goal

abbrev pub invariant-loop-definition : goal.invariant-loop-definition
invariant-loop-definition l =
    l.fn.ids.items ++ definition_ids (definitions_of l.definitions)
    ≡ l.ids.items ++ definition_ids (definitions_of (drop l.definition-index l.definitions))
