-- The fields so far go on to all with those that the nodes left name.
use Rattle.std.proofs.Common.{drop}
use Rattle.gob_nodes.proofs.FieldLaws.{NamesOn}
use Rattle.gob_nodes.proofs.definition.fields_of.Given as goal

abbrev pub invariant-fields : goal.invariant-fields
invariant-fields l = record { on : NamesOn l.given.bytes.now l.nodes (drop l.place l.nodes) l.fields.items }
