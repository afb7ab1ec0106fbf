use Rattle.std.proofs.Common.{◌-◌, take, ◌≡◌}
use Rattle.gob_handed.specs.Puts.{PutsNodes, PutsBytes}
use Rattle.gob_handed.specs.Definition.{field_nodes, field_names}
use Rattle.gob_handed.proofs.definition.put_fields.Given as goal

abbrev pub invariant-fields : goal.invariant-fields
invariant-fields l =
    (PutsNodes l.fn.from l.at l.fn.nodes l.nodes (field_nodes (l.fn.from.bytes - l.fn.base) (take l.place l.fields))
    × PutsBytes l.fn.from l.at l.fn.pool l.pool (field_names (take l.place l.fields)))
    × ((take l.fn.from.nodes l.nodes ≡ take l.fn.from.nodes l.fn.nodes)
    × (take l.fn.from.bytes l.pool ≡ take l.fn.from.bytes l.fn.pool))
