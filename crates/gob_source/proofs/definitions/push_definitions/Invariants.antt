-- What is appended, and what the rest would append, is all.
use Rattle.std.proofs.Common.{◌≡◌, ◌++◌, drop}
use Rattle.gob_source.specs.Registered.{namings}
use Rattle.gob_source.specs.Source.{definitions_text}
use Rattle.gob_source.proofs.definitions.push_definitions.Given as goal

abbrev pub invariant-loop-id : goal.invariant-loop-id
invariant-loop-id g l =
    l.out.items ++ definitions_text (g.S.Shapes.table l.types.shapes.now) l.types.ids.now (namings l.names.all.now)
    (drop l.id-index l.types.ids.now)
    ≡ l.fn.out.items ++ definitions_text (g.S.Shapes.table l.types.shapes.now) l.types.ids.now
    (namings l.names.all.now) l.types.ids.now
