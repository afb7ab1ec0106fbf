-- What is appended, and what the rest would append, is all.
use Rattle.std.proofs.Common.{◌≡◌, ◌++◌, drop}
use Rattle.gob_source.specs.Program.{cases_text}
use Rattle.gob_source.proofs.program.push_cases.Given as goal

abbrev pub invariant-loop-id : goal.invariant-loop-id
invariant-loop-id g l =
    l.out.items ++ cases_text (g.S.Shapes.table l.types.shapes.now) l.types.ids.now (drop l.id-index l.values)
    ≡ l.fn.out.items ++ cases_text (g.S.Shapes.table l.types.shapes.now) l.types.ids.now l.values
