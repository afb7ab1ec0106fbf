-- What the rest says is said of all.
use Rattle.std.proofs.Common.{◌≡◌, drop}
use Rattle.gob_source.specs.Source.{imports}
use Rattle.gob_source.proofs.library.imports.Given as goal

abbrev pub invariant-loop-id : goal.invariant-loop-id
invariant-loop-id g l =
    imports (g.S.Shapes.table l.shapes) (drop l.id-index l.ids) l.owner
    ≡ imports (g.S.Shapes.table l.shapes) l.ids l.owner
