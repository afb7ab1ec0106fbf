use Rattle.gob_read.specs.Machine.Running.{MayGoOn}
use Rattle.gob_read.specs.Machine.Nil.{IsClear}
use Rattle.gob_read.proofs.Machine.Pieces.{HasCome}
use Rattle.gob_read.proofs.run.Run.take_to_nil.Given as goal

abbrev pub invariant-items : goal.invariant-items
invariant-items g l = record {
  come : HasCome (g.S.Shapes.table l.shapes) g.B.Builder.building.received l.fn.self l.self l.piece l.used l.counter;
  opens : MayGoOn (g.S.Shapes.table l.shapes) g.B.Builder.building.received l.self;
  clear : IsClear (g.S.Shapes.table l.shapes) l.self;
}
