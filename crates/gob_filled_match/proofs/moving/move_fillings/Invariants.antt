-- What waits did so at first, and what was moved is all but what is left.
use Rattle.std.proofs.Common.{Some, drop, map}
use Rattle.gob_types.specs.Table.{Table}
use Rattle.gob_filled.specs.Filled.{Fillings}
use Rattle.gob_go.specs.Meaning.{AreFillings}
use Rattle.gob_go.specs.declared.filled.Filling.{Filling}
use Rattle.gob_filled_match.specs.Machine.Moving.{AreStillThere}
use Rattle.gob_filled_match.proofs.MovingLaws.{MovesSo}
use Rattle.gob_filled_match.proofs.moving.move_fillings.Given as goal

abbrev pub invariant-loop-nil : goal.invariant-loop-nil
invariant-loop-nil l =
    AreStillThere (map (λ (f : Filling). Some f) l.fn.fillings.items) l.waiting.items
    × ((T : Table) (all : Fillings) → AreFillings T l.fn.fillings.items all
    → MovesSo T all l.nils (drop l.nil-index l.nils) l.moved.items)
