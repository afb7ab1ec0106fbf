-- What is known of a type of a stream: whether its values may leave out a field when they are received.
use Rattle.std.specs.Prelude.{◌≡◌, false, IfSome}
use Rattle.gob_types.specs.declared.id.TypeId.{TypeId}
use Rattle.gob_types.specs.Ready.{IsReady}
use Rattle.gob_types.specs.Table.{Table}
use Rattle.gob_value.specs.Tree.{Tree}
use Rattle.gob_match.specs.Matching.{Match}
use Rattle.gob_match.specs.Pairs.{of_types}
use Rattle.gob_left_out.specs.LeftOut.{LeavesNothing}
use Rattle.gob_filled_match.specs.declared.left.KnownLoss.{KnownLoss}
use Rattle.gob_filled_match.specs.declared.left.LastLoss.{LastLoss}

-- the type, one of T, matches u, one of U, and where it is said that its values leave out nothing they do so
pub record IsKnownLoss (T U : Table) (u : TypeId) (known : KnownLoss) : Type 0 where
  pub ready : IsReady T known.id
  pub wanted_ready : IsReady U u
  pub match : Match T U known.id u
  pub nothing : known.may_leave_out ≡ false → (v : Tree) → LeavesNothing T U (of_types known.id u) v

abbrev pub KnowsLoss : (T U : Table) → TypeId → LastLoss → Type 0
KnowsLoss T U u last = IfSome last.known (IsKnownLoss T U u)
