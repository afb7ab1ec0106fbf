-- What is put behind what stands at the front of the room.
use Rattle.std.specs.Prelude.{◌≡◌, ℕ, ◌+◌, ◌≤◌, List, ◌++◌, length, take}
use Rattle.gob_tape.specs.declared.flat.FlatNode.{FlatNode}
use Rattle.gob_handed.specs.declared.room.RoomTaken.{RoomTaken}

-- these nodes were put from one place up to the other, behind what stood there
pub record PutsNodes (from to : RoomTaken) (old new ns : List FlatNode) : Type 0 where
  pub prefix : take to.nodes new ≡ take from.nodes old ++ ns
  pub end : to.nodes ≡ from.nodes + length ns
  pub room : to.nodes ≤ length new

-- and these bytes
pub record PutsBytes (from to : RoomTaken) (old new bs : List ℕ) : Type 0 where
  pub prefix : take to.bytes new ≡ take from.bytes old ++ bs
  pub end : to.bytes ≡ from.bytes + length bs
  pub room : to.bytes ≤ length new
