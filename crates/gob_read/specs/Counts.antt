-- What a builder's counts count.
-- (docs/LIBRARY.md, Events.)
use Rattle.std.specs.Prelude.{◌≡◌, List}
use Rattle.gob_value.specs.Tree.{Tree}
use Rattle.gob_read.specs.declared.check_builder.Counts.{Counts}
use Rattle.gob_read.specs.Event.{Event}
use Rattle.gob_read.specs.Weight.{part_count, raw_count, parts_told, raw_told}

-- so many parts and raw bytes are told
pub record AreCountsOfEvents (counts : Counts) (us : List Event) : Type 0 where
  pub nodes : counts.nodes ≡ parts_told us
  pub raw : counts.raw ≡ raw_told us

-- the value has so many parts and raw bytes
pub record AreCountsOf (counts : Counts) (v : Tree) : Type 0 where
  pub nodes : counts.nodes ≡ part_count v
  pub raw : counts.raw ≡ raw_count v
