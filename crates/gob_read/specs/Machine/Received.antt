-- Which lists of events a builder of trees has received.
-- (docs/LIBRARY.md, Events.)
use Rattle.std.specs.Prelude.{◌≡◌, ℕ, ◌+◌, List}
use Rattle.gob_read.specs.Event.{Event}
use Rattle.gob_read.specs.Weight.{parts_told, raw_told}
use Rattle.gob_read.specs.Machine.Built.{Work, no_work, all_told}

-- this is what the events make, and so much of it is held
pub record AreBuilt (work : Work) (held : ℕ) (us : List Event) : Type 0 where
  pub built : work ≡ all_told no_work us
  pub count : held ≡ parts_told us + raw_told us
