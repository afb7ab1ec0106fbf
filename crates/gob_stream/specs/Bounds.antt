-- The limits that a reader or a writer is given. (docs/FORMAT.md, Items and streams: this project's own.)
use Rattle.std.specs.Prelude.{ℕ, ◌<◌, ◌≤◌, min}

pub record Bounds : Type 0 where
  -- the most bytes of an item's body
  pub item : ℕ
  -- the greatest depth of a value or a description
  pub depth : ℕ
  -- the most definitions
  pub types : ℕ
  -- the offset at which the last item ends at the latest
  pub stream : ℕ

-- the greatest depth of what is kept as a tree
abbrev pub greatest_depth : ℕ
greatest_depth = 1000

-- the greatest depth of all
abbrev pub deepest : ℕ
deepest = 65536

abbrev pub greatest_stream : ℕ
greatest_stream = 9223372036854775807

-- limits that can be given, where no depth is above the most
pub record AreLimits (most : ℕ) (L : Bounds) : Type 0 where
  pub some_depth : 0 < L.depth
  pub depth : L.depth ≤ most
  pub stream : L.stream ≤ greatest_stream

-- the limits of a reader whose builder takes no deeper value than this
abbrev pub no_deeper : ℕ → Bounds → Bounds
no_deeper most L = record L { depth = min L.depth most }

-- the limits of a reader or a writer of trees
abbrev pub within_trees : Bounds → Bounds
within_trees L = no_deeper greatest_depth L
