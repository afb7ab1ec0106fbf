-- What contracts see of a tape: its nodes and its pool, and how deep its value is. (docs/LIBRARY.md, Tapes.)
use Rattle.std.specs.Prelude.{ℕ, List}
use Rattle.gob_tape.specs.declared.node.Node.{Node}

pub record Flat : Type 0 where
  pub nodes : List Node
  pub pool : List ℕ
  pub depth : ℕ
