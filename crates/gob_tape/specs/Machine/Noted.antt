-- What a node says of its part. (docs/LIBRARY.md, Tapes.)
use Rattle.std.specs.Prelude.{ℕ, Option}
use Rattle.gob_tape.specs.declared.node.Content.{Content}

-- the part's number in a struct, if it is a field, and what it is
pub record Noted : Type 0 where
  pub field : Option ℕ
  pub content : Content
