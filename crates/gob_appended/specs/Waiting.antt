-- The bytes that were read and not yet given.
use Rattle.std.specs.Prelude.{◌≡◌, ℕ, List, ◌++◌, length, slice_range, Option}
use Rattle.std.specs.Io.KnownBytes.{Consumes, IsAtEnd}
use Rattle.gob_appended.specs.declared.waiting.Waiting.{Waiting}

abbrev pub waiting : Waiting → List ℕ
waiting w = slice_range w.room.items w.start w.end

-- a read brought so many bytes behind those that waited, none only at the end
pub record Brings (old new : Option (List ℕ)) (before after : List ℕ) (count : ℕ) : Type 0 where
  pub more : List ℕ
  pub read : Consumes old new more
  pub behind : after ≡ before ++ more
  pub counted : count ≡ length more
  pub end : count ≡ 0 → IsAtEnd new
