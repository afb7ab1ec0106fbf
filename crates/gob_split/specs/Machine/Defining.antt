-- Where the run that takes the definitions stands. For private clauses.
use Rattle.std.specs.Prelude.{◌≡◌, ℕ, List, ◌++◌, Option, Some}
use Rattle.gob_stream.specs.Bounds.{within_trees}
use Rattle.gob_stream.specs.Stepping.{StandsBy}
use Rattle.gob_filled.specs.Stream.{FilledItem}
use Rattle.gob_go.specs.Calls.Reader.{GoReader, HasReadFrom, session_of}
use Rattle.gob_go.specs.Calls.Session.{limits_of}
use Rattle.gob_go.specs.GoStepping.{go_stepping}
use Rattle.gob_split.specs.Split.{definitions_of}
use Rattle.gob_split.specs.Text.{HaveTexts, Text}

-- of the bytes the items were given, and of their texts the definitions were appended
pub record HasAppended (r : GoReader) (bytes : List ℕ) (given : List FilledItem) (old new : List ℕ) : Type 0 where
  pub texts : List Text
  pub are : HaveTexts (within_trees (limits_of (session_of r))) bytes given texts
  pub appended : new ≡ old ++ definitions_of texts

-- all that was read of an input
pub record AppendsSo (r : GoReader) (read now : Option (List ℕ)) (old new : List ℕ) : Type 0 where
  pub given : List FilledItem
  pub has : HasReadFrom r read now given
  pub stands : StandsBy go_stepping (session_of r)
  pub out : (bytes : List ℕ) → read ≡ Some bytes → HasAppended r bytes given old new
