-- Where the run stands. For private clauses.
use Rattle.std.specs.Prelude.{◌≡◌, ℕ, List, ◌++◌, Option, Some}
use Rattle.gob_stream.specs.Bounds.{within_trees}
use Rattle.gob_stream.specs.Stepping.{StandsBy}
use Rattle.gob_filled.specs.Stream.{FilledItem}
use Rattle.gob_go.specs.Calls.Reader.{GoReader, HasReadFrom, session_of}
use Rattle.gob_go.specs.Calls.Session.{limits_of}
use Rattle.gob_go.specs.GoStepping.{go_stepping}
use Rattle.gob_split.specs.Machine.Cutting.{IsCutting}
use Rattle.gob_split.specs.Split.{StreamPart, all_parts}
use Rattle.gob_split.specs.Text.{HaveTexts, Text}
use Rattle.gob_split.specs.declared.cutter.Cutter.{Cutter}
use Rattle.gob_split.specs.declared.part_size.PartSize.{PartSize}

-- of the bytes the items were given, and their texts were put into parts, of which this holds
pub record HasSplit (how : PartSize) (r : GoReader) (c : Cutter) (bytes : List ℕ) (given : List FilledItem)
    (Are : List (List ℕ) → Type 0) : Type 0 where
  pub texts : List Text
  pub are : HaveTexts (within_trees (limits_of (session_of r))) bytes given texts
  pub full : List (List ℕ)
  pub last : Option StreamPart
  pub cutting : IsCutting how c texts full last
  pub holds : Are (all_parts full last)

-- all that was read of an input, where the parts were these before
pub record SplitsSo (how : PartSize) (r : GoReader) (c : Cutter) (read now : Option (List ℕ))
    (Old New : List (List ℕ) → Type 0) : Type 0 where
  pub given : List FilledItem
  pub has : HasReadFrom r read now given
  pub stands : StandsBy go_stepping (session_of r)
  pub out : (bytes : List ℕ) (before : List (List ℕ)) → read ≡ Some bytes → Old before
      → HasSplit how r c bytes given (λ made. New (before ++ made))
