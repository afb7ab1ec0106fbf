-- What is written of a stream that the format has too. (They follow from docs/FORMAT.md, Tidy form; Tidy form and
-- hoisting.)
use Rattle.std.specs.Prelude.{◌≡◌, List, ℕ, false, map}
use Rattle.gob_types.specs.Base.{base_table}
use Rattle.gob_types.specs.Table.{Table}
use Rattle.gob_stream.specs.Bounds.{Bounds}
use Rattle.gob_stream.specs.Item.{StreamItem}
use Rattle.gob_stream.specs.Stream.{Stream}
use Rattle.gob_filled.specs.OutcomeLaws.{unfilled_item}
use Rattle.gob_tool.specs.Rewriting.{HasTidyStream}
use Rattle.gob_tool.specs.RewritingGo.{OfTidyStream}

-- the stream of the tidy forms of its items is one in the format and in the profile, whatever limits take it
abbrev pub StrictStreamsAreRewrittenAlike : Type 0
StrictStreamsAreRewrittenAlike = (L M : Bounds) (T : Table) (items : List StreamItem) (bytes text other : List ℕ)
    → Stream base_table L items bytes T → HasTidyStream L T items (λ written. text ≡ written)
    → OfTidyStream false M bytes (λ written. other ≡ written) (map unfilled_item items) → text ≡ other
