-- Where the joining of several streams stands. For private clauses.
use Rattle.std.specs.Prelude.{◌≡◌, ℕ, ◌+◌, ◌^◌, ◌≤◌, ◌<◌, List, ◌∷◌, [], ◌++◌, length, drop, Option, None, Some, IfSome}
use Rattle.gob_stream.specs.Bounds.{Bounds, within_trees}
use Rattle.gob_stream.specs.Calls.Ends.{writer_of}
use Rattle.gob_filled.specs.Stream.{FilledItem}
use Rattle.gob_go_writer.specs.Calls.Writer.{HasPut, limits_of, types_of}
use Rattle.gob_salvage.specs.declared.gap.Gap.{Gap}
use Rattle.gob_salvage.specs.declared.keeping.Kept.{Kept}
use Rattle.gob_salvage.specs.declared.streams.Joined.{Joined}
use Rattle.gob_salvage.specs.Keeping.{IsKeptOf}
use Rattle.gob_salvage.specs.declared.later.Later.{Later}
use Rattle.gob_salvage.specs.Streams.{AreJoined, AreKeptFrom}

-- this is kept of the bytes, and another stream is found
pub record BreaksInto (L : Bounds) (bytes : List ℕ) (k : Kept) : Type 0 where
  pub kept : IsKeptOf L [] bytes k
  pub some : ¬ (k.later ≡ None)

-- what is kept of the first streams is that of all, or goes on with that of those behind
abbrev pub Reaches : Bounds → (bytes : List ℕ) → (next : Option Later) → (streams : List (List ℕ)) → List Gap → Type 0
Reaches L bytes None streams gaps = AreKeptFrom L bytes 0 [] streams gaps
Reaches L bytes (Some next) streams gaps = (next.at ≤ length bytes)
    × (length next.front.items + length (drop next.at bytes) ≤ L.stream)
    × ((more : List (List ℕ)) (told : List Gap) → AreKeptFrom L bytes next.at next.front.items more told
    → AreKeptFrom L bytes 0 [] (streams ++ more) (gaps ++ told))

-- the next stream is the first one: all of the bytes, with nothing in front
pub record BeginsWithAll (next : Option Later) : Type 0 where
  pub first : Later
  pub is : next ≡ Some first
  pub at : first.at ≡ 0
  pub front : first.front.items ≡ []

-- the next stream is this one, so many bytes further on
pub record IsFurtherOn (begin : ℕ) (more : Later) (next : Option Later) : Type 0 where
  pub later : Later
  pub is : next ≡ Some later
  pub at : later.at ≡ begin + more.at
  pub front : later.front.items ≡ more.front.items

-- the first streams are joined so far
pub record HasJoined (L : Bounds) (bytes : List ℕ) (j : Joined) : Type 0 where
  pub streams : List (List ℕ)
  pub items : List FilledItem
  pub put : HasPut j.writer items (writer_of j.output).items
  pub limits : within_trees (limits_of j.writer) ≡ L
  pub joined : AreJoined L streams items (writer_of j.output).items (types_of j.writer)
  pub reaches : Reaches L bytes j.next streams j.gaps.items
  pub small : length bytes < 2 ^ 64

-- the gaps of a stream that are told: all but the one that is another stream
pub record AreTold (k : Kept) (told : List Gap) : Type 0 where
  pub all : k.later ≡ None → told ≡ k.kept.gaps.items
  pub but_last : IfSome k.later (λ _. (before : List Gap) (g : Gap) → k.kept.gaps.items ≡ before ++ g ∷ []
      → told ≡ before)
