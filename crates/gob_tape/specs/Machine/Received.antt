-- Which lists of events a builder of tapes has received.
-- (docs/LIBRARY.md, Tapes.)
use Rattle.std.specs.Prelude.{◌≡◌, ℕ, ◌+◌, max, List, [], ◌∷◌, ◌++◌, Option, Some, None, length}
use Rattle.gob_value.specs.Tree.{Tree, depth, trees_depth, pairs_depth, fields_depth}
use Rattle.gob_value.specs.View.{trees_of, pairs_of, fields_of}
use Rattle.gob_read.specs.Event.{Event}
use Rattle.gob_read.specs.Weight.{parts_told, raw_told}
use Rattle.gob_read.specs.Machine.Built.{OpenPart, raw, many, pairs, fields, no_work, all_told}
use Rattle.gob_tape.specs.Meaning.{MeansAt}
use Rattle.gob_tape.specs.Machine.Opened.{AreOpen}
use Rattle.gob_tape.specs.Machine.Coming.{MayAllCome}
use Rattle.gob_tape.specs.Machine.State.{State}

-- the number in a struct that the next part has
abbrev pub next_field : List OpenPart → Option ℕ
next_field (fields fs next ∷ ps) = next
next_field _ = None

abbrev pub key_depth : Option Tree → ℕ
key_depth None = 0
key_depth (Some x) = depth x

-- how deep an open part is with what is in it so far
abbrev pub part_depth : OpenPart → ℕ
part_depth (raw k s) = 1
part_depth (many vs) = trees_depth (trees_of vs) + 1
part_depth (pairs ps key) = max (pairs_depth (pairs_of ps)) (key_depth key) + 1
part_depth (fields fs next) = fields_depth (fields_of fs) + 1

-- and how deep all open parts are
abbrev pub parts_depth : List OpenPart → ℕ
parts_depth [] = 0
parts_depth (p ∷ ps) = max (parts_depth ps) (length ps + part_depth p)

-- the state is that of these open parts, or of the whole value
pub data ShowsTree (s : State) : List OpenPart → Option Tree → Type 0 where
  under_way : {ps : List OpenPart} → AreOpen s.nodes s.pool (length s.nodes) s.begun ps → s.field ≡ next_field ps
      → s.deepest ≡ parts_depth ps → ShowsTree s ps None
  whole : {v : Tree} → MeansAt s.nodes s.pool 0 (length s.nodes) None v → s.begun ≡ [] → s.deepest ≡ depth v
      → ShowsTree s [] (Some v)

-- the state is what the events make, where they may come one after another; and so much of them is held
pub record AreTaped (s : State) (held : ℕ) (us : List Event) : Type 0 where
  pub shown : MayAllCome no_work us → ShowsTree s (all_told no_work us).parts (all_told no_work us).whole
  pub count : held ≡ parts_told us + raw_told us

-- the state is what the events make
pub record IsTapeOf (s : State) (us : List Event) : Type 0 where
  pub held : ℕ
  pub taped : AreTaped s held us

-- the second state is what the first is with these events behind its own
abbrev pub TapeGoesOn : State → State → List Event → Type 0
TapeGoesOn old new ws = (us : List Event) → IsTapeOf old us → IsTapeOf new (us ++ ws)
