-- What taking one item answers, and what a session has read that stands between two. For private clauses.
use Rattle.std.specs.Prelude.{◌≡◌, ℕ, List, [], ◌∷◌, ◌++◌}
use Rattle.gob_types.specs.Base.{base_table}
use Rattle.gob_stream.specs.Bounds.{within_trees}
use Rattle.gob_stream.specs.declared.fault.Refusal.{Refusal}
use Rattle.gob_filled.specs.Outcome.{FilledOutcome, refused}
use Rattle.gob_filled.specs.Stream.{FilledItem}
use Rattle.gob_go.specs.Calls.Session.{HasRead, IsBetweenItems, limits_of}
use Rattle.gob_go.specs.Machine.SessionState.{SessionState}

-- of these bytes it has read one item more
pub record OneMore (s : SessionState) (items : List FilledItem) (bytes : List ℕ) : Type 0 where
  pub item : FilledItem
  pub after : HasRead s (items ++ item ∷ []) bytes

-- it has read the item that these bytes are
abbrev pub ReadsOne : (s s' : SessionState) → List ℕ → Type 0
ReadsOne s s' z = (items : List FilledItem) (bytes : List ℕ) → HasRead s items bytes → OneMore s' items (bytes ++ z)

-- what it has read, and these bytes, which are all that follows, are refused so
abbrev pub RefusesNext : SessionState → List ℕ → Refusal → Type 0
RefusesNext s piece R = (items : List FilledItem) (bytes : List ℕ) → HasRead s items bytes
    → FilledOutcome base_table (within_trees (limits_of s)) (bytes ++ piece) items (refused R)

-- it has read these bytes of a stream, and nothing else
pub record HasReadAll (s : SessionState) (bytes : List ℕ) : Type 0 where
  pub items : List FilledItem
  pub has : HasRead s items bytes
  pub between : IsBetweenItems s

-- the bytes of an item were noted behind others, where it has defined types
pub data NotesItem (before after : ℕ) (old new z : List ℕ) : Type 0 where
  nothing_new : after ≡ before → new ≡ old → NotesItem before after old new z
  noted : new ≡ old ++ z → NotesItem before after old new z
