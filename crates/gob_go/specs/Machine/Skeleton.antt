-- How the skeleton of a value under way is had: its length, and its bytes where they are kept.
use Rattle.std.specs.Prelude.{◌≡◌, ℕ, ◌+◌, List, [], ◌++◌, length, Bool, true, false}
use Rattle.gob_go.specs.declared.skeleton.Skeleton.{Skeleton}

-- what is kept of bytes
abbrev pub kept_of : (keep : Bool) → List ℕ → List ℕ
kept_of true z = z
kept_of false z = []

-- these bytes of it came
pub record SkeletonIs (keep : Bool) (s : Skeleton) (z : List ℕ) : Type 0 where
  pub length_is : s.length ≡ length z
  pub bytes_are : s.bytes.items ≡ kept_of keep z

-- these came behind those before
pub record SkeletonGrows (keep : Bool) (old new : Skeleton) (z : List ℕ) : Type 0 where
  pub length_is : new.length ≡ old.length + length z
  pub bytes_are : new.bytes.items ≡ old.bytes.items ++ kept_of keep z
