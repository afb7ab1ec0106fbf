-- What nodes stand for while a value is told: the open parts, with what is in them so far.
-- (docs/LIBRARY.md, Tapes.)
use Rattle.std.specs.Prelude.{◌≡◌, ℕ, ◌+◌, ◌*◌, ◌≤◌, List, [], ◌∷◌, Option, Some, None, length, drop, slice_get}
use Rattle.gob_value.specs.Tree.{Tree}
use Rattle.gob_value.specs.View.{trees_of, pairs_of, fields_of}
use Rattle.gob_read.specs.declared.event.RawKind.{RawKind}
use Rattle.gob_read.specs.declared.event.GroupKind.TheVariants as group
use Rattle.gob_read.specs.Machine.Built.{OpenPart, raw, many, pairs, fields}
use Rattle.gob_tape.specs.declared.node.Content.TheVariants as content
use Rattle.gob_tape.specs.declared.node.Node.{Node}
use Rattle.gob_tape.specs.declared.node.Begun.{Begun}
use Rattle.gob_tape.specs.Meaning.{node, MeansAt, MeansEach, MeansPairs, MeansFields}
use Rattle.gob_tape.specs.Machine.Coming.{IsFree}

-- the nodes between are a key that has no element yet, or there are none
pub data MeansKey (nodes : List Node) (pool : List ℕ) : ℕ → ℕ → Option Tree → Type 0 where
  no_key : {i : ℕ} → MeansKey nodes pool i i None
  a_key : {i j : ℕ} {x : Tree} → MeansAt nodes pool i j None x → MeansKey nodes pool i j (Some x)

-- how many parts a waiting key is
abbrev pub key_count : Option Tree → ℕ
key_count None = 0
key_count (Some x) = 1

-- the node and those behind it, up to this place, are an open part in which so many parts have ended
pub data IsOpenPart (nodes : List Node) (pool : List ℕ) : ℕ → ℕ → ℕ → Option ℕ → OpenPart → Type 0 where
  open_raw : {i j count start length_so_far : ℕ} {f : Option ℕ} {k : RawKind} {s : List ℕ}
      → slice_get nodes i ≡ Some (node f (content.Raw k start length_so_far))
      → j ≡ i + 1 → start ≤ length pool → s ≡ drop start pool → IsOpenPart nodes pool i j count f (raw k s)
  open_list : {i j count a b : ℕ} {f : Option ℕ} {vs : List Tree}
      → slice_get nodes i ≡ Some (node f (content.Group group.Many a b))
      → count ≡ length vs → MeansEach nodes pool (i + 1) j (trees_of vs) → IsOpenPart nodes pool i j count f (many vs)
  open_map : {i j k count a b : ℕ} {f : Option ℕ} {ps : List (Tree × Tree)} {key : Option Tree}
      → slice_get nodes i ≡ Some (node f (content.Group group.Pairs a b))
      → count ≡ 2 * length ps + key_count key → MeansPairs nodes pool (i + 1) j (pairs_of ps)
      → MeansKey nodes pool j k key → IsOpenPart nodes pool i k count f (pairs ps key)
  open_struct : {i j count a b : ℕ} {f next : Option ℕ} {fs : List (ℕ × Tree)}
      → slice_get nodes i ≡ Some (node f (content.Group group.Fields a b))
      → count ≡ length fs → MeansFields nodes pool (i + 1) j (fields_of fs)
      → IsOpenPart nodes pool i j count f (fields fs next)

-- the nodes up to this place are the open parts, innermost first
pub data AreOpen (nodes : List Node) (pool : List ℕ) : ℕ → List Begun → List OpenPart → Type 0 where
  no_open : AreOpen nodes pool 0 [] []
  in_part : {j : ℕ} {o : Begun} {os : List Begun} {p : OpenPart} {ps : List OpenPart} {f : Option ℕ}
      → AreOpen nodes pool o.node os ps → IsFree ps None f
      → IsOpenPart nodes pool o.node j o.parts f p → AreOpen nodes pool j (o ∷ os) (p ∷ ps)
