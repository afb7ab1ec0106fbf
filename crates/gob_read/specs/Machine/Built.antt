-- What a list of events makes: the open parts with what is in them so far, and the whole value once it is there.
-- (docs/LIBRARY.md, Events.)
use Rattle.std.specs.Prelude.{ℕ, List, [], ◌∷◌, ◌++◌, Option, Some, None}
use Rattle.gob_value.specs.Tree.{Tree}
use Rattle.gob_value.specs.View.{trees_of, pairs_of, fields_of}
use Rattle.gob_read.specs.declared.event.RawKind.{RawKind}
use Rattle.gob_read.specs.declared.event.GroupKind.{GroupKind}
use Rattle.gob_read.specs.declared.event.GroupKind.TheVariants as group
use Rattle.gob_read.specs.Event.{Event, number, raw_start, raw_more, enter, field, leave}
use Rattle.gob_read.specs.Leaf.{number_tree, raw_tree}

-- an open part, with what is in it so far
pub data OpenPart : Type 0 where
  raw : RawKind → List ℕ → OpenPart
  many : List Tree → OpenPart
  -- and a key that has no element yet
  pairs : List (Tree × Tree) → Option Tree → OpenPart
  -- and the number of the next field
  fields : List (ℕ × Tree) → Option ℕ → OpenPart

-- the part that a group begins with
abbrev pub opened_part : GroupKind → OpenPart
opened_part group.Many = many []
opened_part group.Pairs = pairs [] None
opened_part group.Fields = fields [] None

-- the value of the part where it ends
abbrev pub closed : OpenPart → Tree
closed (raw k s) = raw_tree k s
closed (many vs) = Tree.many (trees_of vs)
closed (pairs ps key) = Tree.pairs (pairs_of ps)
closed (fields fs next) = Tree.fields (fields_of fs)

-- a part in the part
abbrev pub added_part : OpenPart → Tree → OpenPart
added_part (raw k s) v = raw k s
added_part (many vs) v = many (vs ++ v ∷ [])
added_part (pairs ps None) v = pairs ps (Some v)
added_part (pairs ps (Some k)) v = pairs (ps ++ (k, v) ∷ []) None
added_part (fields fs None) v = fields fs None
added_part (fields fs (Some f)) v = fields (fs ++ (f, v) ∷ []) None

-- more raw bytes in the part
abbrev pub with_bytes : OpenPart → List ℕ → OpenPart
with_bytes (raw k s) more = raw k (s ++ more)
with_bytes (many vs) more = many vs
with_bytes (pairs ps key) more = pairs ps key
with_bytes (fields fs next) more = fields fs next

-- the number of the next field in the part
abbrev pub with_number : OpenPart → ℕ → OpenPart
with_number (raw k s) f = raw k s
with_number (many vs) f = many vs
with_number (pairs ps key) f = pairs ps key
with_number (fields fs next) f = fields fs (Some f)

-- the open parts, innermost first, and the whole value
pub record Work : Type 0 where
  pub parts : List OpenPart
  pub whole : Option Tree

abbrev pub no_work : Work
no_work = record { parts = []; whole = None }

-- a part begins
abbrev pub begun : Work → OpenPart → Work
begun w p = record { parts = p ∷ w.parts; whole = w.whole }

-- the innermost open part is changed so
abbrev pub changed : (OpenPart → OpenPart) → List OpenPart → List OpenPart
changed f [] = []
changed f (p ∷ ps) = f p ∷ ps

abbrev pub extended : Work → List ℕ → Work
extended w s = record { parts = changed (λ p. with_bytes p s) w.parts; whole = w.whole }

abbrev pub numbered : Work → ℕ → Work
numbered w f = record { parts = changed (λ p. with_number p f) w.parts; whole = w.whole }

abbrev pub put_in : List OpenPart → Option Tree → Tree → Work
put_in [] whole v = record { parts = []; whole = Some v }
put_in (p ∷ ps) whole v = record { parts = added_part p v ∷ ps; whole = whole }

-- a whole part comes into the innermost open one, or is the whole value
abbrev pub put : Work → Tree → Work
put w v = put_in w.parts w.whole v

abbrev pub left_in : List OpenPart → Option Tree → Work
left_in [] whole = record { parts = []; whole = whole }
left_in (p ∷ ps) whole = put_in ps whole (closed p)

-- the innermost open part ends
abbrev pub left_work : Work → Work
left_work w = left_in w.parts w.whole

-- what one more event makes of it; one that may not come there is passed over
abbrev pub told : Work → Event → Work
told w (number k a b) = put w (number_tree k a b)
told w (raw_start k) = begun w (raw k [])
told w (raw_more s) = extended w s
told w (enter k) = begun w (opened_part k)
told w (field f) = numbered w f
told w leave = left_work w

-- the events, one after another
abbrev pub all_told : Work → List Event → Work
all_told w [] = w
all_told w (t ∷ us) = all_told (told w t) us
