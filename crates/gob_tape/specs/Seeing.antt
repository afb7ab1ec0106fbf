-- What the views of a tape show of the value that it means.
-- (docs/LIBRARY.md, Tapes.)
use Rattle.std.specs.Prelude.{ℕ, ℤ, pos, negsuc, ◌+◌, ◌-◌, ◌*◌, ◌<◌, ◌≤◌, List, [], ◌∷◌, Option, Some, None, length}
use Rattle.gob_value.specs.Tree.{Tree, Trees, no_tree, tree, Pairs, no_pair, pair, Fields, no_field, field, tree_count}
use Rattle.gob_value.specs.Tree.{pair_count}
use Rattle.gob_value.specs.Tree as Value
use Rattle.gob_value.specs.Spelling.{truth}
use Rattle.gob_tape.specs.declared.node.Node.{Node}
use Rattle.gob_tape.specs.declared.kind.ValueKind.{ValueKind}
use Rattle.gob_tape.specs.declared.kind.ValueKind.TheVariants as kind
use Rattle.gob_tape.specs.declared.view.View.{View}
use Rattle.gob_tape.specs.declared.view.Children.{Children}
use Rattle.gob_tape.specs.Meaning.{field_count, MeansAt}

abbrev pub kind_of : Tree → ValueKind
kind_of (Value.bool b) = kind.Bool
kind_of (Value.int i) = kind.Int
kind_of (Value.uint n) = kind.Uint
kind_of (Value.float p) = kind.Float
kind_of (Value.complex p q) = kind.Complex
kind_of (Value.bytes s) = kind.Bytes
kind_of (Value.text s) = kind.Str
kind_of Value.nil = kind.Nil
kind_of (Value.many vs) = kind.Many
kind_of (Value.pairs ps) = kind.Pairs
kind_of (Value.fields fs) = kind.Fields
kind_of (Value.opaque s) = kind.Opaque

-- the unsigned number that spells a signed one
abbrev pub unsigned_of : ℤ → ℕ
unsigned_of (pos n) = 2 * n
unsigned_of (negsuc n) = 2 * n + 1

abbrev pub numbers_of : Tree → ℕ × ℕ
numbers_of (Value.bool b) = (truth b, 0)
numbers_of (Value.int i) = (unsigned_of i, 0)
numbers_of (Value.uint n) = (n, 0)
numbers_of (Value.float p) = (p, 0)
numbers_of (Value.complex p q) = (p, q)
numbers_of (Value.bytes s) = (length s, 0)
numbers_of (Value.text s) = (length s, 0)
numbers_of Value.nil = (0, 0)
numbers_of (Value.many vs) = (tree_count vs, 0)
numbers_of (Value.pairs ps) = (pair_count ps, 0)
numbers_of (Value.fields fs) = (field_count fs, 0)
numbers_of (Value.opaque s) = (length s, 0)

abbrev pub bytes_of : Tree → List ℕ
bytes_of (Value.bytes s) = s
bytes_of (Value.text s) = s
bytes_of (Value.opaque s) = s
bytes_of _ = []

-- a part, with its number in a struct
abbrev pub elements : Trees → List (Option ℕ × Tree)
elements no_tree = []
elements (tree v vs) = (None, v) ∷ elements vs

-- keys and elements alternate
abbrev pub alternating : Pairs → List (Option ℕ × Tree)
alternating no_pair = []
alternating (pair k e ps) = (None, k) ∷ ((None, e) ∷ alternating ps)

abbrev pub present : Fields → List (Option ℕ × Tree)
present no_field = []
present (field f v fs) = (Some f, v) ∷ present fs

-- the parts of a value, in order
abbrev pub parts_of : Tree → List (Option ℕ × Tree)
parts_of (Value.many vs) = elements vs
parts_of (Value.pairs ps) = alternating ps
parts_of (Value.fields fs) = present fs
parts_of _ = []

-- the view shows the part
pub record Sees (view : View) (f : Option ℕ) (v : Tree) : Type 0 where
  pub end : ℕ
  pub means : MeansAt view.nodes.now view.pool.now view.place end f v

-- the nodes between are these parts
pub data AreParts (nodes : List Node) (pool : List ℕ) : ℕ → ℕ → List (Option ℕ × Tree) → Type 0 where
  no_more : {i : ℕ} → AreParts nodes pool i i []
  one_more : {i j k : ℕ} {f : Option ℕ} {v : Tree} {xs : List (Option ℕ × Tree)} → MeansAt nodes pool i j f v
      → AreParts nodes pool j k xs → AreParts nodes pool i k ((f, v) ∷ xs)

-- these parts are to come
pub record Gives (children : Children) (xs : List (Option ℕ × Tree)) : Type 0 where
  pub parts : AreParts children.nodes.now children.pool.now children.place children.end xs

-- where these parts are to come, the next is the first of them, and the others are to come from then on
pub data GivesNext (new : Children) : List (Option ℕ × Tree) → Option View → Type 0 where
  gives_none : Gives new [] → GivesNext new [] None
  gives_one : {view : View} {f : Option ℕ} {v : Tree} {xs : List (Option ℕ × Tree)} → Sees view f v → Gives new xs
      → GivesNext new ((f, v) ∷ xs) (Some view)

-- how many nodes there are from the view's own on, and how many from the next part's
abbrev pub nodes_from : View → ℕ
nodes_from view = length view.nodes.now - view.place

abbrev pub nodes_left : Children → ℕ
nodes_left children = length children.nodes.now - children.place

-- a part has no more nodes than were left, and the others have fewer: so what goes down a view comes to an end
pub data TakesNodes (old new : Children) : Option View → Type 0 where
  takes_none : nodes_left new ≤ nodes_left old → TakesNodes old new None
  takes_some : {view : View} → nodes_from view ≤ nodes_left old → nodes_left new < nodes_left old
      → TakesNodes old new (Some view)

pub record GivesPart (old : Children) (part : Option View) (new : Children) : Type 0 where
  pub next : (xs : List (Option ℕ × Tree)) → Gives old xs → GivesNext new xs part
  pub nodes : TakesNodes old new part
