-- What the calls answer.
use Rattle.std.specs.Prelude.{◌≡◌, ◌⊎◌, ℕ, pos, ◌≤◌, ◌<◌, List, ◌++◌, length, Result, Ok, Err}
use Rattle.std.specs.Prelude.{Some, slice_get}
use Rattle.gob_num.specs.Signed.{IsSigned}
use Rattle.gob_num.specs.Unsigned.{IsUnsigned}
use Rattle.gob_types.specs.declared.basic.Basic.TheVariants as basic
use Rattle.gob_types.specs.declared.id.TypeId.{TypeId}
use Rattle.gob_types.specs.declared.kind.Field.{Field}
use Rattle.gob_types.specs.Defined.{types}
use Rattle.gob_types.specs.Table.{Table}
use Rattle.gob_tape.specs.declared.flat.FlatNode.{FlatNode}
use Rattle.gob_nodes.specs.Nodes.{IsWrong}
use Rattle.gob_nodes.specs.declared.fault.NodesFault.{NodesFault}
use Rattle.gob_nodes.specs.Says.{SaysHeld, SaysLeafAt}
use Rattle.gob_nodes.specs.declared.part.Group.{Group}
use Rattle.gob_nodes.specs.declared.value.Places.{Places}
use Rattle.gob_nodes.specs.declared.value.Walk.{Walk}

-- the call reads this, or had no memory
abbrev pub ReadsIt : {A B : Type 0} → (A → B) → Result A NodesFault → B → Type 0
ReadsIt f (Ok a) b = f a ≡ b
ReadsIt f (Err e) b = ¬ IsWrong e

-- behind the old bytes stand those that the nodes say
pub record PutsValue (Is : List ℕ → Type 0) (before after : List ℕ) : Type 0 where
  pub bytes : List ℕ
  pub says : Is bytes
  pub appended : after ≡ before ++ bytes

-- what a call answers that puts these bytes behind the old ones
abbrev pub SpellsIt : Result (Unit {0}) NodesFault → (before after bytes : List ℕ) → Type 0
SpellsIt (Ok _) before after bytes = after ≡ before ++ bytes
SpellsIt (Err e) before after bytes = ¬ IsWrong e

-- ---- for private clauses

-- the types, the nodes and the bytes by which a walk goes
abbrev pub known : Walk → Table
known w = types w.table.now

abbrev pub nodes_of : Walk → List FlatNode
nodes_of w = w.given.nodes.now

abbrev pub pool_of : Walk → List ℕ
pool_of w = w.given.bytes.now

-- behind the old bytes stand those that the nodes between the places say
pub record PutsSaid {P : Type 0} (Is : P → P → List ℕ → Type 0) (old new : P) (before after : List ℕ) : Type 0 where
  pub bytes : List ℕ
  pub says : Is old new bytes
  pub appended : after ≡ before ++ bytes

-- what a call answers that puts these bytes behind the old ones, and goes up to this place
abbrev pub PutsIt : {P : Type 0} → Result (Unit {0}) NodesFault → (new to : P) → (before after bytes : List ℕ) → Type 0
PutsIt (Ok _) new to before after bytes = (new ≡ to) × (after ≡ before ++ bytes)
PutsIt (Err e) new to before after bytes = ¬ IsWrong e

-- and one that answers the place to which it goes
abbrev pub PutsEnd : Result ℕ NodesFault → (to : ℕ) → (before after bytes : List ℕ) → Type 0
PutsEnd (Ok end) to before after bytes = (end ≡ to) × (after ≡ before ++ bytes)
PutsEnd (Err e) to before after bytes = ¬ IsWrong e

-- the node at the place is of this kind, and says this of a list, a map or a struct
pub record IsGroupNode (nodes : List FlatNode) (code at : ℕ) (group : Group) : Type 0 where
  pub node : FlatNode
  pub there : slice_get nodes at ≡ Some node
  pub kind : node.kind ≡ code
  pub at_is : group.at ≡ at
  pub counted : group.count ≡ node.first
  pub extends : group.extent ≡ node.second

-- so many nodes has the part that begins with this one
pub data HasExtent (n : FlatNode) : ℕ → Type 0 where
  one_node : {size : ℕ} → (n.kind < 9) ⊎ (11 < n.kind) → size ≡ 1 → HasExtent n size
  as_told : {size : ℕ} → 9 ≤ n.kind → n.kind ≤ 11 → size ≡ n.second → HasExtent n size

-- an interface: nil, or what it holds, no deeper than the limit
pub data SaysInterface (T : Table) (nodes : List FlatNode) (pool : List ℕ) (limit : ℕ) (from to : Places)
    (b : List ℕ) : Type 0 where
  says_nil : SaysLeafAt nodes pool basic.Interface from to b → SaysInterface T nodes pool limit from to b
  says_held : SaysHeld T nodes pool limit from to b → SaysInterface T nodes pool limit from to b

-- the node at the place is of the field of this number, which is no lower than the next
pub record IsField (nodes : List FlatNode) (fields : List Field) (next at : ℕ) (number : ℕ) (field : Field)
    : Type 0 where
  pub node : FlatNode
  pub there : slice_get nodes at ≡ Some node
  pub is_named : node.named ≡ 1
  pub number_is : number ≡ node.number
  pub order : next ≤ number
  pub found : slice_get fields number ≡ Some field

-- the bytes of what an interface holds: the name behind its count, the type's number, and the value behind its count
pub record SpellsHeld (name : List ℕ) (id : TypeId) (value bytes : List ℕ) : Type 0 where
  pub name_count : List ℕ
  pub number : List ℕ
  pub count : List ℕ
  pub named : IsUnsigned (length name) name_count
  pub typed : IsSigned (pos id.0) number
  pub counted : IsUnsigned (length value) count
  pub whole : bytes ≡ name_count ++ (name ++ (number ++ (count ++ value)))
