-- What is put into lists. For private clauses.
use Rattle.std.specs.Prelude.{◌≡◌, ℕ, ◌-◌, List, ◌++◌, Some, length, set, slice_get}
use Rattle.gob_types.specs.declared.id.TypeId.{TypeId}
use Rattle.gob_tape.specs.declared.flat.FlatNode.{FlatNode}
use Rattle.gob_handed.specs.ValueNodes.{held_node}

-- the node at this place was nil, and holds a value of the type now, which stands behind all of them
pub record HoldsNil (nil : ℕ) (id : TypeId) (old new : List FlatNode) : Type 0 where
  pub node : FlatNode
  pub was : slice_get old nil ≡ Some node
  pub is_nil : node.kind ≡ 8
  pub set_to : new ≡ set old nil (held_node (length old - nil) id node)

-- something was appended, or nothing
pub record Extends {A : Type 0} (old new : List A) : Type 0 where
  pub more : List A
  pub is : new ≡ old ++ more
