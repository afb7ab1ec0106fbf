-- What is handed out of items: handouts, each with its head, its nodes and its bytes. (docs/LIBRARY.md, Flat nodes:
-- this project's own.)
use Rattle.std.specs.Prelude.{ℕ, ◌≤◌, List, [], ◌∷◌, ◌++◌, length, map}
use Rattle.gob_types.specs.declared.id.TypeId.{TypeId}
use Rattle.gob_types.specs.Table.{Table, shape_of}
use Rattle.gob_tape.specs.declared.flat.FlatNode.{FlatNode}
use Rattle.gob_tape.specs.FlatNodes.{flat}
use Rattle.gob_handed.specs.declared.head.HandedOut.{HandedOut}
use Rattle.gob_handed.specs.declared.head.Head.{Head}
use Rattle.gob_handed.specs.declared.handout.Handout.{Handout}
use Rattle.gob_handed.specs.declared.handout.Content.{Content}
use Rattle.gob_handed.specs.declared.handout.Content.TheVariants as content
use Rattle.gob_handed.specs.Definition.{shape_nodes, shape_bytes}

-- 1 for a definition, 2 for a value, 0 where it was handed out
abbrev pub content_kind : Content → ℕ
content_kind content.Definition = 1
content_kind (content.Tape tape) = 2
content_kind (content.Filled value) = 2
content_kind content.Handed = 0

-- the nodes of what is given of the type: of a definition those of the shape that the type has in the table
abbrev pub content_nodes : Table → TypeId → Content → List FlatNode
content_nodes T id content.Definition = shape_nodes (shape_of T id)
content_nodes T id (content.Tape tape) = map flat tape.nodes
content_nodes T id (content.Filled value) = value.nodes.items
content_nodes T id content.Handed = []

-- and its bytes
abbrev pub content_bytes : Table → TypeId → Content → List ℕ
content_bytes T id content.Definition = shape_bytes (shape_of T id)
content_bytes T id (content.Tape tape) = tape.pool
content_bytes T id (content.Filled value) = value.pool.items
content_bytes T id content.Handed = []

abbrev pub handout_nodes : Table → Handout → List FlatNode
handout_nodes T u = content_nodes T u.id u.content

abbrev pub handout_bytes : Table → Handout → List ℕ
handout_bytes T u = content_bytes T u.id u.content

-- the head of a handout before whose own nodes and bytes stand so many
abbrev pub handout_head : Table → Handout → (nodes bytes : ℕ) → Head
handout_head T u nodes bytes = record {
  id = u.id.0;
  node = nodes;
  nodes = length (handout_nodes T u);
  byte = bytes;
  bytes = length (handout_bytes T u);
  kind = content_kind u.content;
  begin = u.span.begin;
  end = u.span.end;
}

-- these heads, nodes and bytes are those of the handouts, one behind another
pub data AreHanded (T : Table) : List Handout → List Head → List FlatNode → List ℕ → Type 0 where
  none_handed : AreHanded T [] [] [] []
  one_more : {us : List Handout} {hs : List Head} {ns : List FlatNode} {bs : List ℕ} (u : Handout)
      → AreHanded T us hs ns bs
      → AreHanded T (us ++ u ∷ []) (hs ++ handout_head T u (length ns) (length bs) ∷ [])
      (ns ++ handout_nodes T u) (bs ++ handout_bytes T u)

-- no more is told than there was room for: so many heads, nodes and bytes
abbrev pub IsWithin : HandedOut → (heads nodes bytes : ℕ) → Type 0
IsWithin told heads nodes bytes = (told.items ≤ heads) × (told.nodes ≤ nodes) × (told.bytes ≤ bytes)
