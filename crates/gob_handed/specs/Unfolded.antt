-- What is handed out of an item, where it stands in the stream: the definition that it is, or its value, behind the
-- definitions that stand in that. (docs/LIBRARY.md, Flat nodes: this project's own.)
use Rattle.std.specs.Prelude.{◌≡◌, List, [], ◌∷◌, ◌++◌, map}
use Rattle.gob_types.specs.declared.id.TypeId.{TypeId}
use Rattle.gob_types.specs.Table.{Table}
use Rattle.gob_value.specs.Tree.{Tree}
use Rattle.gob_tape.specs.Flat.{Flat}
use Rattle.gob_tape.specs.Meaning.{Means}
use Rattle.gob_stream.specs.Item.{ItemMeans, StreamItem, defines, puts}
use Rattle.gob_stream.specs.declared.item.Item.{Item}
use Rattle.gob_filled.specs.Filled.{Filled}
use Rattle.gob_filled.specs.Stream.{FilledItem, defining, putting}
use Rattle.gob_go.specs.Meaning as go
use Rattle.gob_go.specs.declared.item.GoItem.{GoItem}
use Rattle.gob_handed.specs.declared.handout.Span.{Span}
use Rattle.gob_handed.specs.declared.handout.Handout.{Handout}
use Rattle.gob_handed.specs.declared.handout.Content.{Content}
use Rattle.gob_handed.specs.declared.handout.Content.TheVariants as content
use Rattle.gob_handed.specs.Handed.{content_kind, content_nodes, content_bytes}
use Rattle.gob_go.specs.Ids.{inner_ids}
use Rattle.gob_handed.specs.ValueNodes.{AreNodesOf}

-- what is given of the type by an item that stands there
abbrev pub handout : TypeId → Span → Content → Handout
handout id span given = record { id = id; span = span; content = given }

abbrev pub definition_handouts : Span → List TypeId → List Handout
definition_handouts span ids = map (λ id. handout id span content.Definition) ids

-- of an item of the documented format, of whose values there are such tapes
pub data AreHandouts (means : Flat → Tree → Type 0) : StreamItem → Span → List Handout → Type 0 where
  of_definition : {id : TypeId} {v : Tree} {span : Span}
      → AreHandouts means (defines id v) span (handout id span content.Definition ∷ [])
  of_value : {id : TypeId} {v : Tree} {span : Span} {tape : Flat} → means tape v
      → AreHandouts means (puts id v) span (handout id span (content.Tape tape) ∷ [])

-- of an item of what Go's encoder writes
pub data AreGoHandouts (T : Table) : FilledItem → Span → List Handout → Type 0 where
  of_go_definition : {id : TypeId} {v : Tree} {span : Span}
      → AreGoHandouts T (defining id v) span (handout id span content.Definition ∷ [])
  of_go_value : {id : TypeId} {w : Filled} {span : Span} (given : Content) → content_kind given ≡ 2
      → AreNodesOf T id w (content_nodes T id given) (content_bytes T id given)
      → AreGoHandouts T (putting id w) span (definition_handouts span (inner_ids w) ++ handout id span given ∷ [])

-- of what a session of either grammar gives
abbrev pub handouts_by : (Flat → Tree → Type 0) → Table → Item Flat → Span → List Handout → Type 0
handouts_by means T given span us = (i : StreamItem) → ItemMeans means given i → AreHandouts means i span us

abbrev pub exact_handouts : Table → Item Flat → Span → List Handout → Type 0
exact_handouts T given span us = handouts_by Means T given span us

abbrev pub go_handouts : Table → GoItem → Span → List Handout → Type 0
go_handouts T given span us = (i : FilledItem) → go.ItemMeans T given i → AreGoHandouts T i span us
