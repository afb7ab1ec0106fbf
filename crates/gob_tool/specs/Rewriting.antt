-- What the run that rewrites a stream answers, and what it has written then.
-- (docs/FORMAT.md, Tidy form; The program: this project's own.)
use Rattle.std.specs.Prelude.{ℕ, List, [], ◌∷◌, Option, Result}
use Rattle.std.specs.Io.KnownBytes.{Appends}
use Rattle.gob_types.specs.declared.id.TypeId.{TypeId}
use Rattle.gob_types.specs.Base.{base_table, wire_type}
use Rattle.gob_types.specs.Table.{Table}
use Rattle.gob_value.specs.Tidy.{Tidies}
use Rattle.gob_value.specs.Tree.{Tree}
use Rattle.gob_stream.specs.Bounds.{Bounds}
use Rattle.gob_stream.specs.Item.{StreamItem, defines, puts}
use Rattle.gob_stream.specs.Outcome.{strict}
use Rattle.gob_stream.specs.Stream.{Stream}
use Rattle.gob_tool.specs.declared.fault.ToolFault.{ToolFault}
use Rattle.gob_tool.specs.Answering.{AppendsPrefix, RunAnswersIn}

-- what an item says, a description or a value, and of which type that is
abbrev pub content : StreamItem → Tree
content (defines id described) = described
content (puts id value) = value

abbrev pub content_type : StreamItem → TypeId
content_type (defines id described) = wire_type
content_type (puts id value) = id

-- an item whose content is another, with its id kept
abbrev pub with_content : StreamItem → Tree → StreamItem
with_content (defines id described) v = defines id v
with_content (puts id value) v = puts id v

-- the second items are the first, each with the tidy form of its content, by the types of T
pub data AreItemsTidied (T : Table) : List StreamItem → List StreamItem → Type 0 where
  no_item : AreItemsTidied T [] []
  and_item : {i : StreamItem} {items others : List StreamItem} {v : Tree} → Tidies T (content_type i) (content i) v
      → AreItemsTidied T items others → AreItemsTidied T (i ∷ items) (with_content i v ∷ others)

-- the stream of the items in their tidy form, behind which the types are those behind the items, and this holds of its
-- bytes
pub record HasTidyStream (L : Bounds) (T : Table) (items : List StreamItem) (P : List ℕ → Type 0) : Type 0 where
  pub tidy : List StreamItem
  pub tidied : AreItemsTidied T items tidy
  pub bytes : List ℕ
  pub stream : Stream base_table L tidy bytes T
  pub holds : P bytes

-- how the run ends, over an input with these bytes left and an output with the old bytes: the tidy stream went out, and
-- nothing else, or after a failed write a prefix of it
abbrev pub RewriteAnswers : Bounds → (bytes : List ℕ) → (now old new : Option (List ℕ)) → Result (Unit {0}) ToolFault
    → Type 0
RewriteAnswers L bytes now old new result = RunAnswersIn strict L bytes now
    (λ T items. HasTidyStream L T items (Appends old new))
    (λ T items. HasTidyStream L T items (AppendsPrefix old new)) result
