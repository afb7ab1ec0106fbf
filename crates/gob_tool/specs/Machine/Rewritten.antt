-- Items in their tidy form, as they are made. For private clauses.
use Rattle.std.specs.Prelude.{◌≡◌, ℕ, ℤ, pos, negsuc, ◌+◌, ◌≤◌, List, ◌++◌, length, Option, Some, None, Result}
use Rattle.gob_num.specs.Signed.{IsSigned}
use Rattle.gob_num.specs.Unsigned.{IsUnsigned}
use Rattle.gob_types.specs.declared.id.TypeId.{TypeId}
use Rattle.gob_types.specs.Base.{base_table, wire_type}
use Rattle.gob_types.specs.Table.{Table}
use Rattle.gob_value.specs.Spelling.{Spells}
use Rattle.gob_value.specs.Tidy.{Tidies}
use Rattle.gob_value.specs.Top.{SpellsTop}
use Rattle.gob_value.specs.Tree.{Tree, depth}
use Rattle.gob_stream.specs.declared.fault.WriteFault.{WriteFault}
use Rattle.gob_stream.specs.declared.item.Item as declared
use Rattle.gob_stream.specs.Bounds.{Bounds}
use Rattle.gob_stream.specs.Calls.Writing.{CountsWriterFaults}
use Rattle.gob_stream.specs.Item.{StreamItem, defines, puts, ItemMeans}
use Rattle.gob_stream.specs.Stream.{IsItem, Stream}
use Rattle.gob_stream.specs.StrictStepping.{strict_stepping}
use Rattle.gob_tape.specs.Calls.Builder.{tape_building}
use Rattle.gob_tape.specs.declared.tape.Tape.{Tape}
use Rattle.gob_filled.specs.Filled.{Filled}
use Rattle.gob_tool.specs.Rewriting.{content, content_type, with_content}
use Rattle.gob_tool.specs.Sending.{Sends}
use Rattle.gob_tool.specs.Texts.{IsTextBy, of_format}

-- ---- an item, wherever it stands
-- what stands before the content of an item: the count of the bytes of its body, and its type number
pub record IsHead (number : ℤ) (content head : List ℕ) : Type 0 where
  pub count : List ℕ
  pub name : List ℕ
  pub counts : IsUnsigned (length (name ++ content)) count
  pub names : IsSigned number name
  pub whole : head ≡ count ++ name

-- the text is the item of this type number and content
pub record IsNumbered (number : ℤ) (content text : List ℕ) : Type 0 where
  pub head : List ℕ
  pub before : IsHead number content head
  pub whole : text ≡ head ++ content

-- by these types the text is the item
pub data SpellsItem (T : Table) : StreamItem → List ℕ → Type 0 where
  spells_definition : {id : TypeId} {n : ℕ} {v : Tree} {b text : List ℕ} → id.0 ≡ n + 1 → Spells T wire_type v b
      → IsNumbered (negsuc n) b text → SpellsItem T (defines id v) text
  spells_value : {t : TypeId} {v : Tree} {b text : List ℕ} → SpellsTop T t v b → IsNumbered (pos t.0) b text
      → SpellsItem T (puts t v) text

-- it is the tidy form of the item
pub record IsTidyItem (T : Table) (i : StreamItem) (text : List ℕ) : Type 0 where
  pub form : Tree
  pub tidies : Tidies T (content_type i) (content i) form
  pub spelled : SpellsItem T (with_content i form) text

-- ---- the texts of a run that rewrites
-- the item is the last of a stream, behind which the types are those of the table
pub record IsLastOfStream (T : Table) (i : StreamItem) : Type 0 where
  pub limits : Bounds
  pub items : List StreamItem
  pub prefix : List ℕ
  pub before : Table
  pub earlier : Stream base_table limits items prefix before
  pub bytes : List ℕ
  pub counted : IsItem base_table limits before (length prefix) i bytes T

-- of what was handed out, and of a value
abbrev pub is_tidy_of_item : Table → declared.Item Tape → List ℕ → Type 0
is_tidy_of_item T given text = (i : StreamItem) → ItemMeans tape_building.means given i → IsLastOfStream T i
    → IsTidyItem T i text

abbrev pub is_tidy_of_value : Table → TypeId → Filled → List ℕ → Type 0
is_tidy_of_value = of_format IsTidyItem

-- the text of an item, as the run makes it
abbrev pub IsTidied : Table → StreamItem → List ℕ → Type 0
IsTidied = IsTextBy (strict_stepping tape_building) is_tidy_of_item is_tidy_of_value

-- the body is a value of the type no deeper than the limit, and the text the item of its tidy form
pub record IsTidyText (T : Table) (t : TypeId) (limit : ℕ) (body text : List ℕ) : Type 0 where
  pub value : Tree
  pub spelled : SpellsTop T t value body
  pub within : depth value ≤ limit
  pub is : IsTidyItem T (puts t value) text

-- ---- what was sent
-- the item went out, or a prefix of it; or nothing was sent
abbrev pub SendsNumbered : (number : ℤ) → (content : List ℕ) → (failures failures' : ℕ) → (old new : Option (List ℕ))
    → Option (Result (Unit {0}) WriteFault) → Type 0
SendsNumbered number content failures failures' old new None = (failures' ≡ failures) × (new ≡ old)
SendsNumbered number content failures failures' old new (Some sent) = (text : List ℕ) × IsNumbered number content text
    × Sends old new text sent × CountsWriterFaults failures failures' sent

abbrev pub SendsTidy : Table → TypeId → (limit : ℕ) → (body : List ℕ) → (failures failures' : ℕ)
    → (old new : Option (List ℕ)) → Option (Result (Unit {0}) WriteFault) → Type 0
SendsTidy T t limit body failures failures' old new None = (failures' ≡ failures) × (new ≡ old)
SendsTidy T t limit body failures failures' old new (Some sent) = (text : List ℕ) × IsTidyText T t limit body text
    × Sends old new text sent × CountsWriterFaults failures failures' sent
