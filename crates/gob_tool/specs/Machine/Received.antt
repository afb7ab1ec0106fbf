-- What is written of received values, in each form. For private clauses.
use Rattle.std.specs.Prelude.{◌≡◌, ℕ, List, [], ◌∷◌, ◌++◌, Option, Some, None, Result}
use Rattle.gob_types.specs.declared.id.TypeId.{TypeId}
use Rattle.gob_types.specs.Base.{base_table}
use Rattle.gob_types.specs.Table.{Table}
use Rattle.gob_match.specs.Matching.{Match}
use Rattle.gob_match.specs.Received.{Receives}
use Rattle.gob_value.specs.Tree.{Tree}
use Rattle.gob_value.specs.Whole.{IsWhole}
use Rattle.gob_stream.specs.Bounds.{Bounds}
use Rattle.gob_stream.specs.Calls.Writing.{CountsWriterFaults}
use Rattle.gob_stream.specs.Item.{StreamItem, defines, puts}
use Rattle.gob_stream.specs.declared.fault.WriteFault.{WriteFault}
use Rattle.gob_tool.specs.Converting.{HasConverted, in_front}
use Rattle.gob_tool.specs.Line.{line}
use Rattle.gob_tool.specs.Sending.{Sends}
use Rattle.gob_tool.specs.Taking.{HasTakenItems, WantedAnswers}
use Rattle.gob_tool.specs.Machine.Rewritten.{SpellsItem}
use Rattle.gob_tool.specs.declared.fault.ToolFault.{ToolFault}
use Rattle.gob_tool.specs.declared.received_form.ReceivedForm.{ReceivedForm}
use Rattle.gob_tool.specs.declared.received_form.ReceivedForm.TheVariants as form

-- the text is that of a value of the type
abbrev pub Says : ReceivedForm → Table → TypeId → Tree → List ℕ → Type 0
Says form.Line U u w text = text ≡ line U (puts u w)
Says form.Item U u w text = SpellsItem U (puts u w) text

-- what stands in front of all of them
abbrev pub text_in_front : ReceivedForm → (definitions : List ℕ) → List ℕ
text_in_front form.Line definitions = []
text_in_front form.Item definitions = definitions

-- each value among the items is of a type that matches u, and these are the texts of what is received of them
pub data AreReceivedIn (how : ReceivedForm) (T U : Table) (u : TypeId) : List StreamItem → List ℕ → Type 0 where
  no_item : AreReceivedIn how T U u [] []
  definition : {id : TypeId} {described : Tree} {items : List StreamItem} {text : List ℕ}
      → AreReceivedIn how T U u items text → AreReceivedIn how T U u (defines id described ∷ items) text
  value : {t : TypeId} {v w : Tree} {items : List StreamItem} {text : List ℕ} (said : List ℕ) → Match T U t u
      → Receives T U t u v w → Says how U u w said → AreReceivedIn how T U u items text
      → AreReceivedIn how T U u (puts t v ∷ items) (said ++ text)

-- what is written, in the words of each run
abbrev pub HasIn : ReceivedForm → Bounds → List StreamItem → Table → TypeId → (List ℕ → Type 0) → Table
    → List StreamItem → Type 0
HasIn form.Line L given U u P T items = HasTakenItems T U u items P
HasIn form.Item L given U u P T items = HasConverted L (in_front given) U u P T items

abbrev pub FormAnswers : ReceivedForm → Bounds → (wanted bytes : List ℕ) → (wanted_now now old new : Option (List ℕ))
    → Result (Unit {0}) ToolFault → Type 0
FormAnswers how L wanted bytes wanted_now now old new result =
    WantedAnswers (HasIn how L) L wanted bytes wanted_now now old new result

-- the definitions, one behind another
pub data AreSpelled : List StreamItem → List ℕ → Type 0 where
  none_spelled : AreSpelled [] []
  spelled : {i : StreamItem} {items : List StreamItem} {text more : List ℕ} → SpellsItem base_table i text
      → AreSpelled items more → AreSpelled (i ∷ items) (text ++ more)

-- ---- what was sent
-- the text of the value that the body spells went out, or a prefix of it; or nothing was sent
abbrev pub SendsReceived : ReceivedForm → Table → TypeId → (limit : ℕ) → (body : List ℕ) → (failures failures' : ℕ)
    → (old new : Option (List ℕ)) → Option (Result (Unit {0}) WriteFault) → Type 0
SendsReceived how U u limit body failures failures' old new None = (failures' ≡ failures) × (new ≡ old)
SendsReceived how U u limit body failures failures' old new (Some sent) = (w : IsWhole U u limit body)
    → (text : List ℕ) × Says how U u w.value text × Sends old new text sent × CountsWriterFaults failures failures' sent
