-- What the run that explains the bytes of a stream answers, and what it has written then. (docs/FORMAT.md, Explained
-- bytes; The program: this project's own.)
use Rattle.std.specs.Prelude.{◌≡◌, ℕ, ◌+◌, ◌-◌, ◌<◌, ◌≤◌, List, [], ◌∷◌, ◌++◌, length, take, Option, Some, None}
use Rattle.std.specs.Prelude.{Result, Ok, Err}
use Rattle.std.specs.Io.KnownBytes.{Appends}
use Rattle.gob_types.specs.Base.{base_table}
use Rattle.gob_types.specs.Table.{Table}
use Rattle.gob_types.specs.declared.reason.Reason.{Reason}
use Rattle.gob_types.specs.declared.reason.Reason.TheVariants as reason
use Rattle.gob_explain.specs.Items.{ShowsItem}
use Rattle.gob_stream.specs.Bounds.{Bounds, within_trees}
use Rattle.gob_stream.specs.Reading.{SomeTaken}
use Rattle.gob_stream.specs.declared.fault.Refusal.{Refusal}
use Rattle.gob_filled.specs.Stream.{FilledItem, FilledStream}
use Rattle.gob_go.specs.Calls.Session.{HasRead, limits_of, types_of}
use Rattle.gob_go.specs.Machine.SessionState.{SessionState}
use Rattle.gob_go.specs.Reading.{RefusesBehind}
use Rattle.gob_tool.specs.Showing.{AppendsPrefix}
use Rattle.gob_tool.specs.declared.fault.ToolFault.{ToolFault}
use Rattle.gob_tool.specs.declared.fault.ToolFault.TheVariants as fault
use Rattle.gob_tool.specs.RunningGo.{BeginsGo, EndsWholeGo, GivesLongestGo, IsRefusedGo}
use Rattle.gob_why.specs.declared.explained.Explained.{Explained}
use Rattle.gob_why.specs.declared.explained.Explained.TheVariants as explained

-- ---- which items are explained
-- of a whole one with so many bytes, which begins at this offset
abbrev pub IsChosen : Option Explained → (offset size : ℕ) → Type 0
IsChosen None offset size = ⊥
IsChosen (Some explained.All) offset size = Unit {0}
IsChosen (Some explained.Fault) offset size = ⊥
IsChosen (Some (explained.At place)) offset size = (offset ≤ place) × (place < offset + size)

-- of one that is refused, which begins at this offset
abbrev pub IsRefusedChosen : Explained → (offset : ℕ) → Type 0
IsRefusedChosen explained.All offset = Unit {0}
IsRefusedChosen explained.Fault offset = Unit {0}
IsRefusedChosen (explained.At place) offset = offset ≤ place

-- ---- their text
-- of a whole one with these bytes: lines that show them, or nothing
pub data IsItemText (which : Option Explained) (T : Table) (offset : ℕ) (bytes : List ℕ) : List ℕ → Type 0 where
  explained_so : {text : List ℕ} → IsChosen which offset (length bytes) → ShowsItem T offset bytes text
      → IsItemText which T offset bytes text
  left_out : ¬ IsChosen which offset (length bytes) → IsItemText which T offset bytes []

-- the bytes are the stream of the items, with this table behind it, and the text is that of each item by the types
-- behind it, those among them that are defined within its value
pub data AreExplained (which : Option Explained) (L : Bounds) : List FilledItem → List ℕ → Table → List ℕ → Type 0 where
  no_item : AreExplained which L [] [] base_table []
  item_behind : {items : List FilledItem} {bytes more text line : List ℕ} {T U : Table} (i : FilledItem)
      → AreExplained which L items bytes T text
      → FilledStream base_table L (items ++ i ∷ []) (bytes ++ more) U → IsItemText which U (length bytes) more line
      → AreExplained which L (items ++ i ∷ []) (bytes ++ more) U (text ++ line)

-- this holds of the text of the items
pub record HasExplained (which : Option Explained) (L : Bounds) (P : List ℕ → Type 0) (items : List FilledItem) : Type
    0 where
  pub bytes : List ℕ
  pub table : Table
  pub text : List ℕ
  pub explained : AreExplained which L items bytes table text
  pub holds : P text

-- the offset up to which a refused item is explained: that of what is refused, but the end of a description whose bytes
-- are well formed
abbrev pub up_to : Reason → (place seen : ℕ) → ℕ
up_to reason.KindCount place seen = seen
up_to reason.WrongId place seen = seen
up_to reason.BadReference place seen = seen
up_to reason.BadLength place seen = seen
up_to _ place seen = place

abbrev pub explained_up_to : Refusal → ℕ
explained_up_to R = up_to R.reason R.place R.seen

-- of a refused one, with which these bytes begin: lines that show them up to that offset, and then words; or nothing
pub data IsRefusedText (which : Explained) (T : Table) (offset : ℕ) (R : Refusal) (bytes : List ℕ) : List ℕ → Type
    0 where
  refused_so : {text : List ℕ} (words : List ℕ) → IsRefusedChosen which offset
      → ShowsItem T offset (take (explained_up_to R - offset) bytes) text
      → IsRefusedText which T offset R bytes (text ++ words)
  not_chosen : ¬ IsRefusedChosen which offset → IsRefusedText which T offset R bytes []

-- the bytes are refused so behind the items, and these are the types there: those with which some of the bytes show the
-- refusal, and where they end within an item those of a session that has read them
pub data AreTypesRefused (L : Bounds) (bytes : List ℕ) (items : List FilledItem) (R : Refusal) (U : Table) : Type
    0 where
  shown_there : (read left : List ℕ) → bytes ≡ read ++ left → RefusesBehind L read items R U
      → AreTypesRefused L bytes items R U
  ended_there : (s : SessionState) → within_trees (limits_of s) ≡ L → HasRead s items bytes → R.reason ≡ reason.Ended
      → types_of s ≡ U → AreTypesRefused L bytes items R U

-- this holds of the text of the items and of the refused bytes behind them, which are there up to where they are
-- explained, by the types there
pub record HasRefused (which : Explained) (L : Bounds) (bytes : List ℕ) (R : Refusal) (P : List ℕ → Type 0)
    (items : List FilledItem) : Type 0 where
  pub before : List ℕ
  pub rest : List ℕ
  pub whole : bytes ≡ before ++ rest
  pub behind : length before ≤ explained_up_to R
  pub there : explained_up_to R ≤ length bytes
  pub table : Table
  pub text : List ℕ
  pub explained : AreExplained (Some which) L items before table text
  pub types : Table
  pub types_are : AreTypesRefused L bytes items R types
  pub last : List ℕ
  pub refused : IsRefusedText which types (length before) R rest last
  pub holds : P (text ++ last)

-- ---- the run
-- a prefix of the text is out, of some items, or of all and the refused bytes
pub data IsCutOff (which : Explained) (L : Bounds) (bytes : List ℕ) (old new : Option (List ℕ)) : Type 0 where
  in_items : BeginsGo L bytes (HasExplained (Some which) L (AppendsPrefix old new))
      → IsCutOff which L bytes old new
  in_refused : {R : Refusal} → IsRefusedGo L bytes R (HasRefused which L bytes R (AppendsPrefix old new))
      → IsCutOff which L bytes old new

-- how it ends, over an input with these bytes left and an output with the old bytes: the text of the items went out,
-- and of a refused one behind them, and nothing else; after a failed write, or where memory is wanting, a prefix
abbrev pub ExplainAnswers : Explained → Bounds → (bytes : List ℕ) → (now old new : Option (List ℕ)) → Result (Unit
    {0}) ToolFault
    → Type 0
ExplainAnswers which L bytes now old new (Ok _) =
    EndsWholeGo L bytes now (HasExplained (Some which) L (Appends old new))
ExplainAnswers which L bytes now old new (Err (fault.Refused R)) =
    IsRefusedGo L bytes R (HasRefused which L bytes R (Appends old new))
ExplainAnswers which L bytes now old new (Err fault.Read) =
    SomeTaken bytes now (λ taken. GivesLongestGo L taken (HasExplained (Some which) L (Appends old new)))
ExplainAnswers which L bytes now old new (Err fault.Write) = IsCutOff which L bytes old new
ExplainAnswers which L bytes now old new (Err fault.Memory) = IsCutOff which L bytes old new
ExplainAnswers which L bytes now old new (Err (fault.Wanted R)) = ⊥
ExplainAnswers which L bytes now old new (Err fault.NoWantedType) = ⊥
ExplainAnswers which L bytes now old new (Err (fault.Clash path reason)) = ⊥
ExplainAnswers which L bytes now old new (Err (fault.LeftOut path number)) = ⊥
