-- What a receiver of values keeps, and what it makes of the items of a stream. For private clauses.
use Rattle.std.specs.Global.{Global}
use Rattle.std.specs.Prelude.{ℕ, ◌<◌, ◌^◌, List, [], ◌∷◌, IfSome, Option, Some, None, Result, Vec}
use Rattle.gob_types.specs.declared.id.TypeId.{TypeId}
use Rattle.gob_types.specs.Ready.{IsReady}
use Rattle.gob_types.specs.Table.{Table}
use Rattle.gob_match.specs.declared.kept.KeptMatch.{KeptMatch}
use Rattle.gob_match.specs.Clashing.{IsLeastClash}
use Rattle.gob_match.specs.declared.fault.MatchFault.{MatchFault}
use Rattle.gob_match.specs.declared.reason.ClashReason.{ClashReason}
use Rattle.gob_match.specs.declared.step.TypeStep.{TypeStep}
use Rattle.gob_match.specs.declared.fault.MatchFault.TheVariants as matching
use Rattle.gob_match.specs.Matching.{Match}
use Rattle.gob_match.specs.Calls.Matched.{IsKeptMatch, kept_type}
use Rattle.gob_read.specs.Calls.Builders.{tree_building}
use Rattle.gob_value.specs.declared.value.Value.{Value}
use Rattle.gob_stream.specs.Item.{StreamItem, item_view}
use Rattle.gob_stream.specs.StrictStepping.{strict_stepping}
use Rattle.gob_stream.specs.declared.item.Item as declared
use Rattle.gob_stream.specs.declared.item.Item.TheVariants as variant
use Rattle.gob_filled.specs.Filled.{Filled}
use Rattle.gob_tool.specs.Texts.{AnswersOrStops, IsStopBy, IsTextBy, of_format}
use Rattle.gob_tool.specs.Machine.Received.{AreReceivedIn}
use Rattle.gob_tool.specs.declared.received_form.ReceivedForm.{ReceivedForm}
use Rattle.gob_stream.specs.Bounds.{Bounds}
use Rattle.gob_stream.specs.Outcome.{strict}
use Rattle.gob_tool.specs.declared.fault.ToolFault.{ToolFault}
use Rattle.gob_tool.specs.declared.fault.ToolFault.TheVariants as fault
use Rattle.gob_tool.specs.declared.receiver.LastMatch.{LastMatch}

-- what is kept is a match of one of the types of T with u, one of U
pub record IsKnown (T U : Table) (u : TypeId) (kept : KeptMatch) : Type 0 where
  pub match : Match T U (kept_type kept) u
  pub is : IsKeptMatch T U (kept_type kept) u kept

abbrev pub KeepsKnown : (T U : Table) → TypeId → LastMatch → Type 0
KeepsKnown T U u kept = IfSome kept.last (λ known. IsKnown T U u known)

-- where this is given next: a definition lets go of it
abbrev pub StaysKnown : (T U : Table) → TypeId → LastMatch → Option (declared.Item Value) → Type 0
StaysKnown T U u kept None = KeepsKnown T U u kept
StaysKnown T U u kept (Some (variant.Define id described)) = Unit {0}
StaysKnown T U u kept (Some (variant.Put id value)) = KeepsKnown T U u kept

-- and the wanted type is ready, and has a type number
pub record KeepsMatch (U : Table) (u : TypeId) (kept : LastMatch) (T : Table) : Type 0 where
  pub ready : IsReady U u
  pub number : u.0 < 2 ^ 63
  pub known : KeepsKnown T U u kept

-- ---- what is received
-- the text is that of what u, one of U, receives of it
abbrev pub is_received_of_item : ReceivedForm → (U : Table) → TypeId → Table → declared.Item Value → List ℕ → Type 0
is_received_of_item how U u T given text = AreReceivedIn how T U u (item_view given ∷ []) text

abbrev pub is_received_of_value : ReceivedForm → (U : Table) → TypeId → Table → TypeId → Filled → List ℕ → Type 0
is_received_of_value how U u = of_format (λ T i text. AreReceivedIn how T U u (i ∷ []) text)

-- or it is a value of a type that clashes with u
pub data Clashes (U : Table) (u : TypeId) (T : Table) : declared.Item Value → ToolFault → Type 0 where
  clashes_with : {id : TypeId} {value : Value} {path : Vec TypeStep Global} {reason : ClashReason}
      → IsLeastClash T U id u path.items reason → Clashes U u T (variant.Put id value) (fault.Clash path reason)

-- so a run makes it
abbrev pub IsReceived : ReceivedForm → (U : Table) → TypeId → Table → StreamItem → List ℕ → Type 0
IsReceived how U u =
    IsTextBy (strict_stepping tree_building) (is_received_of_item how U u) (is_received_of_value how U u)

abbrev pub IsClash : (U : Table) → TypeId → Table → StreamItem → ToolFault → Type 0
IsClash U u = IsStopBy (strict_stepping tree_building) (Clashes U u)

-- how a run over an input with these bytes left ends, that writes the texts, or stops at a clash
abbrev pub TextsOrClash : ReceivedForm → (U : Table) → TypeId → Bounds → (bytes : List ℕ)
    → (now old new : Option (List ℕ)) → Result (Unit {0}) ToolFault → Type 0
TextsOrClash how U u L bytes now old new result =
    AnswersOrStops strict (IsReceived how U u) (IsClash U u) L bytes now old new result

-- why nothing is received of it
abbrev pub ReceivesNone : (U : Table) → TypeId → Table → declared.Item Value → MatchFault → Type 0
ReceivesNone U u T given (matching.Clash path reason) = Clashes U u T given (fault.Clash path reason)
ReceivesNone U u T given matching.Memory = Unit {0}
