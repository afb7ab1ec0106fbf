-- What contracts see of a session: the items that it has read of the bytes so far, its types and its limits.
use Rattle.std.specs.Prelude.{◌≡◌, ℕ, ◌<◌, ◌≤◌, List, [], ◌∷◌, ◌++◌, length, take, Result, Ok, Err, Bool, true}
use Rattle.gob_types.specs.declared.reason.Reason.TheVariants as reason
use Rattle.gob_types.specs.Defined.{Defined, types}
use Rattle.gob_types.specs.Table.{Table}
use Rattle.gob_types.specs.Base.{base_table}
use Rattle.gob_types.specs.declared.id.TypeId.{TypeId}
use Rattle.gob_stream.specs.declared.fault.Fault.{Fault}
use Rattle.gob_stream.specs.declared.fault.Fault.TheVariants as fault
use Rattle.gob_stream.specs.Bounds.{Bounds, within_trees}
use Rattle.gob_stream.specs.Honest.{OfRefusal}
use Rattle.gob_stream.specs.Item.{StreamItem}
use Rattle.gob_stream.specs.Stream.{IsItem}
use Rattle.gob_stream.specs.Whole.{HasBody, HasBegun}
use Rattle.gob_filled.specs.Stream.{FilledItem, AreFilledItems}
use Rattle.gob_filled.specs.Outcome.{FilledOutcome, the_end, refused}
use Rattle.gob_filled.specs.OutcomeLaws.{unfilled_item}
use Rattle.gob_go.specs.Honest.{IsHonest}
use Rattle.gob_go.specs.Reading.{GivesOn, ShowsRefusal, RefusesBehind, GivesOfTaken, HasTypesBeyond}
use Rattle.gob_go.specs.Machine.SessionState.{SessionState}
use Rattle.gob_go.specs.Machine.Stages.{count_at}
use Rattle.gob_go.specs.declared.item.GoItem.{GoItem}
use Rattle.gob_go.specs.declared.stage.Stage.TheVariants as stage
-- the items that it has given, of the bytes that it has taken; and what its calls answer
pub use Rattle.gob_go.specs.Machine.HasRead.{HasRead, StandsAfter, StandsSomewhere}
pub use Rattle.gob_go.specs.Machine.Stages.{StepAnswers, StepAnswersSo}

-- it has met a fault, behind which it reads no more
abbrev pub HasFailed : SessionState → Type 0
HasFailed s = s.stage ≡ stage.Failed

-- no byte of an item is under way
abbrev pub IsBetweenItems : SessionState → Type 0
IsBetweenItems s = s.stage ≡ count_at s.taken

-- the types that were defined so far, how many bytes were taken, and what it keeps to
abbrev pub table_of : SessionState → Defined
table_of s = s.types

abbrev pub types_of : SessionState → Table
types_of s = types (table_of s)

abbrev pub taken_of : SessionState → ℕ
taken_of s = s.taken

abbrev pub limits_of : SessionState → Bounds
limits_of s = s.limits

-- nothing in it has changed
abbrev pub StaysAsItWas : (s s' : SessionState) → Type 0
StaysAsItWas s s' = s' ≡ s

-- ---- items of the format, as they stand whole in a piece
-- the first bytes of the piece are a count, the number of the type and this body, as of the next item
abbrev pub HasBodyNext : SessionState → TypeId → (body : List ℕ) → (used : ℕ) → (piece : List ℕ) → Type 0
HasBodyNext s id body used piece = HasBody (limits_of s) (types_of s) (taken_of s) id body used piece

-- the piece is the first bytes of the first segment of the next item, which has so many, of a value of the type
abbrev pub HasBegunNext : SessionState → TypeId → (head size : ℕ) → (piece : List ℕ) → Type 0
HasBegunNext s id head size piece = HasBegun (limits_of s) (types_of s) (taken_of s) id head size piece

-- the bytes are this item of the format, as the next one, and it defines nothing
abbrev pub IsNext : SessionState → StreamItem → List ℕ → Type 0
IsNext s i z = IsItem base_table (within_trees (limits_of s)) (types_of s) (taken_of s) i z (types_of s)

-- they are some item
abbrev pub HasItemNext : SessionState → List ℕ → Type 0
HasItemNext s z = (i : StreamItem) × IsNext s i z

-- it has read the item that these bytes are
abbrev pub ReadsOnSo : (keep : Bool) (s s' : SessionState) → List ℕ → Type 0
ReadsOnSo keep s s' z = (items : List FilledItem) (bytes : List ℕ) (i : StreamItem) → StandsAfter keep s items bytes
    → IsNext s i z → StandsAfter keep s' (items ++ unfilled_item i ∷ []) (bytes ++ z)

abbrev pub ReadsOn : (s s' : SessionState) → List ℕ → Type 0
ReadsOn s s' z = ReadsOnSo true s s' z

-- ---- items of the profile
-- the bytes are these items, as the next ones, and they define nothing
abbrev pub AreNext : SessionState → List FilledItem → List ℕ → Type 0
AreNext s is z = AreFilledItems base_table (within_trees (limits_of s)) (types_of s) (taken_of s) is z (types_of s)

-- they are some items
abbrev pub HasItemsNext : SessionState → List ℕ → Type 0
HasItemsNext s z = (is : List FilledItem) × AreNext s is z

-- it has read the items that these bytes are
abbrev pub ReadsAllSo : (keep : Bool) (s s' : SessionState) → List ℕ → Type 0
ReadsAllSo keep s s' z = (items : List FilledItem) (bytes : List ℕ) (is : List FilledItem)
    → StandsAfter keep s items bytes → AreNext s is z → StandsAfter keep s' (items ++ is) (bytes ++ z)

-- it stands behind so many items, the first bytes of the piece
pub record ReadsItemsSo (keep : Bool) (s s' : SessionState) (count used : ℕ) (piece : List ℕ) : Type 0 where
  pub given : List FilledItem
  pub counted : count ≡ length given
  pub within : used ≤ length piece
  pub none : count ≡ 0 → used ≡ 0
  pub passed : (items : List FilledItem) (bytes : List ℕ) → StandsAfter keep s items bytes
      → StandsAfter keep s' (items ++ given) (bytes ++ take used piece)

abbrev pub ReadsItems : (s s' : SessionState) (count used : ℕ) (piece : List ℕ) → Type 0
ReadsItems s s' count used piece = ReadsItemsSo true s s' count used piece

-- ---- what its calls answer
-- what feeding a piece answers, where the items were given, to a session that had given the items before, of these
-- bytes
abbrev pub FeedAnswers : (s s' : SessionState) → List FilledItem → (bytes piece : List ℕ) → List GoItem
    → Result (Unit {0}) Fault → Type 0
FeedAnswers s s' items bytes piece given (Ok _) =
    GivesOn (types s'.types) given items (λ all. HasRead s' all (bytes ++ piece))
FeedAnswers s s' items bytes piece given (Err (fault.Refused R)) =
    GivesOn (types s'.types) given items (λ all. ShowsRefusal (within_trees s.limits) (bytes ++ piece) all R
    × RefusesBehind (within_trees s.limits) (bytes ++ piece) all R (types s'.types)) × (length bytes < R.seen)
FeedAnswers s s' items bytes piece given (Err fault.Read) = ⊥
FeedAnswers s s' items bytes piece given (Err fault.Memory) =
    GivesOn (types s'.types) given items (λ all. GivesOfTaken (within_trees s.limits) s'.taken (bytes ++ piece) all
    × HasTypesBeyond (within_trees s.limits) (bytes ++ piece) all (types s'.types))
FeedAnswers s s' items bytes piece given (Err fault.Failed) = ⊥

-- what finishing answers: nothing has changed at the end of a stream, else the bytes end within an item
abbrev pub FinishAnswers : (s s' : SessionState) → List FilledItem → List ℕ → Result (Unit {0}) Fault → Type 0
FinishAnswers s s' items bytes (Ok _) = FilledOutcome base_table (within_trees s.limits) bytes items the_end × (s' ≡ s)
FinishAnswers s s' items bytes (Err (fault.Refused R)) =
    FilledOutcome base_table (within_trees s.limits) bytes items (refused R) × (R.reason ≡ reason.Ended)
FinishAnswers s s' items bytes (Err _) = ⊥

-- the place of a refusal is honest, with which these items were given behind the others
abbrev pub FeedsHonestly : (s : SessionState) → List FilledItem → (T : Table) → (bytes : List ℕ) → List GoItem
    → Result (Unit {0}) Fault → Type 0
FeedsHonestly s items T bytes given result =
    OfRefusal (λ R. GivesOn T given items (λ all. IsHonest (within_trees s.limits) bytes all R)) result
