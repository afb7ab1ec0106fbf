-- What the stages of a reader answer.
use Rattle.std.specs.Prelude.{◌≡◌, ℕ, pos, negsuc, ◌+◌, ◌<◌, ◌≤◌, List, [], ◌∷◌, ◌++◌, length, take, Option, Some}
use Rattle.std.specs.Prelude.{None, Result, Ok, Err, IfOk, Bool, true, false, IsTrue}
use Rattle.gob_num.specs.Unsigned.{AreBytes}
use Rattle.gob_num.specs.Signed.{IsSigned}
use Rattle.gob_types.specs.declared.id.TypeId.{TypeId}
use Rattle.gob_types.specs.Ready.{IsReady}
use Rattle.gob_types.specs.Table.{Table, Extends}
use Rattle.gob_types.specs.Base.{base_table}
use Rattle.gob_types.specs.Defined.{Defined, types}
use Rattle.gob_value.specs.Top.{SpellsTop}
use Rattle.gob_value.specs.Tree.{Tree, depth}
use Rattle.gob_stream.specs.declared.fault.Fault.{Fault}
use Rattle.gob_stream.specs.declared.fault.Fault.TheVariants as fault
use Rattle.gob_stream.specs.declared.fault.Refusal.{Refusal}
use Rattle.gob_stream.specs.declared.stage.Extent.{Extent}
use Rattle.gob_stream.specs.Bounds.{Bounds, within_trees}
use Rattle.gob_stream.specs.Machine.HasRead.{IsCount}
use Rattle.gob_stream.specs.Machine.ReadParts.{AreTypes}
use Rattle.gob_filled.specs.Standing.{Level, in_value, Stands}
use Rattle.gob_filled.specs.Stream.{FilledItem, IsFilledItem}
use Rattle.gob_filled.specs.Opens.{Open, opens}
use Rattle.gob_go.specs.Machine.Levels.{LevelAtNil, LevelUnderWay}
use Rattle.gob_go.specs.Meaning.{ItemMeans}
use Rattle.gob_go.specs.Reading.{RefusesWith, ShowsRefusal, RefusesBehind, HasTypesWithin, HasTypesBeyond}
use Rattle.gob_go.specs.Machine.HasRead.{PartHasRead, PutIsWhole, StageHasRead, StandsAfter, no_end, OthersAre}
use Rattle.gob_go.specs.Machine.SessionState.{SessionState}
use Rattle.gob_go.specs.Machine.Skeleton.{SkeletonIs}
use Rattle.gob_go.specs.declared.description.Described.{Described}
use Rattle.gob_go.specs.declared.description.Described.TheVariants as described
use Rattle.gob_go.specs.declared.filled.Filled.{Filled, out-Filled}
use Rattle.gob_go.specs.declared.item.GoItem.{GoItem}
use Rattle.gob_go.specs.declared.item.GoItem.TheVariants as item
use Rattle.gob_go.specs.declared.level.Level as program
use Rattle.gob_go.specs.declared.levels.Levels.{Levels}
use Rattle.gob_go.specs.declared.levels.Goes.{Goes}
use Rattle.gob_go.specs.declared.levels.Goes.TheVariants as goes
use Rattle.gob_go.specs.declared.part.PutPart.{PutPart}
use Rattle.gob_go.specs.declared.part.PutPart.TheVariants as part
use Rattle.gob_go.specs.declared.part.PartTaken.{PartTaken}
use Rattle.gob_stream.specs.declared.session.Advance.{Advance}
use Rattle.gob_go.specs.declared.stage.Stage.{Stage}
use Rattle.gob_go.specs.declared.stage.Stage.TheVariants as stage
use Rattle.gob_go.specs.declared.stage.Stepped.{Stepped}

-- ---- the item of a value

-- the reader has come somewhere in the value of an item, with which so many bytes of the stream were taken
pub record IsInPut (keep : Bool) (L : Bounds) (d : Defined) (taken : ℕ) (levels : Levels) (next : PutPart) : Type 0
  where
    pub table : Table
    pub offset : ℕ
    pub bytes : List ℕ
    pub are_bytes : AreBytes bytes
    pub has_read : PartHasRead keep L table offset (types d) levels next bytes
    pub taken_is : taken ≡ offset + length bytes
    pub within : offset ≤ L.stream
    pub known : AreTypes L d

-- what became of a piece behind the bytes z of an item that begins at the offset, where the types were those of T, and
-- d is the table at hand; the second table is the one behind it
pub data PartSteps (keep : Bool) (L : Bounds) (T : Table) (offset : ℕ) (d : Defined) (z piece : List ℕ)
    (levels' : Levels)
    : Defined → Result PartTaken Fault → Type 0 where
  part_goes_on : {next : PutPart} {d' : Defined} {used : ℕ} → d'.most ≡ d.most → used ≤ length piece
      → PartHasRead keep L T offset (types d') levels' next (z ++ take used piece)
      → PartSteps keep L T offset d z piece levels' d' (Ok (record { used = used; next = Some next }))
  item_ends : {d' : Defined} {used : ℕ} → d'.most ≡ d.most → used ≤ length piece
      → PutIsWhole keep L T offset (types d') levels' (z ++ take used piece)
      → PartSteps keep L T offset d z piece levels' d' (Ok (record { used = used; next = None }))
  part_refused : {R : Refusal} {d' : Defined} → RefusesWith L T offset (z ++ piece) R (types d')
      → PartSteps keep L T offset d z piece levels' d' (Err (fault.Refused R))
  no_memory_for_part : {d' : Defined} → HasTypesWithin L T offset (z ++ piece) (types d')
      → PartSteps keep L T offset d z piece levels' d' (Err fault.Memory)

-- what a step over a piece answers; one byte at least is taken of a piece that has any
pub record PartAnswers (keep : Bool) (L : Bounds) (d d' : Defined) (old new : Levels) (next : PutPart) (piece : List ℕ)
    (result : Result PartTaken Fault) : Type 0 where
  pub each : (T : Table) (offset : ℕ) (z : List ℕ) → PartHasRead keep L T offset (types d) old next z
      → AreBytes (z ++ piece) → PartSteps keep L T offset d z piece new d' result
  pub some : 0 < length piece → IfOk result (λ taken. 0 < taken.used)

pub record IsInPutOfSome (keep : Bool) (L : Bounds) (taken : ℕ) (levels : Levels) (next : PutPart) : Type 0 where
  pub types : Defined
  pub is : IsInPut keep L types taken levels next

-- the reader stands in the innermost value, of which maybe nothing was read
pub data ValueHasRead (keep : Bool) (L : Bounds) (T : Table) (offset : ℕ) (U : Table) (levels : Levels) : List ℕ
    → Type 0 where
  in_value_at : {z : List ℕ} {lv : Level} {around : List Level} {left : ℕ} {o : Open} {os : List Open} (c : List ℕ)
      (p : Stands base_table L T offset z U (lv ∷ around) in_value left) → opens p ≡ o ∷ os
      → LevelUnderWay keep U levels.innermost lv c (offset + length (z ++ c)) → OthersAre keep U levels around o os left
      → ValueHasRead keep L T offset U levels (z ++ c)

pub record IsInValue (keep : Bool) (L : Bounds) (d : Defined) (taken : ℕ) (levels : Levels) : Type 0 where
  pub table : Table
  pub offset : ℕ
  pub bytes : List ℕ
  pub are_bytes : AreBytes bytes
  pub has_read : ValueHasRead keep L table offset (types d) levels bytes
  pub taken_is : taken ≡ offset + length bytes
  pub within : offset ≤ L.stream
  pub known : AreTypes L d

-- what a step over a piece answers there
pub record ValueAnswers (keep : Bool) (L : Bounds) (d : Defined) (old new : Levels) (piece : List ℕ)
    (result : Result PartTaken Fault) : Type 0 where
  pub each : (T : Table) (offset : ℕ) (z : List ℕ) → ValueHasRead keep L T offset (types d) old z
      → AreBytes (z ++ piece)
      → PartSteps keep L T offset d z piece new d result
  pub some : 0 < length piece → IfOk result (λ taken. 0 < taken.used)

-- the byte of a nil was read, which the innermost level is to be told of
pub data NilByteRead (keep : Bool) (L : Bounds) (T : Table) (offset : ℕ) (U : Table) (levels : Levels) : List ℕ
    → Type 0 where
  nil_byte : {z : List ℕ} {lv : Level} {around : List Level} {left d : ℕ} {o : Open} {os : List Open} (c : List ℕ)
      (p : Stands base_table L T offset z U (lv ∷ around) in_value left) → opens p ≡ o ∷ os
      → LevelAtNil keep U levels.innermost lv c d → OthersAre keep U levels around o os left
      → offset + length (z ++ (c ++ 0 ∷ [])) ≤ lv.end
      → NilByteRead keep L T offset U levels (z ++ (c ++ 0 ∷ []))

pub record IsBeforeNilByte (keep : Bool) (L : Bounds) (d : Defined) (taken : ℕ) (levels : Levels) : Type 0 where
  pub table : Table
  pub offset : ℕ
  pub bytes : List ℕ
  pub has_read : NilByteRead keep L table offset (types d) levels bytes
  pub taken_is : taken ≡ offset + length bytes
  pub within : offset ≤ L.stream
  pub known : AreTypes L d

-- the innermost value is whole, and its segment with it
pub data ValueIsWhole (keep : Bool) (L : Bounds) (T : Table) (offset : ℕ) (U : Table) (levels : Levels) : List ℕ
    → Type 0 where
  value_whole : {z : List ℕ} {lv : Level} {around : List Level} {left : ℕ} {v : Tree} {o : Open} {os : List Open}
      (b : List ℕ) (p : Stands base_table L T offset z U (lv ∷ around) in_value left) → opens p ≡ o ∷ os
      → SpellsTop lv.table lv.type v (lv.done ++ b) → depth v ≤ lv.limit → offset + length (z ++ b) ≡ lv.end
      → IsReady lv.table lv.type → Extends lv.table U
      → levels.innermost.id ≡ lv.type → SkeletonIs keep levels.innermost.skeleton (lv.done ++ b)
      → OthersAre keep U levels around o os left
      → ValueIsWhole keep L T offset U levels (z ++ b)

pub record IsBehindValue (keep : Bool) (L : Bounds) (d : Defined) (taken : ℕ) (levels : Levels) : Type 0 where
  pub table : Table
  pub offset : ℕ
  pub bytes : List ℕ
  pub has_read : ValueIsWhole keep L table offset (types d) levels bytes
  pub taken_is : taken ≡ offset + length bytes
  pub within : offset ≤ L.stream
  pub known : AreTypes L d

-- what comes next behind a value
abbrev pub behind_value : Goes → Option PutPart
behind_value goes.On = Some part.Value
behind_value goes.ToEnd = None

-- behind a value that has ended, or a nil, more of the innermost value comes next, or the item is whole
pub data GoesSteps (keep : Bool) (L : Bounds) (T : Table) (offset : ℕ) (d : Defined) (z : List ℕ) (levels' : Levels)
    : Result Goes Fault → Type 0 where
  value_goes_on : PartHasRead keep L T offset (types d) levels' part.Value z
      → GoesSteps keep L T offset d z levels' (Ok goes.On)
  goes_to_end : PutIsWhole keep L T offset (types d) levels' z → GoesSteps keep L T offset d z levels' (Ok goes.ToEnd)
  goes_refused : {R : Refusal} → ((w : List ℕ) → RefusesWith L T offset (z ++ w) R (types d))
      → GoesSteps keep L T offset d z levels' (Err (fault.Refused R))
  no_memory_there : GoesSteps keep L T offset d z levels' (Err fault.Memory)

-- what taking the number of the interface at hand as nil answers, wherever the bytes led
abbrev pub NilAnswers : (keep : Bool) (L : Bounds) (d : Defined) (taken : ℕ) (old new : Levels) → Result Goes Fault
    → Type 0
NilAnswers keep L d taken old new result = (T : Table) (offset : ℕ) (z : List ℕ) → taken ≡ offset + length z
    → NilByteRead keep L T offset (types d) old z → AreBytes z → GoesSteps keep L T offset d z new result

-- what ending the values that are whole answers
abbrev pub EndAnswers : (keep : Bool) (L : Bounds) (d : Defined) (taken : ℕ) (old new : Levels) → Result Goes Fault
    → Type 0
EndAnswers keep L d taken old new result = (T : Table) (offset : ℕ) (z : List ℕ) → taken ≡ offset + length z
    → ValueIsWhole keep L T offset (types d) old z → AreBytes z → GoesSteps keep L T offset d z new result

-- these levels are all but the innermost outer one
pub record ArePopped (all levels : Levels) (outer : program.Level) : Type 0 where
  pub innermost : levels.innermost ≡ all.innermost
  pub items : all.outer.items ≡ levels.outer.items ++ outer ∷ []
  pub left : levels.left ≡ all.left

-- before the innermost value fills the nil at hand of this level
pub record IsBeforeFilling (keep : Bool) (L : Bounds) (d : Defined) (taken : ℕ) (levels : Levels)
    (outer : program.Level) : Type
    0 where
  pub all : Levels
  pub popped : ArePopped all levels outer
  pub is : IsBehindValue keep L d taken all

-- the nil is filled with it: more of that level's value comes next, or it is whole
pub data FillingSteps (keep : Bool) (L : Bounds) (T : Table) (offset : ℕ) (d : Defined) (z : List ℕ) (levels' : Levels)
    : Result Bool Fault → Type 0 where
  filling_goes_on : PartHasRead keep L T offset (types d) levels' part.Value z
      → FillingSteps keep L T offset d z levels' (Ok false)
  filling_ends : ValueIsWhole keep L T offset (types d) levels' z → FillingSteps keep L T offset d z levels' (Ok true)
  filling_refused : {R : Refusal} → ((w : List ℕ) → RefusesWith L T offset (z ++ w) R (types d))
      → FillingSteps keep L T offset d z levels' (Err (fault.Refused R))
  no_memory_for_filling : FillingSteps keep L T offset d z levels' (Err fault.Memory)

abbrev pub FillingAnswers : (keep : Bool) (L : Bounds) (d : Defined) (taken : ℕ) (old new : Levels) → program.Level
    → Result Bool Fault → Type 0
FillingAnswers keep L d taken old new outer result = (all : Levels) (T : Table) (offset : ℕ) (z : List ℕ)
    → ArePopped all old outer → taken ≡ offset + length z → ValueIsWhole keep L T offset (types d) all z
    → FillingSteps keep L T offset d z new result

-- ---- any item

-- the reader expects this behind some bytes of an item, with which so many bytes of the stream were taken
pub record IsWithinItem (keep : Bool) (L : Bounds) (d : Defined) (taken : ℕ) (expects : Stage) : Type 0 where
  pub table : Table
  pub offset : ℕ
  pub bytes : List ℕ
  pub are_bytes : AreBytes bytes
  pub in_item : StageHasRead keep L table offset (types d) expects bytes
  pub taken_is : taken ≡ offset + length bytes
  pub within : offset ≤ L.stream
  pub known : AreTypes L d

-- before the count of the item that begins there
abbrev pub count_at : ℕ → Stage
count_at begin =
    stage.Count (record { number = record { rest = record { begin = begin; end = no_end }; number = [] } })

pub data StepsOn (keep : Bool) (L : Bounds) (T : Table) (offset : ℕ) (d : Defined) (z piece : List ℕ)
    : Defined → Result Stepped Fault → Type 0 where
  goes_on : {expects : Stage} {d' : Defined} {used : ℕ} → d'.most ≡ d.most → used ≤ length piece
      → StageHasRead keep L T offset (types d') expects (z ++ take used piece)
      → StepsOn keep L T offset d z piece d' (Ok (record { used = used; stage = expects; item = None }))
  gives : {given : GoItem} {i : FilledItem} {d' : Defined} {used next : ℕ} → d'.most ≡ d.most → used ≤ length piece
      → IsFilledItem base_table L T offset i (z ++ take used piece) (types d')
      → (IsTrue keep → ItemMeans (types d') given i)
      → next ≡ offset + length (z ++ take used piece)
      → StepsOn keep L T offset d z piece d' (Ok (record { used = used; stage = count_at next; item = Some given }))
  refuses_it : {R : Refusal} {d' : Defined} → RefusesWith L T offset (z ++ piece) R (types d')
      → StepsOn keep L T offset d z piece d' (Err (fault.Refused R))
  no_memory : {d' : Defined} → HasTypesWithin L T offset (z ++ piece) (types d')
      → StepsOn keep L T offset d z piece d' (Err fault.Memory)

-- what a step over a piece answers
pub record StageAnswers (keep : Bool) (L : Bounds) (d d' : Defined) (expects : Stage) (piece : List ℕ)
    (result : Result Stepped Fault) : Type 0 where
  pub each : (T : Table) (offset : ℕ) (z : List ℕ) → StageHasRead keep L T offset (types d) expects z
      → AreBytes (z ++ piece) → StepsOn keep L T offset d z piece d' result
  pub some : 0 < length piece → IfOk result (λ stepped. 0 < stepped.used)

pub record IsWithinItemOfSome (keep : Bool) (L : Bounds) (taken : ℕ) (expects : Stage) : Type 0 where
  pub types : Defined
  pub is : IsWithinItem keep L types taken expects

-- what follows behind what was taken of the item of a value, of which this comes next
abbrev pub StageBehind : Levels → (taken used : ℕ) → Option PutPart → Stepped → Type 0
StageBehind levels taken used (Some next) stepped =
    stepped ≡ record { used = used; stage = stage.Put (record { levels = levels; part = next }); item = None }
StageBehind levels taken used None stepped = (kept : Filled)
    × ((out-Filled kept).skeleton ≡ levels.innermost.skeleton.bytes)
    × ((out-Filled kept).fillings ≡ levels.innermost.fillings)
    × (stepped ≡ record {
      used = used;
      stage = count_at (taken + used);
      item = Some (item.Put levels.innermost.id kept);
    })

-- what follows behind what was taken of the description in an item, where the piece has so many bytes
abbrev pub behind_described : (taken size : ℕ) → Described → Stepped
behind_described taken size (described.More description) =
    record { used = size; stage = stage.Definition (record { description = description }); item = None }
behind_described taken size (described.Whole definition used) = record {
  used = used;
  stage = count_at (taken + used);
  item = Some (item.Define definition.id definition.described);
}

-- ---- behind a type number

-- the number of a value's type, or of the definition of one
pub data Sign : Type 0 where
  positive : Sign
  negative : Sign

pub data IsNumberOf : Sign → TypeId → List ℕ → Type 0 where
  of_value : {t : TypeId} {a : List ℕ} → IsSigned (pos t.0) a → IsNumberOf positive t a
  of_definition : {id : TypeId} {n : ℕ} {a : List ℕ} → id.0 ≡ n + 1 → IsSigned (negsuc n) a → IsNumberOf negative id a

-- so many bytes of the stream were taken, up to behind the number at which the body begins, which is such a one
pub record IsAtBody (L : Bounds) (d : Defined) (taken : ℕ) (body : Extent) (IsSuch : List ℕ → Type 0) : Type 0 where
  pub offset : ℕ
  pub size : ℕ
  pub count : List ℕ
  pub number : List ℕ
  pub counted : IsCount L offset size count body
  pub numbered : IsSuch number
  pub taken_is : taken ≡ body.begin + length number
  pub within : taken ≤ body.end
  pub known : AreTypes L d

-- what a step over what follows it answers
pub record BodySteps (keep : Bool) (L : Bounds) (d d' : Defined) (taken : ℕ) (body : Extent) (IsSuch : List ℕ → Type 0)
    (piece : List ℕ) (result : Result Stepped Fault) : Type 0 where
  pub each : (offset size : ℕ) (c a : List ℕ) → IsCount L offset size c body → IsSuch a
      → taken ≡ body.begin + length a → taken ≤ body.end → AreBytes ((c ++ a) ++ piece)
      → StepsOn keep L (types d) offset d (c ++ a) piece d' result

-- ---- a session

-- the front of the piece was taken, one byte at least of a piece that has any, and an item is whole with it or not;
-- where values are kept, it stands for the item
pub data AdvancesOver (keep : Bool) (s' : SessionState) (items : List FilledItem) (bytes piece : List ℕ) : ℕ
    → Option GoItem → Type 0 where
  over_some : {used : ℕ} → (0 < length piece → 0 < used) → used ≤ length piece
      → StandsAfter keep s' items (bytes ++ take used piece)
      → AdvancesOver keep s' items bytes piece used None
  over_item : {used : ℕ} {given : GoItem} {i : FilledItem} → 0 < used → used ≤ length piece
      → (IsTrue keep → ItemMeans (types s'.types) given i)
      → StandsAfter keep s' (items ++ i ∷ []) (bytes ++ take used piece)
      → AdvancesOver keep s' items bytes piece used (Some given)

-- what a step over the front of a piece answers, behind these bytes, of which the items were given
abbrev pub StepAnswersSo : (keep : Bool) (s s' : SessionState) → List FilledItem → (bytes piece : List ℕ)
    → Result (Advance GoItem) Fault → Type 0
StepAnswersSo keep s s' items bytes piece (Ok step) = AdvancesOver keep s' items bytes piece step.used step.item
StepAnswersSo keep s s' items bytes piece (Err (fault.Refused R)) =
    ShowsRefusal (within_trees s.limits) (bytes ++ piece) items R
    × RefusesBehind (within_trees s.limits) (bytes ++ piece) items R (types s'.types) × (length bytes < R.seen)
StepAnswersSo keep s s' items bytes piece (Err fault.Memory) =
    HasTypesBeyond (within_trees s.limits) (bytes ++ piece) items (types s'.types)
StepAnswersSo keep s s' items bytes piece (Err _) = ⊥

-- where values are kept
abbrev pub StepAnswers : (s s' : SessionState) → List FilledItem → (bytes piece : List ℕ)
    → Result (Advance GoItem) Fault → Type 0
StepAnswers s s' items bytes piece result = StepAnswersSo true s s' items bytes piece result
