-- What the parts of a reader answer: a number, a description, a level.
use Rattle.std.specs.Prelude.{◌≡◌, ◌≢◌, ℕ, ◌+◌, ◌-◌, ◌<◌, ◌≤◌, List, [], ◌∷◌, ◌++◌, length, min, take, Result, Ok}
use Rattle.std.specs.Prelude.{Err, Bool, true, false, IsTrue, Some}
use Rattle.gob_num.specs.Unsigned.{IsUnsigned, IsUnsignedPrefix, IsBadHead, IsNotMinimal}
use Rattle.gob_types.specs.declared.id.TypeId.{TypeId}
use Rattle.gob_types.specs.declared.denial.Denial.{Denial}
use Rattle.gob_types.specs.declared.kind.Shape.{Shape}
use Rattle.gob_types.specs.declared.reason.Reason.{Reason}
use Rattle.gob_types.specs.declared.reason.Reason.TheVariants as reason
use Rattle.gob_types.specs.Denial.{IsDenial}
use Rattle.gob_types.specs.Ready.{IsReady}
use Rattle.gob_types.specs.Table.{Table}
use Rattle.gob_types.specs.Base.{base_table, wire_type}
use Rattle.gob_types.specs.Defined.{Defined, types, Admits}
use Rattle.gob_value.specs.Tree.{Tree}
use Rattle.gob_value.specs.View.{view}
use Rattle.gob_value.specs.Description.{Misdescribes}
use Rattle.gob_value.specs.Loose.{DescribesLoosely, IsLooseDescription}
use Rattle.gob_value.specs.declared.value.Value.{Value}
use Rattle.gob_read.specs.Refusal as body
use Rattle.gob_read.specs.Expected.{a_number, nil}
use Rattle.gob_read.specs.Expects.{ExpectsTop}
use Rattle.gob_read.specs.First.{IsFirst}
use Rattle.gob_read.specs.Calls.Builders.{tree_building, skip_building}
use Rattle.gob_read.specs.Calls.Reader.{ReaderTakesPiece, EndsBody}
use Rattle.gob_read.specs.Calls.UnderWay.{under_way, HasReadBody, HasEnded}
use Rattle.gob_read.specs.Calls.UpToNil.{StopsAtNil, IsBeforeNil, NoNilBegun}
use Rattle.gob_read.specs.declared.reached.Reached.{Reached}
use Rattle.gob_read.specs.declared.reached.Reached.TheVariants as reached
use Rattle.gob_read.specs.declared.reader.BodyReader.{BodyReader}
use Rattle.gob_read.specs.declared.tree_builder.TreeBuilder.{TreeBuilder}
use Rattle.gob_stream.specs.declared.fault.Refusal.{Refusal}
use Rattle.gob_stream.specs.declared.fault.Fault.{Fault}
use Rattle.gob_stream.specs.declared.fault.Fault.TheVariants as fault
use Rattle.gob_stream.specs.declared.stage.Extent.{Extent}
use Rattle.gob_stream.specs.Bounds.{Bounds}
use Rattle.gob_stream.specs.Body.{MayDefine, MayPut}
use Rattle.gob_stream.specs.Refusing.{refuses, behind}
use Rattle.gob_stream.specs.WriterRefusal.{RefusesId, RefusesType}
use Rattle.gob_stream.specs.Machine.HasRead.{BodyHasRead, size}
use Rattle.gob_stream.specs.Machine.ReadParts.{IsDescribed}
use Rattle.gob_go.specs.declared.description.DescriptionStage.{DescriptionStage}
use Rattle.gob_go.specs.declared.description.Described.{Described}
use Rattle.gob_go.specs.declared.description.Described.TheVariants as described
use Rattle.gob_go.specs.declared.filled.Definition.{Definition}
use Rattle.gob_go.specs.declared.filled.Filled.{out-Filled}
use Rattle.gob_go.specs.declared.filled.Filling.{Filling, out-Filling}
use Rattle.gob_go.specs.declared.level.Level.{Level}
use Rattle.gob_go.specs.declared.level.Came.{Came}
use Rattle.gob_go.specs.declared.level.Came.TheVariants as came
use Rattle.gob_go.specs.Machine.HasRead.{no_end}
use Rattle.gob_go.specs.Machine.Skeleton.{SkeletonGrows}
use Rattle.gob_go.specs.declared.inner_count.InnerCount.{InnerCount}
use Rattle.gob_go.specs.declared.levels.Levels.{Levels}
use Rattle.gob_go.specs.declared.next_count.NextCount.{NextCount}
use Rattle.gob_go.specs.declared.number.NumberStage.{NumberStage}
use Rattle.gob_go.specs.declared.number.NumberTaken.{NumberTaken}
use Rattle.gob_go.specs.declared.number.NumberTaken.TheVariants as taken
use Rattle.gob_go.specs.declared.part.PutPart.TheVariants as part
use Rattle.gob_go.specs.declared.part.PartTaken.{PartTaken}

-- ---- a number

-- q is what is there of a number that begins at the offset in a segment which ends there: it begins none, or ends the
-- segment
pub data RefusesNumber (at end : ℕ) (q : List ℕ) : Refusal → Type 0 where
  bad_head : IsBadHead q → RefusesNumber at end q (refuses at (at + 1) reason.BadHead)
  not_minimal : IsNotMinimal q → RefusesNumber at end q (refuses at (at + 2) reason.NotMinimal)
  short : at + length q ≡ end → IsUnsignedPrefix q → RefusesNumber at end q (refuses end end reason.Short)

-- the number is whole with so many bytes of the piece
pub record NumberIsWhole (old : NumberStage) (piece : List ℕ) (number used : ℕ) : Type 0 where
  pub within : used ≤ length piece
  pub spelled : IsUnsigned number (old.number ++ take used piece)
  pub room : old.rest.begin + length (old.number ++ take used piece) ≤ old.rest.end

-- what taking bytes of a number answers
abbrev pub NumberAnswers : (old new : NumberStage) (piece : List ℕ) → Result NumberTaken Fault → Type 0
NumberAnswers old new piece (Ok taken.More) = (new.number ≡ old.number ++ piece)
    × IsUnsignedPrefix (old.number ++ piece) × (old.rest.begin + length (old.number ++ piece) < old.rest.end)
NumberAnswers old new piece (Ok (taken.Whole number used)) = NumberIsWhole old piece number used
NumberAnswers old new piece (Err (fault.Refused R)) = RefusesNumber old.rest.begin old.rest.end
    (take (old.rest.end - old.rest.begin) (old.number ++ piece)) R
NumberAnswers old new piece (Err _) = ⊥

-- whether a segment goes on behind so many bytes of the stream
abbrev pub GoesOn : (taken end : ℕ) → Result (Unit {0}) Fault → Type 0
GoesOn taken end (Ok _) = taken < end
GoesOn taken end (Err (fault.Refused R)) = (taken ≡ end) × (R ≡ refuses end end reason.Short)
GoesOn taken end (Err _) = ⊥

-- whether a segment of so many bytes behind its count, which stands at the place, lies within one that ends there
abbrev pub LiesWithin : (taken end place count : ℕ) → Result (Unit {0}) Fault → Type 0
LiesWithin taken end place count (Ok _) = taken + count ≤ end
LiesWithin taken end place count (Err (fault.Refused R)) =
    (end < taken + count) × (R ≡ refuses place taken reason.ItemTooLong)
LiesWithin taken end place count (Err _) = ⊥

-- why an item can't have a segment more of so many bytes
pub data SegmentRefused (L : Bounds) (taken left place count : ℕ) : Refusal → Type 0 where
  above_item : left < count → SegmentRefused L taken left place count (refuses place taken reason.ItemTooLong)
  above_stream : count ≤ left → L.stream < taken + count
      → SegmentRefused L taken left place count (refuses place taken reason.StreamTooLong)

abbrev pub ItemHasRoom : (L : Bounds) (taken left place count : ℕ) → Result (Unit {0}) Fault → Type 0
ItemHasRoom L taken left place count (Ok _) = (count ≤ left) × (taken + count ≤ L.stream)
ItemHasRoom L taken left place count (Err (fault.Refused R)) = SegmentRefused L taken left place count R
ItemHasRoom L taken left place count (Err _) = ⊥

-- ---- a description

-- behind the types of d stands the one that the description gives, read loosely
pub record DefinesLoosely (id : TypeId) (v : Tree) (d d' : Defined) : Type 0 where
  pub shape : Shape
  pub describes : DescribesLoosely id v shape
  pub behind : types d' ≡ types d ++ (id, shape) ∷ []
  pub most : d'.most ≡ d.most

-- it describes nothing, not even loosely, and that is why
pub record MisdescribesLoosely (id : TypeId) (v : Tree) (r : Reason) : Type 0 where
  pub strictly : Misdescribes id v r
  pub none : ¬ IsLooseDescription id v

-- what defining a type as it is described answers
abbrev pub DefineAnswers : TypeId → Tree → (d d' : Defined) → Result (Unit {0}) Denial → Type 0
DefineAnswers id v d d' (Ok _) = DefinesLoosely id v d d'
DefineAnswers id v d d' (Err denial) = IsDenial (MisdescribesLoosely id v) denial × (d' ≡ d)

-- what beginning a description answers, behind the number of the type, which stands at the place
abbrev pub BeginsDescription : (L : Bounds) (d : Defined) (place begin end : ℕ) (id : TypeId)
    → Result DescriptionStage Fault → Type 0
BeginsDescription L d place begin end id (Ok stage) = MayDefine base_table L (types d) id × Admits d id
    × (stage.id ≡ id) × (stage.rest ≡ record { begin = begin; end = end })
    × HasReadBody tree_building (types d) wire_type L.depth (end - begin) stage.reader []
BeginsDescription L d place begin end id (Err (fault.Refused R)) =
    (r : Reason) × RefusesId base_table L (types d) id r × (R ≡ refuses place begin r)
BeginsDescription L d place begin end id (Err fault.Memory) = Unit {0}
BeginsDescription L d place begin end id (Err _) = ⊥

-- what became of a piece, where z was read of the description of the type and the table was d; the second table is the
-- one behind it
pub data ReadsDescription (d : Defined) (id : TypeId) (limit : ℕ) (rest : Extent) (z piece : List ℕ)
    : Defined → Result Described Fault → Type 0 where
  description_goes_on : {reader : BodyReader TreeBuilder Value} {d' : Defined} → d' ≡ d
      → BodyHasRead (types d) wire_type limit rest tree_building reader (z ++ piece)
      → ReadsDescription d id limit rest z piece d'
      (Ok (described.More (record { id = id; rest = rest; reader = reader })))
  description_ends : {kept : Value} {d' : Defined} {used : ℕ} → IsDescribed (types d) limit rest z piece kept used
      → DefinesLoosely id (view kept) d d'
      → ReadsDescription d id limit rest z piece d'
      (Ok (described.Whole (record { id = id; described = kept }) used))
  description_refused : {R : body.Refusal} {d' : Defined} → d' ≡ d → IsFirst (types d) wire_type limit (size rest) (z
      ++ take (size rest - length z) piece) R
      → ReadsDescription d id limit rest z piece d' (Err (fault.Refused (behind rest.begin R)))
  describes_nothing : {kept : Value} {used : ℕ} {r : Reason} {d' : Defined} → d' ≡ d
      → IsDescribed (types d) limit rest z piece kept used → MisdescribesLoosely id (view kept) r
      → ReadsDescription d id limit rest z piece d' (Err (fault.Refused (refuses rest.begin rest.end r)))
  no_memory_for_description : {d' : Defined} → d' ≡ d → ReadsDescription d id limit rest z piece d'
      (Err fault.Memory)

-- how many bytes of a piece the whole description ended with
abbrev pub used_of_described : Described → ℕ
used_of_described (described.More description) = 0
used_of_described (described.Whole definition used) = used

-- ---- a level

-- nothing of it but its reader and its skeleton has changed
pub record KeepsLevel (l l' : Level) : Type 0 where
  pub id : l'.id ≡ l.id
  pub depth : l'.depth ≡ l.depth
  pub fillings : l'.fillings ≡ l.fillings
  pub held : l'.held ≡ l.held
  pub end : l'.end ≡ l.end

-- a level that has taken nothing, of whose value so many bytes are announced
pub record LevelIsNew (id : TypeId) (depth end announced : ℕ) (l : Level) : Type 0 where
  pub id_is : l.id ≡ id
  pub depth_is : l.depth ≡ depth
  pub end_is : l.end ≡ end
  pub skeleton_length : l.skeleton.length ≡ 0
  pub skeleton_bytes : l.skeleton.bytes.items ≡ []
  pub fillings : l.fillings.items ≡ []
  pub read : (T : Table) → IsReady T id → HasReadBody skip_building T id (min depth 65536) announced l.reader []

-- the value fills the nil at hand of the level
pub record IsHeld (value l l' : Level) : Type 0 where
  pub filling : Filling
  pub fillings : l'.fillings.items ≡ l.fillings.items ++ filling ∷ []
  pub place : (out-Filling filling).place ≡ l.skeleton.length
  pub name : (out-Filling filling).name ≡ l.held.name
  pub definitions : (out-Filling filling).definitions ≡ l.held.definitions
  pub id_held : (out-Filling filling).id ≡ value.id
  pub skeleton_held : (out-Filled (out-Filling filling).value).skeleton ≡ value.skeleton.bytes
  pub fillings_held : (out-Filled (out-Filling filling).value).fillings ≡ value.fillings

-- it does where what fills nils is kept, and else nothing of the level has changed
pub record Holds (keep : Bool) (value l l' : Level) : Type 0 where
  pub kept : IsTrue keep → IsHeld value l l'
  pub id : l'.id ≡ l.id
  pub depth : l'.depth ≡ l.depth
  pub reader : l'.reader ≡ l.reader
  pub skeleton : l'.skeleton ≡ l.skeleton
  pub end : l'.end ≡ l.end
  pub held_name : l'.held.name.items ≡ []
  pub held_definitions : l'.held.definitions.items ≡ []

-- how far it came in the piece, wherever its reader stood under this table
abbrev pub CameGives : (T : Table) (t : TypeId) (limit announced : ℕ) (z piece : List ℕ) → Level → Came → Type 0
CameGives T t limit announced z piece l came.ToEnd =
    ReaderTakesPiece T t limit announced skip_building.received (under_way l.reader) z piece
CameGives T t limit announced z piece l (came.ToNil used) =
    StopsAtNil T t limit announced skip_building.received (under_way l.reader) z piece used
    × IsBeforeNil T l.reader
CameGives T t limit announced z piece l (came.PastValue used) =
    EndsBody T t limit announced skip_building.means (under_way l.reader) z piece tt used

abbrev pub came_of : Reached (Unit {0}) → Came
came_of reached.More = came.ToEnd
came_of (reached.Nil used) = came.ToNil used
came_of (reached.Done out used) = came.PastValue used

abbrev pub used_of : (piece : List ℕ) → Came → ℕ
used_of piece came.ToEnd = length piece
used_of piece (came.ToNil used) = used
used_of piece (came.PastValue used) = used

-- what the reader of a level refuses, behind `at` bytes of the stream and `done` bytes of its skeleton
pub record LevelRefuses (T : Table) (t : TypeId) (limit announced at done : ℕ) (z : List ℕ) (R : Refusal) : Type
    0 where
  pub first : body.Refusal
  pub is : IsFirst T t limit announced z first
  pub place : done + R.place ≡ at + first.place
  pub seen : done + R.seen ≡ at + first.seen
  pub reason_is : R.reason ≡ first.reason

-- what taking bytes of its skeleton answers, behind `at` bytes of the stream
abbrev pub LevelAnswers : (keep : Bool) (T : Table) (at : ℕ) (l l' : Level) (piece : List ℕ) → Result Came Fault
    → Type 0
LevelAnswers keep T at l l' piece (Ok came) = KeepsLevel l l' × NoNilBegun T l'.reader
    × SkeletonGrows keep l.skeleton l'.skeleton (take (used_of piece came) piece)
    × ((t : TypeId) (limit announced : ℕ) (z : List ℕ) → HasReadBody skip_building T t limit announced l.reader z
    → CameGives T t limit announced z piece l' came)
LevelAnswers keep T at l l' piece (Err (fault.Refused R)) = (t : TypeId) (limit announced : ℕ) (z : List ℕ)
    → HasReadBody skip_building T t limit announced l.reader z
    → LevelRefuses T t limit announced at l.skeleton.length (z ++ take (announced - length z) piece) R
    × (R.reason ≢ reason.InterfaceValue)
LevelAnswers keep T at l l' piece (Err fault.Memory) = Unit {0}
LevelAnswers keep T at l l' piece (Err fault.Failed) = HasEnded l.reader
LevelAnswers keep T at l l' piece (Err fault.Read) = ⊥

-- what filling the nil at hand answers, behind whose byte, or value, `at` bytes of the stream were taken; where the
-- value is whole with it, and where not
abbrev pub FillGives : (T : Table) (t : TypeId) (limit announced : ℕ) (z : List ℕ) → Level → Bool → Type 0
FillGives T t limit announced z l false =
    ReaderTakesPiece T t limit announced skip_building.received (under_way l.reader) z (0 ∷ [])
FillGives T t limit announced z l true =
    EndsBody T t limit announced skip_building.means (under_way l.reader) z (0 ∷ []) tt 1

abbrev pub FillAnswers : (keep : Bool) (T : Table) (at : ℕ) (l l' : Level) → Result Bool Fault → Type 0
FillAnswers keep T at l l' (Ok whole) = KeepsLevel l l' × NoNilBegun T l'.reader
    × SkeletonGrows keep l.skeleton l'.skeleton (0 ∷ [])
    × ((t : TypeId) (limit announced : ℕ) (z : List ℕ) → HasReadBody skip_building T t limit announced l.reader z
    → FillGives T t limit (length z + (l.end - at + 1)) z l' whole)
FillAnswers keep T at l l' (Err (fault.Refused R)) = (t : TypeId) (limit announced : ℕ) (z : List ℕ)
    → HasReadBody skip_building T t limit announced l.reader z
    → LevelRefuses T t limit (length z + (l.end - at + 1)) at (l.skeleton.length + 1) (z ++ 0 ∷ []) R
FillAnswers keep T at l l' (Err fault.Memory) = Unit {0}
FillAnswers keep T at l l' (Err _) = ⊥

-- ---- the open values

-- a level stands at a nil, which is not too deep for it
pub record NilIsShallow (l : Level) : Type 0 where
  pub table : Table
  pub type : TypeId
  pub limit : ℕ
  pub announced : ℕ
  pub bytes : List ℕ
  pub depth : ℕ
  pub at_nil : IsBeforeNil table l.reader
  pub clear : NoNilBegun table l.reader
  pub read : HasReadBody skip_building table type limit announced l.reader bytes
  pub expects : ExpectsTop table type bytes (a_number nil) depth
  pub not_deep : depth ≤ l.depth

-- a value of the type is open in the nil at hand of what was the innermost one
pub record Opens (old new : Levels) (id : TypeId) (end announced : ℕ) : Type 0 where
  pub limit : ℕ
  pub inner : LevelIsNew id limit end announced new.innermost
  pub outer : new.outer.items ≡ old.outer.items ++ old.innermost ∷ []
  pub left : new.left ≡ old.left
  pub depth : (T : Table) (t : TypeId) (most size : ℕ) (z : List ℕ) (d : ℕ) → IsBeforeNil T old.innermost.reader
      → NoNilBegun T old.innermost.reader → HasReadBody skip_building T t most size old.innermost.reader z
      → ExpectsTop T t z (a_number nil) d → limit ≡ old.innermost.depth - d

-- where the last of these levels ends, and that in which the innermost value stands
abbrev pub last_end : List Level → ℕ
last_end [] = no_end
last_end (l ∷ []) = l.end
last_end (l ∷ (m ∷ ls)) = last_end (m ∷ ls)

abbrev pub end_around : Levels → ℕ
end_around levels = last_end levels.outer.items

abbrev pub ending_at : Level → ℕ → Level
ending_at l end = record l { end = end }

-- the innermost value's segment ends there, and so much is left for the item
abbrev pub with_segment : Levels → (end left : ℕ) → Levels
with_segment levels end left = record {
  innermost = ending_at levels.innermost end;
  outer = levels.outer;
  left = left;
}

-- what beginning a segment more of the innermost value answers, behind its count, which stands at the place
pub data BeginsSegment (L : Bounds) (taken place count : ℕ) (old : Levels) : Levels → Result (Unit {0}) Fault → Type
    0 where
  of_item : old.outer.items ≡ [] → count ≤ old.left → taken + count ≤ L.stream
      → BeginsSegment L taken place count old (with_segment old (taken + count) (old.left - count)) (Ok tt)
  of_outer : old.outer.items ≢ [] → taken + count ≤ end_around old
      → BeginsSegment L taken place count old (with_segment old (taken + count) old.left) (Ok tt)
  item_refused : {new : Levels} {R : Refusal} → old.outer.items ≡ [] → SegmentRefused L taken old.left place count R
      → BeginsSegment L taken place count old new (Err (fault.Refused R))
  outer_refused : {new : Levels} → old.outer.items ≢ [] → end_around old < taken + count
      → BeginsSegment L taken place count old new (Err (fault.Refused (refuses place taken reason.ItemTooLong)))

-- what beginning the count of such a segment answers
abbrev pub CountBegins : Levels → (taken : ℕ) → Result NextCount Fault → Type 0
CountBegins levels taken (Ok stage) = (taken < end_around levels)
    × (stage.number ≡ record { rest = record { begin = taken; end = end_around levels }; number = [] })
CountBegins levels taken (Err (fault.Refused R)) = (taken ≡ end_around levels)
    × (R ≡ refuses taken taken reason.Short)
CountBegins levels taken (Err _) = ⊥

-- ---- the concrete type

-- why no count follows the number of a type, which stands at the place
pub data ConcreteRefused (T : Table) (place begin end : ℕ) (id : TypeId) : Refusal → Type 0 where
  type_refused : {r : Reason} → RefusesType T id r → ConcreteRefused T place begin end id (refuses place begin r)
  nothing_behind : MayPut T id → begin ≡ end → ConcreteRefused T place begin end id (refuses end end reason.Short)

abbrev pub ConcreteType : (T : Table) (place begin end : ℕ) (id : TypeId) → Result InnerCount Fault → Type 0
ConcreteType T place begin end id (Ok stage) = MayPut T id × (begin < end)
    × (stage ≡ record { id = id; number = record { rest = record { begin = begin; end = end }; number = [] } })
ConcreteType T place begin end id (Err (fault.Refused R)) = ConcreteRefused T place begin end id R
ConcreteType T place begin end id (Err fault.Memory) = Unit {0}
ConcreteType T place begin end id (Err _) = ⊥

-- ---- a definition behind a name

-- the definition came behind the others in front of what fills the nil at hand, and nothing else has changed
pub record AddsDefinition (definition : Definition) (old new : Levels) : Type 0 where
  pub definitions : new.innermost.held.definitions.items ≡ old.innermost.held.definitions.items ++ definition ∷ []
  pub name : new.innermost.held.name ≡ old.innermost.held.name
  pub id : new.innermost.id ≡ old.innermost.id
  pub depth : new.innermost.depth ≡ old.innermost.depth
  pub reader : new.innermost.reader ≡ old.innermost.reader
  pub skeleton : new.innermost.skeleton ≡ old.innermost.skeleton
  pub fillings : new.innermost.fillings ≡ old.innermost.fillings
  pub end : new.innermost.end ≡ old.innermost.end
  pub outer : new.outer ≡ old.outer
  pub left : new.left ≡ old.left

-- the count of the next segment comes next, with so many bytes of the piece
pub record CountComes (levels : Levels) (taken used : ℕ) (part_taken : PartTaken) : Type 0 where
  pub stage : NextCount
  pub is : part_taken ≡ record { used = used; next = Some (part.NextCount stage) }
  pub begins : CountBegins levels (taken + used) (Ok stage)

-- what comes next behind what was taken of the description, where the piece has so many bytes
abbrev pub HeldBehind : (old new : Levels) (taken size : ℕ) → Described → Result PartTaken Fault → Type 0
HeldBehind old new taken size (described.More description) (Ok part_taken) = (new ≡ old)
    × (part_taken ≡ record { used = size; next = Some (part.Description (record { description = description })) })
HeldBehind old new taken size (described.More description) (Err f) = ⊥
HeldBehind old new taken size (described.Whole definition used) (Ok part_taken) =
    AddsDefinition definition old new × CountComes new taken used part_taken
HeldBehind old new taken size (described.Whole definition used) (Err (fault.Refused R)) =
    AddsDefinition definition old new × CountBegins new (taken + used) (Err (fault.Refused R))
HeldBehind old new taken size (described.Whole definition used) (Err fault.Memory) = Unit {0}
HeldBehind old new taken size (described.Whole definition used) (Err _) = ⊥
