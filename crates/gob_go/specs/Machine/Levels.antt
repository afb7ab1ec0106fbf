-- The open values of the program beside those of the bytes that stand in an item.
use Rattle.std.specs.Prelude.{Bool, IsTrue}
use Rattle.std.specs.Prelude.{◌≡◌, ℕ, ◌+◌, ◌≤◌, List, [], ◌∷◌, ◌++◌, length}
use Rattle.gob_types.specs.declared.id.TypeId.{TypeId}
use Rattle.gob_types.specs.Table.{Table, Extends}
use Rattle.gob_types.specs.Ready.{IsReady}
use Rattle.gob_read.specs.Expected.{a_number, nil}
use Rattle.gob_read.specs.Expects.{ExpectsTop}
use Rattle.gob_read.specs.Viable.{IsViable, IsShallow}
use Rattle.gob_read.specs.Calls.Builders.{skip_building}
use Rattle.gob_read.specs.Calls.UnderWay.{HasReadBody}
use Rattle.gob_read.specs.Calls.UpToNil.{NoNilBegun, IsBeforeNil}
use Rattle.gob_filled.specs.Standing.{Level}
use Rattle.gob_filled.specs.Opens.{Open}
use Rattle.gob_go.specs.Meaning.{AreFillings, definitions_of}
use Rattle.gob_go.specs.declared.level.Level as declared
use Rattle.gob_go.specs.declared.level.HeldFront.{HeldFront}
use Rattle.gob_go.specs.Machine.Skeleton.{SkeletonIs}

-- under the table U, the program's level is this one, and has read these bytes behind what is done of it; its skeleton
-- is kept or not
pub record LevelIs (keep : Bool) (U : Table) (l : declared.Level) (lv : Level) (c : List ℕ) (announced : ℕ) : Type 0
  where
    pub id : l.id ≡ lv.type
    pub depth : l.depth ≡ lv.limit
    pub end : l.end ≡ lv.end
    pub skeleton : SkeletonIs keep l.skeleton (lv.done ++ c)
    pub ready : IsReady lv.table lv.type
    pub grown : Extends lv.table U
    pub reads : HasReadBody skip_building U lv.type lv.limit announced l.reader (lv.done ++ c)
    pub clear : NoNilBegun U l.reader

-- what fills nils of it is what the bytes say, where it is kept
abbrev pub FillingsAre : Bool → Table → declared.Level → Open → Type 0
FillingsAre keep U l o = IsTrue keep → AreFillings U l.fillings.items o.fillings

-- and so is what stands in front of what fills the nil at hand
pub record HeldIs (held : HeldFront) (o : Open) : Type 0 where
  pub name : held.name.items ≡ o.name
  pub definitions : definitions_of held.definitions.items ≡ o.definitions

-- it stands at a nil of this depth, which is not too deep
pub record LevelAtNil (keep : Bool) (U : Table) (l : declared.Level) (lv : Level) (c : List ℕ) (d : ℕ) : Type 0 where
  pub announced : ℕ
  pub is : LevelIs keep U l lv c announced
  pub at_nil : IsBeforeNil U l.reader
  pub expects : ExpectsTop lv.table lv.type (lv.done ++ c) (a_number nil) d
  pub not_deep : d ≤ lv.limit
  pub shallow : IsShallow lv.table lv.type lv.limit (lv.done ++ c)

-- it stands within its value, behind `at` bytes of the stream, where nothing that the bytes show is refused
pub record LevelWithin (keep : Bool) (U : Table) (l : declared.Level) (lv : Level) (c : List ℕ) (at : ℕ) : Type 0 where
  pub announced : ℕ
  pub is : LevelIs keep U l lv c announced
  pub viable : IsViable lv.table lv.type lv.limit announced (lv.done ++ c)
  pub rest : at + announced ≡ length (lv.done ++ c) + lv.end

-- nothing was read yet, or nothing that the bytes show is refused
pub data BeginsOrStands (T : Table) (t : TypeId) (limit announced : ℕ) : List ℕ → Type 0 where
  begins : BeginsOrStands T t limit announced []
  stands : {z : List ℕ} → IsViable T t limit announced z → BeginsOrStands T t limit announced z

-- it stands within its value, or at its start, where its segment may end at once or be too deep
pub record LevelUnderWay (keep : Bool) (U : Table) (l : declared.Level) (lv : Level) (c : List ℕ) (at : ℕ) : Type
    0 where
  pub announced : ℕ
  pub is : LevelIs keep U l lv c announced
  pub stood : BeginsOrStands lv.table lv.type lv.limit announced (lv.done ++ c)
  pub rest : at + announced ≡ length (lv.done ++ c) + lv.end

-- the program's outer levels, the innermost last, are these, the innermost first; each stands at the nil in which the
-- one before stands
pub data AreOuter (keep : Bool) (U : Table) : List declared.Level → List Level → List Open → Type 0 where
  none_outer : AreOuter keep U [] [] []
  outer_then : {l : declared.Level} {outer : List declared.Level} {lv : Level} {levels : List Level} {o : Open}
      {os : List Open} {d : ℕ} → AreOuter keep U outer levels os → LevelAtNil keep U l lv [] d → FillingsAre keep U l o
      → HeldIs l.held o → AreOuter keep U (outer ++ l ∷ []) (lv ∷ levels) (o ∷ os)
