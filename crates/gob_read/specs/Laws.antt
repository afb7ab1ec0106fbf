-- The laws of bodies behind their type numbers.
-- (They follow from Go's encoding/gob documentation, Encoding Details; docs/FORMAT.md, Refusals.)
use Rattle.std.specs.Prelude.{◌≡◌, ◌≢◌, ℕ, ◌^◌, ◌<◌, ◌≤◌, List, [], ◌++◌, length, take, Some}
use Rattle.gob_types.specs.declared.id.TypeId.{TypeId}
use Rattle.gob_types.specs.declared.kind.Kind.TheVariants as kind
use Rattle.gob_types.specs.declared.kind.Shape.{Shape}
use Rattle.gob_types.specs.declared.reason.Reason.{Reason}
use Rattle.gob_types.specs.declared.reason.Reason.TheVariants as reason
use Rattle.gob_types.specs.Table.{Table, shape_of, Extends}
use Rattle.gob_types.specs.Defined.{IsTable}
use Rattle.gob_types.specs.Ready.{IsReady}
use Rattle.gob_value.specs.Tree.{Tree, depth}
use Rattle.gob_value.specs.Top.{SpellsTop}
use Rattle.gob_num.specs.Unsigned.{IsUnsigned}
use Rattle.gob_read.specs.Expected.{Allowed, Allows, Expected, a_number, raw}
use Rattle.gob_read.specs.Expects.{ExpectsTop}
use Rattle.gob_read.specs.Refusal.{Refusal, Refused}
use Rattle.gob_read.specs.First.{IsFirst}
use Rattle.gob_read.specs.Viable.{IsViable}
use Rattle.gob_read.specs.Begins.{BeginsValue, BeginsNone, IsProperPrefix, BeginsOnlyDeep}

-- what is expected after bytes, in a part of which depth
abbrev pub Places : Type 1
Places = Table → TypeId → List ℕ → Expected → ℕ → Type 0

-- after the same bytes one thing is expected, at one depth
abbrev pub StopOnce : Places → Type 0
StopOnce P = (T : Table) (t : TypeId) (p : List ℕ) (w u : Expected) (d e : ℕ) → P T t p w d → P T t p u e → (w ≡ u)
    × (d ≡ e)

-- the refusal of a body that goes on behind its value
abbrev pub extra_behind : List ℕ → Refusal
extra_behind b = record { place = length b; seen = length b; reason = reason.Extra }

-- a whole value that isn't too deep is refused for nothing but what the body announces behind it
abbrev pub WholeIsExtraAlone : Type 0
WholeIsExtraAlone = (T : Table) (t : TypeId) (limit announced : ℕ) (v : Tree) (b r : List ℕ) (S : Refusal)
    → SpellsTop T t v b → depth v ≤ limit → Refused T t limit announced (b ++ r) S
    → (S ≡ extra_behind b) × (length b < announced)

-- which is given, where it does
abbrev pub ExtraIsGiven : Type 0
ExtraIsGiven = (T : Table) (t : TypeId) (limit announced : ℕ) (v : Tree) (b r : List ℕ) → SpellsTop T t v b
    → depth v ≤ limit → length b < announced → IsFirst T t limit announced (b ++ r) (extra_behind b)

-- so one that all the announced bytes spell isn't refused
abbrev pub WholeIsAccepted : Type 0
WholeIsAccepted = (T : Table) (t : TypeId) (limit : ℕ) (v : Tree) (b : List ℕ) (S : Refusal) → SpellsTop T t v b
    → depth v ≤ limit → ¬ Refused T t limit (length b) b S

-- and one that is too deep is refused for that
abbrev pub DeepIsRefused : Type 0
DeepIsRefused = (T : Table) (t : TypeId) (limit announced : ℕ) (v : Tree) (b r : List ℕ) → SpellsTop T t v b
    → limit < depth v → (S : Refusal) × (S.reason ≡ reason.TooDeep) × Refused T t limit announced (b ++ r) S

-- one refusal is given
abbrev pub GiveOne : Type 0
GiveOne = (T : Table) (t : TypeId) (limit announced : ℕ) (z : List ℕ) (R S : Refusal) → IsFirst T t limit announced z R
    → IsFirst T t limit announced z S → R ≡ S

-- the bytes that show the refusal are there, and it is the one that is given of all bytes that begin with them
abbrev pub BodiesStayShown : Type 0
BodiesStayShown = (T : Table) (t : TypeId) (limit announced : ℕ) (z y : List ℕ) (R : Refusal)
    → IsFirst T t limit announced z R → length z ≤ announced → length y ≤ announced → take R.seen y ≡ take R.seen z
    → (R.seen ≤ length z) × IsFirst T t limit announced y R

-- where bytes are viable, each refusal is shown by more bytes, whatever they are
abbrev pub RefusesPromptly : Type 0
RefusesPromptly = (T : Table) (t : TypeId) (limit announced : ℕ) (z x : List ℕ) (S : Refusal)
    → IsViable T t limit announced z → Refused T t limit announced (z ++ x) S → length z < S.seen

-- and no value is whole
abbrev pub ViableBeforeTheEnd : Type 0
ViableBeforeTheEnd = (T : Table) (t : TypeId) (limit announced : ℕ) (z b r : List ℕ) (v : Tree)
    → IsViable T t limit announced z → SpellsTop T t v b → z ≢ b ++ r

-- what bytes expect stays when the table grows
abbrev pub StayExpected : Type 0
StayExpected = (T U : Table) (t : TypeId) (p : List ℕ) (w : Expected) (d : ℕ) → Extends T U → ExpectsTop T t p w d
    → ExpectsTop U t p w d

-- and a ready type expects nothing else then
abbrev pub ExpectNoMore : Type 0
ExpectNoMore = (T U : Table) (t : TypeId) (p : List ℕ) (w : Expected) (d : ℕ) → Extends T U → IsReady T t
    → ExpectsTop U t p w d → ExpectsTop T t p w d

-- bytes of a ready type that are viable stay so
abbrev pub StayViable : Type 0
StayViable = (T U : Table) (t : TypeId) (limit announced : ℕ) (z : List ℕ) → Extends T U → IsReady T t
    → IsViable T t limit announced z → IsViable U t limit announced z

-- and the same refusal is given
abbrev pub StayRefused : Type 0
StayRefused = (T U : Table) (t : TypeId) (limit announced : ℕ) (z : List ℕ) (R : Refusal) → Extends T U → IsReady T t
    → IsFirst T t limit announced z R → IsFirst U t limit announced z R

abbrev pub RefuseNoMore : Type 0
RefuseNoMore = (T U : Table) (t : TypeId) (limit announced : ℕ) (z : List ℕ) (R : Refusal) → Extends T U → IsReady T t
    → IsFirst U t limit announced z R → IsFirst T t limit announced z R

-- reasons that a number gives: its bytes, or what it is
abbrev pub IsOfNumber : Reason → Type 0
IsOfNumber reason.BadHead = Unit {0}
IsOfNumber reason.NotMinimal = Unit {0}
IsOfNumber reason.SingleTag = Unit {0}
IsOfNumber reason.Bool = Unit {0}
IsOfNumber reason.ArrayCount = Unit {0}
IsOfNumber reason.FieldNumber = Unit {0}
IsOfNumber reason.InterfaceValue = Unit {0}
IsOfNumber _ = ⊥

-- where a number is refused, the bytes up to its end begin no value
abbrev pub SeenBeginNone : Type 0
SeenBeginNone = (T : Table) (t : TypeId) (limit announced : ℕ) (z : List ℕ) (R : Refusal)
    → Refused T t limit announced z R → IsOfNumber R.reason → BeginsNone T t (take R.seen z)

-- where a part is too deep, the bytes before it begin only values that are too deep
abbrev pub DeepBeginDeep : Type 0
DeepBeginDeep = (T : Table) (t : TypeId) (limit announced : ℕ) (z : List ℕ) (R : Refusal)
    → Refused T t limit announced z R → R.reason ≡ reason.TooDeep → BeginsOnlyDeep T t limit (take R.place z)

-- each array's length is a number of 64 bits, so its count has a spelling
pub record HasCountedArrays (T : Table) : Type 0 where
  pub counted : (t : TypeId) (s : Shape) (e : TypeId) (n : ℕ) → shape_of T t ≡ Some s → s.kind ≡ kind.Array e n
      → n < 2 ^ 64

-- where bytes of a ready type expect something, they are a proper prefix of a spelling
abbrev pub ExpectingGoesOn : Type 0
ExpectingGoesOn = (T : Table) (t : TypeId) (p : List ℕ) (w : Expected) (d : ℕ) → HasCountedArrays T → IsReady T t
    → ExpectsTop T t p w d → IsProperPrefix T t p

-- the bytes before the place of a refusal begin a value, unless the body ends too early
abbrev pub PlacesBegin : Type 0
PlacesBegin = (T : Table) (t : TypeId) (limit announced : ℕ) (z : List ℕ) (R : Refusal) → HasCountedArrays T
    → IsReady T t → Refused T t limit announced z R → R.reason ≢ reason.Short → BeginsValue T t (take R.place z)

-- the table of a stream has such arrays alone
abbrev pub TablesCountArrays : Type 0
TablesCountArrays = (T : Table) → IsTable T → HasCountedArrays T

-- a whole item of what is expected
pub data IsExpected : Expected → List ℕ → Type 0 where
  is_number : {a : Allowed} {n : ℕ} {c : List ℕ} → Allows a n → IsUnsigned n c → IsExpected (a_number a) c
  is_raw : {n : ℕ} {c : List ℕ} → length c ≡ n → IsExpected (raw n) c

-- which the bytes begin, without reaching its end
pub record BeginsExpected (w : Expected) (r : List ℕ) : Type 0 where
  pub rest : List ℕ
  pub more : rest ≢ []
  pub item : IsExpected w (r ++ rest)

-- after the first of the bytes something is expected, and the others begin it
pub record ExpectsMore (T : Table) (t : TypeId) (z : List ℕ) : Type 0 where
  pub before : List ℕ
  pub under_way : List ℕ
  pub expected : Expected
  pub depth : ℕ
  pub expects : ExpectsTop T t before expected depth
  pub whole : z ≡ before ++ under_way
  pub begun : BeginsExpected expected under_way

-- more is expected behind each proper prefix of a spelling, and behind no other bytes of a ready type
abbrev pub PrefixesExpectMore : Type 0
PrefixesExpectMore = (T : Table) (t : TypeId) (z : List ℕ) → IsProperPrefix T t z → ExpectsMore T t z

abbrev pub ExpectingArePrefixes : Type 0
ExpectingArePrefixes = (T : Table) (t : TypeId) (z : List ℕ) → HasCountedArrays T → IsReady T t → ExpectsMore T t z
    → IsProperPrefix T t z
