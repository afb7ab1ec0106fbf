-- What the steps of receiving a value need, and what they give. Numbers of fields are kept small throughout, since the
-- deltas between them are spelled with 64 bits.
use Rattle.std.specs.Prelude.{◌≡◌, ℕ, ◌+◌, ◌^◌, ◌<◌, List, [], ◌∷◌, Some, slice_get}
use Rattle.gob_types.specs.declared.id.TypeId.{TypeId}
use Rattle.gob_types.specs.declared.kind.Field.{Field}
use Rattle.gob_types.specs.Table.{Table}
use Rattle.gob_value.specs.declared.value.Value.{Value}
use Rattle.gob_value.specs.Fits.{Fits}
use Rattle.gob_value.specs.Spelling.{SpellsEach, SpellsPairs, SpellsFields}
use Rattle.gob_value.specs.TidyLaws.{HasSmallNumbers, AllHaveSmallNumbers, PairsHaveSmallNumbers}
use Rattle.gob_value.specs.Tree.{Tree, Trees, Pairs, Fields, no_field, field}
use Rattle.gob_match.specs.declared.common.CommonField.{CommonField}
use Rattle.gob_match.specs.declared.conversion.Conversion.{Conversion}
use Rattle.gob_match.specs.declared.matched.Matched.{Matched}
use Rattle.gob_match.specs.declared.pair.TypePair.{TypePair}
use Rattle.gob_match.specs.Machine.Exploring.{ConvertsAt}
use Rattle.gob_match.specs.Machine.Search.{Entry, IsAt}
use Rattle.gob_match.specs.Machine.Kept.{IsMatched}
use Rattle.gob_match.specs.Received.{IsPresent, IsAbsent, Receives, ReceivesEach, ReceivesPairs}

-- ---- what is given

-- the second value is received of the first
pub record IsReceived (T U : Table) (p : TypePair) (v w : Tree) : Type 0 where
  pub receives : Receives T U p.stream p.wanted v w
  pub small : HasSmallNumbers w

pub record AreElementsReceived (T U : Table) (p : TypePair) (vs ws : Trees) : Type 0 where
  pub receives : ReceivesEach T U p.stream p.wanted vs ws
  pub small : AllHaveSmallNumbers ws

pub record PairsReceived (T U : Table) (k e : TypePair) (ps qs : Pairs) : Type 0 where
  pub receives : ReceivesPairs T U k.stream k.wanted e.stream e.wanted ps qs
  pub small : PairsHaveSmallNumbers qs

-- of each common field that is present, its value is received, in the order of the common fields
pub data FieldsReceived (T U : Table) (fs : Fields) : List CommonField → Fields → Type 0 where
  no_more : FieldsReceived T U fs [] no_field
  absent : {c : CommonField} {cs : List CommonField} {gs : Fields} → IsAbsent c.stream fs → FieldsReceived T U fs cs gs
      → FieldsReceived T U fs (c ∷ cs) gs
  present : {c : CommonField} {cs : List CommonField} {v w : Tree} {gs : Fields} → IsPresent c.stream v fs
      → c.wanted + 1 < 2 ^ 64 → IsReceived T U c.pair v w
      → FieldsReceived T U fs cs gs → FieldsReceived T U fs (c ∷ cs) (field c.wanted w gs)

-- ---- what is needed

-- the pair is one of a match
pub record IsOfMatch (T U : Table) (found : List Entry) (conversions : List Conversion) (p : TypePair) : Type 0 where
  pub stream : TypeId
  pub wanted : TypeId
  pub matched : IsMatched T U stream wanted found conversions
  pub place : ℕ
  pub at : IsAt found place p

-- a value of its stream's type
pub record IsReceivable (T U : Table) (found : List Entry) (conversions : List Conversion) (p : TypePair) (v : Tree) :
    Type 0 where
  pub pair : IsOfMatch T U found conversions p
  pub fits : Fits T p.stream v

-- elements of it
pub record AreReceivable (T U : Table) (found : List Entry) (conversions : List Conversion) (p : TypePair)
    (vs : Trees) : Type 0 where
  pub pair : IsOfMatch T U found conversions p
  pub bytes : List ℕ
  pub spelled : SpellsEach T p.stream vs bytes

-- keys and elements
pub record PairsReceivable (T U : Table) (found : List Entry) (conversions : List Conversion) (k e : TypePair)
    (ps : Pairs) : Type 0 where
  pub key : IsOfMatch T U found conversions k
  pub elem : IsOfMatch T U found conversions e
  pub bytes : List ℕ
  pub spelled : SpellsPairs T k.stream e.stream ps bytes

-- the common field is one of the struct's fields, and its types are a pair of the match
pub record IsReceivableField (T U : Table) (found : List Entry) (conversions : List Conversion) (types : List Field)
    (c : CommonField) : Type 0 where
  pub pair : IsOfMatch T U found conversions c.pair
  pub type : Field
  pub there : slice_get types c.stream ≡ Some type
  pub typed : type.id ≡ c.pair.stream
  pub small : c.wanted + 1 < 2 ^ 64

-- the fields of a struct
pub record FieldsReceivable (T U : Table) (found : List Entry) (conversions : List Conversion)
    (common : List CommonField) (fs : Fields) : Type 0 where
  pub types : List Field
  pub each : (k : ℕ) (c : CommonField) → slice_get common k ≡ Some c → IsReceivableField T U found conversions types c
  pub bytes : List ℕ
  pub spelled : SpellsFields T types 0 fs bytes

-- the numbers of the fields rise
abbrev pub HaveRisingNumbers : List (ℕ × Value) → Type 0
HaveRisingNumbers parts = (i j : ℕ) (p q : ℕ × Value) → i < j → slice_get parts i ≡ Some p → slice_get parts j ≡ Some q
    → p.0 < q.0

-- ---- the same of a match

module _ {S W : Type 0} (stream : S → Table) (wanted : W → Table) (m : Matched S W) where
  abbrev pub IsPairOf : TypePair → Type 0
  IsPairOf = IsOfMatch (stream m.stream.now) (wanted m.wanted.now) m.found m.conversions.items

  abbrev pub HasConversion : TypePair → Conversion → Type 0
  HasConversion = ConvertsAt (stream m.stream.now) (wanted m.wanted.now)

  abbrev pub CanReceive : TypePair → Tree → Type 0
  CanReceive = IsReceivable (stream m.stream.now) (wanted m.wanted.now) m.found m.conversions.items

  abbrev pub CanReceiveEach : TypePair → Trees → Type 0
  CanReceiveEach = AreReceivable (stream m.stream.now) (wanted m.wanted.now) m.found m.conversions.items

  abbrev pub CanReceivePairs : TypePair → TypePair → Pairs → Type 0
  CanReceivePairs = PairsReceivable (stream m.stream.now) (wanted m.wanted.now) m.found m.conversions.items

  abbrev pub CanReceiveFields : List CommonField → Fields → Type 0
  CanReceiveFields = FieldsReceivable (stream m.stream.now) (wanted m.wanted.now) m.found m.conversions.items

  abbrev pub GivesTree : TypePair → Tree → Tree → Type 0
  GivesTree = IsReceived (stream m.stream.now) (wanted m.wanted.now)

  abbrev pub GivesEach : TypePair → Trees → Trees → Type 0
  GivesEach = AreElementsReceived (stream m.stream.now) (wanted m.wanted.now)

  abbrev pub GivesPairs : TypePair → TypePair → Pairs → Pairs → Type 0
  GivesPairs = PairsReceived (stream m.stream.now) (wanted m.wanted.now)

  abbrev pub GivesCommonFields : List CommonField → Fields → Fields → Type 0
  GivesCommonFields common fs gs = FieldsReceived (stream m.stream.now) (wanted m.wanted.now) fs common gs
