-- What the steps of receiving give over the bytes of a value: the piece begins with a part, the rest is behind it, and
-- the bytes of what is received of the part were appended.
use Rattle.std.specs.Prelude.{◌≡◌, ◌≢◌, ℕ, ◌+◌, ◌-◌, ◌<◌, ◌≤◌, List, [], ◌∷◌, ◌++◌, length, take, drop, Some, slice_get}
use Rattle.gob_num.specs.Unsigned.{IsUnsigned}
use Rattle.gob_types.specs.declared.id.TypeId.{TypeId}
use Rattle.gob_types.specs.declared.kind.Field.{Field}
use Rattle.gob_types.specs.declared.kind.Kind.{Kind}
use Rattle.gob_types.specs.declared.kind.Kind.TheVariants as kind
use Rattle.gob_types.specs.declared.kind.Shape.{Shape}
use Rattle.gob_types.specs.Table.{Table, shape_of}
use Rattle.gob_value.specs.Spelling.{Spells, SpellsEach, SpellsPairs, SpellsFields}
use Rattle.gob_value.specs.Top.{SpellsTop}
use Rattle.gob_value.specs.Tree.{Tree, Trees, many, Pairs, pairs, Fields, depth, trees_depth, pairs_depth, fields_depth}
use Rattle.gob_value.specs.Tree.{tree_count, pair_count, no_field, field}
use Rattle.gob_value.specs.Written.{Written, WrittenEach, WrittenPairs, WrittenFields}
use Rattle.gob_match.specs.declared.common.CommonField.{CommonField}
use Rattle.gob_match.specs.declared.matched.Matched.{Matched}
use Rattle.gob_match.specs.declared.pair.TypePair.{TypePair}
use Rattle.gob_match.specs.declared.receiving_whole.Length.{Length}
use Rattle.gob_match.specs.declared.receiving_whole.Length.TheVariants as length_is
use Rattle.gob_match.specs.declared.places.FieldPlace.{FieldPlace}
use Rattle.gob_match.specs.Machine.Receiving.{AreElementsReceived, FieldsReceived, IsReceivableField, IsReceived}
use Rattle.gob_match.specs.Machine.Receiving.{PairsReceived}
use Rattle.gob_match.specs.Received.{Receives}

-- ---- what is given

-- a value of the pair's type of the stream
pub record GivesTyped (T U : Table) (p : TypePair) (limit : ℕ) (old new piece rest : List ℕ) : Type 0 where
  pub value : Tree
  pub made : Tree
  pub bytes : List ℕ
  pub added : List ℕ
  pub spelled : Spells T p.stream value bytes
  pub within : depth value ≤ limit
  pub received : IsReceived T U p value made
  pub written : Written made added
  pub whole : piece ≡ bytes ++ rest
  pub out : new ≡ old ++ added

-- a value of the type behind its tag
pub record GivesTop (T U : Table) (t u : TypeId) (limit : ℕ) (old new piece rest : List ℕ) : Type 0 where
  pub value : Tree
  pub made : Tree
  pub bytes : List ℕ
  pub added : List ℕ
  pub spelled : SpellsTop T t value bytes
  pub within : depth value ≤ limit
  pub receives : Receives T U t u value made
  pub made_spelled : SpellsTop U u made added
  pub whole : piece ≡ bytes ++ rest
  pub out : new ≡ old ++ added

-- so many elements
pub record GivesEach (T U : Table) (e : TypePair) (count limit : ℕ) (old new piece rest : List ℕ) : Type 0 where
  pub values : Trees
  pub made : Trees
  pub bytes : List ℕ
  pub added : List ℕ
  pub spelled : SpellsEach T e.stream values bytes
  pub within : trees_depth values ≤ limit
  pub counted : tree_count values ≡ count
  pub received : AreElementsReceived T U e values made
  pub written : WrittenEach made added
  pub whole : piece ≡ bytes ++ rest
  pub out : new ≡ old ++ added

-- so many keys and elements
pub record GivesEntries (T U : Table) (k e : TypePair) (count limit : ℕ) (old new piece rest : List ℕ) : Type 0 where
  pub values : Pairs
  pub made : Pairs
  pub bytes : List ℕ
  pub added : List ℕ
  pub spelled : SpellsPairs T k.stream e.stream values bytes
  pub within : pairs_depth values ≤ limit
  pub counted : pair_count values ≡ count
  pub received : PairsReceived T U k e values made
  pub written : WrittenPairs made added
  pub whole : piece ≡ bytes ++ rest
  pub out : new ≡ old ++ added

-- the fields that are present, of which the next has this number or a greater one, and the next that is received this
-- one or a greater one
pub record GivesFields (T U : Table) (types : List Field) (common : List CommonField) (next wanted limit : ℕ)
    (old new piece rest : List ℕ) : Type 0 where
  pub values : Fields
  pub made : Fields
  pub bytes : List ℕ
  pub added : List ℕ
  pub spelled : SpellsFields T types next values bytes
  pub within : fields_depth values ≤ limit
  pub received : FieldsReceived T U values common made
  pub written : WrittenFields wanted made added
  pub whole : piece ≡ bytes ++ rest
  pub out : new ≡ old ++ added

-- a list may have so many elements
abbrev pub Admits : Length → ℕ → Type 0
Admits length_is.Any count = Unit {0}
Admits (length_is.Of length) count = count ≡ length

-- as those of a kind of lists have
abbrev pub KindHasLength : Kind → Length → Type 0
KindHasLength (kind.Array e n) length = length ≡ length_is.Of n
KindHasLength _ length = Unit {0}

pub record HasLength (T : Table) (t : TypeId) (length : Length) : Type 0 where
  pub shape : Shape
  pub known : shape_of T t ≡ Some shape
  pub is : KindHasLength shape.kind length

-- elements behind their count
pub record GivesList (T U : Table) (e : TypePair) (size : Length) (limit : ℕ) (old new piece rest : List ℕ) : Type
    0 where
  pub values : Trees
  pub made : Trees
  pub count : List ℕ
  pub bytes : List ℕ
  pub added : List ℕ
  pub counted : IsUnsigned (tree_count values) count
  pub admitted : Admits size (tree_count values)
  pub spelled : SpellsEach T e.stream values bytes
  pub within : trees_depth values ≤ limit
  pub received : AreElementsReceived T U e values made
  pub written : Written (many made) added
  pub whole : piece ≡ (count ++ bytes) ++ rest
  pub out : new ≡ old ++ added

-- keys and elements behind their count
pub record GivesMap (T U : Table) (k e : TypePair) (limit : ℕ) (old new piece rest : List ℕ) : Type 0 where
  pub values : Pairs
  pub made : Pairs
  pub count : List ℕ
  pub bytes : List ℕ
  pub added : List ℕ
  pub counted : IsUnsigned (pair_count values) count
  pub spelled : SpellsPairs T k.stream e.stream values bytes
  pub within : pairs_depth values ≤ limit
  pub received : PairsReceived T U k e values made
  pub written : Written (pairs made) added
  pub whole : piece ≡ (count ++ bytes) ++ rest
  pub out : new ≡ old ++ added

-- ---- values that stand between two places of bytes, and are copied

pub record StandsEach (T : Table) (t : TypeId) (limit count : ℕ) (body : List ℕ) (at end : ℕ) : Type 0 where
  pub order : at ≤ end
  pub inside : end ≤ length body
  pub values : Trees
  pub spelled : SpellsEach T t values (take (end - at) (drop at body))
  pub within : trees_depth values ≤ limit
  pub counted : tree_count values ≡ count

pub record CopiesEach (T : Table) (t : TypeId) (limit count : ℕ) (body : List ℕ) (at end : ℕ) (old new : List ℕ)
    : Type 0 where
  pub each : StandsEach T t limit count body at end
  pub copied : new ≡ old ++ take (end - at) (drop at body)

-- ---- fields that are found by their places

-- the piece begins with the value, of this type
pub record BeginsValue (T : Table) (t : TypeId) (v : Tree) (piece : List ℕ) : Type 0 where
  pub bytes : List ℕ
  pub rest : List ℕ
  pub spelled : Spells T t v bytes
  pub whole : piece ≡ bytes ++ rest

-- at these places of the bytes the values of the fields stand
pub data ArePlaces (T : Table) (types : List Field) (body : List ℕ) : Fields → List FieldPlace → Type 0 where
  no_place : ArePlaces T types body no_field []
  place : {f : ℕ} {v : Tree} {fs : Fields} {p : FieldPlace} {ps : List FieldPlace} {e : Field}
      → slice_get types f ≡ Some e → p.number ≡ f → p.at ≤ length body → BeginsValue T e.id v (drop p.at body)
      → ArePlaces T types body fs ps → ArePlaces T types body (field f v fs) (p ∷ ps)

-- the fields that are present, of which the next has this number or a greater one, and their places, which were kept
pub record StandPresent (T : Table) (types : List Field) (limit : ℕ) (body : List ℕ) (next : ℕ)
    (old new : List FieldPlace) (piece rest : List ℕ) : Type 0 where
  pub values : Fields
  pub bytes : List ℕ
  pub places : List FieldPlace
  pub spelled : SpellsFields T types next values bytes
  pub within : fields_depth values ≤ limit
  pub stand : ArePlaces T types body values places
  pub whole : piece ≡ bytes ++ rest
  pub grown : new ≡ old ++ places

-- their numbers rise
abbrev pub PlacesRise : List FieldPlace → Type 0
PlacesRise ps = (i j : ℕ) (p q : FieldPlace) → i < j → slice_get ps i ≡ Some p → slice_get ps j ≡ Some q
    → p.number < q.number

-- one of them is of this number
pub record HasPlace (ps : List FieldPlace) (n at : ℕ) : Type 0 where
  pub index : ℕ
  pub place : FieldPlace
  pub there : slice_get ps index ≡ Some place
  pub numbered : place.number ≡ n
  pub is : place.at ≡ at

-- none is
abbrev pub LacksPlace : List FieldPlace → ℕ → Type 0
LacksPlace ps n = (k : ℕ) (p : FieldPlace) → slice_get ps k ≡ Some p → p.number ≢ n

-- of the common fields of these values the next that is received has this number or a greater one
pub record GivesCommon (T U : Table) (values : Fields) (common : List CommonField) (wanted : ℕ) (old new : List ℕ)
    : Type 0 where
  pub made : Fields
  pub added : List ℕ
  pub received : FieldsReceived T U values common made
  pub written : WrittenFields wanted made added
  pub out : new ≡ old ++ added

-- ---- the fields of two structs

-- the stream's numbers of the fields rise, from this one on
abbrev pub RiseFrom : ℕ → List CommonField → Type 0
RiseFrom low [] = Unit {0}
RiseFrom low (c ∷ cs) = (low ≤ c.stream) × RiseFrom (c.stream + 1) cs

-- the second fields are the first ones without some at their front, whose numbers in the stream are below this one
pub data Skips (n : ℕ) : List CommonField → List CommonField → Type 0 where
  here : {cs : List CommonField} → Skips n cs cs
  past : {c : CommonField} {cs ds : List CommonField} → c.stream < n → Skips n cs ds → Skips n (c ∷ cs) ds

module _ {S W : Type 0} (stream : S → Table) (wanted : W → Table) (m : Matched S W) where
  -- each of the common fields is one of the stream's struct of these fields, and its types are a pair of the match
  abbrev pub HaveFieldsOf : List Field → List CommonField → Type 0
  HaveFieldsOf types common = (k : ℕ) (c : CommonField) → slice_get common k ≡ Some c
      → IsReceivableField (stream m.stream.now) (wanted m.wanted.now) m.found m.conversions.items types c
