-- What is read at a shape is read at its type.
use Rattle.std.proofs.Common.{◌≡◌, ◌∙◌, ℕ, List, ◌∷◌, ◌++◌, ap, refl, sym, subst, Bool, Option}
use Rattle.std.proofs.Common.{Some, None, arith}
use Rattle.std.specs.Prelude.{slice_get}
use Rattle.json.specs.Json.{Json}
use Rattle.json.specs.Json as json
use Rattle.json.specs.Token.{Token}
use Rattle.json.specs.declared.token.Token.{Token as TakenToken}
use Rattle.json.specs.declared.token.Token.TheVariants as taken
use Rattle.json.specs.Tree.{json_tokens}
use Rattle.gob_types.specs.declared.basic.Basic.{Basic}
use Rattle.gob_types.specs.declared.id.TypeId.{TypeId}
use Rattle.gob_types.specs.declared.kind.Field.{Field}
use Rattle.gob_types.specs.declared.kind.Kind.TheVariants as kind
use Rattle.gob_types.specs.declared.kind.Marshal.{Marshal}
use Rattle.gob_types.specs.declared.kind.Shape.{Shape}
use Rattle.gob_types.specs.Table.{Table, shape_of}
use Rattle.gob_types.proofs.GrowthLaws.{some_injective}
use Rattle.gob_value.specs.Tree.{Tree, Trees, Pairs, Fields, no_field}
use Rattle.gob_value.specs.Tree as Value
use Rattle.gob_plain.specs.OpaqueText.{content_by}
use Rattle.gob_make.specs.Leaf.{ReadsBasic, ReadsContent}
use Rattle.gob_make.specs.Plain.{ReadsPlain, ReadsEach, ReadsPairs, ReadsEntries, ReadsMembers, Puts}
use Rattle.gob_make.specs.Plain as plain
use Rattle.gob_make.specs.Tells.{AddsMember, Begins, BeginsItems, BeginsMembers, ReadsArray, ReadsElements, ReadsMap}
use Rattle.gob_make.specs.Tells.{ReadsStruct, from_token}
use Rattle.gob_make.specs.Tells as tells
use Rattle.gob_make.specs.Zero.{AreKept, IsZeroOf}

-- JSON of which one thing holds is JSON of which another does
pub weaker : {P Q : Json → Type 0} {old new : List Token} → ((j : Json) → P j → Q j) → Begins P old new
    → Begins Q old new
weaker f b = record { json = b.json; holds = f b.json b.holds; stands = b.stands }

pub null_said : (lenient : Bool) (T : Table) (t : TypeId) (v : Tree) (ts : List Token) → IsZeroOf T t v
    → Begins (λ j. ReadsPlain lenient T t j v) (Token.null ∷ ts) ts
null_said lenient T t v ts z = record { json = json.null; holds = plain.of_null z; stands = refl }

pub basic_said : (lenient : Bool) (T : Table) (t : TypeId) (s : Shape) (b : Basic) (v : Tree) (j : Json)
    → shape_of T t ≡ Some s → s.kind ≡ kind.Basic b → ReadsBasic b j v → ReadsPlain lenient T t j v
basic_said lenient T t s b v j has is r = plain.of_type has (plain.of_basic is r)

pub opaque_said : (lenient : Bool) (T : Table) (t : TypeId) (s : Shape) (m : Marshal) (b : List ℕ) (j : Json)
    → shape_of T t ≡ Some s → s.kind ≡ kind.Opaque m → ReadsContent (content_by s.kind s.name) j b
    → ReadsPlain lenient T t j (Value.opaque b)
opaque_said lenient T t s m b j has is r = plain.of_type has (plain.of_opaque is r)

pub slice_said : (lenient : Bool) (T : Table) (t : TypeId) (s : Shape) (e : TypeId) (vs : Trees) (j : Json)
    → shape_of T t ≡ Some s → s.kind ≡ kind.Slice e → ReadsElements lenient T e j vs
    → ReadsPlain lenient T t j (Value.many vs)
slice_said lenient T t s e vs j has is r =
    subst (λ k. ReadsPlain lenient T t k (Value.many vs)) (sym r.1) (plain.of_type has (plain.of_slice is r.2))

pub array_said : (lenient : Bool) (T : Table) (t : TypeId) (s : Shape) (e : TypeId) (n : ℕ) (v : Tree) (j : Json)
    → shape_of T t ≡ Some s → s.kind ≡ kind.Array e n → ReadsArray lenient T e n j v → ReadsPlain lenient T t j v
array_said lenient T t s e n v j has is r =
    subst (λ k. ReadsPlain lenient T t k v) (sym r.elements.1)
    (subst (λ w. ReadsPlain lenient T t (json.array r.elements.0) w) (sym r.is)
    (plain.of_type has (plain.of_array is r.elements.2 r.fills)))

map_as : (lenient : Bool) (T : Table) (s : Shape) (k e : TypeId) (v : Tree) (j : Json) → s.kind ≡ kind.Map k e
    → ReadsMap lenient T k e j v → plain.ReadsAs lenient T s j v
map_as lenient T s k e v j is (tells.of_pairs r) = plain.of_pairs is r
map_as lenient T s k e v j is (tells.of_entries r) = plain.of_entries is r

pub map_said : (lenient : Bool) (T : Table) (t : TypeId) (s : Shape) (k e : TypeId) (v : Tree) (j : Json)
    → shape_of T t ≡ Some s → s.kind ≡ kind.Map k e → ReadsMap lenient T k e j v → ReadsPlain lenient T t j v
map_said lenient T t s k e v j has is r = plain.of_type has (map_as lenient T s k e v j is r)

pub struct_said : (lenient : Bool) (T : Table) (t : TypeId) (s : Shape) (types : List Field) (v : Tree) (j : Json)
    → shape_of T t ≡ Some s → s.kind ≡ kind.Struct types → ReadsStruct lenient T types j v
    → ReadsPlain lenient T t j v
struct_said lenient T t s types v j has is r =
    subst (λ k. ReadsPlain lenient T t k v) (sym r.is_object)
    (subst (λ w. ReadsPlain lenient T t (json.object r.members) w) (sym r.is)
    (plain.of_type has (plain.of_struct is r.reads r.keeps)))

-- ---- behind a bracket or a brace

pub elements_said : {lenient : Bool} {T : Table} {e : TypeId} {vs : Trees} {old new : List Token}
    → BeginsItems (λ js. ReadsEach lenient T e js vs) old new
    → Begins (λ j. ReadsElements lenient T e j vs) (Token.begin_array ∷ old) new
elements_said b = record {
  json = json.array b.items;
  holds = (b.items, refl, b.holds);
  stands = ap (λ (l : List Token). Token.begin_array ∷ l) b.stands;
}

pub pairs_said : {lenient : Bool} {T : Table} {k e : TypeId} {ps : Pairs} {old new : List Token}
    → BeginsItems (λ js. ReadsPairs lenient T k e js ps) old new
    → Begins (λ j. ReadsMap lenient T k e j (Value.pairs ps)) (Token.begin_array ∷ old) new
pairs_said b = record {
  json = json.array b.items;
  holds = tells.of_pairs b.holds;
  stands = ap (λ (l : List Token). Token.begin_array ∷ l) b.stands;
}

pub entries_said : {lenient : Bool} {T : Table} {k e : TypeId} {ps : Pairs} {old new : List Token}
    → BeginsMembers (λ ms. ReadsEntries lenient T k e ms ps) old new
    → Begins (λ j. ReadsMap lenient T k e j (Value.pairs ps)) (Token.begin_object ∷ old) new
entries_said b = record {
  json = json.object b.members;
  holds = tells.of_entries b.holds;
  stands = ap (λ (l : List Token). Token.begin_object ∷ l) b.stands;
}

pub members_said : {lenient : Bool} {T : Table} {types : List Field} {fs gs : Fields} {old new : List Token}
    → BeginsMembers (λ ms. ReadsMembers lenient T types no_field ms fs) old new → AreKept T types fs gs
    → Begins (λ j. ReadsStruct lenient T types j (Value.fields gs)) (Token.begin_object ∷ old) new
members_said {fs = fs} {gs = gs} b k = record {
  json = json.object b.members;
  holds = record {
    members = b.members;
    said = fs;
    kept = gs;
    is_object = refl;
    reads = b.holds;
    keeps = k;
    is = refl;
  };
  stands = ap (λ (l : List Token). Token.begin_object ∷ l) b.stands;
}

-- ---- a member

pub null_member : (lenient : Bool) (T : Table) (types : List Field) (number : ℕ) (fs : Fields) (old new : List Token)
    → old ≡ Token.null ∷ new → AddsMember lenient T types number fs fs old new
null_member lenient T types number fs old new is = record {
  value = json.null;
  stands = is;
  adds = λ name e named ms gs r. plain.null named r;
}

-- a token that is null
null_first : (token : Option TakenToken) (ts us : List Token) → from_token token ts ≡ Token.null ∷ us
    → token ≡ Some taken.Null
null_first None ts us e = let never : ⊥ = grind (arith, e) in absurd never
null_first (Some taken.BeginObject) ts us e = let never : ⊥ = grind (arith, e) in absurd never
null_first (Some taken.EndObject) ts us e = let never : ⊥ = grind (arith, e) in absurd never
null_first (Some taken.BeginArray) ts us e = let never : ⊥ = grind (arith, e) in absurd never
null_first (Some taken.EndArray) ts us e = let never : ⊥ = grind (arith, e) in absurd never
null_first (Some (taken.Key s)) ts us e = let never : ⊥ = grind (arith, e) in absurd never
null_first (Some (taken.String s)) ts us e = let never : ⊥ = grind (arith, e) in absurd never
null_first (Some (taken.Number s)) ts us e = let never : ⊥ = grind (arith, e) in absurd never
null_first (Some (taken.Bool b)) ts us e = let never : ⊥ = grind (arith, e) in absurd never
null_first (Some taken.Null) ts us e = refl
null_first (Some taken.Bad) ts us e = let never : ⊥ = grind (arith, e) in absurd never

pub member_said : (lenient : Bool) (T : Table) (types : List Field) (number : ℕ) (f : Field) (v : Tree)
    (fs more : Fields) (token : Option TakenToken) (ts old new : List Token) → slice_get types number ≡ Some f
    → ¬ (token ≡ Some taken.Null) → old ≡ from_token token ts
    → Begins (λ j. ReadsPlain lenient T f.id j v) (from_token token ts) new → Puts number v 0 fs more
    → AddsMember lenient T types number fs more old new
member_said lenient T types number f v fs more token ts old new at other from b p = record {
  value = b.json;
  stands = from ∙ b.stands;
  adds = λ name e named ms gs r.
      plain.said named (λ is. other (null_first token ts new (b.stands ∙ ap (λ k. json_tokens k ++ new) is)))
      (subst (λ (g : Field). ReadsPlain lenient T g.id b.json v) (some_injective (sym at ∙ named.field)) b.holds) p r;
}
