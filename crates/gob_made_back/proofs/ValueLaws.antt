-- Values of any type, down their parts.
use Rattle.std.proofs.Common.{◌≡◌, ℕ, List, Bool, Some, false, refl, sym, subst}
use Rattle.json.specs.Json.{Json, Items, Members}
use Rattle.json.specs.Json as json
use Rattle.serde_json.specs.Written.{outline}
use Rattle.gob_types.specs.declared.id.TypeId.{TypeId}
use Rattle.gob_types.specs.declared.kind.Field.{Field}
use Rattle.gob_types.specs.declared.kind.Kind.TheVariants as kind
use Rattle.gob_types.specs.declared.kind.Shape.{Shape}
use Rattle.gob_types.specs.Defined.{IsTable}
use Rattle.gob_types.specs.Table.{Table, shape_of}
use Rattle.gob_value.specs.Tree.{Tree, Trees, no_tree, tree, Pairs, Fields, no_field}
use Rattle.gob_value.specs.Tree as Value
use Rattle.gob_json.specs.Json.{key_type, value_json}
use Rattle.gob_plain.specs.OpaqueText.{SaysContent, content_by, content_of}
use Rattle.gob_plain.specs.Plain.{SayEach, SayFields, Says}
use Rattle.gob_make.specs.Plain.{ReadsAs, ReadsEach, ReadsEntries, ReadsMembers, ReadsPairs, ReadsPlain}
use Rattle.gob_make.specs.Plain as plain
use Rattle.gob_make.specs.Zero.{AreFilled}
use Rattle.gob_make.specs.Zero as zero
use Rattle.gob_made_back.specs.Alike.{AreAlike, AreEntriesOf, FillAlike, HasEntries, IsAlike, IsAlikeAs, Said}
use Rattle.gob_made_back.specs.Alike.{TellFields}
use Rattle.gob_made_back.specs.Alike as alike
use Rattle.gob_made_back.proofs.ContentLaws.{content_same}
use Rattle.gob_made_back.proofs.FieldLaws.{GoodFields, field_goes, kept_shown, puts_good}
use Rattle.gob_made_back.proofs.FieldLaws as fields
use Rattle.gob_made_back.proofs.KeyLaws.{guessed, key_json, named_key, plain_key}
use Rattle.gob_made_back.proofs.LeafLaws.{basic_same}
use Rattle.gob_made_back.proofs.MapLaws.{Goes, GoodPairs, entry_item, key_goes, map_shown}
use Rattle.gob_made_back.proofs.MapLaws as maps
use Rattle.gob_made_back.proofs.ZeroLaws.{MapSays, element_is, fields_are, key_is, zero_shown, zeros_shown}

-- ---- elements

-- each element is the one that the JSON says
data GoodEach (lenient : Bool) (T : Table) (e : TypeId) : Items → Trees → Type 0 where
  none : GoodEach lenient T e json.no_items no_tree
  one_more : {j : Json} {v : Tree} {js : Items} {vs : Trees} → Goes lenient T e j v → GoodEach lenient T e js vs
      → GoodEach lenient T e (json.item j js) (tree v vs)

each_shown : {lenient : Bool} {T : Table} {e : TypeId} {js : Items} {vs : Trees} (ks : Items)
    → GoodEach lenient T e js vs → SayEach guessed T e vs ks → AreAlike lenient T e js ks
each_shown json.no_items none s = alike.no_element
each_shown (json.item k ks) none s = absurd s
each_shown json.no_items (one_more one g) s = absurd s
each_shown (json.item k ks) (one_more one g) s = alike.element (one k s.0) (each_shown ks g s.1)

filled_shown : {lenient : Bool} {T : Table} {e : TypeId} (ks : Items) → {n : ℕ} {js : Items} {vs ws : Trees}
    → GoodEach lenient T e js vs → AreFilled T e n vs ws → SayEach guessed T e ws ks → FillAlike lenient T e n js ks
filled_shown ks none f s = alike.zeros (zeros_shown ks f s)
filled_shown json.no_items (one_more one g) (zero.said f) s = absurd s
filled_shown (json.item k ks) (one_more one g) (zero.said f) s = alike.said (one k s.0) (filled_shown ks g f s.1)

-- ---- maps

-- entries that members name
record AreRead (lenient : Bool) (T : Table) (t e : TypeId) (ms : Members) (ps : Pairs) : Type 0 where
  entries : Items
  are : AreEntriesOf T t ms entries
  good : GoodPairs lenient T t e entries ps

map_alike : {lenient : Bool} {T : Table} (t : TypeId) {u e : TypeId} {s : Shape} {j : Json} {js : Items} {ps : Pairs}
    (k : Json) → shape_of T t ≡ Some s → s.kind ≡ kind.Map u e → HasEntries T u j js → GoodPairs lenient T u e js ps
    → Says guessed T t (Value.pairs ps) k → IsAlikeAs lenient T s j k
map_alike {T = T} t {u = u} {e = e} {ps = ps} k has is of g s =
    let shown = map_shown k g (subst (λ w. MapSays T w e ps k) (key_is T t has is refl)
    (subst (λ w. MapSays T (key_type (shape_of T t)) w ps k) (element_is T t has is refl) s)) in
    alike.of_map is of shown.agree shown.is

-- ---- members

record AreTold (lenient : Bool) (T : Table) (types : List Field) (said : Said) (ms : Members)
    (fs : Fields) : Type 0 where
  all : Said
  tell : TellFields lenient types said ms all
  good : GoodFields lenient T types all fs

-- ---- all of them

opaque_alike : (T : Table) (t : TypeId) {s : Shape} (b : List ℕ) (k : Json) → shape_of T t ≡ Some s
    → Says guessed T t (Value.opaque b) k → SaysContent (content_by s.kind s.name) b k
opaque_alike T t b k has s = subst (λ o. SaysContent (content_of false o) b k) has s

mutual
  pub plain_goes : {lenient : Bool} {T : Table} {t : TypeId} {j : Json} {v : Tree} → IsTable T
      → ReadsPlain lenient T t j v → Goes lenient T t j v
  plain_goes known (plain.of_null z) = λ k s. alike.of_null (zero_shown k z s)
  plain_goes {t = t} known (plain.of_type has r) = λ k s. alike.of_type has (as_goes known r t has k s)

  as_goes : {lenient : Bool} {T : Table} {s : Shape} {j : Json} {v : Tree} → IsTable T → ReadsAs lenient T s j v
      → (t : TypeId) → shape_of T t ≡ Some s → (k : Json) → Says guessed T t v k → IsAlikeAs lenient T s j k
  as_goes {T = T} known (plain.of_basic is r) t has = λ k s.
      alike.of_basic is (basic_same guessed T t k r s)
  as_goes {T = T} known (plain.of_opaque {b = b} is c) t has = λ k s.
      alike.of_opaque is (content_same k c (opaque_alike T t b k has s))
  as_goes {lenient = lenient} {T = T} {s = r} known (plain.of_slice {js = js} {vs = vs} is p) t has = λ k s.
      let each = subst (λ w. SayEach guessed T w vs s.0) (element_is T t has is refl) s.2 in
      subst (λ i. IsAlikeAs lenient T r (json.array js) i) (sym s.1)
      (alike.of_slice is (each_shown s.0 (each_good known p) each))
  as_goes {lenient = lenient} {T = T} {s = r} known (plain.of_array {js = js} {ws = ws} is p f) t has = λ k s.
      let each = subst (λ w. SayEach guessed T w ws s.0) (element_is T t has is refl) s.2 in
      subst (λ i. IsAlikeAs lenient T r (json.array js) i) (sym s.1)
      (alike.of_array is (filled_shown s.0 (each_good known p) f each))
  as_goes known (plain.of_pairs is p) t has = λ k s. map_alike t k has is alike.of_array (pairs_good known p) s
  as_goes known (plain.of_entries is p) t has = λ k s.
      let r = entries_good known p in
      map_alike t k has is (alike.of_object r.are) r.good s
  as_goes {lenient = lenient} {T = T} {s = r} known (plain.of_struct {ms = ms} {gs = gs} is p keeps) t has = λ k s.
      let told = members_good known p fields.none in
      let each = subst (λ ts. SayFields guessed T ts gs s.0) (fields_are T t has is refl) s.2 in
      subst (λ i. IsAlikeAs lenient T r (json.object ms) i) (sym s.1)
      (alike.of_struct is told.tell (kept_shown s.0 told.good keeps each))

  each_good : {lenient : Bool} {T : Table} {e : TypeId} {js : Items} {vs : Trees} → IsTable T
      → ReadsEach lenient T e js vs → GoodEach lenient T e js vs
  each_good known plain.no_element = none
  each_good known (plain.element r p) = one_more (plain_goes known r) (each_good known p)

  pairs_good : {lenient : Bool} {T : Table} {t e : TypeId} {js : Items} {ps : Pairs} → IsTable T
      → ReadsPairs lenient T t e js ps → GoodPairs lenient T t e js ps
  pairs_good known plain.no_more_pairs = maps.none
  pairs_good known (plain.one_pair a b p) =
      maps.one_more (plain_key known a) (plain_goes known a) (plain_goes known b) (pairs_good known p)

  entries_good : {lenient : Bool} {T : Table} {t e : TypeId} {ms : Members} {ps : Pairs} → IsTable T
      → ReadsEntries lenient T t e ms ps → AreRead lenient T t e ms ps
  entries_good known plain.no_entry = record { entries = json.no_items; are = alike.no_entry; good = maps.none }
  entries_good {T = T} {t = t} known (plain.entry {j = j} {x = x} key r p) =
      let rest = entries_good known p in record {
        entries = entry_item (outline (value_json T t x)) j rest.entries;
        are = alike.entry (key_json key) rest.are;
        good = maps.one_more (named_key known key) (key_goes key) (plain_goes known r) rest.good;
      }

  members_good : {lenient : Bool} {T : Table} {types : List Field} {fs : Fields} {ms : Members} {gs : Fields}
      → IsTable T → ReadsMembers lenient T types fs ms gs → {said : Said} → GoodFields lenient T types said fs
      → AreTold lenient T types said ms gs
  members_good known plain.no_more {said = said} = λ g. record { all = said; tell = alike.no_more; good = g }
  members_good known (plain.null named p) = λ g.
      let rest = members_good known p g in
      record { all = rest.all; tell = alike.null named rest.tell; good = rest.good }
  members_good known (plain.left_out may unknown p) = λ g.
      let rest = members_good known p g in
      record { all = rest.all; tell = alike.left_out may unknown rest.tell; good = rest.good }
  members_good known (plain.said named some r puts p) = λ g.
      let put = puts_good (field_goes named.field some r (plain_goes known r)) puts g in
      let rest = members_good known p put.2 in
      record { all = rest.all; tell = alike.tells named some put.1 rest.tell; good = rest.good }
