-- Two plain JSONs that say one value of a type: one as `make` reads it, and the one that `values` prints of that value.
-- Neither the value nor the code is spoken of. (docs/FORMAT.md, Plain JSON as input; Plain values.)
use Rattle.std.specs.Prelude.{◌≡◌, ◌≢◌, ◌==◌, ◌&&◌, ◌||◌, ◌<◌, ◌≤◌, ◌++◌, ◌+◌, not, ⊤, ℕ, List, [], ◌∷◌, Bool, true}
use Rattle.std.specs.Prelude.{false, IsTrue, Some, codes, if◌then◌else◌, slice_get}
use Rattle.std.specs.Float.{float_is_finite, float_zero}
use Rattle.std.specs.Float.Ieee.{Float, binary64}
use Rattle.ryu.specs.Parse.{parse_float}
use Rattle.ryu.specs.Plain.{IsPlainNumber}
use Rattle.json.specs.Json.{Json, Items, Members}
use Rattle.json.specs.Json as json
use Rattle.serde_json.specs.Written.{outline}
use Rattle.gob_types.specs.declared.basic.Basic.{Basic}
use Rattle.gob_types.specs.declared.basic.Basic.TheVariants as basic
use Rattle.gob_types.specs.declared.id.TypeId.{TypeId}
use Rattle.gob_types.specs.declared.kind.Field.{Field}
use Rattle.gob_types.specs.declared.kind.Kind.{Kind}
use Rattle.gob_types.specs.declared.kind.Kind.TheVariants as kind
use Rattle.gob_types.specs.declared.kind.Marshal.{Marshal}
use Rattle.gob_types.specs.declared.kind.Shape.{Shape}
use Rattle.gob_types.specs.Defined.{IsTable}
use Rattle.gob_types.specs.Table.{Table, basic_of, shape_of}
use Rattle.gob_value.specs.Tree.{Tree}
use Rattle.gob_json.specs.Json.{text_json}
use Rattle.gob_plain.specs.Filled.{SaysValue}
use Rattle.gob_plain.specs.OpaqueText.{SaysContent, content_by}
use Rattle.gob_plain.specs.Plain.{SaysBoth, SaysPattern, all_differ, gives_names, name_text, said_element}
use Rattle.gob_plain.specs.Plain.{said_key}
use Rattle.gob_plain.specs.declared.opaque.Content.{Content}
use Rattle.gob_plain.specs.declared.style.Style.{Style}
use Rattle.gob_make.specs.Leaf.{IsNamed, IsTrimmed, may_be_time}
use Rattle.gob_make.specs.Plain.{IsUnknown, ReadsPlain}

-- ---- values without parts

-- numbers in decimal of which one finite float is the nearest, the second one with a point or an exponent; or one name
-- of a float that is no number
pub data IsSameFloat : Json → Json → Type 0 where
  same_number : {text shown : List ℕ} {x : Float} → float_is_finite x ≡ true → parse_float binary64 text ≡ Some x
      → parse_float binary64 shown ≡ Some x → IsPlainNumber shown
      → IsSameFloat (json.number text) (json.number shown)
  no_number : IsSameFloat (json.string (codes "NaN")) (json.string (codes "NaN"))
  infinity : IsSameFloat (json.string (codes "Infinity")) (json.string (codes "Infinity"))
  negative_infinity : IsSameFloat (json.string (codes "-Infinity")) (json.string (codes "-Infinity"))

-- one JSON, but for the digits of floats
pub data IsSameBasic : Basic → Json → Json → Type 0 where
  same_bool : {x : Bool} → IsSameBasic basic.Bool (json.boolean x) (json.boolean x)
  same_int : {digits : List ℕ} → IsSameBasic basic.Int (json.number digits) (json.number digits)
  same_uint : {digits : List ℕ} → IsSameBasic basic.Uint (json.number digits) (json.number digits)
  same_float : {j k : Json} → IsSameFloat j k → IsSameBasic basic.Float j k
  same_complex : {a b c d : Json} → IsSameFloat a c → IsSameFloat b d → IsSameBasic basic.Complex
      (json.array (json.item a (json.item b json.no_items))) (json.array (json.item c (json.item d json.no_items)))
  same_bytes : {base64 : List ℕ} → IsSameBasic basic.Bytes (json.string base64) (json.string base64)
  same_text : (text : List ℕ) → IsSameBasic basic.Str (outline (text_json text)) (outline (text_json text))

-- what is shown of some bytes of this content, but that there may be zeros at the end of the digits of a second where
-- they may be a time
pub data IsSameOpaque (c : Content) : Json → Json → Type 0 where
  same : (b : List ℕ) {j : Json} → SaysContent c b j → IsSameOpaque c j j
  trimmed : (b : List ℕ) {text shown : List ℕ} → IsTrue (may_be_time c) → IsTrimmed text shown
      → SaysContent c b (json.string shown) → IsSameOpaque c (json.string text) (json.string shown)

-- ---- maps: their entries as [key,element], which an object has too, by the names of its members

-- the JSON that the name of a member says as a key of this type: a text, as it is said else, or the digits of a whole
-- number
pub data IsKeyNamed (T : Table) (t : TypeId) : List ℕ → Json → Type 0 where
  a_text : {name : List ℕ} → basic_of T t ≡ Some basic.Str → IsKeyNamed T t name (outline (text_json name))
  an_int : {name : List ℕ} → basic_of T t ≡ Some basic.Int → IsKeyNamed T t name (json.number name)
  an_uint : {name : List ℕ} → basic_of T t ≡ Some basic.Uint → IsKeyNamed T t name (json.number name)

-- the entries of these members
pub data AreEntriesOf (T : Table) (t : TypeId) : Members → Items → Type 0 where
  no_entry : AreEntriesOf T t json.no_members json.no_items
  entry : {name : List ℕ} {a b : Json} {ms : Members} {js : Items} → IsKeyNamed T t name a → AreEntriesOf T t ms js
      → AreEntriesOf T t (json.member name b ms)
      (json.item (json.array (json.item a (json.item b json.no_items))) js)

-- the entries of a map whose keys are of this type
pub data HasEntries (T : Table) (t : TypeId) : Json → Items → Type 0 where
  of_array : {js : Items} → HasEntries T t (json.array js) js
  of_object : {ms : Members} {js : Items} → AreEntriesOf T t ms js → HasEntries T t (json.object ms) js

-- the name that a key gives a member: a text, the digits of a whole number, or 0x and the digits of {"hex":..}
abbrev pub name_of : Json → List ℕ
name_of (json.string text) = text
name_of (json.number digits) = digits
name_of (json.object (json.member name (json.string digits) json.no_members)) = codes "0x" ++ digits
name_of _ = []

-- the names that the keys give
abbrev pub names_of : Items → List (List ℕ)
names_of json.no_items = []
names_of (json.item j js) = name_of (said_key j) ∷ names_of js

-- an object, as {"hex":..} is
abbrev pub is_object : Json → Bool
is_object (json.object ms) = true
is_object _ = false

-- no key is {"hex":..}
abbrev pub are_utf8_keys : Items → Bool
are_utf8_keys json.no_items = true
are_utf8_keys (json.item j js) = not (is_object (said_key j)) && are_utf8_keys js

-- there is no entry
abbrev pub are_none : Items → Bool
are_none json.no_items = true
are_none _ = false

-- A map of these entries is an object: its keys are texts or whole numbers, and where one isn't UTF-8 all their names
-- differ; or they are interfaces, and there is no entry.
abbrev pub is_by_name : TypeId → Items → Bool
is_by_name t js = (gives_names t && (are_utf8_keys js || all_differ (names_of js))) || ((t.0 == 8) && are_none js)

-- a member for each entry, named by the key
abbrev pub by_name : Items → Members
by_name json.no_items = json.no_members
by_name (json.item j js) = json.member (name_of (said_key j)) (said_element j) (by_name js)

-- what is printed of a map whose keys are of this type, with these entries
abbrev pub map_json : TypeId → Items → Json
map_json t js = if is_by_name t js then json.object (by_name js) else json.array js

-- ---- zeros

mutual
  -- what is printed of the zero of the type; opaque types have none
  pub data ShowsZero (T : Table) : TypeId → Json → Type 0 where
    of_type : {t : TypeId} {s : Shape} {k : Json} → shape_of T t ≡ Some s → ShowsZeroAs T s.kind k → ShowsZero T t k

  -- of this kind
  pub data ShowsZeroAs (T : Table) : Kind → Json → Type 0 where
    of_bool : ShowsZeroAs T (kind.Basic basic.Bool) (json.boolean false)
    of_int : ShowsZeroAs T (kind.Basic basic.Int) (json.number (codes "0"))
    of_uint : ShowsZeroAs T (kind.Basic basic.Uint) (json.number (codes "0"))
    of_float : {k : Json} → SaysPattern 0 k → ShowsZeroAs T (kind.Basic basic.Float) k
    of_complex : {a b : Json} → SaysPattern 0 a → SaysPattern 0 b
        → ShowsZeroAs T (kind.Basic basic.Complex) (json.array (json.item a (json.item b json.no_items)))
    of_bytes : ShowsZeroAs T (kind.Basic basic.Bytes) (json.string [])
    of_text : ShowsZeroAs T (kind.Basic basic.Str) (json.string [])
    of_interface : ShowsZeroAs T (kind.Basic basic.Interface) json.null
    of_slice : {e : TypeId} → ShowsZeroAs T (kind.Slice e) (json.array json.no_items)
    of_map : {t e : TypeId} → ShowsZeroAs T (kind.Map t e) (map_json t json.no_items)
    of_struct : {types : List Field} → ShowsZeroAs T (kind.Struct types) (json.object json.no_members)
    of_array : {e : TypeId} {n : ℕ} {ks : Items} → ShowZeros T e n ks → ShowsZeroAs T (kind.Array e n) (json.array ks)

  -- so many of them
  pub data ShowZeros (T : Table) : TypeId → ℕ → Items → Type 0 where
    none : {e : TypeId} → ShowZeros T e 0 json.no_items
    one_more : {e : TypeId} {n : ℕ} {k : Json} {ks : Items} → ShowsZero T e k → ShowZeros T e n ks
        → ShowZeros T e (n + 1) (json.item k ks)

-- a number in decimal whose nearest float is 0.0, and not -0.0
abbrev pub SaysZeroFloat : Json → Type 0
SaysZeroFloat j = (text : List ℕ) × (j ≡ json.number text) × (parse_float binary64 text ≡ Some float_zero)

-- the JSON says a zero that a struct leaves out of a field of this kind: that of a basic type, or no elements of a
-- slice
abbrev pub SaysZero : Kind → Json → Type 0
SaysZero (kind.Basic basic.Bool) j = j ≡ json.boolean false
SaysZero (kind.Basic basic.Int) j = j ≡ json.number (codes "0")
SaysZero (kind.Basic basic.Uint) j = j ≡ json.number (codes "0")
SaysZero (kind.Basic basic.Float) j = SaysZeroFloat j
SaysZero (kind.Basic basic.Complex) j = SaysBoth SaysZeroFloat SaysZeroFloat j
SaysZero (kind.Basic basic.Bytes) j = j ≡ json.string []
SaysZero (kind.Basic basic.Str) j = j ≡ json.string []
SaysZero (kind.Slice e) j = j ≡ json.array json.no_items
SaysZero _ j = ⊥

-- ---- structs

-- what members say, each with the number of its field, in the fields' order
abbrev pub Said : Type 0
Said = List (ℕ × Json)

-- a field's number is below that of the first of these
abbrev pub IsBefore : ℕ → Said → Type 0
IsBefore f [] = ⊤
IsBefore f (said ∷ rest) = f < said.0

-- what is said of the field is put in its place among that of this one and greater ones, of which none is it
pub data PutsSaid (f : ℕ) (j : Json) : (least : ℕ) → (said more : Said) → Type 0 where
  here : {least : ℕ} {said : Said} → least ≤ f → IsBefore f said → PutsSaid f j least said ((f, j) ∷ said)
  further : {least g : ℕ} {i : Json} {said more : Said} → PutsSaid f j (g + 1) said more
      → PutsSaid f j least ((g, i) ∷ said) ((g, i) ∷ more)

-- Behind members that say the first of this, these say the others: each what the field of its name is, of which it is
-- the only one, or null, or it may be left out and no field has its name.
pub data TellFields (lenient : Bool) (types : List Field) : Said → Members → Said → Type 0 where
  no_more : {said : Said} → TellFields lenient types said json.no_members said
  null : {number : ℕ} {e : Field} {name : List ℕ} {ms : Members} {said all : Said} → IsNamed types number name e
      → TellFields lenient types said ms all → TellFields lenient types said (json.member name json.null ms) all
  left_out : {name : List ℕ} {j : Json} {ms : Members} {said all : Said} → lenient ≡ true → IsUnknown types name
      → TellFields lenient types said ms all → TellFields lenient types said (json.member name j ms) all
  tells : {number : ℕ} {e : Field} {name : List ℕ} {j : Json} {ms : Members} {said more all : Said}
      → IsNamed types number name e → j ≢ json.null → PutsSaid number j 0 said more
      → TellFields lenient types more ms all → TellFields lenient types said (json.member name j ms) all

-- the field of this number is left out, of which the JSON says a zero
pub record SaysLeftOut (T : Table) (types : List Field) (f : ℕ) (j : Json) : Type 0 where
  pub field : Field
  pub shape : Shape
  pub is_field : slice_get types f ≡ Some field
  pub has : shape_of T field.id ≡ Some shape
  pub zero : SaysZero shape.kind j

-- ---- values

mutual
  -- The second JSON is what is printed of the value of this type that the first one says. Members that no field has may
  -- be left out, or there are none.
  pub data IsAlike (lenient : Bool) (T : Table) : TypeId → Json → Json → Type 0 where
    of_null : {t : TypeId} {k : Json} → ShowsZero T t k → IsAlike lenient T t json.null k
    of_type : {t : TypeId} {s : Shape} {j k : Json} → shape_of T t ≡ Some s → IsAlikeAs lenient T s j k
        → IsAlike lenient T t j k

  -- of a type of this shape
  pub data IsAlikeAs (lenient : Bool) (T : Table) : Shape → Json → Json → Type 0 where
    of_basic : {s : Shape} {b : Basic} {j k : Json} → s.kind ≡ kind.Basic b → IsSameBasic b j k
        → IsAlikeAs lenient T s j k
    of_opaque : {s : Shape} {m : Marshal} {j k : Json} → s.kind ≡ kind.Opaque m
        → IsSameOpaque (content_by s.kind s.name) j k → IsAlikeAs lenient T s j k
    of_slice : {s : Shape} {e : TypeId} {js ks : Items} → s.kind ≡ kind.Slice e → AreAlike lenient T e js ks
        → IsAlikeAs lenient T s (json.array js) (json.array ks)
    of_array : {s : Shape} {e : TypeId} {n : ℕ} {js ks : Items} → s.kind ≡ kind.Array e n
        → FillAlike lenient T e n js ks → IsAlikeAs lenient T s (json.array js) (json.array ks)
    of_map : {s : Shape} {t e : TypeId} {j k : Json} {js ks : Items} → s.kind ≡ kind.Map t e → HasEntries T t j js
        → AreEntriesAlike lenient T t e js ks → k ≡ map_json t ks → IsAlikeAs lenient T s j k
    of_struct : {s : Shape} {types : List Field} {ms ks : Members} {said : Said} → s.kind ≡ kind.Struct types
        → TellFields lenient types [] ms said → AreShown lenient T types said ks
        → IsAlikeAs lenient T s (json.object ms) (json.object ks)

  -- each element, in order
  pub data AreAlike (lenient : Bool) (T : Table) : TypeId → Items → Items → Type 0 where
    no_element : {e : TypeId} → AreAlike lenient T e json.no_items json.no_items
    element : {e : TypeId} {j k : Json} {js ks : Items} → IsAlike lenient T e j k → AreAlike lenient T e js ks
        → AreAlike lenient T e (json.item j js) (json.item k ks)

  -- so many elements: each that is said, and zeros of the type behind them
  pub data FillAlike (lenient : Bool) (T : Table) : TypeId → ℕ → Items → Items → Type 0 where
    zeros : {e : TypeId} {n : ℕ} {ks : Items} → ShowZeros T e n ks → FillAlike lenient T e n json.no_items ks
    said : {e : TypeId} {n : ℕ} {j k : Json} {js ks : Items} → IsAlike lenient T e j k
        → FillAlike lenient T e n js ks → FillAlike lenient T e (n + 1) (json.item j js) (json.item k ks)

  -- each key and element, in order
  pub data AreEntriesAlike (lenient : Bool) (T : Table) : TypeId → TypeId → Items → Items → Type 0 where
    no_entry : {t e : TypeId} → AreEntriesAlike lenient T t e json.no_items json.no_items
    entry : {t e : TypeId} {a b c d : Json} {js ks : Items} → IsAlike lenient T t a c → IsAlike lenient T e b d
        → AreEntriesAlike lenient T t e js ks → AreEntriesAlike lenient T t e
        (json.item (json.array (json.item a (json.item b json.no_items))) js)
        (json.item (json.array (json.item c (json.item d json.no_items))) ks)

  -- a member for each field that is said, named by it, but for those that are left out
  pub data AreShown (lenient : Bool) (T : Table) : List Field → Said → Members → Type 0 where
    no_field : {types : List Field} → AreShown lenient T types [] json.no_members
    left_out : {types : List Field} {f : ℕ} {j : Json} {said : Said} {ks : Members} → SaysLeftOut T types f j
        → AreShown lenient T types said ks → AreShown lenient T types ((f, j) ∷ said) ks
    shown : {types : List Field} {f : ℕ} {e : Field} {j k : Json} {said : Said} {ks : Members}
        → slice_get types f ≡ Some e → ¬ SaysLeftOut T types f j → IsAlike lenient T e.id j k
        → AreShown lenient T types said ks
        → AreShown lenient T types ((f, j) ∷ said) (json.member (name_text e.name) k ks)

-- ---- the law

-- the style that `values` has without a flag
pub record IsPlainStyle (style : Style) : Type 0 where
  pub no_zeros : style.zeros ≡ false
  pub guessed : style.raw ≡ false
  pub none_taken : style.taken.now ≡ []
  pub no_pairs : style.pairs ≡ false

-- What is printed of a value that is read is alike to what it is read from. Every table of a stream has the base table
-- in front.
abbrev pub MadeValuesAreAlike : Type 0
MadeValuesAreAlike = (style : Style) (lenient : Bool) (T : Table) (t : TypeId) (j : Json) (v : Tree) (k : Json)
    → IsPlainStyle style → IsTable T → ReadsPlain lenient T t j v → SaysValue style T t v k → IsAlike lenient T t j k
