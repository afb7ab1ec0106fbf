-- The JSON that says a value plainly, for programs that know nothing of gob: a struct is an object by the names of its
-- present fields, a map whose keys are texts or whole numbers an object, a float a number. The parts' types are told as
-- in the lines of a stream (gob_json's Json). Which digits a float's number has is left open: it reads back as the
-- float. A nil says null, or what fills it. (docs/FORMAT.md, Plain values: this project's own.)
use Rattle.std.specs.Prelude.{◌≡◌, ℕ, ◌+◌, List, [], ◌∷◌, ◌++◌, Bool, true, false, not, ◌==◌, ◌&&◌, ◌||◌, codes}
use Rattle.std.specs.Prelude.{if◌then◌else◌, Option, Some, None, unwrap_or, slice_get, from_bits, ⊤}
use Rattle.std.specs.List.{list_any}
use Rattle.std.specs.Fmt.{decimal, signed_decimal}
use Rattle.std.specs.Float.Ieee.{Float, binary64, nan, inf, fin}
use Rattle.std.specs.Str.{bytes_eq, is_utf8}
use Rattle.ryu.specs.Parse.{parse_float}
use Rattle.ryu.specs.Plain.{IsPlainNumber}
use Rattle.hex.specs.Hex.{encode_lower}
use Rattle.json.specs.Json.{Json, Items, Members}
use Rattle.json.specs.Json as json
use Rattle.serde_json.specs.Written.{outline}
use Rattle.gob_types.specs.declared.id.TypeId.{TypeId}
use Rattle.gob_types.specs.declared.kind.Field.{Field}
use Rattle.gob_types.specs.Table.{Table, shape_of}
use Rattle.gob_value.specs.Tree.{Tree, Trees, no_tree, tree, Pairs, no_pair, pair, Fields, no_field, field}
use Rattle.gob_value.specs.Tree as Value
use Rattle.gob_plain.specs.OpaqueText.{SaysBytes, SaysOpaque, Takes}
use Rattle.gob_json.specs.Json.{value_json, element_type, key_type, struct_fields, field_name, field_type}

-- ---- floats

-- a number in decimal that reads back as the float; JSON has none for a float that isn't finite, which is named
abbrev pub SaysFloat : Float → Json → Type 0
SaysFloat nan j = j ≡ json.string (codes "NaN")
SaysFloat (inf true) j = j ≡ json.string (codes "-Infinity")
SaysFloat (inf false) j = j ≡ json.string (codes "Infinity")
SaysFloat (fin s m e) j = (text : List ℕ) × (j ≡ json.number text) × IsPlainNumber text
    × (parse_float binary64 text ≡ Some (fin s m e))

-- the float of these 64 bits
abbrev pub SaysPattern : ℕ → Json → Type 0
SaysPattern p j = SaysFloat (from_bits binary64 p) j

-- [a,b]
abbrev pub SaysBoth : (Json → Type 0) → (Json → Type 0) → Json → Type 0
SaysBoth P Q j = (a : Json) × (b : Json) × (j ≡ json.array (json.item a (json.item b json.no_items))) × P a × Q b

-- ---- names

-- a name as it is where it is UTF-8, else 0x and its bytes in hexadecimal
abbrev pub name_text : List ℕ → List ℕ
name_text b = if is_utf8 b then b else (codes "0x" ++ encode_lower b)

-- the name that a key of a map gives a member: a text, or a whole number in decimal
abbrev pub key_text : Tree → List ℕ
key_text (Value.text b) = name_text b
key_text (Value.int i) = signed_decimal i
key_text (Value.uint n) = decimal n
key_text _ = []

-- the keys of this type are texts or whole numbers: string, int or uint
abbrev pub gives_names : TypeId → Bool
gives_names k = (k.0 == 6) || ((k.0 == 2) || (k.0 == 3))

-- no two of these texts are one
abbrev pub all_differ : List (List ℕ) → Bool
all_differ [] = true
all_differ (x ∷ xs) = not (list_any (λ y. bytes_eq x y) xs) && all_differ xs

-- ---- maps that are objects

-- the bytes of a text, and none of any other value
abbrev pub text_bytes : Tree → List ℕ
text_bytes (Value.text b) = b
text_bytes _ = []

-- every key that is a text is UTF-8
abbrev pub are_utf8 : Pairs → Bool
are_utf8 no_pair = true
are_utf8 (pair x v ps) = is_utf8 (text_bytes x) && are_utf8 ps

-- the names that the keys give
abbrev pub key_names : Pairs → List (List ℕ)
key_names no_pair = []
key_names (pair x v ps) = key_text x ∷ key_names ps

-- The keys of this type give names to members. Where one isn't UTF-8 its name may be that of another key: no two have
-- one name then.
abbrev pub are_named : TypeId → Pairs → Bool
are_named k ps = gives_names k && (are_utf8 ps || all_differ (key_names ps))

abbrev pub is_nil : Tree → Bool
is_nil Value.nil = true
is_nil _ = false

abbrev pub has_parts : Tree → Bool
has_parts (Value.many vs) = true
has_parts (Value.pairs ps) = true
has_parts (Value.fields fs) = true
has_parts _ = false

-- each key is nil, and no element has parts
abbrev pub are_bare : Pairs → Bool
are_bare no_pair = true
are_bare (pair x v ps) = is_nil x && (not (has_parts v) && are_bare ps)

-- The keys of this type are interfaces, and no element has parts: texts that fill the keys may give names to members.
abbrev pub may_be_named : TypeId → Pairs → Bool
may_be_named k ps = (k.0 == 8) && are_bare ps

-- the text that this JSON is
abbrev pub said_text : Json → Option (List ℕ)
said_text (json.string s) = Some s
said_text _ = None

-- the key and the element of [key,element]
abbrev pub first_item : Items → Json
first_item json.no_items = json.null
first_item (json.item j js) = j

abbrev pub second_item : Items → Json
second_item json.no_items = json.null
second_item (json.item j js) = first_item js

abbrev pub said_key : Json → Json
said_key (json.array js) = first_item js
said_key _ = json.null

abbrev pub said_element : Json → Json
said_element (json.array js) = second_item js
said_element _ = json.null

-- the texts that the keys of these [key,element] are, where each is one
abbrev pub text_before : Option (List ℕ) → Option (List (List ℕ)) → Option (List (List ℕ))
text_before (Some s) (Some texts) = Some (s ∷ texts)
text_before (Some s) None = None
text_before None texts = None

abbrev pub key_texts : Items → Option (List (List ℕ))
key_texts json.no_items = Some []
key_texts (json.item j js) = text_before (said_text (said_key j)) (key_texts js)

abbrev pub differ : Option (List (List ℕ)) → Bool
differ None = false
differ (Some texts) = all_differ texts

-- a member for each of these [key,element], named by the key
abbrev pub members_of : Items → Members
members_of json.no_items = json.no_members
members_of (json.item j js) =
    json.member (unwrap_or (said_text (said_key j)) []) (said_element j) (members_of js)

-- these [key,element]: an object, where their keys may give names and are texts of which no two are one, else an array
abbrev pub entries_json : Bool → Items → Json
entries_json named js = if named && differ (key_texts js) then json.object (members_of js) else json.array js

-- ---- nils

-- What nils say is told by the order in which they stand: of the one with so many others before it this JSON is said.

-- each says null
abbrev pub all_null : ℕ → Json → Type 0
all_null k j = j ≡ json.null

-- what the nils behind the first m say
abbrev pub behind : ℕ → (ℕ → Json → Type 0) → ℕ → Json → Type 0
behind m N k j = N (m + k) j

abbrev mutual
  -- how many nils a value of this type has; none in keys that give names of their own
  pub nils : Table → TypeId → Tree → ℕ
  nils T t Value.nil = 1
  nils T t (Value.many vs) = nils_of_each T (element_type (shape_of T t)) vs
  nils T t (Value.pairs ps) =
      if are_named (key_type (shape_of T t)) ps then nils_of_members T (element_type (shape_of T t)) ps
      else nils_of_pairs T (key_type (shape_of T t)) (element_type (shape_of T t)) ps
  nils T t (Value.fields fs) = nils_of_fields T (struct_fields (shape_of T t)) fs
  nils T t v = 0

  pub nils_of_each : Table → TypeId → Trees → ℕ
  nils_of_each T e no_tree = 0
  nils_of_each T e (tree v vs) = nils T e v + nils_of_each T e vs

  pub nils_of_members : Table → TypeId → Pairs → ℕ
  nils_of_members T e no_pair = 0
  nils_of_members T e (pair x v ps) = nils T e v + nils_of_members T e ps

  pub nils_of_pairs : Table → TypeId → TypeId → Pairs → ℕ
  nils_of_pairs T k e no_pair = 0
  nils_of_pairs T k e (pair x v ps) = nils T k x + (nils T e v + nils_of_pairs T k e ps)

  pub nils_of_fields : Table → List Field → Fields → ℕ
  nils_of_fields T types no_field = 0
  nils_of_fields T types (field f v fs) =
      nils T (field_type (slice_get types f)) v + nils_of_fields T types fs

-- ---- values

-- an array of items, or an object of members, of which this holds
abbrev pub IsArrayOf : (Items → Type 0) → Json → Type 0
IsArrayOf P j = (js : Items) × (j ≡ json.array js) × P js

abbrev pub IsObjectOf : (Members → Type 0) → Json → Type 0
IsObjectOf P j = (ms : Members) × (j ≡ json.object ms) × P ms

-- [key,element] for each entry, as an array or an object
abbrev pub IsEntriesOf : Bool → (Items → Type 0) → Json → Type 0
IsEntriesOf named Q j = (js : Items) × (j ≡ entries_json named js) × Q js

-- the entries of a map: an object where its keys are named, or where texts that fill them name them, else an array
abbrev pub IsMapOf : (named held : Bool) → (Members → Type 0) → (Items → Type 0) → Json → Type 0
IsMapOf true held P Q j = IsObjectOf P j
IsMapOf false held P Q j = IsEntriesOf held Q j

abbrev mutual
  -- the JSON says the value as one of this type, whose nils say this, and opaque values what they are taken
  -- for
  pub SaysWith : (ℕ → Json → Type 0) → Takes → Table → TypeId → Tree → Json → Type 0
  SaysWith N how T t (Value.float p) j = SaysPattern p j
  SaysWith N how T t (Value.complex p q) j = SaysBoth (SaysPattern p) (SaysPattern q) j
  SaysWith N how T t (Value.bytes b) j = SaysBytes b j
  SaysWith N how T t (Value.opaque b) j = SaysOpaque how t (shape_of T t) b j
  SaysWith N how T t Value.nil j = N 0 j
  SaysWith N how T t (Value.many vs) j = IsArrayOf (λ js. SayEachWith N how T (element_type (shape_of T t)) vs js) j
  SaysWith N how T t (Value.pairs ps) j =
      IsMapOf (are_named (key_type (shape_of T t)) ps) (may_be_named (key_type (shape_of T t)) ps)
      (λ ms. SayMembersWith N how T (element_type (shape_of T t)) ps ms)
      (λ js. SayPairsWith N how T (key_type (shape_of T t)) (element_type (shape_of T t)) ps js) j
  SaysWith N how T t (Value.fields fs) j =
      IsObjectOf (λ ms. SayFieldsWith N how T (struct_fields (shape_of T t)) fs ms) j
  -- all other values stand as they do in the lines of a stream
  SaysWith N how T t v j = j ≡ outline (value_json T t v)

  -- each element, in order
  pub SayEachWith : (ℕ → Json → Type 0) → Takes → Table → TypeId → Trees → Items → Type 0
  SayEachWith N how T e no_tree json.no_items = ⊤
  SayEachWith N how T e (tree v vs) (json.item j js) =
      SaysWith N how T e v j × SayEachWith (behind (nils T e v) N) how T e vs js
  SayEachWith N how T e _ _ = ⊥

  -- a member for each entry, named by its key, in order; a repeated key is kept
  pub SayMembersWith : (ℕ → Json → Type 0) → Takes → Table → TypeId → Pairs → Members → Type 0
  SayMembersWith N how T e no_pair json.no_members = ⊤
  SayMembersWith N how T e (pair x v ps) (json.member name j ms) = (name ≡ key_text x) × SaysWith N how T e v j
      × SayMembersWith (behind (nils T e v) N) how T e ps ms
  SayMembersWith N how T e _ _ = ⊥

  -- [key,element] for each entry, in order
  pub SayPairsWith : (ℕ → Json → Type 0) → Takes → Table → TypeId → TypeId → Pairs → Items → Type 0
  SayPairsWith N how T k e no_pair json.no_items = ⊤
  SayPairsWith N how T k e (pair x v ps) (json.item j js) =
      SaysBoth (λ a. SaysWith N how T k x a) (λ b. SaysWith (behind (nils T k x) N) how T e v b) j
      × SayPairsWith (behind (nils T e v) (behind (nils T k x) N)) how T k e ps js
  SayPairsWith N how T k e _ _ = ⊥

  -- a member for each field that is present, in order
  pub SayFieldsWith : (ℕ → Json → Type 0) → Takes → Table → List Field → Fields → Members → Type 0
  SayFieldsWith N how T types no_field json.no_members = ⊤
  SayFieldsWith N how T types (field f v fs) (json.member name j ms) =
      (name ≡ name_text (field_name (slice_get types f)))
      × SaysWith N how T (field_type (slice_get types f)) v j
      × SayFieldsWith (behind (nils T (field_type (slice_get types f)) v) N) how T types fs ms
  SayFieldsWith N how T types _ _ = ⊥

-- the JSON says the value as one of this type, and null for each nil
abbrev pub Says : Takes → Table → TypeId → Tree → Json → Type 0
Says how T t v j = SaysWith all_null how T t v j

abbrev pub SayEach : Takes → Table → TypeId → Trees → Items → Type 0
SayEach how T e vs js = SayEachWith all_null how T e vs js

abbrev pub SayMembers : Takes → Table → TypeId → Pairs → Members → Type 0
SayMembers how T e ps ms = SayMembersWith all_null how T e ps ms

abbrev pub SayPairs : Takes → Table → TypeId → TypeId → Pairs → Items → Type 0
SayPairs how T k e ps js = SayPairsWith all_null how T k e ps js

abbrev pub SayFields : Takes → Table → List Field → Fields → Members → Type 0
SayFields how T types fs ms = SayFieldsWith all_null how T types fs ms

-- ---- the same by the parts of a value

abbrev pub SaysElementsWith : (ℕ → Json → Type 0) → Takes → Table → TypeId → Trees → Json → Type 0
SaysElementsWith N how T e vs j = IsArrayOf (λ js. SayEachWith N how T e vs js) j

abbrev pub SaysMembersWith : (ℕ → Json → Type 0) → Takes → Table → TypeId → Pairs → Json → Type 0
SaysMembersWith N how T e ps j = IsObjectOf (λ ms. SayMembersWith N how T e ps ms) j

abbrev pub SaysPairsWith : (ℕ → Json → Type 0) → Takes → Table → TypeId → TypeId → Pairs → Json → Type 0
SaysPairsWith N how T k e ps j = IsArrayOf (λ js. SayPairsWith N how T k e ps js) j

-- an object of the entries, named by the texts that fill their keys
abbrev pub SaysTextsWith : (ℕ → Json → Type 0) → Takes → Table → TypeId → TypeId → Pairs → Json → Type 0
SaysTextsWith N how T k e ps j = (js : Items) × (j ≡ json.object (members_of js)) × SayPairsWith N how T k e ps js

abbrev pub SaysMapWith : (ℕ → Json → Type 0) → Takes → Table → TypeId → TypeId → Pairs → Json → Type 0
SaysMapWith N how T k e ps j = IsMapOf (are_named k ps) (may_be_named k ps) (λ ms. SayMembersWith N how T e ps ms)
    (λ js. SayPairsWith N how T k e ps js) j

abbrev pub SaysStructWith : (ℕ → Json → Type 0) → Takes → Table → List Field → Fields → Json → Type 0
SaysStructWith N how T types fs j = IsObjectOf (λ ms. SayFieldsWith N how T types fs ms) j
