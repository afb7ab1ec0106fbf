-- What the line of a definition says, in whatever order its members stand. (docs/FORMAT.md, The JSON lines.)
use Rattle.std.specs.Prelude.{◌≡◌, ⊤, ℕ, List, [], ◌∷◌, Bool, true, false, codes, Option, Some, None}
use Rattle.json.specs.Token.{Token}
use Rattle.serde_json.specs.Data.{Data, string, array, object, Items, no_items, item, Members, no_members, member}
use Rattle.gob_types.specs.declared.id.TypeId.{TypeId}
use Rattle.gob_types.specs.declared.kind.Field.{Field}
use Rattle.gob_types.specs.declared.kind.Kind.{Kind}
use Rattle.gob_types.specs.declared.kind.Kind.TheVariants as kind
use Rattle.gob_types.specs.declared.kind.Shape.{Shape}
use Rattle.gob_json.specs.Json.{pair_json, text_json}
use Rattle.gob_json.specs.DefinitionJson.{marshal_name}
use Rattle.gob_lines.specs.Numbers.{IsNatural, ReadsSome}
use Rattle.gob_lines.specs.Reads.{ReadsMembers}
use Rattle.gob_lines.specs.declared.definition_parts.KindName.{KindName}
use Rattle.gob_lines.specs.declared.definition_parts.KindName.TheVariants as named
use Rattle.gob_lines.specs.declared.definition_parts.Parts.{Parts}

-- what one member behind the id says
pub data Part : Type 0 where
  elem : TypeId → Part
  fields : List Field → Part
  key : TypeId → Part
  kind_name : KindName → Part
  len : ℕ → Part
  name : List ℕ → Part

-- the key of the member
abbrev pub part_key : Part → List ℕ
part_key (Part.elem e) = codes "elem"
part_key (Part.fields fs) = codes "fields"
part_key (Part.key k) = codes "key"
part_key (Part.kind_name w) = codes "kind"
part_key (Part.len n) = codes "len"
part_key (Part.name n) = codes "name"

-- the word of a kind: that of an opaque type is its way of marshalling
abbrev pub kind_word : KindName → List ℕ
kind_word named.Array = codes "array"
kind_word named.Slice = codes "slice"
kind_word named.Struct = codes "struct"
kind_word named.Map = codes "map"
kind_word (named.Opaque m) = marshal_name m

-- the items of an array of fields: [name,type] for each, in order
pub data AreFieldsJson : List Field → Items → Type 0 where
  no_field : AreFieldsJson [] no_items
  one_field : {f : Field} {fs : List Field} {j : Data} {js : Items} → IsNatural f.id.0 j → AreFieldsJson fs js
      → AreFieldsJson (f ∷ fs) (item (pair_json (text_json f.name) j) js)

-- the array
pub data IsFieldsJson (fs : List Field) : Data → Type 0 where
  fields_array : {js : Items} → AreFieldsJson fs js → IsFieldsJson fs (array js)

-- the value of the member
abbrev pub IsPartJson : Part → Data → Type 0
IsPartJson (Part.elem e) j = IsNatural e.0 j
IsPartJson (Part.fields fs) j = IsFieldsJson fs j
IsPartJson (Part.key k) j = IsNatural k.0 j
IsPartJson (Part.kind_name w) j = j ≡ string (kind_word w)
IsPartJson (Part.len n) j = IsNatural n j
IsPartJson (Part.name n) j = j ≡ text_json n

-- none of these is it
abbrev pub IsNewPart : Part → Parts → Type 0
IsNewPart (Part.elem e) p = p.elem ≡ None
IsNewPart (Part.fields fs) p = p.fields ≡ None
IsNewPart (Part.key k) p = p.key ≡ None
IsNewPart (Part.kind_name w) p = p.kind ≡ None
IsNewPart (Part.len n) p = p.len ≡ None
IsNewPart (Part.name n) p = p.name ≡ None

-- these, with it
abbrev pub with_part : Part → Parts → Parts
with_part (Part.elem e) p =
    record { elem = Some e; fields = p.fields; key = p.key; kind = p.kind; len = p.len; name = p.name }
with_part (Part.fields fs) p =
    record { elem = p.elem; fields = Some fs; key = p.key; kind = p.kind; len = p.len; name = p.name }
with_part (Part.key k) p =
    record { elem = p.elem; fields = p.fields; key = Some k; kind = p.kind; len = p.len; name = p.name }
with_part (Part.kind_name w) p =
    record { elem = p.elem; fields = p.fields; key = p.key; kind = Some w; len = p.len; name = p.name }
with_part (Part.len n) p =
    record { elem = p.elem; fields = p.fields; key = p.key; kind = p.kind; len = Some n; name = p.name }
with_part (Part.name n) p =
    record { elem = p.elem; fields = p.fields; key = p.key; kind = p.kind; len = p.len; name = Some n }

-- behind members that say the first parts these say the others, each of them once
pub data SaysParts : Parts → Members → Parts → Type 0 where
  no_more : {p : Parts} → SaysParts p no_members p
  one_more : {p q : Parts} {j : Data} {ms : Members} (part : Part) → IsNewPart part p → IsPartJson part j
      → SaysParts (with_part part p) ms q → SaysParts p (member (part_key part) j ms) q

abbrev pub no_part : Parts
no_part = record { elem = None; fields = None; key = None; kind = None; len = None; name = None }

-- what the members of a shape's definition say together; no definition gives a basic type
abbrev pub shape_parts : Kind → List ℕ → Parts
shape_parts (kind.Array e count) text =
    record { elem = Some e; fields = None; key = None; kind = Some named.Array; len = Some count; name = Some text }
shape_parts (kind.Slice e) text =
    record { elem = Some e; fields = None; key = None; kind = Some named.Slice; len = None; name = Some text }
shape_parts (kind.Struct fs) text =
    record { elem = None; fields = Some fs; key = None; kind = Some named.Struct; len = None; name = Some text }
shape_parts (kind.Map k e) text =
    record { elem = Some e; fields = None; key = Some k; kind = Some named.Map; len = None; name = Some text }
shape_parts (kind.Opaque m) text =
    record { elem = None; fields = None; key = None; kind = Some (named.Opaque m); len = None; name = Some text }
shape_parts (kind.Basic b) text = no_part

-- no part is there that types of this kind haven't
abbrev pub HasNoOther : KindName → Parts → Type 0
HasNoOther named.Array p = (p.fields ≡ None) × (p.key ≡ None)
HasNoOther named.Slice p = (p.fields ≡ None) × (p.key ≡ None) × (p.len ≡ None)
HasNoOther named.Struct p = (p.elem ≡ None) × (p.key ≡ None) × (p.len ≡ None)
HasNoOther named.Map p = (p.fields ≡ None) × (p.len ≡ None)
HasNoOther (named.Opaque m) p = (p.elem ≡ None) × (p.fields ≡ None) × (p.key ≡ None) × (p.len ≡ None)

-- whether types of this kind have elements
abbrev pub has_elem : KindName → Bool
has_elem named.Array = true
has_elem named.Slice = true
has_elem named.Struct = false
has_elem named.Map = true
has_elem (named.Opaque m) = false

-- a key or the end of the object is next
abbrev pub IsMemberOrEnd : List Token → Type 0
IsMemberOrEnd (Token.key k ∷ ts) = ⊤
IsMemberOrEnd (Token.end_object ∷ ts) = ⊤
IsMemberOrEnd ts = ⊥

-- the JSON of a definition of this shape
pub record IsDefinitionJson (id : TypeId) (s : Shape) (d : Data) : Type 0 where
  pub number : Data
  pub members : Members
  pub numbered : IsNatural id.0 number
  pub says : SaysParts no_part members (shape_parts s.kind s.name)
  pub is : d ≡ object (member (codes "define") number members)

-- the first of the old tokens are those of such members, with the end of their object
pub record ReadsParts (p q : Parts) (old new : List Token) : Type 0 where
  pub members : Members
  pub says : SaysParts p members q
  pub reads : ReadsMembers members old new

-- of one member, behind its key
pub record ReadsPart (p : Parts) (key : List ℕ) (q : Parts) (old new : List Token) : Type 0 where
  pub part : Part
  pub named : part_key part ≡ key
  pub fresh : IsNewPart part p
  pub adds : q ≡ with_part part p
  pub reads : ReadsSome (IsPartJson part) old new

-- of those that say a shape
abbrev pub ReadsShape : Shape → (old new : List Token) → Type 0
ReadsShape s old new = ReadsParts no_part (shape_parts s.kind s.name) old new
