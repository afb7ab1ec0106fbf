-- A value with the zeros that Go's encoder leaves out: in each struct of it, what the tidy form drops is put back.
-- (Go's encoding/gob documentation, Encoding Details, on omitted zero values; docs/FORMAT.md, Tidy form; Plain values.)
use Rattle.std.specs.Prelude.{◌≡◌, ℕ, zero, suc, pos, ◌+◌, ◌-◌, min, true, false, List, [], length, Option, Some, None}
use Rattle.std.specs.Prelude.{slice_get, if◌then◌else◌}
use Rattle.json.specs.Json.{Json}
use Rattle.gob_types.specs.declared.basic.Basic.TheVariants as basic
use Rattle.gob_types.specs.declared.id.TypeId.{TypeId}
use Rattle.gob_types.specs.declared.kind.Field.{Field}
use Rattle.gob_types.specs.declared.kind.Kind.{Kind}
use Rattle.gob_types.specs.declared.kind.Kind.TheVariants as kind
use Rattle.gob_types.specs.declared.kind.Shape.{Shape}
use Rattle.gob_types.specs.Table.{Table, shape_of}
use Rattle.gob_value.specs.Tree.{Tree, Trees, no_tree, tree, Pairs, no_pair, pair, Fields, no_field, field}
use Rattle.gob_value.specs.Tree as Value
use Rattle.gob_json.specs.Json.{element_type, key_type, struct_fields, field_type}
use Rattle.gob_plain.specs.declared.style.Style.{Style}
use Rattle.gob_plain.specs.OpaqueText.{content_in}
use Rattle.gob_plain.specs.Plain.{all_null, are_named, nils, nils_of_each, nils_of_members, nils_of_pairs}
use Rattle.gob_plain.specs.Plain.{nils_of_fields}
use Rattle.gob_plain.specs.Plain.{SaysWith, SaysElementsWith, SaysMembersWith, SaysPairsWith, SaysMapWith}
use Rattle.gob_plain.specs.Plain.{SaysTextsWith, SaysStructWith}

-- the zero that a struct drops from a field of this kind: that of a basic type, or a slice without elements
abbrev pub zero_by : Kind → Option Tree
zero_by (kind.Basic basic.Bool) = Some (Value.bool false)
zero_by (kind.Basic basic.Int) = Some (Value.int (pos 0))
zero_by (kind.Basic basic.Uint) = Some (Value.uint 0)
zero_by (kind.Basic basic.Float) = Some (Value.float 0)
zero_by (kind.Basic basic.Complex) = Some (Value.complex 0 0)
zero_by (kind.Basic basic.Bytes) = Some (Value.bytes [])
zero_by (kind.Basic basic.Str) = Some (Value.text [])
zero_by (kind.Basic basic.Interface) = None
zero_by (kind.Slice e) = Some (Value.many no_tree)
zero_by _ = None

abbrev pub zero_of : Option Shape → Option Tree
zero_of None = None
zero_of (Some s) = zero_by s.kind

abbrev pub zero_at : Table → Option Field → Option Tree
zero_at T None = None
zero_at T (Some e) = zero_of (shape_of T e.id)

-- a field of this number and value, where there is one, before these fields
abbrev pub put_before : ℕ → Option Tree → Fields → Fields
put_before f None fs = fs
put_before f (Some v) fs = field f v fs

-- the zeros of the n fields from this number on, before these fields
abbrev pub zeros_before : Table → List Field → ℕ → ℕ → Fields → Fields
zeros_before T types f zero fs = fs
zeros_before T types f (suc n) fs =
    put_before f (zero_at T (slice_get types f)) (zeros_before T types (f + 1) n fs)

-- how many numbers of the struct's fields lie from one number on and before another
abbrev pub between : List Field → ℕ → ℕ → ℕ
between types from to = min to (length types) - from

abbrev mutual
  pub filled : Table → TypeId → Tree → Tree
  filled T t (Value.many vs) = Value.many (all_filled T (element_type (shape_of T t)) vs)
  filled T t (Value.pairs ps) =
      Value.pairs (pairs_filled T (key_type (shape_of T t)) (element_type (shape_of T t)) ps)
  filled T t (Value.fields fs) = Value.fields (fields_filled T (struct_fields (shape_of T t)) 0 fs)
  filled T t v = v

  pub all_filled : Table → TypeId → Trees → Trees
  all_filled T e no_tree = no_tree
  all_filled T e (tree v vs) = tree (filled T e v) (all_filled T e vs)

  pub pairs_filled : Table → TypeId → TypeId → Pairs → Pairs
  pairs_filled T k e no_pair = no_pair
  pairs_filled T k e (pair x v ps) = pair (filled T k x) (filled T e v) (pairs_filled T k e ps)

  -- the fields from this number on
  pub fields_filled : Table → List Field → ℕ → Fields → Fields
  fields_filled T types from no_field = zeros_before T types from (between types from (length types)) no_field
  fields_filled T types from (field f v fs) = zeros_before T types from (between types from f)
      (field f (filled T (field_type (slice_get types f)) v) (fields_filled T types (f + 1) fs))

-- ---- in a style

-- the value that is written in this style, and its parts
abbrev pub shown : Style → Table → TypeId → Tree → Tree
shown style T t v = if style.zeros then filled T t v else v

abbrev pub shown_all : Style → Table → TypeId → Trees → Trees
shown_all style T e vs = if style.zeros then all_filled T e vs else vs

abbrev pub shown_pairs : Style → Table → TypeId → TypeId → Pairs → Pairs
shown_pairs style T k e ps = if style.zeros then pairs_filled T k e ps else ps

abbrev pub shown_fields : Style → Table → List Field → ℕ → Fields → Fields
shown_fields style T types from fs = if style.zeros then fields_filled T types from fs else fs

-- how many nils the value has that is written in this style, or a part of it
abbrev pub nils_in : Style → Table → TypeId → Tree → ℕ
nils_in style T t v = nils T t (shown style T t v)

abbrev pub nils_of_each_in : Style → Table → TypeId → Trees → ℕ
nils_of_each_in style T e vs = nils_of_each T e (shown_all style T e vs)

abbrev pub nils_of_members_in : Style → Table → TypeId → TypeId → Pairs → ℕ
nils_of_members_in style T k e ps = nils_of_members T e (shown_pairs style T k e ps)

abbrev pub nils_of_pairs_in : Style → Table → TypeId → TypeId → Pairs → ℕ
nils_of_pairs_in style T k e ps = nils_of_pairs T k e (shown_pairs style T k e ps)

abbrev pub nils_of_map_in : Style → Table → TypeId → TypeId → Pairs → ℕ
nils_of_map_in style T k e ps =
    if are_named k ps then nils_of_members_in style T k e ps else nils_of_pairs_in style T k e ps

abbrev pub nils_of_fields_in : Style → Table → List Field → ℕ → Fields → ℕ
nils_of_fields_in style T types from fs = nils_of_fields T types (shown_fields style T types from fs)

-- the JSON says the value, whose nils say this, in this style
abbrev pub SaysInWith : (ℕ → Json → Type 0) → Style → Table → TypeId → Tree → Json → Type 0
SaysInWith N style T t v j = SaysWith N (content_in style) T t (shown style T t v) j

-- the same with null for each nil
abbrev pub SaysIn : Style → Table → TypeId → Tree → Json → Type 0
SaysIn style T t v j = SaysInWith all_null style T t v j

-- what is said of the parts of a value in this style
abbrev pub SaysElementsIn : (ℕ → Json → Type 0) → Style → Table → TypeId → Trees → Json → Type 0
SaysElementsIn N style T e vs j = SaysElementsWith N (content_in style) T e (shown_all style T e vs) j

abbrev pub SaysMembersIn : (ℕ → Json → Type 0) → Style → Table → TypeId → TypeId → Pairs → Json → Type 0
SaysMembersIn N style T k e ps j = SaysMembersWith N (content_in style) T e (shown_pairs style T k e ps) j

abbrev pub SaysPairsIn : (ℕ → Json → Type 0) → Style → Table → TypeId → TypeId → Pairs → Json → Type 0
SaysPairsIn N style T k e ps j = SaysPairsWith N (content_in style) T k e (shown_pairs style T k e ps) j

abbrev pub SaysTextsIn : (ℕ → Json → Type 0) → Style → Table → TypeId → TypeId → Pairs → Json → Type 0
SaysTextsIn N style T k e ps j = SaysTextsWith N (content_in style) T k e (shown_pairs style T k e ps) j

abbrev pub SaysMapIn : (ℕ → Json → Type 0) → Style → Table → TypeId → TypeId → Pairs → Json → Type 0
SaysMapIn N style T k e ps j = SaysMapWith N (content_in style) T k e (shown_pairs style T k e ps) j

abbrev pub SaysStructIn : (ℕ → Json → Type 0) → Style → Table → List Field → Fields → Json → Type 0
SaysStructIn N style T types fs j = SaysStructWith N (content_in style) T types (shown_fields style T types 0 fs) j

-- ---- a value, and no part of one

-- the pairs of a map that are an array in this style, whatever its keys are
abbrev pub pairs_of : Tree → Option Pairs
pairs_of (Value.pairs ps) = Some ps
pairs_of v = None

abbrev pub listed_pairs : Style → Tree → Option Pairs
listed_pairs style v = if style.pairs then pairs_of v else None

-- it is such a map
abbrev pub IsListed : Style → Tree → Type 0
IsListed style v = (ps : Pairs) × (v ≡ Value.pairs ps) × (style.pairs ≡ true)

-- how many nils the value has then, and what the JSON says of it
abbrev pub nils_listed : Option Pairs → Style → Table → TypeId → Tree → ℕ
nils_listed None style T t v = nils_in style T t v
nils_listed (Some ps) style T t v =
    nils_of_pairs_in style T (key_type (shape_of T t)) (element_type (shape_of T t)) ps

abbrev pub SaysListed : Option Pairs → (ℕ → Json → Type 0) → Style → Table → TypeId → Tree → Json → Type 0
SaysListed None N style T t v j = SaysInWith N style T t v j
SaysListed (Some ps) N style T t v j =
    SaysPairsIn N style T (key_type (shape_of T t)) (element_type (shape_of T t)) ps j

abbrev pub nils_of_value : Style → Table → TypeId → Tree → ℕ
nils_of_value style T t v = nils_listed (listed_pairs style v) style T t v

abbrev pub SaysValueWith : (ℕ → Json → Type 0) → Style → Table → TypeId → Tree → Json → Type 0
SaysValueWith N style T t v j = SaysListed (listed_pairs style v) N style T t v j

abbrev pub SaysValue : Style → Table → TypeId → Tree → Json → Type 0
SaysValue style T t v j = SaysValueWith all_null style T t v j

-- the style of what a value holds
abbrev pub within : Style → Style
within style = record { zeros = style.zeros; raw = style.raw; taken = style.taken; pairs = false }
