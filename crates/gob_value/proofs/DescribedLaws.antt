-- The description that is made of a shape describes it, and is a value of wireType.
use Rattle.std.proofs.Common.{◌≡◌, ℕ, suc, pos, ◌+◌, ◌-◌, ◌^◌, ◌<◌, ◌≤◌, Bool, true, false, List, [], ◌∷◌, ◌++◌, length}
use Rattle.std.proofs.Common.{Some, inl, inr, Result, Ok, Err, subst, arith, refl, sym, ap, ◌∙◌, eqb}
use Rattle.std.specs.Prelude.{slice_get, OnOk, IfOk}
use Rattle.std.proofs.lemmas.Bool.{eqb-true}
use Rattle.std.proofs.lemmas.Int.{ints}
use Rattle.gob_num.proofs.PublicLaws.{unsigned_spelled, signed_spelled}
use Rattle.gob_types.specs.declared.id.TypeId.{TypeId}
use Rattle.gob_types.specs.declared.kind.Field.{Field}
use Rattle.gob_types.specs.declared.kind.Marshal.{Marshal}
use Rattle.gob_types.specs.declared.kind.Marshal.TheVariants as marshal
use Rattle.gob_types.specs.declared.kind.Kind.{Kind}
use Rattle.gob_types.specs.declared.kind.Kind.TheVariants as kind
use Rattle.gob_types.specs.declared.kind.Shape.{Shape}
use Rattle.gob_types.specs.Base.{base_table, wire_type, wire_type_fields, id}
use Rattle.gob_types.specs.Base as base
use Rattle.gob_types.specs.Definable.{IsReference, IsDefinable, HasLength, greatest_length}
use Rattle.gob_types.specs.Ready.{Names, HasFieldOf}
use Rattle.gob_types.specs.Table.{shape_of}
use Rattle.gob_value.specs.Tree.{Tree, Fields, no_field, field, tree_count, trees_depth, fields_depth}
use Rattle.gob_value.specs.View.{view}
use Rattle.gob_value.specs.declared.value.Value.{Value}
use Rattle.gob_value.specs.Spelling.{of_type, of_int, of_text, of_slice, of_struct, no_element, element, end_of_fields}
use Rattle.gob_value.specs.Spelling.{next_field, SpellsEach, SpellsFields}
use Rattle.gob_value.specs.Within.{FitsWithin, IsSpelledWithin}
use Rattle.gob_value.specs.Description.{said, present_field, number_in, name_in, elements_in, said_fields, Said}
use Rattle.gob_value.specs.Description.{SaidKind}
use Rattle.gob_value.specs.Description.{said_array, said_slice, said_struct, said_map, said_opaque, RefersTo}
use Rattle.gob_value.specs.Description.{GivesFields, no_more, and_field, gives_array, gives_slice, gives_struct}
use Rattle.gob_value.specs.Description.{gives_map, gives_opaque, Describes}
use Rattle.gob_value.specs.Described.{described, described_kind, name_and_id, field_types, field_list, array_length}
use Rattle.gob_value.specs.Described.{wire_type_of}
use Rattle.gob_value.specs.DescriptionLaws.{IsCountedName, AreCounted, HasCountedFields, IsCountable}

-- ---- what it says

named : (name : List ℕ) (t : TypeId) → name_in (present_field 0 (name_and_id name t)) ≡ name
named [] t = refl
named (b ∷ bs) t = refl

numbered : (name : List ℕ) (t : TypeId) → number_in (present_field 1 (name_and_id name t)) ≡ pos t.0
numbered [] t = refl
numbered (b ∷ bs) t = refl

long : (n : ℕ) → number_in (present_field 2 (array_length n)) ≡ pos n
long n = by (eqb n 0) refl
  where
    by : (b : Bool) → eqb n 0 ≡ b → number_in (present_field 2 (array_length n)) ≡ pos n
    by true e = rw e (ap pos (sym (eqb-true n 0 e)))
    by false e = rw e refl

referred : (t : TypeId) → IsReference t → RefersTo (pos t.0) t
referred t r = record { number = refl; reference = r }

-- a field of the rest is one of the whole
further : {f : Field} {fs : List Field} {u : TypeId} → HasFieldOf fs u → HasFieldOf (f ∷ fs) u
further h = record { number = suc h.number; field = h.field; there = h.there; type = h.type }

fields_said : (fs : List Field) → ((u : TypeId) → HasFieldOf fs u → IsReference u)
    → GivesFields (said_fields (field_types fs)) fs
fields_said [] each = no_more
fields_said (f ∷ fs) each =
    let first = each f.id (record { number = 0; field = f; there = refl; type = refl }) in
    and_field (named f.name f.id) (record { number = numbered f.name f.id; reference = first })
    (fields_said fs (λ u h. each u (further h)))

elements_said : (common : Tree) (fs : List Field)
    → elements_in (present_field 1 (field 0 common (field_list fs))) ≡ field_types fs
elements_said common [] = refl
elements_said common (f ∷ fs) = refl

pub describes : (t : TypeId) (s : Shape) → IsDefinable s → Describes t (described t s) s
describes t s d = by s.name s.kind d.length d.references
  where
    said_as : (name : List ℕ) → SaidKind → Said
    said_as name k = record {
      name = name_in (present_field 0 (name_and_id name t));
      id = number_in
          (present_field 1 (name_and_id name t));
      kind = k;
    }

    says : (name : List ℕ) (m : Marshal)
        → said (described_kind (Tree.fields (name_and_id name t)) (kind.Opaque m)) ≡ Some (said_as name (said_opaque m))
    says name marshal.Gob = refl
    says name marshal.Binary = refl
    says name marshal.Text = refl

    by : (name : List ℕ) (k : Kind) → HasLength k → ((u : TypeId) → Names k u → IsReference u)
        → Describes t (described_kind (Tree.fields (name_and_id name t)) k) (record { name = name; kind = k })
    by name (kind.Basic b) l each = absurd l
    by name (kind.Array e n) l each = record {
      what = said_as name
          (said_array (pos e.0) (number_in (present_field 2 (array_length n))));
      says = refl;
      same_id = numbered name t;
      name =
          sym (named name t);
      kind = gives_array (referred e (each e refl)) (long n);
    }
    by name (kind.Slice e) l each = record {
      what = said_as name (said_slice (pos e.0));
      says = refl;
      same_id = numbered
          name t;
      name = sym (named name t);
      kind = gives_slice (referred e (each e refl));
    }
    by name (kind.Struct fs) l each = record {
      what = said_as name (said_struct (said_fields
          (elements_in (present_field 1 (field 0 (Tree.fields (name_and_id name t)) (field_list fs))))));
      says = refl;
      same_id = numbered name t;
      name = sym (named name t);
      kind = gives_struct (rw (elements_said (Tree.fields (name_and_id name t)) fs) (fields_said fs each));
    }
    by name (kind.Map k e) l each = record {
      what = said_as name (said_map (pos k.0) (pos e.0));
      says = refl;
      same_id =
          numbered name t;
      name = sym (named name t);
      kind = gives_map (referred k (each k (inl refl)))
          (referred e (each e (inr refl)));
    }
    by name (kind.Opaque m) l each = record {
      what = said_as name (said_opaque m);
      says = says name m;
      same_id =
          numbered name t;
      name = sym (named name t);
      kind = gives_opaque;
    }

-- ---- that it fits

-- a signed number and a text, at their types
int_fits : (n limit : ℕ) → n < 2 ^ 63 → 0 < limit → FitsWithin base_table (id 2) limit (Tree.int (pos n))
int_fits n limit h l = let s = signed_spelled (pos n) (omega (arith, ints)) in record
    { bytes = s.bytes; spelled = of_type refl (of_int s.spelled); within = omega arith }

text_fits : (s : List ℕ) (limit : ℕ) → IsCountedName s → 0 < limit → FitsWithin base_table (id 6) limit (Tree.text s)
text_fits s limit h l = let c = unsigned_spelled (length s) h in record
    { bytes = c.bytes ++ s; spelled = of_type refl (of_text c.spelled); within = omega arith }

-- a struct with these fields
no_fields : {types : List Field} {next limit : ℕ} → IsSpelledWithin (SpellsFields base_table types next) fields_depth
    limit no_field
no_fields = let s = unsigned_spelled 0 (omega arith) in record
    { bytes = s.bytes; spelled = end_of_fields s.spelled; within = omega arith }

one_more : {types : List Field} {next f limit : ℕ} {e : Field} {v : Tree} {fs : Fields} → next ≤ f → f < 7
    → slice_get types f ≡ Some e → FitsWithin base_table e.id limit v
    → IsSpelledWithin (SpellsFields base_table types (f + 1)) fields_depth limit fs
    → IsSpelledWithin (SpellsFields base_table types next) fields_depth limit (field f v fs)
one_more {next = next} {f = f} l h m p ps =
    let s = unsigned_spelled (f + 1 - next) (omega arith) in let a = p.within in let b = ps.within in
    record {
      bytes = s.bytes ++ (p.bytes ++ ps.bytes);
      spelled = next_field l m s.spelled p.spelled ps.spelled;
      within =
          omega arith;
    }

struct_fits : {t : TypeId} {s : Shape} {types : List Field} {limit : ℕ} {fs : Fields} → shape_of base_table t ≡ Some s
    → s.kind ≡ kind.Struct types → IsSpelledWithin (SpellsFields base_table types 0) fields_depth limit fs
    → FitsWithin base_table t (limit + 1) (Tree.fields fs)
struct_fits e k p = let w = p.within in record {
  bytes = p.bytes;
  spelled = of_type e (rw k (of_struct p.spelled));
  within = omega arith;
}

-- CommonType and fieldType
names_fit : {a b : List ℕ} (name : List ℕ) (t : TypeId) (limit : ℕ) → IsCountedName name → t.0 < 2 ^ 63 → 0 < limit
    → IsSpelledWithin (SpellsFields base_table (base.field a 6 ∷ base.field b 2 ∷ []) 0) fields_depth limit
    (name_and_id name t)
names_fit [] t limit c h l = one_more (omega arith) (omega arith) refl (int_fits t.0 limit h l) no_fields
names_fit (x ∷ xs) t limit c h l = one_more (omega arith) (omega arith) refl (text_fits (x ∷ xs) limit c l)
    (one_more (omega arith) (omega arith) refl (int_fits t.0 limit h l) no_fields)

common_fits : (name : List ℕ) (t : TypeId) (limit : ℕ) → IsCountedName name → t.0 < 2 ^ 63 → 0 < limit
    → FitsWithin base_table (id 18) (limit + 1) (Tree.fields (name_and_id name t))
common_fits name t limit c h l = struct_fits refl refl (names_fit name t limit c h l)

field_type_fits : (name : List ℕ) (t : TypeId) (limit : ℕ) → IsCountedName name → t.0 < 2 ^ 63 → 0 < limit
    → FitsWithin base_table (id 21) (limit + 1) (Tree.fields (name_and_id name t))
field_type_fits name t limit c h l = struct_fits refl refl (names_fit name t limit c h l)

-- a reference is a number that fits
reference_fits : (t : TypeId) (limit : ℕ) → IsReference t → 0 < limit
    → FitsWithin base_table (id 2) limit (Tree.int (pos t.0))
reference_fits t limit r l = let h = r.1 in int_fits t.0 limit (omega arith) l

field_count : (fs : List Field) → tree_count (field_types fs) ≡ length fs
field_count [] = refl
field_count (f ∷ fs) = omega (arith, field_count fs)

elements_fit : (fs : List Field) → AreCounted fs → ((u : TypeId) → HasFieldOf fs u → IsReference u)
    → IsSpelledWithin (SpellsEach base_table (id 21)) trees_depth 2 (field_types fs)
elements_fit [] c each = record { bytes = []; spelled = no_element; within = omega arith }
elements_fit (f ∷ fs) c each =
    let reference = each f.id (record { number = 0; field = f; there = refl; type = refl }) in
    let first = field_type_fits f.name f.id 1 c.0 (omega arith) (omega arith) in
    let rest = elements_fit fs c.1 (λ u h. each u (further h)) in
    let a = first.within in
    let b = rest.within in
    record { bytes = first.bytes ++ rest.bytes; spelled = element first.spelled rest.spelled; within = omega arith }

list_fits : (fs : List Field) → length fs < 2 ^ 64 → AreCounted fs → ((u : TypeId) → HasFieldOf fs u → IsReference u)
    → FitsWithin base_table (id 22) 3 (Tree.many (field_types fs))
list_fits fs h c each =
    let s = unsigned_spelled (tree_count (field_types fs)) (omega (arith, field_count fs)) in
    let p = elements_fit fs c each in
    let w = p.within in
    record { bytes = s.bytes ++ p.bytes; spelled = of_type refl (of_slice s.spelled p.spelled); within = omega arith }

-- a wireType with one field
wire_fits : {f : ℕ} {e : Field} {fs : Fields} → f < 7 → slice_get wire_type_fields f ≡ Some e
    → FitsWithin base_table e.id 4 (Tree.fields fs) → FitsWithin base_table wire_type 5 (wire_type_of f fs)
wire_fits l e p = struct_fits refl refl (one_more (omega arith) l e p no_fields)

pub fits : (t : TypeId) (s : Shape) → IsDefinable s → IsCountable s → t.0 < 2 ^ 63
    → FitsWithin base_table wire_type 5 (described t s)
fits t s d c h = by s.kind d.length d.references c.fields
  where
    common : FitsWithin base_table (id 18) 3 (Tree.fields (name_and_id s.name t))
    common = common_fits s.name t 2 c.name h (omega arith)

    -- Len, where it is there
    length_fits : {a b c : List ℕ} (n : ℕ) → n ≤ greatest_length
        → IsSpelledWithin (SpellsFields base_table (base.field a 18 ∷ base.field b 2 ∷ base.field c 2 ∷ []) 2)
        fields_depth 3 (array_length n)
    length_fits {a = a} {b = b} {c = c} n l = by (eqb n 0) refl
      where
        by : (z : Bool) → eqb n 0 ≡ z
            → IsSpelledWithin (SpellsFields base_table (base.field a 18 ∷ base.field b 2 ∷ base.field c 2 ∷ []) 2)
            fields_depth 3 (array_length n)
        by true e = rw e no_fields
        by false e = rw e (one_more (omega arith) (omega arith) refl (int_fits n 3 (omega arith) (omega arith))
            no_fields)

    -- Field, where it is there
    list_field_fits : {a b : List ℕ} (fs : List Field) → length fs < 2 ^ 64 → AreCounted fs
        → ((u : TypeId) → HasFieldOf fs u → IsReference u)
        → IsSpelledWithin (SpellsFields base_table (base.field a 18 ∷ base.field b 22 ∷ []) 1) fields_depth 3
        (field_list fs)
    list_field_fits [] l n each = no_fields
    list_field_fits (f ∷ fs) l n each = one_more (omega arith) (omega arith) refl (list_fits (f ∷ fs) l n each)
        no_fields

    by : (k : Kind) → HasLength k → ((u : TypeId) → Names k u → IsReference u) → HasCountedFields k
        → FitsWithin base_table wire_type 5 (described_kind (Tree.fields (name_and_id s.name t)) k)
    by (kind.Basic b) l each n = absurd l
    by (kind.Array e n) l each m =
        let elem = reference_fits e 3 (each e refl) (omega arith) in
        wire_fits (omega arith) refl (struct_fits refl refl
        (one_more (omega arith) (omega arith) refl common
        (one_more (omega arith) (omega arith) refl elem (length_fits n l))))
    by (kind.Slice e) l each n =
        let elem = reference_fits e 3 (each e refl) (omega arith) in
        wire_fits (omega arith) refl (struct_fits refl refl
        (one_more (omega arith) (omega arith) refl common
        (one_more (omega arith) (omega arith) refl elem no_fields)))
    by (kind.Struct fs) l each n =
        wire_fits (omega arith) refl (struct_fits refl refl
        (one_more (omega arith) (omega arith) refl common (list_field_fits fs n.0 n.1 each)))
    by (kind.Map k e) l each n =
        let key = reference_fits k 3 (each k (inl refl)) (omega arith) in
        let elem = reference_fits e 3 (each e (inr refl)) (omega arith) in
        wire_fits (omega arith) refl
        (struct_fits refl refl (one_more (omega arith) (omega arith) refl common
        (one_more (omega arith) (omega arith) refl key (one_more (omega arith) (omega arith) refl elem no_fields))))
    by (kind.Opaque marshal.Gob) l each n = wire_fits (omega arith) refl
        (struct_fits refl refl (one_more (omega arith) (omega arith) refl common no_fields))
    by (kind.Opaque marshal.Binary) l each n = wire_fits (omega arith) refl
        (struct_fits refl refl (one_more (omega arith) (omega arith) refl common no_fields))
    by (kind.Opaque marshal.Text) l each n = wire_fits (omega arith) refl
        (struct_fits refl refl (one_more (omega arith) (omega arith) refl common no_fields))

-- what is made of a shape is its description, where a signed number holds its id
pub made_described : {E : Type 0} (t : TypeId) (s : Shape) (k : Kind) (common : Tree) (r : Result Value E) → s.kind ≡ k
    → (t.0 < 2 ^ 63 → common ≡ Tree.fields (name_and_id s.name t)) → IfOk r (λ v. view v ≡ described_kind common k)
    → IfOk r (λ v. t.0 < 2 ^ 63 → view v ≡ described t s)
made_described t s k common (Err e) is first made = tt
made_described t s k common (Ok v) is first made = λ h.
    made ∙ ap (λ (c : Tree). described_kind c k) (first h) ∙ ap (described_kind (Tree.fields (name_and_id s.name t)))
    (sym is)

-- and it fits
pub made_fits : {E : Type 0} (t : TypeId) (s : Shape) (k : Kind) (common : Tree) (r : Result Value E) → IsDefinable s
    → IsCountedName s.name → s.kind ≡ k → (t.0 < 2 ^ 63 → common ≡ Tree.fields (name_and_id s.name t))
    → OnOk r (HasCountedFields k) → IfOk r (λ v. view v ≡ described_kind common k)
    → IfOk r (λ v. t.0 < 2 ^ 63 → FitsWithin base_table wire_type 5 (view v))
made_fits t s k common (Err e) d c is first counted made = tt
made_fits t s k common (Ok v) d c is first counted made = λ h.
    let same : view v ≡ described t s = made_described {E = ⊥} t s k common (Ok v) is first made h in
    let countable : IsCountable s = record { name = c; fields = subst HasCountedFields (sym is) counted } in
    subst (FitsWithin base_table wire_type 5) (sym same) (fits t s d countable h)

-- a kind without fields has none to count
pub no_count : {X E : Type 0} {P : Type 0} (r : Result X E) → P → OnOk r P
no_count (Ok x) p = p
no_count (Err e) p = tt
