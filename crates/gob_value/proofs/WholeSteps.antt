-- Values that stand whole at a place of a body, from their parts.
use Rattle.std.proofs.Common.{◌≡◌, ℕ, zero, suc, ◌+◌, ◌-◌, ◌<◌, ◌≤◌, true, false, List, [], ◌++◌, length, Option}
use Rattle.std.proofs.Common.{Some, None, IfSome, Bool, IsTrue, take, drop, arith, refl, sym, ap, ◌∙◌, subst}
use Rattle.std.proofs.Common.{append_assoc}
use Rattle.std.specs.Prelude.{slice_get}
use Rattle.std.proofs.lemmas.List.{drop-drop, take-append-drop, length-drop, length-take-le}
use Rattle.gob_num.specs.Unsigned.{IsUnsigned}
use Rattle.gob_num.specs.Place.{IsUnsignedAt, AreUnsignedAt, no_number, one_more}
use Rattle.gob_num.proofs.PublicLaws.{unsigned_signed, unsigned_pattern}
use Rattle.gob_types.specs.declared.id.TypeId.{TypeId}
use Rattle.gob_types.specs.declared.basic.Basic.{Basic}
use Rattle.gob_types.specs.declared.basic.Basic.TheVariants as basic
use Rattle.gob_types.specs.declared.kind.Field.{Field}
use Rattle.gob_types.specs.declared.kind.Marshal.{Marshal}
use Rattle.gob_types.specs.declared.kind.Kind.{Kind}
use Rattle.gob_types.specs.declared.kind.Kind.TheVariants as kind
use Rattle.gob_types.specs.declared.kind.Shape.{Shape}
use Rattle.gob_types.specs.Table.{Table, shape_of, basic_of}
use Rattle.gob_types.specs.declared.basic.Basic.{Basic}
use Rattle.gob_types.proofs.PublicLaws.{basic_shape_of}
use Rattle.gob_value.specs.Tree.{Tree, no_tree, tree, no_pair, pair, no_field, field}
use Rattle.gob_value.specs.Spelling.{SpellsAs, of_type, of_bool, of_int, of_uint, of_float, of_complex, of_nil}
use Rattle.gob_value.specs.Spelling.{of_bytes}
use Rattle.gob_value.specs.Spelling.{of_text, of_opaque, of_slice, of_array, of_map, of_struct, no_element, element}
use Rattle.gob_value.specs.Spelling.{no_entry, entry, end_of_fields, next_field}
use Rattle.gob_value.specs.Tidy.{of_basic, of_opaque, of_slice as slice_tidy, of_array as array_tidy}
use Rattle.gob_value.specs.Tidy.{of_map as map_tidy, of_struct as struct_tidy, of_type as type_tidy}
use Rattle.gob_value.specs.Tidy.{no_element as no_element_tidy, element as element_tidy, no_entry as no_entry_tidy}
use Rattle.gob_value.specs.Tidy.{entry as entry_tidy, no_more as no_field_tidy, kept as field_tidy}
use Rattle.gob_value.specs.Machine.Begins.{HoldsNumbers, HoldsBetween, BeginsKind, BeginsEach, BeginsPairs}
use Rattle.gob_value.specs.Machine.Begins.{BeginsFields, BeginsThisNumber}
use Rattle.gob_value.specs.Machine.Begins.{BeginsField, BeginsRaw, BeginsKept}
use Rattle.gob_value.specs.Written.{HasParts}
use Rattle.gob_value.proofs.WithinLaws.{leaf_within}

-- what begins at one place and ends at the next, and what begins there
pub both : {P Q R : List ℕ → List ℕ → Type 0} {body : List ℕ} {a b c : ℕ} → HoldsBetween P body a b
    → HoldsBetween Q body b c
    → ((x y z : List ℕ) → P x y → Q y z → R x z) → HoldsBetween R body a c
both {body = body} {a = a} {b = b} {c = c} p q f = record {
  order = omega (arith, p.order, q.order);
  inside = q.inside;
  begins = f (drop a body) (drop b body) (drop c body) p.begins q.begins;
}

pub seen : {P Q : List ℕ → List ℕ → Type 0} {body : List ℕ} {a b : ℕ} → HoldsBetween P body a b
    → ((x y : List ℕ) → P x y → Q x y) → HoldsBetween Q body a b
seen {body = body} {a = a} {b = b} p f = record {
  order = p.order;
  inside = p.inside;
  begins = f (drop a body) (drop b body) p.begins;
}

-- what follows from three properties, of the bytes between four offsets in order
pub all_three : {P Q R S : List ℕ → List ℕ → Type 0} {body : List ℕ} {a b c d : ℕ} → HoldsBetween P body a b
    → HoldsBetween Q body b c → HoldsBetween R body c d
    → ((x y z w : List ℕ) → P x y → Q y z → R z w → S x w) → HoldsBetween S body a d
all_three {body = body} {a = a} {b = b} {c = c} {d = d} p q r f = record {
  order = omega (arith, p.order, q.order, r.order);
  inside = r.inside;
  begins = f (drop a body) (drop b body) (drop c body) (drop d body) p.begins q.begins r.begins;
}

-- two prefixes of a piece are one
pub whole_of_two : (b c z : List ℕ) {x y : List ℕ} → x ≡ b ++ y → y ≡ c ++ z → x ≡ (b ++ c) ++ z
whole_of_two b c z e f = e ∙ ap (λ r. b ++ r) f ∙ sym (append_assoc b c z)

-- ---- numbers and bytes
pub number_stands : {n at end : ℕ} {body : List ℕ} → IsUnsignedAt n body at end
    → HoldsBetween (BeginsThisNumber n) body at end
number_stands {at = at} {end = end} {body = body} p =
    let up : at + (end - at) ≡ end = let o = p.order in omega arith in
    record {
      order = let o = p.order in omega arith;
      inside = p.inside;
      begins = record {
        bytes = take (end - at) (drop at body);
        spelled = p.spelled;
        whole = sym (take-append-drop (end - at) (drop at body)) ∙ ap (λ r. take (end - at) (drop at body) ++ r)
            (drop-drop (end - at) at body ∙ ap (λ i. drop i body) up);
      };
    }

pub raw_stands : (body : List ℕ) (at behind count : ℕ) → HoldsBetween (BeginsThisNumber count) body at behind
    → count ≤ length body - behind → HoldsBetween BeginsRaw body at (behind + count)
raw_stands body at behind count p l =
    let d = drop behind body in
    let n = p.begins in
    let inside = p.inside in
    let size : length (take count d) ≡ count = length-take-le count d (omega (arith, length-drop behind body)) in
    let rest : d ≡ take count d ++ drop (behind + count) body = sym (take-append-drop count d) ∙ ap
    (λ r. take count d ++ r) (drop-drop count behind body) in
    record {
      order = omega (arith, p.order);
      inside = omega (arith, p.inside);
      begins = record {
        raw = take count d;
        count = n.bytes;
        counted = subst (λ k. IsUnsigned k n.bytes) (sym size) n.spelled;
        whole = whole_of_two n.bytes (take count d) (drop (behind + count) body) n.whole rest;
      };
    }

-- ---- values without parts
module _ (T : Table) (tidy : Bool) where
  basic_begins : {b : Basic} {x y bytes : List ℕ} (v : Tree) → ¬ HasParts v → SpellsAs T (kind.Basic b) v bytes
      → x ≡ bytes ++ y → BeginsKind T tidy (kind.Basic b) 1 x y
  basic_begins {bytes = bytes} v n s e = record {
    value = v;
    bytes = bytes;
    spelled = s;
    within = leaf_within 1 v n (omega arith);
    tidied = λ t. of_basic n;
    whole = e;
  }

  pub int_begins : (n : ℕ) (x y : List ℕ) → BeginsThisNumber n x y → BeginsKind T tidy (kind.Basic basic.Int) 1 x y
  int_begins n x y p =
      let i = unsigned_signed p.spelled in basic_begins (Tree.int i.0) (λ h. h) (of_int i.1) p.whole

  pub uint_begins : (n : ℕ) (x y : List ℕ) → BeginsThisNumber n x y → BeginsKind T tidy (kind.Basic basic.Uint) 1 x y
  uint_begins n x y p = basic_begins (Tree.uint n) (λ h. h) (of_uint p.spelled) p.whole

  pub float_begins : (n : ℕ) (x y : List ℕ) → BeginsThisNumber n x y → BeginsKind T tidy (kind.Basic basic.Float) 1 x y
  float_begins n x y p =
      let f = unsigned_pattern p.spelled in basic_begins (Tree.float f.0) (λ h. h) (of_float f.1) p.whole

  pub complex_begins : (m n : ℕ) (x y z : List ℕ) → BeginsThisNumber m x y → BeginsThisNumber n y z
      → BeginsKind T tidy (kind.Basic basic.Complex) 1 x z
  complex_begins m n x y z p q =
      let f = unsigned_pattern p.spelled in
      let g = unsigned_pattern q.spelled in
      basic_begins (Tree.complex f.0 g.0) (λ h. h) (of_complex f.1 g.1) (whole_of_two p.bytes q.bytes z p.whole q.whole)

  pub bool_begins : (n : ℕ) → n ≤ 1 → (x y : List ℕ) → BeginsThisNumber n x y
      → BeginsKind T tidy (kind.Basic basic.Bool) 1 x y
  bool_begins zero l x y p = basic_begins (Tree.bool false) (λ h. h) (of_bool p.spelled) p.whole
  bool_begins (suc zero) l x y p = basic_begins (Tree.bool true) (λ h. h) (of_bool p.spelled) p.whole
  bool_begins (suc (suc n)) l x y p = absurd (omega arith)

  pub nil_begins : (n : ℕ) → n ≤ 0 → (x y : List ℕ) → BeginsThisNumber n x y
      → BeginsKind T tidy (kind.Basic basic.Interface) 1 x y
  nil_begins n l x y p =
      let none : n ≡ 0 = omega arith in
      basic_begins Tree.nil (λ h. h) (of_nil (subst (λ k. IsUnsigned k p.bytes) none p.spelled)) p.whole

  pub bytes_begin : (x y : List ℕ) → BeginsRaw x y → BeginsKind T tidy (kind.Basic basic.Bytes) 1 x y
  bytes_begin x y p = basic_begins (Tree.bytes p.raw) (λ h. h) (of_bytes p.counted) p.whole

  pub text_begins : (x y : List ℕ) → BeginsRaw x y → BeginsKind T tidy (kind.Basic basic.Str) 1 x y
  text_begins x y p = basic_begins (Tree.text p.raw) (λ h. h) (of_text p.counted) p.whole

  pub opaque_begins : (m : Marshal) (x y : List ℕ) → BeginsRaw x y → BeginsKind T tidy (kind.Opaque m) 1 x y
  opaque_begins m x y p =
      record {
        value = Tree.opaque p.raw;
        bytes = p.count ++ p.raw;
        spelled = of_opaque p.counted;
        within = omega arith;
        tidied = λ t. of_opaque (λ h. h);
        whole = p.whole;
      }

  pub deeper : {k : Kind} {a b : ℕ} → a ≤ b → (x y : List ℕ) → BeginsKind T tidy k a x y → BeginsKind T tidy k b x y
  deeper l x y p =
      let w = p.within in
      record {
        value = p.value;
        bytes = p.bytes;
        spelled = p.spelled;
        within = omega arith;
        tidied = p.tidied;
        whole = p.whole;
      }

  number_begins : (k : Kind) → HoldsNumbers k → (n : ℕ) (x y : List ℕ) → BeginsThisNumber n x y
      → BeginsKind T tidy k 1 x y
  number_begins (kind.Basic basic.Int) a n x y p = int_begins n x y p
  number_begins (kind.Basic basic.Uint) a n x y p = uint_begins n x y p
  number_begins (kind.Basic basic.Float) a n x y p = float_begins n x y p
  number_begins _ a n x y p = absurd a

  -- ---- values with parts
  pub slice_begins : (e : TypeId) (limit n : ℕ) → 0 < limit → (x y z : List ℕ) → BeginsThisNumber n x y
      → BeginsEach T tidy e (limit - 1) n y z → BeginsKind T tidy (kind.Slice e) limit x z
  slice_begins e limit n o x y z p q =
      let w = q.within in
      record {
        value = Tree.many q.values;
        bytes = p.bytes ++ q.bytes;
        spelled = of_slice (subst (λ k. IsUnsigned k p.bytes) (sym q.counted) p.spelled) q.spelled;
        within = omega arith;
        tidied = λ t. slice_tidy (q.tidied t);
        whole = whole_of_two p.bytes q.bytes z p.whole q.whole;
      }

  pub array_begins : (e : TypeId) (limit n m : ℕ) → 0 < limit → n ≡ m → (x y z : List ℕ) → BeginsThisNumber n x y
      → BeginsEach T tidy e (limit - 1) n y z → BeginsKind T tidy (kind.Array e m) limit x z
  array_begins e limit n m o same x y z p q =
      let w = q.within in
      record {
        value = Tree.many q.values;
        bytes = p.bytes ++ q.bytes;
        spelled = of_array (q.counted ∙ same) (subst (λ k. IsUnsigned k p.bytes) same p.spelled) q.spelled;
        within = omega arith;
        tidied = λ t. array_tidy (q.tidied t);
        whole = whole_of_two p.bytes q.bytes z p.whole q.whole;
      }

  pub map_begins : (k e : TypeId) (limit n : ℕ) → 0 < limit → (x y z : List ℕ) → BeginsThisNumber n x y
      → BeginsPairs T tidy k e (limit - 1) n y z → BeginsKind T tidy (kind.Map k e) limit x z
  map_begins k e limit n o x y z p q =
      let w = q.within in
      record {
        value = Tree.pairs q.pairs;
        bytes = p.bytes ++ q.bytes;
        spelled = of_map (subst (λ k. IsUnsigned k p.bytes) (sym q.counted) p.spelled) q.spelled;
        within = omega arith;
        tidied = λ t. map_tidy (q.tidied t);
        whole = whole_of_two p.bytes q.bytes z p.whole q.whole;
      }

  pub struct_begins : (types : List Field) (limit : ℕ) → 0 < limit → (x y : List ℕ)
      → BeginsFields T tidy types 0 (limit - 1) x y → BeginsKind T tidy (kind.Struct types) limit x y
  struct_begins types limit o x y p =
      let w = p.within in
      record {
        value = Tree.fields p.fields;
        bytes = p.bytes;
        spelled = of_struct p.spelled;
        within = omega arith;
        tidied = λ t. struct_tidy (p.tidied t);
        whole = p.whole;
      }

  -- ---- parts
  pub none_stand : (e : TypeId) (limit n : ℕ) (body : List ℕ) (at : ℕ) → n ≡ 0 → at ≤ length body
      → HoldsBetween (BeginsEach T tidy e limit n) body at at
  none_stand e limit n body at none l =
      record {
        order = omega arith;
        inside = l;
        begins = record {
          values = no_tree;
          bytes = [];
          spelled = no_element;
          within = omega arith;
          tidied = λ t. no_element_tidy;
          counted = sym none;
          whole = refl;
        };
      }

  pub element_begins : (e : TypeId) (s : Shape) (limit n m : ℕ) → shape_of T e ≡ Some s → n ≡ m + 1
      → (x y z : List ℕ) → BeginsKind T tidy s.kind limit x y → BeginsEach T tidy e limit m y z
      → BeginsEach T tidy e limit n x z
  element_begins e s limit n m f more x y z p q =
      let v = p.within in
      let w = q.within in
      record {
        values = tree p.value q.values;
        bytes = p.bytes ++ q.bytes;
        spelled = element (of_type f p.spelled) q.spelled;
        within = omega arith;
        tidied = λ t. element_tidy (type_tidy f (p.tidied t)) (q.tidied t);
        counted = ap (λ k. k + 1) q.counted ∙ sym more;
        whole = whole_of_two p.bytes q.bytes z p.whole q.whole;
      }

  pub number_element : (e : TypeId) (s : Shape) (number n m : ℕ) → shape_of T e ≡ Some s → HoldsNumbers s.kind
      → n ≡ m + 1 → (x y z : List ℕ) → BeginsThisNumber number x y → BeginsEach T tidy e 1 m y z
      → BeginsEach T tidy e 1 n x z
  number_element e s number n m f a more x y z p q =
      element_begins e s 1 n m f more x y z (number_begins s.kind a number x y p) q

  -- numbers one behind another
  pub numbers_stand : (e : TypeId) (s : Shape) → shape_of T e ≡ Some s → HoldsNumbers s.kind
      → {body : List ℕ} {count at end : ℕ}
      → at ≤ length body → AreUnsignedAt body count at end → HoldsBetween (BeginsEach T tidy e 1 count) body at end
  numbers_stand e s f a {body = body} {at = at} l (no_number) = none_stand e 1 0 body at refl l
  numbers_stand e s f a l (one_more {n = n} {count = k} p q) =
      both (number_stands p) (numbers_stand e s f a p.inside q) (number_element e s n (suc k) k f a (omega arith))

  pub basic_element : (e : TypeId) (s : Shape) (k : Kind) (n m : ℕ) → shape_of T e ≡ Some s → s.kind ≡ k
      → n ≡ m + 1 → (x y z : List ℕ) → BeginsKind T tidy k 1 x y → BeginsEach T tidy e 1 m y z
      → BeginsEach T tidy e 1 n x z
  basic_element e s k n m f is more x y z p q =
      element_begins e s 1 n m f more x y z (subst (λ k. BeginsKind T tidy k 1 x y) (sym is) p) q

  pub all_deeper : (e : TypeId) (a b n : ℕ) → a ≤ b → (x y : List ℕ) → BeginsEach T tidy e a n x y
      → BeginsEach T tidy e b n x y
  all_deeper e a b n l x y p =
      let w = p.within in
      record {
        values = p.values;
        bytes = p.bytes;
        spelled = p.spelled;
        within = omega arith;
        tidied = p.tidied;
        counted = p.counted;
        whole = p.whole;
      }

  pub no_pairs_stand : (k e : TypeId) (limit n : ℕ) (body : List ℕ) (at : ℕ) → n ≡ 0 → at ≤ length body
      → HoldsBetween (BeginsPairs T tidy k e limit n) body at at
  no_pairs_stand k e limit n body at none l =
      record {
        order = omega arith;
        inside = l;
        begins = record {
          pairs = no_pair;
          bytes = [];
          spelled = no_entry;
          within = omega arith;
          tidied = λ t. no_entry_tidy;
          counted = sym none;
          whole = refl;
        };
      }

  pub pair_begins : (k e : TypeId) (s t : Shape) (limit n m : ℕ) → shape_of T k ≡ Some s → shape_of T e ≡ Some t
      → n ≡ m + 1 → (x a y z : List ℕ) → BeginsKind T tidy s.kind limit x a → BeginsKind T tidy t.kind limit a y
      → BeginsPairs T tidy k e limit m y z
      → BeginsPairs T tidy k e limit n x z
  pair_begins k e s t limit n m f g more x a y z p q r =
      let u = p.within in
      let v = q.within in
      let w = r.within in
      record {
        pairs = pair p.value q.value r.pairs;
        bytes = p.bytes ++ (q.bytes ++ r.bytes);
        spelled = entry (of_type f p.spelled) (of_type g q.spelled) r.spelled;
        within = omega arith;
        tidied = λ t. entry_tidy (type_tidy f (p.tidied t)) (type_tidy g (q.tidied t)) (r.tidied t);
        counted = ap (λ k. k + 1) r.counted ∙ sym more;
        whole = whole_of_two p.bytes (q.bytes ++ r.bytes) z p.whole (whole_of_two q.bytes r.bytes z q.whole r.whole);
      }

  -- the value of a field that a tidy struct keeps
  pub kept_part : {e : TypeId} {s : Shape} {limit : ℕ} {body : List ℕ} {a b : ℕ} → shape_of T e ≡ Some s
      → HoldsBetween (BeginsKind T tidy s.kind limit) body a b → (IsTrue tidy → BeginsKept s.kind (drop a body))
      → HoldsBetween (BeginsField T tidy e limit) body a b
  kept_part {s = s} known p kept = record {
    order = p.order;
    inside = p.inside;
    begins = record { shape = s; known = known; part = p.begins; kept = kept };
  }

  -- the value, of a basic type, of a field that a tidy struct keeps
  pub basic_part : {e : TypeId} {b : Basic} {limit : ℕ} {body : List ℕ} {x y : ℕ} → 0 < limit → basic_of T e ≡ Some b
      → HoldsBetween (BeginsKind T tidy (kind.Basic b) 1) body x y
      → (IsTrue tidy → BeginsKept (kind.Basic b) (drop x body))
      → HoldsBetween (BeginsField T tidy e limit) body x y
  basic_part {e = e} {limit = limit} {body = body} {x = x} {y = y} some is p kept =
      let (s, known, basic) = basic_shape_of T e is in
      kept_part known (seen (subst (λ k. HoldsBetween (BeginsKind T tidy k 1) body x y) (sym basic) p)
      (λ u v q. deeper some u v q)) (λ t. subst (λ k. BeginsKept k (drop x body)) (sym basic) (kept t))

  pub fields_end : (types : List Field) (next limit n : ℕ) → n ≡ 0 → (x y : List ℕ) → BeginsThisNumber n x y
      → BeginsFields T tidy types next limit x y
  fields_end types next limit n o x y p =
      record {
        fields =
            no_field;
        bytes = p.bytes;
        spelled = end_of_fields (subst (λ k. IsUnsigned k p.bytes) o p.spelled);
        within =
            omega arith;
        tidied = λ t. no_field_tidy;
        whole = p.whole;
      }

  pub field_begins : (types : List Field) (next limit delta f : ℕ) (e : Field) → 0 < delta
      → f + 1 ≡ next + delta → slice_get types f ≡ Some e
      → (x a y z : List ℕ) → BeginsThisNumber delta x a → BeginsField T tidy e.id limit a y
      → BeginsFields T tidy types (f + 1) limit y z → BeginsFields T tidy types next limit x z
  field_begins types next limit delta f e o is here x a y z p kept r =
      let shape = kept.known in
      let q = kept.part in
      let v = q.within in
      let w = r.within in
      let up : delta ≡ f + 1 - next = omega arith in
      record {
        fields = field f q.value r.fields;
        bytes = p.bytes ++ (q.bytes ++ r.bytes);
        spelled =
            next_field (omega arith) here (subst (λ k. IsUnsigned k p.bytes) up p.spelled) (of_type shape q.spelled)
            r.spelled;
        within = omega arith;
        tidied = λ t. field_tidy here shape (kept.kept t T q.value q.bytes y q.spelled q.whole) (q.tidied t)
            (r.tidied t);
        whole = whole_of_two p.bytes (q.bytes ++ r.bytes) z p.whole (whole_of_two q.bytes r.bytes z q.whole r.whole);
      }

-- an answer of a place, if any
pub if_some : {A : Type 0} {P Q : A → Type 0} (r : Option A) → ((x : A) → P x → Q x) → IfSome r P → IfSome r Q
if_some None f p = tt
if_some (Some x) f p = f x p
