-- Steps of going through a description: what its fields hold, and which numbers refer to types.
use Rattle.std.proofs.Common.{◌≡◌, ◌≢◌, ◌↔◌, ℕ, ℤ, pos, negsuc, ◌≤ℤ◌, ◌+◌, ◌<◌, ◌≤◌, Bool, true, false, cond, eqb, List}
use Rattle.std.proofs.Common.{[], ◌∷◌, ◌++◌, length, get_or, drop, take, map, append_assoc, append-nil, Option, Some}
use Rattle.std.proofs.Common.{None, arith, refl, sym, ap, ◌∙◌, subst}
use Rattle.std.proofs.Math.IntN.{nat_abs}
use Rattle.std.proofs.lemmas.Bool.{eqb-true, eq-eqb}
use Rattle.std.proofs.lemmas.Int.{ints}
use Rattle.std.proofs.lemmas.List.{map-append, take_more, take_all}
use Rattle.gob_types.specs.declared.id.TypeId.{TypeId}
use Rattle.gob_types.specs.declared.kind.Field.{Field}
use Rattle.gob_types.specs.Definable.{IsReference}
use Rattle.gob_value.specs.Tree.{Tree, tree, Fields, no_field, field}
use Rattle.gob_value.specs.View.{view, views, field_views, trees_of}
use Rattle.gob_value.specs.Described.{name_and_id, field_types}
use Rattle.gob_value.specs.Description.{present_field, said, said_with, said_kind, said_fields, fields_in, number_in}
use Rattle.gob_value.specs.Description.{name_in}
use Rattle.gob_value.specs.Description.{RefersTo, Said, GivesFields, no_more, and_field}
use Rattle.gob_value.specs.DescriptionLaws.{IsCountedName, AreCounted}
use Rattle.gob_value.specs.Machine.Saying.{IsTypeNumber, HaveTypes, no_type, and_type}
use Rattle.gob_value.specs.declared.value.Value.{Value}
use Rattle.gob_value.proofs.ViewLaws.{field_item, views_item}
use Rattle.gob_value.proofs.TestSteps.{none_left}

-- the item that a loop has is the field that is looked for, or it is passed
pub present_here : (n : ℕ) (fs : List (ℕ × Value)) (i : ℕ) (f : ℕ × Value) → f ≡ get_or fs i f → i < length fs → f.0 ≡ n
    → present_field n (field_views (drop i fs)) ≡ Some (view f.1)
present_here n fs i f is h e = rw (field_item fs i f is h, eq-eqb f.0 n e) refl

pub present_later : (n : ℕ) (fs : List (ℕ × Value)) (i : ℕ) (f : ℕ × Value) → f ≡ get_or fs i f → i < length fs
    → f.0 ≢ n → present_field n (field_views (drop i fs)) ≡ present_field n (field_views (drop (i + 1) fs))
present_later n fs i f is h ne = rw (field_item fs i f is h) (by (eqb f.0 n) refl)
  where
    by : (b : Bool) → eqb f.0 n ≡ b
        → cond b (Some (view f.1)) (present_field n (field_views (drop (i + 1) fs))) ≡ present_field n
        (field_views (drop (i + 1) fs))
    by true e = absurd (ne (eqb-true f.0 n e))
    by false e = refl

pub present_none : (n : ℕ) (fs : List (ℕ × Value)) (i : ℕ) → length fs ≤ i → present_field n (field_views (drop i fs)) ≡
    None
present_none n fs i h = rw (none_left fs i h) refl

-- a value with no field or with several says nothing
pub said_none : (v : Tree) (fs : List (ℕ × Value)) → field_views fs ≡ fields_in (Some v) → length fs ≢ 1 → said v ≡ None
said_none (Tree.fields (field f g no_field)) [] e n = cc
said_none (Tree.fields (field f g no_field)) (x ∷ []) e n = absurd (n refl)
said_none (Tree.fields (field f g no_field)) (x ∷ y ∷ fs) e n = cc
said_none _ fs e n = refl

-- a value with one field says what that says
abbrev pub said_by : ℕ → Fields → Option Said
said_by f fs = said_with (fields_in (present_field 0 fs)) (said_kind f fs)

pub said_one : (v : Tree) (fs : List (ℕ × Value)) (f : ℕ × Value) → field_views fs ≡ fields_in (Some v) → length fs ≡ 1
    → f ≡ get_or fs 0 f → said v ≡ said_by f.0 (fields_in (Some (view f.1)))
said_one v [] f e n is = absurd (omega arith)
said_one v (x ∷ y ∷ fs) f e n is = absurd (omega arith)
said_one v (x ∷ []) f e n is = rw is (from v (sym e))
  where
    from : (v : Tree) → fields_in (Some v) ≡ field x.0 (view x.1) no_field
        → said v ≡ said_by x.0 (fields_in (Some (view x.1)))
    from (Tree.fields fs) e = rw e refl
    from _ e = cc

-- the fieldTypes of the fields, one by one
abbrev pub field_type : Field → Tree
field_type f = Tree.fields (name_and_id f.name f.id)

pub field_types-each : (fs : List Field) → trees_of (map field_type fs) ≡ field_types fs
field_types-each [] = refl
field_types-each (f ∷ fs) = ap (tree (field_type f)) (field_types-each fs)

pub types_more : (vs ws : List Value) (fs : List Field) (i : ℕ) (f : Field) (v : Value)
    → map view vs ≡ map field_type (take i fs) → f ≡ get_or fs i f → i < length fs → view v ≡ field_type f
    → ws ≡ vs ++ v ∷ [] → map view ws ≡ map field_type (take (i + 1) fs)
types_more vs ws fs i f v so_far is h e more =
    ap (map view) more ∙ map-append view vs (v ∷ []) ∙ ap (λ ts. ts ++ view v ∷ []) so_far
    ∙ ap (λ t. map field_type (take i fs) ++ t ∷ []) (e ∙ ap field_type is)
    ∙ sym (map-append field_type (take i fs) (get_or fs i f ∷ [])) ∙ ap (map field_type) (sym (take_more fs i f h))

pub types_all : (vs : List Value) (fs : List Field) (i : ℕ) → map view vs ≡ map field_type (take i fs) → length fs ≤ i
    → views vs ≡ field_types fs
types_all vs fs i so_far h = ap trees_of (so_far ∙ ap (map field_type) (take_all i fs h)) ∙ field_types-each fs

-- names that are counted, one by one
counted_push : (fs : List Field) (f : Field) → AreCounted fs → IsCountedName f.name → AreCounted (fs ++ f ∷ [])
counted_push [] f c h = (h, tt)
counted_push (g ∷ fs) f c h = (c.0, counted_push fs f c.1 h)

pub counted_more : (fs : List Field) (i : ℕ) (f : Field) → AreCounted (take i fs) → f ≡ get_or fs i f → i < length fs
    → IsCountedName f.name → AreCounted (take (i + 1) fs)
counted_more fs i f c is l h = rw (take_more fs i f l, ← is) (counted_push (take i fs) f c h)

pub counted_all : (fs : List Field) (i : ℕ) → AreCounted (take i fs) → length fs ≤ i → AreCounted fs
counted_all fs i c l = subst AreCounted (take_all i fs l) c

-- ---- numbers of types

pub refers_as : {i j : ℤ} {t : TypeId} → i ≡ j → RefersTo i t → RefersTo j t
refers_as {t = t} e r = subst (λ i. RefersTo i t) e r

pub number_as : {i j : ℤ} → i ≡ j → IsTypeNumber i → IsTypeNumber j
number_as e r = subst IsTypeNumber e r

pub not_negative : (i : ℤ) → pos 0 ≤ℤ i → i ≡ pos (nat_abs i)
not_negative (pos n) h = refl
not_negative (negsuc n) h = absurd (omega (arith, ints))

pub reference_number : (i : ℤ) (n : ℕ) → i ≡ pos n → IsReference (record { 0 = n }) ↔ IsTypeNumber i
reference_number i n e = (
  λ r. record { type = record { 0 = n }; refers = record { number = e; reference = r } },
  λ r. let same : r.type.0 ≡ n = (let h : pos r.type.0 ≡ pos n = sym r.refers.number ∙ e in cc) in subst
      (λ m. IsReference (record { 0 = m })) same r.refers.reference,
)

-- ---- fieldTypes

-- the Id of a fieldType, and its Name
abbrev pub id_said : Value → ℤ
id_said v = number_in (present_field 1 (fields_in (Some (view v))))

abbrev pub name_said : Value → List ℕ
name_said v = name_in (present_field 0 (fields_in (Some (view v))))

pub have_item : (vs : List Value) (i : ℕ) (v : Value) → v ≡ get_or vs i v → i < length vs
    → (IsTypeNumber (id_said v) × HaveTypes (said_fields (views (drop (i + 1) vs))))
    ↔ HaveTypes (said_fields (views (drop i vs)))
have_item vs i v is h = rw (views_item vs i v is h) (λ f. and_type f.0 f.1, back)
  where
    back : HaveTypes (said_fields (tree (view v) (views (drop (i + 1) vs)))) → IsTypeNumber (id_said v)
        × HaveTypes (said_fields (views (drop (i + 1) vs)))
    back (and_type p ps) = (p, ps)

pub have_none : (vs : List Value) (i : ℕ) → length vs ≤ i → HaveTypes (said_fields (views (drop i vs)))
have_none vs i h = rw (none_left vs i h) no_type

-- the fields that the first fieldTypes gave, with what is still to come
pub record GivesSoFar (vs : List Value) (i : ℕ) (gs : List Field) : Type 0 where
  pub left : HaveTypes (said_fields (views (drop i vs)))
  pub then : (hs : List Field) → GivesFields (said_fields (views (drop i vs))) hs
      → GivesFields (said_fields (views vs)) (gs ++ hs)

pub gives_start : (vs : List Value) → HaveTypes (said_fields (views vs)) → GivesSoFar vs 0 []
gives_start vs h = record { left = h; then = λ hs g. g }

pub gives_more : (vs : List Value) (i : ℕ) (gs hs : List Field) (v : Value) (f : Field) → GivesSoFar vs i gs
    → v ≡ get_or vs i v → i < length vs → f.name ≡ name_said v → RefersTo (id_said v) f.id → hs ≡ gs ++ f ∷ []
    → GivesSoFar vs (i + 1) hs
gives_more vs i gs hs v f so_far is h name id more = record {
  left = ((have_item vs i v is h).1 so_far.left).1;
  then = λ rest g.
      let all = so_far.then (f ∷ rest) (rw (views_item vs i v is h) (and_field (sym name) id g)) in
      subst (GivesFields (said_fields (views vs)))
      (sym (append_assoc gs (f ∷ []) rest) ∙ ap (λ (xs : List Field). xs ++ rest) (sym more)) all;
}

pub gives_end : (vs : List Value) (i : ℕ) (gs : List Field) → GivesSoFar vs i gs → length vs ≤ i
    → GivesFields (said_fields (views vs)) gs
gives_end vs i gs so_far h = subst (GivesFields (said_fields (views vs))) (append-nil gs)
    (so_far.then [] (rw (none_left vs i h) no_more))
