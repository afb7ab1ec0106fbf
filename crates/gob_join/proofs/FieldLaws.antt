-- Fields and kinds that are renamed, one after another.
use Rattle.std.proofs.Common.{◌≡◌, ℕ, ◌+◌, ◌<◌, List, [], ◌∷◌, ◌++◌, Some, None, length, take, refl, sym, subst, ap}
use Rattle.std.proofs.Common.{◌∙◌}
use Rattle.std.proofs.Common.{true, false, Bool, eqb-true}
use Rattle.std.proofs.lemmas.Option.{none-some}
use Rattle.std.specs.Prelude.{◌==◌, get_or}
use Rattle.std.proofs.lemmas.List.{take_more}
use Rattle.gob_types.specs.Base.{id}
use Rattle.gob_types.specs.declared.id.TypeId.{TypeId}
use Rattle.gob_types.specs.declared.basic.Basic.{Basic}
use Rattle.gob_types.specs.declared.kind.Field.{Field}
use Rattle.gob_types.specs.declared.kind.Marshal.{Marshal}
use Rattle.gob_types.specs.declared.kind.Kind.{Kind}
use Rattle.gob_types.specs.declared.kind.Kind.TheVariants as kind
use Rattle.gob_join.specs.Renaming.{AreRenamedFields, no_field, field_then, IsRenamedField, IsRenamedKind, of_basic}
use Rattle.gob_join.specs.Renaming.{of_array, of_slice, of_struct, of_map, of_opaque, LetsStand, NewId}

-- ---- fields

pub one_field_more : {R : NewId} {fs gs : List Field} {f g : Field} → AreRenamedFields R fs gs → IsRenamedField R f g
    → AreRenamedFields R (fs ++ f ∷ []) (gs ++ g ∷ [])
one_field_more no_field h = field_then h no_field
one_field_more (field_then k ks) h = field_then k (one_field_more ks h)

pub fields_at : {R : NewId} {fs gs hs is : List Field} → fs ≡ hs → gs ≡ is → AreRenamedFields R fs gs
    → AreRenamedFields R hs is
fields_at {R = R} {gs = gs} {hs = hs} e f a =
    subst (λ gs. AreRenamedFields R hs gs) f (subst (λ fs. AreRenamedFields R fs gs) e a)

-- the fields up to one, and that one
pub one_taken : (fs : List Field) (k : ℕ) (f : Field) → k < length fs → f ≡ get_or fs k f
    → take k fs ++ f ∷ [] ≡ take (k + 1) fs
one_taken fs k f l e = ap (λ f. take k fs ++ f ∷ []) e ∙ sym (take_more fs k f l)

-- ---- kinds

pub basic_kinds : {R : NewId} {k l : Kind} {b c : Basic} → k ≡ kind.Basic b → l ≡ kind.Basic c → b ≡ c
    → IsRenamedKind R k l
basic_kinds {R = R} {b = b} e f g = rw e (rw f (subst (λ c. IsRenamedKind R (kind.Basic b) (kind.Basic c)) g of_basic))

pub opaque_kinds : {R : NewId} {k l : Kind} {m n : Marshal} → k ≡ kind.Opaque m → l ≡ kind.Opaque n → m ≡ n
    → IsRenamedKind R k l
opaque_kinds {R = R} {m = m} e f g =
    rw e (rw f (subst (λ n. IsRenamedKind R (kind.Opaque m) (kind.Opaque n)) g of_opaque))

pub slice_kinds : {R : NewId} {k l : Kind} {e u : TypeId} → k ≡ kind.Slice e → l ≡ kind.Slice u → R e ≡ Some u
    → IsRenamedKind R k l
slice_kinds e f g = rw e (rw f (of_slice g))

pub array_kinds : {R : NewId} {k l : Kind} {e u : TypeId} {n m : ℕ} → k ≡ kind.Array e n → l ≡ kind.Array u m → n ≡ m
    → R e ≡ Some u → IsRenamedKind R k l
array_kinds {R = R} {e = e} {u = u} {n = n} p q s g =
    rw p (rw q (subst (λ m. IsRenamedKind R (kind.Array e n) (kind.Array u m)) s (of_array g)))

pub struct_kinds : {R : NewId} {k l : Kind} {fs gs : List Field} → k ≡ kind.Struct fs → l ≡ kind.Struct gs
    → AreRenamedFields R fs gs → IsRenamedKind R k l
struct_kinds e f a = rw e (rw f (of_struct a))

pub map_kinds : {R : NewId} {k l : Kind} {d c e u : TypeId} → k ≡ kind.Map d e → l ≡ kind.Map c u → R d ≡ Some c
    → R e ≡ Some u → IsRenamedKind R k l
map_kinds e f g h = rw e (rw f (of_map g h))

-- ---- ids

-- one more id stands for another
pub stands_more : {old now : NewId} {own new : TypeId} → old own ≡ None → now own ≡ Some new
    → ((q : TypeId) → (own.0 == q.0) ≡ false → now q ≡ old q) → LetsStand own new old now
stands_more {old = old} {now = now} {own = own} none stands f = record {
  stands = stands;
  others = λ t u e. kept t u e (own.0 == t.0) refl;
  only = λ t u e n. sym (f t (apart t n (own.0 == t.0) refl)) ∙ e;
}
  where
    same : {a b : TypeId} → a.0 ≡ b.0 → a ≡ b
    same e = ap (λ n. id n) e

    kept : (t u : TypeId) → old t ≡ Some u → (b : Bool) → (own.0 == t.0) ≡ b → now t ≡ Some u
    kept t u e true is = absurd (none-some _ (sym none ∙ ap old (same (eqb-true own.0 t.0 is)) ∙ e))
    kept t u e false is = f t is ∙ e

    apart : (t : TypeId) → (t.0 ≡ own.0 → ⊥) → (b : Bool) → (own.0 == t.0) ≡ b → (own.0 == t.0) ≡ false
    apart t n true is = absurd (n (sym (eqb-true own.0 t.0 is)))
    apart t n false is = is
