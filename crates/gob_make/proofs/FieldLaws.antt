-- Fields that are put among others, and those that a struct leaves out.
use Rattle.std.proofs.Common.{◌≡◌, ◌<◌, ◌≤◌, ◌+◌, ℕ, List, [], ◌∷◌, ◌++◌, refl, ap, sym, subst, arith, cond}
use Rattle.std.proofs.Common.{Some, None}
use Rattle.std.specs.BTreeMap.{insert_entry, is_at}
use Rattle.std.specs.Map.{lookup}
use Rattle.std.specs.Ordering.{is_eq, match_ordering, nat_cmp}
use Rattle.std.specs.declared.cmp.Ordering.{Ordering}
use Rattle.std.specs.declared.cmp.Ordering.TheVariants.{Less, Equal, Greater}
use Rattle.std.proofs.lemmas.Cmp.{ranked}
use Rattle.std.proofs.lemmas.Option.{none-some}
use Rattle.gob_types.specs.declared.kind.Field.{Field}
use Rattle.gob_types.specs.Table.{Table}
use Rattle.gob_value.specs.Tree.{Fields, no_field, field}
use Rattle.gob_value.specs.View.{view, field_views}
use Rattle.gob_value.specs.declared.value.Value.{Value}
use Rattle.gob_make.specs.Plain.{Puts, here, further}
use Rattle.gob_make.specs.Zero.{AreKept, IsLeftOut, no_more, left_out, kept}

-- ---- one is put in its place

-- none of the fields has its number
pub puts_entry : (es : List (ℕ × Value)) (f least : ℕ) (v : Value) → least ≤ f → lookup (is_at (nat_cmp f)) es ≡ None
    → Puts f (view v) least (field_views es) (field_views (insert_entry nat_cmp es f v))
puts_entry [] f least v low none = here low tt
puts_entry (e ∷ es) f least v low none =
    at (nat_cmp f e.0) refl none (λ above rest. puts_entry es f (e.0 + 1) v above rest)
  where
    at : (r : Ordering) → r ≡ nat_cmp f e.0 → cond (is_eq r) (Some e.1) (lookup (is_at (nat_cmp f)) es) ≡ None
        → (e.0 + 1 ≤ f → lookup (is_at (nat_cmp f)) es ≡ None
        → Puts f (view v) (e.0 + 1) (field_views es) (field_views (insert_entry nat_cmp es f v)))
        → Puts f (view v) least (field_views (e ∷ es))
        (field_views (match_ordering r ((f, v) ∷ e ∷ es) ((e.0, v) ∷ es) (e ∷ insert_entry nat_cmp es f v)))
    at Less is none further_on = here low (ranked f e.0 Less is)
    at Equal is none further_on = absurd (none-some _ (sym none))
    at Greater is none further_on =
        let above : e.0 < f = ranked f e.0 Greater is in
        further (further_on (omega arith) none)

-- ---- those that a struct leaves out

abbrev pub then_fields : List (ℕ × Value) → Fields → Fields
then_fields [] gs = gs
then_fields (x ∷ xs) gs = field x.0 (view x.1) (then_fields xs gs)

one_more_of_fields : (xs : List (ℕ × Value)) (n : ℕ) (v : Value) (gs : Fields)
    → then_fields (xs ++ (n, v) ∷ []) gs ≡ then_fields xs (field n (view v) gs)
one_more_of_fields [] n v gs = refl
one_more_of_fields (y ∷ xs) n v gs = ap (field y.0 (view y.1)) (one_more_of_fields xs n v gs)

all_of_fields : (xs : List (ℕ × Value)) → then_fields xs no_field ≡ field_views xs
all_of_fields [] = refl
all_of_fields (x ∷ xs) = ap (field x.0 (view x.1)) (all_of_fields xs)

-- whatever is kept of the fields that are left stands behind those that were kept
abbrev pub KeptGoOn : Table → List Field → (all left kept : List (ℕ × Value)) → Type 0
KeptGoOn T types all left xs = (gs : Fields) → AreKept T types (field_views left) gs
    → AreKept T types (field_views all) (then_fields xs gs)

pub none_kept_yet : (T : Table) (types : List Field) (all : List (ℕ × Value)) → KeptGoOn T types all all []
none_kept_yet T types all = λ gs k. k

pub one_left_out : (T : Table) (types : List Field) (all left rest xs : List (ℕ × Value)) (n : ℕ) (v : Value)
    → KeptGoOn T types all left xs → left ≡ (n, v) ∷ rest → IsLeftOut T types n (view v)
    → KeptGoOn T types all rest xs
one_left_out T types all left rest xs n v goes e is = λ gs k.
    goes gs (subst (λ (l : List (ℕ × Value)). AreKept T types (field_views l) gs) (sym e) (left_out is k))

pub one_kept : (T : Table) (types : List Field) (all left rest xs ys : List (ℕ × Value)) (n : ℕ) (v : Value)
    → KeptGoOn T types all left xs → left ≡ (n, v) ∷ rest → ¬ IsLeftOut T types n (view v)
    → ys ≡ xs ++ (n, v) ∷ [] → KeptGoOn T types all rest ys
one_kept T types all left rest xs ys n v goes e other more = λ gs k.
    subst (λ (zs : List (ℕ × Value)). AreKept T types (field_views all) (then_fields zs gs)) (sym more)
    (subst (λ hs. AreKept T types (field_views all) hs) (sym (one_more_of_fields xs n v gs))
    (goes (field n (view v) gs)
    (subst (λ (l : List (ℕ × Value)). AreKept T types (field_views l) (field n (view v) gs)) (sym e) (kept other k))))

pub all_kept : (T : Table) (types : List Field) (all left xs : List (ℕ × Value)) → KeptGoOn T types all left xs
    → left ≡ [] → AreKept T types (field_views all) (field_views xs)
all_kept T types all left xs goes e =
    subst (λ hs. AreKept T types (field_views all) hs) (all_of_fields xs)
    (goes no_field (subst (λ (l : List (ℕ × Value)). AreKept T types (field_views l) no_field) (sym e) no_more))
