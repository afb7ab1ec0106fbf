-- A value behind its tag, or a struct without one.
use Rattle.std.proofs.Common.{◌≡◌, ℕ, ◌≤◌, List, [], ◌∷◌, ◌++◌, Some, refl, sym, ap, subst}
use Rattle.std.proofs.Common.{append_assoc, arith, zero-add}
use Rattle.gob_num.specs.Unsigned.{IsUnsigned, short}
use Rattle.gob_num.proofs.PublicLaws.{unsigned_unique}
use Rattle.gob_types.specs.declared.id.TypeId.{TypeId}
use Rattle.gob_types.specs.declared.kind.Fields as declared
use Rattle.gob_types.specs.declared.kind.Kind.{Kind}
use Rattle.gob_types.specs.declared.kind.Kind.TheVariants as kind
use Rattle.gob_types.specs.declared.kind.Shape.{Shape}
use Rattle.gob_types.specs.Table.{Table, shape_of}
use Rattle.gob_value.specs.Top.{IsStruct, SpellsTop, at_once, tagged}
use Rattle.gob_read.specs.Expects.{ExpectsTop, in_struct, behind_tag}
use Rattle.gob_explain.specs.Open.{Open, a_value}
use Rattle.gob_explain.specs.Path.{PathOf}
use Rattle.gob_explain.specs.Path as path
use Rattle.gob_explain.specs.Walk.{BeginsPart}
use Rattle.gob_explain.specs.declared.row.PartStep.{PartStep}
use Rattle.gob_explain.specs.declared.row.PartStep.TheVariants as step
use Rattle.gob_explain.specs.Machine.Walking.{BeginsAt, IsValueAt, SpellsOne, SpellsWhole}

pub struct_begins : {T : Table} {t : TypeId} {s : Shape} → shape_of T t ≡ Some s → IsStruct s.kind
    → BeginsPart T t [] t 0
struct_begins {T = T} {t = t} f i = record {
  expects = λ q w d x. subst (λ e. ExpectsTop T t q w e) (sym (zero-add d)) (in_struct f i x);
}

pub value_begins : {T : Table} {t : TypeId} {s : Shape} → shape_of T t ≡ Some s → ¬ IsStruct s.kind
    → BeginsPart T t (0 ∷ []) t 0
value_begins {T = T} {t = t} f n = record {
  expects = λ q w d x. subst (λ e. ExpectsTop T t (0 ∷ q) w e) (sym (zero-add d)) (behind_tag f n x);
}

-- at the path of the value
pub struct_at : {T : Table} {t : TypeId} {s : Shape} {base : ℕ} {outer : List Open} {way : List PartStep}
    → IsValueAt T t base outer way → shape_of T t ≡ Some s → IsStruct s.kind → BeginsAt T t base [] outer t 0 way
struct_at v f i = record { begins = struct_begins f i; leads = λ q steps x. v q steps (path.in_struct f i x) }

pub tagged_at : {T : Table} {t : TypeId} {s : Shape} {base : ℕ} {outer : List Open} {way : List PartStep}
    → IsValueAt T t base outer way → shape_of T t ≡ Some s → ¬ IsStruct s.kind
    → BeginsAt T t base (0 ∷ []) outer t 0 way
tagged_at v f n = record {
  begins = value_begins f n;
  leads = λ q steps x. v (0 ∷ q) steps (path.behind_tag f n x);
}

-- what an item has, and what an interface holds
pub item_at : {T : Table} {t : TypeId} → IsValueAt T t 0 [] []
item_at = λ p steps x. path.of_item x

pub held_at : {T : Table} {t : TypeId} {base : ℕ} {outer : List Open} {way : List PartStep} → PathOf T outer way
    → IsValueAt T t base outer (way ++ step.Held t ∷ [])
held_at {T = T} {t = t} {base = base} {outer = outer} {way = way} h = λ p steps x.
    subst (λ w. PathOf T (a_value t base p ∷ outer) w) (sym (append_assoc way (step.Held t ∷ []) steps))
    (path.of_held h x)

-- a tag is one byte
pub tag_is : {n : ℕ} {b : List ℕ} → n ≤ 0 → IsUnsigned n b → b ≡ 0 ∷ []
tag_is {n = n} {b = b} l q =
    let none : n ≡ 0 = omega arith in
    let zero : IsUnsigned 0 (0 ∷ []) = short (omega arith) in
    unsigned_unique (subst (λ k. IsUnsigned k b) none q) zero

pub value_begins_at : {T : Table} {t u : TypeId} {base : ℕ} {p q : List ℕ} {outer : List Open} {around : ℕ}
    {way : List PartStep} → q ≡ p → BeginsAt T t base p outer u around way → BeginsAt T t base q outer u around way
value_begins_at {T = T} {t = t} {u = u} {base = base} {outer = outer} {around = around} {way = way} e b =
    subst (λ p. BeginsAt T t base p outer u around way) (sym e) b

pub struct_whole_top : {T : Table} {t : TypeId} {s : Shape} (b : List ℕ) → shape_of T t ≡ Some s
    → IsStruct s.kind → SpellsOne T t b → SpellsWhole T t b
struct_whole_top b f i q = (q.0, at_once f i q.1)

pub tagged_whole_top : {T : Table} {t : TypeId} {s : Shape} (c b : List ℕ) → shape_of T t ≡ Some s
    → ¬ IsStruct s.kind → c ≡ 0 ∷ [] → SpellsOne T t b → SpellsWhole T t (c ++ b)
tagged_whole_top {T = T} {t = t} c b f n e q =
    (q.0, subst (SpellsTop T t q.0) (ap (λ r. r ++ b) (sym e)) (tagged f n q.1))

pub no_struct : (k : Kind) → ((fields : declared.Fields) → ¬ (k ≡ kind.Struct fields)) → ¬ IsStruct k
no_struct (kind.Struct fields) n = λ i. n fields refl
no_struct _ n = λ i. i
