-- Types in which interfaces are numbers: they lead to the same types, and are ready where the types themselves are.
use Rattle.std.proofs.Common.{◌≡◌, ◌∙◌, ℕ, Option, None, Some, refl, sym, ap, subst}
use Rattle.std.proofs.lemmas.Option.{none-some}
use Rattle.gob_types.specs.declared.basic.Basic.{Basic}
use Rattle.gob_types.specs.declared.basic.Basic.TheVariants as basic
use Rattle.gob_types.specs.declared.id.TypeId.{TypeId}
use Rattle.gob_types.specs.declared.kind.Kind.{Kind}
use Rattle.gob_types.specs.declared.kind.Kind.TheVariants as kind
use Rattle.gob_types.specs.declared.kind.Shape.{Shape}
use Rattle.gob_types.specs.Ready.{HasRank, plain, filled, IsFilledArray, IsReady, Leads, here, onward, Names}
use Rattle.gob_types.specs.Table.{Table, basic_kind, basic_of, basic_shape, shape_of, IsDefined}
use Rattle.gob_types.proofs.PublicLaws.{Keeps, some_injective}
use Rattle.gob_filled_match.specs.Machine.Distinct.{numbered_in, shape_of-numbered}
use Rattle.gob_filled_match.specs.Numbered.{numbered, numbered_as, numbered_basic, numbered_shape, uint_shape}

-- ---- kinds
abbrev numbered_kind : Kind → Kind
numbered_kind (kind.Basic b) = kind.Basic (numbered_basic b)
numbered_kind k = k

kind_as : (s : Shape) (k : Kind) → s.kind ≡ k → (numbered_as s k).kind ≡ numbered_kind k
kind_as s (kind.Basic basic.Interface) e = refl
kind_as s _ e = e

kind_of : (s : Shape) → (numbered_shape s).kind ≡ numbered_kind s.kind
kind_of s = kind_as s s.kind refl

names_back : (k : Kind) (w : TypeId) → Names (numbered_kind k) w → Names k w
names_back (kind.Basic b) w h = h
names_back _ w h = h

filled_back : (k : Kind) → IsFilledArray (numbered_kind k) → IsFilledArray k
filled_back (kind.Basic b) h = h
filled_back _ h = h

-- ---- look-ups
pub no_shape : (T : Table) (t : TypeId) → shape_of T t ≡ None → shape_of (numbered T) t ≡ None
no_shape T t e = shape_of-numbered T t ∙ ap numbered_in e

pub shape_of_interface : (T : Table) (t : TypeId) {s : Shape} → shape_of T t ≡ Some s
    → s.kind ≡ kind.Basic basic.Interface → shape_of (numbered T) t ≡ Some uint_shape
shape_of_interface T t {s = s} e i =
    shape_of-numbered T t ∙ ap numbered_in e ∙ ap (λ k. Some (numbered_as s k)) i

other_as : (s : Shape) (k : Kind) → ¬ (k ≡ kind.Basic basic.Interface) → numbered_as s k ≡ s
other_as s (kind.Basic basic.Interface) n = absurd (n refl)
other_as s _ n = refl

pub shape_of_other : (T : Table) (t : TypeId) {s : Shape} → shape_of T t ≡ Some s
    → ¬ (s.kind ≡ kind.Basic basic.Interface) → shape_of (numbered T) t ≡ Some s
shape_of_other T t {s = s} e n =
    shape_of-numbered T t ∙ ap numbered_in e ∙ ap (λ r. Some r) (other_as s s.kind n)

abbrev numbered_basics : Option Basic → Option Basic
numbered_basics None = None
numbered_basics (Some b) = Some (numbered_basic b)

basic_kind_as : (k : Kind) → basic_kind (numbered_kind k) ≡ numbered_basics (basic_kind k)
basic_kind_as (kind.Basic b) = refl
basic_kind_as _ = refl

basic_in : (o : Option Shape) → basic_shape (numbered_in o) ≡ numbered_basics (basic_shape o)
basic_in None = refl
basic_in (Some s) = ap basic_kind (kind_of s) ∙ basic_kind_as s.kind

-- the basic type of an id, numbered
pub basic_of-numbered : (T : Table) (t : TypeId) → basic_of (numbered T) t ≡ numbered_basics (basic_of T t)
basic_of-numbered T t = ap basic_shape (shape_of-numbered T t) ∙ basic_in (shape_of T t)

pub no_basic : (T : Table) (t : TypeId) → basic_of T t ≡ None → basic_of (numbered T) t ≡ None
no_basic T t e = basic_of-numbered T t ∙ ap numbered_basics e

pub basic_is : (T : Table) (t : TypeId) {b : Basic} → basic_of T t ≡ Some b
    → basic_of (numbered T) t ≡ Some (numbered_basic b)
basic_is T t e = basic_of-numbered T t ∙ ap numbered_basics e

-- ---- shapes
pub shape_on : (T : Table) (t : TypeId) {s : Shape} → shape_of T t ≡ Some s
    → shape_of (numbered T) t ≡ Some (numbered_shape s)
shape_on T t e = shape_of-numbered T t ∙ ap numbered_in e

-- a shape of the numbered table is that of the table, numbered
record ShapeBack (T : Table) (t : TypeId) (s : Shape) : Type 0 where
  pub shape : Shape
  pub found : shape_of T t ≡ Some shape
  pub numbered : numbered_shape shape ≡ s

shape_back : (T : Table) (t : TypeId) (s : Shape) → shape_of (numbered T) t ≡ Some s → ShapeBack T t s
shape_back T t s e = by (shape_of T t) refl (sym (shape_of-numbered T t) ∙ e)
  where
    by : (o : Option Shape) → shape_of T t ≡ o → numbered_in o ≡ Some s → ShapeBack T t s
    by None f h = absurd (none-some _ h)
    by (Some r) f h = record { shape = r; found = f; numbered = some_injective h }

-- ---- readiness
leads_back : {T : Table} {n : ℕ} {t u : TypeId} → Leads (numbered T) n t u → Leads T n t u
leads_back here = here
leads_back {T = T} (onward {t = t} {w = w} {s = s} e names more) =
    let b = shape_back T t s e in
    onward b.found (names_back b.shape.kind w
    (subst (λ k. Names k w) (sym (ap (λ (x : Shape). x.kind) b.numbered) ∙ kind_of b.shape) names)) (leads_back more)

defined_on : (T : Table) (t : TypeId) → IsDefined T t → IsDefined (numbered T) t
defined_on T t d = (numbered_shape d.0, shape_on T t d.1)

rank_on : {T : Table} {r : ℕ} {t : TypeId} → HasRank T r t → HasRank (numbered T) r t
rank_on {T = T} (plain {t = t} {s = s} e none) =
    plain (shape_on T t e) (λ h. none (filled_back s.kind (subst IsFilledArray (kind_of s) h)))
rank_on {T = T} (filled {t = t} {s = s} e k pos more) =
    filled (shape_on T t e) (kind_of s ∙ ap numbered_kind k) pos (rank_on more)

pub ready_on : {T : Table} {t : TypeId} → IsReady T t → IsReady (numbered T) t
ready_on {T = T} ready u r =
    let d = ready u (record { steps = r.steps; leads = leads_back r.leads }) in
    (defined_on T u d.0, record { rank = d.1.rank; has = rank_on d.1.has })

-- ---- growth
pub numbered_keeps : {T V : Table} → Keeps T V → Keeps (numbered T) (numbered V)
numbered_keeps {T = T} {V = V} keeps = record {
  shape = λ t s e.
      let b = shape_back T t s e in
      subst (λ r. shape_of (numbered V) t ≡ Some r) b.numbered (shape_on V t (keeps.shape t b.shape b.found));
}
