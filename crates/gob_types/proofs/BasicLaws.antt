-- Which types of a table are basic: those of the base table alone.
use Rattle.std.proofs.Common.{◌≡◌, ◌⊎◌, inl, inr, Option, Some, None, refl, sym, ap, ◌∙◌, subst}
use Rattle.gob_types.specs.declared.basic.Basic.{Basic}
use Rattle.gob_types.specs.declared.id.TypeId.{TypeId}
use Rattle.std.proofs.lemmas.Option.{none-some}
use Rattle.gob_types.specs.declared.kind.Kind.{Kind}
use Rattle.gob_types.specs.declared.kind.Kind.TheVariants as kind
use Rattle.gob_types.specs.declared.kind.Shape.{Shape}
use Rattle.gob_types.specs.Table.{Table, shape_of, basic_kind, basic_shape, basic_of}
use Rattle.gob_types.specs.Base.{base_table}
use Rattle.gob_types.specs.Definable.{HasLength, IsOwnId, IsDefinable}
use Rattle.gob_types.specs.Defined.{IsTable}
use Rattle.gob_types.proofs.GrowthLaws.{shape_of-append, some_injective}
use Rattle.gob_types.proofs.TableLaws.{shape_of-table}

-- what a definition gives isn't basic
defined_kind : (k : Kind) → HasLength k → basic_kind k ≡ None
defined_kind (kind.Basic b) l = absurd l
defined_kind (kind.Array e n) l = refl
defined_kind (kind.Slice e) l = refl
defined_kind (kind.Struct fs) l = refl
defined_kind (kind.Map k e) l = refl
defined_kind (kind.Opaque m) l = refl

-- a table has the basic types that the base table has
pub basic_of-table : {T : Table} → IsTable T → (t : TypeId) → basic_of T t ≡ basic_of base_table t
basic_of-table {T = T} table t = by (shape_of base_table t) refl (shape_of T t) refl
  where
    by : (a : Option Shape) → shape_of base_table t ≡ a → (b : Option Shape) → shape_of T t ≡ b
        → basic_of T t ≡ basic_of base_table t
    by (Some s) e b f =
        let grown : shape_of T t ≡ Some s = subst (λ U. shape_of U t ≡ Some s) (sym table.behind_base)
        (shape_of-append base_table table.definitions t s e) in
        ap basic_shape (grown ∙ sym e)
    by None e None f = ap basic_shape (f ∙ sym e)
    by None e (Some s) f = ap basic_shape f ∙ only (shape_of-table table t s f) ∙ sym (ap basic_shape e)
      where
        only : (shape_of base_table t ≡ Some s) ⊎ (IsOwnId t × IsDefinable s) → basic_kind s.kind ≡ None
        only (inl g) = cc
        only (inr d) = defined_kind s.kind d.1.length

-- a basic type has a shape, which says so
pub basic_shape_of : (T : Table) (t : TypeId) {b : Basic} → basic_of T t ≡ Some b → (s : Shape)
    × (shape_of T t ≡ Some s) × (s.kind ≡ kind.Basic b)
basic_shape_of T t {b = b} e = by (shape_of T t) refl e
  where
    of_kind : (k : Kind) → basic_kind k ≡ Some b → k ≡ kind.Basic b
    of_kind (kind.Basic c) f = ap kind.Basic (some_injective f)
    of_kind (kind.Array c n) f = absurd (none-some _ f)
    of_kind (kind.Slice c) f = absurd (none-some _ f)
    of_kind (kind.Struct c) f = absurd (none-some _ f)
    of_kind (kind.Map c d) f = absurd (none-some _ f)
    of_kind (kind.Opaque c) f = absurd (none-some _ f)

    by : (o : Option Shape) → shape_of T t ≡ o → basic_shape o ≡ Some b → (s : Shape) × (shape_of T t ≡ Some s)
        × (s.kind ≡ kind.Basic b)
    by None g f = absurd (none-some _ f)
    by (Some s) g f = (s, g, of_kind s.kind f)
