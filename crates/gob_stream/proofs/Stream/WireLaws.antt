-- wireType is ready in the base table, and so means the same in each table of a stream.
use Rattle.std.proofs.Common.{◌≡◌, ℕ, zero, suc, List, [], ◌∷◌, Bool, true, false, cond, Some, refl, subst}
use Rattle.std.specs.Prelude.{◌==◌, slice_get}
use Rattle.gob_types.specs.declared.id.TypeId.{TypeId}
use Rattle.gob_types.specs.declared.kind.Field.{Field}
use Rattle.gob_types.specs.declared.kind.Kind.{Kind}
use Rattle.gob_types.specs.declared.kind.Kind.TheVariants as kind
use Rattle.gob_types.specs.declared.kind.Shape.{Shape}
use Rattle.gob_types.specs.Base.{base_table, wire_type}
use Rattle.gob_types.specs.Table.{Table, shape_of, IsDefined, Extends}
use Rattle.gob_types.specs.Ready.{Names, Leads, here, onward, IsFilledArray, plain, IsReady}
use Rattle.gob_types.specs.Defined.{IsTable}
use Rattle.gob_types.proofs.PublicLaws.{extends_keeps, some_injective}
use Rattle.gob_value.specs.Tree.{Tree}
use Rattle.gob_value.specs.Fits.{Fits}
use Rattle.gob_value.proofs.PublicLaws.{spells_back}

-- ---- a table in which each shape names only types of it, and no array

abbrev FieldsIn : Table → List Field → Type 0
FieldsIn T [] = Unit {0}
FieldsIn T (f ∷ fs) = IsDefined T f.id × FieldsIn T fs

abbrev NamesIn : Table → Kind → Type 0
NamesIn T (kind.Basic b) = Unit {0}
NamesIn T (kind.Array e n) = ⊥
NamesIn T (kind.Slice e) = IsDefined T e
NamesIn T (kind.Struct fs) = FieldsIn T fs
NamesIn T (kind.Map k e) = ⊥
NamesIn T (kind.Opaque m) = Unit {0}

abbrev AllIn : Table → Table → Type 0
AllIn T [] = Unit {0}
AllIn T (entry ∷ U) = NamesIn T entry.1.kind × AllIn T U

field_in : (T : Table) (fs : List Field) (n : ℕ) (f : Field) → FieldsIn T fs → slice_get fs n ≡ Some f
    → IsDefined T f.id
field_in T [] n f all at = absurd (cc at)
field_in T (g ∷ fs) zero f all at = subst (λ h. IsDefined T h.id) (some_injective at) all.0
field_in T (g ∷ fs) (suc n) f all at = field_in T fs n f all.1 at

named_in : (T : Table) (k : Kind) (w : TypeId) → NamesIn T k → Names k w → IsDefined T w
named_in T (kind.Basic b) w all names = absurd names
named_in T (kind.Array e n) w all names = absurd all
named_in T (kind.Slice e) w all names = subst (IsDefined T) names all
named_in T (kind.Struct fs) w all names = subst (IsDefined T) names.type (field_in T fs names.number names.field all
    names.there)
named_in T (kind.Map k e) w all names = absurd all
named_in T (kind.Opaque m) w all names = absurd names

no_array : (T : Table) (k : Kind) → NamesIn T k → ¬ IsFilledArray k
no_array T (kind.Basic b) all filled = filled
no_array T (kind.Array e n) all filled = all
no_array T (kind.Slice e) all filled = filled
no_array T (kind.Struct fs) all filled = filled
no_array T (kind.Map k e) all filled = filled
no_array T (kind.Opaque m) all filled = filled

entry_in : (T U : Table) (t : TypeId) (s : Shape) → AllIn T U → shape_of U t ≡ Some s → NamesIn T s.kind
entry_in T [] t s all found = absurd (cc found)
entry_in T (entry ∷ U) t s all found = by (entry.0.0 == t.0) found (entry_in T U t s all.1)
  where
    by : (b : Bool) → cond b (Some entry.1) (shape_of U t) ≡ Some s → (shape_of U t ≡ Some s → NamesIn T s.kind)
        → NamesIn T s.kind
    by true found rest = subst (λ x. NamesIn T x.kind) (some_injective found) all.0
    by false found rest = rest found

leads_in : {T : Table} {n : ℕ} {t u : TypeId} → AllIn T T → IsDefined T t → Leads T n t u → IsDefined T u
leads_in all there here = there
leads_in {T = T} {t = t} all there (onward {w = w} {s = s} found names rest) =
    leads_in all (named_in T s.kind w (entry_in T T t s all found) names) rest

all_ready : {T : Table} {t : TypeId} → AllIn T T → IsDefined T t → IsReady T t
all_ready {T = T} all there u reached =
    let defined = leads_in all there reached.leads in (
      defined,
      record {
        rank = 0;
        has =
            plain defined.1 (no_array T defined.0.kind (entry_in T T u defined.0 all defined.1));
      },
    )

-- ---- the base table is one

two : IsDefined base_table (record { 0 = 2 })
two = (_, refl)

six : IsDefined base_table (record { 0 = 6 })
six = (_, refl)

common : IsDefined base_table (record { 0 = 18 })
common = (_, refl)

base_in : AllIn base_table base_table
base_in = (
  tt,
  (
    tt,
    (
      tt,
      (
        tt,
        (
          tt,
          (
            tt,
            (
              tt,
              (
                tt,
                (
                  ((_, refl), ((_, refl), ((_, refl), ((_, refl), ((_, refl), ((_, refl), ((_, refl), tt))))))),
                  (
                    (common, (two, (two, tt))),
                    (
                      (six, (two, tt)),
                      (
                        (common, (two, tt)),
                        (
                          (common, ((_, refl), tt)),
                          (
                            (six, (two, tt)),
                            (
                              (_, refl),
                              (
                                (common, (two, (two, tt))),
                                (
                                  (common, tt),
                                  tt,
                                ),
                              ),
                            ),
                          ),
                        ),
                      ),
                    ),
                  ),
                ),
              ),
            ),
          ),
        ),
      ),
    ),
  ),
)

pub wire_ready : IsReady base_table wire_type
wire_ready = all_ready base_in (_, refl)

-- ---- each table of a stream has it

pub table_extends : {T : Table} → IsTable T → Extends base_table T
table_extends table = record { more = table.definitions; grown = table.behind_base; distinct = table.distinct }

pub fits_base : {T : Table} {v : Tree} → IsTable T → Fits T wire_type v → Fits base_table wire_type v
fits_base table fits = record {
  bytes = fits.bytes;
  spelled = spells_back (extends_keeps (table_extends table))
      wire_ready fits.spelled;
}
