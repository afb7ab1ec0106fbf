-- The arrays of a stream's table have lengths of 63 bits.
use Rattle.std.proofs.Common.{◌≡◌, ℕ, ◌^◌, ◌<◌, Bool, true, false, cond, [], ◌∷◌, ◌++◌, Some, arith, sym, subst}
use Rattle.std.specs.Prelude.{◌==◌}
use Rattle.gob_types.specs.declared.id.TypeId.{TypeId}
use Rattle.gob_types.specs.declared.kind.Kind.{Kind}
use Rattle.gob_types.specs.declared.kind.Kind.TheVariants as kind
use Rattle.gob_types.specs.declared.kind.Shape.{Shape}
use Rattle.gob_types.specs.Table.{Table, shape_of}
use Rattle.gob_types.specs.Base.{base_table}
use Rattle.gob_types.specs.Definable.{HasLength}
use Rattle.gob_types.specs.Defined.{IsTable, AreDefinitions}
use Rattle.gob_types.proofs.PublicLaws.{some_injective}
use Rattle.gob_read.specs.Laws.{HasCountedArrays}

-- what an array has in its shape
record IsCounted (k : Kind) : Type 0 where
  pub each : (e : TypeId) (n : ℕ) → k ≡ kind.Array e n → n < 2 ^ 64

abbrev AreCounted : Table → Type 0
AreCounted [] = Unit {0}
AreCounted (entry ∷ T) = IsCounted entry.1.kind × AreCounted T

both : (T U : Table) → AreCounted T → AreCounted U → AreCounted (T ++ U)
both [] U t u = u
both (entry ∷ T) U t u = (t.0, both T U t.1 u)

with_length : (k : Kind) → HasLength k → IsCounted k
with_length (kind.Basic b) l = absurd l
with_length (kind.Array e n) l = record { each = λ e' n' i. let m : n' ≡ n = cc in omega arith }
with_length (kind.Slice e) l = record { each = λ e' n' i. cc }
with_length (kind.Struct fs) l = record { each = λ e' n' i. cc }
with_length (kind.Map k e) l = record { each = λ e' n' i. cc }
with_length (kind.Opaque m) l = record { each = λ e' n' i. cc }

definitions_counted : (T : Table) → AreDefinitions T → AreCounted T
definitions_counted [] d = tt
definitions_counted (entry ∷ T) d = (with_length entry.1.kind d.1.length, definitions_counted T d.2)

-- no array at all
abbrev IsNone : Kind → Type 0
IsNone (kind.Array e n) = ⊥
IsNone _ = Unit {0}

abbrev AreNone : Table → Type 0
AreNone [] = Unit {0}
AreNone (entry ∷ T) = IsNone entry.1.kind × AreNone T

no_array : (k : Kind) → IsNone k → IsCounted k
no_array (kind.Basic b) l = record { each = λ e' n' i. cc }
no_array (kind.Array e n) l = absurd l
no_array (kind.Slice e) l = record { each = λ e' n' i. cc }
no_array (kind.Struct fs) l = record { each = λ e' n' i. cc }
no_array (kind.Map k e) l = record { each = λ e' n' i. cc }
no_array (kind.Opaque m) l = record { each = λ e' n' i. cc }

none_counted : (T : Table) → AreNone T → AreCounted T
none_counted [] d = tt
none_counted (entry ∷ T) d = (no_array entry.1.kind d.0, none_counted T d.1)

base_counted : AreCounted base_table
base_counted = none_counted base_table
    (tt, (tt, (tt, (tt, (tt, (tt, (tt, (tt, (tt, (tt, (tt, (tt, (tt, (tt, (tt, (tt, (tt, tt)))))))))))))))))

looked_up : (T : Table) (t : TypeId) (s : Shape) → AreCounted T → shape_of T t ≡ Some s → IsCounted s.kind
looked_up [] t s c e = cc
looked_up (entry ∷ T) t s c e = found (entry.0.0 == t.0) c.0 (λ f. looked_up T t s c.1 f) e
  where
    found : (b : Bool) → IsCounted entry.1.kind → (shape_of T t ≡ Some s → IsCounted s.kind)
        → cond b (Some entry.1) (shape_of T t) ≡ Some s → IsCounted s.kind
    found true h f e = subst (λ (s : Shape). IsCounted s.kind) (some_injective e) h
    found false h f e = f e

pub table_counted : {T : Table} → IsTable T → HasCountedArrays T
table_counted {T = T} h = record { counted = counted }
  where
    all : AreCounted T
    all = subst AreCounted (sym h.behind_base) (both base_table h.definitions base_counted
        (definitions_counted h.definitions h.definable))

    counted : (t : TypeId) (s : Shape) (e : TypeId) (n : ℕ) → shape_of T t ≡ Some s → s.kind ≡ kind.Array e n
        → n < 2 ^ 64
    counted t s e n f i = (looked_up T t s all f).each e n i
