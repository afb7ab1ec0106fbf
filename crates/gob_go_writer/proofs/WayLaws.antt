-- Where a way leads to, a nil comes next, as deep as the way is long.
use Rattle.std.proofs.Common.{◌≡◌, ◌∙◌, ℕ, suc, ◌+◌, ◌-◌, ◌≤◌, List, [], ◌∷◌, ◌++◌, arith, refl, sym, ap, subst}
use Rattle.std.proofs.Common.{append_assoc}
use Rattle.gob_num.specs.Unsigned.{IsUnsigned}
use Rattle.gob_types.specs.declared.basic.Basic.TheVariants as basic
use Rattle.gob_types.specs.declared.id.TypeId.{TypeId}
use Rattle.gob_types.specs.declared.kind.Field.{Field}
use Rattle.gob_types.specs.declared.kind.Kind.{Kind}
use Rattle.gob_types.specs.declared.kind.Kind.TheVariants as kind
use Rattle.gob_types.specs.Table.{Table}
use Rattle.gob_tidy.specs.SameNil.{PathStep, StandBeforeField, its_delta, field_before, StandBefore, slice_element}
use Rattle.gob_tidy.specs.SameNil.{array_element, map_key, map_element, struct_field, LeadsTo, to_itself, by_part}
use Rattle.gob_tidy.specs.SameNil.{LeadsFromTop, in_struct, behind_tag}
use Rattle.gob_read.specs.Expected.{a_number, nil}
use Rattle.gob_read.specs.Expects.{FieldsRun, no_fields, field_then, Enters, next_key, next_value, next_field}
use Rattle.gob_read.specs.Expects.{ExpectsAt, first, Expects, in_itself, in_part, ExpectsTop}
use Rattle.gob_read.specs.Expects as read

-- ---- fields

record BeforeField (T : Table) (types : List Field) (next number : ℕ) (a : List ℕ) : Type 0 where
  last : ℕ
  fields : List ℕ
  delta : List ℕ
  run : FieldsRun T types next last fields
  low : last ≤ number
  counts : IsUnsigned (number + 1 - last) delta
  whole : a ≡ fields ++ delta

before_field : {T : Table} {types : List Field} {next number : ℕ} {a : List ℕ} → StandBeforeField T types next number a
    → BeforeField T types next number a
before_field {next = next} {a = a} (its_delta l u) = record {
  last = next;
  fields = [];
  delta = a;
  run = no_fields;
  low = l;
  counts = u;
  whole = refl;
}
before_field (field_before {a = a} {b = b} {c = c} l e u p s) =
    let r = before_field s in
    record {
      last = r.last;
      fields = a ++ (b ++ r.fields);
      delta = r.delta;
      run = field_then l e u p r.run;
      low = r.low;
      counts = r.counts;
      whole = ap (λ x. a ++ (b ++ x)) r.whole ∙ ap (λ x. a ++ x) (sym (append_assoc b r.fields r.delta))
          ∙ sym (append_assoc a (b ++ r.fields) r.delta);
    }

-- ---- parts

enters : {T : Table} {k : Kind} {step : PathStep} {q : List ℕ} {u : TypeId} → StandBefore T k step q u → Enters T k q u
enters (slice_element u ps at l) = read.slice_element u ps (omega arith)
enters (array_element u ps at l) = read.array_element u ps (omega arith)
enters (map_key u ps at l) = next_key u ps (omega arith)
enters (map_element u ps at l p) = next_value u ps (omega arith) p
enters {T = T} (struct_field {types = types} {e = e} there s) =
    let r = before_field s in
    subst (λ q. Enters T (kind.Struct types) q e.id) (sym r.whole) (next_field r.run r.low there r.counts)

-- ---- ways

abbrev pub way_depth : List PathStep → ℕ
way_depth [] = 1
way_depth (s ∷ way) = suc (way_depth way)

nil_expected : {T : Table} {t : TypeId} {way : List PathStep} {p : List ℕ} → LeadsTo T t way p
    → Expects T t p (a_number nil) (way_depth way)
nil_expected {T = T} (to_itself known is) =
    in_itself known (subst (λ k. ExpectsAt T k [] (a_number nil)) (sym is) (first {k = kind.Basic basic.Interface}))
nil_expected (by_part known s l) = in_part known (enters s) (nil_expected l)

pub nil_expected_top : {T : Table} {t : TypeId} {way : List PathStep} {p : List ℕ} → LeadsFromTop T t way p
    → ExpectsTop T t p (a_number nil) (way_depth way)
nil_expected_top (in_struct known is l) = read.in_struct known is (nil_expected l)
nil_expected_top (behind_tag known not l) = read.behind_tag known not (nil_expected l)
