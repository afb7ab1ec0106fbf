-- The tidy form of a value that fits its type fits it.
use Rattle.std.proofs.Common.{ℕ, ◌+◌, ◌-◌, ◌≤◌, List, [], ◌++◌, arith, sym, ◌∙◌, subst}
use Rattle.gob_num.specs.Unsigned.{IsUnsigned}
use Rattle.gob_num.proofs.PublicLaws.{unsigned_spelled}
use Rattle.gob_types.specs.declared.id.TypeId.{TypeId}
use Rattle.gob_types.specs.declared.kind.Field.{Field}
use Rattle.gob_types.specs.declared.kind.Kind.{Kind}
use Rattle.gob_types.specs.declared.kind.Shape.{Shape}
use Rattle.gob_types.specs.Table.{Table}
use Rattle.gob_types.proofs.PublicLaws.{some_injective}
use Rattle.gob_value.specs.Tree.{Tree, Trees, Pairs, Fields}
use Rattle.gob_value.specs.Fits.{Fits, FitsKind}
use Rattle.gob_value.specs.Spelling as spelling
use Rattle.gob_value.specs.Spelling.{Spells, SpellsAs, SpellsEach, SpellsPairs, SpellsFields}
use Rattle.gob_value.specs.Tidy.{Tidies, of_type, TidiesAs, of_basic, of_opaque, of_slice, of_array, of_map, of_struct}
use Rattle.gob_value.specs.Tidy.{TidiesEach, no_element, element, TidiesPairs, no_entry, entry, TidiesFields, no_more}
use Rattle.gob_value.specs.Tidy.{dropped, kept}
use Rattle.gob_value.specs.TidyLaws.{HasSmallNumbers, AllHaveSmallNumbers, PairsHaveSmallNumbers}
use Rattle.gob_value.specs.TidyLaws.{FieldsHaveSmallNumbers}
use Rattle.gob_value.proofs.LengthLaws.{count_stays, pair_count_stays}
use Rattle.gob_value.proofs.TidyLaws.{same_shape}

mutual
  pub tidy_fits : {T : Table} {t : TypeId} {v w : Tree} {b : List ℕ} → Spells T t v b → Tidies T t v w
      → HasSmallNumbers v → Fits T t w
  tidy_fits {T = T} {v = v} {w = w} (spelling.of_type e q) (of_type f p) h =
      let r = tidy_fits_as q (subst (λ (s : Shape). TidiesAs T s.kind v w) (some_injective (sym f ∙ e)) p) h in
      record { bytes = r.bytes; spelled = spelling.of_type e r.spelled }

  tidy_fits_as : {T : Table} {k : Kind} {v w : Tree} {b : List ℕ} → SpellsAs T k v b → TidiesAs T k v w
      → HasSmallNumbers v → FitsKind T k w
  tidy_fits_as {b = b} p (of_basic n) h = record { bytes = b; spelled = p }
  tidy_fits_as {b = b} p (of_opaque n) h = record { bytes = b; spelled = p }
  tidy_fits_as (spelling.of_slice {c = c} q qs) (of_slice ps) h =
      let r = each_fits qs ps h in
      record {
        bytes = c ++ r.0;
        spelled = spelling.of_slice (subst (λ n. IsUnsigned n c) (sym (count_stays ps)) q) r.1;
      }
  tidy_fits_as (spelling.of_array {c = c} m q qs) (of_array ps) h =
      let r = each_fits qs ps h in record { bytes = c ++ r.0; spelled = spelling.of_array (count_stays ps ∙ m) q r.1 }
  tidy_fits_as (spelling.of_map {c = c} q qs) (of_map ps) h =
      let r = pairs_fit qs ps h in
      record {
        bytes = c ++ r.0;
        spelled = spelling.of_map (subst (λ n. IsUnsigned n c) (sym (pair_count_stays ps)) q)
            r.1;
      }
  tidy_fits_as (spelling.of_struct qs) (of_struct ps) h =
      let r = fields_fit 0 (omega arith) qs ps h in record { bytes = r.0; spelled = spelling.of_struct r.1 }

  each_fits : {T : Table} {e : TypeId} {vs ws : Trees} {b : List ℕ} → SpellsEach T e vs b → TidiesEach T e vs ws
      → AllHaveSmallNumbers vs → (c : List ℕ) × SpellsEach T e ws c
  each_fits spelling.no_element no_element h = ([], spelling.no_element)
  each_fits (spelling.element q qs) (element p ps) h =
      let r = tidy_fits q p h.0 in let rs = each_fits qs ps h.1 in (r.bytes ++ rs.0, spelling.element r.spelled rs.1)

  pairs_fit : {T : Table} {k e : TypeId} {ps rs : Pairs} {b : List ℕ} → SpellsPairs T k e ps b → TidiesPairs T k e ps rs
      → PairsHaveSmallNumbers ps → (c : List ℕ) × SpellsPairs T k e rs c
  pairs_fit spelling.no_entry no_entry h = ([], spelling.no_entry)
  pairs_fit (spelling.entry q r qs) (entry o p ps) h =
      let x = tidy_fits q o h.0 in let y = tidy_fits r p h.1 in let z = pairs_fit qs ps h.2 in
      (x.bytes ++ (y.bytes ++ z.0), spelling.entry x.spelled y.spelled z.1)

  -- the next field may have any number from a lower one on
  fields_fit : {T : Table} {types : List Field} {next : ℕ} {fs gs : Fields} {b : List ℕ} (low : ℕ) → low ≤ next
      → SpellsFields T types next fs b → TidiesFields T types fs gs
      → FieldsHaveSmallNumbers fs → (c : List ℕ) × SpellsFields T types low gs c
  fields_fit {b = b} low l (spelling.end_of_fields q) no_more h = (b, spelling.end_of_fields q)
  fields_fit low l (spelling.next_field m n o q qs) (dropped e p d ps) h = fields_fit low (omega arith) qs ps h.2
  fields_fit {T = T} {types = types} low l (spelling.next_field {f = f} {v = v} m n o (spelling.of_type {s = s} x q) qs)
      (kept {w = w} e p k r ps) h =
      let small = h.0 in
      let y = tidy_fits_as q (subst (λ (s : Shape). TidiesAs T s.kind v w) (sym (same_shape T types f e n p x)) r) h.1
      in
      let z = fields_fit (f + 1) (omega arith) qs ps h.2 in
      let a = unsigned_spelled (f + 1 - low) (omega arith) in
      (a.bytes ++ (y.bytes ++ z.0), spelling.next_field (omega arith) n a.spelled (spelling.of_type x y.spelled) z.1)
