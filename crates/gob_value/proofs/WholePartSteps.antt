-- Whole elements and entries at the front of bytes, one more behind those that stand there.
use Rattle.std.proofs.Common.{◌≡◌, ℕ, ◌≤◌, List, ◌++◌, length, false, take, drop, arith, refl, sym, ap, ◌∙◌, subst}
use Rattle.std.proofs.Common.{length-append}
use Rattle.std.proofs.lemmas.List.{length-drop}
use Rattle.std.proofs.Math.Seq.{take-append_seam}
use Rattle.gob_types.specs.declared.id.TypeId.{TypeId}
use Rattle.gob_types.specs.Table.{Table}
use Rattle.gob_value.specs.Spelling.{SpellsEach, SpellsPairs}
use Rattle.gob_value.specs.Machine.Begins.{HoldsBetween, BeginsEach, BeginsPairs}
use Rattle.gob_value.proofs.WholeSteps.{none_stand, no_pairs_stand}
use Rattle.gob_value.specs.WholeParts.{HasElements, HasEntries}

-- what stands before the rest of the bytes is their prefix
prefix_is : (bytes prefix : List ℕ) (end : ℕ) → end ≤ length bytes → bytes ≡ prefix ++ drop end bytes
    → prefix ≡ take end bytes
prefix_is bytes prefix end l e =
    let n = ap length e in
    let size : length prefix ≡ end = omega (arith, length-append prefix (drop end bytes), length-drop end bytes) in
    sym (ap (λ k. take k bytes) (sym size) ∙ ap (λ (b : List ℕ). take (length prefix) b) e
    ∙ take-append_seam prefix (drop end bytes))

pub has_elements : {T : Table} {e : TypeId} {a b count : ℕ} {bytes : List ℕ} {end : ℕ} → a ≤ b
    → HoldsBetween (BeginsEach T false e a count) bytes 0 end → HasElements T e b count bytes end
has_elements {T = T} {e = e} {bytes = bytes} {end = end} l s =
    let g = s.begins in
    let w = g.within in
    record {
      values = g.values;
      spelled = subst (SpellsEach T e g.values) (prefix_is bytes g.bytes end s.inside g.whole) g.spelled;
      within = omega arith;
      counted = g.counted;
      inside = s.inside;
    }

pub has_entries : {T : Table} {k e : TypeId} {a b count : ℕ} {bytes : List ℕ} {end : ℕ} → a ≤ b
    → HoldsBetween (BeginsPairs T false k e a count) bytes 0 end → HasEntries T k e b count bytes end
has_entries {T = T} {k = k} {e = e} {bytes = bytes} {end = end} l s =
    let g = s.begins in
    let w = g.within in
    record {
      pairs = g.pairs;
      spelled = subst (SpellsPairs T k e g.pairs) (prefix_is bytes g.bytes end s.inside g.whole) g.spelled;
      within = omega arith;
      counted = g.counted;
      inside = s.inside;
    }

-- elements of which all are no deeper than a limit are no deeper than a greater one
pub elements_within : {T : Table} {e : TypeId} {a b count : ℕ} {bytes : List ℕ} {end : ℕ} → a ≤ b
    → HasElements T e a count bytes end → HasElements T e b count bytes end
elements_within l h =
    let w = h.within in record {
      values = h.values;
      spelled = h.spelled;
      within = omega arith;
      counted = h.counted;
      inside = h.inside;
    }

-- none stand at once
module _ (T : Table) where
  pub no_elements : (e : TypeId) (limit : ℕ) (bytes : List ℕ) → HasElements T e limit 0 bytes 0
  no_elements e limit bytes = has_elements {a = limit} (omega arith) (none_stand T false e limit 0 bytes 0 refl
      (omega arith))

  pub no_entries : (k e : TypeId) (limit : ℕ) (bytes : List ℕ) → HasEntries T k e limit 0 bytes 0
  no_entries k e limit bytes = has_entries {a = limit} (omega arith) (no_pairs_stand T false k e limit 0 bytes 0 refl
      (omega arith))
