-- What is received of a value that fits the stream's type fits the wanted type.
use Rattle.std.proofs.Common.{◌≡◌, ℕ, suc, ◌+◌, ◌-◌, ◌≤◌, List, [], ◌∷◌, ◌++◌, Some, arith, refl, sym, ap, ◌∙◌, subst}
use Rattle.std.specs.Prelude.{slice_get, Result, Ok, Err, IfOk}
use Rattle.gob_num.specs.declared.memory.Memory.{Memory}
use Rattle.gob_num.specs.Unsigned.{IsUnsigned}
use Rattle.gob_num.proofs.PublicLaws.{unsigned_spelled}
use Rattle.gob_types.specs.declared.id.TypeId.{TypeId}
use Rattle.gob_types.specs.declared.kind.Field.{Field}
use Rattle.gob_types.specs.declared.kind.Kind.{Kind}
use Rattle.gob_types.specs.declared.kind.Shape.{Shape}
use Rattle.gob_types.specs.Table.{Table}
use Rattle.gob_types.proofs.PublicLaws.{some_injective}
use Rattle.gob_value.specs.declared.value.Value.{Value}
use Rattle.gob_value.specs.Fits.{Fits, FitsKind}
use Rattle.gob_value.specs.Spelling.{Spells, SpellsAs, SpellsEach, SpellsPairs, SpellsFields}
use Rattle.gob_value.specs.Spelling as spelling
use Rattle.gob_value.specs.TidyLaws.{HasSmallNumbers, AllHaveSmallNumbers, PairsHaveSmallNumbers}
use Rattle.gob_value.specs.TidyLaws.{FieldsHaveSmallNumbers}
use Rattle.gob_value.specs.Tree.{Tree, Trees, Pairs, Fields, depth, tree_count, pair_count}
use Rattle.gob_value.specs.View.{view}
use Rattle.gob_value.specs.Within.{FitsWithin}
use Rattle.gob_match.specs.declared.pair.TypePair.{TypePair}
use Rattle.gob_match.specs.Machine.Receiving.{IsReceived}
use Rattle.gob_match.specs.Received.{Receives, of_types, ReceivesAs, of_basics, of_opaques, of_arrays, of_slices}
use Rattle.gob_match.specs.Received.{of_maps, of_structs, ReceivesEach, no_element, element, ReceivesPairs, no_entry}
use Rattle.gob_match.specs.Received.{entry, ReceivesFields, no_more, absent, received}
use Rattle.gob_match.proofs.ReceiveLaws.{no_deeper}
use Rattle.gob_match.proofs.ReceiveSteps.{present_fits}

pub count_stays : {T U : Table} {e f : TypeId} {vs ws : Trees} → ReceivesEach T U e f vs ws
    → tree_count ws ≡ tree_count vs
count_stays no_element = refl
count_stays (element p ps) = ap (λ n. n + 1) (count_stays ps)

pub pair_count_stays : {T U : Table} {k l e f : TypeId} {ps qs : Pairs} → ReceivesPairs T U k l e f ps qs
    → pair_count qs ≡ pair_count ps
pair_count_stays no_entry = refl
pair_count_stays (entry o p ps) = ap (λ n. n + 1) (pair_count_stays ps)

-- these are the fields of the whole struct from this number on
record IsRest (whole : List Field) (n : ℕ) (rest : List Field) : Type 0 where
  each : (k : ℕ) (g : Field) → slice_get rest k ≡ Some g → slice_get whole (n + k) ≡ Some g

rest_on : {whole : List Field} {n : ℕ} {g : Field} {rest : List Field} → IsRest whole n (g ∷ rest)
    → IsRest whole (n + 1) rest
rest_on {whole = whole} {n = n} r = record {
  each = λ k h there. let e : n + suc k ≡ n + 1 + k = omega arith in ap
      (slice_get whole) (sym e) ∙ r.each (suc k) h there;
}

whole_rest : (whole : List Field) → IsRest whole 0 whole
whole_rest whole = record { each = λ k g there. let e : 0 + k ≡ k = omega arith in ap (slice_get whole) e ∙ there }

rest_first : {whole : List Field} {n : ℕ} {g : Field} {rest : List Field} → IsRest whole n (g ∷ rest)
    → slice_get whole n ≡ Some g
rest_first {whole = whole} {n = n} {g = g} r = let e : n + 0 ≡ n = omega arith in ap (slice_get whole) (sym e)
    ∙ r.each 0 g refl

mutual
  pub received_fits : {T U : Table} {t u : TypeId} {v w : Tree} {b : List ℕ} → Spells T t v b → Receives T U t u v w
      → HasSmallNumbers w → Fits U u w
  received_fits {T = T} {v = v} {b = b} (spelling.of_type e q) (of_types s r p) h =
      let f = fits_as (subst (λ (s : Shape). SpellsAs T s.kind v b) (some_injective (sym e ∙ s)) q) p h in
      record { bytes = f.bytes; spelled = spelling.of_type r f.spelled }

  fits_as : {T U : Table} {k l : Kind} {v w : Tree} {b : List ℕ} → SpellsAs T k v b → ReceivesAs T U k l v w
      → HasSmallNumbers w → FitsKind U l w
  fits_as {b = b} (spelling.of_bool p) of_basics h = record { bytes = b; spelled = spelling.of_bool p }
  fits_as {b = b} (spelling.of_int p) of_basics h = record { bytes = b; spelled = spelling.of_int p }
  fits_as {b = b} (spelling.of_uint p) of_basics h = record { bytes = b; spelled = spelling.of_uint p }
  fits_as {b = b} (spelling.of_float p) of_basics h = record { bytes = b; spelled = spelling.of_float p }
  fits_as {b = b} (spelling.of_complex p q) of_basics h = record { bytes = b; spelled = spelling.of_complex p q }
  fits_as {b = b} (spelling.of_nil p) of_basics h = record { bytes = b; spelled = spelling.of_nil p }
  fits_as {b = b} (spelling.of_bytes p) of_basics h = record { bytes = b; spelled = spelling.of_bytes p }
  fits_as {b = b} (spelling.of_text p) of_basics h = record { bytes = b; spelled = spelling.of_text p }
  fits_as {b = b} (spelling.of_opaque p) of_opaques h = record { bytes = b; spelled = spelling.of_opaque p }
  fits_as (spelling.of_slice {c = c} q qs) (of_slices ps) h = let r = each_fit qs ps h in record
      { bytes = c ++ r.0; spelled = spelling.of_slice (subst (λ n. IsUnsigned n c) (sym (count_stays ps)) q) r.1 }
  fits_as (spelling.of_array {c = c} m q qs) (of_arrays ps) h = let r = each_fit qs ps h in record
      { bytes = c ++ r.0; spelled = spelling.of_array (count_stays ps ∙ m) q r.1 }
  fits_as (spelling.of_map {c = c} q qs) (of_maps ps) h = let r = pairs_fit qs ps h in record
      { bytes = c ++ r.0; spelled = spelling.of_map (subst (λ n. IsUnsigned n c) (sym (pair_count_stays ps)) q) r.1 }
  fits_as (spelling.of_struct qs) (of_structs {wanted = wanted} ps) h = let r = fields_fit {whole = wanted} 0
      (omega arith) (whole_rest wanted) qs ps h in record { bytes = r.0; spelled = spelling.of_struct r.1 }

  each_fit : {T U : Table} {e f : TypeId} {vs ws : Trees} {b : List ℕ} → SpellsEach T e vs b
      → ReceivesEach T U e f vs ws → AllHaveSmallNumbers ws → (c : List ℕ) × SpellsEach U f ws c
  each_fit spelling.no_element no_element h = ([], spelling.no_element)
  each_fit (spelling.element q qs) (element p ps) h = let r = received_fits q p h.0 in let rs = each_fit qs ps h.1 in
      (r.bytes ++ rs.0, spelling.element r.spelled rs.1)

  pairs_fit : {T U : Table} {k l e f : TypeId} {ps rs : Pairs} {b : List ℕ} → SpellsPairs T k e ps b
      → ReceivesPairs T U k l e f ps rs → PairsHaveSmallNumbers rs → (c : List ℕ) × SpellsPairs U l f rs c
  pairs_fit spelling.no_entry no_entry h = ([], spelling.no_entry)
  pairs_fit (spelling.entry q r qs) (entry o p ps) h =
      let x = received_fits q o h.0 in let y = received_fits r p h.1 in let z = pairs_fit qs ps h.2 in
      (x.bytes ++ (y.bytes ++ z.0), spelling.entry x.spelled y.spelled z.1)

  -- the next field may have any number from a lower one on
  fields_fit : {T U : Table} {types whole : List Field} {fs : Fields} {b : List ℕ} (low : ℕ) {n : ℕ}
      {wanted : List Field} {gs : Fields} → low ≤ n → IsRest whole n wanted → SpellsFields T types 0 fs b
      → ReceivesFields T U types fs n wanted gs
      → FieldsHaveSmallNumbers gs → (c : List ℕ) × SpellsFields U whole low gs c
  fields_fit low l rest qs no_more h = let z = unsigned_spelled 0 (omega arith) in
      (z.bytes, spelling.end_of_fields z.spelled)
  fields_fit low l rest qs (absent a ps) h = fields_fit low (omega arith) (rest_on rest) qs ps h
  fields_fit {T = T} low l rest qs (received {n = n} {v = v} p r ps) h =
      let small = h.0 in
      let f = present_fits qs p.present p.there in
      let y = received_fits (subst (λ t. Spells T t v f.bytes) p.typed f.spelled) r h.1 in
      let z = fields_fit (n + 1) (omega arith) (rest_on rest) qs ps h.2 in
      let a = unsigned_spelled (n + 1 - low) (omega arith) in
      (a.bytes ++ (y.bytes ++ z.0), spelling.next_field l (rest_first rest) a.spelled y.spelled z.1)

-- what a call of `receive` gives
pub given : (T U : Table) (p : TypePair) (v : Tree) (r : Result Value Memory)
    → IfOk r (λ w. IsReceived T U p v (view w)) → IfOk r (λ w. Receives T U p.stream p.wanted v (view w))
given T U p v (Ok w) g = g.receives
given T U p v (Err e) g = tt

pub given_fits : (T U : Table) (p : TypePair) (v : Tree) (r : Result Value Memory) → Fits T p.stream v
    → IfOk r (λ w. IsReceived T U p v (view w)) → IfOk r (λ w. FitsWithin U p.wanted (depth v) (view w))
given_fits T U p v (Ok w) f g =
    let r = received_fits f.spelled g.receives g.small in
    record { bytes = r.bytes; spelled = r.spelled; within = no_deeper g.receives }
given_fits T U p v (Err e) f g = tt
