-- Whatever allowed item is put where it is expected, the bytes begin a value.
use Rattle.std.proofs.Common.{◌≡◌, ℕ, ℤ, zero, suc, ◌+◌, ◌-◌, ◌/◌, ◌%◌, ◌<◌, ◌≤◌, inl, inr, true, false, List, [], ◌∷◌}
use Rattle.std.proofs.Common.{◌++◌, length, Some, arith, refl, sym, ap, ◌∙◌, subst, append_assoc}
use Rattle.std.proofs.lemmas.List.{length-reverse, reverse-reverse}
use Rattle.std.specs.Prelude.{pos, negsuc, slice_get, reverse}
use Rattle.gob_num.specs.Unsigned.{IsUnsigned, big_endian}
use Rattle.gob_num.specs.Signed.{IsSigned, not_negative, negative}
use Rattle.gob_num.specs.Pattern.{IsPattern}
use Rattle.gob_num.specs.Machine.Counters.{digits}
use Rattle.gob_num.proofs.PublicLaws.{length-digits, digits-bytes, big_endian-digits, reverse-bytes, unsigned_unique}
use Rattle.gob_num.proofs.PublicLaws.{unsigned_fits, pattern_spelled}
use Rattle.gob_types.specs.declared.id.TypeId.{TypeId}
use Rattle.gob_types.specs.declared.basic.Basic.TheVariants as basic
use Rattle.gob_types.specs.declared.kind.Field.{Field}
use Rattle.gob_types.specs.declared.kind.Kind.{Kind}
use Rattle.gob_types.specs.declared.kind.Kind.TheVariants as kind
use Rattle.gob_types.specs.Table.{Table}
use Rattle.gob_types.specs.Ready.{IsReady}
use Rattle.gob_types.proofs.PublicLaws.{names_ready}
use Rattle.gob_value.specs.Tree as Value
use Rattle.gob_value.specs.Tree.{no_field, field}
use Rattle.gob_value.specs.Spelling.{Spells, of_type, SpellsAs, of_bool, of_int, of_uint, of_float, of_complex, of_nil}
use Rattle.gob_value.specs.Spelling.{of_bytes, of_text, of_opaque, of_slice, of_array, of_map, of_struct, end_of_fields}
use Rattle.gob_value.specs.Spelling.{next_field}
use Rattle.gob_value.specs.Top.{SpellsTop, at_once, tagged}
use Rattle.gob_value.proofs.PublicLaws.{AllReady}
use Rattle.gob_read.specs.Expected.{Expected, Allows, first_allowed}
use Rattle.gob_read.specs.Expects.{FieldsRun, no_fields, ExpectsAt, first, second, byte_content, text_content}
use Rattle.gob_read.specs.Expects.{opaque_content, next_delta, Expects, in_itself, in_part, ExpectsTop, in_struct}
use Rattle.gob_read.specs.Expects.{at_tag, behind_tag}
use Rattle.gob_read.specs.Begins.{BeginsValue, IsProperPrefix}
use Rattle.gob_read.specs.Laws.{HasCountedArrays, IsExpected, is_number, is_raw, ExpectsMore}
use Rattle.gob_read.proofs.Grammar.Prefixes.{append_nil}
use Rattle.gob_read.proofs.Grammar.Whole.{next_below}
use Rattle.gob_read.proofs.Grammar.Stay.{enters_named}
use Rattle.gob_read.proofs.Grammar.Complete.{ready_has_value, copies, entry_copies, FieldsFrom, run_then, Filled}
use Rattle.gob_read.proofs.Grammar.Complete.{FilledType, of_filled, enters_filled, bytes_of, zero_spelled}

-- each unsigned number is one of a signed number ..
record OfSigned (b : List ℕ) : Type 0 where
  pub value : ℤ
  pub spelled : IsSigned value b

number_signed : {n : ℕ} {b : List ℕ} → IsUnsigned n b → OfSigned b
number_signed {n = n} {b = b} u = from (n % 2) refl
  where
    from : (k : ℕ) → n % 2 ≡ k → OfSigned b
    from zero e = record { value = pos (n / 2); spelled = not_negative (subst (λ m. IsUnsigned m b) (omega arith) u) }
    from (suc k) e = record { value = negsuc (n / 2); spelled = negative (subst (λ m. IsUnsigned m b) (omega arith) u) }

-- .. and one of a pattern
record OfPattern (b : List ℕ) : Type 0 where
  pub value : ℕ
  pub spelled : IsPattern value b

number_pattern : {n : ℕ} {b : List ℕ} → IsUnsigned n b → OfPattern b
number_pattern {n = n} {b = b} u =
    let d : List ℕ = digits 8 n in
    record {
      value = big_endian (reverse d);
      spelled = record {
        digits = reverse d;
        eight = record {
          eight = length-reverse d ∙ length-digits 8 n;
          bytes = reverse-bytes d (digits-bytes 8 n);
          value = refl;
        };
        spelled = subst (λ m. IsUnsigned m b) (sym (ap big_endian (reverse-reverse d)
            ∙ big_endian-digits 8 n (let l = unsigned_fits u in omega arith))) u;
      };
    }

field_there : (types : List Field) (f : ℕ) → f < length types → (e : Field) × (slice_get types f ≡ Some e)
field_there [] f l = absurd (omega arith)
field_there (e ∷ types) zero l = (e, refl)
field_there (e ∷ types) (suc f) l = field_there types f (omega arith)

-- fields go on with an allowed delta
delta_filled : {T : Table} {types : List Field} {next n : ℕ} {a c : List ℕ} → HasCountedArrays T
    → AllReady T (kind.Struct types) → FieldsRun T types 0 next a → next ≤ length types → n ≤ length types - next
    → IsUnsigned n c → Filled T (kind.Struct types) (a ++ c)
delta_filled {T = T} {types = types} {next = next} {n = zero} {a = a} {c = c} l r q k m u =
    let end : FieldsFrom T types next c = record { fields = no_field; spelled = end_of_fields u } in
    let all = run_then q end in
    record {
      value = Value.fields all.fields;
      rest = [];
      spelled =
          subst (SpellsAs T (kind.Struct types) (Value.fields all.fields)) (sym (append_nil (a ++ c)))
          (of_struct {fs = all.fields} all.spelled);
    }
delta_filled {T = T} {types = types} {next = next} {n = suc n} {a = a} {c = c} l r q k m u =
    let e = field_there types (next + n) (omega arith) in
    let h = ready_has_value l (r.each e.0.id (record { number = next + n; field = e.0; there = e.1; type = refl })) in
    let number : IsUnsigned (next + n + 1 - next) c = subst (λ m. IsUnsigned m c) (omega arith) u in
    let end : FieldsFrom T types next (c ++ (h.bytes ++ 0 ∷ [])) = record {
      fields = field (next + n) h.value no_field;
      spelled = next_field (omega arith) e.1 number h.spelled (end_of_fields zero_spelled);
    } in
    let all = run_then q end in
    record {
      value = Value.fields all.fields;
      rest = h.bytes ++ 0 ∷ [];
      spelled =
          subst (SpellsAs T (kind.Struct types) (Value.fields all.fields)) (sym (append_assoc a c (h.bytes ++ 0 ∷ [])))
          (of_struct {fs = all.fields} all.spelled);
    }

bool_filled : {T : Table} {n : ℕ} {c : List ℕ} → n ≤ 1 → IsUnsigned n c → Filled T (kind.Basic basic.Bool) c
bool_filled {T = T} {n = zero} {c = c} l u = record {
  value = Value.bool false;
  rest = [];
  spelled =
      subst (SpellsAs T (kind.Basic basic.Bool) (Value.bool false)) (sym (append_nil c)) (of_bool u);
}
bool_filled {T = T} {n = suc n} {c = c} l u = record {
  value = Value.bool true;
  rest = [];
  spelled =
      subst (SpellsAs T (kind.Basic basic.Bool) (Value.bool true)) (sym (append_nil c))
      (of_bool (subst (λ n. IsUnsigned n c) (omega arith) u));
}

whole_filled : {T : Table} {k : Kind} {v : Value.Tree} {c : List ℕ} → SpellsAs T k v c → Filled T k c
whole_filled {T = T} {k = k} {v = v} {c = c} s = record {
  value = v;
  rest = [];
  spelled =
      subst (SpellsAs T k v) (sym (append_nil c)) s;
}

-- the first number
first_filled : {T : Table} {n : ℕ} {c : List ℕ} (k : Kind) → HasCountedArrays T → AllReady T k
    → Allows (first_allowed k) n → IsUnsigned n c → Filled T k c
first_filled (kind.Basic basic.Bool) l r a u = bool_filled a u
first_filled (kind.Basic basic.Int) l r a u = whole_filled (of_int (number_signed u).spelled)
first_filled (kind.Basic basic.Uint) l r a u = whole_filled (of_uint u)
first_filled (kind.Basic basic.Float) l r a u = whole_filled (of_float (number_pattern u).spelled)
first_filled {n = n} {c = c} (kind.Basic basic.Bytes) l r a u = let s = bytes_of n in
    record { value = Value.bytes s.0; rest = s.0; spelled = of_bytes (subst (λ n. IsUnsigned n c) (sym s.1) u) }
first_filled {n = n} {c = c} (kind.Basic basic.Str) l r a u = let s = bytes_of n in
    record { value = Value.text s.0; rest = s.0; spelled = of_text (subst (λ n. IsUnsigned n c) (sym s.1) u) }
first_filled (kind.Basic basic.Complex) l r a u =
    let p = number_pattern u in let s = pattern_spelled 0 (omega arith) in
    record { value = Value.complex p.value 0; rest = s.bytes; spelled = of_complex p.spelled s.spelled }
first_filled {c = c} (kind.Basic basic.Interface) l r a u = whole_filled (of_nil (subst (λ n. IsUnsigned n c) a u))
first_filled {c = c} (kind.Array e m) l r a u =
    let vs = copies (ready_has_value l (r.each e refl)) m in
    record {
      value = Value.many vs.elements.trees;
      rest = vs.bytes;
      spelled =
          of_array vs.elements.count (subst (λ n. IsUnsigned n c) a u) vs.elements.spelled;
    }
first_filled {n = n} {c = c} (kind.Slice e) l r a u =
    let vs = copies (ready_has_value l (r.each e refl)) n in
    record {
      value = Value.many vs.elements.trees;
      rest = vs.bytes;
      spelled =
          of_slice (subst (λ n. IsUnsigned n c) (sym vs.elements.count) u) vs.elements.spelled;
    }
first_filled {T = T} {n = n} {c = c} (kind.Struct types) l r a u = delta_filled l r no_fields (omega arith)
    (omega arith) u
first_filled {n = n} {c = c} (kind.Map k e) l r a u =
    let ps = entry_copies (ready_has_value l (r.each k (inl refl))) (ready_has_value l (r.each e (inr refl))) n in
    record {
      value = Value.pairs ps.entries.pairs;
      rest = ps.bytes;
      spelled =
          of_map (subst (λ n. IsUnsigned n c) (sym ps.entries.count) u) ps.entries.spelled;
    }
first_filled {n = n} {c = c} (kind.Opaque m) l r a u = let s = bytes_of n in record {
  value = Value.opaque s.0;
  rest =
      s.0;
  spelled = of_opaque (subst (λ n. IsUnsigned n c) (sym s.1) u);
}

at_taken : {T : Table} {k : Kind} {p c : List ℕ} {w : Expected} → HasCountedArrays T → AllReady T k → ExpectsAt T k p w
    → IsExpected w c → Filled T k (p ++ c)
at_taken l r (first {k = k}) (is_number a u) = first_filled k l r a u
at_taken l r (second s) (is_number a u) = whole_filled (of_complex s (number_pattern u).spelled)
at_taken l r (byte_content {b = b} m u) (is_raw e) = whole_filled (of_bytes (subst (λ n. IsUnsigned n b) (sym e) u))
at_taken l r (text_content {b = b} m u) (is_raw e) = whole_filled (of_text (subst (λ n. IsUnsigned n b) (sym e) u))
at_taken l r (opaque_content {b = b} m u) (is_raw e) = whole_filled (of_opaque (subst (λ n. IsUnsigned n b) (sym e) u))
at_taken l r (next_delta m q) (is_number a u) = delta_filled l r q (next_below q (omega arith)) a u

taken_filled : {T : Table} {t : TypeId} {p c : List ℕ} {w : Expected} {d : ℕ} → HasCountedArrays T → IsReady T t
    → Expects T t p w d → IsExpected w c → FilledType T t (p ++ c)
taken_filled l r (in_itself e a) i = of_filled e (at_taken l (record { each = λ w n. names_ready r e n }) a i)
taken_filled {T = T} {t = t} {c = c} l r (in_part {p = p} {q = q} e n a) i =
    let part = taken_filled l (names_ready r e (enters_named n)) a i in
    let all = enters_filled l (record { each = λ w n. names_ready r e n }) n part.spelled in
    record {
      value = all.value;
      rest = part.rest ++ all.rest;
      spelled =
          subst (Spells T t all.value) (regrouped q p c part.rest all.rest) (of_type e all.spelled);
    }
  where
    regrouped : (q p c r s : List ℕ) → (q ++ ((p ++ c) ++ r)) ++ s ≡ ((q ++ p) ++ c) ++ (r ++ s)
    regrouped q p c r s = simp append_assoc

-- behind a place and an allowed item there a value goes on
pub taken_begins : {T : Table} {t : TypeId} {p c : List ℕ} {w : Expected} {d : ℕ} → HasCountedArrays T → IsReady T t
    → ExpectsTop T t p w d → IsExpected w c → BeginsValue T t (p ++ c)
taken_begins l r (in_struct e i a) m = let h = taken_filled l r a m in record {
  value = h.value;
  rest = h.rest;
  spelled = at_once e i h.spelled;
}
taken_begins {T = T} {t = t} l r (at_tag e n) (is_number {c = c} a u) =
    let h = ready_has_value l r in
    let tag : 0 ∷ [] ≡ c = unsigned_unique zero_spelled (subst (λ n. IsUnsigned n c) a u) in
    record {
      value = h.value;
      rest = h.bytes;
      spelled = subst (λ c. SpellsTop T t h.value (c ++ h.bytes)) tag
          (tagged e n h.spelled);
    }
taken_begins l r (behind_tag e n a) m = let h = taken_filled l r a m in record {
  value = h.value;
  rest = h.rest;
  spelled = tagged e n h.spelled;
}

-- bytes that stand in a value are a proper prefix of a spelling
pub standing_prefix : {T : Table} {t : TypeId} {z : List ℕ} → HasCountedArrays T → IsReady T t → ExpectsMore T t z
    → IsProperPrefix T t z
standing_prefix {T = T} {t = t} {z = z} l r h =
    let b = taken_begins l r h.expects h.begun.item in
    record {
      begins = record {
        value = b.value;
        rest = h.begun.rest ++ b.rest;
        spelled =
            subst (SpellsTop T t b.value) (regrouped h.before h.under_way h.begun.rest b.rest
            ∙ sym (ap (λ l. l ++ (h.begun.rest ++ b.rest)) h.whole)) b.spelled;
      };
      more = λ e. h.begun.more (prefix_nothing h.begun.rest b.rest e);
    }
  where
    regrouped : (p r s x : List ℕ) → (p ++ (r ++ s)) ++ x ≡ (p ++ r) ++ (s ++ x)
    regrouped p r s x = simp append_assoc

    prefix_nothing : (a b : List ℕ) → a ++ b ≡ [] → a ≡ []
    prefix_nothing [] b e = refl
    prefix_nothing (x ∷ a) b e = cc
