-- How long the spelling of a sum is, and the tidy form of a value.
use Rattle.std.proofs.Common.{◌≡◌, ℕ, suc, ◌+◌, ◌-◌, ◌^◌, ◌<◌, ◌≤◌, inl, inr, List, [], ◌∷◌, ◌++◌, length, arith, refl}
use Rattle.std.proofs.Common.{sym, ap, subst, length-append}
use Rattle.std.proofs.Math.Nat.{pow-succ'}
use Rattle.std.proofs.lemmas.Bool.{cases_lt}
use Rattle.gob_num.specs.Unsigned.{IsCounted, IsUnsigned, short, long}
use Rattle.gob_num.proofs.PublicLaws.{pow256_mono, big_endian_below, unsigned_unique, unsigned_spelled, unsigned_fits}
use Rattle.gob_num.proofs.PublicLaws.{unsigned_length}
use Rattle.gob_types.specs.declared.id.TypeId.{TypeId}
use Rattle.gob_types.specs.declared.kind.Field.{Field}
use Rattle.gob_types.specs.declared.kind.Kind.{Kind}
use Rattle.gob_types.specs.Table.{Table}
use Rattle.gob_value.specs.Tree.{Tree, Trees, Pairs, Fields, tree_count, pair_count}
use Rattle.gob_value.specs.Spelling.{Spells}
use Rattle.gob_value.specs.Written.{Written, of_many, of_pairs, of_fields, WrittenEach, WrittenPairs, WrittenFields}
use Rattle.gob_value.specs.Written.{end_of_fields, next_field}
use Rattle.gob_value.specs.Written as written
use Rattle.gob_value.specs.Tidy.{Tidies, of_type, TidiesAs, of_basic, of_opaque, of_slice, of_array, of_map, of_struct}
use Rattle.gob_value.specs.Tidy.{TidiesEach, no_element, element, TidiesPairs, no_entry, entry, TidiesFields, no_more}
use Rattle.gob_value.specs.Tidy.{dropped, kept}
use Rattle.gob_value.proofs.UniqueLaws.{written_once}
use Rattle.gob_value.proofs.WrittenLaws.{spells_written}

-- ---- the spelling of a sum is no longer than those of its parts

too_few : (q m n : ℕ) → m < 256 ^ q → n < 256 ^ q → 256 ^ suc q ≤ m + n → ⊥
too_few q m n a b h = omega (arith, pow-succ' 256 q)

-- a number is below 256 to the length of its spelling
fits_length : {n : ℕ} {b : List ℕ} → IsUnsigned n b → n < 256 ^ length b
fits_length (short p) = omega arith
fits_length (long {digits = ds} p) = let v = p.value in omega
    (arith, big_endian_below ds p.bytes, pow256_mono (length ds) (suc (length ds)) (omega arith))

some_digit : {n head : ℕ} (ds : List ℕ) → IsCounted n head ds → 0 < length ds
some_digit [] p = let v = p.value in let l = p.large in absurd (omega arith)
some_digit (d ∷ ds) p = omega arith

-- where the first part has digits of its own
long_sum : {m n s g h : ℕ} (cs ds : List ℕ) {b : List ℕ} → IsCounted m g cs → IsUnsigned n b → IsCounted s h ds
    → s ≡ m + n → length ds ≤ length cs + length b
long_sum {m = m} {n = n} {s = s} cs ds {b = b} p q r e =
    let x = length cs + length b - 1 in
    let some = some_digit cs p in let any = (unsigned_length q).0 in
    elim (cases_lt (suc x) (length ds)) [
      | inl l ↦ absurd (too_few x m n (below x (omega arith)) (after x (omega arith)) (least x (omega arith)))
      | inr l ↦ omega arith
    ]
  where
    below : (x : ℕ) → length cs ≤ x → m < 256 ^ x
    below x l = let v = p.value in omega (arith, big_endian_below cs p.bytes, pow256_mono (length cs) x l)

    after : (x : ℕ) → length b ≤ x → n < 256 ^ x
    after x l = omega (arith, fits_length q, pow256_mono (length b) x l)

    least : (x : ℕ) → suc x < length ds → 256 ^ suc x ≤ m + n
    least x l = subst (λ k. 256 ^ suc x ≤ k) e (r.least (suc x) l)

pub sum_length : {m n s : ℕ} {a b c : List ℕ} → IsUnsigned m a → IsUnsigned n b → IsUnsigned s c → s ≡ m + n
    → length c ≤ length a + length b
sum_length p q (short r) e = omega (arith, unsigned_length p)
sum_length (short p) (short q) (long {digits = ds} r) e =
    elim (cases_lt 1 (length ds)) [
      | inl l ↦ absurd (omega (arith, r.least 1 l))
      | inr l ↦ omega arith
    ]
sum_length (long {digits = cs} p) q (long {digits = ds} r) e = omega (arith, long_sum cs ds p q r e)
sum_length (short p) (long {digits = cs} q) (long {digits = ds} r) e = omega
    (arith, long_sum cs ds q (short p) r (omega arith))

-- ---- the tidy form is no longer

-- a delta from a lower field number is at most so much longer
record Gap (low next extra : ℕ) : Type 0 where
  ordered : low ≤ next
  longer : (f : ℕ) (x y : List ℕ) → next ≤ f → IsUnsigned (f + 1 - low) x → IsUnsigned (f + 1 - next) y
      → length x ≤ length y + extra

no_gap : (next : ℕ) → Gap next next 0
no_gap next = record {
  ordered = omega arith;
  longer = λ f x y l p q. let e = ap length (unsigned_unique p q) in omega
      arith;
}

-- behind a field that is dropped
wider_gap : {low next extra f : ℕ} {a : List ℕ} → Gap low next extra → next ≤ f → IsUnsigned (f + 1 - next) a
    → Gap low (f + 1) (length a + extra)
wider_gap {low = low} {next = next} {extra = extra} {f = f} {a = a} g l p = record {
  ordered = let o = g.ordered in omega arith;
  longer = λ h x y m q r.
      let o = g.ordered in
      let s = unsigned_fits q in
      let z = unsigned_spelled (h + 1 - next) (omega arith) in
      let n = g.longer h x z.bytes (omega arith) q z.spelled in
      let k = sum_length r p z.spelled (omega arith) in
      omega arith;
}

pub count_stays : {T : Table} {e : TypeId} {vs ws : Trees} → TidiesEach T e vs ws → tree_count ws ≡ tree_count vs
count_stays no_element = refl
count_stays (element p ps) = omega (arith, count_stays ps)

pub pair_count_stays : {T : Table} {k e : TypeId} {ps qs : Pairs} → TidiesPairs T k e ps qs
    → pair_count qs ≡ pair_count ps
pair_count_stays no_entry = refl
pair_count_stays (entry p q ps) = omega (arith, pair_count_stays ps)

same_length : {m n : ℕ} {b c : List ℕ} → IsUnsigned m b → IsUnsigned n c → n ≡ m → length c ≡ length b
same_length {b = b} {c = c} p q e = sym (ap length (unsigned_unique p (subst (λ n. IsUnsigned n c) e q)))

mutual
  pub no_longer : {T : Table} {t : TypeId} {v w : Tree} {b c : List ℕ} → Tidies T t v w → Written v b → Written w c
      → length c ≤ length b
  no_longer (of_type e p) q r = no_longer_as p q r

  no_longer_as : {T : Table} {k : Kind} {v w : Tree} {b c : List ℕ} → TidiesAs T k v w → Written v b → Written w c
      → length c ≤ length b
  no_longer_as (of_basic n) q r = let e = ap length (written_once q r) in omega arith
  no_longer_as (of_opaque n) q r = let e = ap length (written_once q r) in omega arith
  no_longer_as (of_slice ps) (of_many {c = a} {b = b} q qs) (of_many {c = d} {b = c} r rs) = omega
      (arith, length-append a b, length-append d c, same_length q r (count_stays ps), each_no_longer ps qs rs)
  no_longer_as (of_array ps) (of_many {c = a} {b = b} q qs) (of_many {c = d} {b = c} r rs) = omega
      (arith, length-append a b, length-append d c, same_length q r (count_stays ps), each_no_longer ps qs rs)
  no_longer_as (of_map ps) (of_pairs {c = a} {b = b} q qs) (of_pairs {c = d} {b = c} r rs) = omega
      (arith, length-append a b, length-append d c, same_length q r (pair_count_stays ps), pairs_no_longer ps qs rs)
  no_longer_as (of_struct ps) (of_fields qs) (of_fields rs) = omega (arith, fields_no_longer (no_gap 0) ps qs rs)

  each_no_longer : {T : Table} {e : TypeId} {vs ws : Trees} {b c : List ℕ} → TidiesEach T e vs ws → WrittenEach vs b
      → WrittenEach ws c → length c ≤ length b
  each_no_longer no_element written.no_element written.no_element = omega arith
  each_no_longer (element p ps) (written.element {b = a} {c = b} q qs) (written.element {b = d} {c = c} r rs) =
      omega (arith, length-append a b, length-append d c, no_longer p q r, each_no_longer ps qs rs)

  pairs_no_longer : {T : Table} {k e : TypeId} {ps ps' : Pairs} {b c : List ℕ} → TidiesPairs T k e ps ps'
      → WrittenPairs ps b → WrittenPairs ps' c → length c ≤ length b
  pairs_no_longer no_entry written.no_entry written.no_entry = omega arith
  pairs_no_longer (entry o p ps) (written.entry {a = a} {b = b} {c = c} q r qs)
      (written.entry {a = x} {b = y} {c = z} s t rs) =
      omega (
        arith,
        length-append a (b ++ c),
        length-append b c,
        length-append x (y ++ z),
        length-append y z,
        no_longer
            o q s,
        no_longer p r t,
        pairs_no_longer ps qs rs,
      )

  fields_no_longer : {T : Table} {types : List Field} {low next extra : ℕ} {fs gs : Fields} {b c : List ℕ}
      → Gap low next extra → TidiesFields T types fs gs
      → WrittenFields next fs b → WrittenFields low gs c → length c ≤ length b + extra
  fields_no_longer g no_more (end_of_fields q) (end_of_fields r) = let e = ap length (unsigned_unique q r) in omega
      arith
  fields_no_longer g (dropped m e d ps) (next_field {a = a} {b = b} {c = c} l n q qs) rs =
      omega (arith, length-append a (b ++ c), length-append b c, fields_no_longer (wider_gap g l n) ps qs rs)
  fields_no_longer g (kept {f = f} m e n p ps) (next_field {a = a} {b = b} {c = c} l o q qs)
      (next_field {a = x} {b = y} {c = z} k s r rs) =
      omega (
        arith,
        length-append a (b ++ c),
        length-append b c,
        length-append x (y ++ z),
        length-append y z,
        g.longer f
            x a l s o,
        no_longer_as p q r,
        fields_no_longer (no_gap (f + 1)) ps qs rs,
      )

pub spelled_no_longer : {T : Table} {t : TypeId} {v w : Tree} {b c : List ℕ} → Tidies T t v w → Spells T t v b
    → Spells T t w c → length c ≤ length b
spelled_no_longer p q r = no_longer p (spells_written q) (spells_written r)
