-- No spelling begins another of its type, and equal spellings have equal values.
use Rattle.std.proofs.Common.{◌≡◌, ℕ, ◌+◌, Bool, true, false, List, ◌∷◌, ◌++◌, length, arith, refl, sym, ap, ◌∙◌, subst}
use Rattle.std.proofs.Common.{append_assoc}
use Rattle.std.specs.Prelude.{slice_get}
use Rattle.gob_num.specs.Unsigned.{IsUnsigned}
use Rattle.gob_num.specs.Spelled.{Same}
use Rattle.gob_num.proofs.PublicLaws.{append_split, unsigned_prefix, signed_prefix, pattern_prefix}
use Rattle.gob_types.specs.declared.id.TypeId.{TypeId}
use Rattle.gob_types.specs.declared.kind.Field.{Field}
use Rattle.gob_types.specs.declared.kind.Kind.{Kind}
use Rattle.gob_types.specs.declared.kind.Shape.{Shape}
use Rattle.gob_types.specs.Table.{Table}
use Rattle.gob_types.proofs.PublicLaws.{some_injective}
use Rattle.gob_value.specs.Tree.{Tree, Trees, tree, Pairs, pair, Fields, field, tree_count, pair_count}
use Rattle.gob_value.specs.Tree as Value
use Rattle.gob_value.specs.Spelling.{truth, Spells, of_type, SpellsAs, of_bool, of_int, of_uint, of_float, of_complex}
use Rattle.gob_value.specs.Spelling.{of_nil, of_bytes, of_text, of_opaque, of_slice, of_array, of_map, of_struct}
use Rattle.gob_value.specs.Spelling.{SpellsEach, no_element, element, SpellsPairs, no_entry, entry, SpellsFields}
use Rattle.gob_value.specs.Spelling.{end_of_fields, next_field}
use Rattle.gob_value.specs.Top.{IsStruct, SpellsTop, at_once, tagged}

mapped : {A B : Type 0} {v w : A} {b c x y : List ℕ} (f : A → B) → Same v w b c x y → Same (f v) (f w) b c x y
mapped f r = record { value = ap f r.value; bytes = r.bytes; rest = r.rest }

regroup : (b p x c q y : List ℕ) → (b ++ p) ++ x ≡ (c ++ q) ++ y → b ++ (p ++ x) ≡ c ++ (q ++ y)
regroup b p x c q y e = sym (append_assoc b p x) ∙ e ∙ append_assoc c q y

-- one thing behind another
joined : {A B C : Type 0} {v w : A} {v' w' : B} {b c p q x y : List ℕ} (f : A → B → C) → Same v w b c (p ++ x) (q ++ y)
    → Same v' w' p q x y → Same (f v v') (f w w') (b ++ p) (c ++ q) x y
joined {v = v} {w = w} {v' = v'} {w' = w'} {b = b} {c = c} {p = p} {q = q} f r s =
    let ev : v ≡ w = r.value in let ew : v' ≡ w' = s.value in let eb : b ≡ c = r.bytes in let ep : p ≡ q = s.bytes in
    record { value = cc; bytes = cc; rest = s.rest }

same_truth : (a b : Bool) → truth a ≡ truth b → a ≡ b
same_truth false false e = refl
same_truth false true e = absurd (omega arith)
same_truth true false e = absurd (omega arith)
same_truth true true e = refl

-- a count and that many bytes
same_bytes : {s t b c : List ℕ} (x y : List ℕ) → IsUnsigned (length s) b → IsUnsigned (length t) c
    → (b ++ s) ++ x ≡ (c ++ t) ++ y → Same s t (b ++ s) (c ++ t) x y
same_bytes {s = s} {t = t} {b = b} {c = c} x y p q e =
    let r = unsigned_prefix (s ++ x) (t ++ y) p q (regroup b s x c t y e) in
    let u = append_split s t x y r.value r.rest in
    joined (λ _ v. v) r (record { value = u.0; bytes = u.0; rest = u.1 })

mutual
  pub same_spelling : {T : Table} {t : TypeId} {v w : Tree} {b c : List ℕ} (x y : List ℕ) → Spells T t v b
      → Spells T t w c → b ++ x ≡ c ++ y → Same v w b c x y
  same_spelling {T = T} {w = w} {c = c} x y (of_type {s = k} e p) (of_type {s = l} f q) h =
      let one : l ≡ k = some_injective (sym f ∙ e) in
      same_as x y p (subst (λ (s : Shape). SpellsAs T s.kind w c) one q) h

  pub same_as : {T : Table} {k : Kind} {v w : Tree} {b c : List ℕ} (x y : List ℕ) → SpellsAs T k v b → SpellsAs T k w c
      → b ++ x ≡ c ++ y → Same v w b c x y
  same_as x y (of_bool {x = m} p) (of_bool {x = n} q) h = let r = unsigned_prefix x y p q h in record
      { value = ap Value.bool (same_truth m n r.value); bytes = r.bytes; rest = r.rest }
  same_as x y (of_int p) (of_int q) h = mapped Value.int (signed_prefix x y p q h)
  same_as x y (of_uint p) (of_uint q) h = mapped Value.uint (unsigned_prefix x y p q h)
  same_as x y (of_float p) (of_float q) h = mapped Value.float (pattern_prefix x y p q h)
  same_as x y (of_complex {b = b} {c = p'} p s) (of_complex {b = c} {c = q'} q t) h =
      let r = pattern_prefix (p' ++ x) (q' ++ y) p q (regroup b p' x c q' y h) in
      joined Value.complex r (pattern_prefix x y s t r.rest)
  same_as x y (of_nil p) (of_nil q) h = let r = unsigned_prefix x y p q h in record
      { value = refl; bytes = r.bytes; rest = r.rest }
  same_as x y (of_bytes p) (of_bytes q) h = mapped Value.bytes (same_bytes x y p q h)
  same_as x y (of_text p) (of_text q) h = mapped Value.text (same_bytes x y p q h)
  same_as x y (of_opaque p) (of_opaque q) h = mapped Value.opaque (same_bytes x y p q h)
  same_as x y (of_slice {c = b} {b = p'} p ps) (of_slice {c = c} {b = q'} q qs) h =
      let r = unsigned_prefix (p' ++ x) (q' ++ y) p q (regroup b p' x c q' y h) in
      joined (λ _ vs. Value.many vs) r (same_each x y ps qs r.value r.rest)
  same_as x y (of_array {c = b} {b = p'} m p ps) (of_array {c = c} {b = q'} n q qs) h =
      let r = unsigned_prefix (p' ++ x) (q' ++ y) p q (regroup b p' x c q' y h) in
      joined (λ _ vs. Value.many vs) r (same_each x y ps qs (m ∙ sym n) r.rest)
  same_as x y (of_map {c = b} {b = p'} p ps) (of_map {c = c} {b = q'} q qs) h =
      let r = unsigned_prefix (p' ++ x) (q' ++ y) p q (regroup b p' x c q' y h) in
      joined (λ _ vs. Value.pairs vs) r (same_pairs x y ps qs r.value r.rest)
  same_as x y (of_struct ps) (of_struct qs) h = mapped Value.fields (same_fields x y ps qs h)

  pub same_each : {T : Table} {e : TypeId} {v w : Trees} {b c : List ℕ} (x y : List ℕ) → SpellsEach T e v b
      → SpellsEach T e w c → tree_count v ≡ tree_count w → b ++ x ≡ c ++ y → Same v w b c x y
  same_each x y no_element no_element n h = record { value = refl; bytes = refl; rest = h }
  same_each x y no_element (element q qs) n h = absurd (omega arith)
  same_each x y (element p ps) no_element n h = absurd (omega arith)
  same_each x y (element {b = b} {c = p'} p ps) (element {b = c} {c = q'} q qs) n h =
      let r = same_spelling (p' ++ x) (q' ++ y) p q (regroup b p' x c q' y h) in
      joined tree r (same_each x y ps qs (omega arith) r.rest)

  pub same_pairs : {T : Table} {k e : TypeId} {v w : Pairs} {b c : List ℕ} (x y : List ℕ) → SpellsPairs T k e v b
      → SpellsPairs T k e w c → pair_count v ≡ pair_count w → b ++ x ≡ c ++ y → Same v w b c x y
  same_pairs x y no_entry no_entry n h = record { value = refl; bytes = refl; rest = h }
  same_pairs x y no_entry (entry q s qs) n h = absurd (omega arith)
  same_pairs x y (entry p r ps) no_entry n h = absurd (omega arith)
  same_pairs x y (entry {x = k} {v = v} {a = a} {b = b} {c = p'} p r ps)
      (entry {x = l} {v = w} {a = c} {b = d} {c = q'} q s qs) n h =
      let first = same_spelling ((b ++ p') ++ x) ((d ++ q') ++ y) p q (regroup a (b ++ p') x c (d ++ q') y h) in
      let second = same_spelling (p' ++ x) (q' ++ y) r s (regroup b p' x d q' y first.rest) in
      let third = same_pairs x y ps qs (omega arith) second.rest in
      let both = joined (λ v ps. (v, ps)) second third in
      joined (λ k (r : Tree × Pairs). pair k r.0 r.1) first both

  pub same_fields : {T : Table} {types : List Field} {next : ℕ} {v w : Fields} {b c : List ℕ} (x y : List ℕ)
      → SpellsFields T types next v b → SpellsFields T types next w c → b ++ x ≡ c ++ y → Same v w b c x y
  same_fields x y (end_of_fields p) (end_of_fields q) h = let r = unsigned_prefix x y p q h in record
      { value = refl; bytes = r.bytes; rest = r.rest }
  same_fields x y (end_of_fields {b = b} p) (next_field {f = g} {a = a} {b = d} {c = q'} l e q s qs) h =
      absurd (let v = (unsigned_prefix x ((d ++ q') ++ y) p q (h ∙ append_assoc a (d ++ q') y)).value in omega arith)
  same_fields x y (next_field {f = f} {a = a} {b = d} {c = p'} l e p r ps) (end_of_fields {b = b} q) h =
      absurd (let v = (unsigned_prefix ((d ++ p') ++ x) y p q (sym (append_assoc a (d ++ p') x) ∙ h)).value in omega
      arith)
  same_fields {T = T} {types = types} x y (next_field {f = f} {e = e} {v = v} {a = a} {b = b} {c = p'} l m p r ps)
      (next_field {f = g} {e = e'} {v = w} {fs = ws} {a = c} {b = d} {c = q'} l' m' q s qs) h =
      let first = unsigned_prefix ((b ++ p') ++ x) ((d ++ q') ++ y) p q (regroup a (b ++ p') x c (d ++ q') y h) in
      let one : g ≡ f = let v = first.value in omega arith in
      let type : e' ≡ e = some_injective (sym m' ∙ ap (λ n. slice_get types n) one ∙ m) in
      let second = same_spelling (p' ++ x) (q' ++ y) r (subst (λ (e : Field). Spells T e.id w d) type s)
      (regroup b p' x d q' y first.rest) in
      let third = same_fields x y ps (subst (λ n. SpellsFields T types (n + 1) ws q') one qs) second.rest in
      let both = joined (λ v ps. (v, ps)) second third in
      let number : Same f g a c ((b ++ p') ++ x) ((d ++ q') ++ y) = record
      { value = sym one; bytes = first.bytes; rest = first.rest } in
      joined (λ f (r : Tree × Fields). field f r.0 r.1) number both

-- two shapes of one type are one, so both spellings are tagged, or neither
pub same_top : {T : Table} {t : TypeId} {v w : Tree} {b c : List ℕ} (x y : List ℕ) → SpellsTop T t v b
    → SpellsTop T t w c → b ++ x ≡ c ++ y → Same v w b c x y
same_top x y (at_once e i p) (at_once f j q) h = same_spelling x y p q h
same_top x y (at_once e i p) (tagged f n q) h = absurd
    (n (subst (λ (s : Shape). IsStruct s.kind) (some_injective (sym e ∙ f)) i))
same_top x y (tagged e n p) (at_once f j q) h = absurd
    (n (subst (λ (s : Shape). IsStruct s.kind) (some_injective (sym f ∙ e)) j))
same_top x y (tagged {b = b} e n p) (tagged {b = c} f m q) h =
    let r = same_spelling x y p q (tail_injective h) in
    record { value = r.value; bytes = ap (λ (l : List ℕ). 0 ∷ l) r.bytes; rest = r.rest }
  where
    tail_injective : {xs ys : List ℕ} → 0 ∷ xs ≡ 0 ∷ ys → xs ≡ ys
    tail_injective e = cc
