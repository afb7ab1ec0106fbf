-- The JSON of a value whose nils show the same from another number on, and what nils show in parts one behind another.
use Rattle.std.proofs.Common.{◌≡◌, ℕ, zero, suc, ◌+◌, ◌<◌, ◌≤◌, List, arith, refl, sym, ap, ◌∙◌, add_assoc}
use Rattle.std.proofs.Common.{add-zero, zero-add}
use Rattle.std.specs.Prelude.{slice_get}
use Rattle.serde_json.specs.Data.{Data, array, item}
use Rattle.gob_types.specs.declared.id.TypeId.{TypeId}
use Rattle.gob_types.specs.declared.kind.Field.{Field}
use Rattle.gob_types.specs.Table.{Table, shape_of}
use Rattle.gob_value.specs.Tree.{Tree, Trees, no_tree, tree, Pairs, no_pair, pair, Fields, no_field, field}
use Rattle.gob_value.specs.Tree as Value
use Rattle.gob_read.specs.Weight.{part_count, parts_of_all, parts_of_pairs, parts_of_fields}
use Rattle.gob_json.specs.Json.{element_type, key_type, struct_fields, field_name, field_type, natural_json, text_json}
use Rattle.gob_json.specs.Json.{pair_json, triple_json}
use Rattle.gob_json_writer.specs.NilsJson.{value_json_with, elements_json_with, pairs_json_with, fields_json_with}

-- from their numbers on, so many nils show the same
pub record ShowAlike (N : ℕ → Data) (n : ℕ) (M : ℕ → Data) (m count : ℕ) : Type 0 where
  pub each : (k : ℕ) → k < count → N (n + k) ≡ M (m + k)

-- the first ones of them, and those behind these
pub first_alike : {N M : ℕ → Data} {n m : ℕ} (count all : ℕ) → count ≤ all → ShowAlike N n M m all
    → ShowAlike N n M m count
first_alike count all few same = record { each = λ k l. same.each k (omega (arith, few, l)) }

pub rest_alike : {N M : ℕ → Data} {n m : ℕ} (first count all : ℕ) → first + count ≤ all → ShowAlike N n M m all
    → ShowAlike N (n + first) M (m + first) count
rest_alike {N = N} {M = M} {n = n} {m = m} first count all few same = record {
  each = λ k l. ap N (add_assoc n first k) ∙ same.each (first + k) (omega (arith, few, l))
      ∙ ap M (sym (add_assoc m first k));
}

mutual
  pub value_shifts : (T : Table) (t : TypeId) (v : Tree) (N M : ℕ → Data) (n m : ℕ)
      → ShowAlike N n M m (part_count v) → value_json_with N T t n v ≡ value_json_with M T t m v
  value_shifts T t Value.nil N M n m same =
      ap N (sym (add-zero n)) ∙ same.each 0 (omega arith) ∙ ap M (add-zero m)
  value_shifts T t (Value.many vs) N M n m same = ap array (elements_shift T (element_type (shape_of T t)) vs N M
      (n + 1) (m + 1) (rest_alike 1 (parts_of_all vs) (parts_of_all vs + 1) (omega arith) same))
  value_shifts T t (Value.pairs ps) N M n m same = ap array
      (pairs_shift T (key_type (shape_of T t)) (element_type (shape_of T t)) ps N M (n + 1) (m + 1)
      (rest_alike 1 (parts_of_pairs ps) (parts_of_pairs ps + 1) (omega arith) same))
  value_shifts T t (Value.fields fs) N M n m same = ap array (fields_shift T (struct_fields (shape_of T t)) fs N M
      (n + 1) (m + 1) (rest_alike 1 (parts_of_fields fs) (parts_of_fields fs + 1) (omega arith) same))
  value_shifts T t _ N M n m same = refl

  pub elements_shift : (T : Table) (e : TypeId) (vs : Trees) (N M : ℕ → Data) (n m : ℕ)
      → ShowAlike N n M m (parts_of_all vs) → elements_json_with N T e n vs ≡ elements_json_with M T e m vs
  elements_shift T e no_tree N M n m same = refl
  elements_shift T e (tree v vs) N M n m same =
      let c = part_count v in
      let all = c + parts_of_all vs in
      ap (λ d. item d (elements_json_with N T e (n + c) vs))
      (value_shifts T e v N M n m (first_alike c all (omega arith) same))
      ∙ ap (item (value_json_with M T e m v))
      (elements_shift T e vs N M (n + c) (m + c) (rest_alike c (parts_of_all vs) all (omega arith) same))

  pub pairs_shift : (T : Table) (k e : TypeId) (ps : Pairs) (N M : ℕ → Data) (n m : ℕ)
      → ShowAlike N n M m (parts_of_pairs ps) → pairs_json_with N T k e n ps ≡ pairs_json_with M T k e m ps
  pairs_shift T k e no_pair N M n m same = refl
  pairs_shift T k e (pair x v ps) N M n m same =
      let c = part_count x in
      let d = part_count v in
      let left = d + parts_of_pairs ps in
      let others = rest_alike c left (c + left) (omega arith) same in
      ap (λ j. item (pair_json j (value_json_with N T e (n + c) v)) (pairs_json_with N T k e (n + c + d) ps))
      (value_shifts T k x N M n m (first_alike c (c + left) (omega arith) same))
      ∙ ap (λ j. item (pair_json (value_json_with M T k m x) j) (pairs_json_with N T k e (n + c + d) ps))
      (value_shifts T e v N M (n + c) (m + c) (first_alike d left (omega arith) others))
      ∙ ap (item (pair_json (value_json_with M T k m x) (value_json_with M T e (m + c) v)))
      (pairs_shift T k e ps N M (n + c + d) (m + c + d) (rest_alike d (parts_of_pairs ps) left (omega arith) others))

  pub fields_shift : (T : Table) (types : List Field) (fs : Fields) (N M : ℕ → Data) (n m : ℕ)
      → ShowAlike N n M m (parts_of_fields fs) → fields_json_with N T types n fs ≡ fields_json_with M T types m fs
  fields_shift T types no_field N M n m same = refl
  fields_shift T types (field f v fs) N M n m same =
      let c = part_count v in
      let all = c + parts_of_fields fs in
      let e = slice_get types f in
      ap (λ j. item (triple_json (natural_json f) (text_json (field_name e)) j)
      (fields_json_with N T types (n + c) fs))
      (value_shifts T (field_type e) v N M n m (first_alike c all (omega arith) same))
      ∙ ap (item (triple_json (natural_json f) (text_json (field_name e)) (value_json_with M T (field_type e) m v)))
      (fields_shift T types fs N M (n + c) (m + c) (rest_alike c (parts_of_fields fs) all (omega arith) same))

-- ---- parts one behind another
-- so many nils show what the first has, and those behind them what the second has
abbrev pub spliced : ℕ → (ℕ → Data) → (ℕ → Data) → ℕ → Data
spliced zero f g k = g k
spliced (suc n) f g zero = f zero
spliced (suc n) f g (suc k) = spliced n (λ i. f (suc i)) g k

pub before_seam : (n : ℕ) (f g : ℕ → Data) (k : ℕ) → k < n → spliced n f g k ≡ f k
before_seam zero f g k l = absurd (omega (arith, l))
before_seam (suc n) f g zero l = refl
before_seam (suc n) f g (suc k) l = before_seam n (λ i. f (suc i)) g k (omega (arith, l))

pub behind_seam : (n : ℕ) (f g : ℕ → Data) (k : ℕ) → spliced n f g (n + k) ≡ g k
behind_seam zero f g k = ap g (zero-add k)
behind_seam (suc n) f g k =
    let up : suc n + k ≡ suc (n + k) = omega arith in
    ap (spliced (suc n) f g) up ∙ behind_seam n (λ i. f (suc i)) g k

-- what a part shows by its own numbers, and by those of the parts that it is put together of
pub first_spliced : (n : ℕ) (f g : ℕ → Data) → ShowAlike (spliced n f g) 0 f 0 n
first_spliced n f g = record {
  each = λ k l. ap (spliced n f g) (zero-add k) ∙ before_seam n f g k l ∙ ap f (sym (zero-add k));
}

pub rest_spliced : (n : ℕ) (f g : ℕ → Data) (count : ℕ) → ShowAlike (spliced n f g) (0 + n) g 0 count
rest_spliced n f g count = record {
  each = λ k l. ap (λ m. spliced n f g (m + k)) (zero-add n) ∙ behind_seam n f g k ∙ ap g (sym (zero-add k));
}

pub trans_alike : {N M O : ℕ → Data} {n m o : ℕ} (count : ℕ) → ShowAlike N n M m count → ShowAlike M m O o count
    → ShowAlike N n O o count
trans_alike count p q = record { each = λ k l. p.each k l ∙ q.each k l }

-- from its number on the nils of a part show what the part has
pub record Agrees (N : ℕ → Data) (n : ℕ) (M : ℕ → Data) (count : ℕ) : Type 0 where
  pub each : (k : ℕ) → k < count → N (n + k) ≡ M k

pub first_agrees : {N M : ℕ → Data} {n : ℕ} (O : ℕ → Data) (c d : ℕ) → Agrees N n (spliced c M O) (c + d)
    → Agrees N n M c
first_agrees {M = M} O c d same =
    record { each = λ k l. same.each k (omega (arith, l)) ∙ before_seam c M O k l }

pub rest_agrees : {N O : ℕ → Data} {n : ℕ} (M : ℕ → Data) (c d : ℕ) → Agrees N n (spliced c M O) (c + d)
    → Agrees N (n + c) O d
rest_agrees {N = N} {O = O} {n = n} M c d same = record {
  each = λ k l. ap N (add_assoc n c k) ∙ same.each (c + k) (omega (arith, l)) ∙ behind_seam c M O k;
}
