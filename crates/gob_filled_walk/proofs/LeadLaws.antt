-- Where the parts of a value begin in its skeleton, and how many begin before them.
use Rattle.std.proofs.Common.{◌≡◌, ℕ, ◌+◌, ◌-◌, ◌<◌, ◌≤◌, List, [], ◌∷◌, ◌++◌, length, take, Some, arith, refl, sym, ap}
use Rattle.std.proofs.Common.{subst, ◌∙◌, append_assoc, append-nil, add-zero, add_assoc, zero-add}
use Rattle.std.specs.Prelude.{slice_get}
use Rattle.std.proofs.Math.Seq.{take-append_seam}
use Rattle.gob_num.specs.Unsigned.{IsUnsigned}
use Rattle.gob_types.specs.declared.id.TypeId.{TypeId}
use Rattle.gob_types.specs.declared.kind.Field.{Field}
use Rattle.gob_types.specs.declared.kind.Kind.{Kind}
use Rattle.gob_types.specs.declared.kind.Kind.TheVariants as kind
use Rattle.gob_types.specs.declared.kind.Shape.{Shape}
use Rattle.gob_types.specs.Table.{Table, shape_of}
use Rattle.gob_value.specs.Tree.{Tree, Trees, no_tree, tree, Pairs, no_pair, pair, Fields, no_field, field}
use Rattle.gob_value.specs.Tree.{tree_count, pair_count}
use Rattle.gob_value.specs.Spelling.{Spells, SpellsEach, SpellsPairs, no_element, element, no_entry, entry}
use Rattle.gob_value.specs.Top.{IsStruct}
use Rattle.gob_read.specs.Held.{PartialPart, in_itself, in_part, not_begun, PartialBody, in_struct, behind_tag}
use Rattle.gob_read.specs.Held.{PartsBefore, before_element, before_array_element, before_key, before_value}
use Rattle.gob_read.specs.Held.{before_field, WholeFields, no_whole_field, whole_field}
use Rattle.gob_read.specs.Weight.{part_count, parts_of_all, parts_of_pairs, parts_of_fields}
use Rattle.gob_go.specs.Machine.WholeFilled.{IsOfKind}

-- behind these bytes of a value a part of the other type begins, before which so many parts have begun
pub record LeadsToPart (T : Table) (t : TypeId) (p : List ℕ) (u : TypeId) (n : ℕ) : Type 0 where
  pub leads : (z : List ℕ) (m w : ℕ) → PartialPart T u z m w → (r : ℕ) × PartialBody T t (p ++ z) (n + m) r

-- so does each of so many elements, each of so many keys and elements, and each field
pub record LeadsToElements (T : Table) (e : TypeId) (count : ℕ) (t : TypeId) (p : List ℕ) (n : ℕ) : Type 0 where
  pub each : (vs : Trees) (q : List ℕ) → SpellsEach T e vs q → tree_count vs < count
      → LeadsToPart T t (p ++ q) e (n + parts_of_all vs)

pub record LeadsToEntries (T : Table) (k e : TypeId) (count : ℕ) (t : TypeId) (p : List ℕ) (n : ℕ) : Type 0 where
  pub keys : (ps : Pairs) (q : List ℕ) → SpellsPairs T k e ps q → pair_count ps < count
      → LeadsToPart T t (p ++ q) k (n + parts_of_pairs ps)
  pub values : (ps : Pairs) (x : Tree) (q a : List ℕ) → SpellsPairs T k e ps q → pair_count ps < count
      → Spells T k x a → LeadsToPart T t (p ++ (q ++ a)) e (n + (parts_of_pairs ps + part_count x))

pub record LeadsToFields (T : Table) (types : List Field) (next : ℕ) (t : TypeId) (p : List ℕ) (n : ℕ) : Type 0 where
  pub each : (fs : Fields) (now f : ℕ) (e : Field) (a b : List ℕ) → WholeFields T types next now fs a → now ≤ f
      → slice_get types f ≡ Some e → IsUnsigned (f + 1 - now) b
      → LeadsToPart T t (p ++ (a ++ b)) e.id (n + parts_of_fields fs)

-- by the type of the part before all others
abbrev pub LeadsTo : Table → (u : TypeId) → TypeId → List ℕ → ℕ → Type 0
LeadsTo T u t p n = LeadsToPart T t p u n

moved : {T : Table} {t u : TypeId} {p q : List ℕ} {n m : ℕ} → p ≡ q → n ≡ m → LeadsToPart T t p u n
    → LeadsToPart T t q u m
moved {T = T} {t = t} {u = u} {q = q} {n = n} e f leads =
    subst (λ m. LeadsToPart T t q u m) f (subst (λ p. LeadsToPart T t p u n) e leads)

enters : {T : Table} {t u v : TypeId} {k : Kind} {p c : List ℕ} {n m w : ℕ} → LeadsToPart T t p u n → IsOfKind T u k
    → PartsBefore T k c v m w → LeadsToPart T t (p ++ c) v (n + m)
enters {T = T} {t = t} {v = v} {p = p} {c = c} {n = n} {m = m} {w = w} leads (s, found, is) before = record {
  leads = λ z k x part.
      let here = subst (λ k. PartsBefore T k c v m w) (sym is) before in
      let r = leads.leads (c ++ z) (m + k) (w + x) (in_part found here part) in (
        r.0,
        subst (λ q. PartialBody T t q (n + m + k) r.0) (sym (append_assoc p c z))
            (subst (λ a. PartialBody T t (p ++ (c ++ z)) a r.0) (sym (add_assoc n m k)) r.1),
      );
}

-- ---- the value itself

pub at_struct : {T : Table} {t : TypeId} {s : Shape} → shape_of T t ≡ Some s → IsStruct s.kind
    → LeadsToPart T t [] t 0
at_struct {T = T} {t = t} found is = record {
  leads = λ z m w part. (w, subst (λ n. PartialBody T t z n w) (sym (zero-add m)) (in_struct found is part));
}

pub at_tagged : {T : Table} {t : TypeId} {s : Shape} → shape_of T t ≡ Some s → ¬ IsStruct s.kind
    → LeadsToPart T t (0 ∷ []) t 0
at_tagged {T = T} {t = t} found isnt = record {
  leads = λ z m w part.
      (w, subst (λ n. PartialBody T t (0 ∷ z) n w) (sym (zero-add m)) (behind_tag found isnt part));
}

-- a part begins behind these bytes of a value
pub begun : {T : Table} {t u : TypeId} {k : Kind} {n : ℕ} (whole p left : List ℕ) → whole ≡ p ++ left
    → IsOfKind T u k → LeadsToPart T t p u n → (raws : ℕ) × PartialBody T t (take (length (p ++ [])) whole) n raws
begun {T = T} {t = t} {n = n} whole p left split is leads =
    let part = leads.leads [] 0 0 (in_itself is.1 not_begun) in
    let here : p ++ [] ≡ p = append-nil p in
    let place : take (length (p ++ [])) whole ≡ p ++ [] =
    ap (λ l. take (length (p ++ [])) l) (split ∙ ap (λ l. l ++ left) (sym here)) ∙ take-append_seam (p ++ []) left in (
      part.0,
      subst (λ l. PartialBody T t l n part.0) (sym place)
          (subst (λ m. PartialBody T t (p ++ []) m part.0) (add-zero n) part.1),
    )

-- ---- elements

pub first_element : {T : Table} {e : TypeId} (count : ℕ) (t : TypeId) (p : List ℕ) (n : ℕ)
    → LeadsToElements T e (count + 1) t p n → LeadsToPart T t p e n
first_element count t p n leads = moved (append-nil p) (add-zero n) (leads.each no_tree [] no_element (omega arith))

pub other_elements : {T : Table} {e : TypeId} {count : ℕ} {v : Tree} {b : List ℕ} → Spells T e v b → (t : TypeId)
    (p : List ℕ) (n : ℕ) → LeadsToElements T e (count + 1) t p n
    → LeadsToElements T e count t (p ++ b) (n + part_count v)
other_elements {v = v} {b = b} spelled t p n leads = record {
  each = λ ws q s less. moved (sym (append_assoc p b q)) (sym (add_assoc n (part_count v) (parts_of_all ws)))
      (leads.each (tree v ws) (b ++ q) (element spelled s) (omega (arith, less)));
}

counted_at : (p c q : List ℕ) → p ++ (c ++ q) ≡ ((p ++ c) ++ []) ++ q
counted_at p c q = sym (append_assoc p c q) ∙ ap (λ l. l ++ q) (sym (append-nil (p ++ c)))

pub slice_elements : {T : Table} {u e : TypeId} {count : ℕ} {c : List ℕ} → IsOfKind T u (kind.Slice e)
    → IsUnsigned count c → (t : TypeId) (p : List ℕ) (n : ℕ) → LeadsToPart T t p u n
    → LeadsToElements T e count t ((p ++ c) ++ []) (n + 1)
slice_elements {c = c} is counts t p n leads = record {
  each = λ ws q s less. moved (counted_at p c q) (omega arith) (enters leads is (before_element counts s less));
}

pub array_elements : {T : Table} {u e : TypeId} {count : ℕ} {c : List ℕ} → IsOfKind T u (kind.Array e count)
    → IsUnsigned count c → (t : TypeId) (p : List ℕ) (n : ℕ) → LeadsToPart T t p u n
    → LeadsToElements T e count t ((p ++ c) ++ []) (n + 1)
array_elements {c = c} is counts t p n leads = record {
  each = λ ws q s less. moved (counted_at p c q) (omega arith) (enters leads is (before_array_element counts s less));
}

-- ---- entries

pub first_key : {T : Table} {k e : TypeId} (count : ℕ) (t : TypeId) (p : List ℕ) (n : ℕ)
    → LeadsToEntries T k e (count + 1) t p n → LeadsToPart T t p k n
first_key count t p n leads = moved (append-nil p) (add-zero n) (leads.keys no_pair [] no_entry (omega arith))

-- behind a key its element, and behind that the other entries
abbrev pub LeadsBehindKey : Table → (k e : TypeId) → (count : ℕ) → (b : List ℕ) → (d : ℕ) → TypeId → List ℕ → ℕ → Type 0
LeadsBehindKey T k e count b d t p n = LeadsToPart T t p e n × LeadsToEntries T k e count t (p ++ b) (n + d)

pub behind_key : {T : Table} {k e : TypeId} {count : ℕ} {x v : Tree} {a b : List ℕ} → Spells T k x a → Spells T e v b
    → (t : TypeId) (p : List ℕ) (n : ℕ) → LeadsToEntries T k e (count + 1) t p n
    → LeadsBehindKey T k e count b (part_count v) t (p ++ a) (n + part_count x)
behind_key {x = x} {v = v} {a = a} {b = b} key value t p n leads = (
  moved refl (ap (λ i. n + i) (zero-add (part_count x))) (leads.values no_pair x [] a no_entry (omega arith) key),
  record {
    keys = λ qs q s less. moved (regrouped p a b q) (omega arith)
        (leads.keys (pair x v qs) (a ++ (b ++ q)) (entry key value s) (omega (arith, less)));
    values = λ qs y q i s less other. moved (regrouped_more p a b q i) (omega arith)
        (leads.values (pair x v qs) y (a ++ (b ++ q)) i (entry key value s) (omega (arith, less)) other);
  },
)
  where
    regrouped : (p a b q : List ℕ) → p ++ (a ++ (b ++ q)) ≡ ((p ++ a) ++ b) ++ q
    regrouped p a b q = sym (append_assoc p a (b ++ q)) ∙ sym (append_assoc (p ++ a) b q)

    regrouped_more : (p a b q i : List ℕ) → p ++ ((a ++ (b ++ q)) ++ i) ≡ ((p ++ a) ++ b) ++ (q ++ i)
    regrouped_more p a b q i = simp append_assoc

pub map_entries : {T : Table} {u k e : TypeId} {count : ℕ} {c : List ℕ} → IsOfKind T u (kind.Map k e)
    → IsUnsigned count c → (t : TypeId) (p : List ℕ) (n : ℕ) → LeadsToPart T t p u n
    → LeadsToEntries T k e count t ((p ++ c) ++ []) (n + 1)
map_entries {c = c} is counts t p n leads = record {
  keys = λ qs q s less. moved (counted_at p c q) (omega arith) (enters leads is (before_key counts s less));
  values = λ qs x q a s less key. moved (counted_at p c (q ++ a)) (omega arith)
      (enters leads is (before_value counts s less key));
}

-- ---- fields

-- behind the delta of a field its value, and behind that the other fields
abbrev pub LeadsBehindDelta : Table → List Field → (e : TypeId) → (f : ℕ) → (b : List ℕ) → (c : ℕ) → TypeId → List ℕ → ℕ
    → Type 0
LeadsBehindDelta T types e f b c t p n = LeadsToPart T t p e n × LeadsToFields T types (f + 1) t (p ++ b) (n + c)

pub behind_delta : {T : Table} {types : List Field} {next f : ℕ} {e : Field} {v : Tree} {a b : List ℕ} → next ≤ f
    → slice_get types f ≡ Some e → IsUnsigned (f + 1 - next) a → Spells T e.id v b → (t : TypeId) (p : List ℕ) (n : ℕ)
    → LeadsToFields T types next t p n → LeadsBehindDelta T types e.id f b (part_count v) t (p ++ a) (n + 0)
behind_delta {next = next} {f = f} {e = e} {v = v} {a = a} {b = b} order here delta spelled t p n leads = (
  leads.each no_field next f e [] a no_whole_field order here delta,
  record {
    each = λ others now i o x y run low there bytes. moved (regrouped p a b x y) (omega arith)
        (leads.each (field f v others) now i o (a ++ (b ++ x)) y (whole_field order here delta spelled run) low there
        bytes);
  },
)
  where
    regrouped : (p a b x y : List ℕ) → p ++ ((a ++ (b ++ x)) ++ y) ≡ ((p ++ a) ++ b) ++ (x ++ y)
    regrouped p a b x y = simp append_assoc

pub struct_parts : {T : Table} {u : TypeId} {types : List Field} → IsOfKind T u (kind.Struct types) → (t : TypeId)
    (p : List ℕ) (n : ℕ) → LeadsToPart T t p u n → LeadsToFields T types 0 t (p ++ []) (n + 1)
struct_parts is t p n leads = record {
  each = λ others now f e a b run low there bytes.
      moved (ap (λ l. l ++ (a ++ b)) (sym (append-nil p))) (omega arith)
      (enters leads is (before_field run low there bytes));
}
