-- Where the parts of a value begin in its bytes: what is expected in them, and how many parts begin before.
use Rattle.std.proofs.Common.{◌≡◌, ℕ, suc, ◌+◌, ◌-◌, ◌<◌, ◌≤◌, List, [], ◌∷◌, ◌++◌, length, Some, arith, refl, sym, ap}
use Rattle.std.proofs.Common.{subst, append_assoc, append-nil, add-zero, add_assoc, zero-add, slice_get}
use Rattle.gob_num.specs.Unsigned.{IsUnsigned}
use Rattle.gob_types.specs.declared.id.TypeId.{TypeId}
use Rattle.gob_types.specs.declared.kind.Field.{Field}
use Rattle.gob_types.specs.declared.kind.Kind.{Kind}
use Rattle.gob_types.specs.declared.kind.Kind.TheVariants as kind
use Rattle.gob_types.specs.declared.kind.Shape.{Shape}
use Rattle.gob_types.specs.Table.{Table, shape_of}
use Rattle.gob_value.specs.Tree.{Tree, Trees, no_tree, tree, Pairs, no_pair, pair, Fields, no_field, field}
use Rattle.gob_value.specs.Tree.{tree_count, pair_count}
use Rattle.gob_value.specs.Spelling.{Spells, SpellsEach, SpellsPairs, no_element, element, no_entry, entry}
use Rattle.gob_value.specs.Top.{IsStruct}
use Rattle.gob_read.specs.Expected.{Expected, a_number, delta, first_allowed}
use Rattle.gob_read.specs.Expects.{Enters, Expects, ExpectsAt, ExpectsTop, first, next_delta}
use Rattle.gob_read.specs.Expects as place
use Rattle.gob_read.specs.Held.{PartialBody, PartsBefore, before_element, before_array_element, before_key}
use Rattle.gob_read.specs.Held.{before_value, before_field, WholeFields, no_whole_field, whole_field}
use Rattle.gob_read.specs.Held as partial
use Rattle.gob_read.specs.Weight.{part_count, parts_of_all, parts_of_pairs, parts_of_fields}
use Rattle.gob_read.proofs.Grammar.HeldLaws.{fields_run}
use Rattle.gob_go.specs.Machine.WholeFilled.{IsOfKind}
use Rattle.gob_filled_walk.proofs.LeadLaws.{LeadsToPart, at_struct, at_tagged}

-- behind these bytes of a value a part of the other type begins, in so many others, and so many began before it
pub record Reaches (T : Table) (t : TypeId) (p : List ℕ) (u : TypeId) (around n : ℕ) : Type 0 where
  pub expects : (q : List ℕ) (w : Expected) (d : ℕ) → Expects T u q w d → ExpectsTop T t (p ++ q) w (around + d)
  pub leads : LeadsToPart T t p u n

-- so does each of so many elements, each of so many keys and elements, and each field
pub record ReachesEach (T : Table) (t : TypeId) (p : List ℕ) (e : TypeId) (around count n : ℕ) : Type 0 where
  pub each : (vs : Trees) (q : List ℕ) → SpellsEach T e vs q → tree_count vs < count
      → Reaches T t (p ++ q) e around (n + parts_of_all vs)

pub record ReachesEntries (T : Table) (t : TypeId) (p : List ℕ) (k e : TypeId) (around count n : ℕ) : Type 0 where
  pub keys : (ps : Pairs) (q : List ℕ) → SpellsPairs T k e ps q → pair_count ps < count
      → Reaches T t (p ++ q) k around (n + parts_of_pairs ps)
  pub values : (ps : Pairs) (x : Tree) (q a : List ℕ) → SpellsPairs T k e ps q → pair_count ps < count
      → Spells T k x a → Reaches T t (p ++ (q ++ a)) e around (n + (parts_of_pairs ps + part_count x))

pub record ReachesFields (T : Table) (t : TypeId) (p : List ℕ) (types : List Field) (next around n : ℕ) : Type 0 where
  pub deltas : (fs : Fields) (now : ℕ) (a : List ℕ) → WholeFields T types next now fs a
      → ExpectsTop T t (p ++ a) (a_number (delta (length types - now))) around
  pub values : (fs : Fields) (now f : ℕ) (e : Field) (a b : List ℕ) → WholeFields T types next now fs a → now ≤ f
      → slice_get types f ≡ Some e → IsUnsigned (f + 1 - now) b
      → Reaches T t (p ++ (a ++ b)) e.id around (n + parts_of_fields fs)

pub moved : {T : Table} {t u : TypeId} {p q : List ℕ} {around n m : ℕ} → p ≡ q → n ≡ m → Reaches T t p u around n
    → Reaches T t q u around m
moved {T = T} {t = t} {u = u} {q = q} {around = around} {n = n} e f r =
    subst (λ m. Reaches T t q u around m) f (subst (λ p. Reaches T t p u around n) e r)

-- ---- the value itself
pub reaches_struct : {T : Table} {t : TypeId} {s : Shape} → shape_of T t ≡ Some s → IsStruct s.kind
    → Reaches T t [] t 0 0
reaches_struct {T = T} {t = t} found is = record {
  expects = λ q w d x. subst (ExpectsTop T t q w) (sym (zero-add d)) (place.in_struct found is x);
  leads = at_struct found is;
}

pub reaches_tagged : {T : Table} {t : TypeId} {s : Shape} → shape_of T t ≡ Some s → ¬ IsStruct s.kind
    → Reaches T t (0 ∷ []) t 0 0
reaches_tagged {T = T} {t = t} found isnt = record {
  expects = λ q w d x. subst (ExpectsTop T t (0 ∷ q) w) (sym (zero-add d)) (place.behind_tag found isnt x);
  leads = at_tagged found isnt;
}

-- ---- a part in a part
before_enters : {T : Table} {k : Kind} {c : List ℕ} {v : TypeId} {m w : ℕ} → PartsBefore T k c v m w → Enters T k c v
before_enters (before_element p s less) = place.slice_element p s less
before_enters (before_array_element p s less) = place.array_element p s less
before_enters (before_key p s less) = place.next_key p s less
before_enters (before_value p s less key) = place.next_value p s less key
before_enters (before_field run order at p) = place.next_field (fields_run run) order at p

reaches_in : {T : Table} {t u v : TypeId} {k : Kind} {p c : List ℕ} {around n m w : ℕ} → Reaches T t p u around n
    → IsOfKind T u k → PartsBefore T k c v m w → Reaches T t (p ++ c) v (around + 1) (n + m)
reaches_in {T = T} {t = t} {v = v} {p = p} {c = c} {around = around} {n = n} {m = m} {w = w} r (s, found, is) before =
    let here = subst (λ k. PartsBefore T k c v m w) (sym is) before in
    record {
      expects = λ q x d h.
          let deep : around + suc d ≡ around + 1 + d = omega arith in
          subst (λ l. ExpectsTop T t l x (around + 1 + d)) (sym (append_assoc p c q))
          (subst (λ e. ExpectsTop T t (p ++ (c ++ q)) x e) deep
          (r.expects (c ++ q) x (suc d) (place.in_part found (before_enters here) h)));
      leads = record {
        leads = λ z i x part.
            let b = r.leads.leads (c ++ z) (m + i) (w + x) (partial.in_part found here part) in (
              b.0,
              subst (λ q. PartialBody T t q (n + m + i) b.0) (sym (append_assoc p c z))
                  (subst (λ a. PartialBody T t (p ++ (c ++ z)) a b.0) (sym (add_assoc n m i)) b.1),
            );
      };
    }

-- where a part begins its first number is expected
pub begins : {T : Table} {t u : TypeId} {k : Kind} {p : List ℕ} {around n : ℕ} → Reaches T t p u around n
    → IsOfKind T u k → ExpectsTop T t p (a_number (first_allowed k)) (around + 1)
begins {T = T} {t = t} {p = p} {around = around} r (s, found, is) =
    subst (λ k. ExpectsTop T t p (a_number (first_allowed k)) (around + 1)) is
    (subst (λ q. ExpectsTop T t q (a_number (first_allowed s.kind)) (around + 1)) (append-nil p)
    (r.expects [] (a_number (first_allowed s.kind)) 1 (place.in_itself found first)))

-- ---- elements
pub slice_elements : {T : Table} {t u e : TypeId} {count around n : ℕ} {p c : List ℕ} → Reaches T t p u around n
    → IsOfKind T u (kind.Slice e) → IsUnsigned count c → ReachesEach T t (p ++ c) e (around + 1) count (n + 1)
slice_elements {p = p} {c = c} r is counts = record {
  each = λ vs q s less. moved (sym (append_assoc p c q)) (omega arith) (reaches_in r is (before_element counts s less));
}

pub array_elements : {T : Table} {t u e : TypeId} {count around n : ℕ} {p c : List ℕ} → Reaches T t p u around n
    → IsOfKind T u (kind.Array e count) → IsUnsigned count c → ReachesEach T t (p ++ c) e (around + 1) count (n + 1)
array_elements {p = p} {c = c} r is counts = record {
  each = λ vs q s less. moved (sym (append_assoc p c q)) (omega arith)
      (reaches_in r is (before_array_element counts s less));
}

pub first_element : {T : Table} {t e : TypeId} {p : List ℕ} {around n : ℕ} (count : ℕ)
    → ReachesEach T t p e around (count + 1) n → Reaches T t p e around n
first_element {p = p} {n = n} count r = moved (append-nil p) (add-zero n) (r.each no_tree [] no_element (omega arith))

pub other_elements : {T : Table} {t e : TypeId} {p b : List ℕ} {around count n : ℕ} {v : Tree} → Spells T e v b
    → ReachesEach T t p e around (count + 1) n → ReachesEach T t (p ++ b) e around count (n + part_count v)
other_elements {p = p} {b = b} {n = n} {v = v} spelled r = record {
  each = λ vs q s less. moved (sym (append_assoc p b q)) (sym (add_assoc n (part_count v) (parts_of_all vs)))
      (r.each (tree v vs) (b ++ q) (element spelled s) (omega (arith, less)));
}

-- ---- entries
pub map_entries : {T : Table} {t u k e : TypeId} {count around n : ℕ} {p c : List ℕ} → Reaches T t p u around n
    → IsOfKind T u (kind.Map k e) → IsUnsigned count c → ReachesEntries T t (p ++ c) k e (around + 1) count (n + 1)
map_entries {p = p} {c = c} r is counts = record {
  keys = λ ps q s less. moved (sym (append_assoc p c q)) (omega arith) (reaches_in r is (before_key counts s less));
  values = λ ps x q a s less key. moved (sym (append_assoc p c (q ++ a))) (omega arith)
      (reaches_in r is (before_value counts s less key));
}

pub first_key : {T : Table} {t k e : TypeId} {p : List ℕ} {around n : ℕ} (count : ℕ)
    → ReachesEntries T t p k e around (count + 1) n → Reaches T t p k around n
first_key {p = p} {n = n} count r = moved (append-nil p) (add-zero n) (r.keys no_pair [] no_entry (omega arith))

pub first_value : {T : Table} {t k e : TypeId} {p a : List ℕ} {around n : ℕ} {x : Tree} (count : ℕ) → Spells T k x a
    → ReachesEntries T t p k e around (count + 1) n → Reaches T t (p ++ a) e around (n + part_count x)
first_value {a = a} {n = n} {x = x} count key r =
    moved refl (ap (λ i. n + i) (zero-add (part_count x))) (r.values no_pair x [] a no_entry (omega arith) key)

pub other_entries : {T : Table} {t k e : TypeId} {p a b : List ℕ} {around count n : ℕ} {x v : Tree} → Spells T k x a
    → Spells T e v b → ReachesEntries T t p k e around (count + 1) n
    → ReachesEntries T t ((p ++ a) ++ b) k e around count (n + part_count x + part_count v)
other_entries {p = p} {a = a} {b = b} {x = x} {v = v} key value r = record {
  keys = λ ps q s less. moved (regrouped p a b q) (omega arith)
      (r.keys (pair x v ps) (a ++ (b ++ q)) (entry key value s) (omega (arith, less)));
  values = λ ps y q i s less other. moved (regrouped_more p a b q i) (omega arith)
      (r.values (pair x v ps) y (a ++ (b ++ q)) i (entry key value s) (omega (arith, less)) other);
}
  where
    regrouped : (p a b q : List ℕ) → p ++ (a ++ (b ++ q)) ≡ ((p ++ a) ++ b) ++ q
    regrouped p a b q = simp append_assoc

    regrouped_more : (p a b q i : List ℕ) → p ++ ((a ++ (b ++ q)) ++ i) ≡ ((p ++ a) ++ b) ++ (q ++ i)
    regrouped_more p a b q i = simp append_assoc

-- ---- fields
rises : {T : Table} {types : List Field} {start next : ℕ} {fs : Fields} {a : List ℕ}
    → WholeFields T types start next fs a → start ≤ next
rises no_whole_field = omega arith
rises (whole_field order at p s run) = omega (arith, order, rises run)

delta_next : {T : Table} {types : List Field} {next : ℕ} {fs : Fields} {a : List ℕ} → WholeFields T types 0 next fs a
    → ExpectsAt T (kind.Struct types) a (a_number (delta (length types - next)))
delta_next {T = T} {types = types} no_whole_field =
    let none : length types ≡ length types - 0 = omega arith in
    subst (λ n. ExpectsAt T (kind.Struct types) [] (a_number (delta n))) none first
delta_next (whole_field order at p s run) =
    next_delta (omega (arith, rises run)) (fields_run (whole_field order at p s run))

pub struct_fields : {T : Table} {t u : TypeId} {types : List Field} {around n : ℕ} {p : List ℕ}
    → Reaches T t p u around n
    → IsOfKind T u (kind.Struct types) → ReachesFields T t p types 0 (around + 1) (n + 1)
struct_fields {T = T} {types = types} r (s, found, is) = record {
  deltas = λ fs now a run. r.expects a (a_number (delta (length types - now))) 1
      (place.in_itself found
      (subst (λ k. ExpectsAt T k a (a_number (delta (length types - now)))) (sym is) (delta_next run)));
  values = λ fs now f e a b run order at p. moved refl (omega arith)
      (reaches_in r (s, found, is) (before_field run order at p));
}

-- the delta in front
pub first_delta : {T : Table} {t : TypeId} {p : List ℕ} {types : List Field} {next around n : ℕ}
    → ReachesFields T t p types next around n → ExpectsTop T t p (a_number (delta (length types - next))) around
first_delta {T = T} {t = t} {p = p} {types = types} {next = next} {around = around} r =
    subst (λ q. ExpectsTop T t q (a_number (delta (length types - next))) around) (append-nil p)
    (r.deltas no_field next [] no_whole_field)

pub first_field : {T : Table} {t : TypeId} {p a : List ℕ} {types : List Field} {next around n f : ℕ} {e : Field}
    → next ≤ f → slice_get types f ≡ Some e → IsUnsigned (f + 1 - next) a → ReachesFields T t p types next around n
    → Reaches T t (p ++ a) e.id around n
first_field {a = a} {next = next} {n = n} {f = f} {e = e} order at p r =
    moved refl (add-zero n) (r.values no_field next f e [] a no_whole_field order at p)

pub other_fields : {T : Table} {t : TypeId} {p a b : List ℕ} {types : List Field} {next around n f : ℕ} {e : Field}
    {v : Tree} → next ≤ f → slice_get types f ≡ Some e → IsUnsigned (f + 1 - next) a → Spells T e.id v b
    → ReachesFields T t p types next around n
    → ReachesFields T t ((p ++ a) ++ b) types (f + 1) around (n + part_count v)
other_fields {T = T} {t = t} {p = p} {a = a} {b = b} {types = types} {around = around} {f = f} {v = v} order at delta_is
    spelled r = record {
      deltas = λ fs now c run. subst (λ q. ExpectsTop T t q (a_number (delta (length types - now))) around)
          (regrouped p a b c)
          (r.deltas (field f v fs) now (a ++ (b ++ c)) (whole_field order at delta_is spelled run));
      values = λ fs now g e c x run low there bytes. moved (regrouped_more p a b c x) (omega arith)
          (r.values (field f v fs) now g e (a ++ (b ++ c)) x (whole_field order at delta_is spelled run) low there
          bytes);
    }
  where
    regrouped : (p a b c : List ℕ) → p ++ (a ++ (b ++ c)) ≡ ((p ++ a) ++ b) ++ c
    regrouped p a b c = simp append_assoc

    regrouped_more : (p a b c x : List ℕ) → p ++ ((a ++ (b ++ c)) ++ x) ≡ ((p ++ a) ++ b) ++ (c ++ x)
    regrouped_more p a b c x = simp append_assoc
