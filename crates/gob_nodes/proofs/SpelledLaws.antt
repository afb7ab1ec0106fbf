-- The bytes that nodes say spell a value, with what its interfaces hold.
use Rattle.std.proofs.Common.{◌≡◌, ℕ, ◌+◌, ◌-◌, ◌<◌, ◌≤◌, List, [], ◌++◌, true, false, Bool}
use Rattle.std.proofs.Common.{arith, refl, sym, ap, subst, ◌∙◌, append_assoc, append-nil, inl, inr}
use Rattle.std.proofs.lemmas.Bool.{cases_lt}
use Rattle.gob_num.specs.Unsigned.{AreBytes, IsUnsigned}
use Rattle.gob_num.proofs.PublicLaws.{unsigned_signed}
use Rattle.gob_types.specs.declared.id.TypeId.{TypeId}
use Rattle.gob_types.specs.declared.basic.Basic.{Basic}
use Rattle.gob_types.specs.declared.basic.Basic.TheVariants as basic
use Rattle.gob_types.specs.declared.kind.Field.{Field}
use Rattle.gob_types.specs.declared.kind.Kind.{Kind}
use Rattle.gob_types.specs.declared.kind.Kind.TheVariants as kind
use Rattle.gob_types.specs.Table.{Table}
use Rattle.gob_value.specs.Spelling.{Spells, SpellsAs, truth}
use Rattle.gob_value.specs.Spelling as spells
use Rattle.gob_value.specs.Tree.{Tree, depth, no_tree, no_pair}
use Rattle.gob_value.specs.Tree as Value
use Rattle.gob_stream.specs.Bounds.{Bounds}
use Rattle.gob_tape.specs.declared.flat.FlatNode.{FlatNode}
use Rattle.gob_filled.specs.Filled.{Filled, SpellsFilled}
use Rattle.gob_go.specs.Whole.{IsFilledWhole}
use Rattle.gob_go.specs.Machine.WholeFilled.{BeginsFilled, BeginsFilledEach, BeginsFilledFields, BeginsFilledPairs}
use Rattle.gob_go.specs.Machine.WholeFilled.{BeginsFilledTop, IsOfKind}
use Rattle.gob_go.proofs.WholeFilledSteps.{array_begins, as_they_stand, element_begins, field_begins, fields_end_here}
use Rattle.gob_go.proofs.WholeFilledSteps.{held_begins, map_begins, pair_begins, slice_begins, spelled_as}
use Rattle.gob_go.proofs.WholeFilledSteps.{struct_begins}
use Rattle.gob_go.proofs.WholeFilledSteps.{struct_top, tagged_top}
use Rattle.gob_nodes.specs.Nodes.{bytes_of}
use Rattle.gob_nodes.specs.Says.{LeafBytes, Says, of_type, SaysAs, of_leaf, of_opaque, of_slice, of_array, of_map}
use Rattle.gob_nodes.specs.Says.{of_struct, of_held, holds, leaf_at, opaque_at, SaysTop, at_once, up_to}
use Rattle.gob_nodes.specs.Says.{tagged, a_list, a_map, a_struct, SaysEach, no_element}
use Rattle.gob_nodes.specs.Says.{element, SaysPairs, no_entry, entry, SaysFields, end_of_fields, next_field}
use Rattle.gob_nodes.specs.Says.{spells_complex, SpellsComplex}
use Rattle.gob_nodes.specs.declared.value.Places.{Places}
use Rattle.gob_nodes.proofs.PutLaws.{count_of}

-- ---- parts without parts

truth_of : (n : ℕ) → n ≤ 1 → (x : Bool) × (n ≡ truth x)
truth_of n low = elim (cases_lt n 1) [
  | inl k ↦ let e : n ≡ 0 = omega (arith, k) in (false, e)
  | inr k ↦ let e : n ≡ 1 = omega (arith, k, low) in (true, e)
]

complex_tree : {T : Table} {p q : ℕ} {b : List ℕ} → SpellsComplex p q b
    → SpellsAs T (kind.Basic basic.Complex) (Value.complex p q) b
complex_tree (spells_complex p q) = spells.of_complex p q

leaf_tree : {T : Table} {b : List ℕ} (P : List ℕ) (n : FlatNode) (k : Basic) → LeafBytes P k n b
    → (v : Tree) × SpellsAs T (kind.Basic k) v b × (depth v ≡ 1)
leaf_tree {b = b} P n basic.Bool h =
    let x = truth_of n.first h.0 in
    (Value.bool x.0, spells.of_bool (subst (λ i. IsUnsigned i b) x.1 h.1), refl)
leaf_tree P n basic.Int h = let i = unsigned_signed h in (Value.int i.0, spells.of_int i.1, refl)
leaf_tree P n basic.Uint h = (Value.uint n.first, spells.of_uint h, refl)
leaf_tree P n basic.Float h = (Value.float n.first, spells.of_float h, refl)
leaf_tree {T = T} P n basic.Bytes h =
    let c = count_of h.1 in
    let v = Value.bytes (bytes_of P n) in
    (v, subst (λ b. SpellsAs T (kind.Basic basic.Bytes) v b) (sym c.whole) (spells.of_bytes c.counts), refl)
leaf_tree {T = T} P n basic.Str h =
    let c = count_of h.1 in
    let v = Value.text (bytes_of P n) in
    (v, subst (λ b. SpellsAs T (kind.Basic basic.Str) v b) (sym c.whole) (spells.of_text c.counts), refl)
leaf_tree P n basic.Complex h = (Value.complex n.first n.second, complex_tree h, refl)
leaf_tree P n basic.Interface h = (Value.nil, spells.of_nil h, refl)

unfilled : {T : Table} {u : TypeId} {limit : ℕ} {v : Tree} {b : List ℕ} (rest : List ℕ) → Spells T u v b
    → depth v ≤ limit → BeginsFilled T u limit (b ++ rest) rest
unfilled {v = v} {b = b} rest spelled within = record {
  value = v;
  skeleton = b;
  bytes = b;
  fill = λ p fs. fs;
  spelled = spelled;
  within = within;
  whole = refl;
  fills = λ o base L t p left ls fs around most leads deep f. as_they_stand p b o f;
}

no_elements : (T : Table) (e : TypeId) (limit : ℕ) (rest : List ℕ) → BeginsFilledEach T e limit 0 rest rest
no_elements T e limit rest = record {
  values = no_tree;
  skeleton = [];
  bytes = [];
  fill = λ p fs. fs;
  spelled = spells.no_element;
  within = omega arith;
  counted = refl;
  whole = refl;
  fills = λ o base L t p q left ls fs around most all before leads sp n deep f. as_they_stand (p ++ q) [] o f;
}

no_entries : (T : Table) (k e : TypeId) (limit : ℕ) (rest : List ℕ) → BeginsFilledPairs T k e limit 0 rest rest
no_entries T k e limit rest = record {
  pairs = no_pair;
  skeleton = [];
  bytes = [];
  fill = λ p fs. fs;
  spelled = spells.no_entry;
  within = omega arith;
  counted = refl;
  whole = refl;
  fills = λ o base L t p q left ls fs around most all before keys values sp n deep f. as_they_stand (p ++ q) [] o f;
}

-- ---- a whole value

-- wherever these are bytes they spell it
pub record TopSpells (T : Table) (t : TypeId) (limit : ℕ) (b : List ℕ) : Type 0 where
  pub value : Filled
  pub spelled : AreBytes b → (base : Table) (L : Bounds) → SpellsFilled base L T t limit value b T

top_spelled : {T : Table} {t : TypeId} {limit : ℕ} {b : List ℕ} → BeginsFilledTop T t limit b [] → TopSpells T t limit b
top_spelled {T = T} {t = t} {limit = limit} h =
    let own = h.whole ∙ append-nil h.bytes in
    record {
      value = h.value;
      spelled = λ o base L. subst (λ l. SpellsFilled base L T t limit h.value l T) (sym own)
          (h.spelled (subst AreBytes own o) base L);
    }

-- ---- all of it

mutual
  part_spells : {T : Table} {N : List FlatNode} {P : List ℕ} {t : TypeId} {limit : ℕ} {p q : Places} {b : List ℕ}
      → Says T N P t limit p q b → (rest : List ℕ) → BeginsFilled T t limit (b ++ rest) rest
  part_spells (of_type {s = s} found some h) rest = kind_spells (s, found, refl) some h rest

  kind_spells : {T : Table} {N : List FlatNode} {P : List ℕ} {u : TypeId} {k : Kind} {limit : ℕ} {p q : Places}
      {b : List ℕ} → IsOfKind T u k → 0 < limit → SaysAs T N P k limit p q b → (rest : List ℕ)
      → BeginsFilled T u limit (b ++ rest) rest
  kind_spells {P = P} is some (of_leaf {k = k} (leaf_at {n = n} there h)) rest =
      let v = leaf_tree P n k h.bytes in unfilled rest (spelled_as is v.1) (omega (arith, v.2, some))
  kind_spells {T = T} {P = P} is some (of_opaque {m = m} (opaque_at {n = n} there code has h)) rest =
      let c = count_of h in
      let v = Value.opaque (bytes_of P n) in
      unfilled {v = v} rest (spelled_as is (subst (λ b. SpellsAs T (kind.Opaque m) v b) (sym c.whole)
      (spells.of_opaque c.counts))) (omega (arith, some))
  kind_spells {u = u} {limit = limit} is some
      (of_slice {e = e} (a_list {count = n} {c = c} {b = b} group counted h)) rest =
      slice_begins u e limit n is some ((c ++ b) ++ rest) (b ++ rest) rest
      (record { bytes = c; spelled = counted; whole = append_assoc c b rest }) (each_spells h rest)
  kind_spells {u = u} {limit = limit} is some
      (of_array {e = e} (a_list {count = n} {c = c} {b = b} group counted h)) rest =
      array_begins u e limit n n is some refl ((c ++ b) ++ rest) (b ++ rest) rest
      (record { bytes = c; spelled = counted; whole = append_assoc c b rest }) (each_spells h rest)
  kind_spells {u = u} {limit = limit} is some
      (of_map {k = k} {e = e} (a_map {count = n} {c = c} {b = b} group counted h)) rest =
      map_begins u k e limit n is some ((c ++ b) ++ rest) (b ++ rest) rest
      (record { bytes = c; spelled = counted; whole = append_assoc c b rest }) (pairs_spells h rest)
  kind_spells {u = u} {limit = limit} is some (of_struct {types = types} (a_struct {b = b} group h)) rest =
      struct_begins u types limit is some (b ++ rest) rest (fields_spells h rest)
  kind_spells {T = T} {u = u} {limit = limit} is some
      (of_held (holds {id = id} {name = name} {a = a} {m = m} {c = c} {b = b} held may named typed h counted)) rest =
      let one : limit - 1 + 1 ≡ limit = omega (arith, some) in
      let v = top_spells h in
      let all = a ++ (name ++ (m ++ (c ++ b))) in
      subst (λ l. BeginsFilled T u l (all ++ rest) rest) one
      (held_begins u id (limit - 1) a name m c b is held.some named may typed counted v.value v.spelled (all ++ rest)
      rest
      refl)

  top_spells : {T : Table} {N : List FlatNode} {P : List ℕ} {t : TypeId} {limit from to : ℕ} {b : List ℕ}
      → SaysTop T N P t limit from to b → TopSpells T t limit b
  top_spells {T = T} {t = t} {limit = limit} (at_once {b = b} found is (up_to h)) =
      top_spelled (struct_top found is b []
      (subst (λ l. BeginsFilled T t limit l []) (append-nil b) (part_spells h [])))
  top_spells {T = T} {t = t} {limit = limit} (tagged {b = b} found isnt (up_to h)) =
      top_spelled (tagged_top found isnt b []
      (subst (λ l. BeginsFilled T t limit l []) (append-nil b) (part_spells h [])))

  each_spells : {T : Table} {N : List FlatNode} {P : List ℕ} {e : TypeId} {limit n : ℕ} {p q : Places} {b : List ℕ}
      → SaysEach T N P e limit n p q b → (rest : List ℕ) → BeginsFilledEach T e limit n (b ++ rest) rest
  each_spells {T = T} {e = e} {limit = limit} no_element rest = no_elements T e limit rest
  each_spells {T = T} {e = e} {limit = limit} (element {count = n} {b = b} {c = c} h k) rest =
      element_begins e limit (n + 1) n refl ((b ++ c) ++ rest) (c ++ rest) rest
      (subst (λ l. BeginsFilled T e limit l (c ++ rest)) (sym (append_assoc b c rest)) (part_spells h (c ++ rest)))
      (each_spells k rest)

  pairs_spells : {T : Table} {N : List FlatNode} {P : List ℕ} {k e : TypeId} {limit n : ℕ} {p q : Places} {b : List ℕ}
      → SaysPairs T N P k e limit n p q b → (rest : List ℕ) → BeginsFilledPairs T k e limit n (b ++ rest) rest
  pairs_spells {T = T} {k = k} {e = e} {limit = limit} no_entry rest = no_entries T k e limit rest
  pairs_spells {T = T} {k = k} {e = e} {limit = limit} (entry {count = n} {a = a} {b = b} {c = c} g h i) rest =
      let split = append_assoc a (b ++ c) rest ∙ ap (λ l. a ++ l) (append_assoc b c rest) in
      pair_begins k e limit (n + 1) n refl ((a ++ (b ++ c)) ++ rest) (b ++ (c ++ rest)) (c ++ rest) rest
      (subst (λ l. BeginsFilled T k limit l (b ++ (c ++ rest))) (sym split) (part_spells g (b ++ (c ++ rest))))
      (part_spells h (c ++ rest)) (pairs_spells i rest)

  fields_spells : {T : Table} {N : List FlatNode} {P : List ℕ} {types : List Field} {next limit n : ℕ} {p q : Places}
      {b : List ℕ} → SaysFields T N P types next limit n p q b → (rest : List ℕ)
      → BeginsFilledFields T types next limit (b ++ rest) rest
  fields_spells {types = types} {next = next} {limit = limit} (end_of_fields {b = b} zero) rest =
      fields_end_here types next limit 0 refl (b ++ rest) rest (record { bytes = b; spelled = zero; whole = refl })
  fields_spells {T = T} {types = types} {next = next} {limit = limit}
      (next_field {n = node} {e = e} {a = a} {b = b} {c = c} there is order found delta h i) rest =
      let f = node.number in
      let split = append_assoc a (b ++ c) rest ∙ ap (λ l. a ++ l) (append_assoc b c rest) in
      field_begins types next limit (f + 1 - next) f e (omega (arith, order)) (omega (arith, order)) found
      ((a ++ (b ++ c)) ++ rest) (b ++ (c ++ rest)) (c ++ rest) rest
      (record { bytes = a; spelled = delta; whole = split }) (part_spells h (c ++ rest)) (fields_spells i rest)

-- so bytes that nodes say are a value of the type
pub says_whole : {T : Table} {N : List FlatNode} {P : List ℕ} {t : TypeId} {limit from to : ℕ} {b : List ℕ}
    → AreBytes b → SaysTop T N P t limit from to b → IsFilledWhole T t limit b
says_whole o h = let v = top_spells h in record { value = v.value; spelled = v.spelled o }
