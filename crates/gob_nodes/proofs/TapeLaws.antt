-- The nodes of a tape say the value that it means.
use Rattle.std.proofs.Common.{◌≡◌, ℕ, zero, suc, ◌+◌, ◌-◌, ◌*◌, ◌/◌, ◌%◌, ◌<◌, ◌≤◌, List, ◌++◌, length, take, drop}
use Rattle.std.proofs.Common.{map, Option, Some, None, arith, refl, sym, ap, subst, ◌∙◌, pos, negsuc}
use Rattle.std.specs.Prelude.{slice_get, option_map, ◌==◌, if◌then◌else◌}
use Rattle.std.proofs.lemmas.List.{length-map}
use Rattle.std.proofs.lemmas.Option.{slice_get-map}
use Rattle.gob_num.specs.Unsigned.{IsUnsigned}
use Rattle.gob_num.specs.Pattern.{IsPattern}
use Rattle.gob_num.specs.Signed.{IsSigned, not_negative, negative}
use Rattle.gob_types.specs.declared.id.TypeId.{TypeId}
use Rattle.gob_types.specs.declared.basic.Basic.{Basic}
use Rattle.gob_types.specs.declared.kind.Field.{Field}
use Rattle.gob_types.specs.declared.kind.Kind.{Kind}
use Rattle.gob_types.specs.declared.kind.Kind.TheVariants as kind
use Rattle.gob_types.specs.Table.{Table}
use Rattle.gob_value.specs.Spelling.{Spells, SpellsAs, SpellsEach, SpellsPairs, SpellsFields, truth}
use Rattle.gob_value.specs.Spelling as spells
use Rattle.gob_value.specs.Top.{SpellsTop}
use Rattle.gob_value.specs.Top as top
use Rattle.gob_value.specs.Tree.{Tree, Trees, Pairs, Fields, tree_count, pair_count}
use Rattle.gob_value.specs.Tree.{depth, trees_depth, pairs_depth, fields_depth}
use Rattle.gob_value.specs.Tree as Value
use Rattle.gob_value.specs.Written.{WrittenBytes, counted}
use Rattle.gob_read.specs.declared.event.RawKind.{RawKind}
use Rattle.gob_read.specs.declared.event.RawKind.TheVariants as raw
use Rattle.gob_read.specs.Leaf.{signed_of, number_tree, raw_tree}
use Rattle.gob_read.specs.WellFormed.{AreNumbers}
use Rattle.gob_read.specs.WellFormed as formed
use Rattle.gob_tape.specs.declared.flat.FlatNode.{FlatNode}
use Rattle.gob_tape.specs.Flat.{Flat}
use Rattle.gob_tape.specs.FlatNodes.{flat, number_code, raw_code}
use Rattle.gob_tape.specs.Meaning.{field_count, MeansAt, MeansEach, MeansPairs, MeansFields}
use Rattle.gob_tape.specs.Meaning as means
use Rattle.gob_nodes.specs.declared.value.Places.{Places}
use Rattle.gob_nodes.specs.Nodes.{HasBytes, bytes_of}
use Rattle.gob_nodes.specs.Says.{LeafBytes, Says, of_type, SaysAs, of_leaf, of_opaque, of_slice, of_array, of_map}
use Rattle.gob_nodes.specs.Says.{of_struct, leaf_at, opaque_at, SaysValue, at_once, up_to, tagged, SaysList}
use Rattle.gob_nodes.specs.Says.{a_list, a_map, a_struct, SaysEach, no_element, element, SaysPairs, no_entry, entry}
use Rattle.gob_nodes.specs.Says.{SaysFields, end_of_fields, next_field, spells_complex, places}

-- ---- parts without parts

even : {n : ℕ} {x : List ℕ} → IsSigned (pos n) x → IsUnsigned (2 * n) x
even (not_negative p) = p

odd : {n : ℕ} {x : List ℕ} → IsSigned (negsuc n) x → IsUnsigned (2 * n + 1) x
odd (negative p) = p

-- a signed number is spelled by the unsigned one that it is of
unsigned_of : (a : ℕ) {x : List ℕ} → IsSigned (signed_of a) x → IsUnsigned a x
unsigned_of a {x = x} p = by (a % 2) refl
  where
    by : (r : ℕ) → a % 2 ≡ r → IsUnsigned a x
    by zero e =
        let half : 2 * (a / 2) ≡ a = omega arith in
        subst (λ n. IsUnsigned n x) half (even (subst (λ i. IsSigned i x)
        (ap (λ r. if r == 0 then pos (a / 2) else negsuc (a / 2)) e) p))
    by (suc zero) e =
        let half : 2 * (a / 2) + 1 ≡ a = omega arith in
        subst (λ n. IsUnsigned n x) half (odd (subst (λ i. IsSigned i x)
        (ap (λ r. if r == 0 then pos (a / 2) else negsuc (a / 2)) e) p))
    by (suc (suc r)) e = absurd (omega arith)

truth_is : (a : ℕ) → a ≤ 1 → truth (a == 1) ≡ a
truth_is zero l = refl
truth_is (suc zero) l = refl
truth_is (suc (suc a)) l = absurd (omega arith)

-- the node has these numbers
record HasWords (n : FlatNode) (c a b : ℕ) : Type 0 where
  code : n.kind ≡ c
  first : n.first ≡ a
  second : n.second ≡ b

-- the kind is of this basic type, of which a node of the numbers says these bytes
record IsBasic (P : List ℕ) (K : Kind) (k : Basic) (n : FlatNode) (b : List ℕ) : Type 0 where
  kind : K ≡ kind.Basic k
  bytes : LeafBytes P k n b

number_said : {T : Table} {K : Kind} (P : List ℕ) (n : FlatNode) {k : Basic} {a b : ℕ} {x : List ℕ} → AreNumbers k a b
    → n.first ≡ a → n.second ≡ b → SpellsAs T K (number_tree k a b) x → IsBasic P K k n x
number_said P n (formed.of_bool {a = a} l) e g (spells.of_bool {b = x} p) = record {
  kind = refl;
  bytes = (omega (arith, l, e), subst (λ m. IsUnsigned m x) (truth_is a l ∙ sym e) p);
}
number_said P n (formed.of_int {a = a}) e g (spells.of_int {b = x} p) =
    record { kind = refl; bytes = subst (λ m. IsUnsigned m x) (sym e) (unsigned_of a p) }
number_said P n formed.of_uint e g (spells.of_uint {b = x} p) =
    record { kind = refl; bytes = subst (λ m. IsUnsigned m x) (sym e) p }
number_said P n formed.of_float e g (spells.of_float {b = x} p) =
    record { kind = refl; bytes = subst (λ m. IsPattern m x) (sym e) p }
number_said P n formed.of_complex e g (spells.of_complex {b = x} {c = y} p q) = record {
  kind = refl;
  bytes = spells_complex (subst (λ m. IsPattern m x) (sym e) p) (subst (λ m. IsPattern m y) (sym g) q);
}
number_said P n formed.of_nil e g (spells.of_nil p) = record { kind = refl; bytes = p }

number_says : {T : Table} {K : Kind} {N : List FlatNode} {P : List ℕ} {n : FlatNode} {k : Basic} {a b i : ℕ}
    {x : List ℕ} (h limit : ℕ) → AreNumbers k a b → HasWords n (number_code k) a b → slice_get N i ≡ Some n
    → SpellsAs T K (number_tree k a b) x → SaysAs T N P K limit (places i h) (places (i + 1) h) x
number_says {T = T} {N = N} {P = P} {n = n} {i = i} {x = x} h limit are words there spelled =
    let s = number_said P n are words.first words.second spelled in
    subst (λ (K : Kind). SaysAs T N P K limit (places i h) (places (i + 1) h) x) (sym s.kind)
    (of_leaf (leaf_at there (record { kind = words.code; bytes = s.bytes })))

-- so many bytes from there on
words_bytes : (P : List ℕ) (n : FlatNode) {start count : ℕ} {x : List ℕ} → n.first ≡ start → n.second ≡ count
    → start + count ≤ length P → WrittenBytes (take count (drop start P)) x
    → HasBytes P n × WrittenBytes (bytes_of P n) x
words_bytes P n {start = start} {count = count} {x = x} e g has p = (
  omega (arith, has, e, g),
  subst (λ (s : List ℕ). WrittenBytes s x) (sym (ap (λ (m : ℕ). take m (drop n.first P)) g
      ∙ ap (λ (m : ℕ). take count (drop m P)) e)) p,
)

raw_says : {T : Table} {K : Kind} {N : List FlatNode} {P : List ℕ} {n : FlatNode} {start count i : ℕ} {x : List ℕ}
    (h limit : ℕ) (k : RawKind) → HasWords n (raw_code k) start count → slice_get N i ≡ Some n
    → start + count ≤ length P → SpellsAs T K (raw_tree k (take count (drop start P))) x
    → SaysAs T N P K limit (places i h) (places (i + 1) h) x
raw_says {P = P} {n = n} h limit raw.Bytes words there has (spells.of_bytes p) =
    of_leaf (leaf_at there (record {
      kind = words.code;
      bytes = words_bytes P n words.first words.second has (counted p);
    }))
raw_says {P = P} {n = n} h limit raw.Str words there has (spells.of_text p) =
    of_leaf (leaf_at there (record {
      kind = words.code;
      bytes = words_bytes P n words.first words.second has (counted p);
    }))
raw_says {P = P} {n = n} h limit raw.Opaque words there has (spells.of_opaque p) =
    let said = words_bytes P n words.first words.second has (counted p) in
    of_opaque (opaque_at there words.code said.0 said.1)

-- ---- parts

some_depth : (v : Tree) → 0 < depth v
some_depth (Value.many vs) = omega arith
some_depth (Value.pairs ps) = omega arith
some_depth (Value.fields fs) = omega arith
some_depth (Value.bool x) = omega arith
some_depth (Value.int i) = omega arith
some_depth (Value.uint n) = omega arith
some_depth (Value.float p) = omega arith
some_depth (Value.complex p q) = omega arith
some_depth (Value.bytes s) = omega arith
some_depth (Value.text s) = omega arith
some_depth (Value.opaque s) = omega arith
some_depth Value.nil = omega arith

-- the node of a part says which field it is
record IsFieldNode (N : List FlatNode) (i f : ℕ) : Type 0 where
  node : FlatNode
  there : slice_get N i ≡ Some node
  named : node.named ≡ 1
  number : f ≡ node.number

field_node : (tape : Flat) {i j f : ℕ} {v : Tree} → MeansAt tape.nodes tape.pool i j (Some f) v
    → IsFieldNode (map flat tape.nodes) i f
field_node tape {i = i} (means.a_number s are) =
    record { node = _; there = slice_get-map flat tape.nodes i ∙ ap (option_map flat) s; named = refl; number = refl }
field_node tape {i = i} (means.raw_bytes s has) =
    record { node = _; there = slice_get-map flat tape.nodes i ∙ ap (option_map flat) s; named = refl; number = refl }
field_node tape {i = i} (means.a_list s end count m) =
    record { node = _; there = slice_get-map flat tape.nodes i ∙ ap (option_map flat) s; named = refl; number = refl }
field_node tape {i = i} (means.a_map s end count m) =
    record { node = _; there = slice_get-map flat tape.nodes i ∙ ap (option_map flat) s; named = refl; number = refl }
field_node tape {i = i} (means.a_struct s end count m) =
    record { node = _; there = slice_get-map flat tape.nodes i ∙ ap (option_map flat) s; named = refl; number = refl }

field_says : {T : Table} {N : List FlatNode} {P : List ℕ} {types : List Field} {next limit count i h f : ℕ}
    {q r : Places} {e : Field} {a b c : List ℕ} → IsFieldNode N i f → next ≤ f → slice_get types f ≡ Some e
    → IsUnsigned (f + 1 - next) a → Says T N P e.id limit (places i h) q b
    → SaysFields T N P types (f + 1) limit count q r c
    → SaysFields T N P types next limit (count + 1) (places i h) r (a ++ (b ++ c))
field_says {T = T} {N = N} {P = P} {types = types} {next = next} {limit = limit} {count = count} {q = q} {r = r} {e = e}
    {a = a} {c = c} is order found delta said rest =
    next_field is.there is.named (subst (λ (k : ℕ). next ≤ k) is.number order)
    (subst (λ (k : ℕ). slice_get types k ≡ Some e) is.number found)
    (subst (λ (k : ℕ). IsUnsigned (k + 1 - next) a) is.number delta) said
    (subst (λ (k : ℕ). SaysFields T N P types (k + 1) limit count q r c) is.number rest)

mutual
  part_says : {T : Table} (tape : Flat) {i j : ℕ} {f : Option ℕ} {t : TypeId} {v : Tree} {b : List ℕ}
      (h limit : ℕ) → MeansAt tape.nodes tape.pool i j f v → Spells T t v b → depth v ≤ limit
      → Says T (map flat tape.nodes) tape.pool t limit (places i h) (places j h) b
  part_says tape {v = v} h limit m (spells.of_type found s) deep =
      of_type found (omega (arith, deep, some_depth v)) (kind_says tape h limit m s deep)

  kind_says : {T : Table} (tape : Flat) {i j : ℕ} {f : Option ℕ} {K : Kind} {v : Tree} {b : List ℕ}
      (h limit : ℕ) → MeansAt tape.nodes tape.pool i j f v → SpellsAs T K v b → depth v ≤ limit
      → SaysAs T (map flat tape.nodes) tape.pool K limit (places i h) (places j h) b
  kind_says tape {i = i} h limit (means.a_number s are) spelled deep =
      number_says h limit are (record { code = refl; first = refl; second = refl })
      (slice_get-map flat tape.nodes i ∙ ap (option_map flat) s) spelled
  kind_says tape {i = i} h limit (means.raw_bytes {k = k} s has) spelled deep =
      raw_says h limit k (record { code = refl; first = refl; second = refl })
      (slice_get-map flat tape.nodes i ∙ ap (option_map flat) s) has spelled
  kind_says tape {i = i} h limit (means.a_list s end count m) (spells.of_slice c each) deep =
      of_slice (a_list (record {
        node = _;
        there = slice_get-map flat tape.nodes i ∙ ap (option_map flat) s;
        kind = refl;
        counted = count;
        end_is = end;
      }) c
      (each_says tape h (limit - 1) m each (omega (arith, deep))))
  kind_says {T = T} tape {i = i} {j = j} h limit (means.a_list {vs = vs} s end count m)
      (spells.of_array {e = e} {n = n} {c = c} {b = b} same spelled each) deep =
      of_array (subst (λ (k : ℕ). SaysList T (map flat tape.nodes) tape.pool e (limit - 1) k (places i h) (places j h)
      (c ++ b)) same
      (a_list (record {
        node = _;
        there = slice_get-map flat tape.nodes i ∙ ap (option_map flat) s;
        kind = refl;
        counted = count;
        end_is = end;
      })
      (subst (λ (k : ℕ). IsUnsigned k c) (sym same) spelled)
      (each_says tape h (limit - 1) m each (omega (arith, deep)))))
  kind_says tape {i = i} h limit (means.a_map s end count m) (spells.of_map c pairs) deep =
      of_map (a_map (record {
        node = _;
        there = slice_get-map flat tape.nodes i ∙ ap (option_map flat) s;
        kind = refl;
        counted = count;
        end_is = end;
      }) c
      (pairs_say tape h (limit - 1) m pairs (omega (arith, deep))))
  kind_says tape {i = i} h limit (means.a_struct s end count m) (spells.of_struct fields) deep =
      of_struct (a_struct (record {
        node = _;
        there = slice_get-map flat tape.nodes i ∙ ap (option_map flat) s;
        kind = refl;
        counted = count;
        end_is = end;
      })
      (fields_say tape h (limit - 1) m fields (omega (arith, deep))))

  each_says : {T : Table} (tape : Flat) {i j : ℕ} {e : TypeId} {vs : Trees} {b : List ℕ}
      (h limit : ℕ) → MeansEach tape.nodes tape.pool i j vs → SpellsEach T e vs b → trees_depth vs ≤ limit
      → SaysEach T (map flat tape.nodes) tape.pool e limit (tree_count vs) (places i h) (places j h) b
  each_says tape h limit means.no_part spells.no_element deep = no_element
  each_says tape h limit (means.part m ms) (spells.element s ss) deep =
      element (part_says tape h limit m s (omega (arith, deep))) (each_says tape h limit ms ss (omega (arith, deep)))

  pairs_say : {T : Table} (tape : Flat) {i j : ℕ} {k e : TypeId} {ps : Pairs} {b : List ℕ}
      (h limit : ℕ) → MeansPairs tape.nodes tape.pool i j ps → SpellsPairs T k e ps b → pairs_depth ps ≤ limit
      → SaysPairs T (map flat tape.nodes) tape.pool k e limit (pair_count ps) (places i h) (places j h) b
  pairs_say tape h limit means.no_entry spells.no_entry deep = no_entry
  pairs_say tape h limit (means.entry m n ms) (spells.entry s r ss) deep =
      entry (part_says tape h limit m s (omega (arith, deep))) (part_says tape h limit n r (omega (arith, deep)))
      (pairs_say tape h limit ms ss (omega (arith, deep)))

  fields_say : {T : Table} (tape : Flat) {i j : ℕ} {types : List Field} {next : ℕ} {fs : Fields}
      {b : List ℕ} (h limit : ℕ) → MeansFields tape.nodes tape.pool i j fs → SpellsFields T types next fs b
      → fields_depth fs ≤ limit
      → SaysFields T (map flat tape.nodes) tape.pool types next limit (field_count fs) (places i h) (places j h) b
  fields_say tape h limit means.end_of_fields (spells.end_of_fields end) deep = end_of_fields end
  fields_say tape {i = i} h limit (means.next_field m ms) (spells.next_field order found delta s ss) deep =
      field_says (field_node tape m) order found delta (part_says tape h limit m s (omega (arith, deep)))
      (fields_say tape h limit ms ss (omega (arith, deep)))

-- ---- all of it

whole_says : {T : Table} (tape : Flat) {t : TypeId} {v : Tree} {b : List ℕ} {limit : ℕ}
    → MeansAt tape.nodes tape.pool 0 (length tape.nodes) None v → Spells T t v b → depth v ≤ limit
    → Says T (map flat tape.nodes) tape.pool t limit (places 0 (length (map flat tape.nodes)))
    (places (length (map flat tape.nodes)) (length (map flat tape.nodes))) b
whole_says {T = T} tape {t = t} {b = b} {limit = limit} m s deep =
    let all = length (map flat tape.nodes) in
    subst (λ (n : ℕ). Says T (map flat tape.nodes) tape.pool t limit (places 0 all) (places n all) b)
    (sym (length-map tape.nodes flat))
    (part_says tape all limit m s deep)

pub top_says : {T : Table} (tape : Flat) {t : TypeId} {v : Tree} {b : List ℕ} {limit : ℕ}
    → SpellsTop T t v b → MeansAt tape.nodes tape.pool 0 (length tape.nodes) None v → depth v ≤ limit
    → SaysValue T (map flat tape.nodes) tape.pool t limit b
top_says tape (top.at_once found is s) m deep = at_once found is (up_to (whole_says tape m s deep))
top_says tape (top.tagged found isnt s) m deep = tagged found isnt (up_to (whole_says tape m s deep))
