-- Each value has a tape, with the nodes and the bytes that a visitor gathers.
use Rattle.std.proofs.Common.{◌≡◌, ℕ, pos, negsuc, ◌+◌, ◌*◌, ◌/◌, ◌%◌, ◌≤◌, List, [], ◌∷◌, ◌++◌, length, map, Option}
use Rattle.std.proofs.Common.{Some, None, Bool, true, false, arith, refl, sym, ap, ◌∙◌, subst, append_assoc, append-nil}
use Rattle.std.proofs.Common.{length-append, take, drop, ℤ}
use Rattle.std.proofs.lemmas.List.{length-map, map-append}
use Rattle.std.specs.Prelude.{slice_get, ◌==◌, if◌then◌else◌}
use Rattle.gob_types.specs.declared.basic.Basic.{Basic}
use Rattle.gob_types.specs.declared.basic.Basic.TheVariants as basic
use Rattle.gob_types.specs.declared.id.TypeId.{TypeId}
use Rattle.gob_types.specs.Table.{Table}
use Rattle.gob_value.specs.Spelling.{truth}
use Rattle.gob_value.specs.Top.{SpellsTop}
use Rattle.gob_value.specs.Tree.{Tree, Trees, no_tree, tree, Pairs, no_pair, pair, Fields, no_field, tree_count}
use Rattle.gob_value.specs.Tree.{depth, pair_count}
use Rattle.gob_value.specs.Tree as Value
use Rattle.gob_read.specs.declared.event.RawKind.{RawKind}
use Rattle.gob_read.specs.declared.event.RawKind.TheVariants as raw
use Rattle.gob_read.specs.Leaf.{number_tree, raw_tree, signed_of}
use Rattle.gob_read.specs.WellFormed.{AreNumbers, of_bool, of_int, of_uint, of_float, of_complex, of_nil}
use Rattle.gob_tape.specs.Flat.{Flat}
use Rattle.gob_tape.specs.FlatNodes.{flat, number_code, raw_code}
use Rattle.gob_tape.specs.Machine.Noted.{Noted}
use Rattle.gob_tape.specs.Meaning.{field_count, MeansAt, MeansEach, MeansFields, MeansPairs, a_list, a_map}
use Rattle.gob_tape.specs.Meaning.{a_number, a_struct, end_of_fields, entry, next_field, no_entry, no_part, part}
use Rattle.gob_tape.specs.Meaning.{raw_bytes}
use Rattle.gob_tape.specs.Seeing.{unsigned_of}
use Rattle.gob_tape.specs.declared.flat.FlatNode.{FlatNode}
use Rattle.gob_handed.specs.Machine.Gathered.{part_node}
use Rattle.gob_filled.specs.Filled.{filled, no_filling}
use Rattle.gob_handed.specs.ValueNodes.{AreNodesOf, behind, puts_none, puts_value}
use Rattle.gob_handed.proofs.EverLaws.{all_as_they_were}
use Rattle.gob_handed.proofs.GatheredLaws.{fields_nodes, fields_raw, pairs_nodes, pairs_raw, trees_nodes, trees_raw}
use Rattle.gob_handed.proofs.GatheredLaws.{value_nodes, value_raw}

-- ---- a node by itself
-- that of a part without parts, by its numbers
record NumberNode (f : Option ℕ) (k : Basic) (a b : ℕ) : Type 0 where
  node : Noted
  means : (nodes : List Noted) (pool : List ℕ) (i : ℕ) → slice_get nodes i ≡ Some node → AreNumbers k a b
      → MeansAt nodes pool i (i + 1) f (number_tree k a b)
  flat_is : flat node ≡ part_node f (number_code k) a b

number_node : (f : Option ℕ) (k : Basic) (a b : ℕ) → NumberNode f k a b
number_node f k a b = record { node = _; means = λ nodes pool i s n. a_number s n; flat_is = refl }

-- of raw bytes
record RawNode (f : Option ℕ) (k : RawKind) (start count : ℕ) : Type 0 where
  node : Noted
  means : (nodes : List Noted) (pool : List ℕ) (i : ℕ) → slice_get nodes i ≡ Some node → start + count ≤ length pool
      → MeansAt nodes pool i (i + 1) f (raw_tree k (take count (drop start pool)))
  flat_is : flat node ≡ part_node f (raw_code k) start count

raw_node : (f : Option ℕ) (k : RawKind) (start count : ℕ) → RawNode f k start count
raw_node f k start count = record { node = _; means = λ nodes pool i s n. raw_bytes s n; flat_is = refl }

-- of a list
record ListNode (f : Option ℕ) (count extent : ℕ) : Type 0 where
  node : Noted
  means : (nodes : List Noted) (pool : List ℕ) (i j : ℕ) (vs : Trees) → slice_get nodes i ≡ Some node
      → j ≡ i + extent → count ≡ tree_count vs → MeansEach nodes pool (i + 1) j vs
      → MeansAt nodes pool i j f (Value.many vs)
  flat_is : flat node ≡ part_node f 9 count extent

list_node : (f : Option ℕ) (count extent : ℕ) → ListNode f count extent
list_node f count extent = record { node = _; means = λ nodes pool i j vs s e c m. a_list s e c m; flat_is = refl }

-- of a map
record MapNode (f : Option ℕ) (count extent : ℕ) : Type 0 where
  node : Noted
  means : (nodes : List Noted) (pool : List ℕ) (i j : ℕ) (ps : Pairs) → slice_get nodes i ≡ Some node
      → j ≡ i + extent → count ≡ pair_count ps → MeansPairs nodes pool (i + 1) j ps
      → MeansAt nodes pool i j f (Value.pairs ps)
  flat_is : flat node ≡ part_node f 10 count extent

map_node : (f : Option ℕ) (count extent : ℕ) → MapNode f count extent
map_node f count extent = record { node = _; means = λ nodes pool i j ps s e c m. a_map s e c m; flat_is = refl }

-- of a struct
record StructNode (f : Option ℕ) (count extent : ℕ) : Type 0 where
  node : Noted
  means : (nodes : List Noted) (pool : List ℕ) (i j : ℕ) (fs : Fields) → slice_get nodes i ≡ Some node
      → j ≡ i + extent → count ≡ field_count fs → MeansFields nodes pool (i + 1) j fs
      → MeansAt nodes pool i j f (Value.fields fs)
  flat_is : flat node ≡ part_node f 11 count extent

struct_node : (f : Option ℕ) (count extent : ℕ) → StructNode f count extent
struct_node f count extent =
    record { node = _; means = λ nodes pool i j fs s e c m. a_struct s e c m; flat_is = refl }

-- ---- the nodes of a value, wherever they stand
record Laid (f : Option ℕ) (p : ℕ) (v : Tree) : Type 0 where
  nodes : List Noted
  means : (before after : List Noted) (front back : List ℕ) → length front ≡ p
      → MeansAt (before ++ (nodes ++ after)) (front ++ (value_raw v ++ back)) (length before)
      (length before + length nodes) f v
  flat_are : map flat nodes ≡ value_nodes f p v

record LaidEach (p : ℕ) (vs : Trees) : Type 0 where
  nodes : List Noted
  means : (before after : List Noted) (front back : List ℕ) → length front ≡ p
      → MeansEach (before ++ (nodes ++ after)) (front ++ (trees_raw vs ++ back)) (length before)
      (length before + length nodes) vs
  flat_are : map flat nodes ≡ trees_nodes p vs

record LaidPairs (p : ℕ) (ps : Pairs) : Type 0 where
  nodes : List Noted
  means : (before after : List Noted) (front back : List ℕ) → length front ≡ p
      → MeansPairs (before ++ (nodes ++ after)) (front ++ (pairs_raw ps ++ back)) (length before)
      (length before + length nodes) ps
  flat_are : map flat nodes ≡ pairs_nodes p ps

record LaidFields (p : ℕ) (fs : Fields) : Type 0 where
  nodes : List Noted
  means : (before after : List Noted) (front back : List ℕ) → length front ≡ p
      → MeansFields (before ++ (nodes ++ after)) (front ++ (fields_raw fs ++ back)) (length before)
      (length before + length nodes) fs
  flat_are : map flat nodes ≡ fields_nodes p fs

seam : (before : List Noted) (n : Noted) (after : List Noted) → slice_get (before ++ n ∷ after) (length before) ≡ Some n
seam [] n after = refl
seam (b ∷ before) n after = seam before n after

-- a part without parts, by its numbers
number_laid : {f : Option ℕ} {p : ℕ} (k : Basic) (a b : ℕ) (v : Tree) → AreNumbers k a b → number_tree k a b ≡ v
    → value_raw v ≡ [] → part_node f (number_code k) a b ∷ [] ≡ value_nodes f p v → Laid f p v
number_laid {f = f} k a b v n is raws flats =
    let one = number_node f k a b in
    record {
      nodes = one.node ∷ [];
      means = λ before after front back e.
          subst (λ (v : Tree). MeansAt (before ++ one.node ∷ after) (front ++ (value_raw v ++ back)) (length before)
          (length before + 1) f v) is
          (one.means (before ++ one.node ∷ after) _ (length before) (seam before one.node after) n);
      flat_are = ap (λ (n : FlatNode). n ∷ []) one.flat_is ∙ flats;
    }

-- by its raw bytes
bytes_there : (front bytes back : List ℕ) → take (length bytes) (drop (length front) (front ++ (bytes ++ back))) ≡ bytes
bytes_there [] bytes back = first bytes
  where
    first : (l : List ℕ) → take (length l) (l ++ back) ≡ l
    first [] = refl
    first (b ∷ l) = ap (λ (m : List ℕ). b ∷ m) (first l)
bytes_there (b ∷ front) bytes back = bytes_there front bytes back

raw_laid : {f : Option ℕ} {p : ℕ} (k : RawKind) (bytes : List ℕ) (v : Tree) → raw_tree k bytes ≡ v
    → value_raw v ≡ bytes → part_node f (raw_code k) p (length bytes) ∷ [] ≡ value_nodes f p v → Laid f p v
raw_laid {f = f} {p = p} k bytes v is raws flats =
    let one = raw_node f k p (length bytes) in
    record {
      nodes = one.node ∷ [];
      means = λ before after front back e.
          let pool = front ++ (bytes ++ back) in
          let long = length-append front (bytes ++ back) in
          let rest = length-append bytes back in
          let there : take (length bytes) (drop p pool) ≡ bytes =
          ap (λ (n : ℕ). take (length bytes) (drop n pool)) (sym e) ∙ bytes_there front bytes back in
          let m = one.means (before ++ one.node ∷ after) pool (length before) (seam before one.node after)
          (omega (arith, e, long, rest)) in
          subst (λ (l : List ℕ). MeansAt (before ++ one.node ∷ after) (front ++ (l ++ back)) (length before)
          (length before + 1) f v) (sym raws)
          (subst (λ (w : Tree). MeansAt (before ++ one.node ∷ after) pool (length before) (length before + 1) f w)
          (ap (λ (l : List ℕ). raw_tree k l) there ∙ is) m);
      flat_are = ap (λ (n : FlatNode). n ∷ []) one.flat_is ∙ flats;
    }

truth_small : (b : Bool) → truth b ≤ 1
truth_small true = omega arith
truth_small false = omega arith

truth_back : (b : Bool) → Value.bool (truth b == 1) ≡ Value.bool b
truth_back true = refl
truth_back false = refl

signed_back : (i : ℤ) → signed_of (unsigned_of i) ≡ i
signed_back (pos n) =
    let even : 2 * n % 2 ≡ 0 = omega arith in
    let half : 2 * n / 2 ≡ n = omega arith in
    ap (λ r. if r == 0 then pos (2 * n / 2) else negsuc (2 * n / 2)) even ∙ ap pos half
signed_back (negsuc n) =
    let odd : (2 * n + 1) % 2 ≡ 1 = omega arith in
    let half : (2 * n + 1) / 2 ≡ n = omega arith in
    ap (λ r. if r == 0 then pos ((2 * n + 1) / 2) else negsuc ((2 * n + 1) / 2)) odd ∙ ap negsuc half

-- ---- parts behind a node
-- the node stands before them
shift : (P : List Noted → ℕ → ℕ → Type 0) (before : List Noted) (n : Noted) (nodes after : List Noted)
    → P ((before ++ n ∷ []) ++ (nodes ++ after)) (length (before ++ n ∷ [])) (length (before ++ n ∷ []) + length nodes)
    → P (before ++ (n ∷ (nodes ++ after))) (length before + 1) (length before + length (n ∷ nodes))
shift P before n nodes after p =
    let place = length-append before (n ∷ []) in
    let end : length (before ++ n ∷ []) + length nodes ≡ length before + length (n ∷ nodes) = omega (arith, place) in
    subst (λ (l : List Noted). P l (length before + 1) (length before + length (n ∷ nodes)))
    (append_assoc before (n ∷ []) (nodes ++ after))
    (subst (λ (i : ℕ). P ((before ++ n ∷ []) ++ (nodes ++ after)) i (length before + length (n ∷ nodes))) place
    (subst (λ (j : ℕ). P ((before ++ n ∷ []) ++ (nodes ++ after)) (length (before ++ n ∷ [])) j) end p))

-- ---- a part, and others behind it
-- the first of two
first_of : (P : List Noted → List ℕ → ℕ → ℕ → Type 0) (before xs ys after : List Noted) (front cs ds back : List ℕ)
    → P (before ++ (xs ++ (ys ++ after))) (front ++ (cs ++ (ds ++ back))) (length before) (length before + length xs)
    → P (before ++ ((xs ++ ys) ++ after)) (front ++ ((cs ++ ds) ++ back)) (length before) (length before + length xs)
first_of P before xs ys after front cs ds back p =
    subst (λ (l : List Noted). P (before ++ l) (front ++ ((cs ++ ds) ++ back)) (length before)
    (length before + length xs)) (sym (append_assoc xs ys after))
    (subst (λ (l : List ℕ). P (before ++ (xs ++ (ys ++ after))) (front ++ l) (length before)
    (length before + length xs)) (sym (append_assoc cs ds back)) p)

-- the second
second_of : (P : List Noted → List ℕ → ℕ → ℕ → Type 0) (before xs ys after : List Noted) (front cs ds back : List ℕ)
    → P ((before ++ xs) ++ (ys ++ after)) ((front ++ cs) ++ (ds ++ back)) (length (before ++ xs))
    (length (before ++ xs) + length ys)
    → P (before ++ ((xs ++ ys) ++ after)) (front ++ ((cs ++ ds) ++ back)) (length before + length xs)
    (length before + length (xs ++ ys))
second_of P before xs ys after front cs ds back p =
    let place = length-append before xs in
    let both = length-append xs ys in
    let end : length (before ++ xs) + length ys ≡ length before + length (xs ++ ys) = omega (arith, place, both) in
    let nodes : (before ++ xs) ++ (ys ++ after) ≡ before ++ ((xs ++ ys) ++ after) =
    append_assoc before xs (ys ++ after) ∙ ap (λ (l : List Noted). before ++ l) (sym (append_assoc xs ys after)) in
    let bytes : (front ++ cs) ++ (ds ++ back) ≡ front ++ ((cs ++ ds) ++ back) =
    append_assoc front cs (ds ++ back) ∙ ap (λ (l : List ℕ). front ++ l) (sym (append_assoc cs ds back)) in
    subst (λ (l : List Noted). P l (front ++ ((cs ++ ds) ++ back)) (length before + length xs)
    (length before + length (xs ++ ys))) nodes
    (subst (λ (l : List ℕ). P ((before ++ xs) ++ (ys ++ after)) l (length before + length xs)
    (length before + length (xs ++ ys))) bytes
    (subst (λ (i : ℕ). P ((before ++ xs) ++ (ys ++ after)) ((front ++ cs) ++ (ds ++ back)) i
    (length before + length (xs ++ ys))) place
    (subst (λ (j : ℕ). P ((before ++ xs) ++ (ys ++ after)) ((front ++ cs) ++ (ds ++ back)) (length (before ++ xs)) j)
    end p)))

behind_front : (front cs : List ℕ) (p : ℕ) → length front ≡ p → length (front ++ cs) ≡ p + length cs
behind_front front cs p e = length-append front cs ∙ ap (λ (n : ℕ). n + length cs) e

-- the node of a group before those of its parts
group_flat : (f : Option ℕ) (k count : ℕ) (n : FlatNode) (nodes : List Noted) (ns : List FlatNode)
    → n ≡ part_node f k count (length nodes + 1) → map flat nodes ≡ ns
    → n ∷ map flat nodes ≡ part_node f k count (length ns + 1) ∷ ns
group_flat f k count n nodes ns is are =
    let long : length nodes ≡ length ns = sym (length-map nodes flat) ∙ ap length are in
    ap (λ (m : FlatNode). m ∷ map flat nodes) is
    ∙ ap (λ (l : ℕ). part_node f k count (l + 1) ∷ map flat nodes) long
    ∙ ap (λ (l : List FlatNode). part_node f k count (length ns + 1) ∷ l) are

two_flat : (xs ys : List Noted) (us vs : List FlatNode) → map flat xs ≡ us → map flat ys ≡ vs
    → map flat (xs ++ ys) ≡ us ++ vs
two_flat xs ys us vs d e =
    map-append flat xs ys ∙ ap (λ (l : List FlatNode). l ++ map flat ys) d ∙ ap (λ (l : List FlatNode). us ++ l) e

-- ---- all of a value
list_laid : (f : Option ℕ) (p : ℕ) (vs : Trees) → LaidEach p vs → Laid f p (Value.many vs)
list_laid f p vs l =
    let one = list_node f (tree_count vs) (length l.nodes + 1) in
    record {
      nodes = one.node ∷ l.nodes;
      means = λ before after front back e.
          let pool = front ++ (trees_raw vs ++ back) in
          one.means (before ++ (one.node ∷ (l.nodes ++ after))) pool (length before) _ vs
          (seam before one.node (l.nodes ++ after)) (omega arith) refl
          (shift (λ ns i j. MeansEach ns pool i j vs) before one.node l.nodes after
          (l.means (before ++ one.node ∷ []) after front back e));
      flat_are = group_flat f 9 (tree_count vs) (flat one.node) l.nodes _ one.flat_is l.flat_are;
    }

map_laid : (f : Option ℕ) (p : ℕ) (ps : Pairs) → LaidPairs p ps → Laid f p (Value.pairs ps)
map_laid f p ps l =
    let one = map_node f (pair_count ps) (length l.nodes + 1) in
    record {
      nodes = one.node ∷ l.nodes;
      means = λ before after front back e.
          let pool = front ++ (pairs_raw ps ++ back) in
          one.means (before ++ (one.node ∷ (l.nodes ++ after))) pool (length before) _ ps
          (seam before one.node (l.nodes ++ after)) (omega arith) refl
          (shift (λ ns i j. MeansPairs ns pool i j ps) before one.node l.nodes after
          (l.means (before ++ one.node ∷ []) after front back e));
      flat_are = group_flat f 10 (pair_count ps) (flat one.node) l.nodes _ one.flat_is l.flat_are;
    }

struct_laid : (f : Option ℕ) (p : ℕ) (fs : Fields) → LaidFields p fs → Laid f p (Value.fields fs)
struct_laid f p fs l =
    let one = struct_node f (field_count fs) (length l.nodes + 1) in
    record {
      nodes = one.node ∷ l.nodes;
      means = λ before after front back e.
          let pool = front ++ (fields_raw fs ++ back) in
          one.means (before ++ (one.node ∷ (l.nodes ++ after))) pool (length before) _ fs
          (seam before one.node (l.nodes ++ after)) (omega arith) refl
          (shift (λ ns i j. MeansFields ns pool i j fs) before one.node l.nodes after
          (l.means (before ++ one.node ∷ []) after front back e));
      flat_are = group_flat f 11 (field_count fs) (flat one.node) l.nodes _ one.flat_is l.flat_are;
    }

-- an element, and the pairs behind it
record ElementThen (v : Tree) (ps : Pairs) (nodes : List Noted) (pool : List ℕ) (i k : ℕ) : Type 0 where
  middle : ℕ
  element : MeansAt nodes pool i middle None v
  others : MeansPairs nodes pool middle k ps

element_then : (p : ℕ) (v : Tree) (ps : Pairs) (a : Laid None p v) (b : LaidPairs (p + length (value_raw v)) ps)
    (before after : List Noted) (front back : List ℕ) → length front ≡ p
    → ElementThen v ps (before ++ ((a.nodes ++ b.nodes) ++ after)) (front ++ ((value_raw v ++ pairs_raw ps) ++ back))
    (length before) (length before + length (a.nodes ++ b.nodes))
element_then p v ps a b before after front back e = record {
  middle = length before + length a.nodes;
  element = first_of (λ ns bs i j. MeansAt ns bs i j None v) before a.nodes b.nodes after front (value_raw v)
      (pairs_raw ps) back (a.means before (b.nodes ++ after) front (pairs_raw ps ++ back) e);
  others = second_of (λ ns bs i j. MeansPairs ns bs i j ps) before a.nodes b.nodes after front (value_raw v)
      (pairs_raw ps) back
      (b.means (before ++ a.nodes) after (front ++ value_raw v) back (behind_front front (value_raw v) p e));
}

none_end : (n : ℕ) → n ≡ n + 0
none_end n = omega arith

mutual
  value_laid : (f : Option ℕ) (p : ℕ) (v : Tree) → Laid f p v
  value_laid f p (Value.bool b) =
      number_laid basic.Bool (truth b) 0 (Value.bool b) (of_bool (truth_small b)) (truth_back b) refl refl
  value_laid f p (Value.int i) =
      number_laid basic.Int (unsigned_of i) 0 (Value.int i) of_int (ap Value.int (signed_back i)) refl refl
  value_laid f p (Value.uint n) = number_laid basic.Uint n 0 (Value.uint n) of_uint refl refl refl
  value_laid f p (Value.float a) = number_laid basic.Float a 0 (Value.float a) of_float refl refl refl
  value_laid f p (Value.complex a b) = number_laid basic.Complex a b (Value.complex a b) of_complex refl refl refl
  value_laid f p (Value.bytes b) = raw_laid raw.Bytes b (Value.bytes b) refl refl refl
  value_laid f p (Value.text b) = raw_laid raw.Str b (Value.text b) refl refl refl
  value_laid f p Value.nil = number_laid basic.Interface 0 0 Value.nil of_nil refl refl refl
  value_laid f p (Value.opaque b) = raw_laid raw.Opaque b (Value.opaque b) refl refl refl
  value_laid f p (Value.many vs) = list_laid f p vs (trees_laid p vs)
  value_laid f p (Value.pairs ps) = map_laid f p ps (pairs_laid p ps)
  value_laid f p (Value.fields fs) = struct_laid f p fs (fields_laid p fs)

  trees_laid : (p : ℕ) (vs : Trees) → LaidEach p vs
  trees_laid p no_tree = record {
    nodes = [];
    means = λ before after front back e.
        subst (λ (j : ℕ). MeansEach (before ++ after) (front ++ back) (length before) j no_tree)
        (none_end (length before)) no_part;
    flat_are = refl;
  }
  trees_laid p (tree v vs) =
      let a = value_laid None p v in
      let b = trees_laid (p + length (value_raw v)) vs in
      record {
        nodes = a.nodes ++ b.nodes;
        means = λ before after front back e.
            part (first_of (λ ns bs i j. MeansAt ns bs i j None v) before a.nodes b.nodes after front
            (value_raw v) (trees_raw vs) back (a.means before (b.nodes ++ after) front (trees_raw vs ++ back) e))
            (second_of (λ ns bs i j. MeansEach ns bs i j vs) before a.nodes b.nodes after front (value_raw v)
            (trees_raw vs) back
            (b.means (before ++ a.nodes) after (front ++ value_raw v) back (behind_front front (value_raw v) p e)));
        flat_are = two_flat a.nodes b.nodes _ _ a.flat_are b.flat_are;
      }

  pairs_laid : (p : ℕ) (ps : Pairs) → LaidPairs p ps
  pairs_laid p no_pair = record {
    nodes = [];
    means = λ before after front back e.
        subst (λ (j : ℕ). MeansPairs (before ++ after) (front ++ back) (length before) j no_pair)
        (none_end (length before)) no_entry;
    flat_are = refl;
  }
  pairs_laid p (pair x v ps) =
      let a = value_laid None p x in
      let b = value_laid None (p + length (value_raw x)) v in
      let c = pairs_laid (p + length (value_raw x) + length (value_raw v)) ps in
      record {
        nodes = a.nodes ++ (b.nodes ++ c.nodes);
        means = λ before after front back e.
            let others = second_of (λ ns bs i j. ElementThen v ps ns bs i j) before a.nodes (b.nodes ++ c.nodes)
            after front (value_raw x) (value_raw v ++ pairs_raw ps) back
            (element_then (p + length (value_raw x)) v ps b c (before ++ a.nodes) after (front ++ value_raw x) back
            (behind_front front (value_raw x) p e)) in
            entry (first_of (λ ns bs i j. MeansAt ns bs i j None x) before a.nodes (b.nodes ++ c.nodes) after front
            (value_raw x) (value_raw v ++ pairs_raw ps) back
            (a.means before ((b.nodes ++ c.nodes) ++ after) front ((value_raw v ++ pairs_raw ps) ++ back) e))
            others.element others.others;
        flat_are = two_flat a.nodes (b.nodes ++ c.nodes) _ _ a.flat_are
            (two_flat b.nodes c.nodes _ _ b.flat_are c.flat_are);
      }

  fields_laid : (p : ℕ) (fs : Fields) → LaidFields p fs
  fields_laid p no_field = record {
    nodes = [];
    means = λ before after front back e.
        subst (λ (j : ℕ). MeansFields (before ++ after) (front ++ back) (length before) j no_field)
        (none_end (length before)) end_of_fields;
    flat_are = refl;
  }
  fields_laid p (Value.field f v fs) =
      let a = value_laid (Some f) p v in
      let b = fields_laid (p + length (value_raw v)) fs in
      record {
        nodes = a.nodes ++ b.nodes;
        means = λ before after front back e.
            next_field (first_of (λ ns bs i j. MeansAt ns bs i j (Some f) v) before a.nodes b.nodes after front
            (value_raw v) (fields_raw fs) back (a.means before (b.nodes ++ after) front (fields_raw fs ++ back) e))
            (second_of (λ ns bs i j. MeansFields ns bs i j fs) before a.nodes b.nodes after front (value_raw v)
            (fields_raw fs) back
            (b.means (before ++ a.nodes) after (front ++ value_raw v) back (behind_front front (value_raw v) p e)));
        flat_are = two_flat a.nodes b.nodes _ _ a.flat_are b.flat_are;
      }

-- ---- its tape
pub nodes_of_value : {T : Table} {t : TypeId} {v : Tree} {b : List ℕ} → SpellsTop T t v b
    → AreNodesOf T t (filled v no_filling) (value_nodes None 0 v) (value_raw v)
nodes_of_value {T = T} {t = t} {v = v} {b = b} s =
    let a = value_laid None 0 v in
    let end : 0 + length a.nodes ≡ length a.nodes = omega arith in
    let whole : MeansAt a.nodes (value_raw v) 0 (length a.nodes) None v =
    subst (λ (l : List Noted). MeansAt l (value_raw v) 0 (length a.nodes) None v) (append-nil a.nodes)
    (subst (λ (l : List ℕ). MeansAt (a.nodes ++ []) l 0 (length a.nodes) None v) (append-nil (value_raw v))
    (subst (λ (j : ℕ). MeansAt (a.nodes ++ []) (value_raw v ++ []) 0 j None v) end (a.means [] [] [] [] refl))) in
    let tape : Flat = record { nodes = a.nodes; pool = value_raw v; depth = depth v } in
    let put : AreNodesOf T t (filled v no_filling) (map (behind 0) (map flat a.nodes)) (value_raw v) =
    puts_value {m = tape} s (record { parts = whole; deep = refl }) puts_none in
    subst (λ (l : List FlatNode). AreNodesOf T t (filled v no_filling) l (value_raw v))
    (all_as_they_were (map flat a.nodes) ∙ a.flat_are) put
