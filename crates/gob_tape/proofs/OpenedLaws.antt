-- How the open parts of a tape stand for what is told.
use Rattle.std.proofs.Common.{◌≡◌, ◌≢◌, ℕ, suc, zero, ◌+◌, ◌*◌, ◌-◌, ◌/◌, ◌^◌, ◌<◌, ◌≤◌, max, min, List, [], ◌∷◌, ◌++◌}
use Rattle.std.proofs.Common.{length, take, drop, set, Option, Some, None, arith, refl, sym, ap, ◌∙◌, subst}
use Rattle.std.proofs.Common.{length-append}
use Rattle.std.specs.Prelude.{slice_get}
use Rattle.std.proofs.Math.Seq.{drop-length, take-length}
use Rattle.std.proofs.lemmas.List.{drop-append-le, length-drop, length-set, append-nil}
use Rattle.std.proofs.lemmas.Option.{slice_get_within, same_Some}
use Rattle.gob_types.proofs.PublicLaws.{slice_get-append_left}
use Rattle.gob_types.specs.declared.basic.Basic.{Basic}
use Rattle.gob_types.specs.declared.basic.Basic.TheVariants as basic
use Rattle.gob_value.specs.Tree.{Tree, tree_count, pair_count, depth, trees_depth, pairs_depth, fields_depth}
use Rattle.gob_value.specs.View.{trees_of, pairs_of, fields_of}
use Rattle.gob_read.specs.declared.event.RawKind.{RawKind}
use Rattle.gob_read.specs.declared.event.RawKind.TheVariants as kind
use Rattle.gob_read.specs.declared.event.GroupKind.{GroupKind}
use Rattle.gob_read.specs.declared.event.GroupKind.TheVariants as group
use Rattle.gob_read.specs.WellFormed.{AreNumbers}
use Rattle.gob_read.specs.Machine.Built.{OpenPart, raw, fields, closed, opened_part, put_in}
use Rattle.gob_read.specs.Leaf.{number_tree, raw_tree}
use Rattle.gob_tape.specs.declared.node.Content.{Content}
use Rattle.gob_tape.specs.declared.node.Content.TheVariants as content
use Rattle.gob_tape.specs.declared.node.Node.{Node}
use Rattle.gob_tape.specs.declared.node.Begun.{Begun}
use Rattle.gob_tape.specs.Meaning.{node, field_count, MeansAt, a_number, raw_bytes, a_list, a_map, a_struct, MeansEach}
use Rattle.gob_tape.specs.Meaning.{no_part, part, MeansPairs, no_entry, entry, MeansFields, end_of_fields, next_field}
use Rattle.gob_tape.specs.Machine.Coming.{IsFree, at_top, in_list, in_map, in_struct, MayEnd, of_raw, of_list, of_map}
use Rattle.gob_tape.specs.Machine.Coming.{of_struct}
use Rattle.gob_tape.specs.Machine.Opened.{MeansKey, no_key, a_key, key_count, IsOpenPart, open_raw, open_list, open_map}
use Rattle.gob_tape.specs.Machine.Opened.{open_struct, AreOpen, no_open, in_part}
use Rattle.gob_tape.specs.Machine.State.{State, count_of, ended, counted, added_node}
use Rattle.gob_tape.specs.Machine.State as state
use Rattle.gob_tape.specs.Machine.Received.{key_depth, part_depth, parts_depth, ShowsTree, under_way, whole}
use Rattle.gob_tape.specs.Machine.Received as standing
use Rattle.gob_tape.proofs.MeaningLaws.{Kept, at_rises, each_rises, pairs_rise, fields_rise, at_kept, each_kept}
use Rattle.gob_tape.proofs.MeaningLaws.{pairs_kept, fields_kept}

-- ---- nodes that stay

pub below : {nodes after : List Node} {pool grown : List ℕ} {low high : ℕ} (h : ℕ) → h ≤ high
    → Kept nodes after pool grown low high → Kept nodes after pool grown low h
below h l k = record { same = λ i a b. k.same i a (omega arith); more = k.more; grows = k.grows }

key_rises : {nodes : List Node} {pool : List ℕ} {i j : ℕ} {key : Option Tree} → MeansKey nodes pool i j key
    → i + key_count key ≤ j
key_rises no_key = omega arith
key_rises (a_key m) = omega (arith, at_rises m)

key_kept : {nodes after : List Node} {pool grown : List ℕ} {low high i j : ℕ} {key : Option Tree}
    → Kept nodes after pool grown low high → low ≤ i → j ≤ high → MeansKey nodes pool i j key
    → MeansKey after grown i j key
key_kept x l h no_key = no_key
key_kept x l h (a_key m) = a_key (at_kept x l h m)

open_rises : {nodes : List Node} {pool : List ℕ} {i j count : ℕ} {f : Option ℕ} {p : OpenPart}
    → IsOpenPart nodes pool i j count f p → i < j
open_rises (open_raw s n l e) = omega arith
open_rises (open_list s c m) = omega (arith, each_rises m)
open_rises (open_map s c m k) = omega (arith, pairs_rise m, key_rises k)
open_rises (open_struct s c m) = omega (arith, fields_rise m)

-- the open parts stay where no raw bytes come into one of them
pub open_kept : {nodes after : List Node} {pool grown : List ℕ} {j : ℕ} {os : List Begun} {ps : List OpenPart}
    {f : Option ℕ} → AreOpen nodes pool j os ps → IsFree ps None f → Kept nodes after pool grown 0 j
    → AreOpen after grown j os ps
open_kept no_open h k = no_open
open_kept (in_part a g (open_raw s n l e)) h k = elim h [ ]
open_kept (in_part {o = o} a g (open_list s c m)) h k =
    let r = each_rises m in
    in_part (open_kept a g (below o.node (omega arith) k)) g (open_list (k.same o.node (omega arith) (omega arith)
    ∙ s) c (each_kept k (omega arith) (omega arith) m))
open_kept (in_part {o = o} a g (open_map s c m q)) h k =
    let r = pairs_rise m in
    let t = key_rises q in
    in_part (open_kept a g (below o.node (omega arith) k)) g
    (open_map (k.same o.node (omega arith) (omega arith) ∙ s) c (pairs_kept k (omega arith) (omega arith) m)
    (key_kept k (omega arith) (omega arith) q))
open_kept (in_part {o = o} a g (open_struct s c m)) h k =
    let r = fields_rise m in
    in_part (open_kept a g (below o.node (omega arith) k)) g (open_struct (k.same o.node (omega arith) (omega arith)
    ∙ s) c (fields_kept k (omega arith) (omega arith) m))

-- ---- one more part in an open part

each_more : {nodes : List Node} {pool : List ℕ} {i j k : ℕ} {v : Tree} (vs : List Tree)
    → MeansEach nodes pool i j (trees_of vs) → MeansAt nodes pool j k None v
    → MeansEach nodes pool i k (trees_of (vs ++ v ∷ []))
each_more [] no_part n = part n no_part
each_more (x ∷ vs) (part m ms) n = part m (each_more vs ms n)

pairs_more : {nodes : List Node} {pool : List ℕ} {i j k l : ℕ} {x v : Tree} (ps : List (Tree × Tree))
    → MeansPairs nodes pool i j (pairs_of ps) → MeansAt nodes pool j k None x → MeansAt nodes pool k l None v
    → MeansPairs nodes pool i l (pairs_of (ps ++ (x, v) ∷ []))
pairs_more [] no_entry n o = entry n o no_entry
pairs_more (p ∷ ps) (entry m q ms) n o = entry m q (pairs_more ps ms n o)

fields_more : {nodes : List Node} {pool : List ℕ} {i j k f : ℕ} {v : Tree} (fs : List (ℕ × Tree))
    → MeansFields nodes pool i j (fields_of fs) → MeansAt nodes pool j k (Some f) v
    → MeansFields nodes pool i k (fields_of (fs ++ (f, v) ∷ []))
fields_more [] end_of_fields n = next_field n end_of_fields
fields_more (x ∷ fs) (next_field m ms) n = next_field m (fields_more fs ms n)

-- ---- depths

trees_deeper : (vs : List Tree) (v : Tree) → trees_depth (trees_of (vs ++ v ∷ [])) ≡ max (trees_depth (trees_of vs))
    (depth v)
trees_deeper [] v = omega arith
trees_deeper (x ∷ vs) v = omega (arith, trees_deeper vs v)

pairs_deeper : (ps : List (Tree × Tree)) (x v : Tree) → pairs_depth (pairs_of (ps ++ (x, v) ∷ [])) ≡ max
    (max (pairs_depth (pairs_of ps)) (depth x)) (depth v)
pairs_deeper [] x v = omega arith
pairs_deeper (p ∷ ps) x v = omega (arith, pairs_deeper ps x v)

fields_deeper : (fs : List (ℕ × Tree)) (f : ℕ) (v : Tree) → fields_depth (fields_of (fs ++ (f, v) ∷ [])) ≡ max
    (fields_depth (fields_of fs)) (depth v)
fields_deeper [] f v = omega arith
fields_deeper (x ∷ fs) f v = omega (arith, fields_deeper fs f v)

pub number_depth : (k : Basic) (a b : ℕ) → depth (number_tree k a b) ≡ 1
number_depth basic.Bool a b = refl
number_depth basic.Int a b = refl
number_depth basic.Uint a b = refl
number_depth basic.Float a b = refl
number_depth basic.Complex a b = refl
number_depth basic.Bytes a b = refl
number_depth basic.Str a b = refl
number_depth basic.Interface a b = refl

pub raw_depth : (k : RawKind) (s : List ℕ) → depth (raw_tree k s) ≡ 1
raw_depth kind.Bytes s = refl
raw_depth kind.Str s = refl
raw_depth kind.Opaque s = refl

-- ---- a whole part comes into the innermost open one, or is the whole value

trees_length : (vs : List Tree) → tree_count (trees_of vs) ≡ length vs
trees_length [] = refl
trees_length (v ∷ vs) = omega (arith, trees_length vs)

pairs_length : (ps : List (Tree × Tree)) → pair_count (pairs_of ps) ≡ length ps
pairs_length [] = refl
pairs_length (p ∷ ps) = omega (arith, pairs_length ps)

fields_length : (fs : List (ℕ × Tree)) → field_count (fields_of fs) ≡ length fs
fields_length [] = refl
fields_length (f ∷ fs) = omega (arith, fields_length fs)

counted_once : {c n : ℕ} → c ≡ n → n + 1 < 2 ^ 64 → min (c + 1) (2 ^ 64 - 1) ≡ n + 1
counted_once e l = omega arith

pub put_shown : {s : State} {i : ℕ} {os : List Begun} {ps : List OpenPart} {f : Option ℕ} {v : Tree}
    → AreOpen s.nodes s.pool i os ps → IsFree ps None f → MeansAt s.nodes s.pool i (length s.nodes) f v
    → length s.nodes < 2 ^ 63 → s.begun ≡ counted os → s.field ≡ None
    → s.deepest ≡ max (parts_depth ps) (length ps + depth v)
    → ShowsTree s (put_in ps None v).parts (put_in ps None v).whole
put_shown (in_part a g (open_raw t n r q)) h m l b e d = elim h [ ]
put_shown no_open at_top m l b e d = whole m b (omega arith)
put_shown {s = s} {v = v} (in_part {ps = ps} a g (open_list {vs = vs} t c ms)) in_list m l b e d =
    under_way
    (rw b (in_part a g (open_list t (counted_once c (omega (arith, each_rises ms, at_rises m, trees_length vs))
    ∙ sym (length-append vs (v ∷ []))) (each_more vs ms m))))
    e (omega (arith, d, trees_deeper vs v))
put_shown {s = s} {v = v} (in_part {o = o} {ps = ps} a g (open_map {ps = es} {key = None} t c ms no_key)) in_map m l b e
    d =
    let n : min (o.parts + 1) (2 ^ 64 - 1) ≡ 2 * length es + key_count (Some v) =
    omega (arith, c, pairs_rise ms, at_rises m, pairs_length es) in
    under_way (rw b (in_part a g (open_map t n ms (a_key m)))) e (omega arith)
put_shown {s = s} {v = v} (in_part {o = o} {ps = ps} a g (open_map {ps = es} {key = Some x} t c ms (a_key n))) in_map m
    l b e d =
    let q : min (o.parts + 1) (2 ^ 64 - 1) ≡ 2 * length (es ++ (x, v) ∷ []) + key_count None =
    omega (arith, c, pairs_rise ms, at_rises m, at_rises n, pairs_length es, length-append es ((x, v) ∷ [])) in
    under_way (rw b (in_part a g (open_map t q (pairs_more es ms n m) no_key))) e
    (omega (arith, d, pairs_deeper es x v))
put_shown {s = s} {v = v} (in_part {ps = ps} a g (open_struct {fs = fs} t c ms)) (in_struct {f = f}) m l b e d =
    under_way
    (rw b (in_part a g (open_struct t (counted_once c (omega (arith, fields_rise ms, at_rises m, fields_length fs))
    ∙ sym (length-append fs ((f, v) ∷ []))) (fields_more fs ms m))))
    e (omega (arith, d, fields_deeper fs f v))

-- ---- each event

free_field : {ps : List OpenPart} {whole : Option Tree} {f : Option ℕ} → IsFree ps whole f → standing.next_field ps ≡ f
free_field at_top = refl
free_field in_list = refl
free_field in_map = refl
free_field in_struct = refl

open_length : {nodes : List Node} {pool : List ℕ} {j : ℕ} {os : List Begun} {ps : List OpenPart}
    → AreOpen nodes pool j os ps → length os ≡ length ps
open_length no_open = refl
open_length (in_part a g q) = omega (arith, open_length a)

seam : (xs : List Node) (x : Node) → slice_get (xs ++ x ∷ []) (length xs) ≡ Some x
seam [] x = refl
seam (y ∷ xs) x = seam xs x

-- the node that comes last
last_node : (s : State) {ps : List OpenPart} {whole : Option Tree} {f : Option ℕ} (c : Content)
    → s.field ≡ standing.next_field ps → IsFree ps whole f → slice_get (s.nodes ++ node s.field c ∷ []) (length s.nodes)
    ≡ Some (node f c)
last_node s c e h = seam s.nodes (node s.field c) ∙ ap (λ g. Some (node g c)) (e ∙ free_field h)

one_more : (xs : List Node) (x : Node) → length xs + 1 ≡ length (xs ++ x ∷ [])
one_more xs x = sym (length-append xs (x ∷ []))

pushed_kept : (nodes : List Node) (pool : List ℕ) (x : Node) → Kept nodes (nodes ++ x ∷ []) pool pool 0 (length nodes)
pushed_kept nodes pool x = record {
  same = λ k a b. slice_get-append_left nodes (x ∷ []) k b;
  more = [];
  grows =
      sym (append-nil pool);
}

pub shows_added : (s : State) {ps : List OpenPart} {whole : Option Tree} {f : Option ℕ} (k : Basic) (a b : ℕ)
    → ShowsTree s ps whole → IsFree ps whole f → AreNumbers k a b → length (added_node s (content.Number k a b)).nodes <
    2 ^ 63
    → ShowsTree (added_node s (content.Number k a b)) (put_in ps whole (number_tree k a b)).parts
    (put_in ps whole (number_tree k a b)).whole
shows_added s k a b (whole m e d) h n l = elim h [ ]
shows_added s {f = f} k a b (under_way o e d) h n l =
    let c = content.Number k a b in
    let x = node s.field c in
    put_shown {s = added_node s c} (open_kept o h (pushed_kept s.nodes s.pool x)) h
    (subst (λ j. MeansAt (s.nodes ++ x ∷ []) s.pool (length s.nodes) j f (number_tree k a b)) (one_more s.nodes x)
    (a_number (last_node s c e h) n))
    l refl refl (omega (arith, d, open_length o, number_depth k a b))

opened_list : {nodes : List Node} {pool : List ℕ} {i j : ℕ} {f : Option ℕ} (k : GroupKind)
    → slice_get nodes i ≡ Some (node f (content.Group k 0 0)) → i + 1 ≡ j
    → IsOpenPart nodes pool i j 0 f (opened_part k)
opened_list {nodes = nodes} {pool = pool} {i = i} {f = f} group.Many t e =
    subst (λ j. IsOpenPart nodes pool i j 0 f (opened_part group.Many)) e (open_list t refl no_part)
opened_list {nodes = nodes} {pool = pool} {i = i} {f = f} group.Pairs t e =
    subst (λ j. IsOpenPart nodes pool i j 0 f (opened_part group.Pairs)) e (open_map t refl no_entry no_key)
opened_list {nodes = nodes} {pool = pool} {i = i} {f = f} group.Fields t e =
    subst (λ j. IsOpenPart nodes pool i j 0 f (opened_part group.Fields)) e (open_struct t refl end_of_fields)

opened_next : (k : GroupKind) (ps : List OpenPart) → None ≡ standing.next_field (opened_part k ∷ ps)
opened_next group.Many ps = refl
opened_next group.Pairs ps = refl
opened_next group.Fields ps = refl

opened_depth : (k : GroupKind) → part_depth (opened_part k) ≡ 1
opened_depth group.Many = omega arith
opened_depth group.Pairs = omega arith
opened_depth group.Fields = omega arith

pub shows_entered : (s : State) {ps : List OpenPart} {whole : Option Tree} {f : Option ℕ} (k : GroupKind)
    → ShowsTree s ps whole → IsFree ps whole f → ShowsTree (state.opened_node s (content.Group k 0 0))
    (opened_part k ∷ ps) whole
shows_entered s k (whole m e d) h = elim h [ ]
shows_entered s {ps = ps} k (under_way o e d) h =
    let c = content.Group k 0 0 in
    let x = node s.field c in
    under_way (in_part (open_kept o h (pushed_kept s.nodes s.pool x)) h
    (opened_list k (last_node s c e h) (one_more s.nodes x)))
    (opened_next k ps) (omega (arith, d, open_length o, opened_depth k))

pub shows_started : (s : State) {ps : List OpenPart} {whole : Option Tree} {f : Option ℕ} (k : RawKind)
    → ShowsTree s ps whole → IsFree ps whole f
    → ShowsTree (state.opened_node s (content.Raw k (length s.pool) 0)) (raw k [] ∷ ps) whole
shows_started s k (whole m e d) h = elim h [ ]
shows_started s {ps = ps} k (under_way o e d) h =
    let c = content.Raw k (length s.pool) 0 in
    let x = node s.field c in
    under_way (in_part (open_kept o h (pushed_kept s.nodes s.pool x)) h
    (open_raw (last_node s c e h) (sym (one_more s.nodes x)) (omega arith) (sym (drop-length s.pool))))
    refl (omega (arith, d, open_length o))

-- raw bytes come into the innermost part
bytes_come : {nodes : List Node} {pool : List ℕ} {j : ℕ} {os : List Begun} {k : RawKind} {r : List ℕ}
    {ps : List OpenPart}
    (more : List ℕ) → AreOpen nodes pool j os (raw k r ∷ ps)
    → AreOpen nodes (pool ++ more) j os (raw k (r ++ more) ∷ ps)
bytes_come {nodes = nodes} {pool = pool} more (in_part a g (open_raw {start = start} t n l e)) =
    in_part (open_kept a g (record { same = λ k a b. refl; more = more; grows = refl })) g
    (open_raw t n (omega (arith, length-append pool more)) (ap (λ r. r ++ more) e
    ∙ sym (drop-append-le start pool more l)))

pub shows_more : (s : State) {k : RawKind} {r : List ℕ} {ps : List OpenPart} {whole : Option Tree} (more : List ℕ)
    → ShowsTree s (raw k r ∷ ps) whole → ShowsTree (record s { pool = s.pool ++ more }) (raw k (r ++ more) ∷ ps) whole
shows_more s more (under_way o e d) = under_way (bytes_come more o) e d

-- the number of the next part comes
number_comes : {nodes : List Node} {pool : List ℕ} {j : ℕ} {os : List Begun} {fs : List (ℕ × Tree)} {ps : List OpenPart}
    (f : ℕ) → AreOpen nodes pool j os (fields fs None ∷ ps) → AreOpen nodes pool j os (fields fs (Some f) ∷ ps)
number_comes f (in_part a g (open_struct t c m)) = in_part a g (open_struct t c m)

pub shows_field : (s : State) {fs : List (ℕ × Tree)} {ps : List OpenPart} {whole : Option Tree} (f : ℕ)
    → ShowsTree s (fields fs None ∷ ps) whole → ShowsTree (record s { field = Some f }) (fields fs (Some f) ∷ ps) whole
shows_field s f (under_way o e d) = under_way (number_comes f o) refl d

-- ---- the end of a part

set_same : {X : Type 0} (xs : List X) (i : ℕ) (y : X) → i < length xs → slice_get (set xs i y) i ≡ Some y
set_same [] i y h = absurd (omega arith)
set_same (x ∷ xs) zero y h = refl
set_same (x ∷ xs) (suc i) y h = set_same xs i y (omega arith)

set_other : {X : Type 0} (xs : List X) (i k : ℕ) (y : X) → k ≢ i → slice_get (set xs i y) k ≡ slice_get xs k
set_other [] i k y h = refl
set_other (x ∷ xs) zero zero y h = absurd (h refl)
set_other (x ∷ xs) zero (suc k) y h = refl
set_other (x ∷ xs) (suc i) zero y h = refl
set_other (x ∷ xs) (suc i) (suc k) y h = set_other xs i k y (λ e. h (ap suc e))

-- the node of a part that ends
pub end_node : Node → ℕ → ℕ → ℕ → ℕ → Node
end_node x parts i nodes pool = node x.field (ended x.content parts i nodes pool)

set_kept : (nodes : List Node) (pool : List ℕ) (i low high : ℕ) (x : Node) → ((k : ℕ) → low ≤ k → k < high → k ≢ i)
    → Kept nodes (set nodes i x) pool pool low high
set_kept nodes pool i low high x apart = record {
  same = λ k a b. set_other nodes i k x (apart k a b);
  more = [];
  grows = sym (append-nil pool);
}

-- the part is whole then
ended_means : {nodes : List Node} {pool : List ℕ} {i j count : ℕ} {f : Option ℕ} {p : OpenPart} (x : Node)
    → slice_get nodes i ≡ Some x → j ≡ length nodes → IsOpenPart nodes pool i j count f p → MayEnd p
    → MeansAt (set nodes i (node x.field (ended x.content count i j (length pool)))) pool i j f (closed p)
ended_means {nodes = nodes} {pool = pool} {i = i} {j = j} {count = count} {f = f} x g l
    (open_raw {start = start} {length_so_far = n} {k = k} {s = r'} t e b r) of_raw =
    let same = same_Some x (node f (content.Raw k start n)) (sym g ∙ t) in
    let y = node x.field (ended x.content count i j (length pool)) in
    let y_is : y ≡ node f (content.Raw k start (length pool - start)) =
    ap (λ z. node z.field (ended z.content count i j (length pool))) same in
    let bytes : take (length pool - start) (drop start pool) ≡ drop start pool = ap (λ n. take n (drop start pool))
    (sym (length-drop start pool)) ∙ take-length (drop start pool) in
    subst (λ h. MeansAt (set nodes i y) pool i h f (raw_tree k r')) (sym e)
    (subst (λ s. MeansAt (set nodes i y) pool i (i + 1) f (raw_tree k s)) (bytes ∙ sym r)
    (raw_bytes (set_same nodes i y (slice_get_within nodes i x g) ∙ ap Some y_is) (omega arith)))
ended_means {nodes = nodes} {pool = pool} {i = i} {j = j} {count = count} {f = f} x g l
    (open_list {a = a} {b = b} {vs = vs} t c m) of_list =
    let same = same_Some x (node f (content.Group group.Many a b)) (sym g ∙ t) in
    let y = node x.field (ended x.content count i j (length pool)) in
    let y_is : y ≡ node f (content.Group group.Many count (j - i)) =
    ap (λ z. node z.field (ended z.content count i j (length pool))) same in
    let r = each_rises m in
    a_list (set_same nodes i y (slice_get_within nodes i x g) ∙ ap Some y_is) (omega arith) (c ∙ sym (trees_length vs))
    (each_kept (set_kept nodes pool i (i + 1) j y (λ k a b e. absurd (omega arith))) (omega arith) (omega arith) m)
ended_means {nodes = nodes} {pool = pool} {i = i} {j = j} {count = count} {f = f} x g l
    (open_map {a = a} {b = b} {ps = ps} t c m no_key) of_map =
    let same = same_Some x (node f (content.Group group.Pairs a b)) (sym g ∙ t) in
    let y = node x.field (ended x.content count i j (length pool)) in
    let y_is : y ≡ node f (content.Group group.Pairs (count / 2) (j - i)) =
    ap (λ z. node z.field (ended z.content count i j (length pool))) same in
    let r = pairs_rise m in
    a_map (set_same nodes i y (slice_get_within nodes i x g) ∙ ap Some y_is) (omega arith)
    (omega (arith, c, pairs_length ps))
    (pairs_kept (set_kept nodes pool i (i + 1) j y (λ k a b e. absurd (omega arith))) (omega arith) (omega arith) m)
ended_means x g l (open_map t c m (a_key q)) h = elim h [ ]
ended_means {nodes = nodes} {pool = pool} {i = i} {j = j} {count = count} {f = f} x g l
    (open_struct {a = a} {b = b} {fs = fs} t c m) of_struct =
    let same = same_Some x (node f (content.Group group.Fields a b)) (sym g ∙ t) in
    let y = node x.field (ended x.content count i j (length pool)) in
    let y_is : y ≡ node f (content.Group group.Fields count (j - i)) =
    ap (λ z. node z.field (ended z.content count i j (length pool))) same in
    let r = fields_rise m in
    a_struct (set_same nodes i y (slice_get_within nodes i x g) ∙ ap Some y_is) (omega arith) (c
    ∙ sym (fields_length fs))
    (fields_kept (set_kept nodes pool i (i + 1) j y (λ k a b e. absurd (omega arith))) (omega arith) (omega arith) m)

closed_depth : {p : OpenPart} → MayEnd p → depth (closed p) ≡ part_depth p
closed_depth (of_raw {k = k} {s = s}) = raw_depth k s
closed_depth of_list = refl
closed_depth of_map = omega arith
closed_depth of_struct = refl

left_shown : (s : State) {j : ℕ} {o : Begun} {os : List Begun} {p : OpenPart} {ps : List OpenPart} (x : Node)
    → AreOpen s.nodes s.pool j (o ∷ os) (p ∷ ps) → j ≡ length s.nodes → MayEnd p → s.deepest ≡ parts_depth (p ∷ ps)
    → slice_get s.nodes o.node ≡ Some x → length s.nodes < 2 ^ 63
    → ShowsTree (record {
      nodes =
          set s.nodes o.node (node x.field (ended x.content o.parts o.node (length s.nodes) (length s.pool)));
      pool =
          s.pool;
      begun = counted os;
      field = None;
      deepest = s.deepest;
    })
    (put_in ps None (closed p)).parts (put_in ps None (closed p)).whole
left_shown s {j = j} {o = o} {os = os} {p = p} {ps = ps} x (in_part {f = f} a g q) e h d t l =
    let y = node x.field (ended x.content o.parts o.node (length s.nodes) (length s.pool)) in
    let m = ended_means {j = length s.nodes} x t refl (subst (λ k. IsOpenPart s.nodes s.pool o.node k o.parts f p) e q)
    h in
    put_shown {s = record {
      nodes = set s.nodes o.node y;
      pool = s.pool;
      begun = counted os;
      field = None;
      deepest =
          s.deepest;
    }}
    (open_kept a g (set_kept s.nodes s.pool o.node 0 o.node y (λ k a b e. absurd (omega arith)))) g
    (subst (λ k. MeansAt (set s.nodes o.node y) s.pool o.node k f (closed p)) (sym (length-set s.nodes o.node y)) m)
    (omega (arith, length-set s.nodes o.node y)) refl refl (omega (arith, d, closed_depth h))

-- the innermost part ends
pub shows_left : (s : State) {o : Begun} {os : List Begun} {p : OpenPart} {ps : List OpenPart} {whole : Option Tree}
    (x : Node)
    → s.begun ≡ o ∷ os → ShowsTree s (p ∷ ps) whole → MayEnd p
    → slice_get s.nodes o.node ≡ Some x → length s.nodes < 2 ^ 63
    → ShowsTree (record {
      nodes =
          set s.nodes o.node (node x.field (ended x.content o.parts o.node (length s.nodes) (length s.pool)));
      pool =
          s.pool;
      begun = counted os;
      field = None;
      deepest = s.deepest;
    })
    (put_in ps whole (closed p)).parts (put_in ps whole (closed p)).whole
shows_left s {p = p} {ps = ps} x b (under_way a e d) h t l =
    left_shown s x (subst (λ os. AreOpen s.nodes s.pool (length s.nodes) os (p ∷ ps)) b a) refl h d t l

-- which node it is
pub node_stands : {nodes : List Node} {pool : List ℕ} {j : ℕ} {o : Begun} {os : List Begun} {ps : List OpenPart}
    → AreOpen nodes pool j (o ∷ os) ps → o.node < j
node_stands (in_part a g q) = open_rises q
