-- What a visitor has gathered that was told of a value: the nodes and the bytes of its tape.
use Rattle.std.proofs.Common.{◌≡◌, ℕ, ◌+◌, ◌-◌, List, [], ◌∷◌, ◌++◌, length, Option, Some, None, Bool, true, false}
use Rattle.std.proofs.Common.{arith, suc, zero, pos, negsuc, ◌*◌, ◌/◌, ◌%◌, Result, Ok, Err}
use Rattle.std.specs.Prelude.{OnOk, ◌==◌, if◌then◌else◌}
use Rattle.gob_num.specs.Signed.{IsSigned, not_negative, negative}
use Rattle.gob_num.specs.Unsigned.{IsUnsigned}
use Rattle.gob_read.specs.Leaf.{signed_of}
use Rattle.gob_tape.proofs.SeeingLaws.{unsigned_signed}
use Rattle.gob_walk.specs.Event.{Event, leaf}
use Rattle.gob_walk.specs.Standing.{BeginsElements, EndsAt}
use Rattle.gob_walk.specs.Told.{Reaches}
use Rattle.gob_walk.specs.declared.walk_end.WalkEnd.{WalkEnd}
use Rattle.gob_walk.proofs.PublicLaws.{reached_both, reached_prefix}
use Rattle.gob_walk.proofs.TellLaws.{ElementsLeft}
use Rattle.gob_handed.specs.Machine.Gathered.{gathered_of, gathers_both, tells_flat, with_part}
use Rattle.gob_handed.specs.declared.flat_visitor.FlatVisitor.{FlatVisitor}
use Rattle.std.proofs.Common.{refl, sym, ap, ◌∙◌, subst, append_assoc, append-nil, length-append}
use Rattle.std.specs.Prelude.{slice_get}
use Rattle.std.proofs.Math.Seq.{set-append_seam}
use Rattle.gob_types.specs.declared.id.TypeId.{TypeId}
use Rattle.gob_types.specs.declared.kind.Field.{Field}
use Rattle.gob_types.specs.Table.{Table}
use Rattle.gob_value.specs.Spelling.{truth}
use Rattle.gob_value.specs.Tree.{Tree, Trees, no_tree, tree, Pairs, no_pair, pair, Fields, no_field, tree_count}
use Rattle.gob_value.specs.Tree.{pair_count}
use Rattle.gob_value.specs.Tree as Value
use Rattle.gob_tape.specs.Meaning.{field_count}
use Rattle.gob_tape.specs.Seeing.{unsigned_of}
use Rattle.gob_tape.specs.declared.flat.FlatNode.{FlatNode}
use Rattle.gob_walk.specs.Event.{between, entry_ends, field_ends}
use Rattle.gob_walk.specs.Event.{value_told, elements_told, entry_told, entries_told, fields_told}
use Rattle.gob_walk.specs.PartTypes.{field_type}
use Rattle.gob_handed.specs.Machine.Gathered.{Gathered, after, after_all, counted, counted_at, ended, ended_at}
use Rattle.gob_handed.specs.Machine.Gathered.{both_after, ended_node, more_parts, part_node, with_field}

-- ---- the nodes and the bytes of a value
abbrev mutual
  pub value_raw : Tree → List ℕ
  value_raw (Value.bytes b) = b
  value_raw (Value.text b) = b
  value_raw (Value.opaque b) = b
  value_raw (Value.many vs) = trees_raw vs
  value_raw (Value.pairs ps) = pairs_raw ps
  value_raw (Value.fields fs) = fields_raw fs
  value_raw _ = []

  pub trees_raw : Trees → List ℕ
  trees_raw no_tree = []
  trees_raw (tree v vs) = value_raw v ++ trees_raw vs

  pub pairs_raw : Pairs → List ℕ
  pairs_raw no_pair = []
  pairs_raw (pair x v ps) = value_raw x ++ (value_raw v ++ pairs_raw ps)

  pub fields_raw : Fields → List ℕ
  fields_raw no_field = []
  fields_raw (Value.field f v fs) = value_raw v ++ fields_raw fs

-- behind so many bytes
abbrev mutual
  pub value_nodes : Option ℕ → ℕ → Tree → List FlatNode
  value_nodes f p (Value.bool b) = part_node f 1 (truth b) 0 ∷ []
  value_nodes f p (Value.int i) = part_node f 2 (unsigned_of i) 0 ∷ []
  value_nodes f p (Value.uint n) = part_node f 3 n 0 ∷ []
  value_nodes f p (Value.float a) = part_node f 4 a 0 ∷ []
  value_nodes f p (Value.complex a b) = part_node f 7 a b ∷ []
  value_nodes f p (Value.bytes b) = part_node f 5 p (length b) ∷ []
  value_nodes f p (Value.text b) = part_node f 6 p (length b) ∷ []
  value_nodes f p Value.nil = part_node f 8 0 0 ∷ []
  value_nodes f p (Value.many vs) =
      part_node f 9 (tree_count vs) (length (trees_nodes p vs) + 1) ∷ trees_nodes p vs
  value_nodes f p (Value.pairs ps) =
      part_node f 10 (pair_count ps) (length (pairs_nodes p ps) + 1) ∷ pairs_nodes p ps
  value_nodes f p (Value.fields fs) =
      part_node f 11 (field_count fs) (length (fields_nodes p fs) + 1) ∷ fields_nodes p fs
  value_nodes f p (Value.opaque b) = part_node f 12 p (length b) ∷ []

  pub trees_nodes : ℕ → Trees → List FlatNode
  trees_nodes p no_tree = []
  trees_nodes p (tree v vs) = value_nodes None p v ++ trees_nodes (p + length (value_raw v)) vs

  pub pairs_nodes : ℕ → Pairs → List FlatNode
  pairs_nodes p no_pair = []
  pairs_nodes p (pair x v ps) =
      value_nodes None p x ++ (value_nodes None (p + length (value_raw x)) v
      ++ pairs_nodes (p + length (value_raw x) + length (value_raw v)) ps)

  pub fields_nodes : ℕ → Fields → List FlatNode
  fields_nodes p no_field = []
  fields_nodes p (Value.field f v fs) = value_nodes (Some f) p v ++ fields_nodes (p + length (value_raw v)) fs

-- ---- what was told is gathered
-- with these nodes and bytes behind what was there
abbrev pub with_all : Gathered → List FlatNode → List ℕ → Gathered
with_all s ns bs = record { nodes = s.nodes ++ ns; pool = s.pool ++ bs; group = s.group; field = None }

-- in a group whose node stands behind the first ones, and before the others
abbrev pub inside : (pre : List FlatNode) → FlatNode → (mid : List FlatNode) → List ℕ → Gathered
inside pre g mid bs = record { nodes = pre ++ g ∷ mid; pool = bs; group = length pre; field = None }

-- behind its end
abbrev pub closed : (pre : List FlatNode) → FlatNode → (mid : List FlatNode) → List ℕ → Gathered
closed pre g mid bs =
    record { nodes = pre ++ ended_node g (length mid + 1) ∷ mid; pool = bs; group = g.second; field = None }

seam : (pre : List FlatNode) (g : FlatNode) (mid : List FlatNode) → slice_get (pre ++ g ∷ mid) (length pre) ≡ Some g
seam [] g mid = refl
seam (p ∷ pre) g mid = seam pre g mid

counts : (pre : List FlatNode) (g : FlatNode) (mid : List FlatNode) (bs : List ℕ)
    → counted (inside pre g mid bs) ≡ inside pre (more_parts g 1) mid bs
counts pre g mid bs =
    ap (λ o. counted_at (inside pre g mid bs) o) (seam pre g mid)
    ∙ ap (λ (l : List FlatNode). record { nodes = l; pool = bs; group = length pre; field = None })
    (set-append_seam pre g mid (more_parts g 1))

ends : (pre : List FlatNode) (g : FlatNode) (mid : List FlatNode) (bs : List ℕ)
    → ended (inside pre g mid bs) ≡ closed pre g mid bs
ends pre g mid bs =
    let all = length-append pre (g ∷ mid) in
    let count : length (pre ++ g ∷ mid) - length pre ≡ length mid + 1 = omega arith in
    ap (λ o. ended_at (inside pre g mid bs) o) (seam pre g mid)
    ∙ ap (λ (l : List FlatNode). record { nodes = l; pool = bs; group = g.second; field = None })
    (set-append_seam pre g mid (ended_node g (length (pre ++ g ∷ mid) - length pre)))
    ∙ ap (λ (n : ℕ). record { nodes = pre ++ ended_node g n ∷ mid; pool = bs; group = g.second; field = None }) count

-- nothing comes behind
with_no_raw : (s : Gathered) (ns : List FlatNode)
    → record { nodes = s.nodes ++ ns; pool = s.pool; group = s.group; field = None } ≡ with_all s ns []
with_no_raw s ns =
    ap (λ (l : List ℕ). record { nodes = s.nodes ++ ns; pool = l; group = s.group; field = None })
    (sym (append-nil s.pool))

-- more parts in a group, with what is behind its node
went_on : (pre : List FlatNode) (g : FlatNode) (mid ns : List FlatNode) (bs cs : List ℕ)
    → with_all (inside pre g mid bs) ns cs ≡ inside pre g (mid ++ ns) (bs ++ cs)
went_on pre g mid ns bs cs =
    ap (λ (l : List FlatNode). record { nodes = l; pool = bs ++ cs; group = length pre; field = None })
    (append_assoc pre (g ∷ mid) ns)

-- what is left comes behind that
closed_on : (pre : List FlatNode) (g : FlatNode) (n : ℕ) (mid ns : List FlatNode) (bs cs ds : List ℕ)
    (ms : ℕ → List FlatNode) → closed pre (more_parts (more_parts g 1) n) ((mid ++ ns) ++ ms (length (bs ++ cs)))
    ((bs ++ cs) ++ ds)
    ≡ closed pre (more_parts g (n + 1)) (mid ++ (ns ++ ms (length bs + length cs))) (bs ++ (cs ++ ds))
closed_on pre g n mid ns bs cs ds ms =
    let first : (g.first + 1) + n ≡ g.first + (n + 1) = omega arith in
    ap (λ (l : List FlatNode). closed pre (more_parts (more_parts g 1) n) l ((bs ++ cs) ++ ds))
    (append_assoc mid ns (ms (length (bs ++ cs))))
    ∙ ap (λ (k : ℕ). closed pre (more_parts (more_parts g 1) n) (mid ++ (ns ++ ms k)) ((bs ++ cs) ++ ds))
    (length-append bs cs)
    ∙ ap (λ (l : List ℕ). closed pre (more_parts (more_parts g 1) n) (mid ++ (ns ++ ms (length bs + length cs))) l)
    (append_assoc bs cs ds)
    ∙ ap (λ (k : ℕ). closed pre (record {
      first = k;
      second = g.second;
      number = g.number;
      kind = g.kind;
      named = g.named;
    }) (mid ++ (ns ++ ms (length bs + length cs))) (bs ++ (cs ++ ds))) first

closed_last : (pre : List FlatNode) (g : FlatNode) (mid : List FlatNode) (bs : List ℕ)
    → closed pre g mid bs ≡ closed pre (more_parts g 0) (mid ++ []) (bs ++ [])
closed_last pre g mid bs =
    let first : g.first ≡ g.first + 0 = omega arith in
    ap (λ (l : List FlatNode). closed pre g l bs) (sym (append-nil mid))
    ∙ ap (λ (l : List ℕ). closed pre g (mid ++ []) l) (sym (append-nil bs))
    ∙ ap (λ (k : ℕ). closed pre (record {
      first = k;
      second = g.second;
      number = g.number;
      kind = g.kind;
      named = g.named;
    }) (mid ++ []) (bs ++ [])) first

-- an entry's two parts
pair_joined : (pre : List FlatNode) (g : FlatNode) (n : ℕ) (mid xs vs : List FlatNode) (bs cs ds es : List ℕ)
    (ms : ℕ → List FlatNode)
    → closed pre (more_parts g n) (mid ++ ((xs ++ vs) ++ ms (length bs + length (cs ++ ds)))) (bs ++ ((cs ++ ds) ++ es))
    ≡ closed pre (more_parts g n) (mid ++ (xs ++ (vs ++ ms (length bs + length cs + length ds))))
    (bs ++ (cs ++ (ds ++ es)))
pair_joined pre g n mid xs vs bs cs ds es ms =
    let long = length-append cs ds in
    let place : length bs + length (cs ++ ds) ≡ length bs + length cs + length ds = omega arith in
    ap (λ (k : ℕ). closed pre (more_parts g n) (mid ++ ((xs ++ vs) ++ ms k)) (bs ++ ((cs ++ ds) ++ es))) place
    ∙ ap (λ (l : List FlatNode). closed pre (more_parts g n) (mid ++ l) (bs ++ ((cs ++ ds) ++ es)))
    (append_assoc xs vs (ms (length bs + length cs + length ds)))
    ∙ ap (λ (l : List ℕ). closed pre (more_parts g n) (mid ++ (xs ++ (vs ++ ms (length bs + length cs + length ds))))
    (bs ++ l)) (append_assoc cs ds es)

-- a whole group
group_whole : (s : Gathered) (k n : ℕ) (ns : List FlatNode) (bs : List ℕ)
    → closed s.nodes (more_parts (part_node s.field k 0 s.group) n) ns (s.pool ++ bs)
    ≡ with_all s (part_node s.field k n (length ns + 1) ∷ ns) bs
group_whole s k n ns bs =
    let first : 0 + n ≡ n = omega arith in
    ap (λ (m : ℕ). record {
      nodes = s.nodes ++ part_node s.field k m (length ns + 1) ∷ ns;
      pool = s.pool ++ bs;
      group = s.group;
      field = None;
    }) first

abbrev IsGathered : Table → TypeId → Tree → Type 0
IsGathered T t v = (s : Gathered)
    → after_all s (value_told T t v) ≡ with_all s (value_nodes s.field (length s.pool) v) (value_raw v)

entry_gathered : (T : Table) (k e : TypeId) (x v : Tree) (pre : List FlatNode) (g : FlatNode) (mid : List FlatNode)
    (bs : List ℕ) → IsGathered T k x → IsGathered T e v → after_all (inside pre g mid bs) (entry_told T k e x v)
    ≡ inside pre g (mid ++ (value_nodes None (length bs) x ++ value_nodes None (length bs + length (value_raw x)) v))
    (bs ++ (value_raw x ++ value_raw v))
entry_gathered T k e x v pre g mid bs key value =
    let xs = value_nodes None (length bs) x in
    let more = value_told T e v ++ entry_ends k ∷ [] in
    let behind = inside pre g (mid ++ xs) (bs ++ value_raw x) in
    both_after (inside pre g mid bs) (value_told T k x) (between k ∷ more)
    ∙ ap (λ s. after_all s more) (key (inside pre g mid bs) ∙ went_on pre g mid xs bs (value_raw x))
    ∙ both_after behind (value_told T e v) (entry_ends k ∷ [])
    ∙ value behind
    ∙ went_on pre g (mid ++ xs) (value_nodes None (length (bs ++ value_raw x)) v) (bs ++ value_raw x) (value_raw v)
    ∙ ap (λ (n : ℕ). inside pre g ((mid ++ xs) ++ value_nodes None n v) ((bs ++ value_raw x) ++ value_raw v))
    (length-append bs (value_raw x))
    ∙ ap (λ (l : List FlatNode). inside pre g l ((bs ++ value_raw x) ++ value_raw v))
    (append_assoc mid xs (value_nodes None (length bs + length (value_raw x)) v))
    ∙ ap (λ (l : List ℕ). inside pre g (mid ++ (xs ++ value_nodes None (length bs + length (value_raw x)) v)) l)
    (append_assoc bs (value_raw x) (value_raw v))

mutual
  pub value_gathered : (T : Table) (t : TypeId) (v : Tree) (s : Gathered)
      → after_all s (value_told T t v) ≡ with_all s (value_nodes s.field (length s.pool) v) (value_raw v)
  value_gathered T t (Value.bool b) s = with_no_raw s _
  value_gathered T t (Value.int i) s = with_no_raw s _
  value_gathered T t (Value.uint n) s = with_no_raw s _
  value_gathered T t (Value.float a) s = with_no_raw s _
  value_gathered T t (Value.complex a b) s = with_no_raw s _
  value_gathered T t (Value.bytes b) s = refl
  value_gathered T t (Value.text b) s = refl
  value_gathered T t Value.nil s = with_no_raw s _
  value_gathered T t (Value.opaque b) s = refl
  value_gathered T t (Value.many vs) s =
      trees_gathered T _ false vs s.nodes (part_node s.field 9 0 s.group) [] s.pool
      ∙ group_whole s 9 (tree_count vs) (trees_nodes (length s.pool) vs) (trees_raw vs)
  value_gathered T t (Value.pairs ps) s =
      pairs_gathered T _ _ false ps s.nodes (part_node s.field 10 0 s.group) [] s.pool
      ∙ group_whole s 10 (pair_count ps) (pairs_nodes (length s.pool) ps) (pairs_raw ps)
  value_gathered T t (Value.fields fs) s =
      fields_gathered T _ 0 fs s.nodes (part_node s.field 11 0 s.group) [] s.pool
      ∙ group_whole s 11 (field_count fs) (fields_nodes (length s.pool) fs) (fields_raw fs)

  trees_gathered : (T : Table) (e : TypeId) (later : Bool) (vs : Trees) (pre : List FlatNode) (g : FlatNode)
      (mid : List FlatNode) (bs : List ℕ) → after_all (inside pre g mid bs) (elements_told later T e vs)
      ≡ closed pre (more_parts g (tree_count vs)) (mid ++ trees_nodes (length bs) vs) (bs ++ trees_raw vs)
  trees_gathered T e later no_tree pre g mid bs = ends pre g mid bs ∙ closed_last pre g mid bs
  trees_gathered T e later (tree v vs) pre g mid bs =
      let one = more_parts g 1 in
      let ns = value_nodes None (length bs) v in
      ap (λ s. after_all s (value_told T e v ++ elements_told true T e vs)) (counts pre g mid bs)
      ∙ both_after (inside pre one mid bs) (value_told T e v) (elements_told true T e vs)
      ∙ ap (λ s. after_all s (elements_told true T e vs))
      (value_gathered T e v (inside pre one mid bs) ∙ went_on pre one mid ns bs (value_raw v))
      ∙ trees_gathered T e true vs pre one (mid ++ ns) (bs ++ value_raw v)
      ∙ closed_on pre g (tree_count vs) mid ns bs (value_raw v) (trees_raw vs) (λ k. trees_nodes k vs)

  pairs_gathered : (T : Table) (k e : TypeId) (later : Bool) (ps : Pairs) (pre : List FlatNode) (g : FlatNode)
      (mid : List FlatNode) (bs : List ℕ) → after_all (inside pre g mid bs) (entries_told later T k e ps)
      ≡ closed pre (more_parts g (pair_count ps)) (mid ++ pairs_nodes (length bs) ps) (bs ++ pairs_raw ps)
  pairs_gathered T k e later no_pair pre g mid bs = ends pre g mid bs ∙ closed_last pre g mid bs
  pairs_gathered T k e later (pair x v ps) pre g mid bs =
      let one = more_parts g 1 in
      let xs = value_nodes None (length bs) x in
      let vs = value_nodes None (length bs + length (value_raw x)) v in
      ap (λ s. after_all s (entry_told T k e x v ++ entries_told true T k e ps)) (counts pre g mid bs)
      ∙ both_after (inside pre one mid bs) (entry_told T k e x v) (entries_told true T k e ps)
      ∙ ap (λ s. after_all s (entries_told true T k e ps))
      (entry_gathered T k e x v pre one mid bs (λ s. value_gathered T k x s) (λ s. value_gathered T e v s))
      ∙ pairs_gathered T k e true ps pre one (mid ++ (xs ++ vs)) (bs ++ (value_raw x ++ value_raw v))
      ∙ closed_on pre g (pair_count ps) mid (xs ++ vs) bs (value_raw x ++ value_raw v) (pairs_raw ps)
      (λ k. pairs_nodes k ps)
      ∙ pair_joined pre g (pair_count ps + 1) mid xs vs bs (value_raw x) (value_raw v) (pairs_raw ps)
      (λ k. pairs_nodes k ps)

  fields_gathered : (T : Table) (types : List Field) (next : ℕ) (fs : Fields) (pre : List FlatNode) (g : FlatNode)
      (mid : List FlatNode) (bs : List ℕ) → after_all (inside pre g mid bs) (fields_told T types next fs)
      ≡ closed pre (more_parts g (field_count fs)) (mid ++ fields_nodes (length bs) fs) (bs ++ fields_raw fs)
  fields_gathered T types next no_field pre g mid bs = ends pre g mid bs ∙ closed_last pre g mid bs
  fields_gathered T types next (Value.field f v fs) pre g mid bs =
      let one = more_parts g 1 in
      let t = field_type (slice_get types f) in
      let ns = value_nodes (Some f) (length bs) v in
      let more = fields_told T types (f + 1) fs in
      ap (λ s. after_all (with_field s f) ((value_told T t v ++ field_ends ∷ []) ++ more)) (counts pre g mid bs)
      ∙ both_after (with_field (inside pre one mid bs) f) (value_told T t v ++ field_ends ∷ []) more
      ∙ ap (λ s. after_all s more)
      (both_after (with_field (inside pre one mid bs) f) (value_told T t v) (field_ends ∷ [])
      ∙ value_gathered T t v (with_field (inside pre one mid bs) f) ∙ went_on pre one mid ns bs (value_raw v))
      ∙ fields_gathered T types (f + 1) fs pre one (mid ++ ns) (bs ++ value_raw v)
      ∙ closed_on pre g (field_count fs) mid ns bs (value_raw v) (fields_raw fs) (λ k. fields_nodes k fs)

-- ---- ints
-- what spells an unsigned number spells the signed one that it stands for
pub signed_spelled : (n : ℕ) (bytes : List ℕ) → IsUnsigned n bytes → IsSigned (signed_of n) bytes
signed_spelled n bytes u = by (n % 2) refl
  where
    by : (r : ℕ) → n % 2 ≡ r → IsSigned (signed_of n) bytes
    by zero e =
        let half : 2 * (n / 2) ≡ n = omega (arith, e) in
        subst (λ r. IsSigned (if r == 0 then pos (n / 2) else negsuc (n / 2)) bytes) (sym e)
        (not_negative (subst (λ k. IsUnsigned k bytes) (sym half) u))
    by (suc zero) e =
        let half : 2 * (n / 2) + 1 ≡ n = omega (arith, e) in
        subst (λ r. IsSigned (if r == 0 then pos (n / 2) else negsuc (n / 2)) bytes) (sym e)
        (negative (subst (λ k. IsUnsigned k bytes) (sym half) u))
    by (suc (suc r)) e = absurd (omega arith)

-- the node of an int by its unsigned number
pub int_gathered : {E : Type 0} (old new : FlatVisitor) (n : ℕ) (r : Result (Unit {0}) E)
    → OnOk r (gathered_of new ≡ with_part (gathered_of old) 2 n 0)
    → tells_flat old new (leaf (Value.int (signed_of n)) ∷ []) r
int_gathered old new n (Ok u) e =
    e ∙ ap (λ (k : ℕ). with_part (gathered_of old) 2 k 0) (sym (unsigned_signed n))
int_gathered old new n (Err e) p = tt

-- what an answer says of one event
pub one_gathered : {E : Type 0} (old new : FlatVisitor) (e : Event) (r : Result (Unit {0}) E)
    → OnOk r (gathered_of new ≡ after (gathered_of old) e) → tells_flat old new (e ∷ []) r
one_gathered old new e (Ok u) p = p
one_gathered old new e (Err f) p = tt

-- what was looked at stands there, whether it was known or not
pub seen_or_known : {known : Bool} {P : List ℕ → List ℕ → Type 0} {body : List ℕ} {a b : ℕ} → EndsAt false P body a b
    → EndsAt known P body a b
seen_or_known p = record { inside = p.inside; stands = λ k. p.stands refl }

-- all elements of a list are left
pub all_elements : {O E : Type 0} (tells : O → O → List Event → Result (Unit {0}) E → Type 0) {T : Table} {e : TypeId}
    {limit count : ℕ} {vs : Trees} {old : O} {piece rest : List ℕ} → BeginsElements T e limit vs piece rest
    → tree_count vs ≡ count
    → ElementsLeft tells T e limit (count - 0) false old old piece rest (elements_told false T e vs)
all_elements tells {vs = vs} b counted =
    record { values = vs; begins = b; counted = omega (arith, counted); text = λ new r p. p }

-- ---- events in order, for the walk's own laws
pub flat_both : {E : Type 0} (a b c : FlatVisitor) (x y : List Event) (r : Result (Unit {0}) (WalkEnd E))
    → Reaches (tells_flat {E = E}) a b x (Ok tt) → Reaches tells_flat b c y r → Reaches tells_flat a c (x ++ y) r
flat_both a b c x y r p q = reached_both tells_flat
    (λ a b c x y r p q. gathers_both (gathered_of a) (gathered_of b) (gathered_of c) x y r p q) a b c x y r p q

pub flat_cut : {E : Type 0} (a b : FlatVisitor) (x y : List Event) (e : WalkEnd E)
    → Reaches (tells_flat {E = E}) a b x (Err e) → Reaches tells_flat a b (x ++ y) (Err e)
flat_cut a b x y e p = reached_prefix tells_flat (λ a b x y e p. tt) a b x y e p
