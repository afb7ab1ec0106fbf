-- What a node shows of the value that its part means.
use Rattle.std.proofs.Common.{◌≡◌, ℕ, zero, suc, ◌+◌, ◌*◌, ◌/◌, ◌%◌, ◌<◌, ◌≤◌, ◌-◌, ◌^◌, max, min, ◌⊎◌, inl, inr, List}
use Rattle.std.proofs.Common.{[], ◌∷◌, length, take, drop, get_or, Option, Some, None, arith, refl, sym, ap, ◌∙◌, subst}
use Rattle.std.proofs.Common.{pos, negsuc}
use Rattle.std.specs.Prelude.{◌==◌, if◌then◌else◌}
use Rattle.std.proofs.lemmas.List.{length-take, length-drop}
use Rattle.std.proofs.lemmas.Option.{slice_get-get_or}
use Rattle.gob_types.specs.declared.basic.Basic.{Basic}
use Rattle.gob_types.specs.declared.basic.Basic.TheVariants as basic
use Rattle.gob_value.specs.Tree.{Tree, Trees, Pairs, Fields}
use Rattle.gob_value.specs.Spelling.{truth}
use Rattle.gob_read.specs.declared.event.RawKind.{RawKind}
use Rattle.gob_read.specs.declared.event.RawKind.TheVariants as raw
use Rattle.gob_read.specs.declared.event.GroupKind.{GroupKind}
use Rattle.gob_read.specs.declared.event.GroupKind.TheVariants as group
use Rattle.gob_read.specs.Machine.Built.{opened_part, closed}
use Rattle.gob_read.specs.Leaf.{signed_of, number_tree, raw_tree}
use Rattle.gob_read.specs.WellFormed.{AreNumbers, of_bool, of_int, of_uint, of_float, of_complex, of_nil}
use Rattle.gob_tape.specs.declared.node.Content.{Content}
use Rattle.gob_tape.specs.declared.node.Content.TheVariants as content
use Rattle.gob_tape.specs.declared.node.Node.{Node}
use Rattle.gob_tape.specs.declared.view.View.{View}
use Rattle.gob_tape.specs.Meaning.{node, MeansAt, MeansEach, no_part, part, MeansPairs, no_entry, entry, MeansFields}
use Rattle.gob_tape.specs.Meaning.{end_of_fields, next_field}
use Rattle.gob_tape.specs.Seeing.{kind_of, bytes_of, numbers_of, unsigned_of, elements, alternating, present, parts_of}
use Rattle.gob_tape.specs.Seeing.{Sees, AreParts, no_more, one_more, Gives, GivesNext, gives_none, gives_one}
use Rattle.gob_tape.specs.Machine.State.{extent_of}
use Rattle.gob_tape.specs.declared.view.Children.{Children}
use Rattle.gob_tape.proofs.MeaningLaws.{Says, node_says, at_rises, at_within, at_one}

-- the node in its place says what the part is
pub seen_says : {view : View} {f : Option ℕ} {v : Tree} (c : Content) (d : Node) → view.place < length view.nodes.now
    → (get_or view.nodes.now view.place d).content ≡ c → (s : Sees view f v)
    → ((get_or view.nodes.now view.place d).field ≡ f) × Says view.nodes.now view.pool.now c view.place s.end v
seen_says {view = view} c d l e s =
    let x = get_or view.nodes.now view.place d in
    node_says c (slice_get-get_or view.nodes.now view.place d l ∙ ap (λ c. Some (node x.field c)) e) s.means

-- ---- numbers

pub unsigned_signed : (a : ℕ) → unsigned_of (signed_of a) ≡ a
unsigned_signed a = by (a % 2) refl
  where
    by : (r : ℕ) → a % 2 ≡ r → unsigned_of (signed_of a) ≡ a
    by zero e = let half : 2 * (a / 2) ≡ a = omega arith in
        ap (λ r. unsigned_of (if r == 0 then pos (a / 2) else negsuc (a / 2))) e ∙ half
    by (suc zero) e = let half : 2 * (a / 2) + 1 ≡ a = omega arith in
        ap (λ r. unsigned_of (if r == 0 then pos (a / 2) else negsuc (a / 2))) e ∙ half
    by (suc (suc r)) e = absurd (omega arith)

pub truth_number : (a : ℕ) → a ≤ 1 → truth (a == 1) ≡ a
truth_number zero l = refl
truth_number (suc zero) l = refl
truth_number (suc (suc a)) l = absurd (omega arith)

pub number_numbers : {k : Basic} {a b : ℕ} → AreNumbers k a b → (a, b) ≡ numbers_of (number_tree k a b)
number_numbers (of_bool {a = a} l) = ap (λ n. (n, 0)) (sym (truth_number a l))
number_numbers (of_int {a = a}) = ap (λ n. (n, 0)) (sym (unsigned_signed a))
number_numbers of_uint = refl
number_numbers of_float = refl
number_numbers of_complex = refl
number_numbers of_nil = refl

raw_numbers : (k : RawKind) (s : List ℕ) → numbers_of (raw_tree k s) ≡ (length s, 0)
raw_numbers raw.Bytes s = refl
raw_numbers raw.Str s = refl
raw_numbers raw.Opaque s = refl

pub says_numbers : (nodes : List Node) (pool : List ℕ) (i j : ℕ) (v : Tree) (k : Basic) (a b : ℕ)
    → Says nodes pool (content.Number k a b) i j v → (a, b) ≡ numbers_of v
says_numbers nodes pool i j v k a b s = number_numbers s.numbers ∙ ap numbers_of (sym s.value)

pub says_bytes : (nodes : List Node) (pool : List ℕ) (i j : ℕ) (v : Tree) (k : RawKind) (start count : ℕ)
    → Says nodes pool (content.Raw k start count) i j v → (count, 0) ≡ numbers_of v
says_bytes nodes pool i j v k start count s =
    let within : start + count ≤ length pool = s.within in
    let same : length (take count (drop start pool)) ≡ count = omega (
      arith,
      length-take count (drop start pool),
      length-drop start pool,
    ) in
    sym (ap numbers_of s.value ∙ raw_numbers k (take count (drop start pool)) ∙ ap (λ n. (n, 0)) same)

pub says_count : (nodes : List Node) (pool : List ℕ) (i j : ℕ) (v : Tree) (k : GroupKind) (count extent : ℕ)
    → Says nodes pool (content.Group k count extent) i j v → (count, 0) ≡ numbers_of v
says_count nodes pool i j v group.Many count extent s = ap (λ n. (n, 0)) s.counts ∙ ap numbers_of (sym s.value)
says_count nodes pool i j v group.Pairs count extent s = ap (λ n. (n, 0)) s.counts ∙ ap numbers_of (sym s.value)
says_count nodes pool i j v group.Fields count extent s = ap (λ n. (n, 0)) s.counts ∙ ap numbers_of (sym s.value)

-- ---- parts

each_parts : {nodes : List Node} {pool : List ℕ} {i j : ℕ} {vs : Trees} → MeansEach nodes pool i j vs
    → AreParts nodes pool i j (elements vs)
each_parts no_part = no_more
each_parts (part m ms) = one_more m (each_parts ms)

pair_parts : {nodes : List Node} {pool : List ℕ} {i j : ℕ} {ps : Pairs} → MeansPairs nodes pool i j ps
    → AreParts nodes pool i j (alternating ps)
pair_parts no_entry = no_more
pair_parts (entry m n ms) = one_more m (one_more n (pair_parts ms))

field_parts : {nodes : List Node} {pool : List ℕ} {i j : ℕ} {fs : Fields} → MeansFields nodes pool i j fs
    → AreParts nodes pool i j (present fs)
field_parts end_of_fields = no_more
field_parts (next_field m ms) = one_more m (field_parts ms)

pub number_parts : (k : Basic) (a b : ℕ) → parts_of (number_tree k a b) ≡ []
number_parts basic.Bool a b = refl
number_parts basic.Int a b = refl
number_parts basic.Uint a b = refl
number_parts basic.Float a b = refl
number_parts basic.Complex a b = refl
number_parts basic.Bytes a b = refl
number_parts basic.Str a b = refl
number_parts basic.Interface a b = refl

pub raw_parts : (k : RawKind) (s : List ℕ) → parts_of (raw_tree k s) ≡ []
raw_parts raw.Bytes s = refl
raw_parts raw.Str s = refl
raw_parts raw.Opaque s = refl

leaf_parts : {nodes : List Node} {pool : List ℕ} {i : ℕ} (v : Tree) → parts_of v ≡ []
    → AreParts nodes pool i i (parts_of v)
leaf_parts {nodes = nodes} {pool = pool} {i = i} v e = subst (AreParts nodes pool i i) (sym e) no_more

pub says_parts : (nodes : List Node) (pool : List ℕ) (i j : ℕ) (v : Tree) (c : Content) → Says nodes pool c i j v
    → AreParts nodes pool (i + 1) j (parts_of v)
says_parts nodes pool i j v (content.Number k a b) s =
    subst (λ j. AreParts nodes pool (i + 1) j (parts_of v)) (sym s.end) (leaf_parts v (ap parts_of s.value
    ∙ number_parts k a b))
says_parts nodes pool i j v (content.Raw k a b) s =
    subst (λ j. AreParts nodes pool (i + 1) j (parts_of v)) (sym s.end) (leaf_parts v (ap parts_of s.value
    ∙ raw_parts k (take b (drop a pool))))
says_parts nodes pool i j v (content.Group group.Many count extent) s =
    subst (λ v. AreParts nodes pool (i + 1) j (parts_of v)) (sym s.value) (each_parts s.each)
says_parts nodes pool i j v (content.Group group.Pairs count extent) s =
    subst (λ v. AreParts nodes pool (i + 1) j (parts_of v)) (sym s.value) (pair_parts s.each)
says_parts nodes pool i j v (content.Group group.Fields count extent) s =
    subst (λ v. AreParts nodes pool (i + 1) j (parts_of v)) (sym s.value) (field_parts s.each)

-- where it ends
pub says_end : (nodes : List Node) (pool : List ℕ) (i j : ℕ) (v : Tree) (c : Content) → Says nodes pool c i j v
    → j ≡ i + extent_of c
says_end nodes pool i j v (content.Number k a b) s = s.end
says_end nodes pool i j v (content.Raw k a b) s = s.end
says_end nodes pool i j v (content.Group group.Many count extent) s = s.end
says_end nodes pool i j v (content.Group group.Pairs count extent) s = s.end
says_end nodes pool i j v (content.Group group.Fields count extent) s = s.end

pub seen_parts : (view : View) (children : Children) {f : Option ℕ} {v : Tree} (c : Content) (d : Node)
    → view.place < length view.nodes.now → length view.nodes.now < 2 ^ 64
    → (get_or view.nodes.now view.place d).content ≡ c
    → children.nodes ≡ view.nodes → children.pool ≡ view.pool → children.place ≡ view.place + 1
    → children.end ≡ min (view.place + extent_of c) (2 ^ 64 - 1)
    → Sees view f v → Gives children (parts_of v)
seen_parts view children {v = v} c d l n h e g p q s =
    let ns = view.nodes.now in
    let w = (seen_says c d l h s).1 in
    let due = says_end ns view.pool.now view.place s.end v c w in
    let end : children.end ≡ s.end = omega (arith, at_within s.means) in
    record { parts = rw (e, g, p, end) (says_parts ns view.pool.now view.place s.end v c w) }

-- ---- the next part

pub parts_rise : {nodes : List Node} {pool : List ℕ} {i j : ℕ} {xs : List (Option ℕ × Tree)}
    → AreParts nodes pool i j xs → i ≤ j
parts_rise no_more = omega arith
parts_rise (one_more m ms) = omega (arith, at_rises m, parts_rise ms)

parts_within : {nodes : List Node} {pool : List ℕ} {i j : ℕ} {f : Option ℕ} {v : Tree} {xs : List (Option ℕ × Tree)}
    → AreParts nodes pool i j ((f, v) ∷ xs) → (i < j) × (i < length nodes)
parts_within (one_more m ms) = (omega (arith, at_rises m, parts_rise ms), omega (arith, at_rises m, at_within m))

-- two lists of parts between two places are one
pub parts_one : {nodes : List Node} {pool : List ℕ} {i j k : ℕ} {xs ys : List (Option ℕ × Tree)}
    → AreParts nodes pool i j xs → AreParts nodes pool i k ys → j ≡ k → xs ≡ ys
parts_one no_more no_more e = refl
parts_one no_more (one_more n ns) e = absurd (omega (arith, at_rises n, parts_rise ns))
parts_one (one_more m ms) no_more e = absurd (omega (arith, at_rises m, parts_rise ms))
parts_one {nodes = nodes} {pool = pool} {k = k} (one_more {f = f} {v = v} {xs = xs} m ms)
    (one_more {f = g} {v = w} {xs = ys} n ns) e =
    let x = at_one m n in
    let rest = parts_one ms (subst (λ i. AreParts nodes pool i k ys) (sym x.end) ns) e in
    ap (λ f. (f, v) ∷ xs) x.field ∙ ap (λ v. (g, v) ∷ xs) x.value ∙ ap (λ l. (g, w) ∷ l) rest

-- no part is left at the end
pub none_gives : (old : Children) (xs : List (Option ℕ × Tree)) → (old.end ≤ old.place)
    ⊎ (length old.nodes.now ≤ old.place) → Gives old xs → GivesNext old xs None
none_gives old [] h g = gives_none g
none_gives old ((f, v) ∷ xs) h g = absurd (by h (parts_within g.parts))
  where
    by : (old.end ≤ old.place) ⊎ (length old.nodes.now ≤ old.place) → (old.place < old.end)
        × (old.place < length old.nodes.now) → ⊥
    by (inl a) b = omega arith
    by (inr a) b = omega arith

pub some_gives : (old new : Children) (view : View) (xs : List (Option ℕ × Tree)) (c : Content) (d : Node)
    → old.place < old.end → old.place < length old.nodes.now → length old.nodes.now < 2 ^ 64
    → (get_or old.nodes.now old.place d).content ≡ c
    → new.nodes ≡ old.nodes → new.pool ≡ old.pool → new.end ≡ old.end
    → new.place ≡ max (min (old.place + extent_of c) (2 ^ 64 - 1)) (old.place + 1)
    → view.nodes ≡ old.nodes → view.pool ≡ old.pool → view.place ≡ old.place → Gives old xs
    → GivesNext new xs (Some view)
some_gives old new view xs c d l m n s e g h p a b k gives = by gives.parts refl refl
  where
    by : {i j : ℕ} {ys : List (Option ℕ × Tree)} → AreParts old.nodes.now old.pool.now i j ys → i ≡ old.place
        → j ≡ old.end → GivesNext new ys (Some view)
    by no_more q t = absurd (omega arith)
    by {i = i} {j = z} (one_more {j = j} {f = f} {v = v} {xs = rest} q ms) o t =
        let here = subst (λ i. MeansAt old.nodes.now old.pool.now i j f v) o q in
        let x = get_or old.nodes.now old.place d in
        let there = slice_get-get_or old.nodes.now old.place d m ∙ ap (λ c. Some (node x.field c)) s in
        let due = says_end old.nodes.now old.pool.now old.place j v c (node_says c there here).1 in
        let end : new.place ≡ j = omega (arith, at_within here, at_rises here) in
        gives_one (record { end = j; means = rw (a, b, k) here })
        (record { parts = rw (e, g, end, h) (subst (λ z. AreParts old.nodes.now old.pool.now j z rest) t ms) })

-- ---- kinds and raw bytes

number_kind : (k : Basic) (a b : ℕ) → kind_of (number_tree k 0 0) ≡ kind_of (number_tree k a b)
number_kind basic.Bool a b = refl
number_kind basic.Int a b = refl
number_kind basic.Uint a b = refl
number_kind basic.Float a b = refl
number_kind basic.Complex a b = refl
number_kind basic.Bytes a b = refl
number_kind basic.Str a b = refl
number_kind basic.Interface a b = refl

raw_kind : (k : RawKind) (s : List ℕ) → kind_of (raw_tree k []) ≡ kind_of (raw_tree k s)
raw_kind raw.Bytes s = refl
raw_kind raw.Str s = refl
raw_kind raw.Opaque s = refl

pub says_number_kind : (nodes : List Node) (pool : List ℕ) (i j : ℕ) (v : Tree) (k : Basic) (a b : ℕ)
    → Says nodes pool (content.Number k a b) i j v → kind_of (number_tree k 0 0) ≡ kind_of v
says_number_kind nodes pool i j v k a b s = number_kind k a b ∙ ap kind_of (sym s.value)

pub says_raw_kind : (nodes : List Node) (pool : List ℕ) (i j : ℕ) (v : Tree) (k : RawKind) (start count : ℕ)
    → Says nodes pool (content.Raw k start count) i j v → kind_of (raw_tree k []) ≡ kind_of v
says_raw_kind nodes pool i j v k start count s = raw_kind k (take count (drop start pool)) ∙ ap kind_of (sym s.value)

pub says_group_kind : (nodes : List Node) (pool : List ℕ) (i j : ℕ) (v : Tree) (k : GroupKind) (count extent : ℕ)
    → Says nodes pool (content.Group k count extent) i j v → kind_of (closed (opened_part k)) ≡ kind_of v
says_group_kind nodes pool i j v group.Many count extent s = ap kind_of (sym s.value)
says_group_kind nodes pool i j v group.Pairs count extent s = ap kind_of (sym s.value)
says_group_kind nodes pool i j v group.Fields count extent s = ap kind_of (sym s.value)

number_bytes : (k : Basic) (a b : ℕ) → bytes_of (number_tree k a b) ≡ []
number_bytes basic.Bool a b = refl
number_bytes basic.Int a b = refl
number_bytes basic.Uint a b = refl
number_bytes basic.Float a b = refl
number_bytes basic.Complex a b = refl
number_bytes basic.Bytes a b = refl
number_bytes basic.Str a b = refl
number_bytes basic.Interface a b = refl

raw_bytes : (k : RawKind) (s : List ℕ) → bytes_of (raw_tree k s) ≡ s
raw_bytes raw.Bytes s = refl
raw_bytes raw.Str s = refl
raw_bytes raw.Opaque s = refl

pub says_no_number_bytes : (nodes : List Node) (pool : List ℕ) (i j : ℕ) (v : Tree) (k : Basic) (a b : ℕ)
    → Says nodes pool (content.Number k a b) i j v → [] ≡ bytes_of v
says_no_number_bytes nodes pool i j v k a b s = sym (ap bytes_of s.value ∙ number_bytes k a b)

pub says_raw_bytes : (nodes : List Node) (pool : List ℕ) (i j : ℕ) (v : Tree) (k : RawKind) (start count : ℕ)
    {r : List ℕ} → (start + count ≤ length pool → r ≡ take count (drop start pool))
    → Says nodes pool (content.Raw k start count) i j v → r ≡ bytes_of v
says_raw_bytes nodes pool i j v k start count e s = e s.within
    ∙ sym (ap bytes_of s.value ∙ raw_bytes k (take count (drop start pool)))

pub says_no_group_bytes : (nodes : List Node) (pool : List ℕ) (i j : ℕ) (v : Tree) (k : GroupKind) (count extent : ℕ)
    → Says nodes pool (content.Group k count extent) i j v → [] ≡ bytes_of v
says_no_group_bytes nodes pool i j v group.Many count extent s = ap bytes_of (sym s.value)
says_no_group_bytes nodes pool i j v group.Pairs count extent s = ap bytes_of (sym s.value)
says_no_group_bytes nodes pool i j v group.Fields count extent s = ap bytes_of (sym s.value)
