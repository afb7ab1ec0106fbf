-- What is left to write, part after part.
use Rattle.std.proofs.Common.{◌≡◌, ◌≢◌, ℕ, zero, suc, ◌+◌, ◌-◌, ◌*◌, ◌/◌, ◌%◌, ◌<◌, ◌≤◌, ◌^◌, List, [], ◌∷◌, ◌++◌}
use Rattle.std.proofs.Common.{length, take, drop, reverse, get_or, set, min, Option, Some, None, arith, refl, sym, ap}
use Rattle.std.proofs.Common.{◌∙◌, subst, append_assoc, pos, negsuc}
use Rattle.std.specs.Prelude.{slice_get, ◌==◌, if◌then◌else◌}
use Rattle.std.proofs.lemmas.List.{length-take, length-drop, append-nil, reverse-append}
use Rattle.std.proofs.lemmas.Option.{slice_get_within, slice_get-get_or, get_or_from_slice_get}
use Rattle.gob_num.specs.Unsigned.{IsUnsigned}
use Rattle.gob_num.specs.Spelled.{Appends}
use Rattle.gob_num.specs.Signed.{IsSigned, not_negative, negative}
use Rattle.gob_num.proofs.PublicLaws.{unsigned_unique, unsigned_fits}
use Rattle.gob_types.specs.declared.basic.Basic.{Basic}
use Rattle.gob_value.specs.Tree.{Tree, Trees, Pairs, Fields, tree_count, pair_count}
use Rattle.gob_value.specs.Tree as Value
use Rattle.gob_value.specs.Written.{WrittenBytes, counted, Written, of_bool, of_int, of_uint, of_float, of_complex}
use Rattle.gob_value.specs.Written.{of_nil, of_bytes, of_text, of_opaque, of_many, of_pairs, of_fields, WrittenEach}
use Rattle.gob_value.specs.Written.{no_element, element, WrittenPairs, WrittenFields, next_number}
use Rattle.gob_value.specs.Written as written
use Rattle.gob_value.proofs.PublicLaws.{keeps_then, written_once}
use Rattle.gob_read.specs.declared.event.RawKind.{RawKind}
use Rattle.gob_read.specs.declared.event.RawKind.TheVariants as kind
use Rattle.gob_read.specs.declared.event.GroupKind.TheVariants as group
use Rattle.gob_read.specs.Leaf.{signed_of, number_tree, raw_tree}
use Rattle.gob_read.specs.WellFormed.{AreNumbers}
use Rattle.gob_read.specs.WellFormed as formed
use Rattle.gob_tape.specs.declared.node.Content.{Content}
use Rattle.gob_tape.specs.declared.node.Content.TheVariants as content
use Rattle.gob_tape.specs.declared.node.Node.{Node}
use Rattle.gob_tape.specs.declared.spelling.Struct.{Struct}
use Rattle.gob_tape.specs.Meaning.{node, MeansAt, MeansEach, no_part, part, MeansPairs, no_entry, entry, MeansFields}
use Rattle.gob_tape.specs.Meaning.{end_of_fields, next_field}
use Rattle.gob_tape.specs.Machine.Writing.{IsNumberHead, IsHeadOf, HasEnd, entered_struct, WritingEnds, none_ends}
use Rattle.gob_tape.specs.Machine.Writing.{one_ends, Rest, at_end, part_left, each_left, pairs_left, fields_left}
use Rattle.gob_tape.specs.Machine.Writing.{IsInsideStruct, WritingGoes, WritingEnded, WritingEnding, Named, WrittenUpTo}
use Rattle.gob_tape.specs.Machine.Writing.{Progress}
use Rattle.gob_tape.proofs.BegunLaws.{last_first, last_changed}
use Rattle.gob_tape.proofs.MeaningLaws.{at_rises, each_rises, pairs_rise, fields_rise, node_says}

-- ---- the bytes that a part begins with

signed_head : (a : ℕ) {x : List ℕ} → IsUnsigned a x → IsSigned (signed_of a) x
signed_head a {x = x} p = by (a % 2) refl
  where
    by : (r : ℕ) → a % 2 ≡ r → IsSigned (signed_of a) x
    by zero e =
        let half : a ≡ 2 * (a / 2) = omega arith in
        subst (λ i. IsSigned i x) (sym (ap (λ r. if r == 0 then pos (a / 2) else negsuc (a / 2)) e))
        (not_negative (subst (λ n. IsUnsigned n x) half p))
    by (suc zero) e =
        let half : a ≡ 2 * (a / 2) + 1 = omega arith in
        subst (λ i. IsSigned i x) (sym (ap (λ r. if r == 0 then pos (a / 2) else negsuc (a / 2)) e))
        (negative (subst (λ n. IsUnsigned n x) half p))
    by (suc (suc r)) e = absurd (omega arith)

bool_head : (a : ℕ) {x : List ℕ} → a ≤ 1 → IsUnsigned a x → Written (Value.bool (a == 1)) x
bool_head zero l p = of_bool p
bool_head (suc zero) l p = of_bool p
bool_head (suc (suc a)) l p = absurd (omega arith)

number_head : {k : Basic} {a b : ℕ} {x : List ℕ} → AreNumbers k a b → IsNumberHead k a b x
    → Written (number_tree k a b) x
number_head (formed.of_bool {a = a} l) p = bool_head a l p
number_head (formed.of_int {a = a}) p = of_int (signed_head a p)
number_head formed.of_uint p = of_uint p
number_head formed.of_float p = of_float p
number_head formed.of_complex p = p
number_head formed.of_nil p = of_nil p

raw_head : (k : RawKind) {s x : List ℕ} → WrittenBytes s x → Written (raw_tree k s) x
raw_head kind.Bytes p = of_bytes p
raw_head kind.Str p = of_text p
raw_head kind.Opaque p = of_opaque p

-- the next part
pub data Next (nodes : List Node) (pool : List ℕ) : ℕ → List Struct → List ℕ → Type 0 where
  next_part : {i j : ℕ} {v : Tree} {b r : List ℕ} {ss : List Struct} → MeansAt nodes pool i j None v → Written v b
      → Rest nodes pool j ss r → Next nodes pool i ss (b ++ r)
  next_named : {i j f : ℕ} {v : Tree} {a b r : List ℕ} {s : Struct} {ss : List Struct}
      → MeansAt nodes pool i j (Some f) v → next_number s.last ≤ f → IsUnsigned (f + 1 - next_number s.last) a
      → Written v b → Rest nodes pool j (record { end = s.end; last = Some f } ∷ ss) r
      → Next nodes pool i (s ∷ ss) (a ++ (b ++ r))

-- what is left behind some bytes
pub record Split (nodes : List Node) (pool : List ℕ) (i : ℕ) (ss : List Struct) (x rest : List ℕ) : Type 0 where
  pub left : List ℕ
  pub splits : rest ≡ x ++ left
  pub stands : Rest nodes pool i ss left

pub record EndSplit (nodes : List Node) (pool : List ℕ) (i : ℕ) (ss : List Struct) (x rest : List ℕ) : Type 0 where
  pub left : List ℕ
  pub splits : rest ≡ x ++ left
  pub inside : IsInsideStruct i ss
  pub stands : Rest nodes pool i ss left

-- ---- places

module _ {nodes : List Node} {pool : List ℕ} where
  pub rest_within : {i : ℕ} {ss : List Struct} {r : List ℕ} → Rest nodes pool i ss r → i ≤ length nodes
  rest_within (at_end e) = omega arith
  rest_within (part_left m p q) = omega (arith, at_rises m, rest_within q)
  rest_within (each_left m p q) = omega (arith, each_rises m, rest_within q)
  rest_within (pairs_left m p q) = omega (arith, pairs_rise m, rest_within q)
  rest_within (fields_left m p e q) = omega (arith, fields_rise m, rest_within q)

  rest_ends : {i : ℕ} {s : Struct} {ss : List Struct} {r : List ℕ} → Rest nodes pool i (s ∷ ss) r → i ≤ s.end
  rest_ends (part_left m p q) = omega (arith, at_rises m, rest_ends q)
  rest_ends (each_left m p q) = omega (arith, each_rises m, rest_ends q)
  rest_ends (pairs_left m p q) = omega (arith, pairs_rise m, rest_ends q)
  rest_ends (fields_left m p e q) = omega (arith, fields_rise m)

  -- ---- the next part

  pub next : {i : ℕ} {ss : List Struct} {r : List ℕ} → Rest nodes pool i ss r → i < length nodes → IsInsideStruct i ss
      → Next nodes pool i ss r
  next (at_end e) l h = absurd (omega arith)
  next (part_left m p q) l h = next_part m p q
  next (each_left no_part no_element q) l h = next q l h
  next {i = i} {ss = ss} (each_left {r = r} (part m ms) (element {b = b} {c = c} p ps) q) l h =
      subst (Next nodes pool i ss) (sym (append_assoc b c r)) (next_part m p (each_left ms ps q))
  next (pairs_left no_entry written.no_entry q) l h = next q l h
  next {i = i} {ss = ss} (pairs_left {r = r} (entry m n ms) (written.entry {a = a} {b = b} {c = c} p o ps) q) l h =
      subst (Next nodes pool i ss) (ap (λ x. a ++ x) (sym (append_assoc b c r)) ∙ sym (append_assoc a (b ++ c) r))
      (next_part m p (part_left n o (pairs_left ms ps q)))
  next (fields_left end_of_fields p e q) l h = absurd (omega arith)
  next {i = i} {ss = s ∷ ss} (fields_left {r = r} (next_field m ms) (written.next_field {a = a} {b = b} {c = c} k n p
      ps) e q) l h =
      subst (Next nodes pool i (s ∷ ss)) (ap (λ x. a ++ x) (sym (append_assoc b c r)) ∙ sym (append_assoc a (b ++ c) r))
      (next_named m k n p (fields_left ms ps e q))

  -- ---- what is left behind a part's beginning

  in_many : (i : ℕ) {j : ℕ} {vs : Trees} {n : ℕ} {b r x : List ℕ} {ss : List Struct} → MeansEach nodes pool (i + 1) j vs
      → n ≡ tree_count vs → IsUnsigned n x → Written (Value.many vs) b → Rest nodes pool j ss r
      → Split nodes pool (i + 1) ss x (b ++ r)
  in_many i {r = r} {x = x} m e u (of_many {c = c} {b = b} p ps) q =
      record {
        left = b ++ r;
        splits = append_assoc c b r
            ∙ ap (λ y. y ++ (b ++ r)) (unsigned_unique p (subst (λ n. IsUnsigned n x) e u));
        stands = each_left m ps q;
      }

  in_pairs : (i : ℕ) {j : ℕ} {vs : Pairs} {n : ℕ} {b r x : List ℕ} {ss : List Struct}
      → MeansPairs nodes pool (i + 1) j vs → n ≡ pair_count vs → IsUnsigned n x → Written (Value.pairs vs) b
      → Rest nodes pool j ss r → Split nodes pool (i + 1) ss x (b ++ r)
  in_pairs i {r = r} {x = x} m e u (of_pairs {c = c} {b = b} p ps) q =
      record {
        left = b ++ r;
        splits = append_assoc c b r
            ∙ ap (λ y. y ++ (b ++ r)) (unsigned_unique p (subst (λ n. IsUnsigned n x) e u));
        stands = pairs_left m ps q;
      }

  in_fields : (i : ℕ) {j end : ℕ} {vs : Fields} {b r : List ℕ} {ss : List Struct} → MeansFields nodes pool (i + 1) j vs
      → end ≡ j → Written (Value.fields vs) b → Rest nodes pool j ss r
      → Split nodes pool (i + 1) (record { end = end; last = None } ∷ ss) [] (b ++ r)
  in_fields i {b = b} {r = r} m e (of_fields ps) q = record {
    left = b ++ r;
    splits = refl;
    stands =
        fields_left m ps e q;
  }

  pub head_goes : {i j : ℕ} {f : Option ℕ} {v : Tree} {b r x : List ℕ} {ss : List Struct} (c : Content)
      → slice_get nodes i ≡ Some (node f c) → MeansAt nodes pool i j f v → Written v b → Rest nodes pool j ss r
      → IsHeadOf pool c x
      → Split nodes pool (i + 1) (entered_struct i c ss) x (b ++ r)
  head_goes {b = b} {r = r} {x = x} {ss = ss} (content.Number k n o) t m p q u =
      let s = (node_says (content.Number k n o) t m).1 in
      record {
        left = r;
        splits = ap (λ y. y ++ r) (written_once (subst (λ v. Written v b) s.value p)
            (number_head s.numbers u));
        stands = subst (λ j. Rest nodes pool j ss r) s.end q;
      }
  head_goes {b = b} {r = r} {x = x} {ss = ss} (content.Raw k start count) t m p q u =
      let s = (node_says (content.Raw k start count) t m).1 in
      record {
        left = r;
        splits = ap (λ y. y ++ r) (written_once (subst (λ v. Written v b) s.value p)
            (raw_head k (u s.within)));
        stands = subst (λ j. Rest nodes pool j ss r) s.end q;
      }
  head_goes {i = i} {b = b} (content.Group group.Many count extent) t m p q u = let s =
      (node_says (content.Group group.Many count extent) t m).1 in
      in_many i s.each s.counts u (subst (λ v. Written v b) s.value p) q
  head_goes {i = i} {b = b} (content.Group group.Pairs count extent) t m p q u = let s =
      (node_says (content.Group group.Pairs count extent) t m).1 in
      in_pairs i s.each s.counts u (subst (λ v. Written v b) s.value p) q
  head_goes {i = i} {b = b} {r = r} {ss = ss} (content.Group group.Fields count extent) t m p q u =
      let s = (node_says (content.Group group.Fields count extent) t m).1 in
      subst (λ x. Split nodes pool (i + 1) (record { end = i + extent; last = None } ∷ ss) x (b ++ r)) (sym u)
      (in_fields i s.each (sym s.end) (subst (λ v. Written v b) s.value p) q)

  -- ---- the ends of structs

  one_end : {i : ℕ} {s : Struct} {ss : List Struct} {r z : List ℕ} → s.end ≡ i → IsUnsigned 0 z
      → Rest nodes pool i (s ∷ ss) r → Split nodes pool i ss z r
  one_end e u (part_left m p q) = absurd (omega (arith, at_rises m, rest_ends q))
  one_end e u (each_left no_part no_element q) = one_end e u q
  one_end e u (each_left (part m ms) p q) = absurd (omega (arith, at_rises m, each_rises ms, rest_ends q))
  one_end e u (pairs_left no_entry written.no_entry q) = one_end e u q
  one_end e u (pairs_left (entry m n ms) p q) =
      absurd (omega (arith, at_rises m, at_rises n, pairs_rise ms, rest_ends q))
  one_end e u (fields_left {r = r} end_of_fields (written.end_of_fields p) d q) =
      record { left = r; splits = ap (λ y. y ++ r) (unsigned_unique p u); stands = q }
  one_end e u (fields_left (next_field m ms) p d q) = absurd (omega (arith, at_rises m, fields_rise ms))

  inside_of : {i : ℕ} {r : List ℕ} (ss : List Struct) → ((s : Struct) (rest : List Struct) → ss ≡ s ∷ rest → s.end ≢ i)
      → Rest nodes pool i ss r → IsInsideStruct i ss
  inside_of [] n q = tt
  inside_of (s ∷ ss) n q = let apart = n s ss refl in omega (arith, rest_ends q)

  pub all_end : {i : ℕ} {ss ts : List Struct} {r x : List ℕ} → WritingEnds i ss x ts → Rest nodes pool i ss r
      → EndSplit nodes pool i ts x r
  all_end {ss = ss} {r = r} (none_ends n) q = record { left = r; splits = refl; inside = inside_of ss n q; stands = q }
  all_end {i = i} (one_ends {z = z} {x = x} e u d) q =
      let a = one_end e u q in
      let b = all_end d a.stands in
      record {
        left = b.left;
        splits = a.splits ∙ ap (λ y. z ++ y) b.splits ∙ sym (append_assoc z x b.left);
        inside =
            b.inside;
        stands = b.stands;
      }

  -- ---- the end

  pub rest_none : {i : ℕ} {ss : List Struct} {r : List ℕ} → Rest nodes pool i ss r → i ≡ length nodes
      → IsInsideStruct i ss → r ≡ []
  rest_none (at_end e) l h = refl
  rest_none (part_left m p q) l h = absurd (omega (arith, at_rises m, rest_within q))
  rest_none (each_left no_part no_element q) l h = rest_none q l h
  rest_none (each_left (part m ms) p q) l h = absurd (omega (arith, at_rises m, each_rises ms, rest_within q))
  rest_none (pairs_left no_entry written.no_entry q) l h = rest_none q l h
  rest_none (pairs_left (entry m n ms) p q) l h =
      absurd (omega (arith, at_rises m, at_rises n, pairs_rise ms, rest_within q))
  rest_none (fields_left end_of_fields p e q) l h = absurd (omega arith)
  rest_none (fields_left (next_field m ms) p e q) l h =
      absurd (omega (arith, at_rises m, fields_rise ms, rest_within q))

  -- the whole value is left at the beginning
  pub rest_whole : {v : Tree} {b : List ℕ} → MeansAt nodes pool 0 (length nodes) None v → Written v b
      → Rest nodes pool 0 [] (b ++ [])
  rest_whole m p = part_left m p (at_end refl)

-- ---- what the functions append

pub raw_written : (pool : List ℕ) (start count : ℕ) {r x y : List ℕ}
    → (start + count ≤ length pool → r ≡ take count (drop start pool)) → IsUnsigned count x → y ≡ r
    → start + count ≤ length pool
    → WrittenBytes (take count (drop start pool)) (x ++ y)
raw_written pool start count {x = x} e p f h =
    let same : length (take count (drop start pool)) ≡ count = omega (
      arith,
      length-take count (drop start pool),
      length-drop start pool,
    ) in
    rw (f, e h) (counted (subst (λ n. IsUnsigned n x) (sym same) p))

pub named : (xs : List Struct) (i n : ℕ) (open_one s : Struct) (ss : List Struct) {d : ℕ} {old new : List ℕ}
    → i + 1 ≡ length xs → open_one ≡ get_or xs i open_one → reverse xs ≡ s ∷ ss
    → (next_number open_one.last ≤ n → n + 1 - next_number open_one.last < 2 ^ 64
    → d ≡ n + 1 - next_number open_one.last) → next_number s.last ≤ n → n + 1 - next_number s.last < 2 ^ 64
    → Appends (IsUnsigned d) old new → Named n s ss (reverse (set xs i (record { end = open_one.end; last = Some n })))
    old new
named xs i n o s ss {d = d} {old = old} {new = new} h g e f l m a =
    let both : o ∷ reverse (take i xs) ≡ s ∷ ss = sym (last_first xs i o h g) ∙ e in
    let here : o ≡ s = cc in
    let around : reverse (take i xs) ≡ ss = cc in
    let due : d ≡ n + 1 - next_number s.last = subst (λ (o : Struct). next_number o.last ≤ n
    → n + 1 - next_number o.last < 2 ^ 64 → d ≡ n + 1 - next_number o.last) here f l m in
    record {
      last =
          last_changed xs i (record { end = o.end; last = Some n }) h
          ∙ ap (λ (o : Struct). record { end = o.end; last = Some n } ∷ reverse (take i xs)) here
          ∙ ap (λ t. record { end = s.end; last = Some n } ∷ t) around;
      written = subst (λ k. Appends (IsUnsigned k) old new) due a;
    }

-- ---- the stack of open structs

pub last_is : {X : Type 0} (xs : List X) (x : X) → slice_get xs (length xs - 1) ≡ Some x
    → reverse xs ≡ x ∷ reverse (take (length xs - 1) xs)
last_is xs x g =
    let l = slice_get_within xs (length xs - 1) x g in
    last_first xs (length xs - 1) x (omega arith) (sym (get_or_from_slice_get xs (length xs - 1) x x g))

pub none_is : {X : Type 0} (xs : List X) → slice_get xs (length xs - 1) ≡ None → reverse xs ≡ []
none_is [] g = refl
none_is (x ∷ xs) g = let there = slice_get-get_or (x ∷ xs) (length (x ∷ xs) - 1) x (omega arith) in absurd (cc)

-- one more struct has ended
pub ending_more : (now popped : List Struct) {i : ℕ} {before : List Struct} {old mid new : List ℕ} (s : Struct)
    → WritingEnding i before (reverse now) old mid → slice_get now (length now - 1) ≡ Some s → s.end ≡ i
    → popped ≡ take (length now - 1) now → Appends (IsUnsigned 0) mid new → WritingEnding i before (reverse popped) old
    new
ending_more now popped {i = i} {before = before} {old = old} s e g h p a = record {
  bytes = e.bytes ++ a.bytes;
  completes = λ y after d.
      let top : reverse now ≡ s ∷ reverse popped = last_is now s g ∙ ap (λ t. s ∷ reverse t) (sym p) in
      subst (λ x. WritingEnds i before x after) (sym (append_assoc e.bytes a.bytes y))
      (e.completes (a.bytes ++ y) after (subst (λ t. WritingEnds i t (a.bytes ++ y) after) (sym top)
      (one_ends h a.spelled d)));
  written = a.appended ∙ ap (λ l. l ++ a.bytes) e.written ∙ append_assoc old e.bytes a.bytes;
}

pub ending_none : {i : ℕ} {before : List Struct} {old : List ℕ} → WritingEnding i before before old old
ending_none {old = old} = record { bytes = []; completes = λ y after d. d; written = sym (append-nil old) }

all_ended : {i : ℕ} {before now : List Struct} {old new : List ℕ} → WritingEnding i before now old new
    → ((s : Struct) (rest : List Struct) → now ≡ s ∷ rest → s.end ≢ i) → WritingEnded i before now old new
all_ended {i = i} {before = before} {now = now} e n =
    record {
      bytes = e.bytes;
      ends = subst (λ x. WritingEnds i before x now) (append-nil e.bytes)
          (e.completes [] now (none_ends n));
      written = e.written;
    }

pub ended_apart : (now : List Struct) {i : ℕ} {before : List Struct} {old new : List ℕ} (s : Struct)
    → WritingEnding i before (reverse now) old new → slice_get now (length now - 1) ≡ Some s → s.end ≢ i
    → WritingEnded i before (reverse now) old new
ended_apart now {i = i} s e g n = all_ended e (λ t rest h. let same : s ∷ reverse (take (length now - 1) now) ≡ t ∷
    rest = sym (last_is now s g) ∙ h in let here : s ≡ t = cc in subst (λ (t : Struct). t.end ≢ i) here n)

pub ended_all : (now : List Struct) {i : ℕ} {before : List Struct} {old new : List ℕ}
    → WritingEnding i before (reverse now) old new → slice_get now (length now - 1) ≡ None
    → WritingEnded i before (reverse now) old new
ended_all now e g = all_ended e (λ t rest h. let same : [] ≡ t ∷ rest = sym (none_is now g) ∙ h in absurd (cc))

-- a struct is entered
pub struct_entered : (i : ℕ) (xs : List Struct) {a e end : ℕ} {c : Content} {ys : List Struct}
    → c ≡ content.Group group.Fields a e → end ≡ min (i + e) (2 ^ 64 - 1) → ys ≡ xs
    ++ record { end = end; last = None } ∷ [] → HasEnd i c
    → reverse ys ≡ entered_struct i c (reverse xs)
struct_entered i xs {a = a} {e = e} {end = end} {c = c} f m p h =
    let room : i + e < 2 ^ 64 = subst (HasEnd i) f h in
    let place : end ≡ i + e = omega arith in
    ap reverse p ∙ reverse-append xs (record { end = end; last = None } ∷ [])
    ∙ ap (λ n. record { end = n; last = None } ∷ reverse xs) place
    ∙ sym (ap (λ c. entered_struct i c (reverse xs)) f)

-- ---- a node is written

-- what was written before its content
pub record Before (field : Option ℕ) (ss ts : List Struct) (old mid : List ℕ) : Type 0 where
  pub some : (n : ℕ) (s : Struct) (rest : List Struct) → field ≡ Some n → ss ≡ s ∷ rest → next_number s.last ≤ n
      → n + 1 - next_number s.last < 2 ^ 64 → Named n s rest ts old mid
  pub none : field ≡ None → (ts ≡ ss) × (mid ≡ old)

module _ {nodes : List Node} {pool : List ℕ} where
  has_end : {i j : ℕ} {f : Option ℕ} {v : Tree} (c : Content) → slice_get nodes i ≡ Some (node f c)
      → MeansAt nodes pool i j f v → j ≤ length nodes → length nodes < 2 ^ 64 → HasEnd i c
  has_end (content.Number k a b) t m l n = tt
  has_end (content.Raw k a b) t m l n = tt
  has_end (content.Group group.Many a b) t m l n = tt
  has_end (content.Group group.Pairs a b) t m l n = tt
  has_end (content.Group group.Fields a b) t m l n = let s = (node_says (content.Group group.Fields a b) t m).1 in
      omega (arith, s.end)

  -- from behind its number
  part_goes : {i j : ℕ} {f : Option ℕ} {v : Tree} {b r mid fore new : List ℕ} {ss ts us : List Struct} (c : Content)
      → length nodes < 2 ^ 64 → slice_get nodes i ≡ Some (node f c) → MeansAt nodes pool i j f v → Written v b
      → Rest nodes pool j ss r
      → Appends (IsHeadOf pool c) mid fore → (HasEnd i c → ts ≡ entered_struct i c ss)
      → WritingEnded (i + 1) ts us fore new → WritingGoes nodes pool i us mid new (b ++ r)
  part_goes {i = i} {mid = mid} {us = us} c n t m p q a e d =
      let h = head_goes c t m p q a.spelled in
      let z = all_end (subst (λ ts. WritingEnds (i + 1) ts d.bytes us) (e (has_end c t m (rest_within q) n)) d.ends)
      h.stands in
      record {
        bytes = a.bytes ++ d.bytes;
        left = z.left;
        splits = h.splits ∙ ap (λ y. a.bytes ++ y) z.splits ∙ sym (append_assoc a.bytes d.bytes z.left);
        written = d.written ∙ ap (λ l. l ++ d.bytes) a.appended ∙ append_assoc mid a.bytes d.bytes;
        inside = z.inside;
        stands = z.stands;
      }

  behind_number : (a : List ℕ) {i : ℕ} {us : List Struct} {old mid new rest : List ℕ} → mid ≡ old ++ a
      → WritingGoes nodes pool i us mid new rest → WritingGoes nodes pool i us old new (a ++ rest)
  behind_number a {old = old} e g = record {
    bytes = a ++ g.bytes;
    left = g.left;
    splits = ap (λ y. a ++ y) g.splits ∙ sym (append_assoc a g.bytes g.left);
    written = g.written ∙ ap (λ l. l ++ g.bytes) e ∙ append_assoc old a g.bytes;
    inside = g.inside;
    stands = g.stands;
  }

  pub node_goes : {i : ℕ} {ss ts vs us : List Struct} {old mid fore new rest : List ℕ} (x : Node)
      → length nodes < 2 ^ 64 → slice_get nodes i ≡ Some x → IsInsideStruct i ss → Rest nodes pool i ss rest
      → Before x.field ss ts old mid → Appends (IsHeadOf pool x.content) mid fore
      → (HasEnd i x.content → vs ≡ entered_struct i x.content ts) → WritingEnded (i + 1) vs us fore new
      → WritingGoes nodes pool i us old new rest
  node_goes {i = i} {ts = ts} {vs = vs} {us = us} {old = old} {mid = mid} {fore = fore} {new = new} x n t h q b a e d =
      by b (next q (slice_get_within nodes i x t) h)
    where
      by : {ss : List Struct} {rest : List ℕ} → Before x.field ss ts old mid → Next nodes pool i ss rest
          → WritingGoes nodes pool i us old new rest
      by b (next_part {b = c} {r = r} m p q) =
          let f = (node_says x.content t m).0 in
          let k = b.none f in
          subst (λ mid. WritingGoes nodes pool i us mid new (c ++ r)) k.1
          (part_goes x.content n (t ∙ ap (λ f. Some (node f x.content)) f) m p q a (λ h. e h
          ∙ ap (entered_struct i x.content) k.0) d)
      by {ss = s ∷ ss} b (next_named {f = g} {b = c} {r = r} m l u p q) =
          let f = (node_says x.content t m).0 in
          let k = b.some g s ss f refl l (unsigned_fits u) in
          subst (λ y. WritingGoes nodes pool i us old new (y ++ (c ++ r))) (unsigned_unique k.written.spelled u)
          (behind_number k.written.bytes k.written.appended
          (part_goes x.content n (t ∙ ap (λ f. Some (node f x.content)) f) m p q a (λ h. e h
          ∙ ap (entered_struct i x.content) k.last) d))

  -- ---- the whole tape

  pub none_yet : {ss : List Struct} {old : List ℕ} → ss ≡ [] → Progress nodes pool 0 ss old old
  none_yet {old = old} e = rw e (record {
    each = λ v b m p. record {
      bytes = [];
      left = b ++ [];
      splits = sym (append-nil b);
      written = sym (append-nil old);
      inside = tt;
      stands = rest_whole m p;
    };
    kept = record { bytes = []; spelled = tt; appended = sym (append-nil old) };
  })

  pub one_more : {i : ℕ} {ss ts : List Struct} {old mid new : List ℕ} (x : Node) → length nodes < 2 ^ 64
      → slice_get nodes i ≡ Some x → Progress nodes pool i ss old mid
      → ((ns : List Node) (rest : List ℕ) → length ns < 2 ^ 64 → slice_get ns i ≡ Some x → IsInsideStruct i ss
      → Rest ns pool i ss rest → WritingGoes ns pool i ts mid new rest) → Appends (λ _. Unit {0}) mid new
      → Progress nodes pool (i + 1) ts old new
  one_more {i = i} {ss = ss} {ts = ts} {old = old} {mid = mid} {new = new} x n t g w k =
      record { each = λ v b m p. on (g.each v b m p); kept = keeps_then g.kept k }
    where
      on : {b : List ℕ} → WrittenUpTo nodes pool i ss old mid b → WrittenUpTo nodes pool (i + 1) ts old new b
      on u =
          let d = w nodes u.left n t u.inside u.stands in
          record {
            bytes = u.bytes ++ d.bytes;
            left = d.left;
            splits = u.splits ∙ ap (λ y. u.bytes ++ y) d.splits ∙ sym (append_assoc u.bytes d.bytes d.left);
            written = d.written ∙ ap (λ l. l ++ d.bytes) u.written ∙ append_assoc old u.bytes d.bytes;
            inside = d.inside;
            stands = d.stands;
          }

  pub all_written : {i : ℕ} {ss : List Struct} {old new : List ℕ} → length nodes ≤ i → Progress nodes pool i ss old new
      → (v : Tree) (b : List ℕ) → MeansAt nodes pool 0 (length nodes) None v → Written v b → new ≡ old ++ b
  all_written {old = old} l g v b m p =
      let u = g.each v b m p in
      let w = rest_within u.stands in
      let none = rest_none u.stands (omega arith) u.inside in
      u.written ∙ ap (λ y. old ++ y) (sym (u.splits ∙ ap (λ y. u.bytes ++ y) none ∙ append-nil u.bytes))
