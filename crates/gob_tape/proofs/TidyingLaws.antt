-- What a builder is told of the tidy form of a tape, part after part.
use Rattle.std.proofs.Common.{◌≡◌, ◌≢◌, ℕ, zero, suc, ◌+◌, ◌-◌, ◌<◌, ◌≤◌, ◌^◌, ◌⊎◌, inl, inr, ℤ, pos, negsuc, List, []}
use Rattle.std.proofs.Common.{◌∷◌, ◌++◌, length, take, drop, reverse, get_or, set, Option, Some, None, Bool, true}
use Rattle.std.proofs.Common.{false, arith, refl, sym, ap, ◌∙◌, subst, append_assoc}
use Rattle.std.specs.Prelude.{slice_get}
use Rattle.std.proofs.lemmas.List.{length-take, length-drop, append-nil}
use Rattle.std.proofs.lemmas.Option.{slice_get_within, same_Some}
use Rattle.gob_types.specs.declared.basic.Basic.{Basic}
use Rattle.gob_types.specs.declared.basic.Basic.TheVariants as basic
use Rattle.gob_types.specs.declared.id.TypeId.{TypeId}
use Rattle.gob_types.specs.declared.kind.Field.{Field}
use Rattle.gob_types.specs.declared.kind.Kind.{Kind}
use Rattle.gob_types.specs.declared.kind.Kind.TheVariants as kind
use Rattle.gob_types.specs.declared.kind.Shape.{Shape}
use Rattle.gob_types.specs.Table.{Table, shape_of}
use Rattle.gob_value.specs.Tree.{Tree, Trees, no_tree, tree, Pairs, no_pair, pair, Fields, no_field, field, tree_count}
use Rattle.gob_value.specs.Tree as Value
use Rattle.gob_value.specs.Written.{HasParts}
use Rattle.gob_value.specs.Tidy.{IsZero, of_bool, of_int, of_uint, of_float, of_complex, of_bytes, of_text, IsDropped}
use Rattle.gob_value.specs.Tidy.{zero_basic, empty_slice, Tidies, of_type, TidiesAs, of_basic, of_opaque, of_slice}
use Rattle.gob_value.specs.Tidy.{of_array, of_map, of_struct, TidiesEach, no_element, TidiesPairs, TidiesFields}
use Rattle.gob_value.specs.Tidy.{no_more}
use Rattle.gob_value.specs.Tidy as tidy
use Rattle.gob_value.specs.TidyLaws.{HasSmallNumbers, AllHaveSmallNumbers, PairsHaveSmallNumbers}
use Rattle.gob_value.specs.TidyLaws.{FieldsHaveSmallNumbers}
use Rattle.gob_read.specs.declared.event.RawKind.{RawKind}
use Rattle.gob_read.specs.declared.event.RawKind.TheVariants as raw
use Rattle.gob_read.specs.declared.event.GroupKind.TheVariants as group
use Rattle.gob_read.specs.Event.{Event, number, raw_start, raw_more, enter, leave, HasRawEvents, no_bytes, more_bytes}
use Rattle.gob_read.specs.Event.{HasEvents, tell_bool, tell_not_negative, tell_negative, tell_uint, tell_float}
use Rattle.gob_read.specs.Event.{tell_complex, tell_nil, tell_bytes, tell_text, tell_opaque, tell_many, tell_pairs}
use Rattle.gob_read.specs.Event.{tell_fields, HaveEvents, tell_none, tell_each, PairsHaveEvents, tell_no_pair}
use Rattle.gob_read.specs.Event.{tell_pair}
use Rattle.gob_read.specs.Event.{FieldsHaveEvents, tell_no_field, tell_field}
use Rattle.gob_read.specs.Leaf.{number_tree, raw_tree}
use Rattle.gob_read.specs.WellFormed.{AreNumbers}
use Rattle.gob_read.specs.WellFormed as formed
use Rattle.gob_tape.specs.declared.node.Content.{Content}
use Rattle.gob_tape.specs.declared.node.Content.TheVariants as content
use Rattle.gob_tape.specs.declared.node.Node.{Node}
use Rattle.gob_tape.specs.declared.tidying.Open.{Open}
use Rattle.gob_tape.specs.declared.tidying.Types.{Types}
use Rattle.gob_tape.specs.declared.tidying.Types.TheVariants as types
use Rattle.gob_tape.specs.Meaning.{MeansAt, MeansEach, no_part, part, MeansPairs, no_entry, entry, MeansFields}
use Rattle.gob_tape.specs.Meaning.{end_of_fields, next_field}
use Rattle.gob_tape.specs.Meaning.{node, a_number, raw_bytes, a_list, a_map, a_struct}
use Rattle.gob_tape.specs.Seeing.{unsigned_of}
use Rattle.gob_tape.specs.Machine.State.{State}
use Rattle.gob_tape.specs.Machine.Received.{IsTapeOf, TapeGoesOn}
use Rattle.gob_tape.specs.Machine.Tidying.{events, each_told, pairs_told, fields_told, name_told, content_told}
use Rattle.gob_tape.specs.Machine.Tidying.{IsZeroContent, IsDroppedContent, IsPooled, open_to, innermost, has_field}
use Rattle.gob_tape.specs.Machine.Tidying.{IsNextType, the_whole, an_element, a_key_or_element, a_field, turned}
use Rattle.gob_tape.specs.Machine.Tidying.{advanced}
use Rattle.gob_tape.specs.Machine.Tidying.{types_in, entered_as, entered_open, HasOpenEnd, PartHasEvents, Due, none_due}
use Rattle.gob_tape.specs.Machine.Tidying.{element}
use Rattle.gob_tape.specs.Machine.Tidying.{key_or_element, dropped, kept, Left, at_end, at_start, in_part, IsInsideOpen}
use Rattle.gob_tape.specs.Machine.Tidying.{TidyGoes, TidyEnds, none_ends, one_ends, TidyEnded, TidyEnding, TidyUpTo}
use Rattle.gob_tape.specs.Machine.Tidying.{TidyReaches, TakesEvents}
use Rattle.gob_tape.specs.Machine.Tidying.{HasSmallNumber}
use Rattle.gob_tape.proofs.BegunLaws.{last_first, last_changed}
use Rattle.gob_tape.proofs.MeaningLaws.{at_rises, at_within, Says, node_says, has_node}
use Rattle.gob_tape.proofs.SeeingLaws.{unsigned_signed, truth_number}
use Rattle.gob_tape.proofs.ReceivedLaws.{IsWhole, whole_told}
use Rattle.gob_tape.proofs.WritingLaws.{last_is, none_is}

-- ---- events behind events

pub goes_then : {a b c : State} {xs ys : List Event} → TapeGoesOn a b xs → TapeGoesOn b c ys → TapeGoesOn a c (xs ++ ys)
goes_then {c = c} {xs = xs} {ys = ys} g h us t = subst (IsTapeOf c) (append_assoc us xs ys) (h (us ++ xs) (g us t))

pub goes_none : {a b : State} → b ≡ a → TapeGoesOn a b []
goes_none {a = a} e us t = rw e (subst (IsTapeOf a) (sym (append-nil us)) t)

-- ---- the events of a value tell it

raw_tells : (s : List ℕ) → HasRawEvents s (raw_more s ∷ [])
raw_tells s = more_bytes s no_bytes

mutual
  pub tells : (v : Tree) → HasEvents v (events v)
  tells (Value.bool b) = tell_bool
  tells (Value.int (pos n)) = tell_not_negative
  tells (Value.int (negsuc n)) = tell_negative
  tells (Value.uint n) = tell_uint
  tells (Value.float p) = tell_float
  tells (Value.complex p q) = tell_complex
  tells (Value.bytes s) = tell_bytes (raw_tells s)
  tells (Value.text s) = tell_text (raw_tells s)
  tells (Value.opaque s) = tell_opaque (raw_tells s)
  tells Value.nil = tell_nil
  tells (Value.many vs) = tell_many (each_tells vs)
  tells (Value.pairs ps) = tell_pairs (pairs_tell ps)
  tells (Value.fields fs) = tell_fields (fields_tell fs)

  each_tells : (vs : Trees) → HaveEvents vs (each_told vs)
  each_tells no_tree = tell_none
  each_tells (tree v vs) = tell_each (tells v) (each_tells vs)

  pairs_tell : (ps : Pairs) → PairsHaveEvents ps (pairs_told ps)
  pairs_tell no_pair = tell_no_pair
  pairs_tell (pair k e ps) = tell_pair (tells k) (tells e) (pairs_tell ps)

  fields_tell : (fs : Fields) → FieldsHaveEvents fs (fields_told fs)
  fields_tell no_field = tell_no_field
  fields_tell (field f v fs) = tell_field (tells v) (fields_tell fs)

number_events : {k : Basic} {a b : ℕ} → AreNumbers k a b → events (number_tree k a b) ≡ number k a b ∷ []
number_events (formed.of_bool {a = a} l) = ap (λ n. number basic.Bool n 0 ∷ []) (truth_number a l)
number_events (formed.of_int {a = a}) = ap (λ n. number basic.Int n 0 ∷ []) (unsigned_signed a)
number_events formed.of_uint = refl
number_events formed.of_float = refl
number_events formed.of_complex = refl
number_events formed.of_nil = refl

raw_events : (k : RawKind) (s : List ℕ) → events (raw_tree k s) ≡ raw_start k ∷ (raw_more s ∷ (leave ∷ []))
raw_events raw.Bytes s = refl
raw_events raw.Str s = refl
raw_events raw.Opaque s = refl

-- ---- what is dropped is seen at its node

zero_truth : (b : Bool) → IsZero (Value.bool b) → b ≡ false
zero_truth false z = refl
zero_truth true z = elim z [ ]

zero_signed : {i : ℤ} → IsZero (Value.int i) → i ≡ pos 0
zero_signed of_int = refl

zero_unsigned : {n : ℕ} → IsZero (Value.uint n) → n ≡ 0
zero_unsigned of_uint = refl

zero_pattern : {p : ℕ} → IsZero (Value.float p) → p ≡ 0
zero_pattern of_float = refl

zero_patterns : {p q : ℕ} → IsZero (Value.complex p q) → (p ≡ 0) × (q ≡ 0)
zero_patterns of_complex = (refl, refl)

no_bytes_in : {s : List ℕ} → IsZero (Value.bytes s) → s ≡ []
no_bytes_in of_bytes = refl

no_text_in : {s : List ℕ} → IsZero (Value.text s) → s ≡ []
no_text_in of_text = refl

number_zero : {k : Basic} {a b : ℕ} → AreNumbers k a b → IsZero (number_tree k a b)
    → IsZeroContent (content.Number k a b)
number_zero (formed.of_bool {a = zero} l) z = (refl, refl)
number_zero (formed.of_bool {a = suc zero} l) z = elim z [ ]
number_zero (formed.of_bool {a = suc (suc a)} l) z = absurd (omega arith)
number_zero (formed.of_int {a = a}) z = (sym (unsigned_signed a) ∙ ap unsigned_of (zero_signed z), refl)
number_zero formed.of_uint z = (zero_unsigned z, refl)
number_zero formed.of_float z = (zero_pattern z, refl)
number_zero formed.of_complex z = zero_patterns z
number_zero formed.of_nil z = elim z [ ]

zero_number : {k : Basic} {a b : ℕ} → AreNumbers k a b → IsZeroContent (content.Number k a b)
    → IsZero (number_tree k a b)
zero_number (formed.of_bool l) z = rw z.0 of_bool
zero_number formed.of_int z = rw z.0 of_int
zero_number formed.of_uint z = rw z.0 of_uint
zero_number formed.of_float z = rw z.0 of_float
zero_number formed.of_complex z = rw (z.0, z.1) of_complex
zero_number formed.of_nil z = absurd z

none_taken : (pool : List ℕ) (start count : ℕ) → start + count ≤ length pool → take count (drop start pool) ≡ []
    → count ≡ 0
none_taken pool start count l e = let n = ap length e in omega (
  arith,
  length-take count
      (drop start pool),
  length-drop start pool,
)

raw_zero : (pool : List ℕ) (k : RawKind) (start count : ℕ) → start + count ≤ length pool
    → IsZero (raw_tree k (take count (drop start pool))) → IsZeroContent (content.Raw k start count)
raw_zero pool raw.Bytes start count l z = none_taken pool start count l (no_bytes_in z)
raw_zero pool raw.Str start count l z = none_taken pool start count l (no_text_in z)
raw_zero pool raw.Opaque start count l z = elim z [ ]

zero_raw : (pool : List ℕ) (k : RawKind) (start count : ℕ) → IsZeroContent (content.Raw k start count)
    → IsZero (raw_tree k (take count (drop start pool)))
zero_raw pool raw.Bytes start count z = rw z of_bytes
zero_raw pool raw.Str start count z = rw z of_text
zero_raw pool raw.Opaque start count z = absurd z

nothing_between : {nodes : List Node} {pool : List ℕ} {i j : ℕ} → MeansEach nodes pool i j no_tree → j ≡ i
nothing_between no_part = refl

number_not_many : (k : Basic) (a b : ℕ) {vs : Trees} → number_tree k a b ≡ Value.many vs → ⊥
number_not_many basic.Bool a b e = absurd (cc)
number_not_many basic.Int a b e = absurd (cc)
number_not_many basic.Uint a b e = absurd (cc)
number_not_many basic.Float a b e = absurd (cc)
number_not_many basic.Complex a b e = absurd (cc)
number_not_many basic.Bytes a b e = absurd (cc)
number_not_many basic.Str a b e = absurd (cc)
number_not_many basic.Interface a b e = absurd (cc)

raw_not_many : (k : RawKind) (s : List ℕ) {vs : Trees} → raw_tree k s ≡ Value.many vs → ⊥
raw_not_many raw.Bytes s e = absurd (cc)
raw_not_many raw.Str s e = absurd (cc)
raw_not_many raw.Opaque s e = absurd (cc)

many_not_zero : {vs : Trees} → IsZero (Value.many vs) → ⊥
many_not_zero z = elim z [ ]

pairs_not_zero : {ps : Pairs} → IsZero (Value.pairs ps) → ⊥
pairs_not_zero z = elim z [ ]

fields_not_zero : {fs : Fields} → IsZero (Value.fields fs) → ⊥
fields_not_zero z = elim z [ ]

module _ (nodes : List Node) (pool : List ℕ) (i j : ℕ) (v : Tree) where
  zero_says : (c : Content) → Says nodes pool c i j v → IsZero v → IsZeroContent c × (j ≡ i + 1)
  zero_says (content.Number k a b) s z = (number_zero s.numbers (subst IsZero s.value z), s.end)
  zero_says (content.Raw k start count) s z = (raw_zero pool k start count s.within (subst IsZero s.value z), s.end)
  zero_says (content.Group group.Many count extent) s z = absurd (many_not_zero (subst IsZero s.value z))
  zero_says (content.Group group.Pairs count extent) s z = absurd (pairs_not_zero (subst IsZero s.value z))
  zero_says (content.Group group.Fields count extent) s z = absurd (fields_not_zero (subst IsZero s.value z))

  says_zero : (c : Content) → Says nodes pool c i j v → IsZeroContent c → IsZero v
  says_zero (content.Number k a b) s z = subst IsZero (sym s.value) (zero_number s.numbers z)
  says_zero (content.Raw k start count) s z = subst IsZero (sym s.value) (zero_raw pool k start count z)
  says_zero (content.Group k count extent) s z = absurd z

  empty_says : (e : TypeId) (c : Content) → Says nodes pool c i j v → v ≡ Value.many no_tree
      → IsDroppedContent (kind.Slice e) c × (j ≡ i + 1)
  empty_says e (content.Number k a b) s h = absurd (number_not_many k a b (sym s.value ∙ h))
  empty_says e (content.Raw k start count) s h = absurd (raw_not_many k (take count (drop start pool)) (sym s.value
      ∙ h))
  empty_says e (content.Group group.Many count extent) s h = by s.parts (sym s.value ∙ h) s.counts s.each
    where
      by : (vs : Trees) → Value.many vs ≡ Value.many no_tree → count ≡ tree_count vs
          → MeansEach nodes pool (i + 1) j vs → (count ≡ 0) × (j ≡ i + 1)
      by no_tree e n m = (n, nothing_between m)
      by (tree v vs) e n m = absurd (cc)
  empty_says e (content.Group group.Pairs count extent) s h = absurd (let e = sym s.value ∙ h in cc)
  empty_says e (content.Group group.Fields count extent) s h = absurd (let e = sym s.value ∙ h in cc)

  says_empty : (count extent : ℕ) → Says nodes pool (content.Group group.Many count extent) i j v → count ≡ 0
      → v ≡ Value.many no_tree
  says_empty count extent s z = by s.parts s.value s.counts
    where
      by : (vs : Trees) → v ≡ Value.many vs → count ≡ tree_count vs → v ≡ Value.many no_tree
      by no_tree e n = e
      by (tree v vs) e n = absurd (omega arith)

  -- a dropped part is one node, which says that it is dropped
  pub drops_says : (k : Kind) (c : Content) → Says nodes pool c i j v → IsDropped k v
      → IsDroppedContent k c × (j ≡ i + 1)
  drops_says k c s d = by d refl
    where
      by : {w : Tree} {k : Kind} → IsDropped k w → w ≡ v → IsDroppedContent k c × (j ≡ i + 1)
      by (zero_basic z) e = zero_says c s (subst IsZero e z)
      by (empty_slice {e = t}) e = empty_says t c s (sym e)

  -- and no other node says so
  pub says_drops : (k : Kind) (c : Content) → Says nodes pool c i j v → IsDroppedContent k c → IsDropped k v
  says_drops (kind.Basic b) c s z = zero_basic (says_zero c s z)
  says_drops (kind.Slice e) (content.Group group.Many count extent) s z = subst (IsDropped (kind.Slice e)) (sym
      (says_empty count extent s z)) empty_slice
  says_drops (kind.Slice e) (content.Group group.Pairs count extent) s z = absurd z
  says_drops (kind.Slice e) (content.Group group.Fields count extent) s z = absurd z
  says_drops (kind.Slice e) (content.Number k a b) s z = absurd z
  says_drops (kind.Slice e) (content.Raw k a b) s z = absurd z
  says_drops (kind.Array e n) c s z = absurd z
  says_drops (kind.Struct fields) c s z = absurd z
  says_drops (kind.Map k e) c s z = absurd z
  says_drops (kind.Opaque m) c s z = absurd z

  says_pooled : (c : Content) → Says nodes pool c i j v → IsPooled pool c
  says_pooled (content.Number k a b) s = tt
  says_pooled (content.Raw k start count) s = s.within
  says_pooled (content.Group k count extent) s = tt

  ends_open : (c : Content) → Says nodes pool c i j v → j ≤ length nodes → length nodes < 2 ^ 64 → HasOpenEnd i c
  ends_open (content.Number k a b) s l n = tt
  ends_open (content.Raw k start count) s l n = tt
  ends_open (content.Group group.Many count extent) s l n = omega (arith, s.end)
  ends_open (content.Group group.Pairs count extent) s l n = omega (arith, s.end)
  ends_open (content.Group group.Fields count extent) s l n = omega (arith, s.end)

-- a value without parts is its own tidy form
leaf_stays : {T : Table} {k : Kind} {v w : Tree} → TidiesAs T k v w → ¬ HasParts v → w ≡ v
leaf_stays (of_basic n) h = refl
leaf_stays (of_opaque n) h = refl
leaf_stays (of_slice p) h = absurd (h tt)
leaf_stays (of_array p) h = absurd (h tt)
leaf_stays (of_map p) h = absurd (h tt)
leaf_stays (of_struct p) h = absurd (h tt)

number_leaf : (k : Basic) (a b : ℕ) → ¬ HasParts (number_tree k a b)
number_leaf basic.Bool a b h = h
number_leaf basic.Int a b h = h
number_leaf basic.Uint a b h = h
number_leaf basic.Float a b h = h
number_leaf basic.Complex a b h = h
number_leaf basic.Bytes a b h = h
number_leaf basic.Str a b h = h
number_leaf basic.Interface a b h = h

raw_leaf : (k : RawKind) (s : List ℕ) → ¬ HasParts (raw_tree k s)
raw_leaf raw.Bytes s h = h
raw_leaf raw.Str s h = h
raw_leaf raw.Opaque s h = h

-- ---- the numbers of fields

before_or_at : (k i : ℕ) → k < i + 1 → (k < i) ⊎ (k ≡ i)
before_or_at zero zero l = inr refl
before_or_at zero (suc i) l = inl (omega arith)
before_or_at (suc k) zero l = absurd (omega arith)
before_or_at (suc k) (suc i) l = elim (before_or_at k i (omega arith)) [
  | inl a ↦ inl (omega arith)
  | inr e ↦ inr
      (ap suc e)
]

number_small : (k : Basic) (a b : ℕ) → HasSmallNumbers (number_tree k a b)
number_small basic.Bool a b = tt
number_small basic.Int a b = tt
number_small basic.Uint a b = tt
number_small basic.Float a b = tt
number_small basic.Complex a b = tt
number_small basic.Bytes a b = tt
number_small basic.Str a b = tt
number_small basic.Interface a b = tt

raw_small : (k : RawKind) (s : List ℕ) → HasSmallNumbers (raw_tree k s)
raw_small raw.Bytes s = tt
raw_small raw.Str s = tt
raw_small raw.Opaque s = tt

-- the nodes of fields have small numbers
abbrev AreSmall : List Node → Type 0
AreSmall nodes = (k : ℕ) (x : Node) → slice_get nodes k ≡ Some x → HasSmallNumber x

mutual
  at_small : {nodes : List Node} {pool : List ℕ} {i j : ℕ} {f : Option ℕ} {v : Tree} → AreSmall nodes
      → MeansAt nodes pool i j f v → HasSmallNumbers v
  at_small s (a_number {k = k} {a = a} {b = b} h n) = number_small k a b
  at_small {pool = pool} s (raw_bytes {k = k} {start = start} {count = count} h l) = raw_small k (take count
      (drop start pool))
  at_small s (a_list h e c m) = each_small s m
  at_small s (a_map h e c m) = pairs_small s m
  at_small s (a_struct h e c m) = fields_small s m

  each_small : {nodes : List Node} {pool : List ℕ} {i j : ℕ} {vs : Trees} → AreSmall nodes
      → MeansEach nodes pool i j vs → AllHaveSmallNumbers vs
  each_small s no_part = tt
  each_small s (part m ms) = (at_small s m, each_small s ms)

  pairs_small : {nodes : List Node} {pool : List ℕ} {i j : ℕ} {ps : Pairs} → AreSmall nodes
      → MeansPairs nodes pool i j ps → PairsHaveSmallNumbers ps
  pairs_small s no_entry = tt
  pairs_small s (entry m n ms) = (at_small s m, at_small s n, pairs_small s ms)

  fields_small : {nodes : List Node} {pool : List ℕ} {i j : ℕ} {fs : Fields} → AreSmall nodes
      → MeansFields nodes pool i j fs → FieldsHaveSmallNumbers fs
  fields_small s end_of_fields = tt
  fields_small s (next_field {i = i} {f = f} m ms) = let h = has_node m in (
    s i (node
        (Some f) h.content) h.at f refl,
    at_small s m,
    fields_small s ms,
  )

-- ---- what is due

module _ {T : Table} {nodes : List Node} {pool : List ℕ} where
  pub due_rises : {i j : ℕ} {ts : Types} {us : List Event} → Due T nodes pool i j ts us → i ≤ j
  due_rises none_due = omega arith
  due_rises (element m p d) = omega (arith, at_rises m, due_rises d)
  due_rises (key_or_element m p d) = omega (arith, at_rises m, due_rises d)
  due_rises (dropped m h e z d) = omega (arith, at_rises m, due_rises d)
  due_rises (kept m h e z p d) = omega (arith, at_rises m, due_rises d)

  due_each : {i j : ℕ} {e : TypeId} {vs ws : Trees} → MeansEach nodes pool i j vs → TidiesEach T e vs ws
      → Due T nodes pool i j (types.Elements e) (each_told ws)
  due_each no_part no_element = none_due
  due_each (part m ms) (tidy.element p ps) = element m p (due_each ms ps)

  due_pairs : {i j : ℕ} {k e : TypeId} {ps qs : Pairs} → MeansPairs nodes pool i j ps → TidiesPairs T k e ps qs
      → Due T nodes pool i j (types.Alternating k e) (pairs_told qs)
  due_pairs no_entry tidy.no_entry = none_due
  due_pairs (entry m n ms) (tidy.entry p q ps) = key_or_element m p (key_or_element n q (due_pairs ms ps))

  due_fields : {i j : ℕ} {t : TypeId} {s : Shape} {of : List Field} {fs gs : Fields} → shape_of T t ≡ Some s
      → s.kind ≡ kind.Struct of → MeansFields nodes pool i j fs
      → TidiesFields T of fs gs → Due T nodes pool i j (types.Fields t) (fields_told gs)
  due_fields h k end_of_fields no_more = none_due
  due_fields h k (next_field m ms) (tidy.dropped f e z ps) = dropped m (has_field h k f) e z (due_fields h k ms ps)
  due_fields h k (next_field m ms) (tidy.kept f e z p ps) = kept m (has_field h k f) e z p (due_fields h k ms ps)

-- ---- the next part

-- the next part is dropped, or stays with its tidy form
data Next (T : Table) (t : TypeId) (nodes : List Node) (pool : List ℕ) : ℕ → List Open → List Event → Type 0 where
  next_dropped : {i j f : ℕ} {e : TypeId} {s : Shape} {v : Tree} {os : List Open} {us : List Event}
      → IsNextType T t (innermost os) (Some f) e → shape_of T e ≡ Some s → IsDropped s.kind v
      → MeansAt nodes pool i j (Some f) v → Left T t nodes pool j (advanced os) us → Next T t nodes pool i os us
  next_kept : {i j : ℕ} {f : Option ℕ} {e : TypeId} {s : Shape} {v w : Tree} {os : List Open} {us : List Event}
      → IsNextType T t (innermost os) f e → shape_of T e ≡ Some s
      → ((n : ℕ) → f ≡ Some n → ¬ IsDropped s.kind v) → TidiesAs T s.kind v w → MeansAt nodes pool i j f v
      → Left T t nodes pool j (advanced os) us
      → Next T t nodes pool i os (name_told f ++ (events w ++ us))

-- what is left behind some events
record Split (T : Table) (t : TypeId) (nodes : List Node) (pool : List ℕ) (i : ℕ) (os : List Open)
    (told due : List Event) : Type 0 where
  left : List Event
  splits : due ≡ told ++ left
  more : Left T t nodes pool i os left

record EndSplit (T : Table) (t : TypeId) (nodes : List Node) (pool : List ℕ) (i : ℕ) (os : List Open)
    (told due : List Event) : Type 0 where
  left : List Event
  splits : due ≡ told ++ left
  inside : IsInsideOpen i os
  more : Left T t nodes pool i os left

module _ {T : Table} {t : TypeId} {nodes : List Node} {pool : List ℕ} where
  left_within : {i : ℕ} {os : List Open} {us : List Event} → Left T t nodes pool i os us → i ≤ length nodes
  left_within (at_end e) = omega arith
  left_within (at_start m p) = omega (arith, at_rises m)
  left_within (in_part d q) = omega (arith, due_rises d, left_within q)

  next : {i : ℕ} {os : List Open} {us : List Event} → Left T t nodes pool i os us → i < length nodes
      → IsInsideOpen i os → Next T t nodes pool i os us
  next (at_end e) l h = absurd (omega arith)
  next {i = i} (at_start {w = w} m (of_type e p)) l h = subst (Next T t nodes pool i []) (append-nil (events w))
      (next_kept the_whole e (λ n f. absurd (cc)) p m (at_end refl))
  next (in_part none_due q) l h = absurd (omega arith)
  next {i = i} {os = os} (in_part {ws = ws} (element {w = w} {us = us} m (of_type e p) d) q) l h =
      subst (Next T t nodes pool i os) (sym (append_assoc (events w) us (leave ∷ ws))) (next_kept an_element e
      (λ n f. absurd (cc)) p m (in_part d q))
  next {i = i} {os = os} (in_part {ws = ws} (key_or_element {w = w} {us = us} m (of_type e p) d) q) l h =
      subst (Next T t nodes pool i os) (sym (append_assoc (events w) us (leave ∷ ws))) (next_kept a_key_or_element e
      (λ n f. absurd (cc)) p m (in_part d q))
  next (in_part (dropped m h e z d) q) l i = next_dropped (a_field h) e z m (in_part d q)
  next {i = i} {os = os} (in_part {ws = ws} (kept {f = f} {w = w} {us = us} m g e z p d) q) l h =
      subst (λ x. Next T t nodes pool i os (Rattle.gob_read.specs.Event.field f ∷ x)) (sym (append_assoc
      (events w) us (leave ∷ ws))) (next_kept (a_field g) e (λ n f. z) p m (in_part d q))

  -- ---- what is left behind a part's beginning

  list_goes : (i : ℕ) {j end : ℕ} (e : TypeId) {k : Kind} {vs : Trees} {w : Tree} {os : List Open} {r : List Event}
      → TidiesAs T k (Value.many vs) w → MeansEach nodes pool (i + 1) j vs → j ≡ end → Left T t nodes pool j os r
      → Split T t nodes pool (i + 1) (entered_as end (types_in k e) os) (enter group.Many ∷ []) (events w ++ r)
  list_goes i e {os = os} {r = r} (of_slice {e = x} {ws = ws} p) m h q = record {
    left = each_told ws ++ leave ∷ r;
    splits = ap (λ l. enter group.Many ∷ l) (append_assoc (each_told ws) (leave ∷ []) r);
    more = subst (λ end. Left T t nodes pool (i + 1) (open_to end (types.Elements x) ∷ os)
        (each_told ws ++ leave ∷ r)) h (in_part (due_each m p) q);
  }
  list_goes i e {os = os} {r = r} (of_array {e = x} {ws = ws} p) m h q = record {
    left = each_told ws ++ leave ∷ r;
    splits = ap (λ l. enter group.Many ∷ l) (append_assoc (each_told ws) (leave ∷ []) r);
    more = subst (λ end. Left T t nodes pool (i + 1) (open_to end (types.Elements x) ∷ os)
        (each_told ws ++ leave ∷ r)) h (in_part (due_each m p) q);
  }
  list_goes i e (of_basic n) m h q = absurd (n tt)
  list_goes i e (of_opaque n) m h q = absurd (n tt)

  map_goes : (i : ℕ) {j end : ℕ} (e : TypeId) {k : Kind} {vs : Pairs} {w : Tree} {os : List Open} {r : List Event}
      → TidiesAs T k (Value.pairs vs) w → MeansPairs nodes pool (i + 1) j vs → j ≡ end → Left T t nodes pool j os r
      → Split T t nodes pool (i + 1) (entered_as end (types_in k e) os) (enter group.Pairs ∷ []) (events w ++ r)
  map_goes i e {os = os} {r = r} (of_map {k = x} {e = y} {qs = ws} p) m h q = record {
    left = pairs_told ws ++ leave ∷ r;
    splits = ap (λ l. enter group.Pairs ∷ l) (append_assoc (pairs_told ws) (leave ∷ []) r);
    more = subst (λ end. Left T t nodes pool (i + 1) (open_to end (types.Alternating x y) ∷ os)
        (pairs_told ws ++ leave ∷ r)) h (in_part (due_pairs m p) q);
  }
  map_goes i e (of_basic n) m h q = absurd (n tt)
  map_goes i e (of_opaque n) m h q = absurd (n tt)

  struct_goes : (i : ℕ) {j end : ℕ}
      (e : TypeId) {k : Kind} {s : Shape} {vs : Fields} {w : Tree} {os : List Open} {r : List Event}
      → shape_of T e ≡ Some s → s.kind ≡ k
      → TidiesAs T k (Value.fields vs) w → MeansFields nodes pool (i + 1) j vs → j ≡ end → Left T t nodes pool j os r
      → Split T t nodes pool (i + 1) (entered_as end (types_in k e) os) (enter group.Fields ∷ []) (events w ++ r)
  struct_goes i e {os = os} {r = r} f g (of_struct {gs = ws} p) m h q = record {
    left = fields_told ws ++ leave ∷ r;
    splits = ap (λ l. enter group.Fields ∷ l) (append_assoc (fields_told ws) (leave ∷ []) r);
    more = subst (λ end. Left T t nodes pool (i + 1) (open_to end (types.Fields e) ∷ os)
        (fields_told ws ++ leave ∷ r)) h (in_part (due_fields f g m p) q);
  }
  struct_goes i e f g (of_basic n) m h q = absurd (n tt)
  struct_goes i e f g (of_opaque n) m h q = absurd (n tt)

  part_goes : (i : ℕ) {j : ℕ} (e : TypeId) (of : Shape) {v w : Tree} {os : List Open} {r : List Event}
      (c : Content) → Says nodes pool c i j v → shape_of T e ≡ Some of → TidiesAs T of.kind v w
      → Left T t nodes pool j os r
      → Split T t nodes pool (i + 1) (entered_open i c of.kind e os) (content_told pool c) (events w ++ r)
  part_goes i e of {w = w} {os = os} {r = r} (content.Number k a b) s h p q =
      let same = leaf_stays (subst (λ v. TidiesAs T of.kind v w) s.value p) (number_leaf k a b) in
      record {
        left = r;
        splits = ap (λ l. l ++ r) (ap events same
            ∙ number_events s.numbers);
        more = subst (λ j. Left T t nodes pool j os r) s.end q;
      }
  part_goes i e of {w = w} {os = os} {r = r} (content.Raw k start count) s h p q =
      let bytes = take count (drop start pool) in
      let same = leaf_stays (subst (λ v. TidiesAs T of.kind v w) s.value p) (raw_leaf k bytes) in
      record {
        left = r;
        splits = ap (λ l. l ++ r) (ap events same
            ∙ raw_events k bytes);
        more = subst (λ j. Left T t nodes pool j os r) s.end q;
      }
  part_goes i e of {w = w} (content.Group group.Many count extent) s h p q = list_goes i e (subst
      (λ v. TidiesAs T of.kind v w) s.value p) s.each s.end q
  part_goes i e of {w = w} (content.Group group.Pairs count extent) s h p q = map_goes i e (subst
      (λ v. TidiesAs T of.kind v w) s.value p) s.each s.end q
  part_goes i e of {w = w} (content.Group group.Fields count extent) s h p q = struct_goes i e h refl (subst
      (λ v. TidiesAs T of.kind v w) s.value p) s.each s.end q

  -- ---- the ends of parts

  one_end : {i : ℕ} {o : Open} {os : List Open} {r : List Event} → o.end ≡ i → Left T t nodes pool i (o ∷ os) r
      → Split T t nodes pool i os (leave ∷ []) r
  one_end {i = i} {os = os} e (in_part {ws = ws} none_due q) = record { left = ws; splits = refl; more = q }
  one_end e (in_part (element m p d) q) = absurd (omega (arith, at_rises m, due_rises d))
  one_end e (in_part (key_or_element m p d) q) = absurd (omega (arith, at_rises m, due_rises d))
  one_end e (in_part (dropped m h f z d) q) = absurd (omega (arith, at_rises m, due_rises d))
  one_end e (in_part (kept m h f z p d) q) = absurd (omega (arith, at_rises m, due_rises d))

  inside_of : {i : ℕ} {r : List Event} (os : List Open) → ((o : Open) (rest : List Open) → os ≡ o ∷ rest
      → o.end ≢ i) → Left T t nodes pool i os r → IsInsideOpen i os
  inside_of [] n q = tt
  inside_of (o ∷ os) n (in_part d q) = let apart = n o os refl in omega (arith, due_rises d)

  all_end : {i : ℕ} {os after : List Open} {r x : List Event} → TidyEnds i os x after → Left T t nodes pool i os r
      → EndSplit T t nodes pool i after x r
  all_end {os = os} {r = r} (none_ends n) q = record { left = r; splits = refl; inside = inside_of os n q; more = q }
  all_end {i = i} (one_ends {us = us} e d) q =
      let a = one_end e q in
      let b = all_end d a.more in
      record { left = b.left; splits = a.splits ∙ ap (λ l. leave ∷ l) b.splits; inside = b.inside; more = b.more }

  -- ---- a node

  pub node_tells : {i : ℕ} {os mid after : List Open} {old told new : State} {due : List Event} (x : Node)
      → length nodes < 2 ^ 64 → slice_get nodes i ≡ Some x → IsInsideOpen i os
      → ((e : TypeId) (s : Shape) → IsNextType T t (innermost os) x.field e → shape_of T e ≡ Some s
      → HasSmallNumber x × PartHasEvents i x s.kind e pool (advanced os) mid old told)
      → TidyEnded (i + 1) mid after told new
      → Left T t nodes pool i os due → TidyGoes T t nodes pool i after old new due
  node_tells {i = i} {os = os} {mid = mid} {after = after} {old = old} {told = told} {new = new} x n h inside g z q =
      by inside g (next q (slice_get_within nodes i x h) inside)
    where
      is_small : {y : Node} → slice_get nodes i ≡ Some y → HasSmallNumber x → HasSmallNumber y
      is_small {y = y} there = subst HasSmallNumber (same_Some x y (sym h ∙ there))

      by : {os : List Open} {due : List Event} → IsInsideOpen i os → ((e : TypeId) (s : Shape)
          → IsNextType T t (innermost os) x.field e → shape_of T e ≡ Some s
          → HasSmallNumber x × PartHasEvents i x s.kind e pool (advanced os) mid old told)
          → Next T t nodes pool i os due → TidyGoes T t nodes pool i after old new due
      by {os = os} {due = due} inside g (next_dropped {j = j} {f = f} {e = e} {s = s} {v = v} a b d m r) =
          let w = node_says x.content h m in
          let y = drops_says nodes pool i j v s.kind x.content w.1 d in
          let o = g e s (subst (λ f. IsNextType T t (innermost os) f e) (sym w.0) a) b in
          let c = o.1.drops f w.0 y.0 in
          let k = all_end z.ends (subst (λ os. Left T t nodes pool (i + 1) os due) (sym c.0) (subst
          (λ j. Left T t nodes pool j (advanced os) due) y.1 r)) in
          record {
            told = z.told;
            left = k.left;
            splits = k.splits;
            stands = subst
                (λ s. TapeGoesOn s new z.told) c.1 z.stands;
            inside = k.inside;
            more = k.more;
            small = λ y there. is_small there o.0;
          }
      by {os = os} inside g (next_kept {j = j} {f = f} {e = e} {s = s} {v = v} {w = u} {us = us} a b d p m r) =
          let w = node_says x.content h m in
          let o = g e s (subst (λ f. IsNextType T t (innermost os) f e) (sym w.0) a) b in
          let c = o.1.keeps (λ k e o. d k (sym w.0 ∙ e) (says_drops nodes pool i j v s.kind x.content w.1 o))
          (says_pooled nodes pool i j v x.content w.1) in
          let y = part_goes i e s x.content w.1 b p r in
          let k = all_end z.ends (subst (λ os. Left T t nodes pool (i + 1) os y.left) (sym (c.opens
          (ends_open nodes pool i j v x.content w.1 (at_within m) n))) y.more) in
          let prefix = name_told x.field ++ content_told pool x.content in
          record {
            told = prefix ++ z.told;
            left = k.left;
            splits =
                ap (λ f. name_told f ++ (events u ++ us)) (sym w.0) ∙ ap (λ l. name_told x.field ++ l) (y.splits
                ∙ ap (λ l. content_told pool x.content ++ l) k.splits)
                ∙ sym (append_assoc (name_told x.field) (content_told pool x.content) (z.told ++ k.left))
                ∙ sym (append_assoc prefix z.told k.left);
            stands = goes_then c.stands z.stands;
            inside = k.inside;
            more = k.more;
            small = λ y there. is_small there o.0;
          }

  -- ---- the whole tape

  left_none : {i : ℕ} {os : List Open} {us : List Event} → Left T t nodes pool i os us → i ≡ length nodes
      → IsInsideOpen i os → us ≡ []
  left_none (at_end e) l h = refl
  left_none (at_start m p) l h = absurd (omega (arith, at_rises m))
  left_none (in_part d q) l h = absurd (omega (arith, left_within q))

  pub nothing_told : {os : List Open} {now : State} → os ≡ [] → IsTapeOf now [] → TidyReaches T t nodes pool 0 os now
  nothing_told e s v w m p = rw e (record {
    told = [];
    left = events w;
    splits = refl;
    stands = s;
    inside = tt;
    more = at_start m p;
    small = λ k x l. absurd (omega arith);
  })

  pub node_reached : {i : ℕ} {os after : List Open} {old new : State} → TidyReaches T t nodes pool i os old
      → ((due : List Event) → IsInsideOpen i os → Left T t nodes pool i os due
      → TidyGoes T t nodes pool i after old new due) → TidyReaches T t nodes pool (i + 1) after new
  node_reached {i = i} {os = os} {after = after} {old = old} {new = new} r g v w m p = on (r v w m p)
    where
      on : {due : List Event} → TidyUpTo T t nodes pool i os old due → TidyUpTo T t nodes pool (i + 1) after new due
      on u =
          let d = g u.left u.inside u.more in
          record {
            told = u.told ++ d.told;
            left = d.left;
            splits = u.splits ∙ ap (λ l. u.told ++ l) d.splits ∙ sym (append_assoc u.told d.told d.left);
            stands = d.stands u.told u.stands;
            inside = d.inside;
            more = d.more;
            small = λ k x l h. elim (before_or_at k i l) [
              | inl a ↦ u.small k x a h
              | inr e ↦ d.small x (subst
                  (λ k. slice_get nodes k ≡ Some x) e h)
            ];
          }

  pub all_told_of : {i : ℕ} {os : List Open} {now : State} → length nodes ≤ i → TidyReaches T t nodes pool i os now
      → (v w : Tree) → MeansAt nodes pool 0 (length nodes) None v → Tidies T t v w → TakesEvents v w now
  all_told_of {now = now} l r v w m p =
      let u = r v w m p in
      let within = left_within u.more in
      let none = left_none u.more (omega arith) u.inside in
      record {
        stands = subst (IsTapeOf now) (sym (u.splits ∙ ap (λ l. u.told ++ l) none ∙ append-nil u.told)) u.stands;
        small = at_small (λ k x h. u.small k x (let there = slice_get_within nodes k x h in omega arith) h) m;
      }

-- a tape of all events of a value means it
pub tape_whole : {s : State} (v : Tree) → IsTapeOf s (events v) → IsWhole s v
tape_whole v t = whole_told t.taped (tells v)

-- ---- the stack

pub innermost_is : (os : List Open) {r : Option Open} → slice_get os (length os - 1) ≡ r → innermost (reverse os) ≡ r
innermost_is os {r = None} e = ap innermost (none_is os e)
innermost_is os {r = Some o} e = ap innermost (last_is os o e)

-- the innermost part goes on to its next part
pub last_advanced : (os : List Open) (i : ℕ) (o : Open) (ts : Types) → i + 1 ≡ length os → o ≡ get_or os i o
    → ts ≡ turned o.types → reverse (set os i (open_to o.end ts)) ≡ advanced (reverse os)
last_advanced os i o ts h g e =
    last_changed os i (open_to o.end ts) h ∙ ap (λ ts. open_to o.end ts ∷ reverse (take i os)) e
    ∙ ap advanced (sym (last_first os i o h g))

pub none_ended : {i : ℕ} {before : List Open} {s : State} → TidyEnding i before before s s
none_ended = record { told = []; completes = λ us after d. d; stands = goes_none refl }

-- one more part has ended
pub one_ended : (now popped : List Open) {i : ℕ} {before : List Open} {old mid new : State} (o : Open)
    → TidyEnding i before (reverse now) old mid → slice_get now (length now - 1) ≡ Some o → o.end ≡ i
    → popped ≡ take (length now - 1) now → TapeGoesOn mid new (leave ∷ [])
    → TidyEnding i before (reverse popped) old new
one_ended now popped {i = i} {before = before} o e g h p n = record {
  told = e.told ++ leave ∷ [];
  completes = λ us after d.
      let top : reverse now ≡ o ∷ reverse popped = last_is now o g ∙ ap (λ t. o ∷ reverse t) (sym p) in
      subst (λ x. TidyEnds i before x after) (sym (append_assoc e.told (leave ∷ []) us)) (e.completes (leave ∷ us) after
      (subst (λ t. TidyEnds i t (leave ∷ us) after) (sym top) (one_ends h d)));
  stands = goes_then e.stands n;
}

all_ended : {i : ℕ} {before now : List Open} {old new : State} → TidyEnding i before now old new
    → ((o : Open) (rest : List Open) → now ≡ o ∷ rest → o.end ≢ i) → TidyEnded i before now old new
all_ended {i = i} {before = before} {now = now} e n =
    record {
      told = e.told;
      ends = subst (λ x. TidyEnds i before x now) (append-nil e.told) (e.completes [] now
          (none_ends n));
      stands = e.stands;
    }

pub ended_apart : (now : List Open) {i : ℕ} {before : List Open} {old new : State} (o : Open)
    → TidyEnding i before (reverse now) old new → slice_get now (length now - 1) ≡ Some o → o.end ≢ i
    → TidyEnded i before (reverse now) old new
ended_apart now {i = i} o e g n = all_ended e (λ t rest h. let same : o ∷ reverse (take
    (length now - 1) now) ≡ t ∷ rest = sym (last_is now o g)
    ∙ h in let here : o ≡ t = cc in subst (λ (t : Open). t.end ≢ i) here n)

pub ended_all : (now : List Open) {i : ℕ} {before : List Open} {old new : State}
    → TidyEnding i before (reverse now) old new → slice_get now (length now - 1) ≡ None
    → TidyEnded i before (reverse now) old new
ended_all now e g = all_ended e (λ t rest h. let same : [] ≡ t ∷ rest = sym (none_is now g) ∙ h in absurd (cc))
