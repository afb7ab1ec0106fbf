-- A visitor that is told of values which are known to stand in a body, part by part.
use Rattle.std.proofs.Common.{◌≡◌, ℕ, ◌+◌, ◌-◌, ◌==◌, ◌<◌, Bool, true, false, List, [], ◌∷◌, ◌++◌, drop, Some}
use Rattle.std.proofs.Common.{Result, Ok, Err, arith, refl, sym, ap, ◌∙◌, subst, append_assoc}
use Rattle.std.specs.Result.{result_and}
use Rattle.gob_num.specs.Unsigned.{IsUnsigned}
use Rattle.gob_num.specs.Signed.{IsSigned}
use Rattle.gob_num.specs.Pattern.{IsPattern}
use Rattle.gob_num.proofs.PublicLaws.{pattern_prefix, pattern_unsigned, signed_prefix, signed_unsigned}
use Rattle.gob_types.specs.declared.id.TypeId.{TypeId}
use Rattle.gob_types.specs.declared.basic.Basic.TheVariants as basic
use Rattle.gob_types.specs.declared.kind.Field.{Field}
use Rattle.gob_types.specs.declared.kind.Marshal.{Marshal}
use Rattle.gob_types.specs.declared.kind.Kind.TheVariants as kind
use Rattle.gob_types.specs.declared.kind.Shape.{Shape}
use Rattle.gob_types.specs.Table.{Table, shape_of}
use Rattle.gob_value.specs.Tree.{Tree, Trees, Pairs, Fields, tree_count, pair_count, depth}
use Rattle.gob_value.specs.Tree as Value
use Rattle.gob_value.specs.Spelling.{truth, SpellsAs, SpellsEach, SpellsPairs, no_element, element, no_entry, entry}
use Rattle.gob_walk.specs.PartTypes.{element_type, key_type, struct_fields, field_type}
use Rattle.gob_walk.specs.Standing.{HoldsKind, HoldsValue, BeginsElements, BeginsEntries, BeginsEntry}
use Rattle.gob_walk.specs.Standing.{BeginsPresent, IsNextField, NumberFrom}
use Rattle.gob_walk.proofs.StandingLaws.{bool_parts, int_parts, uint_parts, float_parts, complex_parts, nil_parts}
use Rattle.gob_walk.proofs.StandingLaws.{bytes_parts}
use Rattle.gob_walk.proofs.StandingLaws.{text_parts, opaque_parts, these_begin, value_as, slice_parts, array_parts}
use Rattle.gob_walk.proofs.StandingLaws.{list_begins}
use Rattle.gob_walk.proofs.StandingLaws.{ListIn, map_parts, map_begins, struct_parts, next_element, next_entry}
use Rattle.gob_walk.proofs.StandingLaws.{some_field, field_or_end}
use Rattle.gob_walk.proofs.StandingLaws.{NextElement, NextEntry, NextPresent, BeginsList, BeginsMap, BytesFrom}
use Rattle.gob_walk.specs.Event.{Event, leaf, raw, value_told, elements_told, entries_told, entry_told, fields_told}
use Rattle.gob_walk.specs.Event as event
use Rattle.gob_walk.specs.Told.{Sends}
use Rattle.gob_walk.proofs.AnswerLaws.{GoesOn, begun, part_failed, part_put, prefix_failed, prefix_put}
use Rattle.gob_walk.proofs.AnswerLaws.{sends_as, sent_behind}

-- ---- the types of parts
pub slice_element : (s : Shape) (e : TypeId) → s.kind ≡ kind.Slice e → element_type (Some s) ≡ e
slice_element s e h = rw h refl

pub array_element : (s : Shape) (e : TypeId) (n : ℕ) → s.kind ≡ kind.Array e n → element_type (Some s) ≡ e
array_element s e n h = rw h refl

pub map_element : (s : Shape) (k e : TypeId) → s.kind ≡ kind.Map k e → element_type (Some s) ≡ e
map_element s k e h = rw h refl

pub map_key : (s : Shape) (k e : TypeId) → s.kind ≡ kind.Map k e → key_type (Some s) ≡ k
map_key s k e h = rw h refl

pub struct_types : (s : Shape) (types : List Field) → s.kind ≡ kind.Struct types → struct_fields (Some s) ≡ types
struct_types s types h = rw h refl

truth_is : (x : Bool) (n : ℕ) → n ≡ truth x → (n == 1) ≡ x
truth_is false n e = rw e refl
truth_is true n e = rw e refl

told_as : (T : Table) (t : TypeId) {v w : Tree} → v ≡ w → value_told T t w ≡ value_told T t v
told_as T t same = ap (λ v. value_told T t v) (sym same)

module _ {O E : Type 0} (tells : O → O → List Event → Result (Unit {0}) E → Type 0) where
  -- ---- values without parts
  module _ {T : Table} {v : Tree} {old new : O} {rest : List ℕ} (t : TypeId) (body : List ℕ) (at end : ℕ)
      (r : Result (Unit {0}) E) (q : Result ℕ E) (last : q ≡ result_and r (Ok end)) where
    pub bool_sent : (n : ℕ) → NumberFrom body at n end → tells old new (leaf (Value.bool (n == 1)) ∷ []) r
        → HoldsKind T (kind.Basic basic.Bool) v (drop at body) rest
        → Sends tells old new (value_told T t v) body rest q
    bool_sent n found p b =
        let x = bool_parts b.spelled in
        let one = found (truth x.0) rest (record { bytes = b.bytes; spelled = x.2; whole = b.whole }) in
        sent_behind tells end r q last one.1 (ap (λ y. leaf (Value.bool y) ∷ []) (truth_is x.0 n one.0)
        ∙ told_as T t x.1) p

    pub int_sent : (n : ℕ) (i : _) → NumberFrom body at n end → ((bytes : List ℕ) → IsUnsigned n bytes
        → IsSigned i bytes)
        → tells old new (leaf (Value.int i) ∷ []) r → HoldsKind T (kind.Basic basic.Int) v (drop at body) rest
        → Sends tells old new (value_told T t v) body rest q
    int_sent n i found means p b =
        let x = int_parts b.spelled in
        let u = signed_unsigned x.2 in
        let one = found u.0 rest (record { bytes = b.bytes; spelled = u.1; whole = b.whole }) in
        let same = signed_prefix rest rest (means b.bytes (subst (λ k. IsUnsigned k b.bytes)
        (sym one.0) u.1)) x.2 refl in
        sent_behind tells end r q last one.1 (ap (λ j. leaf (Value.int j) ∷ []) same.value ∙ told_as T t x.1) p

    pub uint_sent : (n : ℕ) → NumberFrom body at n end → tells old new (leaf (Value.uint n) ∷ []) r
        → HoldsKind T (kind.Basic basic.Uint) v (drop at body) rest
        → Sends tells old new (value_told T t v) body rest q
    uint_sent n found p b =
        let x = uint_parts b.spelled in
        let one = found x.0 rest (record { bytes = b.bytes; spelled = x.2; whole = b.whole }) in
        sent_behind tells end r q last one.1 (ap (λ n. leaf (Value.uint n) ∷ []) one.0 ∙ told_as T t x.1) p

    pub float_sent : (n f : ℕ) → NumberFrom body at n end → ((bytes : List ℕ) → IsUnsigned n bytes → IsPattern f bytes)
        → tells old new (leaf (Value.float f) ∷ []) r → HoldsKind T (kind.Basic basic.Float) v (drop at body) rest
        → Sends tells old new (value_told T t v) body rest q
    float_sent n f found means p b =
        let x = float_parts b.spelled in
        let u = pattern_unsigned x.2 in
        let one = found u.0 rest (record { bytes = b.bytes; spelled = u.1; whole = b.whole }) in
        let same = pattern_prefix rest rest (means b.bytes (subst (λ k. IsUnsigned k b.bytes) (sym one.0) u.1)) x.2 refl
        in
        sent_behind tells end r q last one.1 (ap (λ f. leaf (Value.float f) ∷ []) same.value ∙ told_as T t x.1) p

    pub complex_sent : (m n f g behind : ℕ) → NumberFrom body at m behind → NumberFrom body behind n end
        → ((bytes : List ℕ) → IsUnsigned m bytes → IsPattern f bytes)
        → ((bytes : List ℕ) → IsUnsigned n bytes → IsPattern g bytes)
        → tells old new (leaf (Value.complex f g) ∷ []) r
        → HoldsKind T (kind.Basic basic.Complex) v (drop at body) rest
        → Sends tells old new (value_told T t v) body rest q
    complex_sent m n f g behind found found' means means' p b =
        let x = complex_parts b.spelled in
        let u = pattern_unsigned x.reals in
        let w = pattern_unsigned x.imaginaries in
        let one = found u.0 (x.second ++ rest) (record {
          bytes = x.first;
          spelled = u.1;
          whole = b.whole ∙ ap (λ l. l ++ rest) x.whole ∙ append_assoc x.first x.second rest;
        }) in
        let two = found' w.0 rest (record { bytes = x.second; spelled = w.1; whole = one.1 }) in
        let real = pattern_prefix rest rest (means x.first (subst (λ k. IsUnsigned k x.first) (sym one.0) u.1)) x.reals
        refl in
        let imaginary = pattern_prefix rest rest (means' x.second (subst (λ k. IsUnsigned k x.second) (sym two.0) w.1))
        x.imaginaries refl in
        sent_behind tells end r q last two.1
        (ap (λ f. leaf (Value.complex f g) ∷ []) real.value
        ∙ ap (λ g. leaf (Value.complex x.real g) ∷ []) imaginary.value
        ∙ told_as T t x.same) p

    pub nil_sent : (n : ℕ) → NumberFrom body at n end → tells old new (leaf Value.nil ∷ []) r
        → HoldsKind T (kind.Basic basic.Interface) v (drop at body) rest
        → Sends tells old new (value_told T t v) body rest q
    nil_sent n found p b =
        let x = nil_parts b.spelled in
        let one = found 0 rest (record { bytes = b.bytes; spelled = x.1; whole = b.whole }) in
        sent_behind tells end r q last one.1 (told_as T t x.0) p

    pub bytes_sent : (bytes : List ℕ) → BytesFrom body at bytes end → tells old new (leaf (Value.bytes bytes) ∷ []) r
        → HoldsKind T (kind.Basic basic.Bytes) v (drop at body) rest
        → Sends tells old new (value_told T t v) body rest q
    bytes_sent bytes found p b =
        let x = bytes_parts b.spelled in
        let one = found x.raw rest (these_begin x b.whole) in
        sent_behind tells end r q last one.1 (ap (λ b. leaf (Value.bytes b) ∷ []) one.0 ∙ told_as T t x.same) p

    pub text_sent : (bytes : List ℕ) → BytesFrom body at bytes end → tells old new (leaf (Value.text bytes) ∷ []) r
        → HoldsKind T (kind.Basic basic.Str) v (drop at body) rest
        → Sends tells old new (value_told T t v) body rest q
    text_sent bytes found p b =
        let x = text_parts b.spelled in
        let one = found x.raw rest (these_begin x b.whole) in
        sent_behind tells end r q last one.1 (ap (λ b. leaf (Value.text b) ∷ []) one.0 ∙ told_as T t x.same) p

    pub opaque_sent : (m : Marshal) (s : Shape) (bytes : List ℕ) → BytesFrom body at bytes end
        → shape_of T t ≡ Some s → tells old new (raw (Some s) bytes ∷ []) r
        → HoldsKind T (kind.Opaque m) v (drop at body) rest
        → Sends tells old new (value_told T t v) body rest q
    opaque_sent m s bytes found is p b =
        let x = opaque_parts b.spelled in
        let one = found x.raw rest (these_begin x b.whole) in
        sent_behind tells end r q last one.1 (ap (λ b. raw (Some s) b ∷ []) one.0
        ∙ ap (λ o. raw o x.raw ∷ []) (sym is) ∙ told_as T t x.same) p

  -- ---- values with parts
  module _ {T : Table} {t : TypeId} {limit : ℕ} {v : Tree} {old new : O} {piece body rest : List ℕ} (s : Shape)
      (f : shape_of T t ≡ Some s) (q : Result ℕ E) (b : HoldsValue T t limit v piece rest) where
    list_sent : (e : TypeId) → element_type (Some s) ≡ e → (l : ListIn T e v (value_as s f b).bytes)
        → ((vs : Trees) (rest : List ℕ) → BeginsList T e (limit - 1) vs piece rest
        → Sends tells old new (event.list_begins ∷ elements_told false T e vs) body rest q)
        → Sends tells old new (value_told T t v) body rest q
    list_sent e same l sent =
        let w = value_as s f b in
        sends_as tells
        (ap (λ u. event.list_begins ∷ elements_told false T u l.values) (sym (ap element_type f ∙ same))
        ∙ ap (λ v. value_told T t v) (sym l.same))
        (sent l.values rest (list_begins limit l b.within w.whole))

    pub slice_sent : (e : TypeId) → s.kind ≡ kind.Slice e
        → ((vs : Trees) (rest : List ℕ) → BeginsList T e (limit - 1) vs piece rest
        → Sends tells old new (event.list_begins ∷ elements_told false T e vs) body rest q)
        → Sends tells old new (value_told T t v) body rest q
    slice_sent e is sent =
        let w = value_as s f b in
        list_sent e (slice_element s e is) (slice_parts (subst (λ k. SpellsAs T k v w.bytes) is w.spelled)) sent

    pub array_sent : (e : TypeId) (n : ℕ) → s.kind ≡ kind.Array e n
        → ((vs : Trees) (rest : List ℕ) → BeginsList T e (limit - 1) vs piece rest
        → Sends tells old new (event.list_begins ∷ elements_told false T e vs) body rest q)
        → Sends tells old new (value_told T t v) body rest q
    array_sent e n is sent =
        let w = value_as s f b in
        list_sent e (array_element s e n is) (array_parts (subst (λ k. SpellsAs T k v w.bytes) is w.spelled)) sent

    pub map_sent : (k e : TypeId) → s.kind ≡ kind.Map k e
        → ((ps : Pairs) (rest : List ℕ) → BeginsMap T k e (limit - 1) ps piece rest
        → Sends tells old new (event.map_begins k ∷ entries_told false T k e ps) body rest q)
        → Sends tells old new (value_told T t v) body rest q
    map_sent k e is sent =
        let w = value_as s f b in
        let m = map_parts (subst (λ j. SpellsAs T j v w.bytes) is w.spelled) in
        sends_as tells
        (ap (λ u. event.map_begins u ∷ entries_told false T u e m.pairs) (sym (ap key_type f ∙ map_key s k e is))
        ∙ ap (λ u. event.map_begins (key_type (shape_of T t)) ∷ entries_told false T (key_type
        (shape_of T t)) u m.pairs)
        (sym (ap element_type f ∙ map_element s k e is))
        ∙ ap (λ v. value_told T t v) (sym m.same))
        (sent m.pairs rest (map_begins limit m b.within w.whole))

    pub struct_sent : (types : List Field) → s.kind ≡ kind.Struct types
        → ((fs : Fields) (rest : List ℕ) → BeginsPresent T types 0 (limit - 1) fs piece rest
        → Sends tells old new (event.struct_begins ∷ fields_told T types 0 fs) body rest q)
        → Sends tells old new (value_told T t v) body rest q
    struct_sent types is sent =
        let w = value_as s f b in
        let x = struct_parts (subst (λ j. SpellsAs T j v w.bytes) is w.spelled) in
        let deep = b.within in
        let same = ap depth x.1 in
        sends_as tells
        (ap (λ u. event.struct_begins ∷ fields_told T u 0 x.0) (sym (ap struct_fields f ∙ struct_types s types is))
        ∙ ap (λ v. value_told T t v) (sym x.1))
        (sent x.0 rest (record { bytes = w.bytes; spelled = x.2; within = omega arith; whole = w.whole }))

-- ---- parts, one behind another
-- so many elements are left
pub record ElementsLeft {O E : Type 0} (tells : O → O → List Event → Result (Unit {0}) E
    → Type 0) (T : Table) (e : TypeId)
    (limit count : ℕ) (later : Bool) (old now : O) (piece rest : List ℕ) (all : List Event) : Type 0 where
  pub values : Trees
  pub begins : BeginsElements T e limit values piece rest
  pub counted : tree_count values ≡ count
  pub text : GoesOn tells old now (elements_told later T e values) all

-- so many pairs
pub record EntriesLeft {O E : Type 0} (tells : O → O → List Event → Result (Unit {0}) E
    → Type 0) (T : Table) (k e : TypeId)
    (limit count : ℕ) (later : Bool) (old now : O) (piece rest : List ℕ) (all : List Event) : Type 0 where
  pub pairs : Pairs
  pub begins : BeginsEntries T k e limit pairs piece rest
  pub counted : pair_count pairs ≡ count
  pub text : GoesOn tells old now (entries_told later T k e pairs) all

-- these fields
pub record PresentLeft {O E : Type 0} (tells : O → O → List Event → Result (Unit {0}) E → Type 0) (T : Table)
    (types : List Field) (next limit : ℕ) (old now : O) (piece rest : List ℕ) (all : List Event) : Type 0 where
  pub fields : Fields
  pub begins : BeginsPresent T types next limit fields piece rest
  pub text : GoesOn tells old now (fields_told T types next fields) all

-- behind the count of a list are its elements
pub list_elements : {T : Table} {e : TypeId} {limit count : ℕ} {vs : Trees} {rest : List ℕ} (body : List ℕ) (at end : ℕ)
    → NumberFrom body at count end → BeginsList T e limit vs (drop at body) rest
    → BeginsElements T e limit vs (drop end body) rest × (tree_count vs ≡ count)
list_elements {vs = vs} body at end found b =
    let one = found (tree_count vs) b.behind b.counted in
    let w = b.elements in
    (record { bytes = w.bytes; spelled = w.spelled; within = w.within; whole = one.1 ∙ w.whole }, sym one.0)

pub map_entries : {T : Table} {k e : TypeId} {limit count : ℕ} {ps : Pairs} {rest : List ℕ} (body : List ℕ) (at end : ℕ)
    → NumberFrom body at count end → BeginsMap T k e limit ps (drop at body) rest
    → BeginsEntries T k e limit ps (drop end body) rest × (pair_count ps ≡ count)
map_entries {ps = ps} body at end found b =
    let one = found (pair_count ps) b.behind b.counted in
    let w = b.entries in
    (record { bytes = w.bytes; spelled = w.spelled; within = w.within; whole = one.1 ∙ w.whole }, sym one.0)

no_element_left : {T : Table} {e : TypeId} {vs : Trees} {b piece rest : List ℕ} (later : Bool) → SpellsEach T e vs b
    → piece ≡ b ++ rest → tree_count vs ≡ 0 → (elements_told later T e vs ≡ event.list_ends ∷ []) × (piece ≡ rest)
no_element_left later no_element whole none = (refl, whole)
no_element_left later (element p q) whole none = absurd (omega (arith, none))

no_entry_left : {T : Table} {k e : TypeId} {ps : Pairs} {b piece rest : List ℕ} (later : Bool) → SpellsPairs T k e ps b
    → piece ≡ b ++ rest → pair_count ps ≡ 0 → (entries_told later T k e ps ≡ event.map_ends k ∷ []) × (piece ≡ rest)
no_entry_left later no_entry whole none = (refl, whole)
no_entry_left later (entry p q s) whole none = absurd (omega (arith, none))

module _ {O E : Type 0} (tells : O → O → List Event → Result (Unit {0}) E → Type 0)
    (joined : (a b c : O) (x y : List Event) (r : Result (Unit {0}) E) → tells a b x (Ok tt) → tells b c y r
    → tells a c (x ++ y) r)
    (cut : (a b : O) (x y : List Event) (e : E) → tells a b x (Err e) → tells a b (x ++ y) (Err e)) where
  -- all parts, behind the bracket
  pub first_elements : {T : Table} {e : TypeId} {limit count : ℕ} {vs : Trees} {old now : O} {piece rest : List ℕ}
      → BeginsElements T e limit vs piece rest → tree_count vs ≡ count → tells old now (event.list_begins ∷ []) (Ok tt)
      → ElementsLeft tells T e limit (count - 0) false old now piece rest
      (event.list_begins ∷ elements_told false T e vs)
  first_elements {vs = vs} b counted p =
      record {
        values = vs;
        begins = b;
        counted = omega (arith, counted);
        text = begun tells joined cut
            (event.list_begins ∷ []) _ p;
      }

  pub first_entries : {T : Table} {k e : TypeId} {limit count : ℕ} {ps : Pairs} {old now : O} {piece rest : List ℕ}
      → BeginsEntries T k e limit ps piece rest → pair_count ps ≡ count
      → tells old now (event.map_begins k ∷ []) (Ok tt)
      → EntriesLeft tells T k e limit (count - 0) false old now piece rest
      (event.map_begins k ∷ entries_told false T k e ps)
  first_entries {ps = ps} b counted p =
      record {
        pairs = ps;
        begins = b;
        counted = omega (arith, counted);
        text = begun tells joined cut
            (event.map_begins _ ∷ []) _ p;
      }

  pub first_present : {T : Table} {types : List Field} {limit : ℕ} {fs : Fields} {old now : O} {piece rest : List ℕ}
      → BeginsPresent T types 0 limit fs piece rest → tells old now (event.struct_begins ∷ []) (Ok tt)
      → PresentLeft tells T types 0 limit old now piece rest (event.struct_begins ∷ fields_told T types 0 fs)
  first_present {fs = fs} b p = record {
    fields = fs;
    begins = b;
    text = begun tells joined cut
        (event.struct_begins ∷ []) _ p;
  }

  -- ---- elements
  module _ {T : Table} {e : TypeId} {limit count : ℕ} {later : Bool} {old now : O} {piece rest : List ℕ} {all : List
      Event}
      (l : ElementsLeft tells T e limit count later old now piece rest all) where
    pub elements_ended : {new : O} {body : List ℕ} (at : ℕ) (r : Result (Unit {0}) E) (q : Result ℕ E)
        → q ≡ result_and r (Ok at) → piece ≡ drop at body → count ≡ 0 → tells now new (event.list_ends ∷ []) r
        → Sends tells old new all body rest q
    elements_ended {new = new} at r q last here none p =
        let end = no_element_left later l.begins.spelled l.begins.whole (l.counted ∙ none) in
        sent_behind tells at r q last (sym here ∙ end.1) refl
        (l.text new r (subst (λ t. tells now new t r) (sym end.0) p))

    module _ (some : 0 < count) where
      next : NextElement T e limit l.values piece rest
      next = next_element l.begins (omega (arith, l.counted))

      shown : elements_told later T e l.values
          ≡ event.element later ∷ (value_told T e next.first ++ elements_told true T e next.others)
      shown = ap (λ vs. elements_told later T e vs) next.same

      pub element_comma_failed : {new : O} {f : E} → tells now new (event.element later ∷ []) (Err f)
          → tells old new all (Err f)
      element_comma_failed p = prefix_failed tells joined cut (event.element later ∷ []) _ l.text shown p

      pub element_failed : {mid new : O} {f : E} → tells now mid (event.element later ∷ []) (Ok tt)
          → ((v : Tree) (rest : List ℕ) → HoldsValue T e limit v piece rest
          → tells mid new (value_told T e v) (Err f))
          → tells old new all (Err f)
      element_failed p sent = part_failed tells joined cut (event.element later ∷ []) _ _ l.text shown p
          (sent next.first next.behind next.value)

      pub element_put : {mid after : O} {place : List ℕ} {left : ℕ} {behind : Bool} → left ≡ count - 1 → behind ≡ true
          → tells now mid (event.element later ∷ []) (Ok tt)
          → ((v : Tree) (rest : List ℕ) → HoldsValue T e limit v piece rest
          → (place ≡ rest) × tells mid after (value_told T e v) (Ok tt))
          → ElementsLeft tells T e limit left behind old after place rest all
      element_put less more p sent =
          let one = sent next.first next.behind next.value in
          let w = next.left in
          rw (less, more) (record {
            values = next.others;
            begins = record { bytes = w.bytes; spelled = w.spelled; within = w.within; whole = one.0 ∙ w.whole };
            counted = omega (arith, l.counted, ap tree_count next.same);
            text = part_put tells joined cut (event.element later ∷ []) _ _ l.text shown p one.1;
          })

  -- ---- pairs
  module _ {T : Table} {k e : TypeId} {limit count : ℕ} {later : Bool} {old now : O} {piece rest : List ℕ} {all : List
      Event}
      (l : EntriesLeft tells T k e limit count later old now piece rest all) where
    pub entries_ended : {new : O} {body : List ℕ} (at : ℕ) (r : Result (Unit {0}) E) (q : Result ℕ E)
        → q ≡ result_and r (Ok at) → piece ≡ drop at body → count ≡ 0 → tells now new (event.map_ends k ∷ []) r
        → Sends tells old new all body rest q
    entries_ended {new = new} at r q last here none p =
        let end = no_entry_left later l.begins.spelled l.begins.whole (l.counted ∙ none) in
        sent_behind tells at r q last (sym here ∙ end.1) refl
        (l.text new r (subst (λ t. tells now new t r) (sym end.0) p))

    module _ (some : 0 < count) where
      next_pair : NextEntry T k e limit l.pairs piece rest
      next_pair = next_entry l.begins (omega (arith, l.counted))

      pair_shown : entries_told later T k e l.pairs
          ≡ event.entry k later ∷ (entry_told T k e next_pair.key next_pair.value
          ++ entries_told true T k e next_pair.others)
      pair_shown = ap (λ ps. entries_told later T k e ps) next_pair.same

      pub entry_comma_failed : {new : O} {f : E} → tells now new (event.entry k later ∷ []) (Err f)
          → tells old new all (Err f)
      entry_comma_failed p = prefix_failed tells joined cut (event.entry k later ∷ []) _ l.text pair_shown p

      pub entry_failed : {mid new : O} {f : E} → tells now mid (event.entry k later ∷ []) (Ok tt)
          → ((x v : Tree) (rest : List ℕ) → BeginsEntry T k e limit x v piece rest
          → tells mid new (entry_told T k e x v) (Err f))
          → tells old new all (Err f)
      entry_failed p sent =
          part_failed tells joined cut (event.entry k later ∷ []) _ _ l.text pair_shown p
          (sent next_pair.key next_pair.value next_pair.behind
          next_pair.entry)

      pub entry_put : {mid after : O} {place : List ℕ} {left : ℕ} {behind : Bool} → left ≡ count - 1 → behind ≡ true
          → tells now mid (event.entry k later ∷ []) (Ok tt)
          → ((x v : Tree) (rest : List ℕ) → BeginsEntry T k e limit x v piece rest
          → (place ≡ rest) × tells mid after (entry_told T k e x v) (Ok tt))
          → EntriesLeft tells T k e limit left behind old after place rest all
      entry_put less more p sent =
          let one = sent next_pair.key next_pair.value next_pair.behind next_pair.entry in
          let w = next_pair.left in
          rw (less, more) (record {
            pairs = next_pair.others;
            begins = record { bytes = w.bytes; spelled = w.spelled; within = w.within; whole = one.0 ∙ w.whole };
            counted = omega (arith, l.counted, ap pair_count next_pair.same);
            text = part_put tells joined cut (event.entry k later ∷ []) _ _ l.text pair_shown p one.1;
          })

  -- ---- fields
  module _ {T : Table} {types : List Field} {next limit delta : ℕ} {old now : O} {rest : List ℕ} {all : List Event}
      (body : List ℕ) (at end : ℕ) (l : PresentLeft tells T types next limit old now (drop at body) rest all)
      (number : NumberFrom body at delta end) where
    pub fields_ended : {new : O} (r : Result (Unit {0}) E) (q : Result ℕ E) → q ≡ result_and r (Ok end)
        → ((f : ℕ) (e : Field) → ¬ IsNextField types next delta f e)
        → tells now new (event.struct_ends types next ∷ []) r
        → Sends tells old new all body rest q
    fields_ended {new = new} r q last none p =
        let done = field_or_end body at end l.begins.spelled l.begins.whole number none in
        let text : fields_told T types next l.fields ≡ event.struct_ends types next ∷ [] =
        ap (λ fs. fields_told T types next fs) done.1 in
        sent_behind tells end r q last done.2 refl (l.text new r (subst (λ t. tells now new t r) (sym text) p))

    -- there is a field, if it isn't the end
    pub field_stands : ¬ (delta ≡ 0) → ¬ ((f : ℕ) (e : Field) → ¬ IsNextField types next delta f e)
    field_stands more none = more (field_or_end body at end l.begins.spelled l.begins.whole number none).0

    module _ (f : ℕ) (e : Field) (is : IsNextField types next delta f e) where
      next_one : NextPresent T types next limit delta f e l.fields (drop at body) rest
      next_one = some_field body at end l.begins.spelled l.begins l.begins.whole number is

      behind_number : drop end body ≡ next_one.behind
      behind_number = (number delta next_one.behind next_one.counted).1

      field_shown : fields_told T types next l.fields
          ≡ (event.present types next f ∷ (value_told T e.id next_one.value ++ event.field_ends ∷ []))
          ++ fields_told T types (f + 1) next_one.others
      field_shown = ap (λ fs. fields_told T types next fs) next_one.same
          ∙ ap (λ g. (event.present types next f ∷ (value_told T
          (field_type g) next_one.value ++ event.field_ends ∷ []))
          ++ fields_told T types (f + 1) next_one.others) is.2

      value_there : HoldsValue T e.id limit next_one.value (drop end body) next_one.after
      value_there = subst (λ p. HoldsValue T e.id limit next_one.value p next_one.after) (sym behind_number)
          next_one.begins

      pub field_failed : {new : O} {g : E}
          → ((v : Tree) (rest : List ℕ) → HoldsValue T e.id limit v (drop end body) rest
          → tells now new (event.present types next f
          ∷ (value_told T e.id v ++ event.field_ends ∷ [])) (Err g))
          → tells old new all (Err g)
      field_failed sent = prefix_failed tells joined cut _ _ l.text field_shown
          (sent next_one.value next_one.after value_there)

      pub field_put : {after : O} {place : List ℕ}
          → ((v : Tree) (rest : List ℕ) → HoldsValue T e.id limit v (drop end body) rest
          → (place ≡ rest) × tells now after (event.present types next f
          ∷ (value_told T e.id v ++ event.field_ends ∷ [])) (Ok tt))
          → PresentLeft tells T types (f + 1) limit old after place rest all
      field_put sent =
          let one = sent next_one.value next_one.after value_there in
          let w = next_one.left in
          record {
            fields = next_one.others;
            begins = record { bytes = w.bytes; spelled = w.spelled; within = w.within; whole = one.0 ∙ w.whole };
            text = prefix_put tells joined cut _ _ l.text field_shown one.1;
          }
