-- What is received of parts that stand in bytes, and the bytes of it, part after part.
use Rattle.std.proofs.Common.{◌≡◌, ◌≢◌, ◌⊎◌, inl, inr, ℕ, zero, suc, ◌+◌, ◌-◌, ◌<◌, ◌≤◌, List, [], ◌∷◌, ◌++◌, length}
use Rattle.std.proofs.Common.{◌^◌, Option, None, IfSome, take, drop, Some, Vec, arith, refl, sym, ap, ◌∙◌, subst}
use Rattle.std.proofs.Common.{append_assoc, append-nil, true≢false, is_some}
use Rattle.std.specs.Global.{Global}
use Rattle.std.specs.Prelude.{slice_get}
use Rattle.std.proofs.lemmas.List.{drop-drop, take-append-drop}
use Rattle.gob_num.specs.Spelled.{Appends}
use Rattle.gob_num.specs.Unsigned.{IsUnsigned}
use Rattle.gob_types.specs.declared.id.TypeId.{TypeId}
use Rattle.gob_types.specs.declared.kind.Field.{Field}
use Rattle.gob_types.specs.declared.kind.Kind.{Kind}
use Rattle.gob_types.specs.declared.kind.Kind.TheVariants as kind
use Rattle.gob_types.specs.declared.kind.Shape.{Shape}
use Rattle.gob_types.specs.KindParts.{fields_named}
use Rattle.gob_types.specs.Table.{Table, shape_of}
use Rattle.gob_types.proofs.PublicLaws.{some_injective}
use Rattle.gob_value.specs.Machine.Begins.{BeginsThisNumber, HoldsBetween}
use Rattle.gob_value.specs.Spelling.{Spells, SpellsAs, SpellsEach, SpellsPairs, SpellsFields, next_field, end_of_fields}
use Rattle.gob_value.specs.Spelling as spelling
use Rattle.gob_value.specs.Top.{SpellsTop, IsStruct, at_once, tagged}
use Rattle.gob_value.specs.Tree.{Tree, Trees, no_tree, tree, Pairs, no_pair, pair, Fields, no_field, field, depth}
use Rattle.gob_value.specs.Tree.{tree_count, pair_count, trees_depth}
use Rattle.gob_value.specs.Tree as Value
use Rattle.gob_value.specs.Written.{Written, WrittenEach, WrittenFields}
use Rattle.gob_value.specs.Written as written
use Rattle.gob_value.proofs.PublicLaws.{same_spelling, spells_written, whole_of_two, written_once}
use Rattle.gob_match.specs.declared.common.CommonField.{CommonField}
use Rattle.gob_match.specs.declared.conversion.Conversion.{Conversion}
use Rattle.gob_match.specs.declared.conversion.Conversion.TheVariants as conversion
use Rattle.gob_match.specs.declared.pair.TypePair.{TypePair}
use Rattle.gob_match.specs.declared.receiving_whole.Length.{Length}
use Rattle.gob_match.specs.declared.step.TypeStep.TheVariants as step
use Rattle.gob_match.specs.Machine.Conversions.{IsConversion}
use Rattle.gob_match.specs.Machine.Conversions as kept
use Rattle.gob_match.specs.Machine.Exploring.{ConvertsAt}
use Rattle.gob_match.specs.Machine.Receiving.{AreElementsReceived, FieldsReceived, IsOfMatch, IsReceivableField}
use Rattle.gob_match.specs.Machine.Receiving.{IsReceived, no_more, absent, present}
use Rattle.gob_match.specs.declared.places.FieldPlace.{FieldPlace}
use Rattle.gob_match.specs.Machine.ReceivingWhole.{ArePlaces, BeginsValue, GivesCommon, HasPlace, LacksPlace}
use Rattle.gob_match.specs.Machine.ReceivingWhole.{PlacesRise, StandPresent, no_place, place}
use Rattle.gob_match.specs.Machine.ReceivingWhole.{Admits, CopiesEach, GivesEach, GivesEntries, GivesFields, GivesList}
use Rattle.gob_match.specs.Machine.ReceivingWhole.{GivesMap, GivesTop, GivesTyped, HasLength, KindHasLength, RiseFrom}
use Rattle.gob_match.specs.Machine.ReceivingWhole.{Skips, here, past, StandsEach}
use Rattle.gob_match.specs.Machine.Search.{Entry}
use Rattle.gob_match.specs.Received.{IsPresent, first, later, IsAbsent}
use Rattle.gob_match.specs.Received as relation
use Rattle.gob_match.specs.ReceivedWhole.{ReceivesWhole}
use Rattle.gob_match.proofs.ConversionLaws.{common_sound}
use Rattle.gob_match.proofs.FitLaws.{count_stays, pair_count_stays, received_fits}
use Rattle.gob_match.proofs.Loops.{drop_all, drop_at}
use Rattle.gob_match.proofs.ReceiveLaws.{no_deeper}
use Rattle.gob_match.proofs.ReceiveSteps.{elements_received, entries_received, fields_received, leads_on, leaf_received}
use Rattle.gob_match.proofs.UniqueLaws.{present_from}

-- ---- bytes

-- what stands between two places, and behind
pub split_at : (body : List ℕ) (at end : ℕ) → at ≤ end → drop at body ≡ take (end - at) (drop at body) ++ drop end body
split_at body at end l =
    let up : at + (end - at) ≡ end = omega arith in
    sym (take-append-drop (end - at) (drop at body))
    ∙ ap (λ r. take (end - at) (drop at body) ++ r) (drop-drop (end - at) at body ∙ ap (λ i. drop i body) up)

-- two things appended, one behind the other
out_of_two : (old a b : List ℕ) {mid new : List ℕ} → mid ≡ old ++ a → new ≡ mid ++ b → new ≡ old ++ (a ++ b)
out_of_two old a b e f = f ∙ ap (λ l. l ++ b) e ∙ append_assoc old a b

-- ---- values that are copied

record OneValue (T : Table) (t : TypeId) (limit : ℕ) (bytes : List ℕ) : Type 0 where
  value : Tree
  spelled : Spells T t value bytes
  within : depth value ≤ limit

one_value : {T : Table} {t : TypeId} {vs : Trees} {b : List ℕ} (limit : ℕ) → SpellsEach T t vs b → tree_count vs ≡ 1
    → trees_depth vs ≤ limit → OneValue T t limit b
one_value limit spelling.no_element n w = absurd (omega arith)
one_value {T = T} {t = t} limit (spelling.element {v = v} {b = b} p spelling.no_element) n w =
    record { value = v; spelled = subst (Spells T t v) (sym (append-nil b)) p; within = omega arith }
one_value limit (spelling.element p (spelling.element q qs)) n w = absurd (omega arith)

each_stays : {T U : Table} {p : TypePair} {vs : Trees} {b : List ℕ} → ConvertsAt T U p conversion.Unchanged
    → SpellsEach T p.stream vs b → AreElementsReceived T U p vs vs
each_stays c spelling.no_element = record { receives = relation.no_element; small = tt }
each_stays c (spelling.element {b = b} p ps) =
    let r = leaf_received c (record { bytes = b; spelled = p }) refl in
    let rs = each_stays c ps in
    record { receives = relation.element r.receives rs.receives; small = (r.small, rs.small) }

each_written : {T : Table} {t : TypeId} {vs : Trees} {b : List ℕ} → SpellsEach T t vs b → WrittenEach vs b
each_written spelling.no_element = written.no_element
each_written (spelling.element p ps) = written.element (spells_written p) (each_written ps)

module _ {T U : Table} {p : TypePair} {w : Conversion} (is : w ≡ conversion.Unchanged) (c : ConvertsAt T U p w) where
  unchanged : ConvertsAt T U p conversion.Unchanged
  unchanged = subst (ConvertsAt T U p) is c

  pub leaf_given : {limit : ℕ} (body : List ℕ) (at end : ℕ) {old new : List ℕ}
      → CopiesEach T p.stream limit 1 body at end old new → HoldsBetween (GivesTyped T U p limit old new) body at end
  leaf_given {limit = limit} body at end h =
      let s = h.each in
      let v = one_value limit s.spelled s.counted s.within in
      let bytes = take (end - at) (drop at body) in
      record {
        order = s.order;
        inside = s.inside;
        begins = record {
          value = v.value;
          made = v.value;
          bytes = bytes;
          added = bytes;
          spelled = v.spelled;
          within = v.within;
          received = leaf_received unchanged (record { bytes = bytes; spelled = v.spelled }) refl;
          written = spells_written v.spelled;
          whole = split_at body at end s.order;
          out = h.copied;
        };
      }

  pub leaves_given : {limit count : ℕ} (body : List ℕ) (at end : ℕ) {old new : List ℕ}
      → CopiesEach T p.stream limit count body at end old new
      → HoldsBetween (GivesEach T U p count limit old new) body at end
  leaves_given body at end h =
      let s = h.each in
      let bytes = take (end - at) (drop at body) in
      record {
        order = s.order;
        inside = s.inside;
        begins = record {
          values = s.values;
          made = s.values;
          bytes = bytes;
          added = bytes;
          spelled = s.spelled;
          within = s.within;
          counted = s.counted;
          received = each_stays unchanged s.spelled;
          written = each_written s.spelled;
          whole = split_at body at end s.order;
          out = h.copied;
        };
      }

-- ---- elements

module _ (T U : Table) (e : TypePair) (limit : ℕ) where
  pub none_given : (n : ℕ) (body : List ℕ) (at : ℕ) (out : List ℕ) → n ≡ 0 → at ≤ length body
      → HoldsBetween (GivesEach T U e n limit out out) body at at
  none_given n body at out none l = record {
    order = omega arith;
    inside = l;
    begins = record {
      values = no_tree;
      made = no_tree;
      bytes = [];
      added = [];
      spelled = spelling.no_element;
      within = omega arith;
      counted = sym none;
      received = record { receives = relation.no_element; small = tt };
      written = written.no_element;
      whole = refl;
      out = sym (append-nil out);
    };
  }

  pub element_given : (n m : ℕ) (old mid new : List ℕ) → n ≡ m + 1 → (x y z : List ℕ)
      → GivesTyped T U e limit old mid x y → GivesEach T U e m limit mid new y z → GivesEach T U e n limit old new x z
  element_given n m old mid new more x y z p q =
      let v = p.within in
      let w = q.within in
      record {
        values = tree p.value q.values;
        made = tree p.made q.made;
        bytes = p.bytes ++ q.bytes;
        added = p.added ++ q.added;
        spelled = spelling.element p.spelled q.spelled;
        within = omega arith;
        counted = ap (λ k. k + 1) q.counted ∙ sym more;
        received = record {
          receives = relation.element p.received.receives q.received.receives;
          small = (p.received.small, q.received.small);
        };
        written = written.element p.written q.written;
        whole = whole_of_two p.bytes q.bytes z p.whole q.whole;
        out = out_of_two old p.added q.added p.out q.out;
      }

  pub list_given : (size : Length) (n : ℕ) (old mid new : List ℕ) → Admits size n → Appends (IsUnsigned n) old mid
      → (x y z : List ℕ) → BeginsThisNumber n x y → GivesEach T U e n limit mid new y z
      → GivesList T U e size limit old new x z
  list_given size n old mid new admitted a x y z p q = record {
    values = q.values;
    made = q.made;
    count = p.bytes;
    bytes = q.bytes;
    added = a.bytes ++ q.added;
    counted = subst (λ k. IsUnsigned k p.bytes) (sym q.counted) p.spelled;
    admitted = subst (Admits size) (sym q.counted) admitted;
    spelled = q.spelled;
    within = q.within;
    received = q.received;
    written = written.of_many
        (subst (λ k. IsUnsigned k a.bytes) (sym (count_stays q.received.receives ∙ q.counted)) a.spelled) q.written;
    whole = whole_of_two p.bytes q.bytes z p.whole q.whole;
    out = out_of_two old a.bytes q.added a.appended q.out;
  }

-- a list of a kind, from its elements behind their count
list_spelled : {T : Table} {k l : Kind} {e : TypePair} (size : Length) {vs : Trees} {c b : List ℕ}
    → IsConversion k l (conversion.Elements e) → KindHasLength k size → Admits size (tree_count vs)
    → IsUnsigned (tree_count vs) c → SpellsEach T e.stream vs b → SpellsAs T k (Value.many vs) (c ++ b)
list_spelled size {vs = vs} {c = c} kept.of_arrays has admitted p ps =
    let m = subst (λ s. Admits s (tree_count vs)) has admitted in
    spelling.of_array m (subst (λ n. IsUnsigned n c) m p) ps
list_spelled size kept.of_slices has admitted p ps = spelling.of_slice p ps

known_kind : {T U : Table} {p : TypePair} {w : Conversion} {s : Shape} (c : ConvertsAt T U p w)
    → shape_of T p.stream ≡ Some s → s.kind ≡ c.stream.kind
known_kind c known = ap (λ (s : Shape). s.kind) (some_injective (sym known ∙ c.shapes.stream))

module _ {T U : Table} {p : TypePair} {w : Conversion} (limit : ℕ) (some : 0 < limit) (c : ConvertsAt T U p w)
    (old new x y : List ℕ) where
  pub list_typed : {e : TypePair} {size : Length} → w ≡ conversion.Elements e → HasLength T p.stream size
      → GivesList T U e size (limit - 1) old new x y → GivesTyped T U p limit old new x y
  list_typed {e = e} {size = size} is has q =
      let v = q.within in
      let at = subst (ConvertsAt T U p) is c in
      record {
        value = Value.many q.values;
        made = Value.many q.made;
        bytes = q.count ++ q.bytes;
        added = q.added;
        spelled = spelling.of_type at.shapes.stream (list_spelled size at.converts.conversion
            (subst (λ k. KindHasLength k size) (known_kind at has.known) has.is) q.admitted q.counted q.spelled);
        within = omega arith;
        received = elements_received at q.received;
        written = q.written;
        whole = q.whole;
        out = q.out;
      }

  pub map_typed : {k e : TypePair} → w ≡ conversion.Entries k e → GivesMap T U k e (limit - 1) old new x y
      → GivesTyped T U p limit old new x y
  map_typed {k = k} {e = e} is q =
      let v = q.within in
      let at = subst (ConvertsAt T U p) is c in
      record {
        value = Value.pairs q.values;
        made = Value.pairs q.made;
        bytes = q.count ++ q.bytes;
        added = q.added;
        spelled = spelling.of_type at.shapes.stream (map_spelled at.converts.conversion q.counted q.spelled);
        within = omega arith;
        received = entries_received at q.received;
        written = q.written;
        whole = q.whole;
        out = q.out;
      }
    where
      map_spelled : {T : Table} {j l : Kind} {k e : TypePair} {ps : Pairs} {c b : List ℕ}
          → IsConversion j l (conversion.Entries k e) → IsUnsigned (pair_count ps) c
          → SpellsPairs T k.stream e.stream ps b → SpellsAs T j (Value.pairs ps) (c ++ b)
      map_spelled kept.of_maps p ps = spelling.of_map p ps

  pub struct_typed : {cs : Vec CommonField Global} {types : List Field} {common : List CommonField} {s : Shape}
      → w ≡ conversion.Fields cs → common ≡ cs.items → shape_of T p.stream ≡ Some s → s.kind ≡ kind.Struct types
      → GivesFields T U types common 0 0 (limit - 1) old new x y → GivesTyped T U p limit old new x y
  struct_typed {types = types} is same known struct q =
      let v = q.within in
      record {
        value = Value.fields q.values;
        made = Value.fields q.made;
        bytes = q.bytes;
        added = q.added;
        spelled = spelling.of_type known (subst (λ k. SpellsAs T k (Value.fields q.values) q.bytes) (sym struct)
            (spelling.of_struct q.spelled));
        within = omega arith;
        received = fields_received (subst (ConvertsAt T U p) is c)
            (subst (λ l. FieldsReceived T U q.values l q.made) same q.received);
        written = written.of_fields q.written;
        whole = q.whole;
        out = q.out;
      }

-- ---- entries

module _ (T U : Table) (k e : TypePair) (limit : ℕ) where
  pub no_entries_given : (n : ℕ) (body : List ℕ) (at : ℕ) (out : List ℕ) → n ≡ 0 → at ≤ length body
      → HoldsBetween (GivesEntries T U k e n limit out out) body at at
  no_entries_given n body at out none l = record {
    order = omega arith;
    inside = l;
    begins = record {
      values = no_pair;
      made = no_pair;
      bytes = [];
      added = [];
      spelled = spelling.no_entry;
      within = omega arith;
      counted = sym none;
      received = record { receives = relation.no_entry; small = tt };
      written = written.no_entry;
      whole = refl;
      out = sym (append-nil out);
    };
  }

  pub entry_given : (n m : ℕ) (old mid late new : List ℕ) → n ≡ m + 1 → (x a y z : List ℕ)
      → GivesTyped T U k limit old mid x a → GivesTyped T U e limit mid late a y
      → GivesEntries T U k e m limit late new y z → GivesEntries T U k e n limit old new x z
  entry_given n m old mid late new more x a y z p q r =
      let u = p.within in
      let v = q.within in
      let w = r.within in
      record {
        values = pair p.value q.value r.values;
        made = pair p.made q.made r.made;
        bytes = p.bytes ++ (q.bytes ++ r.bytes);
        added = p.added ++ (q.added ++ r.added);
        spelled = spelling.entry p.spelled q.spelled r.spelled;
        within = omega arith;
        counted = ap (λ k. k + 1) r.counted ∙ sym more;
        received = record {
          receives = relation.entry p.received.receives q.received.receives r.received.receives;
          small = (p.received.small, q.received.small, r.received.small);
        };
        written = written.entry p.written q.written r.written;
        whole = whole_of_two p.bytes (q.bytes ++ r.bytes) z p.whole (whole_of_two q.bytes r.bytes z q.whole r.whole);
        out = out_of_two old p.added (q.added ++ r.added) p.out (out_of_two mid q.added r.added q.out r.out);
      }

  pub map_given : (n : ℕ) (old mid new : List ℕ) → Appends (IsUnsigned n) old mid → (x y z : List ℕ)
      → BeginsThisNumber n x y → GivesEntries T U k e n limit mid new y z → GivesMap T U k e limit old new x z
  map_given n old mid new a x y z p q = record {
    values = q.values;
    made = q.made;
    count = p.bytes;
    bytes = q.bytes;
    added = a.bytes ++ q.added;
    counted = subst (λ k. IsUnsigned k p.bytes) (sym q.counted) p.spelled;
    spelled = q.spelled;
    within = q.within;
    received = q.received;
    written = written.of_pairs
        (subst (λ k. IsUnsigned k a.bytes) (sym (pair_count_stays q.received.receives ∙ q.counted)) a.spelled)
        q.written;
    whole = whole_of_two p.bytes q.bytes z p.whole q.whole;
    out = out_of_two old a.bytes q.added a.appended q.out;
  }

-- ---- fields

inside : {f m : ℕ} {w v : Tree} {fs : Fields} → IsPresent m v (field f w fs) → (f ≡ m) ⊎ IsPresent m v fs
inside first = inl refl
inside (later q) = inr q

-- a field whose number is below that of the first field is absent
below_absent : {T : Table} {types : List Field} {n : ℕ} {v : Tree} {fs : Fields} {b : List ℕ}
    → SpellsFields T types (n + 1) fs b → (m : ℕ) → m < n → IsAbsent m (field n v fs)
below_absent s m l w h = elim (inside h) [
  | inl e ↦ omega arith
  | inr q ↦ let n = present_from s q in omega arith
]

-- nor is it present behind a field of another number
other_absent : {n m : ℕ} {v : Tree} {fs : Fields} → n ≢ m → IsAbsent m fs → IsAbsent m (field n v fs)
other_absent ne none w h = elim (inside h) [ inl e ↦ ne e | inr q ↦ none w q ]

rise_lower : {low high : ℕ} (cs : List CommonField) → low ≤ high → RiseFrom high cs → RiseFrom low cs
rise_lower [] l r = tt
rise_lower (c ∷ cs) l r = (let h = r.0 in omega arith, r.1)

-- what is received behind a field that isn't asked for any more
received_behind : {T U : Table} {n : ℕ} {v : Tree} {fs : Fields} {cs : List CommonField} {gs : Fields}
    → RiseFrom (n + 1) cs → FieldsReceived T U fs cs gs → FieldsReceived T U (field n v fs) cs gs
received_behind r no_more = no_more
received_behind {n = n} r (absent {c = c} {cs = cs} none h) =
    let l = r.0 in
    absent (other_absent (λ e. omega arith) none) (received_behind (rise_lower cs (omega arith) r.1) h)
received_behind {n = n} r (present {c = c} {cs = cs} at low p h) =
    let l = r.0 in present (later at) low p (received_behind (rise_lower cs (omega arith) r.1) h)

-- the fields that were gone past are absent
skipped_received : {T U : Table} {n : ℕ} {fs : Fields} {cs ds : List CommonField} {gs : Fields} → Skips n cs ds
    → ((m : ℕ) → m < n → IsAbsent m fs) → FieldsReceived T U fs ds gs → FieldsReceived T U fs cs gs
skipped_received here none r = r
skipped_received (past {c = c} l s) none r = absent (none c.stream l) (skipped_received s none r)

none_received : {T U : Table} (cs : List CommonField) → FieldsReceived T U no_field cs no_field
none_received [] = no_more
none_received (c ∷ cs) = absent (λ v h. elim h [ ]) (none_received cs)

-- those behind a field that isn't common have greater numbers
pub rise_past : (n i : ℕ) (cs : List CommonField) → RiseFrom n (drop i cs)
    → ((c : CommonField) → slice_get cs i ≡ Some c → c.stream ≢ n) → RiseFrom (n + 1) (drop i cs)
rise_past n zero [] r other = tt
rise_past n zero (c ∷ cs) r other =
    let ne = other c refl in let l = r.0 in (omega arith, r.1)
rise_past n (suc i) [] r other = tt
rise_past n (suc i) (c ∷ cs) r other = rise_past n i cs r other

-- a value of the type that stands at the front of a piece, of which nothing is received
pub record StandsTyped (T : Table) (t : TypeId) (limit : ℕ) (piece rest : List ℕ) : Type 0 where
  pub value : Tree
  pub bytes : List ℕ
  pub spelled : Spells T t value bytes
  pub within : depth value ≤ limit
  pub whole : piece ≡ bytes ++ rest

pub stands_typed : {T : Table} {t : TypeId} {limit : ℕ} (body : List ℕ) (at end : ℕ)
    → StandsEach T t limit 1 body at end → HoldsBetween (StandsTyped T t limit) body at end
stands_typed {limit = limit} body at end s =
    let v = one_value limit s.spelled s.counted s.within in
    record {
      order = s.order;
      inside = s.inside;
      begins = record {
        value = v.value;
        bytes = take (end - at) (drop at body);
        spelled = v.spelled;
        within = v.within;
        whole = split_at body at end s.order;
      };
    }

module _ (T U : Table) (types : List Field) (limit : ℕ) where
  pub fields_end_given : (cs : List CommonField) (next wanted n : ℕ) (old new : List ℕ) → n ≡ 0
      → Appends (IsUnsigned 0) old new → (x y : List ℕ) → BeginsThisNumber n x y
      → GivesFields T U types cs next wanted limit old new x y
  fields_end_given cs next wanted n old new none a x y p = record {
    values = no_field;
    made = no_field;
    bytes = p.bytes;
    added = a.bytes;
    spelled = end_of_fields (subst (λ k. IsUnsigned k p.bytes) none p.spelled);
    within = omega arith;
    received = none_received cs;
    written = written.end_of_fields a.spelled;
    whole = p.whole;
    out = a.appended;
  }

  module _ (next delta number : ℕ) (type : Field) (some : 0 < delta) (is : number + 1 ≡ next + delta)
      (there : slice_get types number ≡ Some type) where
    pub field_given : (c : CommonField) (cs ds : List CommonField) (wanted : ℕ) (old mid late new : List ℕ)
        → type.id ≡ c.pair.stream → Skips number cs (c ∷ ds) → RiseFrom number (c ∷ ds) → c.stream ≡ number
        → wanted ≤ c.wanted → c.wanted + 1 < 2 ^ 64 → Appends (IsUnsigned (c.wanted + 1 - wanted)) old mid
        → (x a y z : List ℕ) → BeginsThisNumber delta x a → GivesTyped T U c.pair limit mid late a y
        → GivesFields T U types ds (number + 1) (c.wanted + 1) limit late new y z
        → GivesFields T U types cs next wanted limit old new x z
    field_given c cs ds wanted old mid late new typed skips rise same l small d x a y z p q r =
        let u = q.within in
        let v = r.within in
        let up : delta ≡ number + 1 - next = omega arith in
        let behind : RiseFrom (number + 1) ds = subst (λ n. RiseFrom (n + 1) ds) same rise.1 in
        record {
          values = field number q.value r.values;
          made = field c.wanted q.made r.made;
          bytes = p.bytes ++ (q.bytes ++ r.bytes);
          added = d.bytes ++ (q.added ++ r.added);
          spelled = next_field (omega arith) there (subst (λ k. IsUnsigned k p.bytes) up p.spelled)
              (subst (λ t. Spells T t q.value q.bytes) (sym typed) q.spelled) r.spelled;
          within = omega arith;
          received = skipped_received skips (below_absent r.spelled)
              (present (subst (λ n. IsPresent n q.value (field number q.value r.values)) (sym same) first) small
              q.received (received_behind behind r.received));
          written = written.next_field l d.spelled q.written r.written;
          whole = whole_of_two p.bytes (q.bytes ++ r.bytes) z p.whole (whole_of_two q.bytes r.bytes z q.whole r.whole);
          out = out_of_two old d.bytes (q.added ++ r.added) d.appended (out_of_two mid q.added r.added q.out r.out);
        }

    pub field_skipped : (cs ds : List CommonField) (wanted : ℕ) (old new : List ℕ) → Skips number cs ds
        → RiseFrom (number + 1) ds → (x a y z : List ℕ) → BeginsThisNumber delta x a
        → StandsTyped T type.id limit a y → GivesFields T U types ds (number + 1) wanted limit old new y z
        → GivesFields T U types cs next wanted limit old new x z
    field_skipped cs ds wanted old new skips rise x a y z p q r =
        let u = q.within in
        let v = r.within in
        let up : delta ≡ number + 1 - next = omega arith in
        record {
          values = field number q.value r.values;
          made = r.made;
          bytes = p.bytes ++ (q.bytes ++ r.bytes);
          added = r.added;
          spelled = next_field (omega arith) there (subst (λ k. IsUnsigned k p.bytes) up p.spelled) q.spelled r.spelled;
          within = omega arith;
          received = skipped_received skips (below_absent r.spelled) (received_behind rise r.received);
          written = r.written;
          whole = whole_of_two p.bytes (q.bytes ++ r.bytes) z p.whole (whole_of_two q.bytes r.bytes z q.whole r.whole);
          out = r.out;
        }

struct_inside : {fs gs : List Field} → kind.Struct fs ≡ kind.Struct gs → fs ≡ gs
struct_inside e = cc

-- ---- fields by their places

-- each place has at least the number that is next
place_from : {T : Table} {types : List Field} {body : List ℕ} {fs : Fields} {ps : List FieldPlace} {next : ℕ}
    {b : List ℕ} (j : ℕ) {q : FieldPlace} → SpellsFields T types next fs b → ArePlaces T types body fs ps
    → slice_get ps j ≡ Some q → next ≤ q.number
place_from j s no_place there = absurd (true≢false (sym (ap is_some there)))
place_from zero (next_field l t a p ps) (place at is n v r) there =
    let e = ap (λ (p : FieldPlace). p.number) (some_injective there) in omega arith
place_from (suc j) (next_field l t a p ps) (place at is m v r) there =
    let n = place_from j ps r there in omega arith

pub places_rise : {T : Table} {types : List Field} {body : List ℕ} {fs : Fields} {ps : List FieldPlace} {next : ℕ}
    {b : List ℕ} → SpellsFields T types next fs b → ArePlaces T types body fs ps → PlacesRise ps
places_rise s no_place i j p q below one other = absurd (true≢false (sym (ap is_some one)))
places_rise s (place at is l v r) zero zero p q below one other = absurd (omega arith)
places_rise s (place at is l v r) (suc i) zero p q below one other = absurd (omega arith)
places_rise (next_field l t a o ps) (place at is m v r) zero (suc j) p q below one other =
    let n = place_from j ps r other in
    let e = ap (λ (p : FieldPlace). p.number) (some_injective one) in
    omega arith
places_rise (next_field l t a o ps) (place at is m v r) (suc i) (suc j) p q below one other =
    places_rise ps r i j p q (omega arith) one other

-- the value that stands at a place
record PresentAt (T : Table) (types : List Field) (body : List ℕ) (fs : Fields) (p : FieldPlace) : Type 0 where
  value : Tree
  type : Field
  present : IsPresent p.number value fs
  there : slice_get types p.number ≡ Some type
  begins : BeginsValue T type.id value (drop p.at body)

place_present : {T : Table} {types : List Field} {body : List ℕ} {fs : Fields} {ps : List FieldPlace} (k : ℕ)
    {p : FieldPlace} → ArePlaces T types body fs ps → slice_get ps k ≡ Some p → PresentAt T types body fs p
place_present k no_place there = absurd (true≢false (sym (ap is_some there)))
place_present {T = T} {types = types} {body = body} zero (place {f = f} {v = v} {fs = fs} {e = e} at is l s r) there =
    subst (PresentAt T types body (field f v fs)) (some_injective there) (record {
      value = v;
      type = e;
      present = subst (λ n. IsPresent n v (field f v fs)) (sym is) first;
      there = ap (slice_get types) is ∙ at;
      begins = s;
    })
place_present (suc k) (place at is l s r) there =
    let h = place_present k r there in
    record { value = h.value; type = h.type; present = later h.present; there = h.there; begins = h.begins }

place_absent : {T : Table} {types : List Field} {body : List ℕ} {fs : Fields} {ps : List FieldPlace} {n : ℕ}
    → ArePlaces T types body fs ps → LacksPlace ps n → IsAbsent n fs
place_absent no_place lacks v h = elim h [ ]
place_absent (place {p = p} at is l s r) lacks v h = elim (inside h) [
  | inl e ↦ lacks 0 p refl (is ∙ e)
  | inr q ↦ place_absent r (λ k p there. lacks (suc k) p there) v q
]

module _ (T : Table) (types : List Field) (limit : ℕ) (body : List ℕ) where
  pub present_end : (next n : ℕ) (places : List FieldPlace) → n ≡ 0 → (x y : List ℕ) → BeginsThisNumber n x y
      → StandPresent T types limit body next places places x y
  present_end next n places none x y p = record {
    values = no_field;
    bytes = p.bytes;
    places = [];
    spelled = end_of_fields (subst (λ k. IsUnsigned k p.bytes) none p.spelled);
    within = omega arith;
    stand = no_place;
    whole = p.whole;
    grown = sym (append-nil places);
  }

  pub present_more : (next delta number : ℕ) (type : Field) → 0 < delta → number + 1 ≡ next + delta
      → slice_get types number ≡ Some type → (at : ℕ) (old mid new : List FieldPlace) → at ≤ length body
      → mid ≡ old ++ record { number = number; at = at } ∷ [] → (x a y z : List ℕ) → BeginsThisNumber delta x a
      → (a ≡ drop at body) × StandsTyped T type.id limit a y
      → StandPresent T types limit body (number + 1) mid new y z → StandPresent T types limit body next old new x z
  present_more next delta number type some is there at old mid new inside kept x a y z p at_place r =
      let q = at_place.1 in
      let u = q.within in
      let v = r.within in
      let up : delta ≡ number + 1 - next = omega arith in
      let one : FieldPlace = record { number = number; at = at } in
      record {
        values = field number q.value r.values;
        bytes = p.bytes ++ (q.bytes ++ r.bytes);
        places = one ∷ r.places;
        spelled = next_field (omega arith) there (subst (λ k. IsUnsigned k p.bytes) up p.spelled) q.spelled r.spelled;
        within = omega arith;
        stand = place there refl inside (record {
          bytes = q.bytes;
          rest = y;
          spelled = q.spelled;
          whole = sym at_place.0 ∙ q.whole;
        }) r.stand;
        whole = whole_of_two p.bytes (q.bytes ++ r.bytes) z p.whole (whole_of_two q.bytes r.bytes z q.whole r.whole);
        grown = r.grown ∙ ap (λ l. l ++ r.places) kept ∙ append_assoc old (one ∷ []) r.places;
      }

pub stands_here : {T : Table} {t : TypeId} {limit : ℕ} (body : List ℕ) (at end : ℕ) → StandsEach T t limit 1 body at end
    → HoldsBetween (λ x y. (x ≡ drop at body) × StandsTyped T t limit x y) body at end
stands_here body at end s =
    let q = stands_typed body at end s in
    record { order = q.order; inside = q.inside; begins = (refl, q.begins) }

module _ {T U : Table} {types : List Field} {body : List ℕ} (values : Fields) {ps : List FieldPlace}
    (stand : ArePlaces T types body values ps) where
  pub common_absent : (c : CommonField) {cs : List CommonField} {wanted : ℕ} {old new : List ℕ}
      → LacksPlace ps c.stream → GivesCommon T U values cs wanted old new
      → GivesCommon T U values (c ∷ cs) wanted old new
  common_absent c lacks r = record {
    made = r.made;
    added = r.added;
    received = absent (place_absent stand lacks) r.received;
    written = r.written;
    out = r.out;
  }

  pub common_given : (c : CommonField) {cs : List CommonField} {wanted at end limit : ℕ} {old mid late new : List ℕ}
      {type : Field} → HasPlace ps c.stream at → slice_get types c.stream ≡ Some type → type.id ≡ c.pair.stream
      → wanted ≤ c.wanted → c.wanted + 1 < 2 ^ 64 → Appends (IsUnsigned (c.wanted + 1 - wanted)) old mid
      → HoldsBetween (GivesTyped T U c.pair limit mid late) body at end
      → GivesCommon T U values cs (c.wanted + 1) late new → GivesCommon T U values (c ∷ cs) wanted old new
  common_given c {at = at} {old = old} {mid = mid} {type = type} has there typed l small d s r =
      let h = place_present has.index stand has.there in
      let q = s.begins in
      let same_type : h.type ≡ type = some_injective (sym h.there ∙ ap (slice_get types) has.numbered ∙ there) in
      let begins : BeginsValue T c.pair.stream h.value (drop at body) =
      subst (λ t. BeginsValue T t h.value (drop at body)) (ap (λ (f : Field). f.id) same_type ∙ typed)
      (subst (λ at. BeginsValue T h.type.id h.value (drop at body)) has.is h.begins) in
      let same = same_spelling begins.rest _ begins.spelled q.spelled (sym begins.whole ∙ q.whole) in
      record {
        made = field c.wanted q.made r.made;
        added = d.bytes ++ (q.added ++ r.added);
        received = present (subst (λ n. IsPresent n h.value values) has.numbered h.present) small
            (subst (λ v. IsReceived T U c.pair v q.made) (sym same.value) q.received) r.received;
        written = written.next_field l d.spelled q.written r.written;
        out = out_of_two old d.bytes (q.added ++ r.added) d.appended (out_of_two mid q.added r.added q.out r.out);
      }

pub common_end : {T U : Table} (values : Fields) {wanted : ℕ} {old new : List ℕ} → Appends (IsUnsigned 0) old new
    → GivesCommon T U values [] wanted old new
common_end values a = record {
  made = no_field;
  added = a.bytes;
  received = no_more;
  written = written.end_of_fields a.spelled;
  out = a.appended;
}

-- what stands at the places that were kept
pub record Standing (T : Table) (types : List Field) (body : List ℕ) (places : List FieldPlace) : Type 0 where
  pub values : Fields
  pub bytes : List ℕ
  pub spelled : SpellsFields T types 0 values bytes
  pub stand : ArePlaces T types body values places

pub standing : {T : Table} {types : List Field} {limit : ℕ} {body : List ℕ} {at end : ℕ} {none places : List FieldPlace}
    → HoldsBetween (StandPresent T types limit body 0 none places) body at end → none ≡ []
    → Standing T types body places
standing {T = T} {types = types} {body = body} s empty =
    let q = s.begins in
    let all = q.grown ∙ ap (λ l. l ++ q.places) empty in
    record {
      values = q.values;
      bytes = q.bytes;
      spelled = q.spelled;
      stand = subst (ArePlaces T types body q.values) (sym all) q.stand;
    }

pub has_inside : {T : Table} {types : List Field} {body : List ℕ} {ps : List FieldPlace} {n at : ℕ}
    → Standing T types body ps → HasPlace ps n at → at ≤ length body
has_inside {T = T} {types = types} {body = body} s h =
    subst (λ at. at ≤ length body) h.is (by h.index s.stand h.there)
  where
    by : {T : Table} {types : List Field} {body : List ℕ} {fs : Fields} {ps : List FieldPlace} (k : ℕ) {p : FieldPlace}
        → ArePlaces T types body fs ps → slice_get ps k ≡ Some p → p.at ≤ length body
    by k no_place there = absurd (true≢false (sym (ap is_some there)))
    by {body = body} zero (place at is l v r) there =
        subst (λ (p : FieldPlace). p.at ≤ length body) (some_injective there) l
    by (suc k) (place at is l v r) there = by k r there

-- the places are those of a struct, and of its values so much is received
pub reordered_given : {T U : Table} {types : List Field} {common : List CommonField} {limit : ℕ} {body : List ℕ}
    {at end : ℕ} {places : List FieldPlace} {none : List FieldPlace} {old new : List ℕ}
    → HoldsBetween (StandPresent T types limit body 0 none places) body at end → none ≡ []
    → ((values : Fields) → ArePlaces T types body values places → GivesCommon T U values common 0 old new)
    → HoldsBetween (GivesFields T U types common 0 0 limit old new) body at end
reordered_given {T = T} {types = types} {body = body} s empty f =
    let q = s.begins in
    let all = q.grown ∙ ap (λ l. l ++ q.places) empty in
    let r = f q.values (subst (ArePlaces T types body q.values) (sym all) q.stand) in
    record {
      order = s.order;
      inside = s.inside;
      begins = record {
        values = q.values;
        made = r.made;
        bytes = q.bytes;
        added = r.added;
        spelled = q.spelled;
        within = q.within;
        received = r.received;
        written = r.written;
        whole = q.whole;
        out = r.out;
      };
    }

-- each common field is one of the struct's, and leads to a pair of the match
module _ {T U : Table} {found : List Entry} {conversions : List Conversion} {p : TypePair} {w : Conversion} where
  pub fields_lead : {cs : Vec CommonField Global} {types : List Field} {common : List CommonField} {s : Shape}
      → w ≡ conversion.Fields cs → common ≡ cs.items → IsOfMatch T U found conversions p → ConvertsAt T U p w
      → shape_of T p.stream ≡ Some s → s.kind ≡ kind.Struct types → (i : ℕ) (f : CommonField)
      → slice_get common i ≡ Some f → IsReceivableField T U found conversions types f
  fields_lead {cs = cs} {types = types} is same m c known struct i f there =
      let at = subst (ConvertsAt T U p) is c in
      let here : slice_get cs.items i ≡ Some f = subst (λ l. slice_get l i ≡ Some f) same there in
      let r = sound at.converts.conversion (sym struct ∙ known_kind at known) i f here in
      record {
        pair = leads_on (step.Named f.name) m at (record
            { place = i; field = f; there = here; step = refl; pair = refl });
        type = r.0;
        there = r.1;
        typed = r.2;
        small = r.3;
      }
    where
      sound : {k l : Kind} {cs : Vec CommonField Global} {types : List Field} → IsConversion k l (conversion.Fields cs)
          → kind.Struct types ≡ k → (i : ℕ) (f : CommonField) → slice_get cs.items i ≡ Some f
          → (type : Field) × (slice_get types f.stream ≡ Some type) × (type.id ≡ f.pair.stream)
          × (f.wanted + 1 < 2 ^ 64)
      sound (kept.of_structs a) e i f there =
          let r = common_sound a i f there in (
            r.in_stream,
            ap (λ l. slice_get l f.stream) (struct_inside e) ∙ r.there,
            ap (λ q. q.stream) (sym r.typed),
            r.small,
          )

-- ---- the value behind its tag

has_struct : {k l : Kind} {cs : Vec CommonField Global} → IsConversion k l (conversion.Fields cs)
    → IsStruct k × IsStruct l
has_struct (kept.of_structs a) = (tt, tt)

-- what is received, as the wanted type spells it
made_spelled : {T U : Table} {p : TypePair} {limit : ℕ} {old new x y : List ℕ}
    (q : GivesTyped T U p limit old new x y) → Spells U p.wanted q.made q.added
made_spelled {U = U} {p = p} q =
    let f = received_fits q.spelled q.received.receives q.received.small in
    subst (Spells U p.wanted q.made) (written_once (spells_written f.spelled) q.written) f.spelled

pub struct_top : {T U : Table} {p : TypePair} {w : Conversion} {cs : Vec CommonField Global} {limit : ℕ}
    {old new x y : List ℕ} → w ≡ conversion.Fields cs → ConvertsAt T U p w → GivesTyped T U p limit old new x y
    → GivesTop T U p.stream p.wanted limit old new x y
struct_top {T = T} {U = U} {p = p} is c q =
    let at = subst (ConvertsAt T U p) is c in
    let s = has_struct at.converts.conversion in
    record {
      value = q.value;
      made = q.made;
      bytes = q.bytes;
      added = q.added;
      spelled = at_once at.shapes.stream s.0 q.spelled;
      within = q.within;
      receives = q.received.receives;
      made_spelled = at_once at.shapes.wanted s.1 (made_spelled q);
      whole = q.whole;
      out = q.out;
    }

-- the conversion of a pair of structs
abbrev pub IsOfStructs : Conversion → Type 0
IsOfStructs (conversion.Fields cs) = Unit {0}
IsOfStructs _ = ⊥

no_struct : {k l : Kind} {w : Conversion} → IsConversion k l w → ¬ IsOfStructs w → ¬ IsStruct k × ¬ IsStruct l
no_struct kept.of_basics n = (λ h. h, λ h. h)
no_struct kept.of_opaques n = (λ h. h, λ h. h)
no_struct kept.of_arrays n = (λ h. h, λ h. h)
no_struct kept.of_slices n = (λ h. h, λ h. h)
no_struct kept.of_maps n = (λ h. h, λ h. h)
no_struct (kept.of_structs a) n = absurd (n tt)

pub tagged_top : {T U : Table} {p : TypePair} {w : Conversion} {limit : ℕ} {old mid new x y z : List ℕ}
    → ¬ IsOfStructs w → ConvertsAt T U p w → mid ≡ old ++ 0 ∷ [] → x ≡ 0 ∷ y → GivesTyped T U p limit mid new y z
    → GivesTop T U p.stream p.wanted limit old new x z
tagged_top {old = old} n c grown tag q =
    let s = no_struct c.converts.conversion n in
    record {
      value = q.value;
      made = q.made;
      bytes = 0 ∷ q.bytes;
      added = 0 ∷ q.added;
      spelled = tagged c.shapes.stream s.0 q.spelled;
      within = q.within;
      receives = q.received.receives;
      made_spelled = tagged c.shapes.wanted s.1 (made_spelled q);
      whole = tag ∙ ap (λ l. 0 ∷ l) q.whole;
      out = out_of_two old (0 ∷ []) q.added grown q.out;
    }

no_fields : (w : Conversion) → ((cs : Vec CommonField Global) → w ≡ conversion.Fields cs → ⊥) → ¬ IsOfStructs w
no_fields (conversion.Fields cs) n h = n cs refl
no_fields conversion.Unchanged n h = h
no_fields (conversion.Elements e) n h = h
no_fields (conversion.Entries k e) n h = h

pub top_behind : {T U : Table} {p : TypePair} {w : Conversion} {limit : ℕ} {old mid new : List ℕ} (body : List ℕ)
    (end : ℕ) → ((cs : Vec CommonField Global) → w ≡ conversion.Fields cs → ⊥) → ConvertsAt T U p w
    → mid ≡ old ++ 0 ∷ [] → slice_get body 0 ≡ Some 0 → HoldsBetween (GivesTyped T U p limit mid new) body 1 end
    → HoldsBetween (GivesTop T U p.stream p.wanted limit old new) body 0 end
top_behind {w = w} body end n c grown tag s = record {
  order = omega arith;
  inside = s.inside;
  begins = tagged_top (no_fields w n) c grown (drop_at body 0 0 tag) s.begins;
}

pub whole_received : {T U : Table} {t u : TypeId} {most limit : ℕ} {old new : List ℕ} (body : List ℕ) (end : ℕ)
    → most ≤ limit → end ≡ length body → old ≡ [] → HoldsBetween (GivesTop T U t u most old new) body 0 end
    → ReceivesWhole T U t u limit body new
whole_received {T = T} {U = U} {t = t} {u = u} body end l ends empty s =
    let q = s.begins in
    let none = drop_all end body (omega arith) in
    let all : body ≡ q.bytes = q.whole ∙ ap (λ r. q.bytes ++ r) none ∙ append-nil q.bytes in
    let made = no_deeper q.receives in
    let v = q.within in
    record {
      value = q.value;
      spelled = subst (SpellsTop T t q.value) (sym all) q.spelled;
      within = omega arith;
      made = q.made;
      receives = q.receives;
      made_spelled = subst (SpellsTop U u q.made) (sym (q.out ∙ ap (λ l. l ++ q.added) empty)) q.made_spelled;
      made_within = omega arith;
    }

-- ---- what a conversion leads to

module _ {T U : Table} {found : List Entry} {conversions : List Conversion} {p : TypePair} {w : Conversion}
    (m : IsOfMatch T U found conversions p) (c : ConvertsAt T U p w) where
  pub elements_lead : {e : TypePair} → w ≡ conversion.Elements e → IsOfMatch T U found conversions e
  elements_lead is = leads_on step.Element m (subst (ConvertsAt T U p) is c) (refl, refl)

  pub keys_lead : {k e : TypePair} → w ≡ conversion.Entries k e → IsOfMatch T U found conversions k
  keys_lead is = leads_on step.Key m (subst (ConvertsAt T U p) is c) (inl (refl, refl))

  pub entries_lead : {k e : TypePair} → w ≡ conversion.Entries k e → IsOfMatch T U found conversions e
  entries_lead is = leads_on step.Element m (subst (ConvertsAt T U p) is c) (inr (refl, refl))

pub kind_of_fields : (k : Kind) (fs : List Field) → Some fs ≡ fields_named k → k ≡ kind.Struct fs
kind_of_fields (kind.Struct gs) fs e = ap kind.Struct (some_injective (sym e))
kind_of_fields (kind.Basic b) fs e = cc
kind_of_fields (kind.Opaque m) fs e = cc
kind_of_fields (kind.Array t n) fs e = cc
kind_of_fields (kind.Slice t) fs e = cc
kind_of_fields (kind.Map k t) fs e = cc

-- an answer of a place, if any
pub if_some : {A : Type 0} {P Q : A → Type 0} (r : Option A) → ((x : A) → P x → Q x) → IfSome r P → IfSome r Q
if_some None f p = tt
if_some (Some x) f p = f x p
