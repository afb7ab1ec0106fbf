-- The lines of parts that were printed while their item was read.
use Rattle.std.proofs.Common.{◌≡◌, ◌≢◌, ◌⊎◌, inl, inr, zero, suc, ℕ, pos, ◌+◌, ◌-◌}
use Rattle.std.proofs.Common.{◌<◌, ◌≤◌, Bool, true, false, List, [], ◌∷◌, ◌++◌, length, take, drop}
use Rattle.std.proofs.Common.{Option, Some, None, is_some, arith, refl, sym, ap, ◌∙◌, subst, append_assoc}
use Rattle.std.proofs.Common.{◌^◌, append-nil, length-append, min, take-append-drop}
use Rattle.std.proofs.Math.Nat.{eq-or-lt_of_le}
use Rattle.std.proofs.Math.Seq.{drop-append_seam, take-append-add}
use Rattle.std.proofs.lemmas.List.{append_cancel_right, drop-append-le, drop-drop, length-drop, take_all}
use Rattle.gob_num.specs.Unsigned.{AreBytes, IsUnsigned}
use Rattle.gob_num.specs.Signed.{IsSigned}
use Rattle.gob_num.proofs.PublicLaws.{bytes_rest, unsigned_prefix}
use Rattle.gob_types.specs.Base.{base_table}
use Rattle.gob_types.specs.Defined.{types}
use Rattle.gob_types.specs.Table.{Table}
use Rattle.gob_types.specs.declared.id.TypeId.{TypeId}
use Rattle.gob_types.specs.declared.kind.Kind.{Kind}
use Rattle.gob_types.specs.declared.kind.Kind.TheVariants as kind
use Rattle.gob_types.specs.declared.kind.Shape.{Shape}
use Rattle.gob_types.proofs.PublicLaws.{some_injective}
use Rattle.gob_value.specs.Spelling.{SpellsAs, SpellsEach, SpellsPairs, element, entry, no_element, no_entry}
use Rattle.gob_value.specs.Spelling.{of_array, of_bool, of_bytes, of_complex, of_float, of_int, of_map, of_nil}
use Rattle.gob_value.specs.Spelling.{of_opaque, of_slice, of_struct, of_text, of_type, of_uint}
use Rattle.gob_value.specs.Top.{IsStruct, SpellsTop, at_once, tagged}
use Rattle.gob_value.specs.Tree.{Pairs, Tree, Trees, depth, many, no_pair, no_tree, pair, pair_count, pairs_depth, tree}
use Rattle.gob_value.specs.Tree.{tree_count, trees_depth}
use Rattle.gob_value.specs.Tree as value
use Rattle.gob_value.proofs.PublicLaws.{same_spelling, same_top}
use Rattle.gob_stream.specs.Body.{MayPut}
use Rattle.gob_stream.specs.Bounds.{Bounds, within_trees}
use Rattle.gob_stream.specs.Calls.ReaderOf.{HasReadBy, StepsOnBy, waits_in}
use Rattle.gob_stream.specs.Stepping.{GivesItemsOf, gives_none, gives_one}
use Rattle.gob_stream.specs.declared.session.Advance.{Advance}
use Rattle.gob_stream.specs.Grammar.{BeginsIn}
use Rattle.gob_stream.specs.declared.reader_of.ReaderOf.{ReaderOf}
use Rattle.gob_stream.proofs.Reader.ReaderOfLaws.{read_so}
use Rattle.gob_filled.specs.Filled.{filled, no_filling}
use Rattle.gob_filled.specs.Outcome.{profile}
use Rattle.gob_filled.specs.Stream.{FilledItem, IsFilledItem, putting}
use Rattle.gob_go.specs.Calls.Reader.{session_of}
use Rattle.gob_go.specs.Calls.Session.{IsBetweenItems, StandsAfter, limits_of, taken_of, types_of}
use Rattle.gob_go.specs.GoStepping.{nothing_meant, passing_stepping}
use Rattle.gob_go.specs.Machine.SessionState.{SessionState}
use Rattle.gob_go.specs.declared.item.GoItem.{GoItem}
use Rattle.gob_go.proofs.FinishSteps.{count_begins_here}
use Rattle.gob_go.proofs.ItemsLaws.{last_of, one_reading}
use Rattle.gob_go.proofs.SessionAnswers.{table_between}
use Rattle.gob_plain.specs.Filled.{SaysValue}
use Rattle.gob_plain.specs.declared.style.Style.{Style}
use Rattle.gob_plain.proofs.PublicLaws.{says_unfilled}
use Rattle.gob_views.specs.Each.{BeginsWithParts, IsBegunText, parts_begun}
use Rattle.gob_views.specs.Machine.PartLines.{AreParts, EndInParts, HasParts, IsMapType, IsSliceType, PrintsEach}
use Rattle.gob_views.specs.Machine.PartLines.{SaysLines}
use Rattle.gob_views.specs.Machine.PartStream.{HasBegunParts, HasPrinted, IsBare, IsMore, IsUnfilledLine}
use Rattle.gob_views.specs.Machine.PartStream.{PrintsRest, PrintsSome, TakesOn}
use Rattle.gob_views.specs.Values.{IsPlainLine, IsStyleOf, is_shown}
use Rattle.gob_views.specs.declared.body_lines.PartTypes.{PartTypes}
use Rattle.gob_views.specs.declared.body_lines.PartTypes.TheVariants as part
use Rattle.gob_views.specs.declared.body_lines.PartsAhead.{PartsAhead}
use Rattle.gob_views.specs.declared.part_stream.BegunParts.{BegunParts}
use Rattle.gob_views.specs.declared.value_line.ValueLines.{ValueLines}
use Rattle.gob_views.proofs.BareLaws.{BareItem, bare_item, stage_bare}
use Rattle.gob_views.proofs.PartLineLaws.{all_parts, both_pairs, both_trees, count_both, counts, elements_are}
use Rattle.gob_views.proofs.PartLineLaws.{AreMade, entries_are, no_parts, pair_count_both}
use Rattle.gob_views.proofs.PartLineLaws.{parts_then}

-- ---- where a session stands

abbrev Reader : Type 0
Reader = ReaderOf SessionState GoItem

-- what waits, and what is left of the input, are behind the bytes that were taken
pub record KnownBehind (r : Reader) (now : Option (List ℕ)) (bytes taken : List ℕ) : Type 0 where
  pub left : List ℕ
  pub known : now ≡ Some left
  pub whole : bytes ≡ taken ++ (waits_in r ++ left)
  pub behind : drop (taken_of (session_of r)) bytes ≡ waits_in r ++ left
  pub all : bytes ≡ taken ++ drop (taken_of (session_of r)) bytes

pub dropped : (n : ℕ) (bytes taken rest : List ℕ) → n ≡ length taken → bytes ≡ taken ++ rest → drop n bytes ≡ rest
dropped n bytes taken rest size whole =
    ap (λ (l : List ℕ). drop n l) whole ∙ ap (λ (k : ℕ). drop k (taken ++ rest)) size ∙ drop-append_seam taken rest

pub known_behind : {r : Reader} {read now : Option (List ℕ)} {given : List FilledItem} (bytes : List ℕ)
    → (h : HasReadBy passing_stepping r read now given) → read ≡ Some bytes → KnownBehind r now bytes h.taken
known_behind {r = r} bytes h known =
    let t = read_so passing_stepping bytes h known in
    let whole = t.whole ∙ append_assoc h.taken (waits_in r) t.left in
    let behind = dropped (taken_of (session_of r)) bytes h.taken (waits_in r ++ t.left) h.gave.taken whole in
    record {
      left = t.left;
      known = t.known;
      whole = whole;
      behind = behind;
      all = whole ∙ ap (λ (l : List ℕ). h.taken ++ l) (sym behind);
    }

-- the items before begin the bytes, and this is behind them
pub record Front (L : Bounds) (T : Table) (given : List FilledItem) (bytes z : List ℕ) : Type 0 where
  pub begins : BeginsIn profile L bytes given
  pub rest_is : begins.rest ≡ z
  pub table_is : begins.table ≡ T

pub front : {keep : Bool} {s : SessionState} {given : List FilledItem} {taken : List ℕ} (bytes : List ℕ)
    → StandsAfter keep s given taken → IsBetweenItems s → bytes ≡ taken ++ drop (taken_of s) bytes
    → Front (within_trees (limits_of s)) (types_of s) given bytes (drop (taken_of s) bytes)
front {s = s} bytes a between all =
    let none : a.under_way ≡ [] = count_begins_here a between refl in
    record {
      begins = record {
        prefix = a.prefix;
        rest = drop (taken_of s) bytes;
        table = a.table;
        stream = a.stream;
        whole = all ∙ ap (λ (l : List ℕ). l ++ drop (taken_of s) bytes) (a.whole
            ∙ ap (λ (l : List ℕ). a.prefix ++ l) none ∙ append-nil a.prefix);
      };
      rest_is = refl;
      table_is = table_between a between;
    }

-- ---- one item further

-- within an item that nothing fills the types are those in front of it
pub same_types : {keep : Bool} {q : SessionState} {T : Table} {given : List FilledItem} {t : TypeId} {m : ℕ}
    {bytes z item number taken : List ℕ} → Front (within_trees (limits_of q)) T given bytes z → IsBare T t
    → IsUnsigned m item → IsSigned (pos t.0) number → StandsAfter keep q given taken → (y rest : List ℕ)
    → bytes ≡ taken ++ y → z ≡ item ++ (number ++ rest) → types_of q ≡ T
same_types {T = T} {t = t} f bare u names a y rest all begins =
    let b = f.begins in
    let one = one_reading (a.under_way ++ y) b.rest a.stream b.stream
    (sym (append_assoc a.prefix a.under_way y) ∙ ap (λ (l : List ℕ). l ++ y) (sym a.whole) ∙ sym all ∙ b.whole) in
    let table : a.table ≡ T = one.table ∙ f.table_is in
    stage_bare (subst (λ (T : Table). IsBare T t) (sym table) bare) u names y rest a.stage
    (one.rest ∙ f.rest_is ∙ begins) ∙ table

-- the item that was read is such a value
pub item_so : {keep : Bool} {q : SessionState} {T : Table} {given : List FilledItem} {i : FilledItem} {t : TypeId}
    {m : ℕ} {bytes z item number rest taken : List ℕ} → Front (within_trees (limits_of q)) T given bytes z → IsBare T t
    → IsUnsigned m item → IsSigned (pos t.0) number → MayPut T t → StandsAfter keep q (given ++ i ∷ []) taken
    → IsBetweenItems q → (y : List ℕ) → bytes ≡ taken ++ y → z ≡ item ++ (number ++ rest)
    → (x : List ℕ) × BareItem (within_trees (limits_of q)) T (types_of q) t i item number x rest y
item_so {q = q} {T = T} {given = given} {i = i} {t = t} f bare u names may a between y all begins =
    let none : a.under_way ≡ [] = count_begins_here a between refl in
    let taken = a.whole ∙ ap (λ (l : List ℕ). a.prefix ++ l) none ∙ append-nil a.prefix in
    let l = last_of given a.stream in
    let b = f.begins in
    let one = one_reading (l.bytes ++ y) b.rest l.items_are b.stream
    (sym (append_assoc l.before l.bytes y) ∙ ap (λ (b : List ℕ). b ++ y) (sym (taken ∙ l.whole)) ∙ sym all ∙ b.whole) in
    let table : l.table ≡ T = one.table ∙ f.table_is in
    let own = bytes_rest l.before l.bytes (subst AreBytes (taken ∙ l.whole) a.are_bytes) in
    let is = subst (λ (T : Table). IsFilledItem base_table (within_trees (limits_of q)) T (0 + length l.before) i
    l.bytes a.table) table l.item in (
      l.bytes,
      subst (λ (U : Table). BareItem (within_trees (limits_of q)) T U t i _ _ l.bytes _ y) (table_between a between)
          (bare_item bare u names may _ y own is (one.rest ∙ f.rest_is ∙ begins)),
    )

-- ---- the parts of the value
pub record AllElements (T : Table) (e : TypeId) (v : Tree) (count : ℕ) (bytes : List ℕ) : Type 0 where
  pub values : Trees
  pub is : v ≡ many values
  pub spelled : SpellsEach T e values bytes
  pub counted : tree_count values ≡ count

pub record AllEntries (T : Table) (k e : TypeId) (v : Tree) (count : ℕ) (bytes : List ℕ) : Type 0 where
  pub values : Pairs
  pub is : v ≡ value.pairs values
  pub spelled : SpellsPairs T k e values bytes
  pub counted : pair_count values ≡ count

abbrev pub AllOf : Table → PartTypes → Tree → (count : ℕ) → List ℕ → Type 0
AllOf T (part.Element e) v count bytes = AllElements T e v count bytes
AllOf T (part.Entry k e) v count bytes = AllEntries T k e v count bytes

-- the bytes of the body behind its tag and the count
pub record InBody (T : Table) (p : PartTypes) (v : Tree) (count : ℕ) (body counted behind more : List ℕ) : Type 0 where
  pub bytes : List ℕ
  pub all : AllOf T p v count bytes
  pub whole : body ≡ 0 ∷ (counted ++ bytes)
  pub rest : behind ≡ bytes ++ more

tail_is : {x y : ℕ} {b c : List ℕ} → x ∷ b ≡ y ∷ c → b ≡ c
tail_is e = cc

module _ {T : Table} {count : ℕ} {counted behind more : List ℕ} (u : IsUnsigned count counted) where
  slice_body : {e : TypeId} {k : Kind} {v : Tree} {b : List ℕ} → SpellsAs T k v b → k ≡ kind.Slice e
      → b ++ more ≡ counted ++ behind → InBody T (part.Element e) v count (0 ∷ b) counted behind more
  slice_body {e = e} (of_slice {e = d} {vs = vs} {c = c} {b = b} n s) is h =
      let r = unsigned_prefix (b ++ more) behind n u (sym (append_assoc c b more) ∙ h) in
      record {
        bytes = b;
        all = record {
          values = vs;
          is = refl;
          spelled = subst (λ (d : TypeId). SpellsEach T d vs b) (elem is) s;
          counted = r.value;
        };
        whole = ap (λ (l : List ℕ). 0 ∷ (l ++ b)) r.bytes;
        rest = sym r.rest;
      }
    where
      elem : {d e : TypeId} → kind.Slice d ≡ kind.Slice e → d ≡ e
      elem e = cc
  slice_body (of_bool n) is h = absurd (cc)
  slice_body (of_int n) is h = absurd (cc)
  slice_body (of_uint n) is h = absurd (cc)
  slice_body (of_float n) is h = absurd (cc)
  slice_body (of_complex n w) is h = absurd (cc)
  slice_body (of_nil n) is h = absurd (cc)
  slice_body (of_bytes n) is h = absurd (cc)
  slice_body (of_text n) is h = absurd (cc)
  slice_body (of_opaque n) is h = absurd (cc)
  slice_body (of_array c n p) is h = absurd (cc)
  slice_body (of_map n p) is h = absurd (cc)
  slice_body (of_struct p) is h = absurd (cc)

  map_body : {d e : TypeId} {k : Kind} {v : Tree} {b : List ℕ} → SpellsAs T k v b → k ≡ kind.Map d e
      → b ++ more ≡ counted ++ behind → InBody T (part.Entry d e) v count (0 ∷ b) counted behind more
  map_body {d = d} {e = e} (of_map {k = k} {e = f} {ps = ps} {c = c} {b = b} n s) is h =
      let r = unsigned_prefix (b ++ more) behind n u (sym (append_assoc c b more) ∙ h) in
      record {
        bytes = b;
        all = record {
          values = ps;
          is = refl;
          spelled = subst (λ (f : TypeId). SpellsPairs T d f ps b) (elem is)
              (subst (λ (k : TypeId). SpellsPairs T k f ps b) (key is) s);
          counted = r.value;
        };
        whole = ap (λ (l : List ℕ). 0 ∷ (l ++ b)) r.bytes;
        rest = sym r.rest;
      }
    where
      key : {k d f e : TypeId} → kind.Map k f ≡ kind.Map d e → k ≡ d
      key e = cc

      elem : {k d f e : TypeId} → kind.Map k f ≡ kind.Map d e → f ≡ e
      elem e = cc
  map_body (of_bool n) is h = absurd (cc)
  map_body (of_int n) is h = absurd (cc)
  map_body (of_uint n) is h = absurd (cc)
  map_body (of_float n) is h = absurd (cc)
  map_body (of_complex n w) is h = absurd (cc)
  map_body (of_nil n) is h = absurd (cc)
  map_body (of_bytes n) is h = absurd (cc)
  map_body (of_text n) is h = absurd (cc)
  map_body (of_opaque n) is h = absurd (cc)
  map_body (of_array c n p) is h = absurd (cc)
  map_body (of_slice n p) is h = absurd (cc)
  map_body (of_struct p) is h = absurd (cc)

module _ {T : Table} {t : TypeId} {count : ℕ} {counted behind more : List ℕ} (u : IsUnsigned count counted) where
  slice_top : {e : TypeId} {v : Tree} {b : List ℕ} → IsSliceType T t e → SpellsTop T t v b
      → b ++ more ≡ 0 ∷ (counted ++ behind) → InBody T (part.Element e) v count b counted behind more
  slice_top l (at_once known is p) h =
      absurd (subst IsStruct (ap (λ (s : Shape). s.kind) (some_injective (sym known ∙ l.known)) ∙ l.is) is)
  slice_top l (tagged known is (of_type {s = s} shape p)) h =
      slice_body u p (ap (λ (s : Shape). s.kind) (some_injective (sym shape ∙ l.known)) ∙ l.is) (tail_is h)

  map_top : {d e : TypeId} {v : Tree} {b : List ℕ} → IsMapType T t d e → SpellsTop T t v b
      → b ++ more ≡ 0 ∷ (counted ++ behind) → InBody T (part.Entry d e) v count b counted behind more
  map_top l (at_once known is p) h =
      absurd (subst IsStruct (ap (λ (s : Shape). s.kind) (some_injective (sym known ∙ l.known)) ∙ l.is) is)
  map_top l (tagged known is (of_type {s = s} shape p)) h =
      map_body u p (ap (λ (s : Shape). s.kind) (some_injective (sym shape ∙ l.known)) ∙ l.is) (tail_is h)

  pub in_body : (p : PartTypes) {v : Tree} {b : List ℕ} → HasParts T t p → SpellsTop T t v b
      → b ++ more ≡ 0 ∷ (counted ++ behind) → InBody T p v count b counted behind more
  in_body (part.Element e) l s h = slice_top l s h
  in_body (part.Entry d e) l s h = map_top l s h

-- ---- the others behind the first parts
trees_are : {v w : Tree} {vs ws : Trees} → v ≡ w → vs ≡ ws → tree v vs ≡ tree w ws
trees_are e f = cc

pairs_are : {x y v w : Tree} {ps qs : Pairs} → x ≡ y → v ≡ w → ps ≡ qs → pair x v ps ≡ pair y w qs
pairs_are e f g = cc

pub split_each : {T : Table} {e : TypeId} {vs ws : Trees} {b c : List ℕ} (x y : List ℕ) → SpellsEach T e vs b
    → SpellsEach T e ws c → tree_count ws ≤ tree_count vs → b ++ x ≡ c ++ y
    → (us : Trees) × (a : List ℕ) × (vs ≡ both_trees ws us) × SpellsEach T e us a × (b ≡ c ++ a) × (y ≡ a ++ x)
split_each {vs = vs} {b = b} x y s no_element n h = (vs, b, refl, s, refl, sym h)
split_each x y no_element (element q qs) n h = absurd (omega (arith, n))
split_each x y (element {v = v} {vs = vs} {b = b} {c = p} r rs) (element {v = w} {vs = ws} {b = c} {c = q} k ks) n h =
    let one = same_spelling (p ++ x) (q ++ y) r k (sym (append_assoc b p x) ∙ h ∙ append_assoc c q y) in
    let s = split_each x y rs ks (omega (arith, n)) one.rest in (
      s.0,
      s.1,
      trees_are one.value s.2,
      s.3,
      two one.bytes s.4 ∙ sym (append_assoc c q s.1),
      s.5,
    )
  where
    two : {a b c d : List ℕ} → a ≡ b → c ≡ d → a ++ c ≡ b ++ d
    two e f = cc

pub split_pairs : {T : Table} {k e : TypeId} {ps qs : Pairs} {b c : List ℕ} (x y : List ℕ) → SpellsPairs T k e ps b
    → SpellsPairs T k e qs c → pair_count qs ≤ pair_count ps → b ++ x ≡ c ++ y
    → (rs : Pairs) × (a : List ℕ) × (ps ≡ both_pairs qs rs) × SpellsPairs T k e rs a × (b ≡ c ++ a) × (y ≡ a ++ x)
split_pairs {ps = ps} {b = b} x y s no_entry n h = (ps, b, refl, s, refl, sym h)
split_pairs x y no_entry (entry q r qs) n h = absurd (omega (arith, n))
split_pairs x y (entry {x = u} {v = v} {ps = ps} {a = a} {b = b} {c = p} r m rs)
    (entry {x = w} {v = z} {ps = qs} {a = c} {b = d} {c = q} k l ks) n h =
    let key = same_spelling ((b ++ p) ++ x) ((d ++ q) ++ y) r k
    (sym (append_assoc a (b ++ p) x) ∙ h ∙ append_assoc c (d ++ q) y) in
    let one = same_spelling (p ++ x) (q ++ y) m l (sym (append_assoc b p x) ∙ key.rest ∙ append_assoc d q y) in
    let s = split_pairs x y rs ks (omega (arith, n)) one.rest in (
      s.0,
      s.1,
      pairs_are key.value one.value s.2,
      s.3,
      three_of key.bytes one.bytes s.4 ∙ ap (λ (l : List ℕ). c ++ l) (sym (append_assoc d q s.1))
          ∙ sym (append_assoc c (d ++ q) s.1),
      s.5,
    )
  where
    three_of : {a b c d e f : List ℕ} → a ≡ b → c ≡ d → e ≡ f → a ++ (c ++ e) ≡ b ++ (d ++ f)
    three_of e f g = cc

-- ---- what was printed so far
module _ {lines : ValueLines} {style : Style} {L : Bounds} {T : Table} {begun : BegunParts} {z : List ℕ} where
  pub first_printed : HasBegunParts lines L T begun z → HasPrinted lines style L T begun z begun.parts [] z []
  first_printed b = record {
    spelled = [];
    first = 0;
    begins = b.begins;
    inside = b.inside;
    parts_are = refl;
    counted = omega arith;
    are = no_parts lines style T begun.id begun.depth 0 begun.parts.parts [] refl refl;
  }

  pub printed_on : {ahead next : PartsAhead} {kept grown kept' behind behind' text made : List ℕ}
      → HasPrinted lines style L T begun z ahead kept behind text → kept ++ behind ≡ grown ++ behind'
      → PrintsSome lines style T begun.id begun.depth ahead next grown kept' made
      → HasPrinted lines style L T begun z next kept' behind' (text ++ made)
  printed_on {ahead = ahead} {next = next} {behind' = behind'} {text = text} {made = made} h same p =
      let left = p.left behind' (subst (λ (l : List ℕ). ahead.begin ≤ length l) same h.inside) in
      record {
        spelled = h.spelled ++ p.spelled;
        first = h.first + p.first;
        begins = subst (λ (l : List ℕ). BeginsWithParts L T begun.id begun.parts.parts begun.parts.count z l)
            (ap (λ (l : List ℕ). h.spelled ++ l) (ap (λ (l : List ℕ). drop ahead.begin l) same ∙ left.0)
            ∙ sym (append_assoc h.spelled p.spelled _)) h.begins;
        inside = left.1;
        parts_are = p.parts_are ∙ h.parts_are;
        counted = omega (arith, h.counted, p.counted);
        are = parts_then lines style T begun.id begun.depth begun.parts.parts h.spelled p.spelled h.first p.first text
            made h.are
            (subst (λ (q : PartTypes). AreParts lines style T begun.id begun.depth q p.spelled p.first made) h.parts_are
            p.are);
      }

  pub begun_text : {ahead : PartsAhead} {kept behind text : List ℕ} → HasBegunParts lines L T begun z
      → IsStyleOf lines style → HasPrinted lines style L T begun z ahead kept behind text → IsBegunText lines L T z text
  begun_text {ahead = ahead} {kept = kept} {behind = behind} {text = text} b styled h =
      let deep = b.deep in
      let counted = h.counted in
      parts_begun (record {
        id = begun.id;
        parts = begun.parts.parts;
        all = begun.parts.count;
        first = h.first;
        spelled = h.spelled;
        rest = drop ahead.begin (kept ++ behind);
        begins = h.begins;
        each = b.each;
        chosen = b.chosen;
        few = omega (arith, counted);
        style = style;
        styled = styled;
        are = subst (λ (limit : ℕ). AreParts lines style T begun.id limit begun.parts.parts h.spelled h.first text)
            (omega (arith, deep)) h.are;
      })

-- ---- the rest of the parts
abbrev RestOf : ValueLines → Style → Table → TypeId → (limit : ℕ) → PartTypes → (own : List ℕ) → (count : ℕ)
    → (text full : List ℕ) → Type 0
RestOf lines style T t limit p own count text full =
    (made : List ℕ) × (full ≡ text ++ made) × AreParts lines style T t limit p own count made

none_each : {T : Table} {e : TypeId} {vs : Trees} {b : List ℕ} → SpellsEach T e vs b → tree_count vs ≡ 0 → b ≡ []
none_each no_element n = refl
none_each (element p ps) n = absurd (omega (arith, n))

none_pairs : {T : Table} {k e : TypeId} {ps : Pairs} {b : List ℕ} → SpellsPairs T k e ps b → pair_count ps ≡ 0 → b ≡ []
none_pairs no_entry n = refl
none_pairs (entry p q ps) n = absurd (omega (arith, n))

zero_or_more : (n : ℕ) → (n ≡ 0) ⊎ (0 < n)
zero_or_more zero = inl refl
zero_or_more (suc n) = inr (omega arith)

others_deep : (ws us : Trees) → trees_depth us ≤ trees_depth (both_trees ws us)
others_deep no_tree us = omega arith
others_deep (tree v ws) us = let d = others_deep ws us in omega (arith, d)

pairs_deep : (qs rs : Pairs) → pairs_depth rs ≤ pairs_depth (both_pairs qs rs)
pairs_deep no_pair rs = omega arith
pairs_deep (pair x v qs) rs = let d = pairs_deep qs rs in omega (arith, d)

module _ {lines : ValueLines} {style : Style} {T : Table} {t : TypeId} {limit : ℕ} (kept : List ℕ) {text full : List ℕ}
    (next : PartsAhead) (on : PrintsEach lines style) (rest : PrintsRest true lines style T t next kept text full) where
  rest_each : {e : TypeId} (us : Trees) (own : List ℕ) → IsSliceType T t e → SpellsEach T e us own
      → trees_depth us ≤ limit → tree_count us ≡ next.count → own ≡ drop next.begin kept
      → RestOf lines style T t limit (part.Element e) own next.count text full
  rest_each {e = e} us own l spelled deep counted is = elim (zero_or_more next.count) [
    | inl none ↦ (
      [],
      rest.0 none ∙ sym (append-nil text),
      no_parts lines style T t limit next.count (part.Element e) own (none_each spelled (counted ∙ none)) none,
    )
    | inr some ↦
        let p = elements_are {limit = limit} on l us spelled deep counted
        (λ v f. rest.1 some v (subst (λ (b : List ℕ). (c : List ℕ) → IsUnsigned next.count c
        → SpellsTop T t v (0 ∷ (c ++ b))) is f)) in
        (p.made, p.behind, p.are)
  ]

  rest_pairs : {k e : TypeId} (rs : Pairs) (own : List ℕ) → IsMapType T t k e
      → SpellsPairs T k e rs own → pairs_depth rs ≤ limit → pair_count rs ≡ next.count → own ≡ drop next.begin kept
      → RestOf lines style T t limit (part.Entry k e) own next.count text full
  rest_pairs {k = k} {e = e} rs own l spelled deep counted is = elim (zero_or_more next.count) [
    | inl none ↦ (
      [],
      rest.0 none ∙ sym (append-nil text),
      no_parts lines style T t limit next.count (part.Entry k e) own (none_pairs spelled (counted ∙ none)) none,
    )
    | inr some ↦
        let p = entries_are {limit = limit} on l rs spelled deep counted
        (λ v f. rest.1 some v (subst (λ (b : List ℕ). (c : List ℕ) → IsUnsigned next.count c
        → SpellsTop T t v (0 ∷ (c ++ b))) is f)) in
        (p.made, p.behind, p.are)
  ]

-- what is left of the item was kept
own_is : (begin : ℕ) (kept behind own : List ℕ) → begin ≤ length (kept ++ behind)
    → drop begin (kept ++ behind) ≡ own ++ behind → own ≡ drop begin kept
own_is begin kept behind own inside e =
    let within : begin ≤ length kept =
    omega (
      arith,
      inside,
      ap length e,
      length-drop begin (kept ++ behind),
      length-append kept behind,
      length-append own behind,
    ) in
    append_cancel_right own (drop begin kept) behind (sym e ∙ drop-append-le begin kept behind within)

deep_list : {v : Tree} {vs : Trees} {limit deep : ℕ} → v ≡ many vs → depth v ≤ deep → limit + 1 ≡ deep
    → trees_depth vs ≤ limit
deep_list is d up = omega (arith, ap depth is, d, up)

deep_map : {v : Tree} {ps : Pairs} {limit deep : ℕ} → v ≡ value.pairs ps → depth v ≤ deep → limit + 1 ≡ deep
    → pairs_depth ps ≤ limit
deep_map is d up = omega (arith, ap depth is, d, up)

module _ {lines : ValueLines} (style : Style) (L : Bounds) {T : Table} (begun : BegunParts) (kept : List ℕ)
    {text full : List ℕ} (next : PartsAhead) (on : PrintsEach lines style) (up : begun.depth + 1 ≡ L.depth)
    (rest : PrintsRest true lines style T begun.id next kept text full) where
  joined_parts : (p : PartTypes) (first : ℕ) {bytes : List ℕ} (spelled own : List ℕ)
      → AreParts lines style T begun.id begun.depth p spelled first text
      → RestOf lines style T begun.id begun.depth p own next.count text full → bytes ≡ spelled ++ own
      → first + next.count ≡ begun.parts.count
      → AreParts lines style T begun.id begun.depth p bytes begun.parts.count full
  joined_parts p first spelled own are r whole counted =
      let all = parts_then lines style T begun.id begun.depth p spelled own first next.count text r.0 are r.2 in
      subst (λ (l : List ℕ). AreParts lines style T begun.id begun.depth p l begun.parts.count full) (sym whole)
      (subst (λ (l : List ℕ). AreParts lines style T begun.id begun.depth p (spelled ++ own) begun.parts.count l)
      (sym r.1)
      (subst (λ (n : ℕ). AreParts lines style T begun.id begun.depth p (spelled ++ own) n (text ++ r.0)) counted all))

  all_printed : (p : PartTypes) (v : Tree) (first : ℕ) (bytes spelled behind : List ℕ) → HasParts T begun.id p
      → AllOf T p v begun.parts.count bytes → depth v ≤ L.depth
      → AreParts lines style T begun.id begun.depth p spelled first text → first + next.count ≡ begun.parts.count
      → next.begin ≤ length (kept ++ behind) → spelled ++ drop next.begin (kept ++ behind) ≡ bytes ++ behind
      → AreParts lines style T begun.id begun.depth p bytes begun.parts.count full
  all_printed (part.Element e) v first bytes spelled behind l all deep are
      counted inside e' =
      let s = split_each behind (drop next.begin (kept ++ behind)) all.spelled are.spelled
      (omega (arith, counted, all.counted, are.counted)) (sym e') in
      let own = own_is next.begin kept behind s.1 inside s.5 in
      let within = deep_list all.is deep up in
      let r = rest_each {limit = begun.depth} kept next on rest s.0 s.1 l s.3
      (omega (arith, others_deep are.values s.0, within, ap trees_depth s.2))
      (omega (arith, counted, all.counted, are.counted, ap tree_count s.2, count_both are.values s.0)) own in
      joined_parts (part.Element e) first spelled s.1 are r s.4 counted
  all_printed (part.Entry k e) v first bytes spelled behind l all deep are
      counted inside e' =
      let s = split_pairs behind (drop next.begin (kept ++ behind)) all.spelled are.spelled
      (omega (arith, counted, all.counted, are.counted)) (sym e') in
      let own = own_is next.begin kept behind s.1 inside s.5 in
      let within = deep_map all.is deep up in
      let r = rest_pairs {limit = begun.depth} kept next on rest s.0 s.1 l s.3
      (omega (arith, pairs_deep are.values s.0, within, ap pairs_depth s.2))
      (omega (arith, counted, all.counted, are.counted, ap pair_count s.2, pair_count_both are.values s.0)) own in
      joined_parts (part.Entry k e) first spelled s.1 are r s.4 counted

-- ---- the value
ends_in : (T : Table) (t : TypeId) {count : ℕ} (begin : ℕ) {counted body : List ℕ} (p : PartTypes) → HasParts T t p
    → IsUnsigned count counted → body ≡ 0 ∷ (counted ++ drop begin body) → EndInParts T t body p count begin
ends_in T t begin {counted = c} {body = body} (part.Element e) l u w = λ vs n s.
    subst (SpellsTop T t (many vs)) (sym w)
    (tagged l.known (subst (λ (k : Kind). ¬ IsStruct k) (sym l.is) (λ x. x))
    (of_type l.known (subst (λ (k : Kind). SpellsAs T k (many vs) (c ++ drop begin body)) (sym l.is)
    (of_slice (counts u n) s))))
ends_in T t begin {counted = c} {body = body} (part.Entry k e) l u w = λ ps n s.
    subst (SpellsTop T t (value.pairs ps)) (sym w)
    (tagged l.known (subst (λ (k : Kind). ¬ IsStruct k) (sym l.is) (λ x. x))
    (of_type l.known (subst (λ (k : Kind). SpellsAs T k (value.pairs ps) (c ++ drop begin body)) (sym l.is)
    (of_map (counts u n) s))))

pub whole_printed : {lines : ValueLines} {style : Style} {L : Bounds} {T U : Table} {begun : BegunParts}
    {z kept behind text full x : List ℕ} {next : PartsAhead} {i : FilledItem} → HasBegunParts lines L T begun z
    → IsStyleOf lines style → (h : HasPrinted lines style L T begun z next kept behind text)
    → BareItem L T U begun.id i h.begins.item h.begins.number x
    (0 ∷ (h.begins.counted ++ (h.spelled ++ drop next.begin (kept ++ behind)))) behind
    → PrintsRest true lines style T begun.id next kept text full → IsUnfilledLine lines U i full
whole_printed {lines = lines} {style = style} {L = L} {T = T} {U = U} {begun = begun} {kept = kept} {behind = behind}
    {full = full} {next = next} {i = i} b styled h item rest =
    let p = begun.parts.parts in
    let g = h.begins in
    let n = in_body g.counts p g.type_is item.spelled (sym item.behind) in
    let on : PrintsEach lines style = (b.each, styled.pairs ∙ b.each) in
    let are = all_printed style L begun kept next on b.deep rest p item.value h.first n.bytes h.spelled behind g.type_is
    n.all item.within h.are h.counted h.inside n.rest in
    let begin = length (0 ∷ g.counted) in
    let bytes : drop begin item.body ≡ n.bytes =
    dropped begin item.body (0 ∷ g.counted) n.bytes refl n.whole in
    let whole : item.body ≡ 0 ∷ (g.counted ++ drop begin item.body) =
    n.whole ∙ ap (λ (l : List ℕ). 0 ∷ (g.counted ++ l)) (sym bytes) in
    let s = all_parts lines style T begun.id begun.depth L.depth begun.parts.count begin p item.body full b.deep on
    g.type_is (ends_in T begun.id begin p g.type_is g.counts whole)
    (subst (λ (l : List ℕ). AreParts lines style T begun.id begun.depth p l begun.parts.count full) (sym bytes) are) in
    let one : s.0.value ≡ item.value = (same_top [] [] s.0.spelled item.spelled refl).value in
    let said = subst (λ (v : Tree). SaysValue style T begun.id v s.1) one s.2 in
    record {
      id = begun.id;
      value = item.value;
      is = item.is;
      line = subst (λ (T : Table). IsPlainLine lines T (putting begun.id (filled item.value no_filling)) full)
          (sym item.table)
          (is_shown b.chosen s.1 (
            style,
            styled,
            says_unfilled lines.tagged style T begun.id item.value item.body s.1 item.spelled said,
          ) s.3);
    }

-- ---- a step
is_more : (r : Reader) (item : Option GoItem) (more : List FilledItem)
    → GivesItemsOf (nothing_meant (types_of (session_of r))) item more → IsMore (is_some item) more
is_more r None more gives_none = refl
is_more r (Some given) more (gives_one {i = i} m) = (i, refl)

some_is : {a b : List ℕ} → Some a ≡ Some b → a ≡ b
some_is e = cc

pub takes_on : {r r' : Reader} {read now : Option (List ℕ)} {given : List FilledItem} {step : Advance GoItem}
    {kept kept' : List ℕ} → HasReadBy passing_stepping r read now given
    → StepsOnBy passing_stepping r r' read now given step → 0 < step.used
    → kept' ≡ take (length kept + step.used) (kept ++ waits_in r)
    → TakesOn r r' read now given kept kept' (is_some step.item)
takes_on {r = r} {r' = r'} {step = step} {kept = kept} {kept' = kept'} h st some grown =
    let onward = st.takes.onward in
    record {
      more = st.more;
      is_more = is_more r' step.item st.more st.gives;
      after = st.takes.after;
      onward = omega (arith, onward, some);
      bytes = λ all known.
          let k = known_behind all h known in
          let n = known_behind all st.takes.after known in
          let same : n.left ≡ k.left = some_is (sym n.known ∙ k.known) in
          let size = h.gave.taken in
          let size' = st.takes.after.gave.taken in
          let within : step.used ≤ length (waits_in r) =
          omega (
            arith,
            onward,
            size,
            size',
            ap length same,
            ap length (sym k.whole ∙ n.whole),
            length-append h.taken (waits_in r ++ k.left),
            length-append (waits_in r) k.left,
            length-append st.takes.after.taken (waits_in r' ++ n.left),
            length-append (waits_in r') n.left,
          ) in
          let waits = waits_in r in
          let taken : kept' ≡ kept ++ take step.used waits =
          grown ∙ take-append-add kept waits step.used in
          let rest : drop (taken_of (session_of r')) all ≡ drop step.used waits ++ k.left =
          ap (λ (m : ℕ). drop m all) onward
          ∙ sym (drop-drop step.used (taken_of (session_of r)) all) ∙ ap (λ (l : List ℕ). drop step.used l) k.behind
          ∙ drop-append-le step.used waits k.left within in
          ap (λ (l : List ℕ). kept ++ l) (k.behind ∙ ap (λ (l : List ℕ). l ++ k.left)
          (sym (take-append-drop step.used waits)) ∙ append_assoc (take step.used waits) (drop step.used waits) k.left)
          ∙ sym (append_assoc kept (take step.used waits) (drop step.used waits ++ k.left))
          ∙ ap (λ (l : List ℕ). l ++ (drop step.used waits ++ k.left)) (sym taken)
          ∙ ap (λ (l : List ℕ). kept' ++ l) (sym rest);
    }

-- ---- groups
pub some_printed : {lines : ValueLines} {style : Style} {T : Table} {t : TypeId} {limit at left : ℕ}
    {old next : PartsAhead} {kept kept' before text text' : List ℕ}
    → AreMade (AreParts lines style T t limit old.parts) kept old.begin at left old.count before text
    → old.begin ≤ length kept → next.begin ≡ 0 → next.count ≡ left → next.parts ≡ old.parts → kept' ≡ drop at kept
    → text' ≡ text
    → (made : List ℕ) × PrintsSome lines style T t limit old next kept kept' made × (text' ≡ before ++ made)
some_printed {at = at} {old = old} {next = next} {kept = kept} {kept' = kept'} m inside begin count same is still = (
  m.made,
  record {
    spelled = m.spelled;
    first = m.first;
    counted = m.counted ∙ ap (λ (n : ℕ). m.first + n) (sym count);
    parts_are = same;
    are = m.are;
    left = λ behind within. (
      drop-append-le old.begin kept behind inside ∙ ap (λ (l : List ℕ). l ++ behind) m.whole
          ∙ append_assoc m.spelled (drop at kept) behind
          ∙ ap (λ (l : List ℕ). m.spelled ++ (l ++ behind)) (sym is)
          ∙ ap (λ (n : ℕ). m.spelled ++ drop n (kept' ++ behind)) (sym begin),
      omega (arith, begin),
    );
  },
  still ∙ m.behind,
)

pub none_printed : (lines : ValueLines) (style : Style) (T : Table) (t : TypeId) (limit : ℕ) (old : PartsAhead)
    (kept before : List ℕ)
    → (made : List ℕ) × PrintsSome lines style T t limit old old kept kept made × (before ≡ before ++ made)
none_printed lines style T t limit old kept before = (
  [],
  record {
    spelled = [];
    first = 0;
    counted = omega arith;
    parts_are = refl;
    are = no_parts lines style T t limit 0 old.parts [] refl refl;
    left = λ behind within. (refl, within);
  },
  sym (append-nil before),
)

-- ---- the rest
pub rest_none : (lines : ValueLines) (style : Style) (T : Table) (t : TypeId) (ahead : PartsAhead)
    (kept old new : List ℕ) (b : Bool) → (b ≡ true → ahead.count ≡ 0) → new ≡ old
    → PrintsRest b lines style T t ahead kept old new
rest_none lines style T t ahead kept old new false none same = same
rest_none lines style T t ahead kept old new true none same =
    (λ e. same, λ some. absurd (omega (arith, some, none refl)))

pub rest_all : (lines : ValueLines) (style : Style) (T : Table) (t : TypeId) (ahead : PartsAhead)
    (kept rest old mid new : List ℕ) (b : Bool) → b ≡ true → ahead.count ≢ 0 → mid ≡ old
    → rest ≡ drop ahead.begin kept
    → ((v : Tree) → ((c : List ℕ) → IsUnsigned ahead.count c → SpellsTop T t v (0 ∷ (c ++ rest)))
    → SaysLines lines style T t v mid new) → PrintsRest b lines style T t ahead kept old new
rest_all lines style T t ahead kept rest old mid new false e some same is f = cc
rest_all lines style T t ahead kept rest old mid new true e some same is f = (
  λ none. absurd (some none),
  λ more v g. subst (λ (l : List ℕ). SaysLines lines style T t v l new) same
      (f v (subst (λ (b : List ℕ). (c : List ℕ) → IsUnsigned ahead.count c → SpellsTop T t v (0 ∷ (c ++ b))) (sym is)
      g)),
)

-- ---- what is kept of the bytes
-- a sum that stays at its ceiling takes as many as a list has
pub taken_few : (n m : ℕ) (l : List ℕ) → n ≡ min m (2 ^ 64 - 1) → length l < 2 ^ 64 → take n l ≡ take m l
taken_few n m l sum few = by_place (eq-or-lt_of_le (omega (arith, sum)))
  where
    by_place : (n ≡ 2 ^ 64 - 1) ⊎ (n < 2 ^ 64 - 1) → take n l ≡ take m l
    by_place (inl top) = take_all n l (omega (arith, top, few)) ∙ sym (take_all m l (omega (arith, sum, top, few)))
    by_place (inr less) = ap (λ (k : ℕ). take k l) (omega (arith, sum, less))
