-- What `show --go` prints of a value that defines nothing says the bytes that spell the value.
use Rattle.std.proofs.Common.{◌≡◌, ℕ, ◌+◌, ◌-◌, ◌<◌, ◌≤◌, Bool, true, false, List, [], ◌∷◌, ◌++◌, length, take, Some}
use Rattle.std.proofs.Common.{IsTrue, pos, arith, refl, sym, ap, subst, ◌∙◌, append_assoc, append-nil, slice_get}
use Rattle.std.specs.Option.{unwrap_or}
use Rattle.std.proofs.Math.Seq.{take-append_seam}
use Rattle.serde_json.specs.Data.{Data, array, item}
use Rattle.gob_num.specs.Signed.{IsSigned}
use Rattle.gob_num.specs.Unsigned.{AreBytes, IsUnsigned, short}
use Rattle.gob_num.proofs.PublicLaws.{bytes_rest, unsigned_unique}
use Rattle.gob_types.specs.declared.id.TypeId.{TypeId}
use Rattle.gob_types.specs.declared.basic.Basic.{Basic}
use Rattle.gob_types.specs.declared.basic.Basic.TheVariants as basic
use Rattle.gob_types.specs.declared.kind.Field.{Field}
use Rattle.gob_types.specs.declared.kind.Kind.{Kind}
use Rattle.gob_types.specs.declared.kind.Kind.TheVariants as kind
use Rattle.gob_types.specs.declared.kind.Marshal.{Marshal}
use Rattle.gob_types.specs.KindParts.{elem_named, fields_named, key_named}
use Rattle.gob_types.specs.Table.{Table, shape_of}
use Rattle.gob_value.specs.Spelling.{Spells, SpellsAs, SpellsEach, SpellsFields, SpellsPairs}
use Rattle.gob_value.specs.Spelling as spells
use Rattle.gob_value.specs.Top as top
use Rattle.gob_value.specs.Top.{SpellsTop}
use Rattle.gob_value.specs.Tree.{Fields, Pairs, Tree, Trees, depth, fields_depth, pair_count, pairs_depth, tree_count}
use Rattle.gob_value.specs.Tree.{trees_depth}
use Rattle.gob_value.specs.Tree as Value
use Rattle.gob_value.proofs.BytesLaws.{spelled_bytes}
use Rattle.gob_value.proofs.PublicLaws.{one_top}
use Rattle.gob_read.specs.Expected.{a_number, first_allowed}
use Rattle.gob_read.specs.Expects.{Enters}
use Rattle.gob_read.specs.Expects as place
use Rattle.gob_read.specs.Held.{PartialBody}
use Rattle.gob_read.specs.Weight.{part_count, parts_of_all, parts_of_fields, parts_of_pairs}
use Rattle.gob_stream.specs.Body.{MayPut}
use Rattle.gob_stream.specs.Bounds.{Bounds}
use Rattle.gob_filled.specs.Filled.{AreSegments, Filled, Fillings, Fills, SpellsFilled, as_it_stands, cut}
use Rattle.gob_filled.specs.Filled.{filled, no_filling, last_segment, next_filled, next_segment, none_defined}
use Rattle.gob_filled.specs.Filled.{one_defined}
use Rattle.gob_filled.specs.Filled.{with_fillings}
use Rattle.gob_filled_walk.specs.FilledLine.{DefineNothing, DefinesNothing, and_defines, defines_nothing, none_defines}
use Rattle.gob_go.specs.Machine.WholeFilled.{IsOfKind}
use Rattle.gob_go.proofs.WholeFilledSteps.{spelled_as}
use Rattle.gob_json.specs.Json.{element_type, field_name, field_type, key_type, natural_json, no_type, pair_json}
use Rattle.gob_json.specs.Json.{struct_fields, text_json, triple_json, value_json}
use Rattle.gob_json_writer.specs.FilledJson.{FilledShows, FillingsShow, filled_shows, none_left, then_shown}
use Rattle.gob_json_writer.specs.NilsJson.{elements_json_with, fields_json_with, interface_json, pairs_json_with}
use Rattle.gob_json_writer.specs.NilsJson.{value_json_with}
use Rattle.gob_lines.specs.Numbers.{as_shown, natural_number}
use Rattle.gob_go_lines.specs.Says.{Says, SaysAs, SaysEach, SaysFields, SaysPairs, SaysTop, at_once, element}
use Rattle.gob_go_lines.specs.Says.{end_of_fields, entry, items_of, next_field, no_element, no_entry, of_array}
use Rattle.gob_go_lines.specs.Says.{of_basic}
use Rattle.gob_go_lines.specs.Says.{of_held, of_map, of_opaque, of_slice, of_struct, tagged}
use Rattle.gob_go_lines.specs.Lines.{HoldsNothing}
use Rattle.gob_go_lines.proofs.BytesLaws.{top_bytes}
use Rattle.gob_go_lines.proofs.HoleLaws.{Begun, Holes, Skipped, is_nil, leaf_begun, next_hole, nil_begun}
use Rattle.gob_go_lines.proofs.HoleLaws.{no_basic_parts, no_hole, no_nil_in, number_has_none, says_as, skipped}
use Rattle.gob_go_lines.proofs.ReachLaws.{Reaches, ReachesEach, ReachesEntries, ReachesFields, array_elements, begins}
use Rattle.gob_go_lines.proofs.ReachLaws.{first_delta, first_element, first_field, first_key, first_value, map_entries}
use Rattle.gob_go_lines.proofs.ReachLaws.{other_elements, other_entries, other_fields, reaches_struct, reaches_tagged}
use Rattle.gob_go_lines.proofs.ReachLaws.{slice_elements, struct_fields as struct_parts}

-- ---- parts one behind another
nothing_begun : {T : Table} {H : Bool} {t : TypeId} {most last : ℕ} {N : ℕ → Data} {Say : List ℕ → Type 0}
    {n number next : ℕ} {p left letters : List ℕ} → number ≤ n → Say []
    → Holes T H t most last N number next p left letters
    → Begun T H t most last N Say n next (n + 0) (p ++ []) left letters
nothing_begun {T = T} {H = H} {t = t} {most = most} {last = last} {N = N} {number = number} {next = next} {p = p}
    {left = left} {letters = letters} order says holes = record {
      bytes = [];
      rest = letters;
      whole = refl;
      number = number;
      order = omega (arith, order);
      next = next;
      holes = subst (λ l. Holes T H t most last N number next l left letters) (sym (append-nil p)) holes;
      says = λ l. says;
      late = λ l. omega (arith, l);
    }

-- the part says more, and begins before or ends behind
says_too : {T : Table} {H : Bool} {t : TypeId} {most last : ℕ} {N : ℕ → Data} {Say More : List ℕ → Type 0}
    {begins first before : ℕ} {p left letters : List ℕ} (start after : ℕ) → start ≤ begins → before ≤ after
    → Begun T H t most last N Say begins first before p left letters → ((m : List ℕ) → Say m → More m)
    → Begun T H t most last N More start first after p left letters
says_too start after sooner later h say = record {
  bytes = h.bytes;
  rest = h.rest;
  whole = h.whole;
  number = h.number;
  order = omega (arith, later, h.order);
  next = h.next;
  holes = h.holes;
  says = λ l. say h.bytes (h.says (omega (arith, later, l)));
  late = λ l. omega (arith, sooner, h.late (omega (arith, later, l)));
}

-- the part in front, and then those behind it
both_begun : {T : Table} {H : Bool} {t : TypeId} {most last : ℕ} {N : ℕ → Data} {Say More All : List ℕ → Type 0}
    {start first middle before : ℕ} {front left letters : List ℕ} (after : ℕ) (p b c : List ℕ) → before ≤ after
    → (h : Begun T H t most last N Say start first middle (p ++ b) front letters)
    → Begun T H t most last N More middle h.next before ((p ++ b) ++ c) left h.rest
    → ((m n : List ℕ) → Say m → More n → All (m ++ n))
    → Begun T H t most last N All start first after (p ++ (b ++ c)) left letters
both_begun {T = T} {H = H} {t = t} {most = most} {last = last} {N = N} {left = left} after p b c later h k say =
    record {
      bytes = h.bytes ++ k.bytes;
      rest = k.rest;
      whole = h.whole ∙ ap (λ l. h.bytes ++ l) k.whole ∙ sym (append_assoc h.bytes k.bytes k.rest);
      number = k.number;
      order = omega (arith, later, k.order);
      next = k.next;
      holes = subst (λ l. Holes T H t most last N k.number k.next l left k.rest) (append_assoc p b c) k.holes;
      says = λ l. say h.bytes k.bytes (h.says (k.late (omega (arith, later, l)))) (k.says (omega (arith, later, l)));
      late = λ l. h.late (k.late (omega (arith, later, l)));
    }

-- behind bytes that stand as they are
behind_begun : {T : Table} {H : Bool} {t : TypeId} {most last : ℕ} {N : ℕ → Data} {More All : List ℕ → Type 0}
    {begins number next before : ℕ} {front left letters : List ℕ} (start after : ℕ) (p c b : List ℕ) → start ≤ begins
    → before ≤ after → (s : Skipped T H t most last N number next p c front letters)
    → Begun T H t most last N More begins next before ((p ++ c) ++ b) left s.rest
    → ((m : List ℕ) → More m → All (c ++ m))
    → Begun T H t most last N All start next after (p ++ (c ++ b)) left letters
behind_begun {T = T} {H = H} {t = t} {most = most} {last = last} {N = N} {left = left} start after p c b sooner later s
    k say = record {
      bytes = c ++ k.bytes;
      rest = k.rest;
      whole = s.whole ∙ ap (λ l. c ++ l) k.whole ∙ sym (append_assoc c k.bytes k.rest);
      number = k.number;
      order = omega (arith, later, k.order);
      next = k.next;
      holes = subst (λ l. Holes T H t most last N k.number k.next l left k.rest) (append_assoc p c b) k.holes;
      says = λ l. say k.bytes (k.says (omega (arith, later, l)));
      late = λ l. omega (arith, sooner, k.late (omega (arith, later, l)));
    }

-- the first bytes say this, and the others that
record Both (Say More : List ℕ → Type 0) (b : List ℕ) : Type 0 where
  first : List ℕ
  others : List ℕ
  split : b ≡ first ++ others
  says : Say first
  more : More others

and_begun : {T : Table} {H : Bool} {t : TypeId} {most last : ℕ} {N : ℕ → Data} {Say More : List ℕ → Type 0}
    {start first middle before : ℕ} {front left letters : List ℕ} (after : ℕ) (p b c : List ℕ) → before ≤ after
    → (h : Begun T H t most last N Say start first middle (p ++ b) front letters)
    → Begun T H t most last N More middle h.next before ((p ++ b) ++ c) left h.rest
    → Begun T H t most last N (Both Say More) start first after (p ++ (b ++ c)) left letters
and_begun after p b c later h k = both_begun after p b c later h k
    (λ m n first others. record { first = m; others = n; split = refl; says = first; more = others })

-- ---- what they say
record ElementsSay (T : Table) (H : Bool) (e : TypeId) (limit n : ℕ) (N : ℕ → Data) (vs : Trees) (b : List ℕ)
    : Type 0 where
  parts : List Data
  says : SaysEach T H e limit parts b
  counted : length parts ≡ tree_count vs
  json : items_of parts ≡ elements_json_with N T e n vs

record EntriesSay (T : Table) (H : Bool) (k e : TypeId) (limit n : ℕ) (N : ℕ → Data) (ps : Pairs) (b : List ℕ)
    : Type 0 where
  parts : List Data
  says : SaysPairs T H k e limit parts b
  counted : length parts ≡ pair_count ps
  json : items_of parts ≡ pairs_json_with N T k e n ps

record FieldsSay (T : Table) (H : Bool) (types : List Field) (next limit n : ℕ) (N : ℕ → Data) (fs : Fields)
    (b : List ℕ) : Type 0 where
  parts : List Data
  says : SaysFields T H types next limit parts b
  json : items_of parts ≡ fields_json_with N T types n fs

element_says : {T : Table} {H : Bool} {e : TypeId} {limit n : ℕ} {N : ℕ → Data} {v : Tree} {vs : Trees}
    {b c : List ℕ} → Says T H e limit (value_json_with N T e n v) b
    → ElementsSay T H e limit (n + part_count v) N vs c → ElementsSay T H e limit n N (Value.tree v vs) (b ++ c)
element_says {T = T} {e = e} {n = n} {N = N} {v = v} {vs = vs} h k =
    let j = value_json_with N T e n v in
    record {
      parts = j ∷ k.parts;
      says = element h k.says;
      counted = omega (arith, k.counted);
      json = ap (item j) k.json;
    }

entry_says : {T : Table} {H : Bool} {k e : TypeId} {limit n : ℕ} {N : ℕ → Data} {x v : Tree} {ps : Pairs}
    {a b c : List ℕ} → Says T H k limit (value_json_with N T k n x) a
    → Says T H e limit (value_json_with N T e (n + part_count x) v) b
    → EntriesSay T H k e limit (n + part_count x + part_count v) N ps c
    → EntriesSay T H k e limit n N (Value.pair x v ps) (a ++ (b ++ c))
entry_says {T = T} {k = k} {e = e} {n = n} {N = N} {x = x} {v = v} g h o =
    let j = pair_json (value_json_with N T k n x) (value_json_with N T e (n + part_count x) v) in
    record {
      parts = j ∷ o.parts;
      says = entry g h o.says;
      counted = omega (arith, o.counted);
      json = ap (item j) o.json;
    }

field_says : {T : Table} {H : Bool} {types : List Field} {next f limit n : ℕ} {e : Field} {N : ℕ → Data} {v : Tree}
    {fs : Fields} {a b c : List ℕ} → next ≤ f → slice_get types f ≡ Some e → IsUnsigned (f + 1 - next) a
    → Says T H e.id limit (value_json_with N T e.id n v) b
    → FieldsSay T H types (f + 1) limit (n + part_count v) N fs c
    → FieldsSay T H types next limit n N (Value.field f v fs) (a ++ (b ++ c))
field_says {T = T} {types = types} {f = f} {n = n} {e = e} {N = N} {v = v} order at delta h k =
    let here = λ (name : List ℕ) (u : TypeId).
    triple_json (natural_json f) (text_json name) (value_json_with N T u n v) in
    let name = ap (λ s. item (here s e.id) (items_of k.parts)) (sym (ap field_name at)) in
    let type = ap (λ u. item (here (field_name (slice_get types f)) u) (items_of k.parts)) (sym (ap field_type at)) in
    record {
      parts = here e.name e.id ∷ k.parts;
      says = next_field order at delta natural_number h k.says;
      json = name ∙ type ∙ ap (item (here (field_name (slice_get types f)) (field_type (slice_get types f)))) k.json;
    }

-- ---- a part and those in it
some_part : (v : Tree) → 0 < depth v
some_part (Value.many vs) = omega arith
some_part (Value.pairs ps) = omega arith
some_part (Value.fields fs) = omega arith
some_part (Value.bool b) = omega arith
some_part (Value.int i) = omega arith
some_part (Value.uint n) = omega arith
some_part (Value.float p) = omega arith
some_part (Value.complex p q) = omega arith
some_part (Value.bytes b) = omega arith
some_part (Value.text b) = omega arith
some_part Value.nil = omega arith
some_part (Value.opaque b) = omega arith

basic_begun : {T : Table} {H : Bool} {t u : TypeId} {most last around limit n number next : ℕ} {N : ℕ → Data}
    {k : Basic}
    {v : Tree} {p b left letters : List ℕ} → Reaches T t p u around n → IsOfKind T u (kind.Basic k) → 0 < limit
    → number ≤ n → SpellsAs T (kind.Basic k) v b → is_nil (a_number (first_allowed (kind.Basic k))) ≡ false
    → value_json T no_type v ≡ value_json_with N T u n v → Holes T H t most last N number next p (b ++ left) letters
    → Begun T H t most last N (λ m. Says T H u limit (value_json_with N T u n v) m) n next (n + part_count v)
    (p ++ b) left letters
basic_begun {T = T} {H = H} {u = u} {limit = limit} {n = n} {k = k} {v = v} {b = b} r is some order s other json
    holes =
    leaf_begun (n + part_count v) (no_nil_in is other (no_basic_parts k)) r (spelled_as is s) (omega arith) order
    (λ o. subst (λ j. Says T H u limit j b) json
    (says_as is some (of_basic s ((spelled_bytes (spelled_as {u = u} is s)).0 o) as_shown))) holes

no_opaque_parts : (m : Marshal) (T : Table) (q : List ℕ) (u : TypeId) → Enters T (kind.Opaque m) q u → ⊥
no_opaque_parts m T q u h = elim h [ ]

mutual
  part_begun : {T : Table} {H : Bool} {t u : TypeId} {most last around limit n number next : ℕ} {N : ℕ → Data}
      {v : Tree}
      {p b left letters : List ℕ} → Reaches T t p u around n → Spells T u v b → depth v ≤ limit
      → most ≡ around + limit → number ≤ n → Holes T H t most last N number next p (b ++ left) letters
      → Begun T H t most last N (λ m. Says T H u limit (value_json_with N T u n v) m) n next (n + part_count v)
      (p ++ b) left letters
  part_begun r (spells.of_type {s = s} found h) within deep order holes =
      kind_begun r (s, found, refl) h within deep order holes

  kind_begun : {T : Table} {H : Bool} {t u : TypeId} {most last around limit n number next : ℕ} {N : ℕ → Data}
      {k : Kind}
      {v : Tree} {p b left letters : List ℕ} → Reaches T t p u around n → IsOfKind T u k → SpellsAs T k v b
      → depth v ≤ limit → most ≡ around + limit → number ≤ n → Holes T H t most last N number next p (b ++ left) letters
      → Begun T H t most last N (λ m. Says T H u limit (value_json_with N T u n v) m) n next (n + part_count v)
      (p ++ b) left letters
  kind_begun r is (spells.of_bool q) within deep order holes =
      basic_begun r is (omega (arith, within)) order (spells.of_bool q) refl refl holes
  kind_begun r is (spells.of_int q) within deep order holes =
      basic_begun r is (omega (arith, within)) order (spells.of_int q) refl refl holes
  kind_begun r is (spells.of_uint q) within deep order holes =
      basic_begun r is (omega (arith, within)) order (spells.of_uint q) refl refl holes
  kind_begun r is (spells.of_float q) within deep order holes =
      basic_begun r is (omega (arith, within)) order (spells.of_float q) refl refl holes
  kind_begun r is (spells.of_complex q o) within deep order holes =
      basic_begun r is (omega (arith, within)) order (spells.of_complex q o) refl refl holes
  kind_begun r is (spells.of_bytes q) within deep order holes =
      basic_begun r is (omega (arith, within)) order (spells.of_bytes q) refl refl holes
  kind_begun r is (spells.of_text q) within deep order holes =
      basic_begun r is (omega (arith, within)) order (spells.of_text q) refl refl holes
  kind_begun {T = T} {H = H} {t = t} {u = u} {most = most} {last = last} {limit = limit} {n = n} {number = number}
      {next = next} {N = N} {p = p}
      {left = left} {letters = letters} r is (spells.of_nil {b = b} q) within deep order holes =
      let one : b ≡ 0 ∷ [] = unsigned_unique q (short (omega arith)) in
      subst (λ b. Begun T H t most last N (λ m. Says T H u limit (N n) m) n next (n + 1) (p ++ b) left letters)
      (sym one)
      (nil_begun r is (omega (arith, within)) deep order
      (subst (λ b. Holes T H t most last N number next p (b ++ left) letters) one holes))
  kind_begun {T = T} {H = H} {u = u} {n = n} r is (spells.of_opaque {m = m} {s = s} q) within deep order holes =
      leaf_begun (n + 1) (no_nil_in is refl (no_opaque_parts m)) r (spelled_as is (spells.of_opaque q))
      (omega arith) order
      (λ o. says_as is (omega (arith, within))
      (of_opaque s ((spelled_bytes (spelled_as {u = u} is (spells.of_opaque q))).0 o) q)) holes
  kind_begun {T = T} {H = H} {t = t} {u = u} {most = most} {last = last} {limit = limit} {n = n} {number = number}
      {next = next} {N = N} {p = p}
      {left = left} {letters = letters} r is (spells.of_slice {e = e} {vs = vs} {c = c} {b = b} q qs) within deep order
      holes =
      let s = skipped c (number_has_none (begins r is) refl q)
      (subst (λ l. Holes T H t most last N number next p l letters) (append_assoc c b left) holes) in
      let elements : element_type (shape_of T u) ≡ e =
      ap element_type is.1 ∙ ap (λ k. unwrap_or (elem_named k) no_type) is.2 in
      let k = each_begun {limit = limit - 1} (slice_elements r is q) qs (omega (arith, within))
      (omega (arith, deep, within)) (omega (arith, order)) s.holes in
      behind_begun n (n + (parts_of_all vs + 1)) p c b (omega arith) (omega arith) s k
      (λ m h. subst (λ j. Says T H u limit (array j) (c ++ m))
      (h.json ∙ ap (λ e. elements_json_with N T e (n + 1) vs) (sym elements))
      (says_as is (omega (arith, within)) (of_slice (subst (λ n. IsUnsigned n c) (sym h.counted) q) h.says)))
  kind_begun {T = T} {H = H} {t = t} {u = u} {most = most} {last = last} {around = around} {limit = limit} {n = n}
      {number = number} {next = next} {N = N} {p = p}
      {left = left} {letters = letters} r is (spells.of_array {e = e} {vs = vs} {c = c} {b = b} same q qs) within deep
      order holes =
      let s = skipped c (number_has_none (begins r is) refl q)
      (subst (λ l. Holes T H t most last N number next p l letters) (append_assoc c b left) holes) in
      let elements : element_type (shape_of T u) ≡ e =
      ap element_type is.1 ∙ ap (λ k. unwrap_or (elem_named k) no_type) is.2 in
      let reach = subst (λ n'. ReachesEach T t (p ++ c) e (around + 1) n' (n + 1)) (sym same) (array_elements r is q) in
      let k = each_begun {limit = limit - 1} reach qs (omega (arith, within))
      (omega (arith, deep, within)) (omega (arith, order)) s.holes in
      behind_begun n (n + (parts_of_all vs + 1)) p c b (omega arith) (omega arith) s k
      (λ m h. subst (λ j. Says T H u limit (array j) (c ++ m))
      (h.json ∙ ap (λ e. elements_json_with N T e (n + 1) vs) (sym elements))
      (says_as is (omega (arith, within))
      (of_array (h.counted ∙ same) (subst (λ n. IsUnsigned n c) (sym (h.counted ∙ same)) q) h.says)))
  kind_begun {T = T} {H = H} {t = t} {u = u} {most = most} {last = last} {limit = limit} {n = n} {number = number}
      {next = next} {N = N} {p = p}
      {left = left} {letters = letters} r is (spells.of_map {k = key} {e = e} {ps = ps} {c = c} {b = b} q qs) within
      deep
      order holes =
      let s = skipped c (number_has_none (begins r is) refl q)
      (subst (λ l. Holes T H t most last N number next p l letters) (append_assoc c b left) holes) in
      let keys : key_type (shape_of T u) ≡ key =
      ap key_type is.1 ∙ ap (λ k. unwrap_or (key_named k) no_type) is.2 in
      let elements : element_type (shape_of T u) ≡ e =
      ap element_type is.1 ∙ ap (λ k. unwrap_or (elem_named k) no_type) is.2 in
      let k = entries_begun {limit = limit - 1} (map_entries r is q) qs (omega (arith, within))
      (omega (arith, deep, within)) (omega (arith, order)) s.holes in
      behind_begun n (n + (parts_of_pairs ps + 1)) p c b (omega arith) (omega arith) s k
      (λ m h. subst (λ j. Says T H u limit (array j) (c ++ m))
      (h.json ∙ ap (λ k. pairs_json_with N T k e (n + 1) ps) (sym keys)
      ∙ ap (λ e. pairs_json_with N T (key_type (shape_of T u)) e (n + 1) ps) (sym elements))
      (says_as is (omega (arith, within)) (of_map (subst (λ n. IsUnsigned n c) (sym h.counted) q) h.says)))
  kind_begun {T = T} {H = H} {t = t} {u = u} {most = most} {last = last} {limit = limit} {n = n} {N = N} r is
      (spells.of_struct {types = types} {fs = fs} qs) within deep order holes =
      let fields : struct_fields (shape_of T u) ≡ types =
      ap struct_fields is.1 ∙ ap (λ k. unwrap_or (fields_named k) []) is.2 in
      let k = fields_begun {limit = limit - 1} (struct_parts r is) qs (omega (arith, within))
      (omega (arith, deep, within)) (omega (arith, order)) holes in
      says_too n (n + (parts_of_fields fs + 1)) (omega arith) (omega arith) k
      (λ m h. subst (λ j. Says T H u limit (array j) m)
      (h.json ∙ ap (λ types. fields_json_with N T types (n + 1) fs) (sym fields))
      (says_as is (omega (arith, within)) (of_struct h.says)))

  each_begun : {T : Table} {H : Bool} {t e : TypeId} {most last around limit n number next : ℕ} {N : ℕ → Data}
      {vs : Trees}
      {p b left letters : List ℕ} → ReachesEach T t p e around (tree_count vs) n → SpellsEach T e vs b
      → trees_depth vs ≤ limit → most ≡ around + limit → number ≤ n → Holes T H t most last N number next p (b ++ left)
      letters
      → Begun T H t most last N (ElementsSay T H e limit n N vs) n next (n + parts_of_all vs) (p ++ b) left letters
  each_begun r spells.no_element within deep order holes =
      nothing_begun order (record { parts = []; says = no_element; counted = refl; json = refl })
      holes
  each_begun {T = T} {H = H} {t = t} {e = e} {most = most} {last = last} {n = n} {number = number} {next = next} {N = N}
      {p = p} {left = left}
      {letters = letters} r (spells.element {v = v} {vs = vs} {b = b} {c = c} q qs) within deep order holes =
      let h = part_begun (first_element (tree_count vs) r) q (omega (arith, within)) deep order
      (subst (λ l. Holes T H t most last N number next p l letters) (append_assoc b c left) holes) in
      let k = each_begun (other_elements q r) qs (omega (arith, within)) deep h.order h.holes in
      both_begun (n + (part_count v + parts_of_all vs)) p b c (omega arith) h k
      (λ i j first others. element_says first others)

  entries_begun : {T : Table} {H : Bool} {t k e : TypeId} {most last around limit n number next : ℕ} {N : ℕ → Data}
      {ps : Pairs}
      {p b left letters : List ℕ} → ReachesEntries T t p k e around (pair_count ps) n → SpellsPairs T k e ps b
      → pairs_depth ps ≤ limit → most ≡ around + limit → number ≤ n → Holes T H t most last N number next p (b ++ left)
      letters
      → Begun T H t most last N (EntriesSay T H k e limit n N ps) n next (n + parts_of_pairs ps) (p ++ b) left letters
  entries_begun r spells.no_entry within deep order holes =
      nothing_begun order (record { parts = []; says = no_entry; counted = refl; json = refl })
      holes
  entries_begun {T = T} {H = H} {t = t} {k = k} {e = e} {most = most} {last = last} {limit = limit} {n = n}
      {number = number} {next = next} {N = N} {p = p}
      {left = left} {letters = letters} r (spells.entry {x = x} {v = v} {ps = ps} {a = a} {b = b} {c = c} o q qs) within
      deep order holes =
      let g = part_begun (first_key (pair_count ps) r) o (omega (arith, within)) deep order
      (subst (λ l. Holes T H t most last N number next p l letters)
      (append_assoc a (b ++ c) left ∙ ap (λ l. a ++ l) (append_assoc b c left)) holes) in
      let h = part_begun (first_value (pair_count ps) o r) q (omega (arith, within)) deep g.order g.holes in
      let j = entries_begun (other_entries o q r) qs (omega (arith, within)) deep h.order h.holes in
      let others = and_begun (n + (part_count x + (part_count v + parts_of_pairs ps))) (p ++ a) b c (omega arith) h j in
      both_begun (n + (part_count x + (part_count v + parts_of_pairs ps))) p a (b ++ c) (omega arith) g others
      (λ m l key both. subst (λ l. EntriesSay T H k e limit n N (Value.pair x v ps) (m ++ l)) (sym both.split)
      (entry_says key both.says both.more))

  fields_begun : {T : Table} {H : Bool} {t : TypeId} {types : List Field} {from most last around limit n number : ℕ}
      {next : ℕ} {N : ℕ → Data} {fs : Fields} {p b left letters : List ℕ} → ReachesFields T t p types from around n
      → SpellsFields T types from fs b → fields_depth fs ≤ limit → most ≡ around + limit → number ≤ n
      → Holes T H t most last N number next p (b ++ left) letters
      → Begun T H t most last N (FieldsSay T H types from limit n N fs) n next (n + parts_of_fields fs) (p ++ b) left
      letters
  fields_begun {number = number} {next = next} r (spells.end_of_fields {b = b} q) within deep order holes =
      let s = skipped b (number_has_none (first_delta r) refl q) holes in
      record {
        bytes = b;
        rest = s.rest;
        whole = s.whole;
        number = number;
        order = omega (arith, order);
        next = next;
        holes = s.holes;
        says = λ l. record { parts = []; says = end_of_fields q; json = refl };
        late = λ l. omega (arith, l);
      }
  fields_begun {T = T} {H = H} {t = t} {types = types} {from = from} {most = most} {last = last} {limit = limit} {n = n}
      {number = number} {next = next} {N = N} {p = p} {left = left} {letters = letters} r
      (spells.next_field {f = f} {v = v} {fs = fs} {a = a} {b = b} {c = c} under at q o qs) within deep order holes =
      let s = skipped a (number_has_none (first_delta r) refl q)
      (subst (λ l. Holes T H t most last N number next p l letters)
      (append_assoc a (b ++ c) left ∙ ap (λ l. a ++ l) (append_assoc b c left)) holes) in
      let h = part_begun (first_field under at q r) o (omega (arith, within)) deep order s.holes in
      let k = fields_begun (other_fields under at q o r) qs (omega (arith, within)) deep h.order h.holes in
      let both = and_begun (n + (part_count v + parts_of_fields fs)) (p ++ a) b c (omega arith) h k in
      behind_begun n (n + (part_count v + parts_of_fields fs)) p a (b ++ c) (omega arith) (omega arith) s both
      (λ m both. subst (λ l. FieldsSay T H types from limit n N (Value.field f v fs) (a ++ l)) (sym both.split)
      (field_says under at q both.says both.more))

-- ---- the value behind its tag
nothing_behind : {T : Table} {H : Bool} {t : TypeId} {most last : ℕ} {N : ℕ → Data} {number next : ℕ}
    {p left rest : List ℕ} → left ≡ [] → Holes T H t most last N number next p left rest
    → (rest ≡ []) × (last ≤ next)
nothing_behind none (no_hole o end nulls) = (none, end)
nothing_behind none (next_hole [] o at whole ex part nulls says more) =
    absurd (let n = ap length (sym none ∙ at) in omega (arith, n))
nothing_behind none (next_hole (x ∷ c) o at whole ex part nulls says more) =
    absurd (let n = ap length (sym none ∙ at) in omega (arith, n))

whole_says : {T : Table} {H : Bool} {t : TypeId} {most last limit first : ℕ} {N : ℕ → Data} {j : Data}
    {p letters : List ℕ} → Begun T H t most last N (λ m. Says T H t limit j m) 0 first (0 + last) p [] letters
    → Says T H t limit j letters
whole_says {T = T} {H = H} {t = t} {limit = limit} {j = j} h =
    let end = nothing_behind refl h.holes in
    let all = h.whole ∙ ap (λ l. h.bytes ++ l) end.0 ∙ append-nil h.bytes in
    subst (λ l. Says T H t limit j l) (sym all) (h.says (omega (arith, end.1)))

pub holes_say : {T : Table} {H : Bool} {t : TypeId} {limit next : ℕ} {N : ℕ → Data} {v : Tree} {b letters : List ℕ}
    → SpellsTop T t v b → depth v ≤ limit → Holes T H t limit (part_count v) N 0 next [] b letters
    → SaysTop T H t limit (value_json_with N T t 0 v) letters
holes_say {T = T} {H = H} {t = t} {limit = limit} {next = next} {N = N} {v = v} {letters = letters}
    (top.at_once {b = b} found is spelled) within holes =
    at_once found is (whole_says (part_begun (reaches_struct found is) spelled within (omega arith) (omega arith)
    (subst (λ l. Holes T H t limit (part_count v) N 0 next [] l letters) (sym (append-nil b)) holes)))
holes_say {T = T} {H = H} {t = t} {limit = limit} {next = next} {N = N} {v = v} {letters = letters}
    (top.tagged {b = b} found isnt spelled) within holes =
    let s = skipped (0 ∷ []) (number_has_none (place.at_tag found isnt) refl (short (omega arith))) holes in
    let value = whole_says (part_begun (reaches_tagged found isnt) spelled within (omega arith) (omega arith)
    (subst (λ l. Holes T H t limit (part_count v) N 0 next (0 ∷ []) l s.rest) (sym (append-nil b)) s.holes)) in
    subst (λ l. SaysTop T H t limit (value_json_with N T t 0 v) l) (sym s.whole) (tagged found isnt value)

-- ---- what is held
record Segment (s f : List ℕ) : Type 0 where
  count : List ℕ
  counted : IsUnsigned (length s) count
  whole : f ≡ count ++ s

-- bytes without a cut are one segment
one_segment : {s f : List ℕ} → AreBytes s → AreSegments s f → Segment s f
one_segment o (last_segment {c = c} s p q) = record { count = c; counted = q; whole = refl }
one_segment o (next_segment {ls = ls} s p q more) = absurd (omega (arith, (bytes_rest s (cut ∷ ls) o).0))

held_says : {T : Table} {H : Bool} {u : TypeId} {limit : ℕ} {a n f ls : List ℕ} {j : Data} (name : List ℕ) → IsTrue H
    → AreBytes name → 0 < length name → IsUnsigned (length name) a → MayPut T u → IsSigned (pos u.0) n
    → SaysTop T H u limit j ls → AreSegments ls f
    → SaysAs T H (kind.Basic basic.Interface) (limit + 1) (interface_json name u j) (a ++ (name ++ (n ++ f)))
held_says {T = T} {H = H} {u = u} {limit = limit} {a = a} {n = n} {ls = ls} {j = j} name on o some named may typed
    says segments =
    let s = one_segment (top_bytes says) segments in
    let one : limit ≡ limit + 1 - 1 = omega arith in
    subst (λ f. SaysAs T H (kind.Basic basic.Interface) (limit + 1) (interface_json name u j)
    (a ++ (name ++ (n ++ f)))) (sym s.whole)
    (of_held name on o some named may typed natural_number
    (subst (λ l. SaysTop T H u l j ls) one says) s.counted)

mutual
  pub filled_says : {base : Table} {L : Bounds} {T U : Table} {H : Bool} {t : TypeId} {limit : ℕ} {w : Filled}
      {v : Tree}
      {N : ℕ → Data} {ls : List ℕ} → IsTrue H → SpellsFilled base L T t limit w ls U → DefinesNothing w
      → FilledShows T t w v N → (U ≡ T) × SaysTop T H t limit (value_json_with N T t 0 v) ls
  filled_says {T = T} {t = t} {v = v} {N = N} on (with_fillings {fs = fs} {b = b} spelled within fills)
      (defines_nothing none) (filled_shows spelled' shows) =
      let r = holes_of b (part_count v) on fills none refl refl
      (subst (λ l. FillingsShow T t l 0 0 fs N) (one_top spelled' spelled) shows) in
      (r.0, holes_say spelled within r.1.1)

  holes_of : {base : Table} {L : Bounds} {T U X : Table} {H : Bool} {t : TypeId} {limit from number : ℕ} {N : ℕ → Data}
      {done left ls : List ℕ} {fs : Fillings} (whole : List ℕ) (last : ℕ) → IsTrue H
      → Fills base L T t limit U done left fs ls X → DefineNothing fs → whole ≡ done ++ left → U ≡ T
      → FillingsShow T t whole from number fs N
      → (X ≡ T) × ((next : ℕ) × Holes T H t limit last N number next done left ls)
  holes_of whole last on (as_it_stands o) none_defines at same (none_left nulls) =
      (same, (last, no_hole o (omega arith) nulls))
  holes_of {T = T} {H = H} {t = t} {limit = limit} {N = N} {done = done} whole last on
      (next_filled {u = u} {d = d} {left = left} {s = s} {a = a} {n = n} {f = f} {ls = ls} {ms = ms} {v = w} c o ex some
      named size none_defined may typed inner segments more) (and_defines nothing none) at same
      (then_shown {n = k} {raws = raws} {v = v} {M = M} low high part order nulls shows is others) =
      let i = filled_says on inner nothing (subst (λ V. FilledShows V u w v M) (sym same) shows) in
      let value : SaysTop T H u (limit - d) (value_json_with M T u 0 v) ls =
      subst (λ V. SaysTop V H u (limit - d) (value_json_with M V u 0 v) ls) same i.1 in
      let split : whole ≡ (done ++ c) ++ (0 ∷ left) = at ∙ sym (append_assoc done c (0 ∷ left)) in
      let taken : take (length (done ++ c)) whole ≡ done ++ c =
      ap (λ l. take (length (done ++ c)) l) split ∙ take-append_seam (done ++ c) (0 ∷ left) in
      let behind : whole ≡ (done ++ (c ++ 0 ∷ [])) ++ left =
      at ∙ ap (λ l. done ++ l) (sym (append_assoc c (0 ∷ []) left)) ∙ sym (append_assoc done (c ++ 0 ∷ []) left) in
      let r = holes_of whole last on more none behind (i.0 ∙ same) others in
      let held = held_says s on named some size (subst (λ V. MayPut V u) same may) typed value segments in (
        r.0,
        (
          k,
          next_hole c o refl refl ex (subst (λ l. PartialBody T t l k raws) taken part) nulls
              (subst (λ j. SaysAs T H (kind.Basic basic.Interface) (limit - d + 1) j (a ++ (s ++ (n ++ f)))) (sym is)
              held) r.1.1,
        ),
      )
  holes_of whole last on
      (next_filled c o ex some named size (one_defined p q rest) may typed inner segments more) none at same
      shows =
      elim none [ ]

-- one whose interfaces hold nothing
unfilled_says : {base : Table} {L : Bounds} {T U : Table} {H : Bool} {t : TypeId} {limit : ℕ} {v u : Tree}
    {N : ℕ → Data} {ls : List ℕ} → SpellsFilled base L T t limit (filled v no_filling) ls U
    → FilledShows T t (filled v no_filling) u N → (U ≡ T) × SaysTop T H t limit (value_json_with N T t 0 u) ls
unfilled_says {u = u} (with_fillings spelled within (as_it_stands o)) (filled_shows spelled' (none_left nulls)) =
    (refl, holes_say {next = part_count u} spelled within (no_hole o (omega arith) nulls))

-- either, where interfaces may hold values only where that is asked for
pub value_says : {base : Table} {L : Bounds} {T U : Table} {t : TypeId} {limit : ℕ} {w : Filled} {v : Tree}
    {N : ℕ → Data} {ls : List ℕ} (H : Bool) → SpellsFilled base L T t limit w ls U → DefinesNothing w
    → (H ≡ false → HoldsNothing w) → FilledShows T t w v N
    → (U ≡ T) × SaysTop T H t limit (value_json_with N T t 0 v) ls
value_says true spelled nothing holds shows = filled_says refl spelled nothing shows
value_says {base = base} {L = L} {T = T} {U = U} {t = t} {limit = limit} {w = filled u fs} {v = v} {N = N} {ls = ls}
    false spelled nothing holds shows =
    unfilled_says (subst (λ fs. SpellsFilled base L T t limit (filled u fs) ls U) (holds refl) spelled)
    (subst (λ fs. FilledShows T t (filled u fs) v N) (holds refl) shows)
