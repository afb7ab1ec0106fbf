-- The lines of the parts of a value, straight from its bytes.
use Rattle.std.proofs.Common.{◌≡◌, ◌∙◌, ℕ, ◌+◌, ◌-◌, ◌≤◌, List, [], ◌∷◌, ◌++◌, append_assoc, append-nil}
use Rattle.std.proofs.Common.{arith, ap, Bool, true, false, Option, Some, None, drop, length, refl}
use Rattle.std.proofs.Common.{subst, sym, take}
use Rattle.std.proofs.lemmas.Grind.{flat_map-append}
use Rattle.std.proofs.lemmas.List.{drop-drop, drop_all, take-append-drop}
use Rattle.std.proofs.lemmas.List.Elements.{All-append, All-nil}
use Rattle.std.specs.List.{flat_map}
use Rattle.std.specs.Prelude.{if◌then◌else◌, slice_get, unwrap_or}
use Rattle.json.specs.Json.{Items, Json, array, item, no_items}
use Rattle.json_parts.specs.Parts.{elements, pairs, parts_of}
use Rattle.json_parts.specs.declared.parts.Form.{Form}
use Rattle.json_parts.specs.declared.parts.Form.TheVariants as form
use Rattle.gob_num.specs.Spelled.{Appends}
use Rattle.gob_num.specs.Unsigned.{IsUnsigned}
use Rattle.gob_types.proofs.PublicLaws.{some_injective}
use Rattle.gob_types.specs.KindParts.{elem_named, key_named}
use Rattle.gob_types.specs.Table.{Table, shape_of}
use Rattle.gob_types.specs.declared.id.TypeId.{TypeId}
use Rattle.gob_types.specs.declared.kind.Kind.{Kind}
use Rattle.gob_types.specs.declared.kind.Kind.TheVariants as kind
use Rattle.gob_types.specs.declared.kind.Shape.{Shape}
use Rattle.gob_value.specs.Machine.Begins.{BeginsThisNumber, HoldsBetween}
use Rattle.gob_value.specs.Spelling.{SpellsAs, SpellsEach, SpellsPairs, element, entry, no_element, no_entry}
use Rattle.gob_value.specs.Spelling.{of_map}
use Rattle.gob_value.specs.Spelling.{of_slice, of_type}
use Rattle.gob_value.specs.Top.{IsStruct, SpellsTop, tagged}
use Rattle.gob_value.specs.Tree.{Pairs, Tree, Trees, many, no_pair, no_tree, pair, pair_count, pairs_depth}
use Rattle.gob_value.specs.Tree.{tree, tree_count, trees_depth}
use Rattle.gob_value.specs.Tree as value
use Rattle.gob_json.specs.Json.{element_type, key_type, no_type}
use Rattle.gob_plain.specs.Filled.{SaysListed, SaysPairsIn, SaysValue, all_filled, filled, listed_pairs, pairs_filled}
use Rattle.gob_plain.specs.Filled.{pairs_of, shown_pairs}
use Rattle.gob_plain.specs.OpaqueText.{Takes, content_in}
use Rattle.gob_plain.specs.Plain.{SaysWith, SayEachWith, SayPairsWith, all_null}
use Rattle.gob_plain.specs.declared.style.Style.{Style}
use Rattle.gob_views.specs.Machine.Lines.{AreStyledLines}
use Rattle.gob_views.specs.Machine.PartLines.{AreElements, AreEntries, AreLines, AreParts, ArePartsIn, ArePut}
use Rattle.gob_views.specs.Machine.PartLines.{EndInParts, HasParts, HasWholeParts, IsMapType, IsSliceType, PrintsEach}
use Rattle.gob_views.specs.Machine.PartLines.{SayElements, SayEntries, SaysLines}
use Rattle.gob_views.specs.Values.{AreLinesBehind, IsReadBack, json_line, line_jsons, parts_form, parts_form_at}
use Rattle.gob_views.specs.Values.{parts_in}
use Rattle.gob_views.specs.declared.body_lines.PartTypes.{PartTypes}
use Rattle.gob_views.specs.declared.body_lines.PartTypes.TheVariants as part
use Rattle.gob_views.specs.declared.body_lines.PartsAhead.{PartsAhead}
use Rattle.gob_views.specs.declared.value_line.ValueLines.{ValueLines}

-- ---- in front of the parts

-- a body behind its tag and a count
counted_body : {n end : ℕ} {body : List ℕ} → slice_get body 0 ≡ Some 0
    → (h : HoldsBetween (BeginsThisNumber n) body 1 end) → 0 ∷ (h.begins.bytes ++ drop end body) ≡ body
counted_body {body = []} e h = absurd (let m = h.inside in let o = h.order in omega (arith, m, o))
counted_body {body = b ∷ bs} e h =
    sym (ap (λ (x : ℕ). x ∷ bs) (some_injective e) ∙ ap (λ (l : List ℕ). 0 ∷ l) h.begins.whole)

-- a value of a kind that isn't a struct, behind both
counted_top : {T : Table} {t : TypeId} {s : Shape} {n end : ℕ} {body : List ℕ} (k : Kind) (v : Tree)
    → shape_of T t ≡ Some s → s.kind ≡ k → ¬ IsStruct k → slice_get body 0 ≡ Some 0
    → (h : HoldsBetween (BeginsThisNumber n) body 1 end) → SpellsAs T k v (h.begins.bytes ++ drop end body)
    → SpellsTop T t v body
counted_top {T = T} {t = t} {end = end} {body = body} k v known is other first h spells =
    subst (SpellsTop T t v) (counted_body first h)
    (tagged known (subst (λ (k : Kind). ¬ IsStruct k) (sym is) other)
    (of_type known (subst (λ (k : Kind). SpellsAs T k v (h.begins.bytes ++ drop end body)) (sym is) spells)))

pub counts : {n m : ℕ} {b : List ℕ} → IsUnsigned n b → m ≡ n → IsUnsigned m b
counts {b = b} p e = subst (λ (m : ℕ). IsUnsigned m b) (sym e) p

pub slice_parts : {T : Table} {t e : TypeId} {s : Shape} {n begin : ℕ} {body : List ℕ} → shape_of T t ≡ Some s
    → s.kind ≡ kind.Slice e → slice_get body 0 ≡ Some 0
    → HoldsBetween (BeginsThisNumber n) body 1 begin
    → ArePartsIn T t body (record { parts = part.Element e; count = n; begin = begin })
slice_parts {e = e} {s = s} known is first h = record {
  inside = h.inside;
  type_is = record { shape = s; known = known; is = is };
  counted = h.begins.bytes;
  counts = h.begins.spelled;
  whole = sym (counted_body first h);
  ends = λ vs c each. counted_top (kind.Slice e) (many vs) known is (λ x. x) first h
      (of_slice (counts h.begins.spelled c) each);
}

pub map_parts : {T : Table} {t k e : TypeId} {s : Shape} {n begin : ℕ} {body : List ℕ} → shape_of T t ≡ Some s
    → s.kind ≡ kind.Map k e → slice_get body 0 ≡ Some 0
    → HoldsBetween (BeginsThisNumber n) body 1 begin
    → ArePartsIn T t body (record { parts = part.Entry k e; count = n; begin = begin })
map_parts {k = k} {e = e} {s = s} known is first h = record {
  inside = h.inside;
  type_is = record { shape = s; known = known; is = is };
  counted = h.begins.bytes;
  counts = h.begins.spelled;
  whole = sym (counted_body first h);
  ends = λ ps c each. counted_top (kind.Map k e) (value.pairs ps) known is (λ x. x) first h
      (of_map (counts h.begins.spelled c) each);
}

-- ---- what is said of elements

none_said : (z : Bool) (how : Takes) (T : Table) (e : TypeId)
    → SayEachWith all_null how T e (if z then all_filled T e no_tree else no_tree) no_items
none_said true how T e = tt
none_said false how T e = tt

list_in : (z : Bool) (how : Takes) (T : Table) (t e : TypeId) (vs : Trees) (js : Items)
    → element_type (shape_of T t) ≡ e → SayEachWith all_null how T e (if z then all_filled T e vs else vs) js
    → SaysWith all_null how T t (if z then filled T t (many vs) else (many vs)) (array js)
list_in true how T t e vs js el p =
    (js, refl, subst (λ (e : TypeId). SayEachWith all_null how T e (all_filled T e vs) js) (sym el) p)
list_in false how T t e vs js el p =
    (js, refl, subst (λ (e : TypeId). SayEachWith all_null how T e vs js) (sym el) p)

list_out : (z : Bool) (how : Takes) (T : Table) (t e : TypeId) (vs : Trees) (j : Json)
    → element_type (shape_of T t) ≡ e → SaysWith all_null how T t (if z then filled T t (many vs) else (many vs)) j
    → (js : Items) × (j ≡ array js) × SayEachWith all_null how T e (if z then all_filled T e vs else vs) js
list_out true how T t e vs j el p =
    (p.0, p.1, subst (λ (e : TypeId). SayEachWith all_null how T e (all_filled T e vs) p.0) el p.2)
list_out false how T t e vs j el p =
    (p.0, p.1, subst (λ (e : TypeId). SayEachWith all_null how T e vs p.0) el p.2)

list_as_ever : (style : Style) (vs : Trees) → listed_pairs style (many vs) ≡ None
list_as_ever style vs = by style.pairs
  where
    by : (b : Bool) → (if b then pairs_of (many vs) else None) ≡ None
    by true = refl
    by false = refl

module _ (T : Table) (t e : TypeId) (l : IsSliceType T t e) where
  elem_in : element_type (shape_of T t) ≡ e
  elem_in = ap element_type l.known ∙ ap (λ (k : Kind). unwrap_or (elem_named k) no_type) l.is

-- ---- elements before others

abbrev pub both_trees : Trees → Trees → Trees
both_trees no_tree ws = ws
both_trees (tree v vs) ws = tree v (both_trees vs ws)

abbrev both_items : Items → Items → Items
both_items no_items ks = ks
both_items (item j js) ks = item j (both_items js ks)

elements_both : (js ks : Items) → elements (both_items js ks) ≡ elements js ++ elements ks
elements_both no_items ks = refl
elements_both (item j js) ks = ap (λ (l : List Json). j ∷ l) (elements_both js ks)

filled_both : (T : Table) (e : TypeId) (vs ws : Trees)
    → all_filled T e (both_trees vs ws) ≡ both_trees (all_filled T e vs) (all_filled T e ws)
filled_both T e no_tree ws = refl
filled_both T e (tree v vs) ws = ap (λ (us : Trees). tree (filled T e v) us) (filled_both T e vs ws)

said_both : (how : Takes) (T : Table) (e : TypeId) (vs ws : Trees) (js ks : Items)
    → SayEachWith all_null how T e vs js → SayEachWith all_null how T e ws ks
    → SayEachWith all_null how T e (both_trees vs ws) (both_items js ks)
said_both how T e no_tree ws no_items ks p q = q
said_both how T e no_tree ws (item j js) ks p q = absurd p
said_both how T e (tree v vs) ws no_items ks p q = absurd p
said_both how T e (tree v vs) ws (item j js) ks p q = (p.0, said_both how T e vs ws js ks p.1 q)

said_both_in : (z : Bool) (how : Takes) (T : Table) (e : TypeId) (vs ws : Trees) (js ks : Items)
    → SayEachWith all_null how T e (if z then all_filled T e vs else vs) js
    → SayEachWith all_null how T e (if z then all_filled T e ws else ws) ks
    → SayEachWith all_null how T e (if z then all_filled T e (both_trees vs ws) else (both_trees vs ws))
    (both_items js ks)
said_both_in true how T e vs ws js ks p q =
    subst (λ (us : Trees). SayEachWith all_null how T e us (both_items js ks)) (sym (filled_both T e vs ws))
    (said_both how T e (all_filled T e vs) (all_filled T e ws) js ks p q)
said_both_in false how T e vs ws js ks p q = said_both how T e vs ws js ks p q

elements_before : (style : Style) (T : Table) (e : TypeId) (vs ws : Trees) (js ks : List Json)
    → SayElements style T e vs js → SayElements style T e ws ks → SayElements style T e (both_trees vs ws) (js ++ ks)
elements_before style T e vs ws js ks p q = (
  both_items p.0 q.0,
  said_both_in style.zeros (content_in style) T e vs ws p.0 q.0 p.1 q.1,
  ap (λ (l : List Json). l ++ ks) p.2 ∙ ap (λ (l : List Json). elements p.0 ++ l) q.2
      ∙ sym (elements_both p.0 q.0),
)

spelled_both : {T : Table} {e : TypeId} {vs ws : Trees} {b c : List ℕ} → SpellsEach T e vs b → SpellsEach T e ws c
    → SpellsEach T e (both_trees vs ws) (b ++ c)
spelled_both no_element q = q
spelled_both {T = T} {e = e} {ws = ws} {c = c} (element {v = v} {vs = vs} {b = a} {c = b} p ps) q =
    subst (SpellsEach T e (tree v (both_trees vs ws))) (sym (append_assoc a b c)) (element p (spelled_both ps q))

pub count_both : (vs ws : Trees) → tree_count (both_trees vs ws) ≡ tree_count vs + tree_count ws
count_both no_tree ws = omega arith
count_both (tree v vs) ws = omega (arith, count_both vs ws)

within_both : (vs ws : Trees) (limit : ℕ) → trees_depth vs ≤ limit → trees_depth ws ≤ limit
    → trees_depth (both_trees vs ws) ≤ limit
within_both no_tree ws limit p q = q
within_both (tree v vs) ws limit p q =
    let r = within_both vs ws limit (omega (arith, p)) q in omega (arith, p, r)

-- ---- what is said of entries

module _ (T : Table) (t k e : TypeId) (m : IsMapType T t k e) where
  key_is : key_type (shape_of T t) ≡ k
  key_is = ap key_type m.known ∙ ap (λ (k : Kind). unwrap_or (key_named k) no_type) m.is

  elem_is : element_type (shape_of T t) ≡ e
  elem_is = ap element_type m.known ∙ ap (λ (k : Kind). unwrap_or (elem_named k) no_type) m.is

  -- the entries in an array
  abbrev InArray : Style → Pairs → Json → Type 0
  InArray style ps j = (js : Items) × (j ≡ array js)
      × SayPairsWith all_null (content_in style) T k e (shown_pairs style T k e ps) js

  module _ (style : Style) (ps : Pairs) (j : Json) (on : style.pairs ≡ true) where
    listed : listed_pairs style (value.pairs ps) ≡ Some ps
    listed = ap (λ (b : Bool). if b then Some ps else None) on

    map_out : SaysValue style T t (value.pairs ps) j → InArray style ps j
    map_out p =
        subst (λ (e : TypeId). SaysPairsIn all_null style T k e ps j) elem_is
        (subst (λ (k : TypeId). SaysPairsIn all_null style T k (element_type (shape_of T t)) ps j) key_is
        (subst (λ (o : Option Pairs). SaysListed o all_null style T t (value.pairs ps) j) listed p))

    map_in : InArray style ps j → SaysValue style T t (value.pairs ps) j
    map_in p =
        subst (λ (o : Option Pairs). SaysListed o all_null style T t (value.pairs ps) j) (sym listed)
        (subst (λ (k : TypeId). SaysPairsIn all_null style T k (element_type (shape_of T t)) ps j) (sym key_is)
        (subst (λ (e : TypeId). SaysPairsIn all_null style T k e ps j) (sym elem_is) p))

-- ---- entries before others

abbrev pub both_pairs : Pairs → Pairs → Pairs
both_pairs no_pair qs = qs
both_pairs (pair x v ps) qs = pair x v (both_pairs ps qs)

pairs_both : (js ks : Items) → pairs (both_items js ks) ≡ pairs js ++ pairs ks
pairs_both no_items ks = refl
pairs_both (item j js) ks = ap (λ (l : List Json). pairs (item j no_items) ++ l) (pairs_both js ks)

pairs_filled_both : (T : Table) (k e : TypeId) (ps qs : Pairs)
    → pairs_filled T k e (both_pairs ps qs) ≡ both_pairs (pairs_filled T k e ps) (pairs_filled T k e qs)
pairs_filled_both T k e no_pair qs = refl
pairs_filled_both T k e (pair x v ps) qs =
    ap (λ (rs : Pairs). pair (filled T k x) (filled T e v) rs) (pairs_filled_both T k e ps qs)

items_said : (how : Takes) (T : Table) (k e : TypeId) (ps qs : Pairs) (js ks : Items)
    → SayPairsWith all_null how T k e ps js → SayPairsWith all_null how T k e qs ks
    → SayPairsWith all_null how T k e (both_pairs ps qs) (both_items js ks)
items_said how T k e no_pair qs no_items ks p q = q
items_said how T k e no_pair qs (item j js) ks p q = absurd p
items_said how T k e (pair x v ps) qs no_items ks p q = absurd p
items_said how T k e (pair x v ps) qs (item j js) ks p q = (p.0, items_said how T k e ps qs js ks p.1 q)

items_in : (z : Bool) (how : Takes) (T : Table) (k e : TypeId) (ps qs : Pairs) (js ks : Items)
    → SayPairsWith all_null how T k e (if z then pairs_filled T k e ps else ps) js
    → SayPairsWith all_null how T k e (if z then pairs_filled T k e qs else qs) ks
    → SayPairsWith all_null how T k e (if z then pairs_filled T k e (both_pairs ps qs) else (both_pairs ps qs))
    (both_items js ks)
items_in true how T k e ps qs js ks p q =
    subst (λ (rs : Pairs). SayPairsWith all_null how T k e rs (both_items js ks)) (sym (pairs_filled_both T k e ps qs))
    (items_said how T k e (pairs_filled T k e ps) (pairs_filled T k e qs) js ks p q)
items_in false how T k e ps qs js ks p q = items_said how T k e ps qs js ks p q

entries_before : (style : Style) (T : Table) (k e : TypeId) (ps qs : Pairs) (js ks : List Json)
    → SayEntries style T k e ps js → SayEntries style T k e qs ks
    → SayEntries style T k e (both_pairs ps qs) (js ++ ks)
entries_before style T k e ps qs js ks p q = (
  both_items p.0 q.0,
  items_in style.zeros (content_in style) T k e ps qs p.0 q.0 p.1 q.1,
  ap (λ (l : List Json). l ++ ks) p.2 ∙ ap (λ (l : List Json). pairs p.0 ++ l) q.2 ∙ sym (pairs_both p.0 q.0),
)

pairs_spelled_both : {T : Table} {k e : TypeId} {ps qs : Pairs} {b c : List ℕ} → SpellsPairs T k e ps b
    → SpellsPairs T k e qs c → SpellsPairs T k e (both_pairs ps qs) (b ++ c)
pairs_spelled_both no_entry q = q
pairs_spelled_both {T = T} {k = k} {e = e} {qs = qs} {c = d} (entry {x = x} {v = v} {ps = ps} {a = a} {b = b} {c = c}
    p r rs) q =
    subst (SpellsPairs T k e (pair x v (both_pairs ps qs)))
    (ap (λ (l : List ℕ). a ++ l) (sym (append_assoc b c d)) ∙ sym (append_assoc a (b ++ c) d))
    (entry p r (pairs_spelled_both rs q))

pub pair_count_both : (ps qs : Pairs) → pair_count (both_pairs ps qs) ≡ pair_count ps + pair_count qs
pair_count_both no_pair qs = omega arith
pair_count_both (pair x v ps) qs = omega (arith, pair_count_both ps qs)

pairs_within_both : (ps qs : Pairs) (limit : ℕ) → pairs_depth ps ≤ limit → pairs_depth qs ≤ limit
    → pairs_depth (both_pairs ps qs) ≤ limit
pairs_within_both no_pair qs limit p q = q
pairs_within_both (pair x v ps) qs limit p q =
    let r = pairs_within_both ps qs limit (omega (arith, p)) q in omega (arith, p, r)

no_items_said : (z : Bool) (how : Takes) (T : Table) (k e : TypeId)
    → SayPairsWith all_null how T k e (if z then pairs_filled T k e no_pair else no_pair) no_items
no_items_said true how T k e = tt
no_items_said false how T k e = tt

-- ---- lines

lines_before : {lines : ValueLines} {T : Table} {t : TypeId} {Say Others All : List Json → Type 0} {made more : List ℕ}
    → ((js ks : List Json) → Say js → Others ks → All (js ++ ks)) → AreLines lines T t Say made
    → AreLines lines T t Others more → AreLines lines T t All (made ++ more)
lines_before {lines = lines} {T = T} {t = t} {more = more} both p q = record {
  jsons = p.jsons ++ q.jsons;
  said = both p.jsons q.jsons p.said q.said;
  made = ap (λ (l : List ℕ). l ++ more) p.made
      ∙ ap (λ (l : List ℕ). flat_map (json_line lines T t) p.jsons ++ l) q.made
      ∙ sym (flat_map-append (json_line lines T t) p.jsons q.jsons);
  read = All-append (IsReadBack lines T t) p.jsons q.jsons p.read q.read;
}

lines_put : {lines : ValueLines} {T : Table} {t : TypeId} {Say : List Json → Type 0} {js : List Json} {old new : List ℕ}
    → Say js → AreLinesBehind lines T t js old new → AreLines lines T t Say (flat_map (json_line lines T t) js)
lines_put {js = js} p b = record { jsons = js; said = p; made = refl; read = b.read }

form_lines : {f : Form} (lines : ValueLines) (T : Table) (t : TypeId) (j : Json) → parts_form_at (shape_of T t) ≡ Some f
    → lines.each ≡ true → line_jsons lines T t j ≡ parts_of f j
form_lines lines T t j is on =
    ap (λ (o : Option Form). parts_in o j) (ap (λ (b : Bool). if b then parts_form_at (shape_of T t) else None) on
    ∙ is)

-- ---- parts that are printed

-- the lines that were appended are those of the parts that these bytes are
pub record ArePrinted (Are : (bytes : List ℕ) → (count : ℕ) → (text : List ℕ) → Type 0) (bytes : List ℕ) (n : ℕ)
    (old new : List ℕ) : Type 0 where
  pub made : List ℕ
  pub behind : new ≡ old ++ made
  pub are : Are bytes n made

pub elements_are : {lines : ValueLines} {style : Style} {T : Table} {t e : TypeId} {limit n : ℕ} {bytes : List ℕ}
    {old new : List ℕ} → PrintsEach lines style → IsSliceType T t e → (vs : Trees) → SpellsEach T e vs bytes
    → trees_depth vs ≤ limit → tree_count vs ≡ n
    → ((v : Tree) → ((c : List ℕ) → IsUnsigned n c → SpellsTop T t v (0 ∷ (c ++ bytes)))
    → SaysLines lines style T t v old new)
    → ArePrinted (AreParts lines style T t limit (part.Element e)) bytes n old new
elements_are {lines = lines} {style = style} {T = T} {t = t} {e = e} {n = n} {bytes = bytes} {old = old} {new = new}
    on l vs spelled within counted line =
    let s = line (many vs) (λ c u. tagged l.known
    (subst (λ (k : Kind). ¬ IsStruct k) (sym l.is) (λ x. x))
    (of_type l.known (subst (λ (k : Kind). SpellsAs T k (many vs) (c ++ bytes)) (sym l.is)
    (of_slice (counts u counted) spelled)))) in
    let p = list_out style.zeros (content_in style) T t e vs s.0 (elem_in T t e l)
    (subst (λ (o : Option Pairs). SaysListed o all_null style T t (many vs) s.0) (list_as_ever style vs) s.1) in
    let js = form_lines lines T t s.0 (ap parts_form_at l.known ∙ ap parts_form l.is) on.0
    ∙ ap (parts_of form.Elements) p.1 in
    let behind = subst (λ (js : List Json). AreLinesBehind lines T t js old new) js s.2 in
    let said : SayElements style T e vs (elements p.0) = (p.0, p.2, refl) in
    record {
      made = flat_map (json_line lines T t) (elements p.0);
      behind = behind.made;
      are = record {
        values = vs;
        spelled = spelled;
        within = within;
        counted = counted;
        printed = lines_put said behind;
      };
    }

pub entries_are : {lines : ValueLines} {style : Style} {T : Table} {t k e : TypeId} {limit n : ℕ} {bytes : List ℕ}
    {old new : List ℕ} → PrintsEach lines style → IsMapType T t k e → (ps : Pairs) → SpellsPairs T k e ps bytes
    → pairs_depth ps ≤ limit → pair_count ps ≡ n
    → ((v : Tree) → ((c : List ℕ) → IsUnsigned n c → SpellsTop T t v (0 ∷ (c ++ bytes)))
    → SaysLines lines style T t v old new)
    → ArePrinted (AreParts lines style T t limit (part.Entry k e)) bytes n old new
entries_are {lines = lines} {style = style} {T = T} {t = t} {k = k} {e = e} {n = n} {bytes = bytes} {old = old}
    {new = new} on l ps spelled within counted line =
    let s = line (value.pairs ps) (λ c u. tagged l.known
    (subst (λ (k : Kind). ¬ IsStruct k) (sym l.is) (λ x. x))
    (of_type l.known (subst (λ (k : Kind). SpellsAs T k (value.pairs ps) (c ++ bytes)) (sym l.is)
    (of_map (counts u counted) spelled)))) in
    let p = map_out T t k e l style ps s.0 on.1 s.1 in
    let js = form_lines lines T t s.0 (ap parts_form_at l.known ∙ ap parts_form l.is) on.0
    ∙ ap (parts_of form.Pairs) p.1 in
    let said : SayEntries style T k e ps (pairs p.0) = (p.0, p.2, refl) in
    let behind = subst (λ (js : List Json). AreLinesBehind lines T t js old new) js s.2 in
    record {
      made = flat_map (json_line lines T t) (pairs p.0);
      behind = behind.made;
      are = record {
        values = ps;
        spelled = spelled;
        within = within;
        counted = counted;
        printed = lines_put said behind;
      };
    }

-- ---- no parts

none_printed : {lines : ValueLines} {T : Table} {t : TypeId} {Say : List Json → Type 0} → Say []
    → AreLines lines T t Say []
none_printed {lines = lines} {T = T} {t = t} p =
    record { jsons = []; said = p; made = refl; read = All-nil (IsReadBack lines T t) }

pub no_parts : (lines : ValueLines) (style : Style) (T : Table) (t : TypeId) (limit n : ℕ) (p : PartTypes)
    (bytes : List ℕ)
    → bytes ≡ [] → n ≡ 0 → AreParts lines style T t limit p bytes n []
no_parts lines style T t limit n (part.Element e) bytes none zero = record {
  values = no_tree;
  spelled = subst (SpellsEach T e no_tree) (sym none) no_element;
  within = omega arith;
  counted = sym zero;
  printed = none_printed (no_items, none_said style.zeros (content_in style) T e, refl);
}
no_parts lines style T t limit n (part.Entry k e) bytes none zero = record {
  values = no_pair;
  spelled = subst (SpellsPairs T k e no_pair) (sym none) no_entry;
  within = omega arith;
  counted = sym zero;
  printed = none_printed (no_items, no_items_said style.zeros (content_in style) T k e, refl);
}

-- ---- one behind another

pub parts_then : (lines : ValueLines) (style : Style) (T : Table) (t : TypeId) (limit : ℕ) (p : PartTypes)
    (b c : List ℕ) (n m : ℕ) (text more : List ℕ) → AreParts lines style T t limit p b n text
    → AreParts lines style T t limit p c m more → AreParts lines style T t limit p (b ++ c) (n + m) (text ++ more)
parts_then lines style T t limit (part.Element e) b c n m text more p q = record {
  values = both_trees p.values q.values;
  spelled = spelled_both p.spelled q.spelled;
  within = within_both p.values q.values limit p.within q.within;
  counted = count_both p.values q.values ∙ ap (λ (i : ℕ). i + tree_count q.values) p.counted
      ∙ ap (λ (i : ℕ). n + i) q.counted;
  printed = lines_before (elements_before style T e p.values q.values) p.printed q.printed;
}
parts_then lines style T t limit (part.Entry k e) b c n m text more p q = record {
  values = both_pairs p.values q.values;
  spelled = pairs_spelled_both p.spelled q.spelled;
  within = pairs_within_both p.values q.values limit p.within q.within;
  counted = pair_count_both p.values q.values ∙ ap (λ (i : ℕ). i + pair_count q.values) p.counted
      ∙ ap (λ (i : ℕ). n + i) q.counted;
  printed = lines_before (entries_before style T k e p.values q.values) p.printed q.printed;
}

-- from one place of the body up to the other parts stand, and the text has their lines; so many are left of them all
pub record AreMade (Are : (bytes : List ℕ) → (count : ℕ) → (text : List ℕ) → Type 0) (body : List ℕ)
    (begin at left count : ℕ) (old text : List ℕ) : Type 0 where
  pub spelled : List ℕ
  pub first : ℕ
  pub made : List ℕ
  pub whole : drop begin body ≡ spelled ++ drop at body
  pub counted : count ≡ first + left
  pub behind : text ≡ old ++ made
  pub are : Are spelled first made

pub none_made : (lines : ValueLines) (style : Style) (T : Table) (t : TypeId) (limit : ℕ) (p : PartTypes)
    {at count : ℕ} {body text : List ℕ} → AreMade (AreParts lines style T t limit p) body at at count count text text
none_made lines style T t limit p {text = text} = record {
  spelled = [];
  first = 0;
  made = [];
  whole = refl;
  counted = omega arith;
  behind = sym (append-nil text);
  are = no_parts lines style T t limit 0 p [] refl refl;
}

pub more_made : (lines : ValueLines) (style : Style) (T : Table) (t : TypeId) (limit : ℕ) (p : PartTypes)
    {begin at size end left next n count : ℕ} {body old text new : List ℕ}
    → AreMade (AreParts lines style T t limit p) body begin at left count old text → end ≡ at + size
    → n + next ≡ left → ArePut (AreParts lines style T t limit p) (drop at body) n size text new
    → AreMade (AreParts lines style T t limit p) body begin end next count old new
more_made lines style T t limit p {at = at} {size = size} {n = n} {body = body} {old = old} m to up g = record {
  spelled = m.spelled ++ take size (drop at body);
  first = m.first + n;
  made = m.made ++ g.made;
  whole = m.whole
      ∙ ap (λ (l : List ℕ). m.spelled ++ l) (sym (take-append-drop size (drop at body))
      ∙ ap (λ (l : List ℕ). take size (drop at body) ++ l)
      (drop-drop size at body ∙ ap (λ (k : ℕ). drop k body) (sym to)))
      ∙ sym (append_assoc m.spelled (take size (drop at body)) _);
  counted = omega (arith, m.counted, up);
  behind = g.behind ∙ ap (λ (l : List ℕ). l ++ g.made) m.behind ∙ append_assoc old m.made g.made;
  are = parts_then lines style T t limit p m.spelled (take size (drop at body)) m.first n m.made g.made m.are g.are;
}

-- ---- all of them

whole_list : {lines : ValueLines} {style : Style} {T : Table} {t e : TypeId} {limit deep count : ℕ}
    {body rest text : List ℕ} → limit + 1 ≡ deep → PrintsEach lines style → IsSliceType T t e
    → ((vs : Trees) → tree_count vs ≡ count → SpellsEach T e vs rest → SpellsTop T t (many vs) body)
    → AreElements lines style T t limit e rest count text → AreStyledLines lines style T t deep body text
whole_list {lines = lines} {style = style} {T = T} {t = t} {e = e} {text = text} up on l spells a =
    let d = a.within in
    let p = a.printed in
    let said = p.said in
    let js = p.said.2 ∙ sym (form_lines lines T t (array said.0) (ap parts_form_at l.known ∙ ap parts_form l.is) on.0)
    in (
      record {
        value = many a.values;
        spelled = spells a.values a.counted a.spelled;
        within = omega (arith, d, up);
      },
      array said.0,
      subst (λ (o : Option Pairs). SaysListed o all_null style T t (many a.values) (array said.0))
          (sym (list_as_ever style a.values))
          (list_in style.zeros (content_in style) T t e a.values said.0 (elem_in T t e l) said.1),
      subst (λ (js : List Json). AreLinesBehind lines T t js [] text) js (record { made = p.made; read = p.read }),
    )

whole_map : {lines : ValueLines} {style : Style} {T : Table} {t k e : TypeId} {limit deep count : ℕ}
    {body rest text : List ℕ} → limit + 1 ≡ deep → PrintsEach lines style → IsMapType T t k e
    → ((ps : Pairs) → pair_count ps ≡ count → SpellsPairs T k e ps rest → SpellsTop T t (value.pairs ps) body)
    → AreEntries lines style T t limit k e rest count text → AreStyledLines lines style T t deep body text
whole_map {lines = lines} {style = style} {T = T} {t = t} {k = k} {e = e} {text = text} up on l spells a =
    let d = a.within in
    let p = a.printed in
    let said = p.said in
    let js = p.said.2 ∙ sym (form_lines lines T t (array said.0) (ap parts_form_at l.known ∙ ap parts_form l.is) on.0)
    in (
      record {
        value = value.pairs a.values;
        spelled = spells a.values a.counted a.spelled;
        within = omega (arith, d, up);
      },
      array said.0,
      map_in T t k e l style a.values (array said.0) on.1 (said.0, refl, said.1),
      subst (λ (js : List Json). AreLinesBehind lines T t js [] text) js (record { made = p.made; read = p.read }),
    )

pub all_parts : (lines : ValueLines) (style : Style) (T : Table) (t : TypeId) (limit deep count begin : ℕ)
    (p : PartTypes) (body text : List ℕ) → limit + 1 ≡ deep → PrintsEach lines style → HasParts T t p
    → EndInParts T t body p count begin
    → AreParts lines style T t limit p (drop begin body) count text → AreStyledLines lines style T t deep body text
all_parts lines style T t limit deep count begin (part.Element e) body text up on l f a = whole_list up on l f a
all_parts lines style T t limit deep count begin (part.Entry k e) body text up on l f a = whole_map up on l f a

pub all_made : {lines : ValueLines} {T : Table} {t : TypeId} {deep at left : ℕ} {body old text : List ℕ}
    {all : PartsAhead} (style : Style) (limit : ℕ) → PrintsEach lines style → ArePartsIn T t body all
    → AreMade (AreParts lines style T t limit all.parts) body all.begin at left all.count old text → left ≡ 0
    → at ≡ length body → limit + 1 ≡ deep → old ≡ [] → AreStyledLines lines style T t deep body text
all_made {lines = lines} {T = T} {t = t} {deep = deep} {at = at} {body = body} {text = text} {all = all}
    style limit on h m none to up empty =
    let bytes : drop all.begin body ≡ m.spelled =
    m.whole ∙ ap (λ (l : List ℕ). m.spelled ++ l) (drop_all at body (omega (arith, to))) ∙ append-nil m.spelled in
    let made : text ≡ m.made = m.behind ∙ ap (λ (l : List ℕ). l ++ m.made) empty in
    let count : m.first ≡ all.count = omega (arith, m.counted, none) in
    all_parts lines style T t limit deep all.count all.begin all.parts body text up on h.type_is h.ends
    (subst (λ (l : List ℕ). AreParts lines style T t limit all.parts (drop all.begin body) all.count l) (sym made)
    (subst (λ (n : ℕ). AreParts lines style T t limit all.parts (drop all.begin body) n m.made) count
    (subst (λ (b : List ℕ). AreParts lines style T t limit all.parts b m.first m.made) (sym bytes) m.are)))

-- ---- groups

put_so : {Are : List ℕ → ℕ → List ℕ → Type 0} {bytes old new : List ℕ} {n size : ℕ}
    → ArePrinted Are (take size bytes) n old new → ArePut Are bytes n size old new
put_so p = record { made = p.made; behind = p.behind; are = p.are }

pub put_parts : {lines : ValueLines} (style : Style) {T : Table} {t : TypeId} (limit : ℕ) {count end : ℕ}
    (p : PartTypes) {bytes old new : List ℕ} → PrintsEach lines style → HasParts T t p
    → HasWholeParts T p limit count bytes end
    → ((v : Tree) → ((c : List ℕ) → IsUnsigned count c → SpellsTop T t v (0 ∷ (c ++ take end bytes)))
    → SaysLines lines style T t v old new)
    → ArePut (AreParts lines style T t limit p) bytes count end old new
put_parts style limit (part.Element e) on has h line =
    put_so (elements_are on has h.values h.spelled h.within h.counted line)
put_parts style limit (part.Entry k e) on has h line =
    put_so (entries_are on has h.pairs h.spelled h.within h.counted line)

-- the value that so many parts are alone
pub alone_spelled : {T : Table} {t : TypeId} {count : ℕ} {start mid all body parts : List ℕ} → start ≡ 0 ∷ []
    → Appends (IsUnsigned count) start mid → all ≡ mid ++ parts → body ≡ all → (v : Tree)
    → ((c : List ℕ) → IsUnsigned count c → SpellsTop T t v (0 ∷ (c ++ parts))) → SpellsTop T t v body
alone_spelled {T = T} {t = t} {all = all} {parts = parts} tag counted behind same v spelled =
    let c = counted.bytes in
    let whole = same ∙ behind ∙ ap (λ (l : List ℕ). l ++ parts) (counted.appended ∙ ap (λ (l : List ℕ). l ++ c) tag) in
    subst (SpellsTop T t v) (sym whole) (spelled c counted.spelled)
