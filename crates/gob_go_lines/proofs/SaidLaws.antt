-- The JSON that says bytes is the one that the value shows which they spell.
use Rattle.std.proofs.Common.{◌≡◌, Bool, false, ℕ, ◌+◌, ◌-◌, ◌<◌, ◌≤◌, List, [], ◌∷◌, ◌++◌, length, Some, pos, arith}
use Rattle.std.proofs.Common.{refl, sym, ap}
use Rattle.std.proofs.Common.{subst, ◌∙◌, append_assoc, append-nil, length-append, zero-add, add-zero, codes}
use Rattle.std.specs.Prelude.{IsTrue, slice_get}
use Rattle.std.specs.Option.{unwrap_or}
use Rattle.json.specs.Token.{Token}
use Rattle.serde_json.specs.Data.{Data, array, object, item, Items, member, no_members}
use Rattle.gob_num.specs.Unsigned.{AreBytes, IsUnsigned}
use Rattle.gob_num.specs.Signed.{IsSigned}
use Rattle.gob_types.specs.declared.id.TypeId.{TypeId}
use Rattle.gob_types.specs.declared.basic.Basic.{Basic}
use Rattle.gob_types.specs.declared.basic.Basic.TheVariants as basic
use Rattle.gob_types.specs.declared.kind.Field.{Field}
use Rattle.gob_types.specs.declared.kind.Kind.{Kind}
use Rattle.gob_types.specs.declared.kind.Kind.TheVariants as kind
use Rattle.gob_types.specs.declared.kind.Shape.{Shape}
use Rattle.gob_types.specs.KindParts.{elem_named, key_named, fields_named}
use Rattle.gob_types.specs.Table.{Table, shape_of}
use Rattle.gob_value.specs.Spelling.{Spells, SpellsAs, SpellsEach}
use Rattle.gob_value.specs.Spelling as spells
use Rattle.gob_value.specs.Top.{IsStruct}
use Rattle.gob_value.specs.Top as top
use Rattle.gob_value.specs.Tree.{Tree, Trees, no_tree, depth, trees_depth, tree_count}
use Rattle.gob_value.specs.Tree as Value
use Rattle.gob_value.specs.Machine.Begins.{BeginsThisNumber}
use Rattle.gob_read.specs.Weight.{part_count, parts_of_all, parts_of_pairs, parts_of_fields}
use Rattle.gob_stream.specs.Body.{MayPut}
use Rattle.gob_stream.specs.Bounds.{Bounds}
use Rattle.gob_filled.specs.Filled.{Filled, Fillings, no_filling, SpellsFilled}
use Rattle.gob_go.specs.Machine.WholeFilled.{IsOfKind, Filler, BeginsFilled, BeginsFilledEach, BeginsFilledPairs}
use Rattle.gob_go.specs.Machine.WholeFilled.{BeginsFilledFields, BeginsFilledTop}
use Rattle.gob_go.proofs.WholeFilledSteps.{element_begins, pair_begins, fields_end_here, field_begins}
use Rattle.gob_go.proofs.WholeFilledSteps.{slice_begins, array_begins, map_begins, struct_begins, struct_top}
use Rattle.gob_go.proofs.WholeFilledSteps.{tagged_top, spelled_as}
use Rattle.gob_go.proofs.WholeFilledSteps.{held_begins as interface_holds}
use Rattle.gob_json.specs.Json.{value_json, text_json, pair_json, triple_json, no_type}
use Rattle.gob_json.specs.Json.{element_type, key_type, struct_fields, field_name, field_type}
use Rattle.gob_json_writer.specs.NilsJson.{value_json_with, elements_json_with, pairs_json_with, fields_json_with}
use Rattle.gob_json_writer.specs.NilsJson.{interface_json, put_json_with}
use Rattle.gob_json_writer.specs.FilledJson.{FilledShows, filled_shows, none_left, then_shown}
use Rattle.gob_json_writer.proofs.NilsLaws.{nulls, value_nulls}
use Rattle.gob_filled_walk.specs.FilledLine.{DefinesNothing, defines_nothing, DefineNothing, none_defines, and_defines}
use Rattle.gob_filled_walk.proofs.LeadLaws.{LeadsToElements, LeadsToEntries, LeadsToFields, LeadsTo}
use Rattle.gob_filled_walk.proofs.LeadLaws.{LeadsBehindKey, LeadsBehindDelta, at_struct, at_tagged, begun}
use Rattle.gob_filled_walk.proofs.LeadLaws.{first_element, other_elements, slice_elements, array_elements, first_key}
use Rattle.gob_filled_walk.proofs.LeadLaws.{behind_key, map_entries, behind_delta, struct_parts}
use Rattle.gob_filled_walk.proofs.ShiftLaws.{spliced, first_spliced, rest_spliced, first_alike, rest_alike, trans_alike}
use Rattle.gob_filled_walk.proofs.ShiftLaws.{value_shifts, elements_shift, pairs_shift, fields_shift}
use Rattle.gob_filled_walk.proofs.ShownLaws.{Shows, Plain, unfilled_begins, elements_begin, no_entries_begin}
use Rattle.gob_lines.specs.Numbers.{AreWithTexts, IsBasicJson, IsNatural, IsWithTexts, as_shown, in_array, in_object}
use Rattle.gob_lines.specs.Numbers.{integer_as_text, item_with_texts, member_with_texts, natural_as_text, of_int}
use Rattle.gob_lines.specs.Numbers.{of_uint}
use Rattle.gob_lines.specs.Numbers.{no_items_with_texts, no_members_with_texts, same}
use Rattle.gob_lines.specs.Reads.{Reads}
use Rattle.gob_go_lines.specs.Says.{Says, of_type, SaysAs, of_basic, of_opaque, of_slice, of_array, of_map, of_struct}
use Rattle.gob_go_lines.specs.Says.{held_json, of_held, SaysTop, at_once, tagged, SaysEach, no_element, element}
use Rattle.gob_go_lines.specs.Says.{SaysPairs}
use Rattle.gob_go_lines.specs.Says.{no_entry, entry, SaysFields, end_of_fields, next_field, items_of}
use Rattle.gob_go_lines.specs.Lines.{HoldsNothing, TellsFilled, put_data}
use Rattle.gob_go_lines.proofs.ShowLaws.{earlier, unfilled_shows, both_show, so_many_show, behind_count, null_behind}
use Rattle.gob_go_lines.proofs.ShowLaws.{agrees_alone}

-- ---- the JSON of equal values

shown_as : {j d e : Data} → IsWithTexts j d → d ≡ e → IsWithTexts j e
shown_as {j = j} h equal = subst (λ d. IsWithTexts j d) equal h

are_shown_as : {js ks ls : Items} → AreWithTexts js ks → ks ≡ ls → AreWithTexts js ls
are_shown_as {js = js} h equal = subst (λ k. AreWithTexts js k) equal h

pair_shown : {i j d e : Data} → IsWithTexts i d → IsWithTexts j e → IsWithTexts (pair_json i j) (pair_json d e)
pair_shown h k = in_array (item_with_texts h (item_with_texts k no_items_with_texts))

triple_shown : {n i j m d e : Data} → IsWithTexts n m → IsWithTexts i d → IsWithTexts j e
    → IsWithTexts (triple_json n i j) (triple_json m d e)
triple_shown g h k =
    in_array (item_with_texts g (item_with_texts h (item_with_texts k no_items_with_texts)))

held_shown : {number j d : Data} (name : List ℕ) (held : TypeId) → IsNatural held.0 number → IsWithTexts j d
    → IsWithTexts (held_json name number j) (interface_json name held d)
held_shown name held typed h =
    in_object (member_with_texts (in_object (member_with_texts same (member_with_texts (natural_as_text typed)
    (member_with_texts h no_members_with_texts)))) no_members_with_texts)

-- ---- what is said, part by part

-- it fills nothing
abbrev HoldsNone : Filler → Type 0
HoldsNone fill = (p : List ℕ) (fs : Fillings) → fill p fs ≡ fs

pub record PartSaid (T : Table) (H : Bool) (u : TypeId) (limit : ℕ) (j : Data) (b : List ℕ) : Type 0 where
  pub begins : BeginsFilled T u limit b []
  pub nils : ℕ → Data
  pub shows : Shows T (LeadsTo T u) (part_count begins.value) begins.skeleton begins.fill nils
  pub defines : Plain begins.fill
  pub holds : H ≡ false → HoldsNone begins.fill
  pub json : IsWithTexts j (value_json_with nils T u 0 begins.value)

pub record EachSaid (T : Table) (H : Bool) (e : TypeId) (limit count : ℕ) (js : List Data) (b : List ℕ) : Type 0 where
  pub begins : BeginsFilledEach T e limit count b []
  pub nils : ℕ → Data
  pub shows : Shows T (LeadsToElements T e count) (parts_of_all begins.values) begins.skeleton begins.fill nils
  pub defines : Plain begins.fill
  pub holds : H ≡ false → HoldsNone begins.fill
  pub json : AreWithTexts (items_of js) (elements_json_with nils T e 0 begins.values)

pub record EntriesSaid (T : Table) (H : Bool) (k e : TypeId) (limit count : ℕ) (js : List Data)
    (b : List ℕ) : Type 0 where
  pub begins : BeginsFilledPairs T k e limit count b []
  pub nils : ℕ → Data
  pub shows : Shows T (LeadsToEntries T k e count) (parts_of_pairs begins.pairs) begins.skeleton begins.fill nils
  pub defines : Plain begins.fill
  pub holds : H ≡ false → HoldsNone begins.fill
  pub json : AreWithTexts (items_of js) (pairs_json_with nils T k e 0 begins.pairs)

pub record FieldsSaid (T : Table) (H : Bool) (types : List Field) (next limit : ℕ) (js : List Data)
    (b : List ℕ) : Type 0 where
  pub begins : BeginsFilledFields T types next limit b []
  pub nils : ℕ → Data
  pub shows : Shows T (LeadsToFields T types next) (parts_of_fields begins.fields) begins.skeleton begins.fill nils
  pub defines : Plain begins.fill
  pub holds : H ≡ false → HoldsNone begins.fill
  pub json : AreWithTexts (items_of js) (fields_json_with nils T types 0 begins.fields)

pub record TopSaid (T : Table) (H : Bool) (t : TypeId) (limit : ℕ) (j : Data) (b : List ℕ) : Type 0 where
  pub begins : BeginsFilledTop T t limit b []
  pub tree : Tree
  pub nils : ℕ → Data
  pub shows : FilledShows T t begins.value tree nils
  pub defines : DefinesNothing begins.value
  pub holds : H ≡ false → HoldsNothing begins.value
  pub json : IsWithTexts j (value_json_with nils T t 0 tree)

-- in front of others
abbrev in_front : {T : Table} {u : TypeId} {limit : ℕ} {b : List ℕ} (c : List ℕ) → BeginsFilled T u limit b []
    → BeginsFilled T u limit (b ++ c) c
in_front c h = record {
  value = h.value;
  skeleton = h.skeleton;
  bytes = h.bytes;
  fill = h.fill;
  spelled = h.spelled;
  within = h.within;
  whole = ap (λ l. l ++ c) (h.whole ∙ append-nil h.bytes);
  fills = h.fills;
}

-- ---- what has no parts

-- its JSON is the same in each table and at each type
plain_alike : {T : Table} {k : Basic} {v : Tree} {b : List ℕ} (u : TypeId) → SpellsAs T (kind.Basic k) v b
    → value_json T no_type v ≡ value_json T u v
plain_alike u (spells.of_bool p) = refl
plain_alike u (spells.of_int p) = refl
plain_alike u (spells.of_uint p) = refl
plain_alike u (spells.of_float p) = refl
plain_alike u (spells.of_complex p q) = refl
plain_alike u (spells.of_nil p) = refl
plain_alike u (spells.of_bytes p) = refl
plain_alike u (spells.of_text p) = refl

plain_within : {T : Table} {k : Basic} {v : Tree} {b : List ℕ} {limit : ℕ} → SpellsAs T (kind.Basic k) v b → 0 < limit
    → depth v ≤ limit
plain_within (spells.of_bool p) some = omega arith
plain_within (spells.of_int p) some = omega arith
plain_within (spells.of_uint p) some = omega arith
plain_within (spells.of_float p) some = omega arith
plain_within (spells.of_complex p q) some = omega arith
plain_within (spells.of_nil p) some = omega arith
plain_within (spells.of_bytes p) some = omega arith
plain_within (spells.of_text p) some = omega arith

unfilled_said : {T : Table} {H : Bool} {u : TypeId} {limit : ℕ} {v : Tree} {b : List ℕ} {j : Data} → Spells T u v b
    → depth v ≤ limit → IsWithTexts j (value_json T u v) → PartSaid T H u limit j b
unfilled_said {T = T} {u = u} {v = v} {b = b} spelled within is = record {
  begins = unfilled_begins spelled within (sym (append-nil b));
  nils = nulls;
  shows = unfilled_shows (part_count v) b;
  defines = λ p fs plain. plain;
  holds = λ none p fs. refl;
  json = shown_as is (sym (value_nulls T u 0 v));
}

-- a number may stand as a text
basic_shown : {T : Table} {k : Basic} {v : Tree} {b : List ℕ} {j : Data} (u : TypeId) → SpellsAs T (kind.Basic k) v b
    → IsBasicJson T no_type v j → IsWithTexts j (value_json T u v)
basic_shown u spelled as_shown = shown_as same (plain_alike u spelled)
basic_shown u spelled (of_int h) = integer_as_text h
basic_shown u spelled (of_uint h) = natural_as_text h

-- ---- elements
element_said : {T : Table} {H : Bool} {e : TypeId} {limit count : ℕ} {j : Data} {js : List Data} {b c : List ℕ}
    → PartSaid T H e limit j b → EachSaid T H e limit count js c → EachSaid T H e limit (count + 1) (j ∷ js) (b ++ c)
unfolding element_begins
element_said {T = T} {e = e} {limit = limit} {count = count} {j = j} {js = js} {b = b} {c = c} h k =
    let v = h.begins.value in
    let vs = k.begins.values in
    let m = part_count v in
    let d = parts_of_all vs in
    let N = spliced m h.nils k.nils in
    let first : value_json_with N T e 0 v ≡ value_json_with h.nils T e 0 v =
    value_shifts T e v N h.nils 0 0 (first_spliced m h.nils k.nils) in
    let others : elements_json_with N T e (0 + m) vs ≡ elements_json_with k.nils T e 0 vs =
    elements_shift T e vs N k.nils (0 + m) 0 (rest_spliced m h.nils k.nils d) in
    record {
      begins = element_begins e limit (count + 1) count refl (b ++ c) c [] (in_front c h.begins) k.begins;
      nils = N;
      shows = both_show {A = LeadsTo T e} {B = LeadsToElements T e count} {C = LeadsToElements T e (count + 1)}
          (first_element count) (other_elements h.begins.spelled) h.shows k.shows;
      defines = λ p fs plain. h.defines p _ (k.defines _ fs plain);
      holds = λ none p fs. h.holds none p _ ∙ k.holds none _ fs;
      json = item_with_texts (shown_as h.json (sym first)) (are_shown_as k.json (sym others));
    }

no_elements_said : {H : Bool} (T : Table) (e : TypeId) (limit : ℕ) → EachSaid T H e limit 0 [] []
no_elements_said T e limit = record {
  begins = elements_begin spells.no_element (omega arith) refl refl;
  nils = nulls;
  shows = unfilled_shows 0 [];
  defines = λ p fs plain. plain;
  holds = λ none p fs. refl;
  json = no_items_with_texts;
}

-- ---- entries
entry_said : {T : Table} {H : Bool} {k e : TypeId} {limit count : ℕ} {i j : Data} {js : List Data} {a b c : List ℕ}
    → PartSaid T H k limit i a → PartSaid T H e limit j b → EntriesSaid T H k e limit count js c
    → EntriesSaid T H k e limit (count + 1) (pair_json i j ∷ js) (a ++ (b ++ c))
unfolding pair_begins
entry_said {T = T} {k = k} {e = e} {limit = limit} {count = count} {i = i} {j = j} {js = js} {a = a} {b = b} {c = c}
    g h o =
    let x = g.begins.value in
    let v = h.begins.value in
    let ps = o.begins.pairs in
    let m = part_count x in
    let d = part_count v in
    let r = parts_of_pairs ps in
    let M = spliced d h.nils o.nils in
    let N = spliced m g.nils M in
    let seam = rest_spliced m g.nils M (d + r) in
    let key : value_json_with N T k 0 x ≡ value_json_with g.nils T k 0 x =
    value_shifts T k x N g.nils 0 0 (first_spliced m g.nils M) in
    let value : value_json_with N T e (0 + m) v ≡ value_json_with h.nils T e 0 v =
    value_shifts T e v N h.nils (0 + m) 0
    (trans_alike d (first_alike d (d + r) (omega arith) seam) (first_spliced d h.nils o.nils)) in
    let others : pairs_json_with N T k e (0 + m + d) ps ≡ pairs_json_with o.nils T k e 0 ps =
    pairs_shift T k e ps N o.nils (0 + m + d) 0
    (trans_alike r (rest_alike d r (d + r) (omega arith) seam) (rest_spliced d h.nils o.nils r)) in
    let Second = LeadsBehindKey T k e count h.begins.skeleton d in
    record {
      begins = pair_begins k e limit (count + 1) count refl (a ++ (b ++ c)) (b ++ c) c []
          (in_front (b ++ c) g.begins) (in_front c h.begins) o.begins;
      nils = N;
      shows = both_show {A = LeadsTo T k} {B = Second} {C = LeadsToEntries T k e (count + 1)}
          (first_key count) (behind_key g.begins.spelled h.begins.spelled)
          g.shows (both_show {A = LeadsTo T e} {B = LeadsToEntries T k e count} {C = Second}
          (λ t p n leads. leads.0) (λ t p n leads. leads.1) h.shows o.shows);
      defines = λ p fs plain. g.defines p _ (h.defines _ _ (o.defines _ fs plain));
      holds = λ none p fs. g.holds none p _ ∙ h.holds none _ _ ∙ o.holds none _ fs;
      json = item_with_texts (pair_shown (shown_as g.json (sym key)) (shown_as h.json (sym value)))
          (are_shown_as o.json (sym others));
    }

no_entries_said : {H : Bool} (T : Table) (k e : TypeId) (limit : ℕ) → EntriesSaid T H k e limit 0 [] []
no_entries_said T k e limit = record {
  begins = no_entries_begin T k e limit [];
  nils = nulls;
  shows = unfilled_shows 0 [];
  defines = λ p fs plain. plain;
  holds = λ none p fs. refl;
  json = no_items_with_texts;
}

-- ---- fields
no_fields_said : {H : Bool} (T : Table) (types : List Field) (next limit : ℕ) {b : List ℕ} → IsUnsigned 0 b
    → FieldsSaid T H types next limit [] b
unfolding fields_end_here
no_fields_said T types next limit {b = b} p = record {
  begins = fields_end_here types next limit 0 refl b []
      (record { bytes = b; spelled = p; whole = sym (append-nil b) });
  nils = nulls;
  shows = unfilled_shows 0 b;
  defines = λ p fs plain. plain;
  holds = λ none p fs. refl;
  json = no_items_with_texts;
}

field_said : {T : Table} {H : Bool} {types : List Field} {next f limit : ℕ} {e : Field} {number j : Data}
    {js : List Data} {a b c : List ℕ} → next ≤ f → slice_get types f ≡ Some e → IsUnsigned (f + 1 - next) a
    → IsNatural f number → PartSaid T H e.id limit j b → FieldsSaid T H types (f + 1) limit js c
    → FieldsSaid T H types next limit (triple_json number (text_json e.name) j ∷ js) (a ++ (b ++ c))
unfolding field_begins
field_said {T = T} {types = types} {next = next} {f = f} {limit = limit} {e = e} {j = j} {js = js} {a = a} {b = b}
    {c = c} order here delta typed h k =
    let v = h.begins.value in
    let ws = k.begins.fields in
    let m = part_count v in
    let d = parts_of_fields ws in
    let N = spliced m h.nils k.nils in
    let some : 0 < f + 1 - next = omega (arith, order) in
    let is : f + 1 ≡ next + (f + 1 - next) = omega (arith, order) in
    let here_type : field_type (slice_get types f) ≡ e.id = ap field_type here in
    let here_name : field_name (slice_get types f) ≡ e.name = ap field_name here in
    let first : value_json_with N T (field_type (slice_get types f)) 0 v ≡ value_json_with h.nils T e.id 0 v =
    ap (λ t. value_json_with N T t 0 v) here_type ∙ value_shifts T e.id v N h.nils 0 0 (first_spliced m h.nils k.nils)
    in
    let others : fields_json_with N T types (0 + m) ws ≡ fields_json_with k.nils T types 0 ws =
    fields_shift T types ws N k.nils (0 + m) 0 (rest_spliced m h.nils k.nils d) in
    let Behind = LeadsBehindDelta T types e.id f h.begins.skeleton m in
    record {
      begins = field_begins types next limit (f + 1 - next) f e some is here (a ++ (b ++ c)) (b ++ c) c []
          (record { bytes = a; spelled = delta; whole = refl }) (in_front c h.begins) k.begins;
      nils = N;
      shows = so_many_show (zero-add (m + d))
          (both_show {A = λ t p n. Unit {0}} {B = Behind} {C = LeadsToFields T types next}
          (λ t p n leads. tt)
          (behind_delta order here delta h.begins.spelled)
          (unfilled_shows 0 a) (both_show {A = LeadsTo T e.id} {B = LeadsToFields T types (f + 1)} {C = Behind}
          (λ t p n leads. leads.0) (λ t p n leads. leads.1) h.shows k.shows));
      defines = λ p fs plain. h.defines _ _ (k.defines _ fs plain);
      holds = λ none p fs. h.holds none _ _ ∙ k.holds none _ fs;
      json = item_with_texts (triple_shown (natural_as_text typed) (shown_as same (ap text_json (sym here_name)))
          (shown_as h.json (sym first))) (are_shown_as k.json (sym others));
    }

-- ---- values with parts
slice_said : {T : Table} {H : Bool} {u e : TypeId} {limit count : ℕ} {js : List Data} {c b : List ℕ}
    → IsOfKind T u (kind.Slice e) → 0 < limit → IsUnsigned count c → EachSaid T H e (limit - 1) count js b
    → PartSaid T H u limit (array (items_of js)) (c ++ b)
unfolding slice_begins
slice_said {T = T} {u = u} {e = e} {limit = limit} {count = count} {c = c} {b = b} is some counted h =
    let vs = h.begins.values in
    let elements : element_type (shape_of T u) ≡ e =
    ap element_type is.1 ∙ ap (λ k. unwrap_or (elem_named k) no_type) is.2 in
    record {
      begins = slice_begins u e limit count is some (c ++ b) b []
          (record { bytes = c; spelled = counted; whole = refl }) h.begins;
      nils = spliced 1 nulls h.nils;
      shows = behind_count c (slice_elements is counted) h.shows;
      defines = λ p fs plain. h.defines _ fs plain;
      holds = λ none p fs. h.holds none _ fs;
      json = in_array (are_shown_as h.json (sym (elements_shift T e vs (spliced 1 nulls h.nils) h.nils 1 0
          (rest_spliced 1 nulls h.nils (parts_of_all vs)))
          ∙ ap (λ t. elements_json_with (spliced 1 nulls h.nils) T t 1 vs) (sym elements)));
    }

array_said : {T : Table} {H : Bool} {u e : TypeId} {limit count : ℕ} {js : List Data} {c b : List ℕ}
    → IsOfKind T u (kind.Array e count) → 0 < limit → IsUnsigned count c → EachSaid T H e (limit - 1) count js b
    → PartSaid T H u limit (array (items_of js)) (c ++ b)
unfolding array_begins
array_said {T = T} {u = u} {e = e} {limit = limit} {count = count} {c = c} {b = b} is some counted h =
    let vs = h.begins.values in
    let elements : element_type (shape_of T u) ≡ e =
    ap element_type is.1 ∙ ap (λ k. unwrap_or (elem_named k) no_type) is.2 in
    record {
      begins = array_begins u e limit count count is some refl (c ++ b) b []
          (record { bytes = c; spelled = counted; whole = refl }) h.begins;
      nils = spliced 1 nulls h.nils;
      shows = behind_count c (array_elements is counted) h.shows;
      defines = λ p fs plain. h.defines _ fs plain;
      holds = λ none p fs. h.holds none _ fs;
      json = in_array (are_shown_as h.json (sym (elements_shift T e vs (spliced 1 nulls h.nils) h.nils 1 0
          (rest_spliced 1 nulls h.nils (parts_of_all vs)))
          ∙ ap (λ t. elements_json_with (spliced 1 nulls h.nils) T t 1 vs) (sym elements)));
    }

map_said : {T : Table} {H : Bool} {u k e : TypeId} {limit count : ℕ} {js : List Data} {c b : List ℕ}
    → IsOfKind T u (kind.Map k e) → 0 < limit → IsUnsigned count c → EntriesSaid T H k e (limit - 1) count js b
    → PartSaid T H u limit (array (items_of js)) (c ++ b)
unfolding map_begins
map_said {T = T} {u = u} {k = k} {e = e} {limit = limit} {count = count} {c = c} {b = b} is some counted h =
    let ps = h.begins.pairs in
    let N = spliced 1 nulls h.nils in
    let keys : key_type (shape_of T u) ≡ k =
    ap key_type is.1 ∙ ap (λ k. unwrap_or (key_named k) no_type) is.2 in
    let elements : element_type (shape_of T u) ≡ e =
    ap element_type is.1 ∙ ap (λ k. unwrap_or (elem_named k) no_type) is.2 in
    record {
      begins = map_begins u k e limit count is some (c ++ b) b []
          (record { bytes = c; spelled = counted; whole = refl }) h.begins;
      nils = N;
      shows = behind_count c (map_entries is counted) h.shows;
      defines = λ p fs plain. h.defines _ fs plain;
      holds = λ none p fs. h.holds none _ fs;
      json = in_array (are_shown_as h.json
          (sym (pairs_shift T k e ps N h.nils 1 0 (rest_spliced 1 nulls h.nils (parts_of_pairs ps)))
          ∙ ap (λ t. pairs_json_with N T t e 1 ps) (sym keys)
          ∙ ap (λ t. pairs_json_with N T (key_type (shape_of T u)) t 1 ps) (sym elements)));
    }

struct_said : {T : Table} {H : Bool} {u : TypeId} {types : List Field} {limit : ℕ} {js : List Data} {b : List ℕ}
    → IsOfKind T u (kind.Struct types) → 0 < limit → FieldsSaid T H types 0 (limit - 1) js b
    → PartSaid T H u limit (array (items_of js)) b
unfolding struct_begins
struct_said {T = T} {u = u} {types = types} {limit = limit} {b = b} is some h =
    let ws = h.begins.fields in
    let N = spliced 1 nulls h.nils in
    let d = parts_of_fields ws in
    let up : 1 + d ≡ d + 1 = omega arith in
    let fields : struct_fields (shape_of T u) ≡ types =
    ap struct_fields is.1 ∙ ap (λ k. unwrap_or (fields_named k) []) is.2 in
    record {
      begins = struct_begins u types limit is some b [] h.begins;
      nils = N;
      shows = so_many_show up
          (both_show {A = LeadsTo T u} {B = LeadsToFields T types 0} {C = LeadsTo T u} (λ t p n l. l)
          (struct_parts is) (unfilled_shows 1 []) h.shows);
      defines = λ p fs plain. h.defines _ fs plain;
      holds = λ none p fs. h.holds none _ fs;
      json = in_array (are_shown_as h.json (sym (fields_shift T types ws N h.nils 1 0 (rest_spliced 1 nulls h.nils d))
          ∙ ap (λ t. fields_json_with N T t 1 ws) (sym fields)));
    }

-- ---- what an interface holds
no_truth : {H : Bool} → IsTrue H → H ≡ false → ⊥
no_truth is none = grind (arith, is, none)

held_said : {T : Table} {H : Bool} {u held : TypeId} {limit : ℕ} {a n c w : List ℕ} {number j : Data}
    (name : List ℕ) → IsOfKind T u (kind.Basic basic.Interface) → IsTrue H → 0 < length name
    → IsUnsigned (length name) a → MayPut T held
    → IsSigned (pos held.0) n → IsNatural held.0 number → TopSaid T H held limit j w → IsUnsigned (length w) c
    → PartSaid T H u (limit + 1) (held_json name number j) (a ++ (name ++ (n ++ (c ++ w))))
unfolding interface_holds
held_said {T = T} {u = u} {held = held} {limit = limit} {a = a} {n = n} {c = c} {w = w} {j = j} name is
    in_go some named may typed numbered h counted =
    let own : w ≡ h.begins.bytes = h.begins.whole ∙ append-nil h.begins.bytes in
    let spelled : AreBytes w → (base : Table) (L : Bounds) → SpellsFilled base L T held limit h.begins.value w T =
    λ o base L. subst (λ l. SpellsFilled base L T held limit h.begins.value l T) (sym own)
    (h.begins.spelled (subst AreBytes own o) base L) in
    let all = a ++ (name ++ (n ++ (c ++ w))) in
    let json = interface_json name held (value_json_with h.nils T held 0 h.tree) in
    record {
      begins = interface_holds u held limit a name n c w is some named may typed counted h.begins.value spelled all []
          (sym (append-nil all));
      nils = λ k. json;
      shows = record {
        there = λ t bytes p left n N fs split leads same more.
            let part = begun bytes p (0 ∷ left) split is leads in
            let length_is : length bytes ≡ length p + length (0 ∷ left) =
            ap length split ∙ length-append p (0 ∷ left) in
            let size_is : length (p ++ []) ≡ length p = ap length (append-nil p) in
            then_shown (omega (arith, size_is)) (omega (arith, size_is, length_is))
            part.1
            (omega arith) (λ m low high. absurd (omega (arith, low, high))) h.shows
            (ap N (sym (add-zero n)) ∙ same.each 0 (omega arith))
            (earlier (omega (arith, size_is, length-append p (0 ∷ []))) (omega arith)
            (λ m low high. absurd (omega (arith, low, high))) more);
      };
      defines = λ p fs plain. and_defines h.defines plain;
      holds = λ none. absurd (no_truth in_go none);
      json = held_shown name held numbered h.json;
    }

-- ---- behind a tag or without one
struct_top_said : {T : Table} {H : Bool} {t : TypeId} {s : Shape} {limit : ℕ} {j : Data} {b : List ℕ}
    → shape_of T t ≡ Some s → IsStruct s.kind → PartSaid T H t limit j b → TopSaid T H t limit j b
unfolding struct_top
struct_top_said {T = T} {t = t} {b = b} found is h =
    let v = h.begins.value in
    let k = h.begins.skeleton in
    let c = part_count v in
    let N = spliced c h.nils nulls in
    record {
      begins = struct_top found is b [] h.begins;
      tree = v;
      nils = N;
      shows = filled_shows (top.at_once found is h.begins.spelled)
          (h.shows.there t k [] [] 0 N no_filling (sym (append-nil k)) (at_struct found is) (agrees_alone c h.nils)
          (none_left (null_behind c h.nils)));
      defines = defines_nothing (h.defines [] no_filling none_defines);
      holds = λ none. h.holds none [] no_filling;
      json = shown_as h.json (sym (value_shifts T t v N h.nils 0 0 (first_spliced c h.nils nulls)));
    }

tagged_top_said : {T : Table} {H : Bool} {t : TypeId} {s : Shape} {limit : ℕ} {j : Data} {b : List ℕ}
    → shape_of T t ≡ Some s → ¬ IsStruct s.kind → PartSaid T H t limit j b → TopSaid T H t limit j (0 ∷ b)
unfolding tagged_top
tagged_top_said {T = T} {t = t} {b = b} found isnt h =
    let v = h.begins.value in
    let k = h.begins.skeleton in
    let c = part_count v in
    let N = spliced c h.nils nulls in
    record {
      begins = tagged_top found isnt b [] h.begins;
      tree = v;
      nils = N;
      shows = filled_shows (top.tagged found isnt h.begins.spelled)
          (earlier (omega arith) (omega arith) (λ m low high. absurd (omega (arith, low, high)))
          (h.shows.there t (0 ∷ k) (0 ∷ []) [] 0 N no_filling (ap (λ l. 0 ∷ l) (sym (append-nil k)))
          (at_tagged found isnt) (agrees_alone c h.nils) (none_left (null_behind c h.nils))));
      defines = defines_nothing (h.defines (0 ∷ []) no_filling none_defines);
      holds = λ none. h.holds none (0 ∷ []) no_filling;
      json = shown_as h.json (sym (value_shifts T t v N h.nils 0 0 (first_spliced c h.nils nulls)));
    }

-- ---- all that is said
one_more : (j : Data) (js : List Data) → length js + 1 ≡ length (j ∷ js)
one_more j js = omega arith

mutual
  part_said : {T : Table} {H : Bool} {u : TypeId} {limit : ℕ} {j : Data} {b : List ℕ} → Says T H u limit j b
      → PartSaid T H u limit j b
  part_said (of_type {s = s} found some h) = kind_said (s, found, refl) some h

  kind_said : {T : Table} {H : Bool} {u : TypeId} {k : Kind} {limit : ℕ} {j : Data} {b : List ℕ} → IsOfKind T u k
      → 0 < limit
      → SaysAs T H k limit j b → PartSaid T H u limit j b
  kind_said {u = u} is some (of_basic p o json) =
      unfilled_said (spelled_as is p) (plain_within p some) (basic_shown u p json)
  kind_said is some (of_opaque t o p) = unfilled_said (spelled_as is (spells.of_opaque p)) (omega (arith, some)) same
  kind_said is some (of_slice p h) = slice_said is some p (each_said h)
  kind_said {T = T} {u = u} is some (of_array {e = e} {js = js} long p h) =
      array_said (subst (λ n. IsOfKind T u (kind.Array e n)) (sym long) is) some p (each_said h)
  kind_said is some (of_map p h) = map_said is some p (entries_said h)
  kind_said is some (of_struct h) = struct_said is some (fields_said h)
  kind_said {T = T} {H = H} {u = u} {limit = limit} {j = j} {b = b} is some (of_held name in_go o more p may q i h r) =
      let one : limit - 1 + 1 ≡ limit = omega (arith, some) in
      subst (λ l. PartSaid T H u l j b) one (held_said name is in_go more p may q i (top_said h) r)

  pub top_said : {T : Table} {H : Bool} {t : TypeId} {limit : ℕ} {j : Data} {b : List ℕ} → SaysTop T H t limit j b
      → TopSaid T H t limit j b
  top_said (at_once found is h) = struct_top_said found is (part_said h)
  top_said (tagged found isnt h) = tagged_top_said found isnt (part_said h)

  each_said : {T : Table} {H : Bool} {e : TypeId} {limit : ℕ} {js : List Data} {b : List ℕ} → SaysEach T H e limit js b
      → EachSaid T H e limit (length js) js b
  each_said {T = T} {e = e} {limit = limit} no_element = no_elements_said T e limit
  each_said {T = T} {H = H} {e = e} {limit = limit} (element {j = j} {js = js} {b = b} {c = c} h k) =
      subst (λ n. EachSaid T H e limit n (j ∷ js) (b ++ c)) (one_more j js) (element_said (part_said h) (each_said k))

  entries_said : {T : Table} {H : Bool} {k e : TypeId} {limit : ℕ} {js : List Data} {b : List ℕ}
      → SaysPairs T H k e limit js b
      → EntriesSaid T H k e limit (length js) js b
  entries_said {T = T} {k = k} {e = e} {limit = limit} no_entry = no_entries_said T k e limit
  entries_said {T = T} {H = H} {k = k} {e = e} {limit = limit}
      (entry {x = x} {j = j} {js = js} {a = a} {b = b} {c = c} g h o)
      =
      subst (λ n. EntriesSaid T H k e limit n (pair_json x j ∷ js) (a ++ (b ++ c))) (one_more (pair_json x j) js)
      (entry_said (part_said g) (part_said h) (entries_said o))

  fields_said : {T : Table} {H : Bool} {types : List Field} {next limit : ℕ} {js : List Data} {b : List ℕ}
      → SaysFields T H types next limit js b → FieldsSaid T H types next limit js b
  fields_said {T = T} {types = types} {next = next} {limit = limit} (end_of_fields p) =
      no_fields_said T types next limit p
  fields_said (next_field order here p q h k) = field_said order here p q (part_said h) (fields_said k)

-- so the tokens of a value's JSON with its type are those that the value shows which the bytes spell
pub filled_told : {T : Table} {H : Bool} {id : TypeId} {limit : ℕ} {number j : Data} {body : List ℕ}
    {old new : List Token} → AreBytes body → IsNatural id.0 number → SaysTop T H id limit j body
    → Reads (put_data number j) old new → TellsFilled T H id limit body old new
filled_told {T = T} {id = id} {limit = limit} {number = of} {j = j} {body = body} o typed says reads =
    let h = top_said says in
    let own : body ≡ h.begins.bytes = h.begins.whole ∙ append-nil h.begins.bytes in
    record {
      value = h.begins.value;
      spelled = λ base L. subst (λ l. SpellsFilled base L T id limit h.begins.value l T) (sym own)
          (h.begins.spelled (subst AreBytes own o) base L);
      defines = h.defines;
      holds = h.holds;
      tree = h.tree;
      nils = h.nils;
      shows = h.shows;
      json = put_data of j;
      written = in_object (member_with_texts (natural_as_text typed)
          (member_with_texts h.json no_members_with_texts));
      reads = reads;
    }
