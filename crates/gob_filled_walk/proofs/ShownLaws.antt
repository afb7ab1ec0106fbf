-- What is read is a value with fillings, which shows the JSON whose text is that of what is told.
use Rattle.std.proofs.Common.{◌≡◌, ℕ, ◌+◌, ◌-◌, ◌<◌, ◌≤◌, List, [], ◌∷◌, ◌++◌, length, take, Bool, true, false, Some}
use Rattle.std.proofs.Common.{arith, refl, sym, ap, subst, ◌∙◌, append_assoc, append-nil, length-append, inl, inr}
use Rattle.std.proofs.Common.{add-zero, add_assoc, zero-add, nat_lt}
use Rattle.std.specs.Prelude.{slice_get}
use Rattle.std.proofs.Math.Seq.{take-append_seam}
use Rattle.std.proofs.lemmas.Bool.{cases_lt}
use Rattle.json.specs.Print.{escape_byte}
use Rattle.serde_json.specs.Data.{Data, null, array, item, no_items}
use Rattle.serde_json.specs.Written.{comma_if, compact_text, items_text}
use Rattle.gob_num.specs.Unsigned.{IsUnsigned}
use Rattle.gob_types.specs.declared.id.TypeId.{TypeId}
use Rattle.gob_types.specs.declared.basic.Basic.TheVariants as basic
use Rattle.gob_types.specs.declared.kind.Field.{Field}
use Rattle.gob_types.specs.declared.kind.Kind.{Kind}
use Rattle.gob_types.specs.declared.kind.Kind.TheVariants as kind
use Rattle.gob_types.specs.declared.kind.Shape.{Shape}
use Rattle.gob_types.specs.Table.{Table, shape_of}
use Rattle.gob_value.specs.Tree.{Tree, Trees, no_tree, tree, Pairs, no_pair, pair, Fields, no_field, field}
use Rattle.gob_value.specs.Tree.{tree_count, pair_count, depth}
use Rattle.gob_value.specs.Tree as Value
use Rattle.gob_value.specs.Spelling.{Spells, SpellsEach, SpellsPairs, no_element, element, no_entry, entry}
use Rattle.gob_value.specs.Top.{IsStruct, at_once, tagged}
use Rattle.gob_value.specs.Machine.Begins.{BeginsThisNumber}
use Rattle.gob_read.specs.Weight.{part_count, parts_of_all, parts_of_pairs, parts_of_fields}
use Rattle.gob_filled.specs.Filled.{Fillings, filled, no_filling, filling, no_definitions}
use Rattle.gob_go.specs.Machine.WholeFilled.{IsOfKind, Filler, BeginsFilled, BeginsFilledEach, BeginsFilledPairs}
use Rattle.gob_go.specs.Machine.WholeFilled.{BeginsFilledFields, BeginsFilledTop}
use Rattle.gob_go.proofs.WholeFilledSteps.{as_they_stand, element_begins, pair_begins, fields_end_here, field_begins}
use Rattle.gob_go.proofs.WholeFilledSteps.{slice_begins, array_begins, map_begins, struct_begins, struct_top}
use Rattle.gob_go.proofs.WholeFilledSteps.{tagged_top}
use Rattle.gob_go.proofs.WholeFilledSteps.{held_begins as interface_holds}
use Rattle.gob_json.specs.Json.{value_json, elements_json, natural_json, text_json, pair_json, triple_json}
use Rattle.gob_json.specs.Json.{element_type, key_type, struct_fields, field_name, field_type, no_type}
use Rattle.gob_types.specs.KindParts.{elem_named, key_named, fields_named}
use Rattle.std.specs.Option.{unwrap_or}
use Rattle.gob_json.proofs.EventLaws.{value_text, elements_text, head_goes_on}
use Rattle.gob_json.specs.Machine.TextParts.{field_head}
use Rattle.gob_json_writer.specs.NilsJson.{value_json_with, elements_json_with, pairs_json_with, fields_json_with}
use Rattle.gob_json_writer.specs.NilsJson.{interface_json}
use Rattle.gob_json_writer.specs.FilledJson.{FilledShows, filled_shows, FillingsShow, none_left, then_shown}
use Rattle.gob_json_writer.proofs.NilsLaws.{nulls, value_nulls, elements_nulls}
use Rattle.gob_walk.specs.Event.{value_told, elements_told}
use Rattle.gob_walk.specs.Event as event
use Rattle.gob_walk.proofs.PublicLaws.{later_on}
use Rattle.gob_filled_walk.specs.HeldEvent.{HeldEvent, told, held_begins, held_ends, all_told}
use Rattle.gob_filled_walk.specs.HeldText.{held_text, held_head, held_text_of_both, held_text_of_all}
use Rattle.gob_filled_walk.specs.FilledLine.{DefinesNothing, defines_nothing, DefineNothing, none_defines, and_defines}
use Rattle.gob_filled_walk.specs.Reads.{Reads, ReadsTop, ReadsEach, ReadsEntries, ReadsFields, reads_unfilled}
use Rattle.gob_filled_walk.specs.Reads.{reads_slice, reads_array, reads_map, reads_struct, reads_held, reads_at_once}
use Rattle.gob_filled_walk.specs.Reads.{reads_tagged, no_more, and_element, unfilled_elements, no_entry_more}
use Rattle.gob_filled_walk.specs.Reads.{and_entry, fields_stop, and_field, BeginsHeld}
use Rattle.gob_filled_walk.proofs.LeadLaws.{LeadsToPart, LeadsToElements, LeadsToEntries, LeadsToFields, LeadsTo}
use Rattle.gob_filled_walk.proofs.LeadLaws.{LeadsBehindKey, LeadsBehindDelta, at_struct, at_tagged, begun}
use Rattle.gob_filled_walk.proofs.LeadLaws.{first_element, other_elements, slice_elements, array_elements, first_key}
use Rattle.gob_filled_walk.proofs.LeadLaws.{behind_key, map_entries, behind_delta, struct_parts}
use Rattle.gob_filled_walk.proofs.ShiftLaws.{spliced, before_seam, behind_seam, first_spliced, rest_spliced}
use Rattle.gob_filled_walk.proofs.ShiftLaws.{first_alike, rest_alike, trans_alike, value_shifts, elements_shift}
use Rattle.gob_filled_walk.proofs.ShiftLaws.{pairs_shift, fields_shift}
use Rattle.gob_filled_walk.proofs.ShiftLaws.{Agrees, first_agrees, rest_agrees}

-- ---- what parts show
-- earlier, where the nils between show null
earlier : {T : Table} {t : TypeId} {b : List ℕ} {from now number n : ℕ} {fs : Fillings} {N : ℕ → Data} → now ≤ from
    → n ≤ number → ((k : ℕ) → n ≤ k → k < number → N k ≡ null) → FillingsShow T t b from number fs N
    → FillingsShow T t b now n fs N
earlier {number = number} before few nothing (none_left f) = none_left (λ m l.
    elim (cases_lt m number) [ inl less ↦ nothing m l less | inr more ↦ f m more ])
earlier {number = number} before few nothing (then_shown {n = k} after within part l gap shows is more) =
    then_shown (omega (arith, before, after)) within part (omega (arith, few, l)) (λ m i j.
    elim (cases_lt m number) [ inl less ↦ nothing m i less | inr up ↦ gap m up j ]) shows is more

elsewhere : {T : Table} {t : TypeId} {b : List ℕ} {from now number n : ℕ} {fs : Fillings} {N : ℕ → Data} → from ≡ now
    → number ≡ n → FillingsShow T t b from number fs N → FillingsShow T t b now n fs N
elsewhere {T = T} {t = t} {b = b} {now = now} {number = number} {fs = fs} {N = N} e f shows =
    subst (λ n. FillingsShow T t b now n fs N) f (subst (λ i. FillingsShow T t b i number fs N) e shows)

-- wherever bytes of a skeleton stand that begin so many parts, their nils show what M has, with what fills them
pub record Shows (T : Table) (Leads : TypeId → List ℕ → ℕ → Type 0) (count : ℕ) (b : List ℕ) (fill : Filler)
    (M : ℕ → Data) : Type 0 where
  pub there : (t : TypeId) (whole p left : List ℕ) (n : ℕ) (N : ℕ → Data) (fs : Fillings) → whole ≡ p ++ (b ++ left)
      → Leads t p n → Agrees N n M count → FillingsShow T t whole (length (p ++ b)) (n + count) fs N
      → FillingsShow T t whole (length p) n (fill p fs) N

unfilled_shows : {T : Table} {Leads : TypeId → List ℕ → ℕ → Type 0} (count : ℕ) (b : List ℕ)
    → Shows T Leads count b (λ p fs. fs) nulls
unfilled_shows count b = record {
  there = λ t whole p left n N fs is leads same more.
      earlier (omega (arith, length-append p b)) (omega arith)
      (λ k low high.
      let up : k ≡ n + (k - n) = omega (arith, low) in
      ap N up ∙ same.each (k - n) (omega (arith, low, high))) more;
}

both_show : {T : Table} {A B C : TypeId → List ℕ → ℕ → Type 0} {c d : ℕ} {b r : List ℕ} {f g : Filler}
    {M O : ℕ → Data} → ((t : TypeId) (p : List ℕ) (n : ℕ) → C t p n → A t p n)
    → ((t : TypeId) (p : List ℕ) (n : ℕ) → C t p n → B t (p ++ b) (n + c)) → Shows T A c b f M → Shows T B d r g O
    → Shows T C (c + d) (b ++ r) (λ p fs. f p (g (p ++ b) fs)) (spliced c M O)
both_show {c = c} {d = d} {b = b} {r = r} {g = g} {M = M} {O = O} first then one others = record {
  there = λ t whole p left n N fs is leads same more.
      let split : whole ≡ p ++ (b ++ (r ++ left)) = is ∙ ap (λ x. p ++ x) (append_assoc b r left) in
      one.there t whole p (r ++ left) n N (g (p ++ b) fs) split (first t p n leads) (first_agrees O c d same)
      (others.there t whole (p ++ b) left (n + c) N fs (split ∙ sym (append_assoc p b (r ++ left))) (then t p n leads)
      (rest_agrees M c d same)
      (elsewhere (ap length (sym (append_assoc p b r))) (sym (add_assoc n c d)) more));
}

-- ---- what is read, part by part
-- what fills the nils defines nothing
abbrev pub Plain : Filler → Type 0
Plain fill = (p : List ℕ) (fs : Fillings) → DefineNothing fs → DefineNothing (fill p fs)

pub record PartShown (T : Table) (u : TypeId) (limit : ℕ) (es : List HeldEvent) (piece rest : List ℕ) : Type 0 where
  pub begins : BeginsFilled T u limit piece rest
  pub nils : ℕ → Data
  pub shows : Shows T (LeadsTo T u) (part_count begins.value) begins.skeleton begins.fill nils
  pub defines : Plain begins.fill
  pub text : held_text es ≡ compact_text (value_json_with nils T u 0 begins.value)

pub record EachShown (T : Table) (e : TypeId) (limit count : ℕ) (later : Bool) (es : List HeldEvent)
    (piece rest : List ℕ) : Type 0 where
  pub begins : BeginsFilledEach T e limit count piece rest
  pub nils : ℕ → Data
  pub shows : Shows T (LeadsToElements T e count) (parts_of_all begins.values) begins.skeleton begins.fill nils
  pub defines : Plain begins.fill
  pub text : held_text es ≡ items_text later (elements_json_with nils T e 0 begins.values)

pub record EntriesShown (T : Table) (k e : TypeId) (limit count : ℕ) (later : Bool) (es : List HeldEvent)
    (piece rest : List ℕ) : Type 0 where
  pub begins : BeginsFilledPairs T k e limit count piece rest
  pub nils : ℕ → Data
  pub shows : Shows T (LeadsToEntries T k e count) (parts_of_pairs begins.pairs) begins.skeleton begins.fill nils
  pub defines : Plain begins.fill
  pub text : held_text es ≡ items_text later (pairs_json_with nils T k e 0 begins.pairs)

pub record FieldsShown (T : Table) (types : List Field) (next limit : ℕ) (es : List HeldEvent) (piece rest : List ℕ)
    : Type 0 where
  pub begins : BeginsFilledFields T types next limit piece rest
  pub nils : ℕ → Data
  pub shows : Shows T (LeadsToFields T types next) (parts_of_fields begins.fields) begins.skeleton begins.fill nils
  pub defines : Plain begins.fill
  pub text : held_text es ≡ items_text (nat_lt 0 next) (fields_json_with nils T types 0 begins.fields)

pub record TopShown (T : Table) (t : TypeId) (limit : ℕ) (es : List HeldEvent) (piece rest : List ℕ) : Type 0 where
  pub begins : BeginsFilledTop T t limit piece rest
  pub tree : Tree
  pub nils : ℕ → Data
  pub shows : FilledShows T t begins.value tree nils
  pub defines : DefinesNothing begins.value
  pub text : held_text es ≡ compact_text (value_json_with nils T t 0 tree)

texts : {a b c d : List ℕ} → a ≡ b → c ≡ d → a ++ c ≡ b ++ d
texts e f = cc

-- ---- what holds nothing
abbrev pub unfilled_begins : {T : Table} {u : TypeId} {limit : ℕ} {v : Tree} {b piece rest : List ℕ} → Spells T u v b
    → depth v ≤ limit → piece ≡ b ++ rest → BeginsFilled T u limit piece rest
unfilled_begins {v = v} {b = b} spelled within whole = record {
  value = v;
  skeleton = b;
  bytes = b;
  fill = λ p fs. fs;
  spelled = spelled;
  within = within;
  whole = whole;
  fills = λ o base L t p left ls fs around most leads deep f. as_they_stand p b o f;
}

abbrev pub elements_begin : {T : Table} {e : TypeId} {limit count : ℕ} {vs : Trees} {b piece rest : List ℕ}
    → SpellsEach T e vs b → Value.trees_depth vs ≤ limit → tree_count vs ≡ count → piece ≡ b ++ rest
    → BeginsFilledEach T e limit count piece rest
elements_begin {vs = vs} {b = b} spelled within counted whole = record {
  values = vs;
  skeleton = b;
  bytes = b;
  fill = λ p fs. fs;
  spelled = spelled;
  within = within;
  counted = counted;
  whole = whole;
  fills = λ o base L t p q left ls fs around most all before leads sp n deep f. as_they_stand (p ++ q) b o f;
}

abbrev pub no_entries_begin : (T : Table) (k e : TypeId) (limit : ℕ) (piece : List ℕ)
    → BeginsFilledPairs T k e limit 0 piece piece
no_entries_begin T k e limit piece = record {
  pairs = no_pair;
  skeleton = [];
  bytes = [];
  fill = λ p fs. fs;
  spelled = no_entry;
  within = omega arith;
  counted = refl;
  whole = refl;
  fills = λ o base L t p q left ls fs around most all before keys values sp n deep f. as_they_stand (p ++ q) [] o f;
}

unfilled_shown : {T : Table} {u : TypeId} {limit : ℕ} {v : Tree} {b piece rest : List ℕ} → Spells T u v b
    → depth v ≤ limit → piece ≡ b ++ rest → PartShown T u limit (all_told (value_told T u v)) piece rest
unfilled_shown {T = T} {u = u} {v = v} {b = b} spelled within whole = record {
  begins = unfilled_begins spelled within whole;
  nils = nulls;
  shows = unfilled_shows (part_count v) b;
  defines = λ p fs plain. plain;
  text = held_text_of_all (value_told T u v) ∙ value_text T u v ∙ ap compact_text (sym (value_nulls T u 0 v));
}

unfilled_each : {T : Table} {e : TypeId} {limit count : ℕ} {later : Bool} {vs : Trees} {b piece rest : List ℕ}
    → SpellsEach T e vs b → Value.trees_depth vs ≤ limit → tree_count vs ≡ count → piece ≡ b ++ rest
    → EachShown T e limit count later (all_told (elements_told later T e vs)) piece rest
unfilled_each {T = T} {e = e} {later = later} {vs = vs} {b = b} spelled within counted whole = record {
  begins = elements_begin spelled within counted whole;
  nils = nulls;
  shows = unfilled_shows (parts_of_all vs) b;
  defines = λ p fs plain. plain;
  text = held_text_of_all (elements_told later T e vs) ∙ elements_text later T e vs
      ∙ ap (items_text later) (sym (elements_nulls T e 0 vs));
}

-- ---- elements
element_shown : {T : Table} {e : TypeId} {limit count : ℕ} {later : Bool} {es fs : List HeldEvent}
    {piece mid rest : List ℕ} → PartShown T e limit es piece mid → EachShown T e limit count true fs mid rest
    → EachShown T e limit (count + 1) later (told (event.element later) ∷ (es ++ fs)) piece rest
unfolding element_begins
element_shown {T = T} {e = e} {limit = limit} {count = count} {later = later} {es = es} {fs = fs} {piece = piece}
    {mid = mid} {rest = rest} h k =
    let v = h.begins.value in
    let vs = k.begins.values in
    let c = part_count v in
    let d = parts_of_all vs in
    let N = spliced c h.nils k.nils in
    let first : value_json_with N T e 0 v ≡ value_json_with h.nils T e 0 v =
    value_shifts T e v N h.nils 0 0 (first_spliced c h.nils k.nils) in
    let others : elements_json_with N T e (0 + c) vs ≡ elements_json_with k.nils T e 0 vs =
    elements_shift T e vs N k.nils (0 + c) 0 (rest_spliced c h.nils k.nils d) in
    record {
      begins = element_begins e limit (count + 1) count refl piece mid rest h.begins k.begins;
      nils = N;
      shows = both_show {A = LeadsTo T e} {B = LeadsToElements T e count} {C = LeadsToElements T e (count + 1)}
          (first_element count) (other_elements h.begins.spelled) h.shows k.shows;
      defines = λ p fs plain. h.defines p _ (k.defines _ fs plain);
      text = ap (λ l. comma_if later ++ l)
          (held_text_of_both es fs ∙ texts h.text k.text
          ∙ texts (ap compact_text (sym first)) (ap (items_text true) (sym others)));
    }

no_elements_shown : (T : Table) (e : TypeId) (limit : ℕ) (later : Bool) (piece : List ℕ)
    → EachShown T e limit 0 later (told event.list_ends ∷ []) piece piece
no_elements_shown T e limit later piece = record {
  begins = elements_begin no_element (omega arith) refl refl;
  nils = nulls;
  shows = unfilled_shows 0 [];
  defines = λ p fs plain. plain;
  text = refl;
}

-- ---- entries
entry_shown : {T : Table} {k e : TypeId} {limit count : ℕ} {later : Bool} {ks es fs : List HeldEvent}
    {piece behind mid rest : List ℕ} → PartShown T k limit ks piece behind → PartShown T e limit es behind mid
    → EntriesShown T k e limit count true fs mid rest → EntriesShown T k e limit (count + 1) later
    (told (event.entry k later) ∷ ((ks ++ told (event.between k) ∷ (es ++ told (event.entry_ends k) ∷ [])) ++ fs))
    piece rest
unfolding pair_begins
entry_shown {T = T} {k = k} {e = e} {limit = limit} {count = count} {later = later} {ks = ks} {es = es} {fs = fs}
    {piece = piece} {behind = behind} {mid = mid} {rest = rest} g h o =
    let x = g.begins.value in
    let v = h.begins.value in
    let ps = o.begins.pairs in
    let a = g.begins.skeleton in
    let b = h.begins.skeleton in
    let c = part_count x in
    let d = part_count v in
    let r = parts_of_pairs ps in
    let M = spliced d h.nils o.nils in
    let N = spliced c g.nils M in
    let seam = rest_spliced c g.nils M (d + r) in
    let key : value_json_with N T k 0 x ≡ value_json_with g.nils T k 0 x =
    value_shifts T k x N g.nils 0 0 (first_spliced c g.nils M) in
    let value : value_json_with N T e (0 + c) v ≡ value_json_with h.nils T e 0 v =
    value_shifts T e v N h.nils (0 + c) 0
    (trans_alike d (first_alike d (d + r) (omega arith) seam) (first_spliced d h.nils o.nils)) in
    let others : pairs_json_with N T k e (0 + c + d) ps ≡ pairs_json_with o.nils T k e 0 ps =
    pairs_shift T k e ps N o.nils (0 + c + d) 0
    (trans_alike r (rest_alike d r (d + r) (omega arith) seam) (rest_spliced d h.nils o.nils r)) in
    let Second = LeadsBehindKey T k e count b d in
    let ends = told (event.entry_ends k) ∷ [] in
    let second : held_text (es ++ ends) ≡ compact_text (value_json_with N T e (0 + c) v) ++ 93 ∷ [] =
    held_text_of_both es ends ∙ ap (λ l. l ++ 93 ∷ []) (h.text ∙ ap compact_text (sym value)) in
    let one : held_text (ks ++ told (event.between k) ∷ (es ++ ends))
    ≡ compact_text (value_json_with N T k 0 x) ++ 44 ∷ (compact_text (value_json_with N T e (0 + c) v) ++ 93 ∷ []) =
    held_text_of_both ks (told (event.between k) ∷ (es ++ ends))
    ∙ texts (g.text ∙ ap compact_text (sym key)) (ap (λ l. 44 ∷ l) second) in
    record {
      begins = pair_begins k e limit (count + 1) count refl piece behind mid rest g.begins h.begins o.begins;
      nils = N;
      shows = both_show {A = LeadsTo T k} {B = Second} {C = LeadsToEntries T k e (count + 1)}
          (first_key count) (behind_key g.begins.spelled h.begins.spelled)
          g.shows (both_show {A = LeadsTo T e} {B = LeadsToEntries T k e count} {C = Second}
          (λ t p n leads. leads.0) (λ t p n leads. leads.1) h.shows o.shows);
      defines = λ p fs plain. g.defines p _ (h.defines _ _ (o.defines _ fs plain));
      text = append_assoc (comma_if later) (91 ∷ []) _ ∙ ap (λ l. comma_if later ++ 91 ∷ l)
          (held_text_of_both (ks ++ told (event.between k) ∷ (es ++ ends)) fs
          ∙ texts one (o.text ∙ ap (items_text true) (sym others)));
    }

no_entries_shown : (T : Table) (k e : TypeId) (limit : ℕ) (later : Bool) (piece : List ℕ)
    → EntriesShown T k e limit 0 later (told (event.map_ends k) ∷ []) piece piece
no_entries_shown T k e limit later piece = record {
  begins = no_entries_begin T k e limit piece;
  nils = nulls;
  shows = unfilled_shows 0 [];
  defines = λ p fs plain. plain;
  text = refl;
}

-- ---- fields
no_fields_shown : {T : Table} {piece rest : List ℕ} (types : List Field) (next limit : ℕ)
    → BeginsThisNumber 0 piece rest
    → FieldsShown T types next limit (told (event.struct_ends types next) ∷ []) piece rest
unfolding fields_end_here
no_fields_shown {piece = piece} {rest = rest} types next limit h = record {
  begins = fields_end_here types next limit 0 refl piece rest h;
  nils = nulls;
  shows = unfilled_shows 0 h.bytes;
  defines = λ p fs plain. plain;
  text = refl;
}

field_shown : {T : Table} {types : List Field} {next f limit delta : ℕ} {e : Field} {es fs : List HeldEvent}
    {piece behind mid rest : List ℕ} → 0 < delta → f + 1 ≡ next + delta → slice_get types f ≡ Some e
    → BeginsThisNumber delta piece behind → PartShown T e.id limit es behind mid
    → FieldsShown T types (f + 1) limit fs mid rest → FieldsShown T types next limit
    ((told (event.present types next f) ∷ (es ++ told event.field_ends ∷ [])) ++ fs) piece rest
unfolding field_begins
field_shown {T = T} {types = types} {next = next} {f = f} {limit = limit} {delta = delta} {e = e} {es = es} {fs = fs}
    {piece = piece} {behind = behind} {mid = mid} {rest = rest} some is here g h k =
    let v = h.begins.value in
    let ws = k.begins.fields in
    let b = h.begins.skeleton in
    let c = part_count v in
    let d = parts_of_fields ws in
    let N = spliced c h.nils k.nils in
    let up : delta ≡ f + 1 - next = omega (arith, is) in
    let order : next ≤ f = omega (arith, is, some) in
    let spelled = subst (λ i. IsUnsigned i g.bytes) up g.spelled in
    let type : field_type (slice_get types f) ≡ e.id = ap field_type here in
    let first : value_json_with N T (field_type (slice_get types f)) 0 v ≡ value_json_with h.nils T e.id 0 v =
    ap (λ t. value_json_with N T t 0 v) type ∙ value_shifts T e.id v N h.nils 0 0 (first_spliced c h.nils k.nils) in
    let others : fields_json_with N T types (0 + c) ws ≡ fields_json_with k.nils T types 0 ws =
    fields_shift T types ws N k.nils (0 + c) 0 (rest_spliced c h.nils k.nils d) in
    let Behind = LeadsBehindDelta T types e.id f b c in
    let ends = told event.field_ends ∷ [] in
    let inner : held_text (es ++ ends)
    ≡ compact_text (value_json_with N T (field_type (slice_get types f)) 0 v) ++ 93 ∷ [] =
    held_text_of_both es ends ∙ ap (λ l. l ++ 93 ∷ []) (h.text ∙ ap compact_text (sym first)) in
    let rest_text : held_text fs ≡ items_text true (fields_json_with N T types (0 + c) ws) =
    subst (λ x. held_text fs ≡ items_text x (fields_json_with N T types (0 + c) ws)) (later_on f)
    (k.text ∙ ap (items_text (nat_lt 0 (f + 1))) (sym others)) in
    record {
      begins = field_begins types next limit delta f e some is here piece behind mid rest g h.begins k.begins;
      nils = N;
      shows = counted (zero-add (c + d))
          (both_show {A = λ t p n. Unit {0}} {B = Behind} {C = LeadsToFields T types next}
          (λ t p n leads. tt)
          (behind_delta order here spelled h.begins.spelled)
          (unfilled_shows 0 g.bytes) (both_show {A = LeadsTo T e.id} {B = LeadsToFields T types (f + 1)} {C = Behind}
          (λ t p n leads. leads.0) (λ t p n leads. leads.1) h.shows k.shows));
      defines = λ p fs plain. h.defines _ _ (k.defines _ fs plain);
      text = ap (λ l. field_head (nat_lt 0 next) f (field_name (slice_get types f)) ++ l)
          (held_text_of_both (es ++ ends) fs ∙ texts inner rest_text)
          ∙ head_goes_on (nat_lt 0 next) f (field_name (slice_get types f))
          (compact_text (value_json_with N T (field_type (slice_get types f)) 0 v))
          (items_text true (fields_json_with N T types (0 + c) ws));
    }
  where
    counted : {T : Table} {Leads : TypeId → List ℕ → ℕ → Type 0} {c d : ℕ} {b : List ℕ} {fill : Filler}
        {M : ℕ → Data} → c ≡ d → Shows T Leads c b fill M → Shows T Leads d b fill M
    counted {T = T} {Leads = Leads} {b = b} {fill = fill} {M = M} e s = subst (λ n. Shows T Leads n b fill M) e s

-- ---- values with parts
-- a count, with which the value begins, and its parts
behind_count : {T : Table} {u : TypeId} {Parts : TypeId → List ℕ → ℕ → Type 0} {d : ℕ} {r : List ℕ} {g : Filler}
    {M : ℕ → Data} (c : List ℕ)
    → ((t : TypeId) (p : List ℕ) (n : ℕ) → LeadsToPart T t p u n → Parts t ((p ++ c) ++ []) (n + 1))
    → Shows T Parts d r g M
    → Shows T (LeadsTo T u) (d + 1) (c ++ r) (λ p fs. g ((p ++ c) ++ []) fs) (spliced 1 nulls M)
behind_count {T = T} {u = u} {Parts = Parts} {d = d} {r = r} {g = g} {M = M} c leads parts =
    let up : 1 + (0 + d) ≡ d + 1 = omega arith in
    subst (λ n. Shows T (LeadsTo T u) n (c ++ r) (λ p fs. g ((p ++ c) ++ []) fs) (spliced 1 nulls M)) up
    (both_show {A = LeadsTo T u} {B = λ t p n. Parts t (p ++ []) n} {C = LeadsTo T u} (λ t p n l. l) leads
    (unfilled_shows 1 c)
    (both_show {A = λ t p n. Unit {0}} {B = Parts} {C = λ t p n. Parts t (p ++ []) n} (λ t p n l. tt)
    (λ t p n l. subst (λ i. Parts t (p ++ []) i) (sym (add-zero n)) l) (unfilled_shows 0 []) parts))

slice_shown : {T : Table} {u e : TypeId} {limit count : ℕ} {es : List HeldEvent} {piece behind rest : List ℕ}
    → IsOfKind T u (kind.Slice e) → 0 < limit → BeginsThisNumber count piece behind
    → EachShown T e (limit - 1) count false es behind rest
    → PartShown T u limit (told event.list_begins ∷ es) piece rest
unfolding slice_begins
slice_shown {T = T} {u = u} {e = e} {limit = limit} {count = count} {es = es} {piece = piece} {behind = behind}
    {rest = rest} is some g h =
    let vs = h.begins.values in
    let elements : element_type (shape_of T u) ≡ e =
    ap element_type is.1 ∙ ap (λ k. unwrap_or (elem_named k) no_type) is.2 in
    record {
      begins = slice_begins u e limit count is some piece behind rest g h.begins;
      nils = spliced 1 nulls h.nils;
      shows = behind_count g.bytes (slice_elements is g.spelled) h.shows;
      defines = λ p fs plain. h.defines _ fs plain;
      text = ap (λ l. 91 ∷ l) (h.text ∙ ap (items_text false)
          (sym (elements_shift T e vs (spliced 1 nulls h.nils) h.nils 1 0
          (rest_spliced 1 nulls h.nils (parts_of_all vs)))
          ∙ ap (λ t. elements_json_with (spliced 1 nulls h.nils) T t 1 vs) (sym elements)));
    }

array_shown : {T : Table} {u e : TypeId} {limit count : ℕ} {es : List HeldEvent} {piece behind rest : List ℕ}
    → IsOfKind T u (kind.Array e count) → 0 < limit → BeginsThisNumber count piece behind
    → EachShown T e (limit - 1) count false es behind rest
    → PartShown T u limit (told event.list_begins ∷ es) piece rest
unfolding array_begins
array_shown {T = T} {u = u} {e = e} {limit = limit} {count = count} {es = es} {piece = piece} {behind = behind}
    {rest = rest} is some g h =
    let vs = h.begins.values in
    let elements : element_type (shape_of T u) ≡ e =
    ap element_type is.1 ∙ ap (λ k. unwrap_or (elem_named k) no_type) is.2 in
    record {
      begins = array_begins u e limit count count is some refl piece behind rest g h.begins;
      nils = spliced 1 nulls h.nils;
      shows = behind_count g.bytes (array_elements is g.spelled) h.shows;
      defines = λ p fs plain. h.defines _ fs plain;
      text = ap (λ l. 91 ∷ l) (h.text ∙ ap (items_text false)
          (sym (elements_shift T e vs (spliced 1 nulls h.nils) h.nils 1 0
          (rest_spliced 1 nulls h.nils (parts_of_all vs)))
          ∙ ap (λ t. elements_json_with (spliced 1 nulls h.nils) T t 1 vs) (sym elements)));
    }

map_shown : {T : Table} {u k e : TypeId} {limit count : ℕ} {es : List HeldEvent} {piece behind rest : List ℕ}
    → IsOfKind T u (kind.Map k e) → 0 < limit → BeginsThisNumber count piece behind
    → EntriesShown T k e (limit - 1) count false es behind rest
    → PartShown T u limit (told (event.map_begins k) ∷ es) piece rest
unfolding map_begins
map_shown {T = T} {u = u} {k = k} {e = e} {limit = limit} {count = count} {es = es} {piece = piece} {behind = behind}
    {rest = rest} is some g h =
    let ps = h.begins.pairs in
    let N = spliced 1 nulls h.nils in
    let keys : key_type (shape_of T u) ≡ k =
    ap key_type is.1 ∙ ap (λ k. unwrap_or (key_named k) no_type) is.2 in
    let elements : element_type (shape_of T u) ≡ e =
    ap element_type is.1 ∙ ap (λ k. unwrap_or (elem_named k) no_type) is.2 in
    record {
      begins = map_begins u k e limit count is some piece behind rest g h.begins;
      nils = N;
      shows = behind_count g.bytes (map_entries is g.spelled) h.shows;
      defines = λ p fs plain. h.defines _ fs plain;
      text = ap (λ l. 91 ∷ l) (h.text ∙ ap (items_text false)
          (sym (pairs_shift T k e ps N h.nils 1 0 (rest_spliced 1 nulls h.nils (parts_of_pairs ps)))
          ∙ ap (λ t. pairs_json_with N T t e 1 ps) (sym keys)
          ∙ ap (λ t. pairs_json_with N T (key_type (shape_of T u)) t 1 ps) (sym elements)));
    }

struct_shown : {T : Table} {u : TypeId} {types : List Field} {limit : ℕ} {es : List HeldEvent} {piece rest : List ℕ}
    → IsOfKind T u (kind.Struct types) → 0 < limit → FieldsShown T types 0 (limit - 1) es piece rest
    → PartShown T u limit (told event.struct_begins ∷ es) piece rest
unfolding struct_begins
struct_shown {T = T} {u = u} {types = types} {limit = limit} {es = es} {piece = piece} {rest = rest} is some h =
    let ws = h.begins.fields in
    let N = spliced 1 nulls h.nils in
    let d = parts_of_fields ws in
    let up : 1 + d ≡ d + 1 = omega arith in
    let fields : struct_fields (shape_of T u) ≡ types =
    ap struct_fields is.1 ∙ ap (λ k. unwrap_or (fields_named k) []) is.2 in
    record {
      begins = struct_begins u types limit is some piece rest h.begins;
      nils = N;
      shows = subst
          (λ n. Shows T (LeadsTo T u) n h.begins.skeleton (λ p fs. h.begins.fill (p ++ []) fs) N) up
          (both_show {A = LeadsTo T u} {B = LeadsToFields T types 0} {C = LeadsTo T u} (λ t p n l. l)
          (struct_parts is) (unfilled_shows 1 []) h.shows);
      defines = λ p fs plain. h.defines _ fs plain;
      text = ap (λ l. 91 ∷ l) (h.text ∙ ap (items_text false)
          (sym (fields_shift T types ws N h.nils 1 0 (rest_spliced 1 nulls h.nils d))
          ∙ ap (λ t. fields_json_with N T t 1 ws) (sym fields)));
    }

-- ---- what an interface holds
held_shows_text : (name : List ℕ) (id : TypeId) (value : Data)
    → held_head name id ++ (compact_text value ++ 125 ∷ 125 ∷ [])
    ≡ compact_text (interface_json name id value)
unfolding escape_byte
held_shows_text name id value = simp append_assoc

held_shown : {T : Table} {u held : TypeId} {limit size : ℕ} {es : List HeldEvent} {name piece inner rest : List ℕ}
    → IsOfKind T u (kind.Basic basic.Interface) → BeginsHeld T name held size piece inner
    → TopShown T held limit es inner rest → length inner ≡ size + length rest
    → PartShown T u (limit + 1) (held_begins name held ∷ (es ++ held_ends ∷ [])) piece rest
unfolding interface_holds
held_shown {T = T} {u = u} {held = held} {limit = limit} {size = size} {es = es} {name = name} {piece = piece}
    {inner = inner} {rest = rest} is g h full =
    let w = h.begins.bytes in
    let json = interface_json name held (value_json_with h.nils T held 0 h.tree) in
    let last : length w ≡ size =
    omega (arith, full, ap length h.begins.whole, length-append w rest) in
    let whole : piece ≡ (g.name_count ++ (name ++ (g.number ++ (g.count ++ w)))) ++ rest =
    g.whole ∙ ap (λ l. (g.name_count ++ (name ++ (g.number ++ g.count))) ++ l) h.begins.whole
    ∙ regrouped g.name_count name g.number g.count w rest in
    record {
      begins = interface_holds u held limit g.name_count name g.number g.count w is g.some g.named g.may g.typed
          (subst (λ n. IsUnsigned n g.count) (sym last) g.counted) h.begins.value h.begins.spelled piece rest whole;
      nils = λ k. json;
      shows = record {
        there = λ t bytes p left n N fs split leads same more.
            let part = begun bytes p (0 ∷ left) split is leads in
            let length_is : length bytes ≡ length p + length (0 ∷ left) =
            ap length split ∙ length-append p (0 ∷ left) in
            let size_is : length (p ++ []) ≡ length p = ap length (append-nil p) in
            then_shown (omega (arith, size_is)) (omega (arith, size_is, length_is))
            part.1
            (omega arith) (λ m low high. absurd (omega (arith, low, high))) h.shows
            (ap N (sym (add-zero n)) ∙ same.each 0 (omega arith))
            (earlier (omega (arith, size_is, length-append p (0 ∷ []))) (omega arith)
            (λ m low high. absurd (omega (arith, low, high))) more);
      };
      defines = λ p fs plain. and_defines h.defines plain;
      text = ap (λ l. held_head name held ++ l)
          (held_text_of_both es (held_ends ∷ []) ∙ ap (λ l. l ++ 125 ∷ 125 ∷ []) h.text)
          ∙ held_shows_text name held (value_json_with h.nils T held 0 h.tree);
    }
  where
    regrouped : (a b c d w z : List ℕ) → (a ++ (b ++ (c ++ d))) ++ (w ++ z) ≡ (a ++ (b ++ (c ++ (d ++ w)))) ++ z
    regrouped a b c d w z = simp append_assoc

-- ---- behind a tag or without one
null_behind : (c : ℕ) (M : ℕ → Data) (m : ℕ) → 0 + c ≤ m → spliced c M nulls m ≡ null
null_behind c M m low =
    let up : m ≡ c + (m - c) = omega (arith, low) in ap (spliced c M nulls) up ∙ behind_seam c M nulls (m - c)

agrees_alone : (c : ℕ) (M : ℕ → Data) → Agrees (spliced c M nulls) 0 M c
agrees_alone c M = record { each = λ k l. ap (spliced c M nulls) (zero-add k) ∙ before_seam c M nulls k l }

struct_top_shown : {T : Table} {t : TypeId} {s : Shape} {limit : ℕ} {es : List HeldEvent} {piece rest : List ℕ}
    → shape_of T t ≡ Some s → IsStruct s.kind → PartShown T t limit es piece rest → TopShown T t limit es piece rest
unfolding struct_top
struct_top_shown {T = T} {t = t} {es = es} {piece = piece} {rest = rest} found is h =
    let v = h.begins.value in
    let b = h.begins.skeleton in
    let c = part_count v in
    let N = spliced c h.nils nulls in
    record {
      begins = struct_top found is piece rest h.begins;
      tree = v;
      nils = N;
      shows = filled_shows (at_once found is h.begins.spelled)
          (h.shows.there t b [] [] 0 N no_filling (sym (append-nil b)) (at_struct found is) (agrees_alone c h.nils)
          (none_left (null_behind c h.nils)));
      defines = defines_nothing (h.defines [] no_filling none_defines);
      text = h.text ∙ ap compact_text (sym (value_shifts T t v N h.nils 0 0 (first_spliced c h.nils nulls)));
    }

tagged_top_shown : {T : Table} {t : TypeId} {s : Shape} {limit : ℕ} {es : List HeldEvent} {piece rest : List ℕ}
    → shape_of T t ≡ Some s → ¬ IsStruct s.kind → PartShown T t limit es piece rest
    → TopShown T t limit es (0 ∷ piece) rest
unfolding tagged_top
tagged_top_shown {T = T} {t = t} {es = es} {piece = piece} {rest = rest} found isnt h =
    let v = h.begins.value in
    let b = h.begins.skeleton in
    let c = part_count v in
    let N = spliced c h.nils nulls in
    record {
      begins = tagged_top found isnt piece rest h.begins;
      tree = v;
      nils = N;
      shows = filled_shows (tagged found isnt h.begins.spelled)
          (earlier (omega arith) (omega arith) (λ m low high. absurd (omega (arith, low, high)))
          (h.shows.there t (0 ∷ b) (0 ∷ []) [] 0 N no_filling (ap (λ l. 0 ∷ l) (sym (append-nil b)))
          (at_tagged found isnt) (agrees_alone c h.nils) (none_left (null_behind c h.nils))));
      defines = defines_nothing (h.defines (0 ∷ []) no_filling none_defines);
      text = h.text ∙ ap compact_text (sym (value_shifts T t v N h.nils 0 0 (first_spliced c h.nils nulls)));
    }

-- ---- all that is read
mutual
  value_shown : {T : Table} {u : TypeId} {limit : ℕ} {es : List HeldEvent} {piece rest : List ℕ}
      → Reads T u limit es piece rest → PartShown T u limit es piece rest
  value_shown (reads_unfilled h) = unfilled_shown h.spelled h.within h.whole
  value_shown (reads_slice is some g h) = slice_shown is some g (each_shown h)
  value_shown (reads_array is some g h) = array_shown is some g (each_shown h)
  value_shown (reads_map is some g h) = map_shown is some g (entries_shown h)
  value_shown (reads_struct is some h) = struct_shown is some (fields_shown h)
  value_shown (reads_held is g h full) = held_shown is g (top_shown h) full

  pub top_shown : {T : Table} {t : TypeId} {limit : ℕ} {es : List HeldEvent} {piece rest : List ℕ}
      → ReadsTop T t limit es piece rest → TopShown T t limit es piece rest
  top_shown (reads_at_once found is h) = struct_top_shown found is (value_shown h)
  top_shown (reads_tagged found isnt h) = tagged_top_shown found isnt (value_shown h)

  each_shown : {T : Table} {e : TypeId} {limit count : ℕ} {later : Bool} {es : List HeldEvent} {piece rest : List ℕ}
      → ReadsEach T e limit count later es piece rest → EachShown T e limit count later es piece rest
  each_shown {T = T} {e = e} {limit = limit} {later = later} {piece = piece} no_more =
      no_elements_shown T e limit later piece
  each_shown (and_element h k) = element_shown (value_shown h) (each_shown k)
  each_shown (unfilled_elements h counted) = unfilled_each h.spelled h.within counted h.whole

  entries_shown : {T : Table} {k e : TypeId} {limit count : ℕ} {later : Bool} {es : List HeldEvent}
      {piece rest : List ℕ} → ReadsEntries T k e limit count later es piece rest
      → EntriesShown T k e limit count later es piece rest
  entries_shown {T = T} {k = k} {e = e} {limit = limit} {later = later} {piece = piece} no_entry_more =
      no_entries_shown T k e limit later piece
  entries_shown (and_entry g h o) = entry_shown (value_shown g) (value_shown h) (entries_shown o)

  fields_shown : {T : Table} {types : List Field} {next limit : ℕ} {es : List HeldEvent} {piece rest : List ℕ}
      → ReadsFields T types next limit es piece rest → FieldsShown T types next limit es piece rest
  fields_shown {types = types} {next = next} {limit = limit} (fields_stop h) = no_fields_shown types next limit h
  fields_shown (and_field some is here g h k) = field_shown some is here g (value_shown h) (fields_shown k)
