-- What is read through interfaces is a value with fillings, and tokens that say what was told are those of JSON that
-- says it.
use Rattle.std.proofs.Common.{◌≡◌, ℕ, zero, suc, ◌+◌, ◌-◌, ◌<◌, ◌≤◌, List, [], ◌∷◌, ◌++◌, Bool, true, false, Some, refl}
use Rattle.std.proofs.Common.{arith, sym, ap, subst, ◌∙◌, append_assoc, append-nil, length, length-append, get_or, take}
use Rattle.std.proofs.Common.{add-zero}
use Rattle.std.proofs.lemmas.List.{append_cancel_right, get_or-append-add, get_or_append_left}
use Rattle.std.specs.Prelude.{◌==◌, ◌&&◌, ◌||◌, slice_get, if◌then◌else◌, ⊤}
use Rattle.json.specs.Json.{Json, Items, Members}
use Rattle.json.specs.Json as json
use Rattle.json.specs.Token.{Token}
use Rattle.json.specs.Tree.{json_tokens, items_tokens, members_tokens}
use Rattle.gob_types.specs.Defined.{IsTable}
use Rattle.gob_types.specs.Table.{Table, shape_of}
use Rattle.gob_types.specs.declared.basic.Basic.TheVariants as basic
use Rattle.gob_types.specs.declared.id.TypeId.{TypeId}
use Rattle.gob_types.specs.declared.kind.Field.{Field}
use Rattle.gob_types.specs.declared.kind.Kind.TheVariants as kind
use Rattle.gob_types.specs.declared.kind.Shape.{Shape}
use Rattle.gob_num.specs.Unsigned.{AreBytes, IsUnsigned}
use Rattle.gob_value.specs.Machine.Begins.{BeginsThisNumber}
use Rattle.gob_value.specs.Spelling.{Spells, no_element}
use Rattle.gob_value.specs.Top.{IsStruct, at_once, tagged}
use Rattle.gob_value.specs.Tree.{Tree, Trees, no_tree, tree, Pairs, no_pair, pair, Fields, no_field, field, depth}
use Rattle.gob_value.specs.Tree.{tree_count}
use Rattle.gob_value.specs.Tree as Value
use Rattle.gob_read.specs.Held.{PartialBody}
use Rattle.gob_read.specs.Weight.{part_count}
use Rattle.gob_filled.specs.Filled.{Filled, filled, Fillings, no_filling, filling, no_definitions, SpellsFilled}
use Rattle.gob_go.specs.Whole.{IsFilledWhole}
use Rattle.gob_go.specs.Machine.WholeFilled.{IsOfKind, Filler, BeginsFilled, BeginsFilledEach, BeginsFilledPairs}
use Rattle.gob_go.specs.Machine.WholeFilled.{BeginsFilledFields, BeginsFilledTop}
use Rattle.gob_go.proofs.WholeFilledSteps.{element_begins, pair_begins, fields_end_here, field_begins, slice_begins}
use Rattle.gob_go.proofs.WholeFilledSteps.{array_begins, map_begins, struct_begins, struct_top, tagged_top}
use Rattle.gob_go.proofs.WholeFilledSteps.{held_begins as interface_holds}
use Rattle.gob_json.specs.Json.{element_type, field_name, field_type}
use Rattle.gob_walk.specs.Event.{Event, value_told, elements_told}
use Rattle.gob_walk.specs.Event as event
use Rattle.gob_walk.specs.Standing.{HoldsValue, BeginsElements}
use Rattle.gob_filled_walk.specs.HeldEvent.{HeldEvent, told, held_begins, held_ends, all_told}
use Rattle.gob_filled_walk.specs.Reads.{Reads, ReadsTop, ReadsEach, ReadsEntries, ReadsFields, reads_unfilled}
use Rattle.gob_filled_walk.specs.Reads.{reads_slice, reads_array, reads_map, reads_struct, reads_held, reads_at_once}
use Rattle.gob_filled_walk.specs.Reads.{reads_tagged, no_more, and_element, unfilled_elements, no_entry_more}
use Rattle.gob_filled_walk.specs.Reads.{and_entry, fields_stop, and_field, BeginsHeld}
use Rattle.gob_filled_walk.proofs.LeadLaws.{LeadsToElements, LeadsToEntries, LeadsToFields, LeadsTo, LeadsBehindKey}
use Rattle.gob_filled_walk.proofs.LeadLaws.{LeadsBehindDelta, at_struct, at_tagged, begun, first_element}
use Rattle.gob_filled_walk.proofs.LeadLaws.{other_elements}
use Rattle.gob_filled_walk.proofs.LeadLaws.{slice_elements, array_elements, first_key, behind_key, map_entries}
use Rattle.gob_filled_walk.proofs.LeadLaws.{behind_delta, struct_parts}
use Rattle.gob_filled_walk.proofs.ShownLaws.{unfilled_begins, elements_begin, no_entries_begin}
use Rattle.gob_plain.specs.declared.style.Style.{Style}
use Rattle.gob_plain.specs.declared.visitor.VisitorPlace.TheVariants as place
use Rattle.gob_plain.specs.AbsentFields.{AbsentTokens}
use Rattle.gob_plain.specs.Filled.{SaysInWith, SaysMapIn, between, shown, shown_all, zeros_before, nils_in, within}
use Rattle.gob_plain.specs.Filled.{nils_of_each_in, nils_of_fields_in, nils_of_map_in, nils_of_members_in}
use Rattle.gob_plain.specs.Filled.{nils_of_pairs_in}
use Rattle.gob_plain.specs.HeldEvents.{held_opens, held_closes, plain_events, plain_events_all, plain_events_both}
use Rattle.gob_plain.specs.HeldEvents.{tag_field}
use Rattle.gob_plain.specs.HeldPlain.{nil_parts, nil_parts_of_each, nil_parts_of_fields, nil_parts_of_pairs, NilsSay}
use Rattle.gob_plain.specs.HeldPlain.{SaysFilled, no_nil, says_filled, says_held, says_null, tagged_json}
use Rattle.gob_plain.specs.OpaqueText.{content_in}
use Rattle.gob_plain.specs.Plain.{all_null, all_differ, are_utf8, behind, gives_names, key_names, key_text, name_text}
use Rattle.gob_plain.specs.Plain.{SayFields}
use Rattle.gob_plain.specs.PlainEvents.{SaysEvents, entry_closes, map_closes, map_opens}
use Rattle.gob_plain.proofs.FormLaws.{all_named, form_other, map_named, map_pairs, named_nils, other_nils}
use Rattle.gob_plain.proofs.HeldTokenLaws.{nothing_absent}
use Rattle.gob_plain.proofs.NilCountLaws.{elements_of, fields_of, keys_of, names_kind, name_bare, nils_counted}
use Rattle.gob_plain.proofs.NilCountLaws.{each_counted, each_nils_shown, nils_shown}
use Rattle.gob_plain.proofs.NilLaws.{each_as_much, element_nils, entry_nils, field_nils, member_nils, no_element_nils}
use Rattle.gob_plain.proofs.NilLaws.{no_entry_nils, no_field_nils, no_member_nils, says_as_much}
use Rattle.gob_plain.proofs.PartingLaws.{json_one}
use Rattle.gob_plain.proofs.PartLaws.{nil_says}
use Rattle.gob_plain.proofs.SaidLaws as events
use Rattle.gob_plain.proofs.StyleLaws.{EachIn, MembersIn, PairsIn, FieldsIn, absent_last, absent_then, element_in}
use Rattle.gob_plain.proofs.StyleLaws.{entry_in, many_in, many_nils, map_in, map_nils, member_in, nil_nils}
use Rattle.gob_plain.proofs.StyleLaws.{no_element_in, no_entry_in, no_member_in, struct_in, struct_nils}

-- ---- what nils say

-- they say this JSON, one behind another
abbrev pub AreSaid : (ℕ → Json → Type 0) → List Json → Type 0
AreSaid N said = (k : ℕ) → k < length said → N k (get_or said k json.null)

first_said : (N : ℕ → Json → Type 0) (a b : List Json) → AreSaid N (a ++ b) → AreSaid N a
first_said N a b f = λ k l.
    subst (λ j. N k j) (get_or_append_left a b json.null k l) (f k (omega (arith, l, length-append a b)))

rest_said : (N : ℕ → Json → Type 0) (n : ℕ) (a b : List Json) → length a ≡ n → AreSaid N (a ++ b)
    → AreSaid (behind n N) b
rest_said N n a b e f = λ k l.
    subst (λ m. N m (get_or b k json.null)) (ap (λ m. m + k) e)
    (subst (λ j. N (length a + k) j) (get_or-append-add a b k json.null)
    (f (length a + k) (omega (arith, l, length-append a b))))

both_counted : {m n : ℕ} (a b : List Json) → length a ≡ m → length b ≡ n → length (a ++ b) ≡ m + n
both_counted a b e f = omega (arith, e, f, length-append a b)

-- so many say null
abbrev nulls : ℕ → List Json
nulls zero = []
nulls (suc n) = json.null ∷ nulls n

nulls_counted : (n : ℕ) → length (nulls n) ≡ n
nulls_counted zero = refl
nulls_counted (suc n) = ap suc (nulls_counted n)

all_nulls : (n k : ℕ) → get_or (nulls n) k json.null ≡ json.null
all_nulls zero k = refl
all_nulls (suc n) zero = refl
all_nulls (suc n) (suc k) = all_nulls n k

-- members are known by their tokens
members_one : (a b : Members) → members_tokens a ≡ members_tokens b → a ≡ b
members_one a b e =
    let one : json.object a ≡ json.object b =
    json_one (json.object a) (json.object b) (ap (λ (l : List Token). Token.begin_object ∷ l) e) in
    cc

module _ (tags : Bool) (style : Style) (T : Table) (unsaid : style.taken.now ≡ []) (table : IsTable T) where
  abbrev Saying : List Event → List Token → Type 0
  Saying es ts = SaysEvents style T place.Free es ts place.Free

  abbrev plain : List HeldEvent → List Event
  plain es = plain_events tags es

  -- ---- what fills nils

  -- wherever bytes of a skeleton stand that begin there, their nils, which are the parts of these numbers, say this
  pub record Fills (Leads : TypeId → List ℕ → ℕ → Type 0) (b : List ℕ) (fill : Filler) (parts : ℕ → List ℕ)
      (nils : List Json) : Type 0 where
    pub there : (t : TypeId) (whole p left : List ℕ) (n : ℕ) (more : List ℕ) (fs : Fillings) (others : List Json)
        → whole ≡ p ++ (b ++ left) → Leads t p n → NilsSay tags (within style) T t whole more fs others
        → NilsSay tags (within style) T t whole (parts n ++ more) (fill p fs) (nils ++ others)

  null_nils : {t : TypeId} {b more : List ℕ} {fs : Fillings} {others : List Json} (ns : List ℕ)
      → NilsSay tags (within style) T t b more fs others
      → NilsSay tags (within style) T t b (ns ++ more) fs (nulls (length ns) ++ others)
  null_nils [] h = h
  null_nils (n ∷ ns) h = says_null (null_nils ns h)

  none_fill : {Leads : TypeId → List ℕ → ℕ → Type 0} (b : List ℕ) (parts : ℕ → List ℕ) (c : ℕ)
      → ((n : ℕ) → length (parts n) ≡ c) → Fills Leads b (λ p fs. fs) parts (nulls c)
  none_fill b parts c counted = record {
    there = λ t whole p left n more fs others is leads h.
        subst (λ c. NilsSay tags (within style) T t whole (parts n ++ more) fs (nulls c ++ others)) (counted n)
        (null_nils (parts n) h);
  }

  both_fill : {A B C : TypeId → List ℕ → ℕ → Type 0} {b r : List ℕ} {f g : Filler} {M O : ℕ → List ℕ}
      {x y : List Json} (c : ℕ) → ((t : TypeId) (p : List ℕ) (n : ℕ) → C t p n → A t p n)
      → ((t : TypeId) (p : List ℕ) (n : ℕ) → C t p n → B t (p ++ b) (n + c)) → Fills A b f M x → Fills B r g O y
      → Fills C (b ++ r) (λ p fs. f p (g (p ++ b) fs)) (λ n. M n ++ O (n + c)) (x ++ y)
  both_fill {b = b} {r = r} {f = f} {g = g} {M = M} {O = O} {x = x} {y = y} c first next one other = record {
    there = λ t whole p left n more fs others is leads h.
        let split : whole ≡ p ++ (b ++ (r ++ left)) = is ∙ ap (λ x. p ++ x) (append_assoc b r left) in
        let behind = other.there t whole (p ++ b) left (n + c) more fs others
        (split ∙ sym (append_assoc p b (r ++ left))) (next t p n leads) h in
        let all = one.there t whole p (r ++ left) n (O (n + c) ++ more) (g (p ++ b) fs) (y ++ others) split
        (first t p n leads) behind in
        subst (λ l. NilsSay tags (within style) T t whole l (f p (g (p ++ b) fs)) ((x ++ y) ++ others))
        (sym (append_assoc (M n) (O (n + c)) more))
        (subst (λ l. NilsSay tags (within style) T t whole (M n ++ (O (n + c) ++ more)) (f p (g (p ++ b) fs)) l)
        (sym (append_assoc x y others)) all);
  }

  -- behind bytes of the value itself
  inner_fill : {B C : TypeId → List ℕ → ℕ → Type 0} {r : List ℕ} {g : Filler} {O : ℕ → List ℕ} {y : List Json} (d : ℕ)
      (c : List ℕ) (at : List ℕ → List ℕ) → ((p : List ℕ) → at p ≡ p ++ c)
      → ((t : TypeId) (p : List ℕ) (n : ℕ) → C t p n → B t (at p) (n + d)) → Fills B r g O y
      → Fills C (c ++ r) (λ p fs. g (at p) fs) (λ n. O (n + d)) y
  inner_fill {r = r} d c at where_at next inner = record {
    there = λ t whole p left n more fs others is leads h. inner.there t whole (at p) left (n + d) more fs others
        (is ∙ ap (λ l. p ++ l) (append_assoc c r left) ∙ sym (append_assoc p c (r ++ left))
        ∙ ap (λ l. l ++ (r ++ left)) (sym (where_at p)))
        (next t p n leads) h;
  }

  renumbered : {Leads : TypeId → List ℕ → ℕ → Type 0} {b : List ℕ} {fill : Filler} {M O : ℕ → List ℕ} {nils : List Json}
      → ((n : ℕ) → M n ≡ O n) → Fills Leads b fill M nils → Fills Leads b fill O nils
  renumbered {fill = fill} {nils = nils} same h = record {
    there = λ t whole p left n more fs others is leads say.
        subst (λ l. NilsSay tags (within style) T t whole (l ++ more) (fill p fs) (nils ++ others)) (same n)
        (h.there t whole p left n more fs others is leads say);
  }

  -- ---- what tokens say

  -- they are those of something that says a part whose nils say this, and behind it the others say what was told then
  pub record PartSays {S : Type 0} (tokens_of : S → List Token) (Says : (ℕ → Json → Type 0) → S → Type 0) (c : ℕ)
      (Leads : TypeId → List ℕ → ℕ → Type 0) (b : List ℕ) (fill : Filler) (parts : ℕ → List ℕ) (more : List Event)
      (ts : List Token) : Type 1 where
    pub said : S
    pub nils : List Json
    pub count : length nils ≡ c
    pub fills : Fills Leads b fill parts nils
    pub says : (N : ℕ → Json → Type 0) → AreSaid N nils → Says N said
    pub rest : List Token
    pub left : Saying more rest
    pub whole : ts ≡ tokens_of said ++ rest

  abbrev pub ValueSays : (u : TypeId) → Tree → (b : List ℕ) → Filler → List Event → List Token → Type 1
  ValueSays u v b fill more ts = PartSays json_tokens (λ N j. SaysInWith N style T u v j) (nils_in style T u v)
      (LeadsTo T u) b fill (λ n. nil_parts n v) more ts

  abbrev pub ElementsSay : (e : TypeId) → (count : ℕ) → Trees → (b : List ℕ) → Filler → List Event → List Token → Type 1
  ElementsSay e count vs b fill more ts = PartSays items_tokens (λ N js. EachIn N style T e vs js)
      (nils_of_each_in style T e vs) (LeadsToElements T e count) b fill (λ n. nil_parts_of_each n vs) more ts

  abbrev pub PairsSay : (k e : TypeId) → (count : ℕ) → Pairs → (b : List ℕ) → Filler → List Event → List Token → Type 1
  PairsSay k e count ps b fill more ts = PartSays items_tokens (λ N js. PairsIn N style T k e ps js)
      (nils_of_pairs_in style T k e ps) (LeadsToEntries T k e count) b fill (λ n. nil_parts_of_pairs n ps) more ts

  abbrev pub MembersSay : (k e : TypeId) → (count : ℕ) → Pairs → (b : List ℕ) → Filler → List Event → List Token
      → Type 1
  MembersSay k e count ps b fill more ts = PartSays members_tokens (λ N ms. MembersIn N style T k e ps ms)
      (nils_of_members_in style T k e ps) (LeadsToEntries T k e count) b fill (λ n. nil_parts_of_pairs n ps) more ts
      × (are_utf8 ps ≡ true)

  abbrev pub FieldsSay : List Field → (next : ℕ) → Fields → (b : List ℕ) → Filler → List Event → List Token → Type 1
  FieldsSay types next fs b fill more ts = PartSays members_tokens (λ N ms. FieldsIn N style T types next fs ms)
      (nils_of_fields_in style T types next fs) (LeadsToFields T types next) b fill (λ n. nil_parts_of_fields n fs) more
      ts

  -- ---- what is read, part by part

  pub record ValueSaid (u : TypeId) (limit : ℕ) (es : List HeldEvent) (piece rest : List ℕ) : Type 1 where
    pub begins : BeginsFilled T u limit piece rest
    pub each : (more : List Event) (ts : List Token) → Saying (plain es ++ more) ts
        → ValueSays u begins.value begins.skeleton begins.fill more ts

  pub record EachSaid (e : TypeId) (limit count : ℕ) (later : Bool) (es : List HeldEvent) (piece rest : List ℕ)
      : Type 1 where
    pub begins : BeginsFilledEach T e limit count piece rest
    pub each : (more : List Event) (ts : List Token) → Saying (plain es ++ more) ts
        → ElementsSay e count begins.values begins.skeleton begins.fill more ts

  pub record PairsSaid (k e : TypeId) (limit count : ℕ) (es : List HeldEvent) (piece rest : List ℕ) : Type 1 where
    pub begins : BeginsFilledPairs T k e limit count piece rest
    pub each : (more : List Event) (ts : List Token) → Saying (plain es ++ more) ts
        → PairsSay k e count begins.pairs begins.skeleton begins.fill more ts

  pub record MembersSaid (k e : TypeId) (limit count : ℕ) (es : List HeldEvent) (piece rest : List ℕ) : Type 1 where
    pub begins : BeginsFilledPairs T k e limit count piece rest
    pub each : (more : List Event) (ts : List Token) → Saying (plain es ++ more) ts
        → MembersSay k e count begins.pairs begins.skeleton begins.fill more ts

  pub record FieldsSaid (types : List Field) (next limit : ℕ) (es : List HeldEvent) (piece rest : List ℕ) : Type 1 where
    pub begins : BeginsFilledFields T types next limit piece rest
    pub each : (more : List Event) (ts : List Token) → Saying (plain es ++ more) ts
        → FieldsSay types next begins.fields begins.skeleton begins.fill more ts

  pub record TopSays (t : TypeId) (w : Filled) (more : List Event) (ts : List Token) : Type 0 where
    pub said : Json
    pub says : SaysFilled tags (within style) T t w said
    pub rest : List Token
    pub left : Saying more rest
    pub whole : ts ≡ json_tokens said ++ rest

  pub record TopSaid (t : TypeId) (limit : ℕ) (es : List HeldEvent) (piece rest : List ℕ) : Type 1 where
    pub begins : BeginsFilledTop T t limit piece rest
    pub each : (more : List Event) (ts : List Token) → Saying (plain es ++ more) ts → TopSays t begins.value more ts

  -- what was told of a part, and behind it
  behind_told : (es fs : List HeldEvent) (more : List Event)
      → plain (es ++ fs) ++ more ≡ plain es ++ (plain fs ++ more)
  behind_told es fs more =
      ap (λ l. l ++ more) (plain_events_both tags es fs) ∙ append_assoc (plain es) (plain fs) more

  behind_closed : (e : Event) (es fs : List HeldEvent) (more : List Event)
      → plain ((es ++ told e ∷ []) ++ fs) ++ more ≡ plain es ++ (e ∷ (plain fs ++ more))
  behind_closed e es fs more = behind_told (es ++ told e ∷ []) fs more ∙ behind_told es (told e ∷ []) (plain fs ++ more)

  entry_told_so : (k : TypeId) (ks es fs : List HeldEvent) (more : List Event)
      → plain ((ks ++ told (event.between k) ∷ (es ++ told (event.entry_ends k) ∷ [])) ++ fs) ++ more
      ≡ plain ks ++ (event.between k ∷ (plain es ++ (event.entry_ends k ∷ (plain fs ++ more))))
  entry_told_so k ks es fs more =
      let inner = told (event.between k) ∷ (es ++ told (event.entry_ends k) ∷ []) in
      behind_told (ks ++ inner) fs more ∙ behind_told ks inner (plain fs ++ more)
      ∙ ap (λ l. plain ks ++ event.between k ∷ l) (behind_told es (told (event.entry_ends k) ∷ []) (plain fs ++ more))

  -- ---- what holds nothing

  unfilled_said : {u : TypeId} {limit : ℕ} {v : Tree} {piece rest : List ℕ} → HoldsValue T u limit v piece rest
      → ValueSaid u limit (all_told (value_told T u v)) piece rest
  unfilled_said {u = u} {v = v} h =
      let c = nils_in style T u v in
      record {
        begins = unfilled_begins h.spelled h.within h.whole;
        each = λ more ts p.
            let one = events.value_says style T unsaid u v more ts
            (subst (λ l. Saying (l ++ more) ts) (plain_events_all tags (value_told T u v)) p) in
            record {
              said = one.said;
              nils = nulls c;
              count = nulls_counted c;
              fills = none_fill h.bytes (λ n. nil_parts n v) c
                  (λ n. nils_counted table n h.spelled ∙ sym (nils_shown style T u v));
              says = λ N f. says_as_much all_null N (content_in style) T u (shown style T u v) one.said
                  (λ k l j e. subst (λ j. N k j) (all_nulls c k ∙ sym e) (f k (omega (arith, l, nulls_counted c))))
                  one.says;
              rest = one.rest;
              left = one.left;
              whole = one.whole;
            };
      }

  unfilled_each : {e : TypeId} {limit count : ℕ} {later : Bool} {vs : Trees} {piece rest : List ℕ}
      → BeginsElements T e limit vs piece rest → tree_count vs ≡ count
      → EachSaid e limit count later (all_told (elements_told later T e vs)) piece rest
  unfilled_each {e = e} {later = later} {vs = vs} h counted =
      let c = nils_of_each_in style T e vs in
      record {
        begins = elements_begin h.spelled h.within counted h.whole;
        each = λ more ts p.
            let one = events.elements_say style T unsaid e later vs more ts
            (subst (λ l. Saying (l ++ more) ts) (plain_events_all tags (elements_told later T e vs)) p) in
            record {
              said = one.said;
              nils = nulls c;
              count = nulls_counted c;
              fills = none_fill h.bytes (λ n. nil_parts_of_each n vs) c
                  (λ n. each_counted table n h.spelled ∙ sym (each_nils_shown style T e vs));
              says = λ N f. each_as_much all_null N (content_in style) T e (shown_all style T e vs) one.said
                  (λ k l j e. subst (λ j. N k j) (all_nulls c k ∙ sym e) (f k (omega (arith, l, nulls_counted c))))
                  one.says;
              rest = one.rest;
              left = one.left;
              whole = one.whole;
            };
      }

  no_element_said : (e : TypeId) (limit : ℕ) (later : Bool) (piece : List ℕ)
      → EachSaid e limit 0 later (told event.list_ends ∷ []) piece piece
  no_element_said e limit later piece = unfilled_each {later = later} {vs = no_tree}
      (record { bytes = []; spelled = no_element; within = omega arith; whole = refl }) refl

  -- ---- elements

  element_said : {e : TypeId} {limit count : ℕ} {later : Bool} {es fs : List HeldEvent} {piece mid rest : List ℕ}
      → ValueSaid e limit es piece mid → EachSaid e limit count true fs mid rest
      → EachSaid e limit (count + 1) later (told (event.element later) ∷ (es ++ fs)) piece rest
  unfolding element_begins
  element_said {e = e} {limit = limit} {count = count} {es = es} {fs = fs} {piece = piece} {mid = mid} {rest = rest}
      h k = record {
        begins = element_begins e limit (count + 1) count refl piece mid rest h.begins k.begins;
        each = λ more ts p.
            let one = h.each (plain fs ++ more) ts
            (subst (λ l. Saying l ts) (behind_told es fs more) (events.element_says style T unsaid p)) in
            let others = k.each more one.rest one.left in
            let c = nils_in style T e h.begins.value in
            record {
              said = json.item one.said others.said;
              nils = one.nils ++ others.nils;
              count = both_counted _ _ one.count others.count ∙ sym (element_nils style T e h.begins.value
                  k.begins.values);
              fills = both_fill (part_count h.begins.value) (first_element count) (other_elements h.begins.spelled)
                  one.fills others.fills;
              says = λ N f. element_in N style T e h.begins.value k.begins.values one.said others.said
                  (one.says N (first_said N one.nils others.nils f))
                  (others.says (behind c N) (rest_said N c one.nils others.nils one.count f));
              rest = others.rest;
              left = others.left;
              whole = events.joined style T unsaid _ _ _ one.whole others.whole;
            };
      }

  -- ---- entries

  -- [key,element]
  pair_said : {k e : TypeId} {limit count : ℕ} {later : Bool} {ks es fs : List HeldEvent}
      {piece behind mid rest : List ℕ} → gives_names k ≡ false → ValueSaid k limit ks piece behind
      → ValueSaid e limit es behind mid → PairsSaid k e limit count fs mid rest → PairsSaid k e limit (count + 1)
      (told (event.entry k later) ∷ ((ks ++ told (event.between k) ∷ (es ++ told (event.entry_ends k) ∷ [])) ++ fs))
      piece rest
  unfolding pair_begins
  pair_said {k = k} {e = e} {limit = limit} {count = count} {ks = ks} {es = es} {fs = fs} {piece = piece}
      {behind = mids} {mid = mid} {rest = rest} isnt g h o = record {
        begins = pair_begins k e limit (count + 1) count refl piece mids mid rest g.begins h.begins o.begins;
        each = λ more ts p.
            let x = g.begins.value in
            let v = h.begins.value in
            let ps = o.begins.pairs in
            let start = events.entry_says style T unsaid isnt p in
            let key = g.each (event.between k ∷ (plain es ++ (event.entry_ends k ∷ (plain fs ++ more)))) start.rest
            (subst (λ l. Saying l start.rest) (entry_told_so k ks es fs more) start.left) in
            let one = h.each (event.entry_ends k ∷ (plain fs ++ more)) key.rest
            (events.between_says style T unsaid key.left) in
            let end = events.entry_end_says style T unsaid one.left in
            let others = o.each more end.rest end.left in
            let both = json.array (json.item key.said (json.item one.said json.no_items)) in
            let a = nils_in style T k x in
            let b = nils_in style T e v in
            record {
              said = json.item both others.said;
              nils = key.nils ++ (one.nils ++ others.nils);
              count = both_counted _ _ key.count (both_counted _ _ one.count others.count)
                  ∙ sym (entry_nils style T k e x v ps);
              fills = both_fill {B = LeadsBehindKey T k e count h.begins.skeleton (part_count v)} (part_count x)
                  (first_key count) (behind_key g.begins.spelled h.begins.spelled) key.fills
                  (both_fill {C = LeadsBehindKey T k e count h.begins.skeleton (part_count v)} (part_count v) (λ t p n
                  l. l.0) (λ t p n l. l.1) one.fills others.fills);
              says = λ N f.
                  let behinds = rest_said N a key.nils (one.nils ++ others.nils) key.count f in
                  entry_in N style T k e x v ps both others.said (
                    key.said,
                    one.said,
                    refl,
                    key.says N (first_said N key.nils (one.nils ++ others.nils) f),
                    one.says (behind a N) (first_said (behind a N) one.nils others.nils behinds),
                  )
                  (others.says (behind b (behind a N))
                  (rest_said (behind a N) b one.nils others.nils one.count behinds));
              rest = others.rest;
              left = others.left;
              whole = start.whole ∙ ap (λ (l : List Token). Token.begin_array ∷ l)
                  (key.whole ∙ ap (λ (l : List Token). json_tokens key.said ++ l)
                  (one.whole ∙ ap (λ (l : List Token). json_tokens one.said ++ l)
                  (end.whole ∙ ap (λ b. entry_closes b ++ end.rest) isnt
                  ∙ ap (λ (l : List Token). Token.end_array ∷ l) others.whole))
                  ∙ events.regroup style T unsaid (json_tokens key.said) (json_tokens one.said)
                  (items_tokens others.said) others.rest);
            };
      }

  no_pair_said : (k e : TypeId) (limit : ℕ) (piece : List ℕ) → gives_names k ≡ false
      → PairsSaid k e limit 0 (told (event.map_ends k) ∷ []) piece piece
  no_pair_said k e limit piece isnt = record {
    begins = no_entries_begin T k e limit piece;
    each = λ more ts p.
        let l = events.map_end_says style T unsaid p in
        record {
          said = json.no_items;
          nils = [];
          count = sym (no_entry_nils style T k e);
          fills = none_fill [] (λ n. []) 0 (λ n. refl);
          says = λ N f. no_entry_in N style T k e;
          rest = l.rest;
          left = l.left;
          whole = l.whole ∙ ap (λ b. map_closes b ∷ l.rest) isnt;
        };
  }

  -- a member, by the name that a key gives
  member_said : {k e : TypeId} {limit count : ℕ} {later : Bool} {x : Tree} {es fs : List HeldEvent}
      {piece behind mid rest : List ℕ} → gives_names k ≡ true → HoldsValue T k limit x piece behind
      → ValueSaid e limit es behind mid → MembersSaid k e limit count fs mid rest → MembersSaid k e limit (count + 1)
      (told (event.entry k later) ∷ ((all_told (value_told T k x)
      ++ told (event.between k) ∷ (es ++ told (event.entry_ends k) ∷ [])) ++ fs)) piece rest
  unfolding pair_begins
  member_said {k = k} {e = e} {limit = limit} {count = count} {later = later} {x = x} {es = es} {fs = fs}
      {piece = piece} {behind = mids} {mid = mid} {rest = rest} is g h o = record {
        begins = pair_begins k e limit (count + 1) count refl piece mids mid rest
            (unfilled_begins g.spelled g.within g.whole) h.begins o.begins;
        each = λ more ts p.
            let v = h.begins.value in
            let ps = o.begins.pairs in
            let tail = event.between k ∷ (plain es ++ (event.entry_ends k ∷ (plain fs ++ more))) in
            let due = subst (λ l. Saying (event.entry k later ∷ l) ts)
            (entry_told_so k (all_told (value_told T k x)) es fs more
            ∙ ap (λ l. l ++ tail) (plain_events_all tags (value_told T k x))) p in
            let name = events.name_says style T unsaid k x k (plain es ++ (event.entry_ends k ∷ (plain fs ++ more))) ts
            (events.due_says style T unsaid is due) in
            let one = h.each (event.entry_ends k ∷ (plain fs ++ more)) name.rest name.left in
            let end = events.entry_end_says style T unsaid one.left in
            let rests = o.each more end.rest end.left in
            let others = rests.0 in
            let b = nils_in style T e v in (
              record {
                said = json.member (key_text x) one.said others.said;
                nils = one.nils ++ others.nils;
                count = both_counted _ _ one.count others.count ∙ sym (member_nils style T k e x v ps);
                fills = both_fill {B = LeadsBehindKey T k e count h.begins.skeleton (part_count v)} {x = []}
                    (part_count x) (first_key count)
                    (behind_key g.spelled h.begins.spelled)
                    (none_fill g.bytes (λ n. nil_parts n x) 0 (λ n. ap length (name_bare table k n is g.spelled)))
                    (both_fill {C = LeadsBehindKey T k e count h.begins.skeleton (part_count v)} (part_count v) (λ t p
                    n l. l.0) (λ t p n l. l.1) one.fills others.fills);
                says = λ N f. member_in N style T k e x v ps one.said others.said
                    (one.says N (first_said N one.nils others.nils f))
                    (others.says (behind b N) (rest_said N b one.nils others.nils one.count f));
                rest = others.rest;
                left = others.left;
                whole = name.whole ∙ ap (λ (l : List Token). Token.key (key_text x) ∷ l)
                    (events.joined style T unsaid _ _ _ one.whole
                    (end.whole ∙ ap (λ b. entry_closes b ++ end.rest) is ∙ others.whole));
              },
              ap (λ b. b && are_utf8 ps) name.utf8 ∙ rests.1,
            );
      }

  no_member_said : (k e : TypeId) (limit : ℕ) (piece : List ℕ) → gives_names k ≡ true
      → MembersSaid k e limit 0 (told (event.map_ends k) ∷ []) piece piece
  no_member_said k e limit piece is = record {
    begins = no_entries_begin T k e limit piece;
    each = λ more ts p.
        let l = events.map_end_says style T unsaid p in (
          record {
            said = json.no_members;
            nils = [];
            count = sym (no_member_nils style T k e);
            fills = none_fill [] (λ n. []) 0 (λ n. refl);
            says = λ N f. no_member_in N style T k e;
            rest = l.rest;
            left = l.left;
            whole = l.whole ∙ ap (λ b. map_closes b ∷ l.rest) is;
          },
          refl,
        );
  }

  -- ---- fields

  -- members by tokens that say fields, whatever their nils say
  known_members : (types : List Field) (next : ℕ) (fs : Fields) (nils : List Json) (ts : List Token)
      → ((N : ℕ → Json → Type 0) → AreSaid N nils
      → (ms : Members) × FieldsIn N style T types next fs ms × (ts ≡ members_tokens ms))
      → (ms : Members) × ((N : ℕ → Json → Type 0) → AreSaid N nils → FieldsIn N style T types next fs ms)
      × (ts ≡ members_tokens ms)
  known_members types next fs nils ts each =
      let any = each (λ k j. ⊤) (λ k l. tt) in (
        any.0,
        λ N f. subst (λ ms. FieldsIn N style T types next fs ms)
            (members_one (each N f).0 any.0 (sym (each N f).2 ∙ any.2)) (each N f).1,
        any.2,
      )

  no_field_said : (types : List Field) (next limit : ℕ) {piece rest : List ℕ} → BeginsThisNumber 0 piece rest
      → FieldsSaid types next limit (told (event.struct_ends types next) ∷ []) piece rest
  unfolding fields_end_here
  no_field_said types next limit {piece = piece} {rest = rest} h = record {
    begins = fields_end_here types next limit 0 refl piece rest h;
    each = λ more ts p.
        let l = events.struct_end_says style T unsaid p in
        let all = known_members types next no_field [] (l.zeros ++ Token.end_object ∷ [])
        (λ N f. absent_last N style T types next l.zeros l.absent) in
        record {
          said = all.0;
          nils = [];
          count = sym (no_field_nils style T types next);
          fills = none_fill h.bytes (λ n. []) 0 (λ n. refl);
          says = all.1;
          rest = l.rest;
          left = l.left;
          whole = l.whole ∙ sym (append_assoc l.zeros (Token.end_object ∷ []) l.rest)
              ∙ ap (λ (z : List Token). z ++ l.rest) all.2;
        };
  }

  field_said : {types : List Field} {next f limit delta : ℕ} {e : Field} {es fs : List HeldEvent}
      {piece behind mid rest : List ℕ} → 0 < delta → f + 1 ≡ next + delta → slice_get types f ≡ Some e
      → BeginsThisNumber delta piece behind → ValueSaid e.id limit es behind mid
      → FieldsSaid types (f + 1) limit fs mid rest → FieldsSaid types next limit
      ((told (event.present types next f) ∷ (es ++ told event.field_ends ∷ [])) ++ fs) piece rest
  unfolding field_begins
  field_said {types = types} {next = next} {f = f} {limit = limit} {delta = delta} {e = e} {es = es} {fs = fs}
      {piece = piece} {behind = mids} {mid = mid} {rest = rest} some is here g h k =
      let v = h.begins.value in
      let ws = k.begins.fields in
      let t = field_type (slice_get types f) in
      let type : e.id ≡ t = sym (ap field_type here) in
      let c = nils_in style T t v in
      let up : delta ≡ f + 1 - next = omega (arith, is) in
      let order : next ≤ f = omega (arith, is, some) in
      let n = Token.key (name_text (field_name (slice_get types f))) in
      record {
        begins = field_begins types next limit delta f e some is here piece mids mid rest g h.begins k.begins;
        each = λ more ts p.
            let name = events.field_says style T unsaid p in
            let one = h.each (event.field_ends ∷ (plain fs ++ more)) name.rest
            (subst (λ l. Saying l name.rest) (behind_closed event.field_ends es fs more) name.left) in
            let others = k.each more one.rest (events.field_end_says style T unsaid one.left) in
            let counted : length one.nils ≡ c = one.count ∙ ap (λ t. nils_in style T t v) type in
            let all = known_members types next (field f v ws) (one.nils ++ others.nils)
            (name.zeros ++ members_tokens (json.member (name_text (field_name (slice_get types f))) one.said
            others.said))
            (λ N f'. absent_then N style T types next f v ws one.said others.said name.zeros name.absent
            (subst (λ t. SaysInWith N style T t v one.said) type (one.says N (first_said N one.nils others.nils f')))
            (others.says (behind c N) (rest_said N c one.nils others.nils counted f'))) in
            record {
              said = all.0;
              nils = one.nils ++ others.nils;
              count = both_counted _ _ counted others.count ∙ sym (field_nils style T types next f v ws);
              fills = renumbered
                  (λ n. ap (λ m. nil_parts m v ++ nil_parts_of_fields (m + part_count v) ws) (add-zero n))
                  (inner_fill {B = LeadsBehindDelta T types e.id f h.begins.skeleton (part_count v)} 0 g.bytes
                  (λ p. p ++ g.bytes) (λ p. refl)
                  (behind_delta order here (subst (λ i. IsUnsigned i g.bytes) up g.spelled) h.begins.spelled)
                  (both_fill {C = LeadsBehindDelta T types e.id f h.begins.skeleton (part_count v)} (part_count v) (λ t
                  p n l. l.0) (λ t p n l. l.1) one.fills others.fills));
              says = all.1;
              rest = others.rest;
              left = others.left;
              whole = name.whole
                  ∙ ap (λ (l : List Token). name.zeros ++ n ∷ l)
                  (one.whole ∙ ap (λ (l : List Token). json_tokens one.said ++ l) others.whole)
                  ∙ events.member_behind style T unsaid name.zeros n (json_tokens one.said)
                  (members_tokens others.said) others.rest ∙ ap (λ (z : List Token). z ++ others.rest) all.2;
            };
      }

  -- ---- values with parts

  list_says : {count : ℕ} {b r : List ℕ} {f g : Filler} {es more : List Event} {ts : List Token} (u e : TypeId)
      (vs : Trees) → element_type (shape_of T u) ≡ e
      → ((y : List Json) → Fills (LeadsToElements T e count) r g (λ n. nil_parts_of_each n vs) y
      → Fills (LeadsTo T u) b f (λ n. nil_parts n (Value.many vs)) y)
      → ((us : List Token) → Saying es us → ElementsSay e count vs r g more us)
      → Saying (event.list_begins ∷ es) ts → ValueSays u (Value.many vs) b f more ts
  list_says {more = more} {ts = ts} u e vs is fill each p =
      let l = events.list_says style T unsaid p in
      let i = each l.rest l.left in
      record {
        said = json.array i.said;
        nils = i.nils;
        count = i.count ∙ ap (λ e. nils_of_each_in style T e vs) (sym is) ∙ sym (many_nils style T u vs);
        fills = fill i.nils i.fills;
        says = λ N f. many_in N style T u vs (json.array i.said)
            (i.said, refl, subst (λ e. EachIn N style T e vs i.said) (sym is) (i.says N f));
        rest = i.rest;
        left = i.left;
        whole = l.whole ∙ ap (λ (l : List Token). Token.begin_array ∷ l) i.whole;
      }

  slice_said : {u e : TypeId} {limit count : ℕ} {es : List HeldEvent} {piece behind rest : List ℕ}
      → IsOfKind T u (kind.Slice e) → 0 < limit → BeginsThisNumber count piece behind
      → EachSaid e (limit - 1) count false es behind rest
      → ValueSaid u limit (told event.list_begins ∷ es) piece rest
  unfolding slice_begins
  slice_said {u = u} {e = e} {limit = limit} {count = count} {piece = piece} {behind = mids} {rest = rest} is some g
      h = record {
        begins = slice_begins u e limit count is some piece mids rest g h.begins;
        each = λ more ts p. list_says u e h.begins.values (elements_of T u e (kind.Slice e) is refl)
            (λ y. inner_fill 1 g.bytes (λ p. (p ++ g.bytes) ++ []) (λ p. append-nil (p ++ g.bytes))
            (slice_elements is g.spelled)) (λ us q. h.each more us q) p;
      }

  array_said : {u e : TypeId} {limit count : ℕ} {es : List HeldEvent} {piece behind rest : List ℕ}
      → IsOfKind T u (kind.Array e count) → 0 < limit → BeginsThisNumber count piece behind
      → EachSaid e (limit - 1) count false es behind rest
      → ValueSaid u limit (told event.list_begins ∷ es) piece rest
  unfolding array_begins
  array_said {u = u} {e = e} {limit = limit} {count = count} {piece = piece} {behind = mids} {rest = rest} is some g
      h = record {
        begins = array_begins u e limit count count is some refl piece mids rest g h.begins;
        each = λ more ts p. list_says u e h.begins.values (elements_of T u e (kind.Array e count) is refl)
            (λ y. inner_fill 1 g.bytes (λ p. (p ++ g.bytes) ++ []) (λ p. append-nil (p ++ g.bytes))
            (array_elements is g.spelled)) (λ us q. h.each more us q) p;
      }

  -- what is said of the entries of a map is said of it
  map_says : {k e : TypeId} (u : TypeId) (ps : Pairs) (N : ℕ → Json → Type 0) (j : Json) → IsOfKind T u (kind.Map k e)
      → SaysMapIn N style T k e ps j → SaysInWith N style T u (Value.pairs ps) j
  map_says {k = k} {e = e} u ps N j is says = map_in N style T u ps j
      (subst (λ t. SaysMapIn N style T t (element_type (shape_of T u)) ps j) (sym (keys_of T u k e is))
      (subst (λ t. SaysMapIn N style T k t ps j) (sym (elements_of T u e (kind.Map k e) is refl)) says))

  map_counted : {k e : TypeId} (u : TypeId) (ps : Pairs) → IsOfKind T u (kind.Map k e)
      → nils_of_map_in style T k e ps ≡ nils_in style T u (Value.pairs ps)
  map_counted {k = k} {e = e} u ps is =
      ap (λ t. nils_of_map_in style T k t ps) (sym (elements_of T u e (kind.Map k e) is refl))
      ∙ ap (λ t. nils_of_map_in style T t (element_type (shape_of T u)) ps) (sym (keys_of T u k e is))
      ∙ sym (map_nils style T u ps)

  object_said : {u k e : TypeId} {limit count : ℕ} {es : List HeldEvent} {piece behind rest : List ℕ}
      → gives_names k ≡ true → IsOfKind T u (kind.Map k e) → 0 < limit → BeginsThisNumber count piece behind
      → MembersSaid k e (limit - 1) count es behind rest
      → ValueSaid u limit (told (event.map_begins k) ∷ es) piece rest
  unfolding map_begins
  object_said {u = u} {k = k} {e = e} {limit = limit} {count = count} {piece = piece} {behind = mids} {rest = rest}
      named is some g h = record {
        begins = map_begins u k e limit count is some piece mids rest g h.begins;
        each = λ more ts p.
            let ps = h.begins.pairs in
            let l = events.map_says style T unsaid p in
            let r = h.each more l.rest l.left in
            let i = r.0 in
            let are = all_named k ps named r.1 in
            record {
              said = json.object i.said;
              nils = i.nils;
              count = i.count ∙ named_nils style T k e ps are ∙ map_counted u ps is;
              fills = inner_fill 1 g.bytes (λ p. (p ++ g.bytes) ++ []) (λ p. append-nil (p ++ g.bytes))
                  (map_entries is g.spelled) i.fills;
              says = λ N f. map_says u ps N (json.object i.said) is
                  (map_named N style T k e ps (json.object i.said) are (i.said, refl, i.says N f));
              rest = i.rest;
              left = i.left;
              whole = l.whole ∙ ap (λ b. map_opens b ∷ l.rest) named
                  ∙ ap (λ (l : List Token). Token.begin_object ∷ l) i.whole;
            };
      }

  listed_said : {u k e : TypeId} {limit count : ℕ} {es : List HeldEvent} {piece behind rest : List ℕ}
      → gives_names k ≡ false → IsOfKind T u (kind.Map k e) → 0 < limit → BeginsThisNumber count piece behind
      → PairsSaid k e (limit - 1) count es behind rest
      → ValueSaid u limit (told (event.map_begins k) ∷ es) piece rest
  unfolding map_begins
  listed_said {u = u} {k = k} {e = e} {limit = limit} {count = count} {piece = piece} {behind = mids} {rest = rest}
      isnt is some g h = record {
        begins = map_begins u k e limit count is some piece mids rest g h.begins;
        each = λ more ts p.
            let ps = h.begins.pairs in
            let l = events.map_says style T unsaid p in
            let i = h.each more l.rest l.left in
            let apart = events.map_apart style T unsaid p in
            record {
              said = json.array i.said;
              nils = i.nils;
              count = i.count
                  ∙ other_nils style T k e ps (ap (λ b. b && (are_utf8 ps || all_differ (key_names ps))) isnt)
                  ∙ map_counted u ps is;
              fills = inner_fill 1 g.bytes (λ p. (p ++ g.bytes) ++ []) (λ p. append-nil (p ++ g.bytes))
                  (map_entries is g.spelled) i.fills;
              says = λ N f. map_says u ps N (json.array i.said) is
                  (map_pairs N style T k e ps (json.array i.said) (form_other N style T k e ps isnt apart)
                  (i.said, refl, i.says N f));
              rest = i.rest;
              left = i.left;
              whole = l.whole ∙ ap (λ b. map_opens b ∷ l.rest) isnt
                  ∙ ap (λ (l : List Token). Token.begin_array ∷ l) i.whole;
            };
      }

  struct_said : {u : TypeId} {types : List Field} {limit : ℕ} {es : List HeldEvent} {piece rest : List ℕ}
      → IsOfKind T u (kind.Struct types) → 0 < limit → FieldsSaid types 0 (limit - 1) es piece rest
      → ValueSaid u limit (told event.struct_begins ∷ es) piece rest
  unfolding struct_begins
  struct_said {u = u} {types = types} {limit = limit} {piece = piece} {rest = rest} is some h = record {
    begins = struct_begins u types limit is some piece rest h.begins;
    each = λ more ts p.
        let ws = h.begins.fields in
        let l = events.struct_says style T unsaid p in
        let i = h.each more l.rest l.left in
        let fields = fields_of T u types is in
        record {
          said = json.object i.said;
          nils = i.nils;
          count = i.count ∙ ap (λ types. nils_of_fields_in style T types 0 ws) (sym fields)
              ∙ sym (struct_nils style T u ws);
          fills = inner_fill 1 [] (λ p. p ++ []) (λ p. refl) (struct_parts is) i.fills;
          says = λ N f. struct_in N style T u ws (json.object i.said)
              (i.said, refl, subst (λ types. FieldsIn N style T types 0 ws i.said) (sym fields) (i.says N f));
          rest = i.rest;
          left = i.left;
          whole = l.whole ∙ ap (λ (l : List Token). Token.begin_object ∷ l) i.whole;
        };
  }

  -- ---- what an interface holds

  -- behind what opens a held value its own events are said, and behind JSON of it what closes it
  record HeldSays (b : Bool) (name : List ℕ) (es more : List Event) (ts : List Token) : Type 0 where
    pub rest : List Token
    pub left : Saying (es ++ (held_closes b ++ more)) rest
    pub closes : (j : Json) (us : List Token) → rest ≡ json_tokens j ++ us → Saying (held_closes b ++ more) us
        → (vs : List Token) × Saying more vs × (ts ≡ json_tokens (tagged_json b name j) ++ vs)

  held_says : (b : Bool) (name : List ℕ) (t : TypeId) (es more : List Event) (ts : List Token)
      → Saying (held_opens b name t ++ (es ++ (held_closes b ++ more))) ts → HeldSays b name es more ts
  held_says false name t es more ts p = record {
    rest = ts;
    left = events.element_says style T unsaid p;
    closes = λ j us e q. (us, q, e);
  }
  held_says true name t es more ts p =
      let o = events.struct_says style T unsaid p in
      let f = events.field_says style T unsaid o.left in
      let none = nothing_absent style T (tag_field name t) 0 f.zeros refl f.absent in
      record {
        rest = f.rest;
        left = f.left;
        closes = λ j us e q.
            let c = events.struct_end_says style T unsaid (events.field_end_says style T unsaid q) in
            let last = nothing_absent style T [] 0 c.zeros refl c.absent in
            let n = Token.key (name_text name) in (
              c.rest,
              c.left,
              o.whole ∙ ap (λ (l : List Token). Token.begin_object ∷ l)
                  (f.whole ∙ ap (λ (z : List Token). z ++ n ∷ f.rest) none
                  ∙ ap (λ (l : List Token). n ∷ l)
                  (e ∙ ap (λ (l : List Token). json_tokens j ++ l)
                  (c.whole ∙ ap (λ (z : List Token). z ++ Token.end_object ∷ c.rest) last)
                  ∙ sym (append_assoc (json_tokens j) (Token.end_object ∷ []) c.rest))),
            );
      }

  held_said : {u held : TypeId} {limit size : ℕ} {es : List HeldEvent} {name piece inner rest : List ℕ}
      → IsOfKind T u (kind.Basic basic.Interface) → BeginsHeld T name held size piece inner
      → TopSaid held limit es inner rest → length inner ≡ size + length rest
      → ValueSaid u (limit + 1) (held_begins name held ∷ (es ++ held_ends ∷ [])) piece rest
  unfolding interface_holds
  held_said {u = u} {held = held} {limit = limit} {size = size} {es = es} {name = name} {piece = piece}
      {inner = inner} {rest = rest} is g h full =
      let w = h.begins.bytes in
      let last : length w ≡ size = omega (arith, full, ap length h.begins.whole, length-append w rest) in
      let whole : piece ≡ (g.name_count ++ (name ++ (g.number ++ (g.count ++ w)))) ++ rest =
      g.whole ∙ ap (λ l. (g.name_count ++ (name ++ (g.number ++ g.count))) ++ l) h.begins.whole
      ∙ regrouped g.name_count name g.number g.count w rest in
      record {
        begins = interface_holds u held limit g.name_count name g.number g.count w is g.some g.named g.may g.typed
            (subst (λ n. IsUnsigned n g.count) (sym last) g.counted) h.begins.value h.begins.spelled piece rest whole;
        each = λ more ts p.
            let o = held_says tags name held (plain es) more ts
            (subst (λ l. Saying l ts) (append_assoc (held_opens tags name held) (plain (es ++ held_ends ∷ [])) more
            ∙ ap (λ l. held_opens tags name held ++ l) (behind_told es (held_ends ∷ []) more
            ∙ ap (λ l. plain es ++ (l ++ more)) (append-nil (held_closes tags)))) p) in
            let one = h.each (held_closes tags ++ more) o.rest o.left in
            let c = o.closes one.said one.rest one.whole one.left in
            let said = tagged_json tags name one.said in
            record {
              said = said;
              nils = said ∷ [];
              count = sym (nil_nils style T u Value.nil refl);
              fills = record {
                there = λ t bytes p left n others fs rests split leads say.
                    says_held (begun bytes p (0 ∷ left) split is leads).1 one.says say;
              };
              says = λ N f. nil_says N style T u Value.nil said refl (f 0 (omega arith));
              rest = c.0;
              left = c.1;
              whole = c.2;
            };
      }
    where
      regrouped : (a b c d w z : List ℕ) → (a ++ (b ++ (c ++ d))) ++ (w ++ z) ≡ (a ++ (b ++ (c ++ (d ++ w)))) ++ z
      regrouped a b c d w z = simp append_assoc

  -- ---- behind a tag or without one

  all_say : {t u : TypeId} {b : List ℕ} {f : Filler} {more : List Event} {ts : List Token} {q : List ℕ} (v : Tree)
      → (one : ValueSays u v b f more ts) → LeadsTo T u t q 0
      → NilsSay tags (within style) T t (q ++ b) (nil_parts 0 v) (f q no_filling) one.nils
  all_say {t = t} {b = b} {f = f} {q = q} v one leads =
      subst (λ l. NilsSay tags (within style) T t (q ++ b) (nil_parts 0 v) (f q no_filling) l) (append-nil one.nils)
      (subst (λ l. NilsSay tags (within style) T t (q ++ b) l (f q no_filling) (one.nils ++ [])) (append-nil
      (nil_parts 0 v)) (one.fills.there t (q ++ b) q [] 0 [] no_filling [] (ap (λ l. q ++ l) (sym (append-nil b)))
      leads no_nil))

  struct_top_said : {t : TypeId} {s : Shape} {limit : ℕ} {es : List HeldEvent} {piece rest : List ℕ}
      → shape_of T t ≡ Some s → IsStruct s.kind → ValueSaid t limit es piece rest → TopSaid t limit es piece rest
  unfolding struct_top
  struct_top_said {piece = piece} {rest = rest} found is h = record {
    begins = struct_top found is piece rest h.begins;
    each = λ more ts p.
        let one = h.each more ts p in
        record {
          said = one.said;
          says = says_filled (at_once found is h.begins.spelled) (all_say h.begins.value one (at_struct found is))
              (one.says (λ k i. i ≡ get_or one.nils k json.null) (λ k l. refl));
          rest = one.rest;
          left = one.left;
          whole = one.whole;
        };
  }

  tagged_top_said : {t : TypeId} {s : Shape} {limit : ℕ} {es : List HeldEvent} {piece rest : List ℕ}
      → shape_of T t ≡ Some s → ¬ IsStruct s.kind → ValueSaid t limit es piece rest
      → TopSaid t limit es (0 ∷ piece) rest
  unfolding tagged_top
  tagged_top_said {piece = piece} {rest = rest} found isnt h = record {
    begins = tagged_top found isnt piece rest h.begins;
    each = λ more ts p.
        let one = h.each more ts p in
        record {
          said = one.said;
          says = says_filled (tagged found isnt h.begins.spelled) (all_say h.begins.value one (at_tagged found isnt))
              (one.says (λ k i. i ≡ get_or one.nils k json.null) (λ k l. refl));
          rest = one.rest;
          left = one.left;
          whole = one.whole;
        };
  }

  -- ---- all that is read

  -- a key that gives a name holds nothing
  pub record NameRead (k : TypeId) (limit : ℕ) (es : List HeldEvent) (piece rest : List ℕ) : Type 0 where
    pub key : Tree
    pub holds : HoldsValue T k limit key piece rest
    pub events_are : es ≡ all_told (value_told T k key)

  name_read : {k : TypeId} {limit : ℕ} {es : List HeldEvent} {piece rest : List ℕ} → gives_names k ≡ true
      → Reads T k limit es piece rest → NameRead k limit es piece rest
  name_read named (reads_unfilled {v = v} h) = record { key = v; holds = h; events_are = refl }
  name_read {k = k} named (reads_slice is some g h) = absurd (names_kind table k named is)
  name_read {k = k} named (reads_array is some g h) = absurd (names_kind table k named is)
  name_read {k = k} named (reads_map is some g h) = absurd (names_kind table k named is)
  name_read {k = k} named (reads_struct is some h) = absurd (names_kind table k named is)
  name_read {k = k} named (reads_held is g h full) = absurd (names_kind table k named is)

  member_read : {k e : TypeId} {limit count : ℕ} {later : Bool} {ks es fs : List HeldEvent}
      {piece behind mid rest : List ℕ} → gives_names k ≡ true → NameRead k limit ks piece behind
      → ValueSaid e limit es behind mid → MembersSaid k e limit count fs mid rest → MembersSaid k e limit (count + 1)
      (told (event.entry k later) ∷ ((ks ++ told (event.between k) ∷ (es ++ told (event.entry_ends k) ∷ [])) ++ fs))
      piece rest
  member_read {k = k} {e = e} {limit = limit} {count = count} {later = later} {es = es} {fs = fs} {piece = piece}
      {rest = rest} is g h o =
      subst (λ ks. MembersSaid k e limit (count + 1) (told (event.entry k later)
      ∷ ((ks ++ told (event.between k) ∷ (es ++ told (event.entry_ends k) ∷ [])) ++ fs)) piece rest)
      (sym g.events_are) (member_said is g.holds h o)

  map_said : {u k e : TypeId} {limit count : ℕ} {es : List HeldEvent} {piece behind rest : List ℕ} (named : Bool)
      → gives_names k ≡ named → IsOfKind T u (kind.Map k e) → 0 < limit → BeginsThisNumber count piece behind
      → (gives_names k ≡ true → MembersSaid k e (limit - 1) count es behind rest)
      → (gives_names k ≡ false → PairsSaid k e (limit - 1) count es behind rest)
      → ValueSaid u limit (told (event.map_begins k) ∷ es) piece rest
  map_said true named is some g members pairs = object_said named is some g (members named)
  map_said false named is some g members pairs = listed_said named is some g (pairs named)

  mutual
    value_said : {u : TypeId} {limit : ℕ} {es : List HeldEvent} {piece rest : List ℕ} → Reads T u limit es piece rest
        → ValueSaid u limit es piece rest
    value_said (reads_unfilled h) = unfilled_said h
    value_said (reads_slice is some g h) = slice_said is some g (each_said h)
    value_said (reads_array is some g h) = array_said is some g (each_said h)
    value_said (reads_map {k = k} is some g h) =
        map_said (gives_names k) refl is some g (λ named. members_said named h) (λ named. pairs_said named h)
    value_said (reads_struct is some h) = struct_said is some (fields_said h)
    value_said (reads_held is g h full) = held_said is g (top_said h) full

    pub top_said : {t : TypeId} {limit : ℕ} {es : List HeldEvent} {piece rest : List ℕ}
        → ReadsTop T t limit es piece rest → TopSaid t limit es piece rest
    top_said (reads_at_once found is h) = struct_top_said found is (value_said h)
    top_said (reads_tagged found isnt h) = tagged_top_said found isnt (value_said h)

    each_said : {e : TypeId} {limit count : ℕ} {later : Bool} {es : List HeldEvent} {piece rest : List ℕ}
        → ReadsEach T e limit count later es piece rest → EachSaid e limit count later es piece rest
    each_said {e = e} {limit = limit} {later = later} {piece = piece} no_more = no_element_said e limit later piece
    each_said (and_element h k) = element_said (value_said h) (each_said k)
    each_said (unfilled_elements h counted) = unfilled_each h counted

    pairs_said : {k e : TypeId} {limit count : ℕ} {later : Bool} {es : List HeldEvent} {piece rest : List ℕ}
        → gives_names k ≡ false → ReadsEntries T k e limit count later es piece rest
        → PairsSaid k e limit count es piece rest
    pairs_said {k = k} {e = e} {limit = limit} {piece = piece} isnt no_entry_more = no_pair_said k e limit piece isnt
    pairs_said isnt (and_entry g h o) = pair_said isnt (value_said g) (value_said h) (pairs_said isnt o)

    members_said : {k e : TypeId} {limit count : ℕ} {later : Bool} {es : List HeldEvent} {piece rest : List ℕ}
        → gives_names k ≡ true → ReadsEntries T k e limit count later es piece rest
        → MembersSaid k e limit count es piece rest
    members_said {k = k} {e = e} {limit = limit} {piece = piece} is no_entry_more = no_member_said k e limit piece is
    members_said is (and_entry g h o) = member_read is (name_read is g) (value_said h) (members_said is o)

    fields_said : {types : List Field} {next limit : ℕ} {es : List HeldEvent} {piece rest : List ℕ}
        → ReadsFields T types next limit es piece rest → FieldsSaid types next limit es piece rest
    fields_said {types = types} {next = next} {limit = limit} (fields_stop h) = no_field_said types next limit h
    fields_said (and_field some is here g h k) = field_said some is here g (value_said h) (fields_said k)

  -- the tokens of all that was told of a whole value
  pub filled_said : {t : TypeId} {limit : ℕ} {es : List HeldEvent} {bytes : List ℕ} {ts : List Token} → AreBytes bytes
      → ReadsTop T t limit es bytes [] → Saying (plain es) ts
      → (w : IsFilledWhole T t limit bytes) × (j : Json) × SaysFilled tags (within style) T t w.value j × (ts ≡
      json_tokens j)
  filled_said {t = t} {limit = limit} {es = es} {bytes = bytes} {ts = ts} o reads p =
      let top = top_said reads in
      let one = top.each [] ts (subst (λ l. Saying l ts) (sym (append-nil (plain es))) p) in
      let all : bytes ≡ top.begins.bytes = top.begins.whole ∙ append-nil top.begins.bytes in (
        record {
          value = top.begins.value;
          spelled = λ base L. subst (λ l. SpellsFilled base L T t limit top.begins.value l T) (sym all)
              (top.begins.spelled (subst AreBytes all o) base L);
        },
        one.said,
        one.says,
        one.whole ∙ ap (λ (l : List Token). json_tokens one.said ++ l) (events.nothing_says style T unsaid one.left)
            ∙ append-nil (json_tokens one.said),
      )
