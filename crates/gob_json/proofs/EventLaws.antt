-- What is told of a value has the text of the value's JSON.
use Rattle.std.proofs.Common.{◌≡◌, ℕ, ◌+◌, List, [], ◌∷◌, ◌++◌, Bool, true, false, refl, sym, ap, ◌∙◌, append_assoc}
use Rattle.std.proofs.Common.{nat_lt, slice_get, append-nil, subst, Result}
use Rattle.std.specs.Fmt.{decimal}
use Rattle.serde_json.specs.Written.{comma_if, compact_text, items_text}
use Rattle.gob_types.specs.declared.id.TypeId.{TypeId}
use Rattle.gob_types.specs.declared.kind.Field.{Field}
use Rattle.gob_types.specs.Table.{Table, shape_of}
use Rattle.gob_value.specs.Tree.{Tree, Trees, no_tree, tree, Pairs, no_pair, pair, Fields, no_field, field}
use Rattle.gob_value.specs.Tree as Value
use Rattle.gob_json.specs.Json.{element_type, key_type, struct_fields, field_type, field_name, value_json}
use Rattle.gob_json.specs.Json.{elements_json, pairs_json, fields_json, text_json}
use Rattle.gob_json.specs.Machine.TextParts.{field_head}
use Rattle.gob_walk.specs.Event.{Event, value_told, elements_told, entries_told, entry_told, fields_told, field_ends}
use Rattle.gob_walk.specs.Event.{between, entry_ends}
use Rattle.gob_json.specs.EventText.{event_text, events_text, text_of_both}
use Rattle.gob_walk.proofs.PublicLaws.{later_on}

joined : {a b c d : List ℕ} → a ≡ b → c ≡ d → a ++ c ≡ b ++ d
joined e f = cc

pub head_goes_on : (later : Bool) (f : ℕ) (name value items : List ℕ)
    → field_head later f name ++ ((value ++ 93 ∷ []) ++ items)
    ≡ comma_if later ++ 91 ∷ ((decimal f ++ 44 ∷ (compact_text (text_json name) ++ 44 ∷ (value ++ 93 ∷ []))) ++ items)
head_goes_on later f name value items = simp append_assoc

mutual
  pub value_text : (T : Table) (t : TypeId) (v : Tree) → events_text (value_told T t v)
      ≡ compact_text (value_json T t v)
  value_text T t (Value.bool x) = append-nil _
  value_text T t (Value.int i) = append-nil _
  value_text T t (Value.uint n) = append-nil _
  value_text T t (Value.float p) = append-nil _
  value_text T t (Value.complex p q) = append-nil _
  value_text T t (Value.bytes b) = append-nil _
  value_text T t (Value.text b) = append-nil _
  value_text T t Value.nil = append-nil _
  value_text T t (Value.opaque b) = append-nil _
  value_text T t (Value.many vs) = ap (λ l. 91 ∷ l) (elements_text false T (element_type (shape_of T t)) vs)
  value_text T t (Value.pairs ps) =
      ap (λ l. 91 ∷ l) (entries_text false T (key_type (shape_of T t)) (element_type (shape_of T t)) ps)
  value_text T t (Value.fields fs) = ap (λ l. 91 ∷ l) (fields_text T (struct_fields (shape_of T t)) 0 fs)

  pub elements_text : (later : Bool) (T : Table) (e : TypeId) (vs : Trees) → events_text (elements_told later T e vs)
      ≡ items_text later (elements_json T e vs)
  elements_text later T e no_tree = refl
  elements_text later T e (tree v vs) = ap (λ l. comma_if later ++ l)
      (text_of_both (value_told T e v) (elements_told true T e vs)
      ∙ joined (value_text T e v) (elements_text true T e vs))

  entries_text : (later : Bool) (T : Table) (k e : TypeId) (ps : Pairs) → events_text (entries_told later T k e ps)
      ≡ items_text later (pairs_json T k e ps)
  entries_text later T k e no_pair = refl
  entries_text later T k e (pair x v ps) =
      let element : events_text (value_told T e v ++ entry_ends k ∷ []) ≡ compact_text (value_json T e v) ++ 93 ∷ [] =
      text_of_both (value_told T e v) (entry_ends k ∷ []) ∙ ap (λ l. l ++ 93 ∷ []) (value_text T e v) in
      let one : events_text (entry_told T k e x v)
      ≡ compact_text (value_json T k x) ++ 44 ∷ (compact_text (value_json T e v) ++ 93 ∷ []) =
      text_of_both (value_told T k x) (between k ∷ (value_told T e v ++ entry_ends k ∷ []))
      ∙ joined (value_text T k x) (ap (λ l. 44 ∷ l) element) in
      append_assoc (comma_if later) (91 ∷ []) _
      ∙ ap (λ l. comma_if later ++ 91 ∷ l)
      (text_of_both (entry_told T k e x v) (entries_told true T k e ps)
      ∙ joined one (entries_text true T k e ps))

  fields_text : (T : Table) (types : List Field) (next : ℕ) (fs : Fields) → events_text (fields_told T types next fs)
      ≡ items_text (nat_lt 0 next) (fields_json T types fs)
  fields_text T types next no_field = refl
  fields_text T types next (field f v fs) =
      let value = value_told T (field_type (slice_get types f)) v in
      let inner : events_text (value ++ field_ends ∷ [])
      ≡ compact_text (value_json T (field_type (slice_get types f)) v) ++ 93 ∷ [] =
      text_of_both value (field_ends ∷ []) ∙ ap (λ l. l ++ 93 ∷ []) (value_text T (field_type (slice_get types f)) v) in
      let others : events_text (fields_told T types (f + 1) fs) ≡ items_text true (fields_json T types fs) =
      rw (← later_on f) (fields_text T types (f + 1) fs) in
      ap (λ l. field_head (nat_lt 0 next) f (field_name (slice_get types f)) ++ l)
      (text_of_both (value ++ field_ends ∷ []) (fields_told T types (f + 1) fs) ∙ joined inner others)
      ∙ head_goes_on (nat_lt 0 next) f (field_name (slice_get types f))
      (compact_text (value_json T (field_type (slice_get types f)) v)) (items_text true (fields_json T types fs))

-- one event
module _ {O E : Type 0} (puts : O → O → List ℕ → Result (Unit {0}) E → Type 0) where
  pub told_one : {old new : O} {r : Result (Unit {0}) E} (e : Event) → puts old new (event_text e) r
      → puts old new (events_text (e ∷ [])) r
  told_one {old = old} {new = new} {r = r} e p = subst (λ t. puts old new t r) (sym (append-nil (event_text e))) p
