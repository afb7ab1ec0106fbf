-- The tokens of plain JSON that say what a visitor is told of a value, event by event. (docs/FORMAT.md, Plain values.)
use Rattle.std.specs.Prelude.{◌≡◌, ◌==◌, ℕ, List, [], ◌∷◌, ◌++◌, Bool, true, false, Option, length, slice_get}
use Rattle.std.specs.Str.{is_utf8}
use Rattle.std.proofs.Common.{refl, sym, subst, append_assoc}
use Rattle.json.specs.Json.{Json}
use Rattle.json.specs.Token.{Token}
use Rattle.json.specs.Tree.{json_tokens}
use Rattle.gob_types.specs.declared.id.TypeId.{TypeId}
use Rattle.gob_types.specs.declared.kind.Field.{Field}
use Rattle.gob_types.specs.declared.kind.Shape.{Shape}
use Rattle.gob_types.specs.Table.{Table}
use Rattle.gob_value.specs.Tree.{Tree}
use Rattle.gob_json.specs.Json.{field_name, no_type}
use Rattle.gob_walk.specs.Event.{Event, leaf, raw, list_begins, element, list_ends, map_begins, entry, between}
use Rattle.gob_walk.specs.Event.{entry_ends, map_ends, struct_begins, present, field_ends, struct_ends}
use Rattle.gob_plain.specs.declared.visitor.VisitorPlace.{VisitorPlace}
use Rattle.gob_plain.specs.declared.visitor.VisitorPlace.TheVariants as place
use Rattle.gob_plain.specs.declared.style.Style.{Style}
use Rattle.gob_plain.specs.AbsentFields.{AbsentTokens}
use Rattle.gob_plain.specs.declared.opaque.Content.TheVariants as content
use Rattle.gob_plain.specs.OpaqueText.{SaysContent, content_of}
use Rattle.gob_plain.specs.Plain.{Says, gives_names, key_text, name_text, text_bytes}

-- of a value without parts that isn't opaque, neither its type nor the style tells more
abbrev pub LeafSays : Tree → Json → Type 0
LeafSays v j = Says (λ t s. content.Bytes) [] no_type v j

-- the entries of a map: an object where its keys give names, else an array
abbrev pub map_opens : Bool → Token
map_opens true = Token.begin_object
map_opens false = Token.begin_array

abbrev pub map_closes : Bool → Token
map_closes true = Token.end_object
map_closes false = Token.end_array

abbrev pub entry_closes : Bool → List Token
entry_closes true = []
entry_closes false = Token.end_array ∷ []

-- The tokens say the events, which lead from one place to another, where nothing is said of types. Where a part stands
-- in place of a name, which it does in no value, and in some maps, they say nothing.
pub data SaysEvents (style : Style) (T : Table) : VisitorPlace → List Event → List Token → VisitorPlace → Type 0 where
  says_nothing : {a : VisitorPlace} → SaysEvents style T a [] [] a
  says_lost : {a : VisitorPlace} {es : List Event} {ts : List Token} → SaysEvents style T a es ts place.Lost
  says_leaf : {v : Tree} (j : Json) {es : List Event} {ts : List Token} {a : VisitorPlace} → LeafSays v j
      → SaysEvents style T place.Free es ts a → SaysEvents style T place.Free (leaf v ∷ es) (json_tokens j ++ ts) a
  says_raw : {s : Option Shape} {b : List ℕ} (j : Json) {es : List Event} {ts : List Token} {a : VisitorPlace}
      → SaysContent (content_of style.raw s) b j → SaysEvents style T place.Free es ts a
      → SaysEvents style T place.Free (raw s b ∷ es) (json_tokens j ++ ts) a
  says_list : {es : List Event} {ts : List Token} {a : VisitorPlace} → SaysEvents style T place.Free es ts a
      → SaysEvents style T place.Free (list_begins ∷ es) (Token.begin_array ∷ ts) a
  says_element : {later : Bool} {es : List Event} {ts : List Token} {a : VisitorPlace}
      → SaysEvents style T place.Free es ts a
      → SaysEvents style T place.Free (element later ∷ es) ts a
  says_list_end : {es : List Event} {ts : List Token} {a : VisitorPlace} → SaysEvents style T place.Free es ts a
      → SaysEvents style T place.Free (list_ends ∷ es) (Token.end_array ∷ ts) a
  -- where keys are interfaces, an entry may be a member or not
  says_map : {k : TypeId} {es : List Event} {ts : List Token} {a : VisitorPlace} → (k.0 == 8) ≡ false
      → SaysEvents style T place.Free es ts a
      → SaysEvents style T place.Free (map_begins k ∷ es) (map_opens (gives_names k) ∷ ts) a
  says_entry : {k : TypeId} {later : Bool} {es : List Event} {ts : List Token} {a : VisitorPlace}
      → gives_names k ≡ false
      → SaysEvents style T place.Free es ts a
      → SaysEvents style T place.Free (entry k later ∷ es) (Token.begin_array ∷ ts) a
  -- where keys give names, a name is due
  says_due : {k : TypeId} {later : Bool} {es : List Event} {ts : List Token} {a : VisitorPlace} → gives_names k ≡ true
      → SaysEvents style T place.Name es ts a → SaysEvents style T place.Free (entry k later ∷ es) ts a
  -- that of a text that isn't UTF-8 may be that of another key
  says_name : {x : Tree} {es : List Event} {ts : List Token} {a : VisitorPlace} → is_utf8 (text_bytes x) ≡ true
      → SaysEvents style T place.Free es ts a
      → SaysEvents style T place.Name (leaf x ∷ es) (Token.key (key_text x) ∷ ts) a
  says_between : {k : TypeId} {es : List Event} {ts : List Token} {a : VisitorPlace}
      → SaysEvents style T place.Free es ts a
      → SaysEvents style T place.Free (between k ∷ es) ts a
  says_entry_end : {k : TypeId} {es : List Event} {ts : List Token} {a : VisitorPlace}
      → SaysEvents style T place.Free es ts a
      → SaysEvents style T place.Free (entry_ends k ∷ es) (entry_closes (gives_names k) ++ ts) a
  says_map_end : {k : TypeId} {es : List Event} {ts : List Token} {a : VisitorPlace}
      → SaysEvents style T place.Free es ts a
      → SaysEvents style T place.Free (map_ends k ∷ es) (map_closes (gives_names k) ∷ ts) a
  says_struct : {es : List Event} {ts : List Token} {a : VisitorPlace} → SaysEvents style T place.Free es ts a
      → SaysEvents style T place.Free (struct_begins ∷ es) (Token.begin_object ∷ ts) a
  -- behind the zeros of absent fields
  says_field : {types : List Field} {next f : ℕ} (zs : List Token) {es : List Event} {ts : List Token}
      {a : VisitorPlace}
      → AbsentTokens style T types next f zs → SaysEvents style T place.Free es ts a
      → SaysEvents style T place.Free (present types next f ∷ es)
      (zs ++ Token.key (name_text (field_name (slice_get types f))) ∷ ts) a
  says_field_end : {es : List Event} {ts : List Token} {a : VisitorPlace} → SaysEvents style T place.Free es ts a
      → SaysEvents style T place.Free (field_ends ∷ es) ts a
  says_struct_end : {types : List Field} {next : ℕ} (zs : List Token) {es : List Event} {ts : List Token}
      {a : VisitorPlace}
      → AbsentTokens style T types next (length types) zs → SaysEvents style T place.Free es ts a
      → SaysEvents style T place.Free (struct_ends types next ∷ es) (zs ++ Token.end_object ∷ ts) a

-- ---- events behind others

module _ (style : Style) (T : Table) where
  abbrev pub SaysBetween : VisitorPlace → List Event → List Token → VisitorPlace → Type 0
  SaysBetween a es ts b = SaysEvents style T a es ts b

  -- nothing leads back from where a part stood in place of a name
  stays_lost : {es : List Event} {ts : List Token} {b : VisitorPlace} → SaysBetween place.Lost es ts b → b ≡ place.Lost
  stays_lost says_nothing = refl
  stays_lost says_lost = refl

  lost_both : {a b c : VisitorPlace} (es : List Event) {fs : List Event} (ts : List Token) {us : List Token}
      → b ≡ place.Lost → SaysBetween b fs us c
      → SaysBetween a (es ++ fs) (ts ++ us) c
  lost_both {a = a} {c = c} es {fs = fs} ts {us = us} is q =
      subst (λ c. SaysBetween a (es ++ fs) (ts ++ us) c)
      (sym (stays_lost (subst (λ b. SaysBetween b fs us c) is q))) says_lost

  -- events behind others
  pub says_both : {a b c : VisitorPlace} {es fs : List Event} {ts us : List Token} → SaysBetween a es ts b
      → SaysBetween b fs us c → SaysBetween a (es ++ fs) (ts ++ us) c
  says_both says_nothing q = q
  says_both (says_lost {es = es} {ts = ts}) q = lost_both es ts refl q
  says_both {c = c} {fs = fs} {us = us} (says_leaf {v = v} j {es = es} {ts = ts} p r) q =
      subst (λ (l : List Token). SaysBetween place.Free (leaf v ∷ (es ++ fs)) l c)
      (sym (append_assoc (json_tokens j) ts us)) (says_leaf j p (says_both r q))
  says_both {c = c} {fs = fs} {us = us} (says_raw {s = s} {b = b} j {es = es} {ts = ts} p r) q =
      subst (λ (l : List Token). SaysBetween place.Free (raw s b ∷ (es ++ fs)) l c)
      (sym (append_assoc (json_tokens j) ts us)) (says_raw j p (says_both r q))
  says_both (says_list r) q = says_list (says_both r q)
  says_both (says_element r) q = says_element (says_both r q)
  says_both (says_list_end r) q = says_list_end (says_both r q)
  says_both (says_map p r) q = says_map p (says_both r q)
  says_both (says_entry p r) q = says_entry p (says_both r q)
  says_both (says_due p r) q = says_due p (says_both r q)
  says_both (says_name p r) q = says_name p (says_both r q)
  says_both (says_between r) q = says_between (says_both r q)
  says_both {c = c} {fs = fs} {us = us} (says_entry_end {k = k} {es = es} {ts = ts} r) q =
      subst (λ (l : List Token). SaysBetween place.Free (entry_ends k ∷ (es ++ fs)) l c)
      (sym (append_assoc (entry_closes (gives_names k)) ts us)) (says_entry_end (says_both r q))
  says_both (says_map_end r) q = says_map_end (says_both r q)
  says_both (says_struct r) q = says_struct (says_both r q)
  says_both {c = c} {fs = fs} {us = us}
      (says_field {types = types} {next = next} {f = f} zs {es = es} {ts = ts} p r) q =
      subst (λ (l : List Token). SaysBetween place.Free (present types next f ∷ (es ++ fs)) l c)
      (sym (append_assoc zs (Token.key (name_text (field_name (slice_get types f))) ∷ ts) us))
      (says_field zs p (says_both r q))
  says_both (says_field_end r) q = says_field_end (says_both r q)
  says_both {c = c} {fs = fs} {us = us}
      (says_struct_end {types = types} {next = next} zs {es = es} {ts = ts} p r) q =
      subst (λ (l : List Token). SaysBetween place.Free (struct_ends types next ∷ (es ++ fs)) l c)
      (sym (append_assoc zs (Token.end_object ∷ ts) us)) (says_struct_end zs p (says_both r q))
