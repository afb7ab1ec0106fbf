-- Tokens that say what is told of a value are those of JSON that says the value.
use Rattle.std.proofs.Common.{◌≡◌, ℕ, ◌+◌, List, [], ◌∷◌, ◌++◌, Bool, true, false, Option, refl, sym, ap, ◌∙◌}
use Rattle.std.proofs.Common.{append_assoc, append-nil, length, subst}
use Rattle.std.specs.Prelude.{◌==◌, ◌&&◌, slice_get}
use Rattle.std.specs.Str.{is_utf8}
use Rattle.json.specs.Json.{Json, Items, Members}
use Rattle.json.specs.Json as json
use Rattle.json.specs.Token.{Token}
use Rattle.json.specs.Tree.{json_tokens, items_tokens, members_tokens}
use Rattle.gob_types.specs.declared.id.TypeId.{TypeId}
use Rattle.gob_types.specs.declared.kind.Field.{Field}
use Rattle.gob_types.specs.declared.kind.Shape.{Shape}
use Rattle.gob_types.specs.Table.{Table, shape_of}
use Rattle.gob_value.specs.Tree.{Tree, Trees, no_tree, tree, Pairs, no_pair, pair, Fields, no_field, field}
use Rattle.gob_value.specs.Tree as Value
use Rattle.gob_json.specs.Json.{element_type, key_type, struct_fields, field_name, field_type}
use Rattle.gob_walk.specs.Event.{Event, leaf, raw, list_begins, element, list_ends, map_begins, entry, between}
use Rattle.gob_walk.specs.Event.{entry_ends, map_ends, struct_begins, present, field_ends, struct_ends}
use Rattle.gob_walk.specs.Event.{value_told, elements_told, entries_told, entry_told, fields_told}
use Rattle.gob_plain.specs.declared.style.Style.{Style}
use Rattle.gob_plain.specs.declared.style.Taken.{Taken}
use Rattle.gob_plain.specs.declared.visitor.VisitorPlace.TheVariants as place
use Rattle.gob_plain.specs.AbsentFields.{AbsentTokens}
use Rattle.gob_plain.specs.Filled.{SaysIn}
use Rattle.gob_plain.specs.OpaqueText.{SaysContent, content_in, content_of, said_or, taken_as}
use Rattle.gob_plain.specs.Plain.{all_null, are_utf8, gives_names, key_text, name_text, text_bytes}
use Rattle.gob_plain.specs.PlainEvents.{SaysEvents, LeafSays, map_opens, map_closes, entry_closes}
use Rattle.gob_plain.specs.PlainEvents as said
use Rattle.gob_plain.proofs.FormLaws.{all_named, form_other, map_named, map_pairs}
use Rattle.gob_plain.proofs.StyleLaws.{EachIn, MembersIn, PairsIn, FieldsIn, absent_last, absent_then, element_in}
use Rattle.gob_plain.proofs.StyleLaws.{entry_in, leaf_in, many_in, map_in, member_in, no_element_in, no_entry_in}
use Rattle.gob_plain.proofs.StyleLaws.{no_member_in, struct_in}

module _ (style : Style) (T : Table) (unsaid : style.taken.now ≡ []) where
  -- what opaque values are taken for, of whose types nothing is said
  guessed : (t : TypeId) (s : Option Shape) → content_in style t s ≡ content_of style.raw s
  guessed t s = ap (λ (l : List Taken). said_or (taken_as l t) (content_of style.raw s)) unsaid

  -- behind the last of them a visitor is between two parts
  abbrev pub Saying : List Event → List Token → Type 0
  Saying es ts = SaysEvents style T place.Free es ts place.Free

  -- the tokens begin with these, and the others say the events behind
  pub record Left (es : List Event) (before : List Token) (ts : List Token) : Type 0 where
    pub rest : List Token
    pub left : Saying es rest
    pub whole : ts ≡ before ++ rest

  -- so they do with some of which this holds
  pub record LeftOf (P : List Token → Type 0) (behind : List Token) (es : List Event) (ts : List Token) : Type 0 where
    pub zeros : List Token
    pub absent : P zeros
    pub rest : List Token
    pub left : Saying es rest
    pub whole : ts ≡ zeros ++ (behind ++ rest)

  -- ---- what the first event says
  pub record LeafSaid (P : Json → Type 0) (es : List Event) (ts : List Token) : Type 0 where
    pub said : Json
    pub says : P said
    pub rest : List Token
    pub left : Saying es rest
    pub whole : ts ≡ json_tokens said ++ rest

  leaf_says : {v : Tree} {es : List Event} {ts : List Token} → Saying (leaf v ∷ es) ts
      → LeafSaid (λ j. LeafSays v j) es ts
  leaf_says (said.says_leaf j {ts = ts} p q) = record { said = j; says = p; rest = ts; left = q; whole = refl }

  raw_says : {s : Option Shape} {b : List ℕ} {es : List Event} {ts : List Token} → Saying (raw s b ∷ es) ts
      → LeafSaid (λ j. SaysContent (content_of style.raw s) b j) es ts
  raw_says (said.says_raw j {ts = ts} p q) = record { said = j; says = p; rest = ts; left = q; whole = refl }

  pub list_says : {es : List Event} {ts : List Token} → Saying (list_begins ∷ es) ts
      → Left es (Token.begin_array ∷ []) ts
  list_says (said.says_list {ts = ts} q) = record { rest = ts; left = q; whole = refl }

  pub element_says : {later : Bool} {es : List Event} {ts : List Token} → Saying (element later ∷ es) ts → Saying es ts
  element_says (said.says_element q) = q

  pub list_end_says : {es : List Event} {ts : List Token} → Saying (list_ends ∷ es) ts
      → Left es (Token.end_array ∷ []) ts
  list_end_says (said.says_list_end {ts = ts} q) = record { rest = ts; left = q; whole = refl }

  pub map_says : {k : TypeId} {es : List Event} {ts : List Token} → Saying (map_begins k ∷ es) ts
      → Left es (map_opens (gives_names k) ∷ []) ts
  map_says (said.says_map {ts = ts} p q) = record { rest = ts; left = q; whole = refl }

  pub map_apart : {k : TypeId} {es : List Event} {ts : List Token} → Saying (map_begins k ∷ es) ts → (k.0 == 8) ≡ false
  map_apart (said.says_map p q) = p

  pub map_end_says : {k : TypeId} {es : List Event} {ts : List Token} → Saying (map_ends k ∷ es) ts
      → Left es (map_closes (gives_names k) ∷ []) ts
  map_end_says (said.says_map_end {ts = ts} q) = record { rest = ts; left = q; whole = refl }

  pub entry_end_says : {k : TypeId} {es : List Event} {ts : List Token} → Saying (entry_ends k ∷ es) ts
      → Left es (entry_closes (gives_names k)) ts
  entry_end_says (said.says_entry_end {ts = ts} q) = record { rest = ts; left = q; whole = refl }

  pub entry_says : {k : TypeId} {later : Bool} {es : List Event} {ts : List Token} → gives_names k ≡ false
      → Saying (entry k later ∷ es) ts → Left es (Token.begin_array ∷ []) ts
  entry_says isnt (said.says_entry {ts = ts} p q) = record { rest = ts; left = q; whole = refl }
  entry_says isnt (said.says_due p q) = absurd (let clash : true ≡ false = sym p ∙ isnt in cc)

  pub between_says : {k : TypeId} {es : List Event} {ts : List Token} → Saying (between k ∷ es) ts → Saying es ts
  between_says (said.says_between q) = q

  pub struct_says : {es : List Event} {ts : List Token} → Saying (struct_begins ∷ es) ts
      → Left es (Token.begin_object ∷ []) ts
  struct_says (said.says_struct {ts = ts} q) = record { rest = ts; left = q; whole = refl }

  pub struct_end_says : {types : List Field} {next : ℕ} {es : List Event} {ts : List Token}
      → Saying (struct_ends types next ∷ es) ts
      → LeftOf (AbsentTokens style T types next (length types)) (Token.end_object ∷ []) es ts
  struct_end_says (said.says_struct_end zs {ts = ts} p q) =
      record { zeros = zs; absent = p; rest = ts; left = q; whole = refl }

  pub field_says : {types : List Field} {next f : ℕ} {es : List Event} {ts : List Token}
      → Saying (present types next f ∷ es) ts → LeftOf (AbsentTokens style T types next f)
      (Token.key (name_text (field_name (slice_get types f))) ∷ []) es ts
  field_says (said.says_field zs {ts = ts} p q) =
      record { zeros = zs; absent = p; rest = ts; left = q; whole = refl }

  pub field_end_says : {es : List Event} {ts : List Token} → Saying (field_ends ∷ es) ts → Saying es ts
  field_end_says (said.says_field_end q) = q

  -- a key that gives a name is a leaf
  pub record NameSays (x : Tree) (es : List Event) (ts : List Token) : Type 0 where
    pub utf8 : is_utf8 (text_bytes x) ≡ true
    pub rest : List Token
    pub left : Saying es rest
    pub whole : ts ≡ Token.key (key_text x) ∷ rest

  pub due_says : {k : TypeId} {later : Bool} {es : List Event} {ts : List Token} → gives_names k ≡ true
      → Saying (entry k later ∷ es) ts → SaysEvents style T place.Name es ts place.Free
  due_says is (said.says_due p q) = q
  due_says is (said.says_entry p q) = absurd (let clash : true ≡ false = sym is ∙ p in cc)

  leaf_name : {x : Tree} {k : TypeId} {es : List Event} {ts : List Token}
      → SaysEvents style T place.Name (leaf x ∷ (between k ∷ es)) ts place.Free → NameSays x es ts
  leaf_name (said.says_name u (said.says_between {ts = ts} q)) =
      record { utf8 = u; rest = ts; left = q; whole = refl }

  not_due : {A : Type 0} {e : Event} {es : List Event} {ts : List Token} → ((x : Tree) → e ≡ leaf x → ⊥)
      → SaysEvents style T place.Name (e ∷ es) ts place.Free → A
  not_due none (said.says_name {x = x} u q) = absurd (none x refl)

  pub name_says : (t : TypeId) (x : Tree) (k : TypeId) (es : List Event) (ts : List Token)
      → SaysEvents style T place.Name (value_told T t x ++ between k ∷ es) ts place.Free → NameSays x es ts
  name_says t (Value.bool b) k es ts p = leaf_name p
  name_says t (Value.int i) k es ts p = leaf_name p
  name_says t (Value.uint n) k es ts p = leaf_name p
  name_says t (Value.float m) k es ts p = leaf_name p
  name_says t (Value.complex m n) k es ts p = leaf_name p
  name_says t (Value.bytes b) k es ts p = leaf_name p
  name_says t (Value.text b) k es ts p = leaf_name p
  name_says t Value.nil k es ts p = leaf_name p
  name_says t (Value.opaque b) k es ts p = not_due (λ x e. cc) p
  name_says t (Value.many vs) k es ts p = not_due (λ x e. cc) p
  name_says t (Value.pairs ps) k es ts p = not_due (λ x e. cc) p
  name_says t (Value.fields fs) k es ts p = not_due (λ x e. cc) p

  -- ---- values
  pub record ValueSays (t : TypeId) (v : Tree) (es : List Event) (ts : List Token) : Type 0 where
    pub said : Json
    pub says : SaysIn style T t v said
    pub rest : List Token
    pub left : Saying es rest
    pub whole : ts ≡ json_tokens said ++ rest

  pub record ItemsSay (P : Items → Type 0) (es : List Event) (ts : List Token) : Type 0 where
    pub said : Items
    pub says : P said
    pub rest : List Token
    pub left : Saying es rest
    pub whole : ts ≡ items_tokens said ++ rest

  pub record MembersSay (P : Members → Type 0) (es : List Event) (ts : List Token) : Type 0 where
    pub said : Members
    pub says : P said
    pub rest : List Token
    pub left : Saying es rest
    pub whole : ts ≡ members_tokens said ++ rest

  of_leaf : {t : TypeId} {v : Tree} {es : List Event} {ts : List Token} (P : Json → Type 0)
      → ((j : Json) → P j → SaysIn style T t v j) → LeafSaid P es ts → ValueSays t v es ts
  of_leaf P f l = record { said = l.said; says = f l.said l.says; rest = l.rest; left = l.left; whole = l.whole }

  pub joined : (fs bs rest : List Token) {us ts : List Token} → ts ≡ fs ++ us → us ≡ bs ++ rest
      → ts ≡ (fs ++ bs) ++ rest
  joined fs bs rest e f = e ∙ ap (λ (l : List Token). fs ++ l) f ∙ sym (append_assoc fs bs rest)

  map_so : (t : TypeId) (ps : Pairs) (es : List Event) (ts : List Token) (b : Bool)
      → ((key_type (shape_of T t)).0 == 8) ≡ false → gives_names (key_type (shape_of T t)) ≡ b
      → (l : Left (entries_told false T (key_type (shape_of T t)) (element_type (shape_of T t)) ps ++ es)
      (map_opens (gives_names (key_type (shape_of T t))) ∷ []) ts)
      → (gives_names (key_type (shape_of T t)) ≡ true → MembersSay
      (λ ms. MembersIn all_null style T (key_type (shape_of T t)) (element_type (shape_of T t)) ps ms
      × (are_utf8 ps ≡ true)) es l.rest)
      → (gives_names (key_type (shape_of T t)) ≡ false → ItemsSay
      (λ js. PairsIn all_null style T (key_type (shape_of T t)) (element_type (shape_of T t)) ps js) es l.rest)
      → ValueSays t (Value.pairs ps) es ts
  map_so t ps es ts true apart is l f g =
      let i = f is in
      let k = key_type (shape_of T t) in
      let e = element_type (shape_of T t) in
      record {
        said = json.object i.said;
        says = map_in all_null style T t ps (json.object i.said)
            (map_named all_null style T k e ps (json.object i.said) (all_named k ps is i.says.1)
            (i.said, refl, i.says.0));
        rest = i.rest;
        left = i.left;
        whole = l.whole ∙ ap (λ b. map_opens b ∷ l.rest) is ∙ ap (λ (l : List Token). Token.begin_object ∷ l) i.whole;
      }
  map_so t ps es ts false apart isnt l f g =
      let i = g isnt in
      let k = key_type (shape_of T t) in
      let e = element_type (shape_of T t) in
      record {
        said = json.array i.said;
        says = map_in all_null style T t ps (json.array i.said)
            (map_pairs all_null style T k e ps (json.array i.said) (form_other all_null style T k e ps isnt apart)
            (i.said, refl, i.says));
        rest = i.rest;
        left = i.left;
        whole = l.whole ∙ ap (λ b. map_opens b ∷ l.rest) isnt ∙ ap (λ (l : List Token). Token.begin_array ∷ l) i.whole;
      }

  pub regroup : (a b c d : List Token) → a ++ (b ++ Token.end_array ∷ (c ++ d))
      ≡ ((a ++ (b ++ Token.end_array ∷ [])) ++ c) ++ d
  regroup a b c d = simp append_assoc

  -- a member behind zeros, and the other members
  pub member_behind : (zs : List Token) (n : Token) (j ms rest : List Token)
      → zs ++ (n ∷ (j ++ (ms ++ rest))) ≡ (zs ++ n ∷ (j ++ ms)) ++ rest
  member_behind zs n j ms rest = simp append_assoc

  mutual
    pub value_says : (t : TypeId) (v : Tree) (es : List Event) (ts : List Token)
        → Saying (value_told T t v ++ es) ts → ValueSays t v es ts
    value_says t (Value.bool x) es ts p =
        of_leaf _ (λ j q. leaf_in all_null style T t (Value.bool x) j (λ e. cc) (λ e. cc) (λ e. cc) q) (leaf_says p)
    value_says t (Value.int i) es ts p =
        of_leaf _ (λ j q. leaf_in all_null style T t (Value.int i) j (λ e. cc) (λ e. cc) (λ e. cc) q) (leaf_says p)
    value_says t (Value.uint n) es ts p =
        of_leaf _ (λ j q. leaf_in all_null style T t (Value.uint n) j (λ e. cc) (λ e. cc) (λ e. cc) q) (leaf_says p)
    value_says t (Value.float n) es ts p =
        of_leaf _ (λ j q. leaf_in all_null style T t (Value.float n) j (λ e. cc) (λ e. cc) (λ e. cc) q) (leaf_says p)
    value_says t (Value.complex m n) es ts p =
        of_leaf _ (λ j q. leaf_in all_null style T t (Value.complex m n) j (λ e. cc) (λ e. cc) (λ e. cc) q)
        (leaf_says p)
    value_says t (Value.bytes b) es ts p =
        of_leaf _ (λ j q. leaf_in all_null style T t (Value.bytes b) j (λ e. cc) (λ e. cc) (λ e. cc) q) (leaf_says p)
    value_says t (Value.text b) es ts p =
        of_leaf _ (λ j q. leaf_in all_null style T t (Value.text b) j (λ e. cc) (λ e. cc) (λ e. cc) q) (leaf_says p)
    value_says t Value.nil es ts p =
        of_leaf _ (λ j q. leaf_in all_null style T t Value.nil j (λ e. cc) (λ e. cc) (λ e. cc) q) (leaf_says p)
    value_says t (Value.opaque b) es ts p =
        of_leaf _ (λ j q. leaf_in all_null style T t (Value.opaque b) j (λ e. cc) (λ e. cc) (λ e. cc)
        (subst (λ c. SaysContent c b j) (sym (guessed t (shape_of T t))) q)) (raw_says p)
    value_says t (Value.many vs) es ts p =
        let l = list_says p in
        let i = elements_say (element_type (shape_of T t)) false vs es l.rest l.left in
        record {
          said = json.array i.said;
          says = many_in all_null style T t vs (json.array i.said) (i.said, refl, i.says);
          rest = i.rest;
          left = i.left;
          whole = l.whole ∙ ap (λ (l : List Token). Token.begin_array ∷ l) i.whole;
        }
    value_says t (Value.pairs ps) es ts p =
        let k = key_type (shape_of T t) in
        let e = element_type (shape_of T t) in
        let l = map_says p in
        map_so t ps es ts (gives_names k) (map_apart p) refl l (λ is. members_say k e false ps es l.rest is l.left)
        (λ isnt. pairs_say k e false ps es l.rest isnt l.left)
    value_says t (Value.fields fs) es ts p =
        let l = struct_says p in
        let i = fields_say (struct_fields (shape_of T t)) 0 fs es l.rest l.left in
        record {
          said = json.object i.said;
          says = struct_in all_null style T t fs (json.object i.said) (i.said, refl, i.says);
          rest = i.rest;
          left = i.left;
          whole = l.whole ∙ ap (λ (l : List Token). Token.begin_object ∷ l) i.whole;
        }

    pub elements_say : (e : TypeId) (later : Bool) (vs : Trees) (es : List Event) (ts : List Token)
        → Saying (elements_told later T e vs ++ es) ts → ItemsSay (λ js. EachIn all_null style T e vs js) es ts
    elements_say e later no_tree es ts p = let l = list_end_says p in record {
      said = json.no_items;
      says = no_element_in all_null style T e;
      rest = l.rest;
      left = l.left;
      whole = l.whole;
    }
    elements_say e later (tree v vs) es ts p =
        let q = subst (λ (l : List Event). Saying l ts)
        (append_assoc (value_told T e v) (elements_told true T e vs) es) (element_says p) in
        let one = value_says e v (elements_told true T e vs ++ es) ts q in
        let others = elements_say e true vs es one.rest one.left in
        record {
          said = json.item one.said others.said;
          says = element_in all_null style T e v vs one.said others.said one.says others.says;
          rest = others.rest;
          left = others.left;
          whole = joined _ _ _ one.whole others.whole;
        }

    members_say : (k e : TypeId) (later : Bool) (ps : Pairs) (es : List Event) (ts : List Token)
        → gives_names k ≡ true → Saying (entries_told later T k e ps ++ es) ts
        → MembersSay (λ ms. MembersIn all_null style T k e ps ms × (are_utf8 ps ≡ true)) es ts
    members_say k e later no_pair es ts is p = let l = map_end_says p in
        record {
          said = json.no_members;
          says = (no_member_in all_null style T k e, refl);
          rest = l.rest;
          left = l.left;
          whole = l.whole ∙ ap (λ b. map_closes b ∷ l.rest) is;
        }
    members_say k e later (pair x v ps) es ts is p =
        let told = entries_told true T k e ps in
        let q = subst (λ (l : List Event). Saying (entry k later ∷ l) ts)
        (append_assoc (value_told T k x) (between k ∷ (value_told T e v ++ entry_ends k ∷ [])) (told ++ es)
        ∙ ap (λ l. value_told T k x ++ between k ∷ l) (append_assoc (value_told T e v) (entry_ends k ∷ [])
        (told ++ es)))
        (subst (λ (l : List Event). Saying (entry k later ∷ l) ts) (append_assoc (entry_told T k e x v) told es) p) in
        let name = name_says k x k (value_told T e v ++ entry_ends k ∷ (told ++ es)) ts (due_says is q) in
        let one = value_says e v (entry_ends k ∷ (told ++ es)) name.rest name.left in
        let end = entry_end_says one.left in
        let others = members_say k e true ps es end.rest is end.left in
        record {
          said = json.member (key_text x) one.said others.said;
          says = (
            member_in all_null style T k e x v ps one.said others.said one.says others.says.0,
            ap (λ b. b && are_utf8 ps) name.utf8 ∙ others.says.1,
          );
          rest = others.rest;
          left = others.left;
          whole = name.whole ∙ ap (λ (l : List Token). Token.key (key_text x) ∷ l)
              (joined _ _ _ one.whole (end.whole ∙ ap (λ b. entry_closes b ++ end.rest) is ∙ others.whole));
        }

    pairs_say : (k e : TypeId) (later : Bool) (ps : Pairs) (es : List Event) (ts : List Token)
        → gives_names k ≡ false → Saying (entries_told later T k e ps ++ es) ts
        → ItemsSay (λ js. PairsIn all_null style T k e ps js) es ts
    pairs_say k e later no_pair es ts isnt p = let l = map_end_says p in
        record {
          said = json.no_items;
          says = no_entry_in all_null style T k e;
          rest = l.rest;
          left = l.left;
          whole = l.whole ∙ ap (λ b. map_closes b ∷ l.rest) isnt;
        }
    pairs_say k e later (pair x v ps) es ts isnt p =
        let told = entries_told true T k e ps in
        let begun = entry_says isnt p in
        let q = subst (λ (l : List Event). Saying l begun.rest)
        (append_assoc (entry_told T k e x v) told es
        ∙ append_assoc (value_told T k x) (between k ∷ (value_told T e v ++ entry_ends k ∷ [])) (told ++ es)
        ∙ ap (λ l. value_told T k x ++ between k ∷ l) (append_assoc (value_told T e v) (entry_ends k ∷ [])
        (told ++ es)))
        begun.left in
        let key = value_says k x (between k ∷ (value_told T e v ++ entry_ends k ∷ (told ++ es))) begun.rest q in
        let one = value_says e v (entry_ends k ∷ (told ++ es)) key.rest (between_says key.left) in
        let end = entry_end_says one.left in
        let others = pairs_say k e true ps es end.rest isnt end.left in
        let both = json.array (json.item key.said (json.item one.said json.no_items)) in
        record {
          said = json.item both others.said;
          says = entry_in all_null style T k e x v ps both others.said
              (key.said, one.said, refl, key.says, one.says) others.says;
          rest = others.rest;
          left = others.left;
          whole = begun.whole ∙ ap (λ (l : List Token). Token.begin_array ∷ l)
              (key.whole ∙ ap (λ (l : List Token). json_tokens key.said ++ l)
              (one.whole ∙ ap (λ (l : List Token). json_tokens one.said ++ l)
              (end.whole ∙ ap (λ b. entry_closes b ++ end.rest) isnt
              ∙ ap (λ (l : List Token). Token.end_array ∷ l) others.whole))
              ∙ regroup (json_tokens key.said) (json_tokens one.said) (items_tokens others.said) others.rest);
        }

    fields_say : (types : List Field) (next : ℕ) (fs : Fields) (es : List Event) (ts : List Token)
        → Saying (fields_told T types next fs ++ es) ts
        → MembersSay (λ ms. FieldsIn all_null style T types next fs ms) es ts
    fields_say types next no_field es ts p =
        let l = struct_end_says p in
        let all = absent_last all_null style T types next l.zeros l.absent in
        record {
          said = all.0;
          says = all.1;
          rest = l.rest;
          left = l.left;
          whole = l.whole ∙ sym (append_assoc l.zeros (Token.end_object ∷ []) l.rest)
              ∙ ap (λ (z : List Token). z ++ l.rest) all.2;
        }
    fields_say types next (field f v fs) es ts p =
        let t = field_type (slice_get types f) in
        let told = fields_told T types (f + 1) fs in
        let name = field_says p in
        let q = subst (λ (l : List Event). Saying l name.rest)
        (append_assoc (value_told T t v ++ field_ends ∷ []) told es
        ∙ append_assoc (value_told T t v) (field_ends ∷ []) (told ++ es)) name.left in
        let one = value_says t v (field_ends ∷ (told ++ es)) name.rest q in
        let others = fields_say types (f + 1) fs es one.rest (field_end_says one.left) in
        let all = absent_then all_null style T types next f v fs one.said others.said name.zeros name.absent one.says
        others.says in
        let n = Token.key (name_text (field_name (slice_get types f))) in
        record {
          said = all.0;
          says = all.1;
          rest = others.rest;
          left = others.left;
          whole = name.whole
              ∙ ap (λ (l : List Token). name.zeros ++ n ∷ l)
              (one.whole ∙ ap (λ (l : List Token). json_tokens one.said ++ l) others.whole)
              ∙ member_behind name.zeros n (json_tokens one.said) (members_tokens others.said) others.rest
              ∙ ap (λ (z : List Token). z ++ others.rest) all.2;
        }

  pub nothing_says : {ts : List Token} → Saying [] ts → ts ≡ []
  nothing_says said.says_nothing = refl

  -- the tokens of all events of a value
  pub whole_says : (t : TypeId) (v : Tree) (ts : List Token) → Saying (value_told T t v) ts
      → (j : Json) × SaysIn style T t v j × (ts ≡ json_tokens j)
  whole_says t v ts p =
      let one = value_says t v [] ts (subst (λ (l : List Event). Saying l ts) (sym (append-nil
      (value_told T t v))) p) in (
        one.said,
        one.says,
        one.whole ∙ ap (λ (l : List Token). json_tokens one.said ++ l) (nothing_says one.left)
            ∙ append-nil (json_tokens one.said),
      )
