-- What is said of a value whose nils say null but for texts is said of it with what these nils hold, where that stands
-- in the place of each null.
use Rattle.std.proofs.Common.{◌≡◌, ◌∙◌, ℕ, zero, suc, ◌+◌, List, [], ◌∷◌, ◌++◌, Bool, true, false, ◌&&◌, Option, Some}
use Rattle.std.proofs.Common.{None, ap, append-nil, append_assoc, arith, get_or, refl, subst, sym}
use Rattle.std.specs.Prelude.{◌==◌, ℤ, codes, from_bits, if◌then◌else◌, negsuc, not, pos, slice_get, unwrap_or}
use Rattle.std.specs.Float.Ieee.{Float, binary64, fin, inf, nan}
use Rattle.std.specs.Str.{is_utf8}
use Rattle.hex.specs.Hex.{encode_lower}
use Rattle.json.specs.Json.{Json, Items, Members}
use Rattle.json.specs.Json as json
use Rattle.json.specs.Token.{Token}
use Rattle.json.specs.Tree.{json_tokens, items_tokens, members_tokens}
use Rattle.serde_json.specs.Data as Data
use Rattle.serde_json.specs.Written.{outline}
use Rattle.gob_types.specs.declared.id.TypeId.{TypeId}
use Rattle.gob_types.specs.declared.kind.Field.{Field}
use Rattle.gob_types.specs.Table.{Table, shape_of}
use Rattle.gob_value.specs.Tree.{Tree, Trees, no_tree, tree, Pairs, no_pair, pair, Fields, no_field, field}
use Rattle.gob_value.specs.Tree as Value
use Rattle.gob_json.specs.Json.{element_type, field_type, integer_json, key_type, struct_fields, text_json, value_json}
use Rattle.gob_plain.specs.declared.opaque.Content.{Content}
use Rattle.gob_plain.specs.declared.opaque.Content.TheVariants as content
use Rattle.gob_plain.specs.BigInt.{SaysInt}
use Rattle.gob_plain.specs.OpaqueText.{SaysContent, Takes}
use Rattle.gob_plain.specs.Machine.Nulls.{all_held, held_json, left_held, own_json, token_held, with_held}
use Rattle.gob_plain.specs.Plain.{IsArrayOf, IsMapOf, SaysBoth, SaysFloat, SaysPattern, SaysWith, SayEachWith}
use Rattle.gob_plain.specs.Plain.{SayFieldsWith, SayMembersWith, SayPairsWith, are_bare, are_named, differ}
use Rattle.gob_plain.specs.Plain.{entries_json}
use Rattle.gob_plain.specs.Plain.{has_parts, is_nil, key_texts, may_be_named, members_of, nils, nils_of_each}
use Rattle.gob_plain.specs.Plain.{nils_of_fields, nils_of_members, nils_of_pairs, said_text}
use Rattle.gob_plain.specs.Plain.{text_before}

-- ---- tokens, part by part

-- with these JSON in place of nulls the tokens are those, whatever comes behind them
abbrev pub Becomes : List Json → List Token → List Token → Type 0
Becomes hs ts us = (more : List Json) (rest : List Token)
    → with_held (hs ++ more) (ts ++ rest) ≡ us ++ with_held more rest

both_become : (hs gs : List Json) (ts us vs ws : List Token) → Becomes hs ts us → Becomes gs vs ws
    → Becomes (hs ++ gs) (ts ++ vs) (us ++ ws)
both_become hs gs ts us vs ws f g = λ more rest.
    ap (λ (l : List Json). with_held l ((ts ++ vs) ++ rest)) (append_assoc hs gs more)
    ∙ ap (λ (l : List Token). with_held (hs ++ (gs ++ more)) l) (append_assoc ts vs rest) ∙ f (gs ++ more) (vs ++ rest)
    ∙ ap (λ (l : List Token). us ++ l) (g more rest) ∙ sym (append_assoc us ws (with_held more rest))

begin_array_becomes : (hs : List Json) (ts us : List Token) → Becomes hs ts us
    → Becomes hs (Token.begin_array ∷ ts) (Token.begin_array ∷ us)
begin_array_becomes hs ts us f = λ more rest. ap (λ (l : List Token). Token.begin_array ∷ l) (f more rest)

begin_object_becomes : (hs : List Json) (ts us : List Token) → Becomes hs ts us
    → Becomes hs (Token.begin_object ∷ ts) (Token.begin_object ∷ us)
begin_object_becomes hs ts us f = λ more rest. ap (λ (l : List Token). Token.begin_object ∷ l) (f more rest)

key_becomes : (s : List ℕ) (hs : List Json) (ts us : List Token) → Becomes hs ts us
    → Becomes hs (Token.key s ∷ ts) (Token.key s ∷ us)
key_becomes s hs ts us f = λ more rest. ap (λ (l : List Token). Token.key s ∷ l) (f more rest)

end_array_becomes : Becomes [] (Token.end_array ∷ []) (Token.end_array ∷ [])
end_array_becomes = λ more rest. refl

end_object_becomes : Becomes [] (Token.end_object ∷ []) (Token.end_object ∷ [])
end_object_becomes = λ more rest. refl

-- ---- without null

abbrev full_token : Token → Bool
full_token Token.null = false
full_token t = true

abbrev is_full : List Token → Bool
is_full [] = true
is_full (t ∷ ts) = full_token t && is_full ts

full_becomes : (ts : List Token) → is_full ts ≡ true → Becomes [] ts ts
full_becomes [] e = λ more rest. refl
full_becomes (Token.null ∷ ts) e = cc
full_becomes (Token.begin_object ∷ ts) e = begin_object_becomes [] ts ts (full_becomes ts e)
full_becomes (Token.end_object ∷ ts) e =
    λ more rest. ap (λ (l : List Token). Token.end_object ∷ l) (full_becomes ts e more rest)
full_becomes (Token.begin_array ∷ ts) e = begin_array_becomes [] ts ts (full_becomes ts e)
full_becomes (Token.end_array ∷ ts) e =
    λ more rest. ap (λ (l : List Token). Token.end_array ∷ l) (full_becomes ts e more rest)
full_becomes (Token.key s ∷ ts) e = key_becomes s [] ts ts (full_becomes ts e)
full_becomes (Token.string s ∷ ts) e =
    λ more rest. ap (λ (l : List Token). Token.string s ∷ l) (full_becomes ts e more rest)
full_becomes (Token.number s ∷ ts) e =
    λ more rest. ap (λ (l : List Token). Token.number s ∷ l) (full_becomes ts e more rest)
full_becomes (Token.boolean b ∷ ts) e =
    λ more rest. ap (λ (l : List Token). Token.boolean b ∷ l) (full_becomes ts e more rest)
full_becomes (Token.bad ∷ ts) e = λ more rest. ap (λ (l : List Token). Token.bad ∷ l) (full_becomes ts e more rest)

both_full : (ts us : List Token) → is_full ts ≡ true → is_full us ≡ true → is_full (ts ++ us) ≡ true
both_full [] us e f = f
both_full (t ∷ ts) us e f = by (full_token t) (λ d. both_full ts us d f) e
  where
    by : (b : Bool) → (is_full ts ≡ true → is_full (ts ++ us) ≡ true) → (b && is_full ts) ≡ true
        → (b && is_full (ts ++ us)) ≡ true
    by true g e = g e
    by false g e = cc

abbrev IsFull : Json → Type 0
IsFull j = is_full (json_tokens j) ≡ true

text_full : {j : Json} {s : List ℕ} → j ≡ json.string s → IsFull j
text_full e = ap (λ j. is_full (json_tokens j)) e

number_full : {j : Json} {s : List ℕ} → j ≡ json.number s → IsFull j
number_full e = ap (λ j. is_full (json_tokens j)) e

not_full : false ≡ true → ⊥
not_full e = cc

-- in either case
either_full : {A : Type 0} (b : Bool) → (A → b ≡ true) → (¬ A → b ≡ true) → b ≡ true
either_full true f g = refl
either_full false f g = g (λ a. not_full (f a))

float_full : (x : Float) (j : Json) → SaysFloat x j → IsFull j
float_full nan j e = text_full e
float_full (inf true) j e = text_full e
float_full (inf false) j e = text_full e
float_full (fin s m e) j p = number_full p.1

pattern_full : (p : ℕ) (j : Json) → SaysPattern p j → IsFull j
pattern_full p j s = float_full (from_bits binary64 p) j s

complex_full : (p q : ℕ) (j : Json) → SaysBoth (SaysPattern p) (SaysPattern q) j → IsFull j
complex_full p q j s =
    let second : is_full (json_tokens s.1 ++ Token.end_array ∷ []) ≡ true =
    both_full (json_tokens s.1) (Token.end_array ∷ []) (pattern_full q s.1 s.4) refl in
    ap (λ j. is_full (json_tokens j)) s.2
    ∙ both_full (json_tokens s.0) (json_tokens s.1 ++ Token.end_array ∷ []) (pattern_full p s.0 s.3) second

int_full : (b : List ℕ) (j : Json) → SaysInt b j → IsFull j
int_full b j s = either_full (is_full (json_tokens j)) (λ a. number_full (s.shown a).1) (λ n. text_full (s.other n))

content_full : (c : Content) (b : List ℕ) (j : Json) → SaysContent c b j → IsFull j
content_full content.Bytes b j e = text_full e
content_full content.Text b j e = text_full e
content_full content.Time b j s =
    either_full (is_full (json_tokens j)) (λ a. text_full (s.shown a).text) (λ n. text_full (s.other n))
content_full content.Int b j s = int_full b j s
content_full content.Float b j s =
    either_full (is_full (json_tokens j)) (λ a. text_full (s.shown a).1) (λ n. text_full (s.other n))
content_full content.Rat b j s =
    either_full (is_full (json_tokens j)) (λ a. text_full (s.shown a).1) (λ n. text_full (s.other n))
content_full content.Uuid b j e = text_full e
content_full content.Address b j e = text_full e
content_full content.AddressPort b j e = text_full e
content_full content.Prefix b j e = text_full e
content_full content.TimeOrInt b j s =
    either_full (is_full (json_tokens j)) (λ a. text_full (s.shown a).text) (λ n. int_full b j (s.other n))

name_full : (b : List ℕ) → IsFull (outline (text_json b))
name_full b = by (is_utf8 b)
  where
    by : (u : Bool) → IsFull
        (outline (if u then Data.string b else Data.object
        (Data.member (codes "hex") (Data.string (encode_lower b)) Data.no_members)))
    by true = refl
    by false = refl

-- ---- nils

-- what the first n nils hold
abbrev pub opened : (ℕ → Json) → ℕ → List Json
opened S zero = []
opened S (suc n) = held_json (S 0) ++ opened (λ k. S (suc k)) n

opened_same : (S R : ℕ → Json) (n : ℕ) → ((k : ℕ) → S k ≡ R k) → opened S n ≡ opened R n
opened_same S R zero f = refl
opened_same S R (suc n) f =
    ap (λ j. held_json j ++ opened (λ k. S (suc k)) n) (f 0)
    ∙ ap (λ l. held_json (R 0) ++ l) (opened_same (λ k. S (suc k)) (λ k. R (suc k)) n (λ k. f (suc k)))

opened_both : (S : ℕ → Json) (a b : ℕ) → opened S (a + b) ≡ opened S a ++ opened (λ k. S (a + k)) b
opened_both S zero b =
    let same : 0 + b ≡ b = omega arith in
    ap (λ n. opened S n) same ∙ opened_same S (λ k. S (0 + k)) b (λ k. ap S (next k))
  where
    next : (k : ℕ) → k ≡ 0 + k
    next k = omega arith
opened_both S (suc a) b =
    let same : suc a + b ≡ suc (a + b) = omega arith in
    let others : ℕ → Json = λ k. S (suc k) in
    ap (λ n. opened S n) same
    ∙ ap (λ l. held_json (S 0) ++ l)
    (opened_both others a b
    ∙ ap (λ l. opened others a ++ l)
    (opened_same (λ k. S (suc (a + k))) (λ k. S (suc a + k)) b (λ k. ap S (next k))))
    ∙ sym (append_assoc (held_json (S 0)) (opened others a) (opened (λ k. S (suc a + k)) b))
  where
    next : (k : ℕ) → suc (a + k) ≡ suc a + k
    next k = omega arith

own_twice : (j : Json) → own_json j ≡ own_json (own_json j)
own_twice json.null = refl
own_twice (json.boolean b) = refl
own_twice (json.number s) = refl
own_twice (json.string s) = refl
own_twice (json.array js) = refl
own_twice (json.object ms) = refl

nil_becomes : (j : Json) → Becomes (held_json j ++ []) (json_tokens (own_json j)) (json_tokens j)
nil_becomes json.null = λ more rest. refl
nil_becomes (json.boolean b) = λ more rest. refl
nil_becomes (json.number s) = λ more rest. refl
nil_becomes (json.string s) = λ more rest. refl
nil_becomes (json.array js) = λ more rest. refl
nil_becomes (json.object ms) = λ more rest. refl

own_said : (j : Json) → said_text j ≡ said_text (own_json j)
own_said json.null = refl
own_said (json.boolean b) = refl
own_said (json.number s) = refl
own_said (json.string s) = refl
own_said (json.array js) = refl
own_said (json.object ms) = refl

text_alike : (i j : Json) → own_json i ≡ own_json j → said_text i ≡ said_text j
text_alike i j e = own_said i ∙ ap said_text e ∙ sym (own_said j)

text_not_held : (j : Json) (s : List ℕ) → said_text (own_json j) ≡ Some s → held_json j ≡ []
text_not_held json.null s e = cc
text_not_held (json.boolean b) s e = cc
text_not_held (json.number t) s e = cc
text_not_held (json.string t) s e = refl
text_not_held (json.array js) s e = cc
text_not_held (json.object ms) s e = cc

some_before : (o : Option (List ℕ)) (all : Option (List (List ℕ))) (texts : List (List ℕ))
    → text_before o all ≡ Some texts → (s : List ℕ) × (o ≡ Some s) × (more : List (List ℕ)) × (all ≡ Some more)
some_before None all texts e = cc
some_before (Some s) None texts e = cc
some_before (Some s) (Some more) texts e = (s, refl, more, refl)

-- ---- values

-- what the nils say in the value's own JSON, and with what they hold
abbrev pub Own : (ℕ → Json) → ℕ → Json → Type 0
Own S k i = i ≡ own_json (S k)

abbrev pub Whole : (ℕ → Json) → ℕ → Json → Type 0
Whole S k i = i ≡ S k

pub record ValueHeld (S : ℕ → Json) (how : Takes) (T : Table) (t : TypeId) (v : Tree) (own : Json) : Type 0 where
  pub json : Json
  pub says : SaysWith (Whole S) how T t v json
  pub becomes : Becomes (opened S (nils T t v)) (json_tokens own) (json_tokens json)
  pub alike : own_json json ≡ own_json own

record EachHeld (S : ℕ → Json) (how : Takes) (T : Table) (e : TypeId) (vs : Trees) (own : Items) : Type 0 where
  pub items : Items
  pub say : SayEachWith (Whole S) how T e vs items
  pub become : Becomes (opened S (nils_of_each T e vs)) (items_tokens own) (items_tokens items)

record MembersHeld (S : ℕ → Json) (how : Takes) (T : Table) (e : TypeId) (ps : Pairs) (own : Members) : Type 0 where
  pub members : Members
  pub say : SayMembersWith (Whole S) how T e ps members
  pub become : Becomes (opened S (nils_of_members T e ps)) (members_tokens own) (members_tokens members)

record PairsHeld (S : ℕ → Json) (how : Takes) (T : Table) (k e : TypeId) (ps : Pairs) (own : Items) : Type 0 where
  pub items : Items
  pub say : SayPairsWith (Whole S) how T k e ps items
  pub become : Becomes (opened S (nils_of_pairs T k e ps)) (items_tokens own) (items_tokens items)
  pub texts : key_texts items ≡ key_texts own
  pub named : are_bare ps ≡ true → (all : List (List ℕ)) → key_texts own ≡ Some all
      → Becomes (opened S (nils_of_pairs T k e ps)) (members_tokens (members_of own))
      (members_tokens (members_of items))

record FieldsHeld (S : ℕ → Json) (how : Takes) (T : Table) (types : List Field) (fs : Fields) (own : Members) : Type
    0 where
  pub members : Members
  pub say : SayFieldsWith (Whole S) how T types fs members
  pub become : Becomes (opened S (nils_of_fields T types fs)) (members_tokens own) (members_tokens members)

-- the nils of two parts, one behind the other
parted : (S : ℕ → Json) (a b : ℕ) (ts us : List Token) → Becomes (opened S a ++ opened (λ k. S (a + k)) b) ts us
    → Becomes (opened S (a + b)) ts us
parted S a b ts us f = subst (λ l. Becomes l ts us) (sym (opened_both S a b)) f

leaf_held : (S : ℕ → Json) (how : Takes) (T : Table) (t : TypeId) (v : Tree) (own : Json) → nils T t v ≡ 0
    → SaysWith (Whole S) how T t v own → IsFull own → ValueHeld S how T t v own
leaf_held S how T t v own none s full = record {
  json = own;
  says = s;
  becomes = subst (λ n. Becomes (opened S n) (json_tokens own) (json_tokens own)) (sym none)
      (full_becomes (json_tokens own) full);
  alike = refl;
}

-- a value that is its own JSON in the lines
line_held : (S : ℕ → Json) (how : Takes) (T : Table) (t : TypeId) (v : Tree) (own line : Json) → nils T t v ≡ 0
    → SaysWith (Whole S) how T t v own → own ≡ line → IsFull line → ValueHeld S how T t v own
line_held S how T t v own line none s e full = leaf_held S how T t v own none s (subst IsFull (sym e) full)

number_line : (i : ℤ) → IsFull (outline (integer_json i))
number_line (pos n) = refl
number_line (negsuc n) = refl

-- [key,element]
abbrev pair_items : Json → Json → Items → Items
pair_items a b js = json.item (json.array (json.item a (json.item b json.no_items))) js

pair_becomes : (hs gs ks : List Json) (a b x y : Json) (own items : Items) → Becomes hs (json_tokens a) (json_tokens x)
    → Becomes gs (json_tokens b) (json_tokens y) → Becomes ks (items_tokens own) (items_tokens items)
    → Becomes (hs ++ (gs ++ ks)) (items_tokens (pair_items a b own)) (items_tokens (pair_items x y items))
pair_becomes hs gs ks a b x y own items f g h =
    let end = Token.end_array ∷ [] in
    let second : Becomes (gs ++ []) (json_tokens b ++ end) (json_tokens y ++ end) =
    both_become gs [] (json_tokens b) (json_tokens y) end end g end_array_becomes in
    let both : Becomes (hs ++ (gs ++ [])) (json_tokens a ++ (json_tokens b ++ end))
    (json_tokens x ++ (json_tokens y ++ end)) =
    both_become hs (gs ++ []) (json_tokens a) (json_tokens x) (json_tokens b ++ end) (json_tokens y ++ end) f second in
    let one : Becomes (hs ++ gs) (Token.begin_array ∷ (json_tokens a ++ (json_tokens b ++ end)))
    (Token.begin_array ∷ (json_tokens x ++ (json_tokens y ++ end))) =
    begin_array_becomes (hs ++ gs) (json_tokens a ++ (json_tokens b ++ end)) (json_tokens x ++ (json_tokens y ++ end))
    (subst (λ l. Becomes (hs ++ l) (json_tokens a ++ (json_tokens b ++ end)) (json_tokens x ++ (json_tokens y ++ end)))
    (append-nil gs) both) in
    subst (λ l. Becomes l (items_tokens (pair_items a b own)) (items_tokens (pair_items x y items)))
    (append_assoc hs gs ks)
    (both_become (hs ++ gs) ks (Token.begin_array ∷ (json_tokens a ++ (json_tokens b ++ end)))
    (Token.begin_array ∷ (json_tokens x ++ (json_tokens y ++ end))) (items_tokens own) (items_tokens items) one h)

member_becomes : (gs ks : List Json) (s : List ℕ) (b y : Json) (own members : Members)
    → Becomes gs (json_tokens b) (json_tokens y) → Becomes ks (members_tokens own) (members_tokens members)
    → Becomes (gs ++ ks) (members_tokens (json.member s b own)) (members_tokens (json.member s y members))
member_becomes gs ks s b y own members g h =
    key_becomes s (gs ++ ks) (json_tokens b ++ members_tokens own) (json_tokens y ++ members_tokens members)
    (both_become gs ks (json_tokens b) (json_tokens y) (members_tokens own) (members_tokens members) g h)

array_held : (S : ℕ → Json) (how : Takes) (T : Table) (t : TypeId) (vs : Trees) (own : Items)
    → EachHeld S how T (element_type (shape_of T t)) vs own → ValueHeld S how T t (Value.many vs) (json.array own)
array_held S how T t vs own h = record {
  json = json.array h.items;
  says = (h.items, refl, h.say);
  becomes = begin_array_becomes (opened S (nils_of_each T (element_type (shape_of T t)) vs)) (items_tokens own)
      (items_tokens h.items) h.become;
  alike = refl;
}

struct_held : (S : ℕ → Json) (how : Takes) (T : Table) (t : TypeId) (fs : Fields) (own : Members)
    → FieldsHeld S how T (struct_fields (shape_of T t)) fs own → ValueHeld S how T t (Value.fields fs) (json.object own)
struct_held S how T t fs own h = record {
  json = json.object h.members;
  says = (h.members, refl, h.say);
  becomes = begin_object_becomes (opened S (nils_of_fields T (struct_fields (shape_of T t)) fs)) (members_tokens own)
      (members_tokens h.members) h.become;
  alike = refl;
}

-- the entries of a map
pub record MapHeld (S : ℕ → Json) (how : Takes) (T : Table) (k e : TypeId) (ps : Pairs) (named held : Bool)
    (own : Json) : Type 0 where
  pub json : Json
  pub says : IsMapOf named held (λ ms. SayMembersWith (Whole S) how T e ps ms) (λ js. SayPairsWith (Whole S) how T k e
      ps js) json
  pub becomes : Becomes (opened S (if named then nils_of_members T e ps else nils_of_pairs T k e ps)) (json_tokens own)
      (json_tokens json)
  pub alike : own_json json ≡ own_json own

left_true : (a b : Bool) → (a && b) ≡ true → a ≡ true
left_true true b e = refl
left_true false b e = cc

differ_some : (held : Bool) (texts : Option (List (List ℕ))) → (held && differ texts) ≡ true
    → (all : List (List ℕ)) × (texts ≡ Some all)
differ_some held None e = absurd (by held e)
  where
    by : (held : Bool) → (held && false) ≡ true → ⊥
    by true e = cc
    by false e = cc
differ_some held (Some all) e = (all, refl)

entries_held : (S : ℕ → Json) (how : Takes) (T : Table) (k e : TypeId) (ps : Pairs) (held : Bool) (own : Items)
    → (held ≡ true → are_bare ps ≡ true) → PairsHeld S how T k e ps own
    → MapHeld S how T k e ps false held (entries_json held own)
entries_held S how T k e ps held own bare h = by (held && differ (key_texts own)) refl
  where
    choose : Bool → Items → Json
    choose b js = if b then json.object (members_of js) else json.array js

    same : (b : Bool) → (held && differ (key_texts own)) ≡ b → choose b h.items ≡ entries_json held h.items
    same b f = ap (λ c. choose c h.items) (sym f ∙ ap (λ texts. held && differ texts) (sym h.texts))

    by : (b : Bool) → (held && differ (key_texts own)) ≡ b → MapHeld S how T k e ps false held (choose b own)
    by false f = record {
      json = json.array h.items;
      says = (h.items, same false f, h.say);
      becomes = begin_array_becomes (opened S (nils_of_pairs T k e ps)) (items_tokens own) (items_tokens h.items)
          h.become;
      alike = refl;
    }
    by true f =
        let some = differ_some held (key_texts own) f in record {
          json = json.object (members_of h.items);
          says = (h.items, same true f, h.say);
          becomes = begin_object_becomes (opened S (nils_of_pairs T k e ps)) (members_tokens (members_of own))
              (members_tokens (members_of h.items))
              (h.named (bare (left_true held (differ (key_texts own)) f)) some.0 some.1);
          alike = refl;
        }

map_held : (S : ℕ → Json) (how : Takes) (T : Table) (k e : TypeId) (ps : Pairs) (named held : Bool) (own : Json)
    → (held ≡ true → are_bare ps ≡ true)
    → ((ms : Members) → SayMembersWith (Own S) how T e ps ms → MembersHeld S how T e ps ms)
    → ((js : Items) → SayPairsWith (Own S) how T k e ps js → PairsHeld S how T k e ps js)
    → IsMapOf named held (λ ms. SayMembersWith (Own S) how T e ps ms) (λ js. SayPairsWith (Own S) how T k e ps js) own
    → MapHeld S how T k e ps named held own
map_held S how T k e ps true held own bare f g s =
    let h = f s.0 s.2 in
    subst (λ j. MapHeld S how T k e ps true held j) (sym s.1) (record {
      json = json.object h.members;
      says = (h.members, refl, h.say);
      becomes = begin_object_becomes (opened S (nils_of_members T e ps)) (members_tokens s.0) (members_tokens h.members)
          h.become;
      alike = refl;
    })
map_held S how T k e ps false held own bare f g s =
    subst (λ j. MapHeld S how T k e ps false held j) (sym s.1) (entries_held S how T k e ps held s.0 bare (g s.0 s.2))

right_true : (a b : Bool) → (a && b) ≡ true → b ≡ true
right_true true b e = e
right_true false b e = cc

-- one entry before others
entry_held : (S : ℕ → Json) (how : Takes) (T : Table) (k e : TypeId) (x v : Tree) (ps : Pairs) (a b : Json)
    (own : Items)
    → (x ≡ Value.nil → a ≡ own_json (S 0)) → ValueHeld S how T k x a
    → ValueHeld (λ i. S (nils T k x + i)) how T e v b
    → PairsHeld (λ i. S (nils T k x + (nils T e v + i))) how T k e ps own
    → PairsHeld S how T k e (pair x v ps) (pair_items a b own)
entry_held S how T k e x v ps a b own nil key value rest =
    let R : ℕ → Json = λ i. S (nils T k x + i) in
    let hs = opened S (nils T k x) in
    let gs = opened R (nils T e v) in
    let ks = opened (λ i. R (nils T e v + i)) (nils_of_pairs T k e ps) in
    let all : hs ++ (gs ++ ks) ≡ opened S (nils T k x + (nils T e v + nils_of_pairs T k e ps)) =
    ap (λ l. hs ++ l) (sym (opened_both R (nils T e v) (nils_of_pairs T k e ps)))
    ∙ sym (opened_both S (nils T k x) (nils T e v + nils_of_pairs T k e ps)) in
    let text : said_text key.json ≡ said_text a = text_alike key.json a key.alike in
    record {
      items = pair_items key.json value.json rest.items;
      say = ((key.json, value.json, refl, key.says, value.says), rest.say);
      become = subst (λ l. Becomes l (items_tokens (pair_items a b own)) (items_tokens (pair_items key.json value.json
          rest.items))) all
          (pair_becomes hs gs ks a b key.json value.json own rest.items key.becomes value.becomes rest.become);
      texts = ap (λ o. text_before o (key_texts rest.items)) text ∙ ap (λ o. text_before (said_text a) o) rest.texts;
      named = λ bare texts f.
          let some = some_before (said_text a) (key_texts own) texts f in
          let is = nil (is_nil_true x (left_true (is_nil x) (not (has_parts v) && are_bare ps) bare)) in
          let none : hs ≡ [] =
          no_nils x (is_nil_true x (left_true (is_nil x) (not (has_parts v) && are_bare ps) bare))
          (text_not_held (S 0) some.0 (ap said_text (sym is) ∙ some.1)) in
          subst (λ l. Becomes l (members_tokens (members_of (pair_items a b own)))
          (members_tokens (members_of (pair_items key.json value.json rest.items)))) all
          (subst (λ l. Becomes (l ++ (gs ++ ks)) (members_tokens (members_of (pair_items a b own)))
          (members_tokens (members_of (pair_items key.json value.json rest.items)))) (sym none)
          (subst (λ o. Becomes (gs ++ ks) (members_tokens (members_of (pair_items a b own)))
          (members_tokens (json.member (unwrap_or o []) value.json (members_of rest.items)))) (sym text)
          (member_becomes gs ks (unwrap_or (said_text a) []) b value.json (members_of own) (members_of rest.items)
          value.becomes
          (rest.named (right_true (not (has_parts v)) (are_bare ps)
          (right_true (is_nil x) (not (has_parts v) && are_bare ps) bare)) some.2 some.3))));
    }
  where
    is_nil_true : (x : Tree) → is_nil x ≡ true → x ≡ Value.nil
    is_nil_true Value.nil e = refl
    is_nil_true (Value.bool b) e = cc
    is_nil_true (Value.int i) e = cc
    is_nil_true (Value.uint n) e = cc
    is_nil_true (Value.float p) e = cc
    is_nil_true (Value.complex p q) e = cc
    is_nil_true (Value.bytes b) e = cc
    is_nil_true (Value.text b) e = cc
    is_nil_true (Value.opaque b) e = cc
    is_nil_true (Value.many vs) e = cc
    is_nil_true (Value.pairs ps) e = cc
    is_nil_true (Value.fields fs) e = cc

    no_nils : (x : Tree) → x ≡ Value.nil → held_json (S 0) ≡ [] → opened S (nils T k x) ≡ []
    no_nils x e f = subst (λ x. opened S (nils T k x) ≡ []) (sym e) (ap (λ l. l ++ []) f)

mutual
  pub value_held : (S : ℕ → Json) (how : Takes) (T : Table) (t : TypeId) (v : Tree) (own : Json)
      → SaysWith (Own S) how T t v own → ValueHeld S how T t v own
  value_held S how T t (Value.bool x) own s =
      line_held S how T t (Value.bool x) own (outline (value_json T t (Value.bool x))) refl s s refl
  value_held S how T t (Value.int i) own s =
      line_held S how T t (Value.int i) own (outline (integer_json i)) refl s s (number_line i)
  value_held S how T t (Value.uint n) own s =
      line_held S how T t (Value.uint n) own (outline (value_json T t (Value.uint n))) refl s s refl
  value_held S how T t (Value.float p) own s = leaf_held S how T t (Value.float p) own refl s (pattern_full p own s)
  value_held S how T t (Value.complex p q) own s =
      leaf_held S how T t (Value.complex p q) own refl s (complex_full p q own s)
  value_held S how T t (Value.bytes b) own s = leaf_held S how T t (Value.bytes b) own refl s (text_full s)
  value_held S how T t (Value.text b) own s =
      line_held S how T t (Value.text b) own (outline (text_json b)) refl s s (name_full b)
  value_held S how T t (Value.opaque b) own s =
      leaf_held S how T t (Value.opaque b) own refl s (content_full (how t (shape_of T t)) b own s)
  value_held S how T t Value.nil own s = record {
    json = S 0;
    says = refl;
    becomes = subst (λ j. Becomes (held_json (S 0) ++ []) (json_tokens j) (json_tokens (S 0))) (sym s)
        (nil_becomes (S 0));
    alike = own_twice (S 0) ∙ ap own_json (sym s);
  }
  value_held S how T t (Value.many vs) own s =
      subst (λ j. ValueHeld S how T t (Value.many vs) j) (sym s.1)
      (array_held S how T t vs s.0 (each_held S how T (element_type (shape_of T t)) vs s.0 s.2))
  value_held S how T t (Value.pairs ps) own s =
      let k = key_type (shape_of T t) in
      let e = element_type (shape_of T t) in
      let h = map_held S how T k e ps (are_named k ps) (may_be_named k ps) own
      (λ f. right_true (k.0 == 8) (are_bare ps) f) (λ ms p. members_held S how T e ps ms p)
      (λ js p. pairs_held S how T k e ps js p) s in
      record { json = h.json; says = h.says; becomes = h.becomes; alike = h.alike }
  value_held S how T t (Value.fields fs) own s =
      subst (λ j. ValueHeld S how T t (Value.fields fs) j) (sym s.1)
      (struct_held S how T t fs s.0 (fields_held S how T (struct_fields (shape_of T t)) fs s.0 s.2))

  each_held : (S : ℕ → Json) (how : Takes) (T : Table) (e : TypeId) (vs : Trees) (own : Items)
      → SayEachWith (Own S) how T e vs own → EachHeld S how T e vs own
  each_held S how T e no_tree json.no_items s = record { items = json.no_items; say = tt; become = end_array_becomes }
  each_held S how T e no_tree (json.item j js) s = absurd s
  each_held S how T e (tree v vs) json.no_items s = absurd s
  each_held S how T e (tree v vs) (json.item j js) s =
      let one = value_held S how T e v j s.0 in
      let R : ℕ → Json = λ i. S (nils T e v + i) in
      let rest = each_held R how T e vs js s.1 in record {
        items = json.item one.json rest.items;
        say = (one.says, rest.say);
        become = parted S (nils T e v) (nils_of_each T e vs) (json_tokens j ++ items_tokens js)
            (json_tokens one.json ++ items_tokens rest.items)
            (both_become (opened S (nils T e v)) (opened R (nils_of_each T e vs)) (json_tokens j) (json_tokens one.json)
            (items_tokens js) (items_tokens rest.items) one.becomes rest.become);
      }

  members_held : (S : ℕ → Json) (how : Takes) (T : Table) (e : TypeId) (ps : Pairs) (own : Members)
      → SayMembersWith (Own S) how T e ps own → MembersHeld S how T e ps own
  members_held S how T e no_pair json.no_members s = record {
    members = json.no_members;
    say = tt;
    become = end_object_becomes;
  }
  members_held S how T e no_pair (json.member name j ms) s = absurd s
  members_held S how T e (pair x v ps) json.no_members s = absurd s
  members_held S how T e (pair x v ps) (json.member name j ms) s =
      let one = value_held S how T e v j s.1 in
      let R : ℕ → Json = λ i. S (nils T e v + i) in
      let rest = members_held R how T e ps ms s.2 in record {
        members = json.member name one.json rest.members;
        say = (s.0, one.says, rest.say);
        become = parted S (nils T e v) (nils_of_members T e ps) (members_tokens (json.member name j ms))
            (members_tokens (json.member name one.json rest.members))
            (member_becomes (opened S (nils T e v)) (opened R (nils_of_members T e ps)) name j one.json ms rest.members
            one.becomes rest.become);
      }

  pairs_held : (S : ℕ → Json) (how : Takes) (T : Table) (k e : TypeId) (ps : Pairs) (own : Items)
      → SayPairsWith (Own S) how T k e ps own → PairsHeld S how T k e ps own
  pairs_held S how T k e no_pair json.no_items s = record {
    items = json.no_items;
    say = tt;
    become = end_array_becomes;
    texts = refl;
    named = λ bare all f. end_object_becomes;
  }
  pairs_held S how T k e no_pair (json.item j js) s = absurd s
  pairs_held S how T k e (pair x v ps) json.no_items s = absurd s
  pairs_held S how T k e (pair x v ps) (json.item j js) s =
      let key = value_held S how T k x s.0.0 s.0.3 in
      let R : ℕ → Json = λ i. S (nils T k x + i) in
      let value = value_held R how T e v s.0.1 s.0.4 in
      let rest = pairs_held (λ i. R (nils T e v + i)) how T k e ps js s.1 in
      subst (λ i. PairsHeld S how T k e (pair x v ps) (json.item i js)) (sym s.0.2)
      (entry_held S how T k e x v ps s.0.0 s.0.1 js
      (λ f. subst (λ x. SaysWith (Own S) how T k x s.0.0) f s.0.3) key value rest)

  fields_held : (S : ℕ → Json) (how : Takes) (T : Table) (types : List Field) (fs : Fields) (own : Members)
      → SayFieldsWith (Own S) how T types fs own → FieldsHeld S how T types fs own
  fields_held S how T types no_field json.no_members s = record {
    members = json.no_members;
    say = tt;
    become = end_object_becomes;
  }
  fields_held S how T types no_field (json.member name j ms) s = absurd s
  fields_held S how T types (field f v fs) json.no_members s = absurd s
  fields_held S how T types (field f v fs) (json.member name j ms) s =
      let t = field_type (slice_get types f) in
      let one = value_held S how T t v j s.1 in
      let R : ℕ → Json = λ i. S (nils T t v + i) in
      let rest = fields_held R how T types fs ms s.2 in record {
        members = json.member name one.json rest.members;
        say = (s.0, one.says, rest.say);
        become = parted S (nils T t v) (nils_of_fields T types fs) (members_tokens (json.member name j ms))
            (members_tokens (json.member name one.json rest.members))
            (member_becomes (opened S (nils T t v)) (opened R (nils_of_fields T types fs)) name j one.json ms
            rest.members
            one.becomes rest.become);
      }

-- an array of [key,element]
pub listed_held : (S : ℕ → Json) (how : Takes) (T : Table) (k e : TypeId) (ps : Pairs) (own : Json)
    → IsArrayOf (λ js. SayPairsWith (Own S) how T k e ps js) own → MapHeld S how T k e ps false false own
listed_held S how T k e ps own s =
    subst (λ j. MapHeld S how T k e ps false false j) (sym s.1)
    (entries_held S how T k e ps false s.0 (λ f. absurd (by f)) (pairs_held S how T k e ps s.0 s.2))
  where
    by : false ≡ true → ⊥
    by f = cc

-- ---- with all that is held

abbrev nulls : ℕ → List Json
nulls zero = []
nulls (suc m) = json.null ∷ nulls m

pub none_stay : (ts : List Token) → with_held [] ts ≡ ts
none_stay [] = refl
none_stay (t ∷ ts) = by t ∙ ap (λ (l : List Token). t ∷ l) (none_stay ts)
  where
    by : (t : Token) → token_held t [] ++ with_held (left_held t []) ts ≡ t ∷ with_held [] ts
    by Token.null = refl
    by Token.begin_object = refl
    by Token.end_object = refl
    by Token.begin_array = refl
    by Token.end_array = refl
    by (Token.key s) = refl
    by (Token.string s) = refl
    by (Token.number s) = refl
    by (Token.boolean b) = refl
    by Token.bad = refl

nulls_stay : (hs : List Json) (m : ℕ) (ts : List Token) → with_held (hs ++ nulls m) ts ≡ with_held hs ts
nulls_stay hs m [] = refl
nulls_stay [] zero (Token.null ∷ ts) = refl
nulls_stay [] (suc m) (Token.null ∷ ts) = ap (λ (l : List Token). Token.null ∷ l) (nulls_stay [] m ts)
nulls_stay (h ∷ hs) m (Token.null ∷ ts) = ap (λ (l : List Token). json_tokens h ++ l) (nulls_stay hs m ts)
nulls_stay hs m (Token.begin_object ∷ ts) = ap (λ (l : List Token). Token.begin_object ∷ l) (nulls_stay hs m ts)
nulls_stay hs m (Token.end_object ∷ ts) = ap (λ (l : List Token). Token.end_object ∷ l) (nulls_stay hs m ts)
nulls_stay hs m (Token.begin_array ∷ ts) = ap (λ (l : List Token). Token.begin_array ∷ l) (nulls_stay hs m ts)
nulls_stay hs m (Token.end_array ∷ ts) = ap (λ (l : List Token). Token.end_array ∷ l) (nulls_stay hs m ts)
nulls_stay hs m (Token.key s ∷ ts) = ap (λ (l : List Token). Token.key s ∷ l) (nulls_stay hs m ts)
nulls_stay hs m (Token.string s ∷ ts) = ap (λ (l : List Token). Token.string s ∷ l) (nulls_stay hs m ts)
nulls_stay hs m (Token.number s ∷ ts) = ap (λ (l : List Token). Token.number s ∷ l) (nulls_stay hs m ts)
nulls_stay hs m (Token.boolean b ∷ ts) = ap (λ (l : List Token). Token.boolean b ∷ l) (nulls_stay hs m ts)
nulls_stay hs m (Token.bad ∷ ts) = ap (λ (l : List Token). Token.bad ∷ l) (nulls_stay hs m ts)

-- what is said, and null behind the last
abbrev pub said_at : List Json → ℕ → Json
said_at said k = get_or said k json.null

none_said : (k : ℕ) → said_at [] (suc k) ≡ said_at [] k
none_said zero = refl
none_said (suc k) = refl

enough : (said : List Json) (n : ℕ)
    → (more : List Json) × (m : ℕ) × (opened (said_at said) n ++ more ≡ all_held said ++ nulls m)
enough said zero = (all_held said, 0, sym (append-nil (all_held said)))
enough [] (suc n) =
    let r = enough [] n in (
      r.0,
      suc r.1,
      ap (λ l. json.null ∷ (l ++ r.0)) (opened_same (λ k. said_at [] (suc k)) (said_at []) n none_said)
          ∙ ap (λ l. json.null ∷ l) r.2,
    )
enough (j ∷ said) (suc n) =
    let r = enough said n in (
      r.0,
      r.1,
      append_assoc (held_json j) (opened (said_at said) n) r.0 ∙ ap (λ l. held_json j ++ l) r.2
          ∙ sym (append_assoc (held_json j) (all_held said) (nulls r.1)),
    )

pub all_become : (said : List Json) (n : ℕ) (ts us : List Token) → Becomes (opened (said_at said) n) ts us
    → with_held (all_held said) ts ≡ us
all_become said n ts us f =
    let r = enough said n in
    sym (nulls_stay (all_held said) r.1 ts) ∙ ap (λ l. with_held l ts) (sym r.2)
    ∙ ap (λ (l : List Token). with_held (opened (said_at said) n ++ r.0) l) (sym (append-nil ts)) ∙ f r.0 []
    ∙ append-nil us
