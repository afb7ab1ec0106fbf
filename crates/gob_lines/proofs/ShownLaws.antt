-- The text of JSON has its tokens, and a line feed behind it is no token: what is shown is said.
use Rattle.std.proofs.Common.{◌≡◌, ℕ, ℤ, pos, negsuc, ◌<◌, ◌^◌, Bool, true, false, cond, ◌&&◌, List, []}
use Rattle.std.proofs.Common.{◌∷◌, ◌++◌}
use Rattle.std.proofs.Common.{length, Some, refl, sym, ap, ap₂, subst, ◌∙◌, arith, append_assoc, append-nil, inl, inr}
use Rattle.std.proofs.Common.{suc}
use Rattle.std.specs.Prelude.{slice_get}
use Rattle.std.specs.Str.{is_utf8}
use Rattle.std.proofs.lemmas.Int.{ints}
use Rattle.json.specs.Token.{Token, begin_object, end_object, begin_array, end_array, key, string, number, boolean}
use Rattle.json.specs.Token.{null}
use Rattle.json.specs.Token.{bad}
use Rattle.json.specs.Word.{ends_word, word}
use Rattle.json.specs.Lex.{token, comma, colon, string_token, lex, between, fresh, punctuate, tokens}
use Rattle.json.specs.Print.{escape, quoted, token_text, begins, ends, print_from, IsPrintable, ArePrintable}
use Rattle.json.specs.Tree.{json_tokens, HasNumbers, ItemsHaveNumbers, MembersHaveNumbers}
use Rattle.json.proofs.Printed.Decimals.{IsNumber-decimal, IsNumber-signed_decimal}
use Rattle.json.proofs.Printed.Numbers.{lex-number, in_word-ended}
use Rattle.json.proofs.Printed.Strings.{content-escape, lex-escape}
use Rattle.json.proofs.Printed.Tokens.{tokens-print}
use Rattle.json.proofs.Printed.Trees.{ArePrintable-json_tokens}
use Rattle.serde_json.specs.Data.{Data}
use Rattle.serde_json.specs.Written.{outline, items_outline, members_outline, compact_text}
use Rattle.serde_json.proofs.Texts.{print-outline}
use Rattle.gob_num.specs.Signed.{IsSigned}
use Rattle.gob_num.proofs.PublicLaws.{unsigned_fits, signed_fits}
use Rattle.gob_types.specs.declared.id.TypeId.{TypeId}
use Rattle.gob_types.specs.declared.kind.Field.{Field}
use Rattle.gob_types.specs.declared.kind.Kind.{Kind}
use Rattle.gob_types.specs.declared.kind.Kind.TheVariants as kind
use Rattle.gob_types.specs.declared.kind.Shape.{Shape}
use Rattle.gob_types.specs.Definable.{HasLength, IsDefinable, IsReference}
use Rattle.gob_types.specs.Ready.{HasFieldOf, Names}
use Rattle.gob_types.specs.Table.{Table}
use Rattle.gob_value.specs.Spelling.{Spells, of_type, SpellsAs, of_bool, of_int, of_uint, of_float, of_complex}
use Rattle.gob_value.specs.Spelling.{of_nil, of_bytes, of_text, of_opaque, of_slice, of_array, of_map, of_struct}
use Rattle.gob_value.specs.Spelling.{SpellsEach, no_element, element, SpellsPairs, no_entry, entry, SpellsFields}
use Rattle.gob_value.specs.Spelling.{end_of_fields, next_field}
use Rattle.gob_value.specs.Tree.{Tree, Trees, Pairs, Fields}
use Rattle.gob_json.specs.Json.{value_json, elements_json, pairs_json, fields_json, put_json, integer_json}
use Rattle.gob_json.specs.Json.{field_name, field_type, id_json}
use Rattle.gob_json.specs.DefinitionJson.{definition_json, field_types_json, shape_members}
use Rattle.gob_lines.specs.Laws.{FewFields, HaveFewFields}
use Rattle.gob_lines.specs.Definition.{AreFieldsJson, IsDefinitionJson, Part, SaysParts, fields_array, no_field}
use Rattle.gob_lines.specs.Definition.{no_more, no_part, one_field, one_more, shape_parts}
use Rattle.gob_lines.specs.Numbers.{ReadsSome, natural_number}
use Rattle.gob_lines.specs.Reads.{Reads}
use Rattle.gob_lines.specs.declared.definition_parts.KindName.TheVariants as named
use Rattle.gob_lines.proofs.UniqueLaws.{kind_json, of_kind, text_as, number_small}

-- ---- a line feed behind the text of tokens

abbrev lf : List ℕ
lf = 10 ∷ []

quoted_lexed : (s r : List ℕ) → lex between (quoted s ++ r) ≡ token (string s) ∷ lex between r
unfolding lex
quoted_lexed s r =
    ap (λ l. lex between (34 ∷ l)) (append_assoc (escape s) (34 ∷ []) r)
    ∙ ap₂ (λ o l. token (string_token o) ∷ l) (content-escape s r) (lex-escape s r)

key_lexed : (s r : List ℕ) → lex between (token_text (key s) ++ r) ≡ token (string s) ∷ lex between (58 ∷ r)
key_lexed s r = ap (lex between) (append_assoc (quoted s) (58 ∷ []) r) ∙ quoted_lexed s (58 ∷ r)

colon_lexed : (r t : List ℕ) → lex between r ≡ lex between t → lex between (58 ∷ r) ≡ lex between (58 ∷ t)
unfolding lex
colon_lexed r t e = ap (λ l. colon ∷ l) e

-- the lexemes of a token's text and what stands behind it are told by those of what stands behind it
token_lexed : (t : Token) (r s : List ℕ) → IsPrintable t → (ends t ≡ true → ends_word r ≡ true)
    → (ends t ≡ true → ends_word s ≡ true) → lex between r ≡ lex between s
    → lex between (token_text t ++ r) ≡ lex between (token_text t ++ s)
unfolding lex word
token_lexed begin_object r s h p q e = ap (λ l. token begin_object ∷ l) e
token_lexed end_object r s h p q e = ap (λ l. token end_object ∷ l) e
token_lexed begin_array r s h p q e = ap (λ l. token begin_array ∷ l) e
token_lexed end_array r s h p q e = ap (λ l. token end_array ∷ l) e
token_lexed (key k) r s h p q e =
    key_lexed k r ∙ ap (λ l. token (string k) ∷ l) (colon_lexed r s e) ∙ sym (key_lexed k s)
token_lexed (string k) r s h p q e =
    quoted_lexed k r ∙ ap (λ l. token (string k) ∷ l) e ∙ sym (quoted_lexed k s)
token_lexed (number k) r s h p q e =
    lex-number k r h (p refl) ∙ ap (λ l. token (number k) ∷ l) e ∙ sym (lex-number k s h (q refl))
token_lexed (boolean true) r s h p q e =
    ap₂ (λ b l. token (cond b (boolean true) bad) ∷ l) (p refl ∙ sym (q refl))
    (in_word-ended r (p refl) ∙ e ∙ sym (in_word-ended s (q refl)))
token_lexed (boolean false) r s h p q e =
    ap₂ (λ b l. token (cond b (boolean false) bad) ∷ l) (p refl ∙ sym (q refl))
    (in_word-ended r (p refl) ∙ e ∙ sym (in_word-ended s (q refl)))
token_lexed null r s h p q e =
    ap₂ (λ b l. token (cond b null bad) ∷ l) (p refl ∙ sym (q refl))
    (in_word-ended r (p refl) ∙ e ∙ sym (in_word-ended s (q refl)))
token_lexed bad r s h p q e = absurd h

-- after a value stands a comma, a closing bracket or the end, or the line feed
value_ends : (ts : List Token) → ends_word (print_from true ts) ≡ true
unfolding print_from
value_ends [] = refl
value_ends (begin_object ∷ ts) = refl
value_ends (end_object ∷ ts) = refl
value_ends (begin_array ∷ ts) = refl
value_ends (end_array ∷ ts) = refl
value_ends (key s ∷ ts) = refl
value_ends (string s ∷ ts) = refl
value_ends (number s ∷ ts) = refl
value_ends (boolean b ∷ ts) = refl
value_ends (null ∷ ts) = refl
value_ends (bad ∷ ts) = refl

line_ends : (ts : List Token) → ends_word (print_from true ts ++ lf) ≡ true
unfolding print_from
line_ends [] = refl
line_ends (begin_object ∷ ts) = refl
line_ends (end_object ∷ ts) = refl
line_ends (begin_array ∷ ts) = refl
line_ends (end_array ∷ ts) = refl
line_ends (key s ∷ ts) = refl
line_ends (string s ∷ ts) = refl
line_ends (number s ∷ ts) = refl
line_ends (boolean b ∷ ts) = refl
line_ends (null ∷ ts) = refl
line_ends (bad ∷ ts) = refl

separated : (b : Bool) (r s : List ℕ) → lex between r ≡ lex between s
    → lex between (cond b (44 ∷ []) [] ++ r) ≡ lex between (cond b (44 ∷ []) [] ++ s)
unfolding lex
separated true r s e = ap (λ l. comma ∷ l) e
separated false r s e = e

line_lexed : (c : Bool) (ts : List Token) → ArePrintable ts
    → lex between (print_from c ts ++ lf) ≡ lex between (print_from c ts)
unfolding lex print_from ArePrintable
line_lexed c [] h = refl
line_lexed c (t ∷ ts) h =
    let more = print_from (ends t) ts in
    ap (lex between) (append_assoc (cond (c && begins t) (44 ∷ []) []) (token_text t ++ more) lf)
    ∙ separated (c && begins t) ((token_text t ++ more) ++ lf) (token_text t ++ more)
    (ap (lex between) (append_assoc (token_text t) more lf)
    ∙ token_lexed t (more ++ lf) more h.0 (λ e. ap (λ b. ends_word (print_from b ts ++ lf)) e ∙ line_ends ts)
    (λ e. ap (λ b. ends_word (print_from b ts)) e ∙ value_ends ts) (line_lexed (ends t) ts h.1))

-- the tokens of a line are those of the JSON in it
pub line_tokens : (d : Data) → HasNumbers (outline d) → tokens (compact_text d ++ lf) ≡ json_tokens (outline d)
line_tokens d h =
    let ts = json_tokens (outline d) in
    let printable = ArePrintable-json_tokens (outline d) h in
    ap (λ (l : List ℕ). tokens (l ++ lf)) (sym (print-outline d))
    ∙ ap (punctuate fresh) (line_lexed false ts printable) ∙ tokens-print ts printable

-- ---- the numbers of values

text_numbers : (b : Bool) (s : List ℕ) → HasNumbers (outline (text_as b s))
text_numbers true s = tt
text_numbers false s = (tt, tt)

integer_numbers : (i : ℤ) {b : List ℕ} → IsSigned i b
    → HasNumbers (outline (integer_json i))
integer_numbers (pos n) p = let f = signed_fits p in IsNumber-decimal n (omega (arith, ints))
integer_numbers (negsuc n) p = let f = signed_fits p in IsNumber-signed_decimal (negsuc n) (omega (arith, ints))

mutual
  pub value_numbers : {T : Table} {t : TypeId} {v : Tree} {b : List ℕ} → HaveFewFields T → Spells T t v b
      → HasNumbers (outline (value_json T t v))
  value_numbers {T = T} {t = t} {v = v} few (of_type {s = k} e p) =
      subst (λ (d : Data). HasNumbers (outline d)) (sym (of_kind T t k v e)) (kind_numbers few (few t k e) p)

  kind_numbers : {T : Table} {k : Kind} {v : Tree} {b : List ℕ} → HaveFewFields T → FewFields k → SpellsAs T k v b
      → HasNumbers (outline (kind_json T k v))
  kind_numbers few here (of_bool p) = tt
  kind_numbers few here (of_int {i = i} p) = integer_numbers i p
  kind_numbers few here (of_uint {n = n} p) = IsNumber-decimal n (unsigned_fits p)
  kind_numbers few here (of_float p) = tt
  kind_numbers few here (of_complex p q) = (tt, (tt, tt))
  kind_numbers few here (of_nil p) = tt
  kind_numbers few here (of_bytes p) = tt
  kind_numbers few here (of_text {s = s} p) = text_numbers (is_utf8 s) s
  kind_numbers few here (of_opaque p) = (tt, tt)
  kind_numbers few here (of_slice p ps) = each_numbers few ps
  kind_numbers few here (of_array m p ps) = each_numbers few ps
  kind_numbers few here (of_map p ps) = pairs_numbers few ps
  kind_numbers few here (of_struct ps) = fields_numbers few here ps

  each_numbers : {T : Table} {e : TypeId} {vs : Trees} {b : List ℕ} → HaveFewFields T → SpellsEach T e vs b
      → ItemsHaveNumbers (items_outline (elements_json T e vs))
  each_numbers few no_element = tt
  each_numbers few (element p ps) = (value_numbers few p, each_numbers few ps)

  pairs_numbers : {T : Table} {k e : TypeId} {ps : Pairs} {b : List ℕ} → HaveFewFields T → SpellsPairs T k e ps b
      → ItemsHaveNumbers (items_outline (pairs_json T k e ps))
  pairs_numbers few no_entry = tt
  pairs_numbers few (entry p q ps) = ((value_numbers few p, (value_numbers few q, tt)), pairs_numbers few ps)

  fields_numbers : {T : Table} {types : List Field} {next : ℕ} {fs : Fields} {b : List ℕ} → HaveFewFields T
      → length types < 2 ^ 64 → SpellsFields T types next fs b
      → ItemsHaveNumbers (items_outline (fields_json T types fs))
  fields_numbers few here (end_of_fields p) = tt
  fields_numbers {T = T} {types = types} few here (next_field {f = f} {e = e} {v = v} l i p r rs) =
      let name = field_name (slice_get types f) in (
        (
          IsNumber-decimal f (number_small types f e here i),
          (
            text_numbers (is_utf8 name) name,
            (
              subst (λ o. HasNumbers (outline (value_json T (field_type o) v))) (sym i) (value_numbers few r),
              tt,
            ),
          ),
        ),
        fields_numbers few here rs,
      )

-- the line that shows a value says it
pub value_shown : {T : Table} {t : TypeId} {v : Tree} {b : List ℕ} → HaveFewFields T → t.0 < 2 ^ 64 → Spells T t v b
    → Reads (put_json T t v) (tokens (compact_text (put_json T t v) ++ lf)) []
value_shown {T = T} {t = t} {v = v} few small p =
    line_tokens (put_json T t v) (IsNumber-decimal t.0 small, (value_numbers few p, tt))
    ∙ sym (append-nil (json_tokens (outline (put_json T t v))))

-- ---- the numbers of definitions

type_numbers : (fs : List Field) → ((u : TypeId) → HasFieldOf fs u → IsReference u)
    → ItemsHaveNumbers (items_outline (field_types_json fs))
type_numbers [] names = tt
type_numbers (f ∷ fs) names =
    let r = names f.id (record { number = 0; field = f; there = refl; type = refl }) in (
      (text_numbers (is_utf8 f.name) f.name, (IsNumber-decimal f.id.0 (omega (arith, r.1)), tt)),
      type_numbers fs (λ u n. names u
          (record { number = suc n.number; field = n.field; there = n.there; type = n.type })),
    )

member_numbers : (k : Kind) (name : List ℕ) → HasLength k → ((u : TypeId) → Names k u → IsReference u)
    → MembersHaveNumbers (members_outline (shape_members k name))
member_numbers (kind.Basic b) name length names = tt
member_numbers (kind.Array e n) name length names =
    let r = names e refl in (
      IsNumber-decimal e.0 (omega (arith, r.1)),
      (tt, (IsNumber-decimal n (omega (arith, length)), (text_numbers (is_utf8 name) name, tt))),
    )
member_numbers (kind.Slice e) name length names =
    let r = names e refl in
    (IsNumber-decimal e.0 (omega (arith, r.1)), (tt, (text_numbers (is_utf8 name) name, tt)))
member_numbers (kind.Struct fs) name length names =
    (type_numbers fs names, (tt, (text_numbers (is_utf8 name) name, tt)))
member_numbers (kind.Map k e) name length names =
    let r = names k (inl refl) in
    let q = names e (inr refl) in (
      IsNumber-decimal e.0 (omega (arith, q.1)),
      (IsNumber-decimal k.0 (omega (arith, r.1)), (tt, (text_numbers (is_utf8 name) name, tt))),
    )
member_numbers (kind.Opaque m) name length names = (tt, (text_numbers (is_utf8 name) name, tt))

-- the members that are shown say the shape
fields_shown : (fs : List Field) → AreFieldsJson fs (field_types_json fs)
fields_shown [] = no_field
fields_shown (f ∷ fs) = one_field natural_number (fields_shown fs)

members_shown : (k : Kind) (name : List ℕ) → SaysParts no_part (shape_members k name) (shape_parts k name)
members_shown (kind.Basic b) name = no_more
members_shown (kind.Array e n) name =
    one_more (Part.elem e) refl natural_number
    (one_more (Part.kind_name named.Array) refl refl
    (one_more (Part.len n) refl natural_number (one_more (Part.name name) refl refl no_more)))
members_shown (kind.Slice e) name =
    one_more (Part.elem e) refl natural_number
    (one_more (Part.kind_name named.Slice) refl refl (one_more (Part.name name) refl refl no_more))
members_shown (kind.Struct fs) name =
    one_more (Part.fields fs) refl (fields_array (fields_shown fs))
    (one_more (Part.kind_name named.Struct) refl refl (one_more (Part.name name) refl refl no_more))
members_shown (kind.Map k e) name =
    one_more (Part.elem e) refl natural_number
    (one_more (Part.key k) refl natural_number
    (one_more (Part.kind_name named.Map) refl refl (one_more (Part.name name) refl refl no_more)))
members_shown (kind.Opaque m) name =
    one_more (Part.kind_name (named.Opaque m)) refl refl (one_more (Part.name name) refl refl no_more)

-- the line that shows a definition says its shape
pub shape_shown : (id : TypeId) (s : Shape) → IsDefinable s → id.0 < 2 ^ 64
    → ReadsSome (IsDefinitionJson id s) (tokens (compact_text (definition_json id (Some s)) ++ lf)) []
shape_shown id s d small = record {
  json = definition_json id (Some s);
  is = record {
    number = id_json id;
    members = shape_members s.kind s.name;
    numbered = natural_number;
    says = members_shown s.kind s.name;
    is = refl;
  };
  reads = line_tokens (definition_json id (Some s))
      (IsNumber-decimal id.0 small, member_numbers s.kind s.name d.length d.references)
      ∙ sym (append-nil (json_tokens (outline (definition_json id (Some s)))));
}
