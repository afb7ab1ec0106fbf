-- What is put into a line is the text of tokens.
use Rattle.std.proofs.Common.{◌≡◌, ℕ, zero, suc, ℤ, pos, negsuc, ◌+◌, ◌<◌, ◌≤◌, ◌^◌, List, [], ◌∷◌, ◌++◌, Bool, true}
use Rattle.std.proofs.Common.{false}
use Rattle.std.proofs.Common.{refl, sym, ap, ◌∙◌, subst, append_assoc, append-nil, Result, Ok, Err, arith, length}
use Rattle.std.proofs.Common.{true≢false, ◌⊎◌, inl, inr, get_or, take}
use Rattle.std.proofs.Common.{length-append}
use Rattle.std.specs.Prelude.{⊤, codes, fold, OnOk, if◌then◌else◌}
use Rattle.std.specs.Bool.{MatchBool}
use Rattle.std.specs.Fmt.{signed_decimal}
use Rattle.std.specs.Str.{IsUtf8, is_utf8}
use Rattle.std.proofs.Math.Seq.{get_or-append_seam, take-append_seam}
use Rattle.std.proofs.lemmas.Str.{IsUtf8-from_is_utf8, is_utf8-from_IsUtf8}
use Rattle.std.proofs.lemmas.List.{append_cancel_right, append_cancel_left}
use Rattle.std.proofs.lemmas.List.Sums.{fold-append}
use lib.Signed.{mag}
use Rattle.std.proofs.lemmas.Result.{on_ok_weaker}
use Rattle.json.specs.Json.{Json, Items, Members}
use Rattle.json.specs.Json as json
use Rattle.json.specs.Lex.{tokens}
use Rattle.json.specs.Print.{ArePrintable, ArePrintableOrBad, IsPrintable, begins, ends, print, print_from, quoted}
use Rattle.json.specs.Print.{token_text}
use Rattle.json.specs.Token.{Token}
use Rattle.json.specs.Tree.{json_tokens, items_tokens, members_tokens}
use Rattle.json.specs.Written.{Written}
use Rattle.json.proofs.Numbered.{ArePrintableOrBad-tokens}
use Rattle.json.proofs.Printed.Tokens.{tokens-print}
use Rattle.json.proofs.Printed.Decimals.{IsNumber-decimal, IsNumber-signed_decimal}
use Rattle.serde_json.specs.Data.{Data}
use Rattle.serde_json.specs.Data as serde
use Rattle.serde_json.specs.Written.{comma_if, compact_text, members_text, outline}
use Rattle.serde_json.proofs.Texts.{print-outline}
use Rattle.gob_json.specs.Json.{hex_json, integer_json, natural_json, text_json}
use Rattle.gob_types.specs.Table.{Table}
use Rattle.gob_types.specs.declared.kind.Field.{Field}
use Rattle.gob_value.specs.Tree.{no_field}
use Rattle.gob_plain.specs.AbsentFields.{AbsentTokens}
use Rattle.gob_plain.specs.OpaqueText.{content_in}
use Rattle.gob_plain.specs.declared.line.Line.{Line}
use Rattle.gob_plain.specs.declared.style.Style.{Style}
use Rattle.gob_plain.specs.WritesPlain.{AreTokensOf, WritesSome}
use Rattle.gob_plain.specs.PutsTokens.{IsPut, PutSome, ends_behind, put_both}
use Rattle.gob_plain.specs.Plain.{name_text}
use Rattle.gob_plain.proofs.NameLaws.{utf8_name}
use Rattle.gob_plain.proofs.GoodTokens.{AreGood, json_good, members_good}

-- ---- one token

-- one that begins a value or a member, behind the comma that is due
begun_text : (later : Bool) (t : Token) → begins t ≡ true → print_from later (t ∷ []) ≡ comma_if later ++ token_text t
unfolding print_from
begun_text true t b = rw b (ap (λ l. 44 ∷ l) (append-nil (token_text t)))
begun_text false t b = append-nil (token_text t)

closing_text : (later : Bool) (t : Token) → begins t ≡ false → print_from later (t ∷ []) ≡ token_text t
unfolding print_from
closing_text true t b = rw b (append-nil (token_text t))
closing_text false t b = append-nil (token_text t)

one_printable : (t : Token) → IsPrintable t → ArePrintable (t ∷ [])
unfolding ArePrintable
one_printable t p = (p, tt)

pub token_put : {old new : Line} (t : Token) → begins t ≡ true → IsPrintable t
    → new.text.items ≡ old.text.items ++ (comma_if old.later ++ token_text t) → new.later ≡ ends t
    → IsPut old new (t ∷ [])
token_put {old = old} t b p text later = record {
  printable = one_printable t p;
  text = text ∙ ap (λ l. old.text.items ++ l) (sym (begun_text old.later t b));
  later = later;
}

pub closing_put : {old new : Line} (t : Token) → begins t ≡ false → IsPrintable t
    → new.text.items ≡ old.text.items ++ token_text t → new.later ≡ ends t → IsPut old new (t ∷ [])
closing_put {old = old} t b p text later = record {
  printable = one_printable t p;
  text = text ∙ ap (λ l. old.text.items ++ l) (sym (closing_text old.later t b));
  later = later;
}

-- ---- JSON

pub behind_comma : (later : Bool) (j : Json) → print_from later (json_tokens j) ≡ comma_if later ++ print
    (json_tokens j)
unfolding print_from
behind_comma false j = refl
behind_comma true json.null = refl
behind_comma true (json.boolean b) = refl
behind_comma true (json.number s) = refl
behind_comma true (json.string s) = refl
behind_comma true (json.array js) = refl
behind_comma true (json.object ms) = refl

mutual
  json_ends : (later : Bool) (j : Json) → ends_behind later (json_tokens j) ≡ true
  json_ends later json.null = refl
  json_ends later (json.boolean b) = refl
  json_ends later (json.number s) = refl
  json_ends later (json.string s) = refl
  json_ends later (json.array js) = items_end false js
  json_ends later (json.object ms) = members_end false ms

  pub items_end : (later : Bool) (js : Items) → ends_behind later (items_tokens js) ≡ true
  items_end later json.no_items = refl
  items_end later (json.item j js) =
      fold-append (λ _ t. ends t) later (json_tokens j) (items_tokens js) ∙ items_end _ js

  members_end : (later : Bool) (ms : Members) → ends_behind later (members_tokens ms) ≡ true
  members_end later json.no_members = refl
  members_end later (json.member name j ms) =
      fold-append (λ _ t. ends t) false (json_tokens j) (members_tokens ms) ∙ members_end _ ms

pub json_put : {old new : Line} (j : Json) → ArePrintable (json_tokens j)
    → new.text.items ≡ old.text.items ++ (comma_if old.later ++ print (json_tokens j)) → new.later ≡ true
    → IsPut old new (json_tokens j)
json_put {old = old} j p text later = record {
  printable = p;
  text = text ∙ ap (λ l. old.text.items ++ l) (sym (behind_comma old.later j));
  later = later ∙ sym (json_ends old.later j);
}

pub data_put : {old new : Line} (d : Data) → ArePrintable (json_tokens (outline d))
    → new.text.items ≡ old.text.items ++ (comma_if old.later ++ compact_text d) → new.later ≡ true
    → IsPut old new (json_tokens (outline d))
data_put {old = old} d p text later = json_put (outline d) p
    (text ∙ ap (λ l. old.text.items ++ (comma_if old.later ++ l)) (sym (print-outline d))) later

pub natural_printable : (n : ℕ) → n < 2 ^ 64 → ArePrintable (json_tokens (outline (natural_json n)))
unfolding ArePrintable
natural_printable n small = (IsNumber-decimal n small, tt)

pub integer_printable : (i : ℤ) → mag i < 2 ^ 63 → ArePrintable (json_tokens (outline (integer_json i)))
unfolding ArePrintable
integer_printable (pos n) small = (IsNumber-decimal n (omega (arith, small)), tt)
integer_printable (negsuc n) small = (IsNumber-signed_decimal (negsuc n) small, tt)

pub text_printable : (b : List ℕ) → ArePrintable (json_tokens (outline (text_json b)))
unfolding ArePrintable
text_printable b = by (is_utf8 b) refl
  where
    by : (u : Bool) → is_utf8 b ≡ u → ArePrintable (json_tokens (outline (text_json b)))
    by true e = rw e (tt, tt)
    by false e = rw e (tt, (tt, (tt, (tt, tt))))

-- behind the comma
pub after_comma : (old comma text : List ℕ) {mid new : List ℕ} → mid ≡ old ++ comma → new ≡ mid ++ text
    → new ≡ old ++ (comma ++ text)
after_comma old comma text e f =
    f ∙ ap (λ l. l ++ text) e ∙ append_assoc old comma text

-- ---- what a writer wrote

-- where no token is bad
good_printable : (ts : List Token) → AreGood ts → ArePrintableOrBad ts → ArePrintable ts
unfolding ArePrintable
good_printable [] g p = tt
good_printable (Token.begin_object ∷ ts) g p = (tt, good_printable ts g.1 p.1)
good_printable (Token.end_object ∷ ts) g p = (tt, good_printable ts g.1 p.1)
good_printable (Token.begin_array ∷ ts) g p = (tt, good_printable ts g.1 p.1)
good_printable (Token.end_array ∷ ts) g p = (tt, good_printable ts g.1 p.1)
good_printable (Token.key s ∷ ts) g p = (tt, good_printable ts g.1 p.1)
good_printable (Token.string s ∷ ts) g p = (tt, good_printable ts g.1 p.1)
good_printable (Token.number s ∷ ts) g p = (p.0, good_printable ts g.1 p.1)
good_printable (Token.boolean b ∷ ts) g p = (tt, good_printable ts g.1 p.1)
good_printable (Token.null ∷ ts) g p = (tt, good_printable ts g.1 p.1)
good_printable (Token.bad ∷ ts) g p = absurd g.0

-- tokens that are read in their text can be printed, where none is bad
pub read_printable : (ts : List Token) → AreGood ts → tokens (print ts) ≡ ts → ArePrintable ts
read_printable ts g e = good_printable ts g (subst ArePrintableOrBad e (ArePrintableOrBad-tokens (print ts)))

-- what a writer wrote of a value, to which the text was lent with the comma that was due
pub lent_put : {E : Type 0} {u : Unit {0}} {P : Json → Type 0} {old new : Line} {lent back : Written}
    → lent.before ≡ old.text.items ++ comma_if old.later → lent.tokens ≡ []
    → WritesSome {E = E} (Ok u) lent back (AreTokensOf P) → new.text.items ≡ back.before ++ print back.tokens
    → tokens (print back.tokens) ≡ back.tokens → new.later ≡ true
    → PutSome old new (AreTokensOf P)
lent_put {old = old} {lent = lent} {back = back} before none w text read later =
    let ts = w.tokens.0 in
    let j = w.tokens.1.0 in
    let all = w.tokens.2 ∙ ap (λ (l : List Token). l ++ ts) none ∙ w.tokens.1.2 in
    record {
      tokens = json_tokens j;
      says = (j, w.tokens.1.1, refl);
      put = json_put j
          (read_printable (json_tokens j) (json_good j) (subst (λ l. tokens (print l) ≡ l) all read))
          (text ∙ ap (λ (l : List ℕ). l ++ print back.tokens) (w.before ∙ before)
          ∙ append_assoc old.text.items (comma_if old.later) (print back.tokens)
          ∙ ap (λ (l : List Token). old.text.items ++ (comma_if old.later ++ print l)) all) later;
    }

-- a line that stayed as it was
pub same_put : {old new : Line} → new.text.items ≡ old.text.items → new.later ≡ old.later → IsPut old new []
unfolding ArePrintable print_from
same_put {old = old} e f = record { printable = tt; text = e ∙ sym (append-nil old.text.items); later = f }

-- ---- members that stand before others

-- their tokens, without the bracket
abbrev members_front : Members → List Token
members_front json.no_members = []
members_front (json.member name j ms) = Token.key name ∷ (json_tokens j ++ members_front ms)

front_is : (ms : Members) → members_tokens ms ≡ members_front ms ++ Token.end_object ∷ []
front_is json.no_members = refl
front_is (json.member name j ms) = ap (λ l. Token.key name ∷ l)
    (ap (λ l. json_tokens j ++ l) (front_is ms) ∙ sym (append_assoc (json_tokens j) (members_front ms) _))

front_ends : (ms : Members) → ends_behind true (members_front ms) ≡ true
front_ends json.no_members = refl
front_ends (json.member name j ms) = fold-append (λ _ t. ends t) false (json_tokens j) (members_front ms)
    ∙ ap (λ b. ends_behind b (members_front ms)) (json_ends false j) ∙ front_ends ms

good_front : (xs ys : List Token) → AreGood (xs ++ ys) → AreGood xs
good_front [] ys g = tt
good_front (x ∷ xs) ys g = (g.0, good_front xs ys g.1)

-- absent fields have members, or nothing
absent_front : (style : Style) {T : Table} {types : List Field} (from to : ℕ) (zs : List Token)
    → AbsentTokens style T types from to zs → (ms : Members) × (zs ≡ members_front ms) × AreGood zs
absent_front style from to zs p =
    let all = p (content_in style) no_field json.no_members tt in
    let e = append_cancel_right zs (members_front all.0) (Token.end_object ∷ []) (all.2 ∙ front_is all.0) in
    (all.0, e, good_front zs (Token.end_object ∷ []) (subst AreGood (sym all.2) (members_good all.0)))

put_front : {old new : Line} {back : List ℕ} (ms : Members) → ArePrintable (members_front ms)
    → back ≡ old.text.items ++ comma_if old.later → (length (back ++ print (members_front ms)) ≡ length back → ⊥)
    → new.text.items ≡ back ++ print (members_front ms) → new.later ≡ true → IsPut old new (members_front ms)
unfolding print_from
put_front {back = back} json.no_members p before some text later = absurd (some (ap length (append-nil back)))
put_front {old = old} {back = back} (json.member name j ms) p before some text later = record {
  printable = p;
  text = text ∙ ap (λ l. l ++ print (members_front (json.member name j ms))) before
      ∙ append_assoc old.text.items (comma_if old.later) (print (members_front (json.member name j ms)))
      ∙ ap (λ l. old.text.items ++ l) (sym (behind old.later));
  later = later ∙ sym (front_ends (json.member name j ms));
}
  where
    behind : (b : Bool) → print_from b (members_front (json.member name j ms))
        ≡ comma_if b ++ print (members_front (json.member name j ms))
    behind true = refl
    behind false = refl

no_front : (back : List ℕ) (ms : Members) → length (back ++ print (members_front ms)) ≡ length back
    → members_front ms ≡ []
unfolding print_from
no_front back json.no_members e = refl
no_front back (json.member name j ms) e =
    absurd (omega (arith, e, length-append back (print (members_front (json.member name j ms)))))

all_back : {E : Type 0} {u : Unit {0}} {P : List Token → Type 0} {lent back : Written} → lent.tokens ≡ []
    → (w : WritesSome {E = E} (Ok u) lent back P) → back.tokens ≡ w.tokens.0
all_back none w = w.tokens.2 ∙ ap (λ (l : List Token). l ++ w.tokens.0) none

-- what a writer wrote of absent fields is read in its text
module _ {E : Type 0} {u : Unit {0}} (style : Style) {T : Table} {types : List Field} (from to : ℕ)
    {old : Line} {lent back : Written} (before : lent.before ≡ old.text.items ++ comma_if old.later)
    (none : lent.tokens ≡ [])
    (w : WritesSome {E = E} (Ok u) lent back (AbsentTokens style T types from to)) where
  -- members stay
  pub absent_put : {new : Line} → new.text.items ≡ back.before ++ print back.tokens
      → tokens (print back.tokens) ≡ back.tokens → new.later ≡ true
      → (length new.text.items ≡ length lent.before → ⊥) → PutSome old new (AbsentTokens style T types from to)
  absent_put text read later some =
      let f = absent_front style from to w.tokens.0 w.tokens.1 in
      let same = all_back none w ∙ f.1 in
      let whole = text ∙ ap (λ (l : List ℕ). l ++ print back.tokens) w.before
      ∙ ap (λ (l : List Token). lent.before ++ print l) same in
      record {
        tokens = w.tokens.0;
        says = w.tokens.1;
        put = subst (λ l. IsPut old _ l) (sym f.1) (put_front f.0
            (subst ArePrintable f.1 (read_printable w.tokens.0 f.2 (subst (λ l. tokens (print l) ≡ l)
            (all_back none w) read)))
            before (λ e. some (ap length whole ∙ e)) whole later);
      }

  -- nothing was written, and the comma is taken away
  pub absent_none : (mid : Line) {new : Line} → mid.text.items ≡ back.before ++ print back.tokens
      → length mid.text.items ≡ length lent.before → new.text.items ≡ take (length old.text.items) mid.text.items
      → new.later ≡ old.later → PutSome old new (AbsentTokens style T types from to)
  absent_none mid text same cut later =
      let f = absent_front style from to w.tokens.0 w.tokens.1 in
      let whole = text ∙ ap (λ (l : List ℕ). l ++ print back.tokens) w.before
      ∙ ap (λ (l : List Token). lent.before ++ print l) (all_back none w ∙ f.1) in
      let gone = f.1 ∙ no_front lent.before f.0 (sym (ap length whole) ∙ same) in
      record {
        tokens = [];
        says = subst (AbsentTokens style T types from to) gone w.tokens.1;
        put = same_put (cut ∙ ap (λ (l : List ℕ). take (length old.text.items) l) (whole
            ∙ ap (λ (l : List ℕ). l ++ print (members_front f.0)) before
            ∙ append_assoc old.text.items (comma_if old.later) (print (members_front f.0)))
            ∙ take-append_seam old.text.items (comma_if old.later ++ print (members_front f.0))) later;
      }

-- ---- the name of a member

-- a text begins by a quote where it is UTF-8, else by a bracket
text_begins : (b : List ℕ) → (is_utf8 b ≡ true) × (compact_text (text_json b) ≡ quoted b)
    ⊎ (is_utf8 b ≡ false) × ((more : List ℕ) × (compact_text (text_json b) ≡ 123 ∷ more))
text_begins b = by (is_utf8 b) refl
  where
    by : (u : Bool) → is_utf8 b ≡ u → (is_utf8 b ≡ true) × (compact_text (text_json b) ≡ quoted b)
        ⊎ (is_utf8 b ≡ false) × ((more : List ℕ) × (compact_text (text_json b) ≡ 123 ∷ more))
    by true e = inl (e, rw e refl)
    by false e = inr (e, (members_text false (serde.member (codes "hex") (hex_json b) serde.no_members), rw e refl))

-- the byte at which a text was put behind others
byte_there : (mid : List ℕ) {whole text more : List ℕ} {x : ℕ} (d : ℕ) → whole ≡ mid ++ text → text ≡ x ∷ more
    → get_or whole (length mid) d ≡ x
byte_there mid {more = more} {x = x} d e f =
    ap (λ l. get_or l (length mid) d) (e ∙ ap (λ t. mid ++ t) f) ∙ get_or-append_seam mid x more d

-- a text was put behind the comma, and behind it a colon, or nothing of it stays
pub record NameAt (old : Line) (b mid whole : List ℕ) : Type 0 where
  pub comma : mid ≡ old.text.items ++ comma_if old.later
  pub text : whole ≡ mid ++ compact_text (text_json b)

pub name_put : {old new : Line} {b mid whole : List ℕ} (d : ℕ) → NameAt old b mid whole
    → (get_or whole (length mid) d ≡ 123 → ⊥) → new.text.items ≡ whole ++ 58 ∷ [] → new.later ≡ false
    → IsUtf8 b × IsPut old new (Token.key b ∷ [])
name_put {old = old} {new = new} {b = b} {mid = mid} {whole = whole} d at other text later = by (text_begins b)
  where
    by : (is_utf8 b ≡ true) × (compact_text (text_json b) ≡ quoted b)
        ⊎ (is_utf8 b ≡ false) × ((more : List ℕ) × (compact_text (text_json b) ≡ 123 ∷ more))
        → IsUtf8 b × IsPut old new (Token.key b ∷ [])
    by (inl h) = (
      IsUtf8-from_is_utf8 b h.0,
      token_put (Token.key b) refl tt
          (text ∙ ap (λ l. l ++ 58 ∷ []) (at.text ∙ ap (λ l. l ++ compact_text (text_json b)) at.comma
          ∙ ap (λ l. (old.text.items ++ comma_if old.later) ++ l) h.1)
          ∙ append_assoc (old.text.items ++ comma_if old.later) (quoted b) (58 ∷ [])
          ∙ append_assoc old.text.items (comma_if old.later) (quoted b ++ 58 ∷ [])) later,
    )
    by (inr h) = absurd (other (byte_there mid d at.text h.1.1))

pub name_gone : {old new : Line} {b mid whole : List ℕ} (d : ℕ) → NameAt old b mid whole
    → get_or whole (length mid) d ≡ 123 → new.text.items ≡ take (length old.text.items) whole → new.later ≡ old.later
    → (¬ IsUtf8 b) × IsPut old new []
name_gone {old = old} {new = new} {b = b} {mid = mid} {whole = whole} d at is text later = by (text_begins b)
  where
    by : (is_utf8 b ≡ true) × (compact_text (text_json b) ≡ quoted b)
        ⊎ (is_utf8 b ≡ false) × ((more : List ℕ) × (compact_text (text_json b) ≡ 123 ∷ more))
        → (¬ IsUtf8 b) × IsPut old new []
    by (inl h) = let e = sym (byte_there mid d at.text h.1) ∙ is in absurd (omega (arith, e))
    by (inr h) = (
      λ u. true≢false (sym (is_utf8-from_IsUtf8 b u) ∙ h.0),
      same_put (text ∙ ap (λ l. take (length old.text.items) l) (at.text
          ∙ ap (λ l. l ++ compact_text (text_json b)) at.comma
          ∙ append_assoc old.text.items (comma_if old.later) (compact_text (text_json b)))
          ∙ take-append_seam old.text.items (comma_if old.later ++ compact_text (text_json b))) later,
    )

-- a name that was put is its own text
pub chosen_name : {old new : Line} (b : List ℕ) {put : Bool} → put ≡ true
    → MatchBool put (IsUtf8 b × IsPut old new (Token.key b ∷ [])) ((¬ IsUtf8 b) × IsPut old new [])
    → IsPut old new (Token.key (name_text b) ∷ [])
chosen_name {old = old} {new = new} b {put = true} is h =
    subst (λ t. IsPut old new (Token.key t ∷ [])) (sym (utf8_name b h.0)) h.1
chosen_name b {put = false} is h = absurd (true≢false (sym is))

pub other_name : {old new : Line} {b : List ℕ} {put : Bool} → put ≡ false
    → MatchBool put (IsUtf8 b × IsPut old new (Token.key b ∷ [])) ((¬ IsUtf8 b) × IsPut old new [])
    → (¬ IsUtf8 b) × IsPut old new []
other_name {put = true} is h = absurd (true≢false is)
other_name {put = false} is h = h

pub known_utf8 : (old new : Line) (b : List ℕ) {put : Bool} → put ≡ true
    → MatchBool put (IsUtf8 b × IsPut old new (Token.key b ∷ [])) ((¬ IsUtf8 b) × IsPut old new [])
    → is_utf8 b ≡ true
known_utf8 old new b {put = true} is h = is_utf8-from_IsUtf8 b h.0
known_utf8 old new b {put = false} is h = absurd (true≢false (sym is))

-- that of a text was put
pub text_name : {old new : Line} {b : List ℕ} (put : Bool) → IsUtf8 b
    → MatchBool put (IsUtf8 b × IsPut old new (Token.key b ∷ [])) ((¬ IsUtf8 b) × IsPut old new [])
    → IsPut old new (Token.key b ∷ [])
text_name true u h = h.1
text_name false u h = absurd (h.0 u)

-- ---- what is said of what is put

pub put_of : {old new : Line} {ts : List Token} {P : List Token → Type 0} → P ts → IsPut old new ts → PutSome old new P
put_of {ts = ts} p put = record { tokens = ts; says = p; put = put }

pub put_weaker : {old new : Line} {P Q : List Token → Type 0} → ((ts : List Token) → P ts → Q ts) → PutSome old new P
    → PutSome old new Q
put_weaker f w = record { tokens = w.tokens; says = f w.tokens w.says; put = w.put }

-- tokens are put behind those of which this holds
pub put_last : {old mid new : Line} {xs : List Token} {P R : List Token → Type 0} → PutSome old mid P
    → ((zs : List Token) → P zs → R (zs ++ xs)) → IsPut mid new xs → PutSome old new R
put_last {xs = xs} v f p = record { tokens = v.tokens ++ xs; says = f v.tokens v.says; put = put_both v.put p }

-- ---- a whole line

-- the text of a line that was empty
pub line_text : {old new : Line} {ts : List Token} → old.text.items ≡ [] → old.later ≡ false → IsPut old new ts
    → new.text.items ≡ print ts
line_text {old = old} {ts = ts} none first p =
    p.text ∙ ap (λ l. l ++ print_from old.later ts) none ∙ ap (λ b. print_from b ts) first

-- the tokens that are read there
pub line_read : {old new : Line} {ts us : List Token} {text : List ℕ} → text ≡ print us → ts ≡ us → IsPut old new ts
    → tokens text ≡ us
line_read {us = us} e same p = ap tokens e ∙ tokens-print us (subst ArePrintable same p.printable)
