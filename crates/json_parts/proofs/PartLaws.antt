-- The parts of JSON in its tokens: where one begins, what is written of it, and which are left.
use Rattle.std.proofs.Common.{◌≡◌, ◌∙◌, ℕ, List, [], ◌∷◌, ◌++◌, ap, append_assoc, refl, subst, sym}
use Rattle.std.proofs.Common.{Result, codes}
use Rattle.std.specs.Prelude.{OnOk, MatchBool, ⊤}
use Rattle.std.proofs.lemmas.Result.{on_ok_weaker}
use Rattle.json.specs.Json.{Json, Items}
use Rattle.json.specs.Json as json
use Rattle.json.specs.Token.{Token}
use Rattle.json.specs.Tree.{json_tokens, items_tokens, members_tokens}
use Rattle.json_parts.specs.Copying.{EndsParts, IsEnd, parts_ended, text_ended}
use Rattle.json_parts.specs.Parts.{HasLeft, elements, elements_left, named, opens, pair_json}
use Rattle.json_parts.specs.Parts.{pairs, pairs_left, parts_of}
use Rattle.json_parts.specs.declared.parts.Form.{Form}
use Rattle.json_parts.specs.declared.parts.Form.TheVariants as form

-- ---- where a value begins

abbrev Begins : List Token → Type 0
Begins [] = ⊥
Begins (t ∷ ts) = ¬ IsEnd t

value_begins : (j : Json) (rest : List Token) → Begins (json_tokens j ++ rest)
value_begins json.null rest = λ x. x
value_begins (json.boolean b) rest = λ x. x
value_begins (json.number s) rest = λ x. x
value_begins (json.string s) rest = λ x. x
value_begins (json.array js) rest = λ x. x
value_begins (json.object ms) rest = λ x. x

-- no value is next where the parts end
pub no_value : {old new : List Token} (j : Json) (rest : List Token) → EndsParts old new
    → old ≡ json_tokens j ++ rest → ⊥
no_value j rest (text_ended e f) h = subst Begins (sym h ∙ e) (value_begins j rest)
no_value j rest (parts_ended t i e) h = subst Begins (sym h ∙ e) (value_begins j rest) i

-- the tokens are behind a bracket that closes
abbrev IsBehindEnd : List Token → List Token → Type 0
IsBehindEnd new [] = ⊥
IsBehindEnd new (t ∷ ts) = new ≡ ts

abbrev NotEmpty : List Token → Type 0
NotEmpty [] = ⊥
NotEmpty (t ∷ ts) = ⊤

pub behind_end : {old new : List Token} (t : Token) (rest : List Token) → EndsParts old new → old ≡ t ∷ rest
    → new ≡ rest
behind_end t rest (text_ended e f) h = absurd (subst NotEmpty (sym h ∙ e) tt)
behind_end {new = new} t rest (parts_ended u i e) h = subst (IsBehindEnd new) (sym e ∙ h) refl

-- a token with which no part begins isn't the first of one
pub no_end : {t u : Token} {ts rest : List Token} → ¬ IsEnd t → IsEnd u → t ∷ ts ≡ u ∷ rest → ⊥
no_end {t = t} n i e = subst (λ l. Begins l) e n i

-- ---- one behind another

then : (a xs ys : List Token) {b c : List Token} → b ≡ a ++ xs → c ≡ b ++ ys → c ≡ a ++ (xs ++ ys)
then a xs ys e f = f ∙ ap (λ (l : List Token). l ++ ys) e ∙ append_assoc a xs ys

-- ---- items under names

-- of the items these are left, and what is written is that of the others
pub record AreNamed (name : List ℕ) (now out rest all : List Token) : Type 0 where
  pub left : Items
  pub read : now ≡ items_tokens left ++ rest
  pub written : out ++ members_tokens (named name left) ≡ all

pub named_on : {name : List ℕ} {t : Token} {now mid new out keyed next rest all : List Token}
    → AreNamed name now out rest all → now ≡ t ∷ mid → ¬ IsEnd t → keyed ≡ out ++ Token.key name ∷ []
    → ((j : Json) (rest : List Token) → t ∷ mid ≡ json_tokens j ++ rest
    → (next ≡ keyed ++ json_tokens j) × (new ≡ rest))
    → AreNamed (codes "value") new next rest all
named_on {name = name} {t = t} {now = now} {mid = mid} {new = new} {out = out} {keyed = keyed} {next = next}
    {rest = rest} {all = all} a first begins key copied = by a.left a.read a.written
  where
    by : (left : Items) → now ≡ items_tokens left ++ rest → out ++ members_tokens (named name left) ≡ all
        → AreNamed (codes "value") new next rest all
    by json.no_items r w = absurd (no_end {u = Token.end_array} begins tt (sym first ∙ r))
    by (json.item j more) r w =
        let c = copied j (items_tokens more ++ rest)
        (sym first ∙ r ∙ append_assoc (json_tokens j) (items_tokens more) rest) in
        let tail = members_tokens (named (codes "value") more) in
        record {
          left = more;
          read = c.1;
          written = ap (λ (l : List Token). l ++ tail) (then out (Token.key name ∷ []) (json_tokens j) key c.0)
              ∙ append_assoc out (Token.key name ∷ json_tokens j) tail ∙ w;
        }

pub named_end : {name : List ℕ} {now new out next rest all : List Token}
    → AreNamed name now out rest all → EndsParts now new → next ≡ out ++ Token.end_object ∷ []
    → (next ≡ all) × (new ≡ rest)
named_end {name = name} {now = now} {new = new} {out = out} {next = next} {rest = rest} {all = all} a ends closed =
    by a.left a.read a.written
  where
    by : (left : Items) → now ≡ items_tokens left ++ rest → out ++ members_tokens (named name left) ≡ all
        → (next ≡ all) × (new ≡ rest)
    by json.no_items r w = (closed ∙ w, behind_end Token.end_array rest ends r)
    by (json.item j more) r w = absurd
        (no_value j (items_tokens more ++ rest) ends (r ∙ append_assoc (json_tokens j) (items_tokens more) rest))

-- ---- a part and those behind it

-- the first of the parts is written, and the others are left
abbrev pub IsPartOf : Form → (out written new : List Token) → List Json → Type 0
IsPartOf f out written new left = (part : Json) × (more : List Json) × (left ≡ part ∷ more)
    × (written ≡ out ++ json_tokens part) × HasLeft f new more

pub element_written : {E : Type 0} (r : Result (Unit {0}) E) {t : Token} {ts : List Token}
    (out written new : List Token) {left : List Json} → ¬ IsEnd t
    → ((j : Json) (rest : List Token) → t ∷ ts ≡ json_tokens j ++ rest
    → OnOk r ((written ≡ out ++ json_tokens j) × (new ≡ rest)))
    → HasLeft form.Elements (t ∷ ts) left → OnOk r (IsPartOf form.Elements out written new left)
element_written r out written new begins copied (elements_left json.no_items e l) =
    absurd (no_end {u = Token.end_array} begins tt e)
element_written r out written new begins copied (elements_left (json.item j more) e l) =
    on_ok_weaker r (λ w. (j, elements more, l, w.0, elements_left more w.1 refl)) (copied j (items_tokens more) e)

pub pair_written : {E : Type 0} (r : Result (Unit {0}) E) {t : Token} {ts : List Token}
    (out written new : List Token) {left : List Json} → ¬ IsEnd t
    → ((j : Json) (rest : List Token) → t ∷ ts ≡ json_tokens j ++ rest
    → OnOk r ((written ≡ out ++ json_tokens (pair_json j)) × (new ≡ rest)))
    → HasLeft form.Pairs (t ∷ ts) left → OnOk r (IsPartOf form.Pairs out written new left)
pair_written r out written new begins item (pairs_left json.no_items e l) =
    absurd (no_end {u = Token.end_array} begins tt e)
pair_written r out written new begins item (pairs_left (json.item j more) e l) =
    on_ok_weaker r (λ w. (pair_json j, pairs more, l, w.0, pairs_left more w.1 refl)) (item j (items_tokens more) e)

-- where the tokens end no part is left
pub none_left : {f : Form} {old new : List Token} {left : List Json} → EndsParts old new → HasLeft f old left
    → left ≡ []
none_left ends (elements_left json.no_items e l) = l
none_left ends (elements_left (json.item j more) e l) = absurd (no_value j (items_tokens more) ends e)
none_left ends (pairs_left json.no_items e l) = l
none_left ends (pairs_left (json.item j more) e l) = absurd (no_value j (items_tokens more) ends e)

-- ---- where the parts begin

abbrev pub AreOpened : Form → List Token → Json → Type 0
AreOpened f [] j = ⊥
AreOpened f (t ∷ ts) j = MatchBool (opens t) (HasLeft f ts (parts_of f j)) (parts_of f j ≡ j ∷ [])

opened : (f : Form) (j : Json) → AreOpened f (json_tokens j) j
opened form.Elements json.null = refl
opened form.Elements (json.boolean b) = refl
opened form.Elements (json.number s) = refl
opened form.Elements (json.string s) = refl
opened form.Elements (json.array js) = elements_left js refl refl
opened form.Elements (json.object ms) = refl
opened form.Pairs json.null = refl
opened form.Pairs (json.boolean b) = refl
opened form.Pairs (json.number s) = refl
opened form.Pairs (json.string s) = refl
opened form.Pairs (json.array js) = pairs_left js refl refl
opened form.Pairs (json.object ms) = refl

pub opened_by : (f : Form) (j : Json) {t : Token} {ts : List Token} → json_tokens j ≡ t ∷ ts
    → MatchBool (opens t) (HasLeft f ts (parts_of f j)) (parts_of f j ≡ j ∷ [])
opened_by f j e = subst (λ (l : List Token). AreOpened f l j) e (opened f j)
