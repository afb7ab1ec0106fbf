-- What the nils of a value say, as it is parted.
use Rattle.std.proofs.Common.{◌≡◌, ◌∙◌, ℕ, zero, suc, List, [], ◌∷◌, ◌++◌, true, false, Option, Some, None, ap}
use Rattle.std.proofs.Common.{arith, get_or, refl, subst, sym, ◌+◌}
use Rattle.std.specs.Prelude.{slice_get, string_bytes, ⊤}
use Rattle.std.specs.Borrow.{Bor}
use Rattle.json.specs.Json.{Json, value}
use Rattle.json.specs.Json as json
use Rattle.json.specs.Lex.{tokens}
use Rattle.json.specs.Token.{Token}
use Rattle.json.specs.Tree.{depth, json_tokens}
use Rattle.json.proofs.Printed.Trees.{value-json_tokens}
use Rattle.gob_types.proofs.PublicLaws.{some_injective}
use Rattle.gob_plain.specs.declared.fillers.Filler.{Filler}
use Rattle.gob_plain.specs.declared.go.level.HeldText.{HeldText}
use Rattle.gob_plain.specs.declared.go.level.OwnText.{OwnText}
use Rattle.gob_plain.specs.Fillers.{AreFillers, FillerSays, HasJson, SaysFiller, SaysMaybeNamed}
use Rattle.gob_plain.specs.Machine.Levels.{HeldSay, LevelSays, level_of, level_says, name_of, named_json, none_held}
use Rattle.gob_plain.specs.Machine.Levels.{nothing_held, text_of, then_held}
use Rattle.gob_plain.specs.Machine.Nulls.{all_held, held_json, own_json}
use Rattle.gob_plain.specs.Machine.Parting.{AreParted, IsNoText, IsParted, is_text, none_parted}
use Rattle.gob_plain.specs.Machine.Parting.{nothing_parted, text_parted, then_parted, value_parted}

-- ---- texts

-- JSON is known by its tokens
pub json_one : (j k : Json) → json_tokens j ≡ json_tokens k → j ≡ k
json_one j k e =
    ap (λ (p : Json × List Token). p.0)
    (some_injective (sym (value-json_tokens j (depth j + depth k) [] (omega arith))
    ∙ ap (λ (ts : List Token). value (depth j + depth k) (ts ++ [])) e
    ∙ value-json_tokens k (depth j + depth k) [] (omega arith)))

is_string : (j : Json) → is_text j ≡ true → (s : List ℕ) × (j ≡ json.string s)
is_string json.null e = cc
is_string (json.boolean b) e = cc
is_string (json.number s) e = cc
is_string (json.string s) e = (s, refl)
is_string (json.array js) e = cc
is_string (json.object ms) e = cc

own_string : (j : Json) (s : List ℕ) → own_json j ≡ json.string s → j ≡ json.string s
own_string json.null s e = cc
own_string (json.boolean b) s e = cc
own_string (json.number t) s e = cc
own_string (json.string t) s e = e
own_string (json.array js) s e = cc
own_string (json.object ms) s e = cc

no_string : (j : Json) → is_text j ≡ false → own_json j ≡ json.null
no_string json.null e = refl
no_string (json.boolean b) e = refl
no_string (json.number s) e = refl
no_string (json.string s) e = cc
no_string (json.array js) e = refl
no_string (json.object ms) e = refl

null_held : (j : Json) → own_json j ≡ json.null → held_json j ≡ j ∷ []
null_held json.null e = refl
null_held (json.boolean b) e = refl
null_held (json.number s) e = refl
null_held (json.string s) e = cc
null_held (json.array js) e = refl
null_held (json.object ms) e = refl

-- a text is what it says with what its nulls stand for
text_said : {level : OwnText} {i : Json} → LevelSays level i
    → ((own : Json) → tokens (text_of level) ≡ json_tokens own → is_text own ≡ true)
    → (s : List ℕ) × (i ≡ json.string s) × (tokens (text_of level) ≡ json_tokens i)
text_said {level = level} {i = i} (level_says own said e h w alike) text =
    let s = is_string own (text own e) in
    let same : i ≡ json.string s.0 = own_string i s.0 (alike ∙ ap own_json s.1) in
    (s.0, same, e ∙ ap json_tokens (s.1 ∙ sym same))

value_said : {i : Json} (held : HeldText) → LevelSays (level_of held) i → IsNoText held
    → own_json (named_json (name_of held) i) ≡ json.null
value_said {i = i} held (level_says own said e h w alike) none = by (name_of held) refl
  where
    by : (o : Option (Bor (List ℕ))) → name_of held ≡ o → own_json (named_json o i) ≡ json.null
    by None f = alike ∙ no_string own (none f own e)
    by (Some name) f = refl

-- ---- nil by nil

abbrev pub EachSays : List (Option Filler) → List Json → Type 0
EachSays texts said = (k : ℕ) (j : Json) → FillerSays (slice_get texts k) j → j ≡ own_json (get_or said k json.null)

-- what the nils say: in the own text of their value, and by what its nulls stand for
pub record PartedSay (texts : List (Option Filler)) (held : List (Option HeldText)) : Type 0 where
  pub said : List Json
  pub each : EachSays texts said
  pub nulls : HeldSay held (all_held said)

pub none_each : EachSays [] []
none_each zero j p = p
none_each (suc k) j p = p

pub one_each : (text : Option Filler) (i : Json) (texts : List (Option Filler)) (said : List Json)
    → ((j : Json) → FillerSays (Some text) j → j ≡ own_json i) → EachSays texts said
    → EachSays (text ∷ texts) (i ∷ said)
one_each text i texts said first rest zero j p = first j p
one_each text i texts said first rest (suc k) j p = rest k j p

abbrev pub none_say : PartedSay [] []
none_say = record { said = []; each = none_each; nulls = none_held }

abbrev pub nothing_says : {texts : List (Option Filler)} {held : List (Option HeldText)} → PartedSay texts held
    → PartedSay (None ∷ texts) ((None ∷ []) ++ held)
nothing_says {texts = texts} p = record {
  said = json.null ∷ p.said;
  each = one_each None json.null texts p.said (λ j q. q) p.each;
  nulls = nothing_held p.nulls;
}

bare_said : (f : Filler) (i j : Json) → f.name ≡ None → tokens (string_bytes f.text) ≡ json_tokens i → SaysFiller f j
    → j ≡ i
bare_said f i j n e p =
    let read : tokens (string_bytes f.text) ≡ json_tokens j =
    subst
    (λ (o : Option (Bor (List ℕ))). SaysMaybeNamed (λ (b : Bor (List ℕ)). b.now) o
    (λ i. tokens (string_bytes f.text) ≡ json_tokens i) j) n p in
    json_one j i (sym read ∙ e)

pub held_says : {one : HeldText} {text : Option Filler} {own held : List (Option HeldText)}
    {texts : List (Option Filler)}
    → IsParted (Some one) text own → (i : Json) → LevelSays (level_of one) i → (p : PartedSay texts held)
    → (all : PartedSay (text ∷ texts) (own ++ held)) × (all.said ≡ named_json (name_of one) i ∷ p.said)
held_says {one = one} {held = held} {texts = texts} (text_parted {f = f} text bare same) i h p =
    let s = text_said h text.text in
    let named : named_json (name_of one) i ≡ i = ap (λ (o : Option (Bor (List ℕ))). named_json o i) text.bare in
    let read : tokens (string_bytes f.text) ≡ json_tokens i = ap tokens same ∙ s.2 in (
      record {
        said = named_json (name_of one) i ∷ p.said;
        each = one_each (Some f) (named_json (name_of one) i) texts p.said
            (λ j q. bare_said f i j bare read q ∙ s.1 ∙ ap own_json (sym s.1) ∙ ap own_json (sym named)) p.each;
        nulls = subst (λ j. HeldSay held (held_json j ++ all_held p.said)) (sym (named ∙ s.1)) p.nulls;
      },
      refl,
    )
held_says {one = one} {held = held} {texts = texts} (value_parted none) i h p =
    let null = value_said one h none in (
      record {
        said = named_json (name_of one) i ∷ p.said;
        each = one_each None (named_json (name_of one) i) texts p.said (λ j q. q ∙ sym null) p.each;
        nulls = subst (λ l. HeldSay (Some one ∷ held) (l ++ all_held p.said))
            (sym (null_held (named_json (name_of one) i) null)) (then_held h p.nulls);
      },
      refl,
    )

-- each that is held says something
abbrev pub SomeSay : Option HeldText → Type 0
SomeSay None = ⊤
SomeSay (Some held) = (i : Json) × LevelSays (level_of held) i

abbrev pub AllSay : List (Option HeldText) → Type 0
AllSay [] = ⊤
AllSay (x ∷ all) = SomeSay x × AllSay all

pub parted_say : {all : List (Option HeldText)} {texts : List (Option Filler)} {held : List (Option HeldText)}
    → AreParted all texts held → AllSay all → PartedSay texts held
parted_say none_parted s = none_say
parted_say (then_parted nothing_parted p) s = nothing_says (parted_say p s.1)
parted_say (then_parted (text_parted t b e) p) s = (held_says (text_parted t b e) s.0.0 s.0.1 (parted_say p s.1)).0
parted_say (then_parted (value_parted n) p) s = (held_says (value_parted n) s.0.0 s.0.1 (parted_say p s.1)).0

text_has_json : {level : OwnText} {i : Json} (f : Filler) → LevelSays level i → string_bytes f.text ≡ text_of level
    → HasJson f
text_has_json f (level_says own said e h w o) same = (own, ap tokens same ∙ e)

pub texts_fill : {all : List (Option HeldText)} {texts : List (Option Filler)} {held : List (Option HeldText)}
    → AreParted all texts held → AllSay all → AreFillers texts
texts_fill none_parted s = tt
texts_fill (then_parted nothing_parted p) s = (tt, texts_fill p s.1)
texts_fill (then_parted (text_parted {f = f} t b e) p) s = (text_has_json f s.0.1 e, texts_fill p s.1)
texts_fill (then_parted (value_parted n) p) s = (tt, texts_fill p s.1)
