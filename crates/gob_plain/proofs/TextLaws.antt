-- What is written of the entries of a map as members, named by the texts that fill their keys, and what is left.
use Rattle.std.proofs.Common.{◌≡◌, ℕ, ◌+◌, List, [], ◌∷◌, ◌++◌, Some, None, Bool, true, false, not, ◌&&◌, refl, sym, ap}
use Rattle.std.proofs.Common.{subst, Result, Ok}
use Rattle.json.specs.Token.{Token}
use Rattle.json.specs.Json.{Json, Items}
use Rattle.json.specs.Json as json
use Rattle.json.specs.Tree.{json_tokens, members_tokens}
use Rattle.json.specs.Written.{Written}
use Rattle.gob_types.specs.declared.id.TypeId.{TypeId}
use Rattle.gob_types.specs.Table.{Table}
use Rattle.gob_value.specs.Tree.{Tree, Pairs, no_pair, pair}
use Rattle.gob_value.specs.Tree as Value
use Rattle.gob_tape.specs.declared.kind.ValueKind.TheVariants as kind
use Rattle.gob_tape.specs.declared.view.View.{View}
use Rattle.gob_tape.specs.declared.view.Children.{Children}
use Rattle.gob_tape.specs.Seeing.{kind_of, alternating, Gives, gives_one, GivesNext}
use Rattle.gob_json_writer.specs.WritesJson.{WritesTokens}
use Rattle.gob_json_writer.proofs.TapeLaws.{NextIs}
use Rattle.gob_plain.specs.declared.style.Style.{Style}
use Rattle.gob_plain.specs.OpaqueText.{content_in}
use Rattle.gob_plain.specs.Plain.{are_bare, behind, has_parts, is_nil, members_of}
use Rattle.gob_plain.specs.Filled.{shown, shown_pairs, nils_in, nils_of_pairs_in, SaysInWith, SaysTextsIn}
use Rattle.gob_plain.specs.WritesPlain.{WritesSome, AreTokensOf, WritesNilsOf, AreBehind, NamesMember, Shows}
use Rattle.gob_plain.proofs.NilLaws.{says_as_much, pairs_as_much, no_entry_nils, entry_nils}
use Rattle.gob_plain.proofs.PartLaws.{StillSay, nil_says, nil_passed, still_end, still_on}
use Rattle.gob_plain.proofs.SomeLaws.{IsLeft, left_begun, left_on, left_end, both_same}
use Rattle.gob_plain.proofs.StyleLaws.{PairsIn, no_entry_in, entry_in}

-- ---- nils

pub nil_kind_is : (v : Tree) → is_nil v ≡ true → kind.Nil ≡ kind_of v
nil_kind_is Value.nil e = refl
nil_kind_is (Value.bool b) e = cc
nil_kind_is (Value.int i) e = cc
nil_kind_is (Value.uint n) e = cc
nil_kind_is (Value.float p) e = cc
nil_kind_is (Value.complex p q) e = cc
nil_kind_is (Value.bytes b) e = cc
nil_kind_is (Value.text b) e = cc
nil_kind_is (Value.many vs) e = cc
nil_kind_is (Value.pairs ps) e = cc
nil_kind_is (Value.fields fs) e = cc
nil_kind_is (Value.opaque b) e = cc

-- of three that hold the first and the last
pub first_holds : (a b c : Bool) → (a && (b && c)) ≡ true → a ≡ true
first_holds true b c e = refl
first_holds false b c e = e

pub last_holds : (a b c : Bool) → (a && (b && c)) ≡ true → c ≡ true
last_holds true true c e = e
last_holds true false c e = cc
last_holds false b c e = cc

-- ---- entries

-- the tokens of these entries as members
abbrev pub TextsTokens : (Items → Type 0) → List Token → Type 0
TextsTokens P ts = (js : Items) × P js × (ts ≡ members_tokens (members_of js))

-- the tokens of a value, and of the entries behind it as members
abbrev pub TextTokens : (ℕ → Json → Type 0) → Style → Table → TypeId → TypeId → Tree → Pairs → List Token → Type 0
TextTokens N style T k e v ps ts = (b : Json) × (js : Items)
    × (SaysInWith N style T e v b × PairsIn (behind (nils_in style T e v) N) style T k e ps js)
    × (ts ≡ json_tokens b ++ members_tokens (members_of js))

-- the value of a name that was written, and then these entries, are to come; or these entries
pub data TextsLeft (first from : ℕ → Json → Type 0) (nils : ℕ) (style : Style) (T : Table) (k e : TypeId)
    (parts : Children) (old now : Written) (All : List Token → Type 0) : Bool
    → Type 0 where
  text_next : (ps : Pairs) → Gives parts (alternating ps) → are_bare ps ≡ true
      → IsLeft old now (TextsTokens (PairsIn from style T k e ps)) All
      → StillSay first from nils (nils_of_pairs_in style T k e ps)
      → TextsLeft first from nils style T k e parts old now All true
  value_next : (v : Tree) (ps : Pairs) → Gives parts ((None, v) ∷ alternating ps) → are_bare ps ≡ true
      → IsLeft old now (TextTokens from style T k e v ps) All
      → StillSay first from nils (nils_in style T e v + nils_of_pairs_in style T k e ps)
      → TextsLeft first from nils style T k e parts old now All false

pub texts_begun : {E : Type 0} {u : Unit {0}} {style : Style} {T : Table} {k e : TypeId} {parts : Children}
    {old now : Written}
    (N : ℕ → Json → Type 0) (ps : Pairs)
    → WritesTokens {E = E} (Ok u) old now (Token.begin_object ∷ []) → Gives parts (alternating ps)
    → are_bare ps ≡ true
    → TextsLeft N N (nils_of_pairs_in style T k e ps) style T k e parts old now
    (AreTokensOf (SaysTextsIn N style T k e ps)) true
texts_begun N ps w g b = text_next ps g b
    (left_begun w
    (λ ys h. (json.object (members_of h.0), (h.0, refl, h.1), ap (λ (l : List Token). Token.begin_object ∷ l) h.2)))
    (λ k j h. h)

module _ {E : Type 0} {u : Unit {0}} {style : Style} {T : Table} {k e : TypeId} {parts others : Children} {part : View}
    {nils : ℕ} {old now new : Written} {All : List Token → Type 0} where
  text_on : (first from to : ℕ → Json → Type 0)
      → TextsLeft first from nils style T k e parts old now All true → NextIs parts (Some part) others
      → WritesSome {E = E} (Ok u) now new (NamesMember (from 0)) → AreBehind 1 from to
      → TextsLeft first to nils style T k e others old new All false
  text_on first from to (text_next ps g b q l) n w passes = by ps b q l (n _ g)
    where
      by : (ps : Pairs) → are_bare ps ≡ true → IsLeft old now (TextsTokens (PairsIn from style T k e ps)) All
          → StillSay first from nils (nils_of_pairs_in style T k e ps)
          → GivesNext others (alternating ps) (Some part)
          → TextsLeft first to nils style T k e others old new All false
      by no_pair b q l h = elim h [ ]
      by (pair x v ps) b q l (gives_one s g) =
          let nil = nil_kind_is x (first_holds (is_nil x) (not (has_parts v)) (are_bare ps) b) in
          let keys = nils_in style T k x in
          let elements = nils_in style T e v in
          let passed : AreBehind keys from to = nil_passed from to style T k x nil passes in
          value_next v ps g (last_holds (is_nil x) (not (has_parts v)) (are_bare ps) b)
          (left_on {P = NamesMember (from 0)} q w
          (λ xs ys p h.
          let one = json.array (json.item p.0 (json.item h.0 json.no_items)) in (
            json.item one h.1,
            entry_in from style T k e x v ps one h.1 (
              p.0,
              h.0,
              refl,
              nil_says from style T k x p.0 nil p.1,
              says_as_much to (behind keys from) (content_in style) T e (shown style T e v) h.0 (λ k b j. passed k
                  j) h.2.0,
            )
                (pairs_as_much (behind elements to) (behind elements (behind keys from)) (content_in style) T k e
                (shown_pairs style T k e ps) h.1 (λ k b j. passed (elements + k) j) h.2.1),
            both_same p.2 h.3,
          )))
          (still_on first from to nils (nils_of_pairs_in style T k e (pair x v ps)) keys
          (elements + nils_of_pairs_in style T k e ps) (entry_nils style T k e x v ps) l passed)

  named_on : (first from to : ℕ → Json → Type 0)
      → TextsLeft first from nils style T k e parts old now All false → NextIs parts (Some part) others
      → WritesNilsOf {E = E} (Ok u) now new from to (Shows part) (nils_in style T e) (SaysInWith from style T e)
      → TextsLeft first to nils style T k e others old new All true
  named_on first from to (value_next v ps g b q l) n w = by (n _ g)
    where
      by : GivesNext others ((None, v) ∷ alternating ps) (Some part)
          → TextsLeft first to nils style T k e others old new All true
      by (gives_one s h) =
          let passed = w.passed v (None, s) in
          text_next ps h b (left_on q (w.written.each v (None, s))
          (λ xs ys p h. (
            p.0,
            h.0,
            (
              p.1,
              pairs_as_much to (behind (nils_in style T e v) from) (content_in style) T k e (shown_pairs style T k
                  e ps) h.0
                  (λ k b j. passed k j) h.1,
            ),
            both_same p.2 h.2,
          )))
          (still_on first from to nils (nils_in style T e v + nils_of_pairs_in style T k e ps) (nils_in style T e v)
          (nils_of_pairs_in style T k e ps) refl l passed)

  -- a name, and a value, was written
  pub text_turn : (first from to : ℕ → Json → Type 0) {is_key : Bool} {out : Written} → out ≡ new → is_key ≡ true
      → TextsLeft first from nils style T k e parts old now All is_key → NextIs parts (Some part) others
      → WritesSome {E = E} (Ok u) now new (NamesMember (from 0)) → AreBehind 1 from to
      → TextsLeft first to nils style T k e others old out All (not is_key)
  text_turn first from to {is_key = is_key} is h l n w passes =
      subst (λ o. TextsLeft first to nils style T k e others old o All (not is_key)) (sym is)
      (subst (λ x. TextsLeft first to nils style T k e others old new All (not x)) (sym h)
      (text_on first from to (subst (λ x. TextsLeft first from nils style T k e parts old now All x) h l) n w passes))

  pub named_turn : (first from to : ℕ → Json → Type 0) {is_key : Bool} {out : Written} → out ≡ new → is_key ≡ false
      → TextsLeft first from nils style T k e parts old now All is_key → NextIs parts (Some part) others
      → WritesNilsOf {E = E} (Ok u) now new from to (Shows part) (nils_in style T e) (SaysInWith from style T e)
      → TextsLeft first to nils style T k e others old out All (not is_key)
  named_turn first from to {is_key = is_key} is h l n w =
      subst (λ o. TextsLeft first to nils style T k e others old o All (not is_key)) (sym is)
      (subst (λ x. TextsLeft first to nils style T k e others old new All (not x)) (sym h)
      (named_on first from to (subst (λ x. TextsLeft first from nils style T k e parts old now All x) h l) n w))

-- what is to come says what it said
pub texts_say : {A : Type 0} {a b : A} {style : Style} {T : Table} {k e : TypeId} {parts : Children} {nils : ℕ}
    {old now : Written} {All : List Token → Type 0} {is_key : Bool}
    (says : A → ℕ → Json → Type 0) (first : ℕ → Json → Type 0) → a ≡ b
    → TextsLeft first (says b) nils style T k e parts old now All is_key
    → TextsLeft first (says a) nils style T k e parts old now All is_key
texts_say {style = style} {T = T} {k = k} {e = e} {parts = parts} {nils = nils} {old = old} {now = now} {All = All}
    {is_key = is_key} says first is l =
    subst (λ n. TextsLeft first (says n) nils style T k e parts old now All is_key) (sym is) l

pub texts_end : {E : Type 0} {r : Result (Unit {0}) E} {style : Style} {T : Table} {k e : TypeId}
    {parts others : Children} {nils : ℕ}
    {old now new : Written} {All : List Token → Type 0} {is_key : Bool}
    (first from : ℕ → Json → Type 0)
    → TextsLeft first from nils style T k e parts old now All is_key → NextIs parts None others
    → WritesTokens r now new (Token.end_object ∷ []) → WritesSome r old new All
texts_end {r = r} {style = style} {T = T} {k = k} {e = e} {others = others} {old = old} {now = now} {new = new}
    {All = All} first from (text_next ps g b q l)
    n w = by ps q (n _ g)
  where
    by : (ps : Pairs) → IsLeft old now (TextsTokens (PairsIn from style T k e ps)) All → GivesNext others
        (alternating ps) None
        → WritesSome r old new All
    by no_pair q h = left_end q w (json.no_items, no_entry_in from style T k e, refl)
    by (pair x v ps) q h = elim h [ ]
texts_end {r = r} {others = others} {old = old} {new = new} {All = All} first from (value_next v ps g b q l) n w =
    by (n _ g)
  where
    by : GivesNext others ((None, v) ∷ alternating ps) None → WritesSome r old new All
    by h = elim h [ ]

pub texts_passed : {style : Style} {T : Table} {k e : TypeId} {parts others : Children} {nils : ℕ} {old now : Written}
    {All : List Token → Type 0} {is_key : Bool} (first from : ℕ → Json → Type 0)
    → TextsLeft first from nils style T k e parts old now All is_key → NextIs parts None others
    → AreBehind nils first from
texts_passed {style = style} {T = T} {k = k} {e = e} {others = others} {nils = nils} first from
    (text_next ps g b q l) n = by ps l (n _ g)
  where
    by : (ps : Pairs) → StillSay first from nils (nils_of_pairs_in style T k e ps)
        → GivesNext others (alternating ps) None → AreBehind nils first from
    by no_pair l h = still_end first from nils (nils_of_pairs_in style T k e no_pair) (no_entry_nils style T k e) l
    by (pair x v ps) l h = elim h [ ]
texts_passed {others = others} {nils = nils} first from (value_next v ps g b q l) n = by (n _ g)
  where
    by : GivesNext others ((None, v) ∷ alternating ps) None → AreBehind nils first from
    by h = elim h [ ]
