-- In which form a map is written, and that it is the one that is said.
use Rattle.std.proofs.Common.{◌≡◌, ◌∙◌, ℕ, ◌+◌, List, [], ◌∷◌, ◌++◌, Some, None, Option, Bool, true, false, not, ◌&&◌}
use Rattle.std.proofs.Common.{◌||◌, inl, inr, refl, sym, ap, subst, arith, map, append_assoc}
use Rattle.std.proofs.Common.{append-nil}
use Rattle.std.specs.Prelude.{◌==◌, if◌then◌else◌, option_map}
use Rattle.std.specs.Str.{is_utf8}
use Rattle.json.specs.Json.{Json, Items}
use Rattle.json.specs.Json as json
use Rattle.gob_types.specs.declared.id.TypeId.{TypeId}
use Rattle.gob_types.specs.Table.{Table}
use Rattle.gob_value.specs.Tree.{Tree, Pairs, no_pair, pair}
use Rattle.gob_value.specs.Tree as Value
use Rattle.gob_tape.specs.declared.kind.ValueKind.TheVariants as kind
use Rattle.gob_tape.specs.declared.view.View.{View}
use Rattle.gob_tape.specs.declared.view.Children.{Children}
use Rattle.gob_tape.specs.Seeing.{kind_of, alternating, Gives, gives_one, GivesNext}
use Rattle.gob_json_writer.proofs.TapeLaws.{NextIs}
use Rattle.gob_plain.specs.declared.maps.MapForm.{MapForm}
use Rattle.gob_plain.specs.declared.maps.MapForm.TheVariants as form
use Rattle.gob_plain.specs.declared.style.Style.{Style}
use Rattle.gob_plain.specs.OpaqueText.{content_in}
use Rattle.gob_plain.specs.Plain.{all_differ, are_bare, are_named, are_utf8, behind, differ, entries_json, gives_names}
use Rattle.gob_plain.specs.Plain.{has_parts, is_nil, IsMapOf, key_names, key_text, key_texts, may_be_named, members_of}
use Rattle.gob_plain.specs.Plain.{nils, said_key, said_text, SaysWith, SayMembersWith, SayPairsWith, text_before}
use Rattle.gob_plain.specs.Plain.{text_bytes}
use Rattle.gob_plain.specs.Filled.{filled, shown_pairs, nils_in, nils_of_map_in, nils_of_members_in}
use Rattle.gob_plain.specs.Filled.{nils_of_pairs_in, SaysInWith, SaysMapIn, SaysMembersIn, SaysPairsIn, SaysTextsIn}
use Rattle.gob_plain.specs.Machine.Naming.{bare_nils, FormFits, HeldFormFits, NamedFormFits}
use Rattle.gob_plain.specs.Machine.Naming.{TextFits, TextsFit}
use Rattle.gob_plain.specs.WritesPlain.{Shows}
use Rattle.gob_plain.proofs.MapLaws.{held_shown, named_shown}
use Rattle.gob_plain.proofs.NilLaws.{pairs_as_much}
use Rattle.gob_plain.proofs.StyleLaws.{PairsIn, entry_missing, entry_out, entry_too_many, nil_nils}
use Rattle.gob_plain.proofs.TextLaws.{nil_kind_is}

-- ---- what is written in a form is said of the map

pub map_named : (N : ℕ → Json → Type 0) (style : Style) (T : Table) (k e : TypeId) (ps : Pairs) (j : Json)
    → FormFits form.Named N style T k e ps → SaysMembersIn N style T k e ps j → SaysMapIn N style T k e ps j
map_named N style T k e ps j f s =
    let all = shown_pairs style T k e ps in
    subst
    (λ b. IsMapOf b (may_be_named k all) (λ ms. SayMembersWith N (content_in style) T e all ms)
    (λ js. SayPairsWith N (content_in style) T k e all js) j)
    (sym (named_shown style T k e ps ∙ f)) s

others_said : (N : ℕ → Json → Type 0) (style : Style) (T : Table) (k e : TypeId) (ps : Pairs) (js : Items) (j : Json)
    → are_named k ps ≡ false → j ≡ entries_json (may_be_named k ps) js → PairsIn N style T k e ps js
    → SaysMapIn N style T k e ps j
others_said N style T k e ps js j f is s =
    let all = shown_pairs style T k e ps in
    subst
    (λ b. IsMapOf b (may_be_named k all) (λ ms. SayMembersWith N (content_in style) T e all ms)
    (λ js. SayPairsWith N (content_in style) T k e all js) j)
    (sym (named_shown style T k e ps ∙ f))
    (js, is ∙ ap (λ b. entries_json b js) (sym (held_shown style T k e ps)), s)

pub map_texts : (N : ℕ → Json → Type 0) (style : Style) (T : Table) (k e : TypeId) (ps : Pairs) (j : Json)
    → FormFits form.NamedByTexts N style T k e ps → SaysTextsIn N style T k e ps j → SaysMapIn N style T k e ps j
map_texts N style T k e ps j f s = others_said N style T k e ps s.0 j f.0 (s.1 ∙ sym (f.2 s.0 s.2)) s.2

pub map_pairs : (N : ℕ → Json → Type 0) (style : Style) (T : Table) (k e : TypeId) (ps : Pairs) (j : Json)
    → FormFits form.Pairs N style T k e ps → SaysPairsIn N style T k e ps j → SaysMapIn N style T k e ps j
map_pairs N style T k e ps j f s = others_said N style T k e ps s.0 j f.0 (s.1 ∙ sym (f.1 s.0 s.2)) s.2

pub named_nils : (style : Style) (T : Table) (k e : TypeId) (ps : Pairs) → are_named k ps ≡ true
    → nils_of_members_in style T k e ps ≡ nils_of_map_in style T k e ps
named_nils style T k e ps f =
    ap (λ b. if b then nils_of_members_in style T k e ps else nils_of_pairs_in style T k e ps) (sym f)

pub other_nils : (style : Style) (T : Table) (k e : TypeId) (ps : Pairs) → are_named k ps ≡ false
    → nils_of_pairs_in style T k e ps ≡ nils_of_map_in style T k e ps
other_nils style T k e ps f =
    ap (λ b. if b then nils_of_members_in style T k e ps else nils_of_pairs_in style T k e ps) (sym f)

-- ---- which form

named_apart : (n : ℕ) → ((n == 6) || ((n == 2) || (n == 3))) ≡ true → (n == 8) ≡ false
named_apart n e = grind arith

pub form_named : (form : MapForm) (N : ℕ → Json → Type 0) (style : Style) (T : Table) (k e : TypeId) (ps : Pairs)
    → gives_names k ≡ true → NamedFormFits form ps → FormFits form N style T k e ps
form_named form.Named N style T k e ps g f = ap (λ b. b && (are_utf8 ps || all_differ (key_names ps))) g ∙ f
form_named form.NamedByTexts N style T k e ps g f = absurd f
form_named form.Pairs N style T k e ps g f = (
  ap (λ b. b && (are_utf8 ps || all_differ (key_names ps))) g ∙ f,
  λ js h. ap (λ b. entries_json (b && are_bare ps) js) (named_apart k.0 g),
)

pub form_held : (form : MapForm) (N : ℕ → Json → Type 0) (style : Style) (T : Table) (k e : TypeId) (ps : Pairs)
    → gives_names k ≡ false → (k.0 == 8) ≡ true → HeldFormFits form N style T k e ps → FormFits form N style T k e ps
form_held form.Named N style T k e ps g h f = absurd f
form_held form.NamedByTexts N style T k e ps g h f = (
  ap (λ b. b && (are_utf8 ps || all_differ (key_names ps))) g,
  f.0,
  λ js s. ap (λ b. entries_json (b && are_bare ps) js) h ∙ ap (λ b. entries_json b js) f.0 ∙ f.1 js s,
)
form_held form.Pairs N style T k e ps g h f = (
  ap (λ b. b && (are_utf8 ps || all_differ (key_names ps))) g,
  λ js s. ap (λ b. entries_json (b && are_bare ps) js) h ∙ f js s,
)

pub form_other : (N : ℕ → Json → Type 0) (style : Style) (T : Table) (k e : TypeId) (ps : Pairs)
    → gives_names k ≡ false → (k.0 == 8) ≡ false → FormFits form.Pairs N style T k e ps
form_other N style T k e ps g h = (
  ap (λ b. b && (are_utf8 ps || all_differ (key_names ps))) g,
  λ js s. ap (λ b. entries_json (b && are_bare ps) js) h,
)

pub all_named : (k : TypeId) (ps : Pairs) → gives_names k ≡ true → are_utf8 ps ≡ true → are_named k ps ≡ true
all_named k ps g u =
    ap (λ b. b && (are_utf8 ps || all_differ (key_names ps))) g ∙ ap (λ b. b || all_differ (key_names ps)) u

-- ---- by the texts of the keys

never : (b : Bool) (js : Items) → differ (key_texts js) ≡ false → entries_json b js ≡ json.array js
never true js e = ap (λ d. if d then json.object (members_of js) else json.array js) e
never false js e = refl

pub texts_none : (N : ℕ → Json → Type 0) (style : Style) (T : Table) (k e : TypeId) (ps : Pairs)
    → TextsFit None N style T k e ps → HeldFormFits form.Pairs N style T k e ps
texts_none N style T k e ps (inl b) = λ js s. ap (λ b. entries_json b js) b
texts_none N style T k e ps (inr f) = λ js s. never (are_bare ps) js (ap differ (f js s))

pub texts_differ : (texts : List (List ℕ)) (N : ℕ → Json → Type 0) (style : Style) (T : Table) (k e : TypeId)
    (ps : Pairs)
    → TextsFit (Some texts) N style T k e ps → all_differ texts ≡ true
    → HeldFormFits form.NamedByTexts N style T k e ps
texts_differ texts N style T k e ps f d = (
  f.0,
  λ js s. ap (λ b. if b then json.object (members_of js) else json.array js) (ap differ (f.1 js s) ∙ d),
)

pub texts_alike : (texts : List (List ℕ)) (N : ℕ → Json → Type 0) (style : Style) (T : Table) (k e : TypeId)
    (ps : Pairs)
    → TextsFit (Some texts) N style T k e ps → all_differ texts ≡ false
    → HeldFormFits form.Pairs N style T k e ps
texts_alike texts N style T k e ps f d = λ js s. never (are_bare ps) js (ap differ (f.1 js s) ∙ d)

-- ---- keys that are looked at in turn

-- these entries are to come: whether the keys are UTF-8 is told by theirs
pub record Utf8Left (all : Pairs) (parts : Children) : Type 0 where
  pub rest : Pairs
  pub gives : Gives parts (alternating rest)
  pub same : are_utf8 all ≡ are_utf8 rest

pub utf8_begun : {parts : Children} (ps : Pairs) → Gives parts (alternating ps) → Utf8Left ps parts
utf8_begun ps g = record { rest = ps; gives = g; same = refl }

pub utf8_on : {all : Pairs} {parts mid others : Children} {key : View} {part : Option View}
    → Utf8Left all parts → NextIs parts (Some key) mid → NextIs mid part others
    → ((x : Tree) → Shows key x → is_utf8 (text_bytes x) ≡ true) → Utf8Left all others
utf8_on {all = all} {mid = mid} {others = others} {key = key} {part = part} l n m u = by l.rest l.same (n _ l.gives)
  where
    behind : (o : Option View) (v : Tree) (ps : Pairs) → are_utf8 all ≡ are_utf8 ps
        → GivesNext others ((None, v) ∷ alternating ps) o → Utf8Left all others
    behind _ v ps s (gives_one t g) = record { rest = ps; gives = g; same = s }

    by : (ps : Pairs) → are_utf8 all ≡ are_utf8 ps → GivesNext mid (alternating ps) (Some key) → Utf8Left all others
    by no_pair s h = elim h [ ]
    by (pair x v ps) s (gives_one t g) =
        behind part v ps (s ∙ ap (λ b. b && are_utf8 ps) (u x (None, t))) (m _ g)

pub utf8_bad : {all : Pairs} {parts mid : Children} {key : View} → Utf8Left all parts → NextIs parts (Some key) mid
    → ((x : Tree) → Shows key x → is_utf8 (text_bytes x) ≡ false) → false ≡ are_utf8 all
utf8_bad {all = all} {mid = mid} {key = key} l n u = by l.rest l.same (n _ l.gives)
  where
    by : (ps : Pairs) → are_utf8 all ≡ are_utf8 ps → GivesNext mid (alternating ps) (Some key) → false ≡ are_utf8 all
    by no_pair s h = elim h [ ]
    by (pair x v ps) s (gives_one t g) = sym (s ∙ ap (λ b. b && are_utf8 ps) (u x (None, t)))

pub utf8_end : {all : Pairs} {parts others : Children} → Utf8Left all parts → NextIs parts None others
    → true ≡ are_utf8 all
utf8_end {all = all} {others = others} l n = by l.rest l.same (n _ l.gives)
  where
    by : (ps : Pairs) → are_utf8 all ≡ are_utf8 ps → GivesNext others (alternating ps) None → true ≡ are_utf8 all
    by no_pair s h = sym s
    by (pair x v ps) s h = elim h [ ]

-- these entries are to come, and these are the names before theirs
pub record NamesLeft (all : Pairs) (parts : Children) (names : List (List ℕ)) : Type 0 where
  pub rest : Pairs
  pub gives : Gives parts (alternating rest)
  pub same : key_names all ≡ names ++ key_names rest

pub names_begun : {parts : Children} (ps : Pairs) → Gives parts (alternating ps) → NamesLeft ps parts []
names_begun ps g = record { rest = ps; gives = g; same = refl }

pub names_on : {all : Pairs} {parts mid others : Children} {key : View} {part : Option View}
    {names : List (List ℕ)} {name : List ℕ}
    → NamesLeft all parts names → NextIs parts (Some key) mid → NextIs mid part others
    → ((x : Tree) → Shows key x → name ≡ key_text x) → NamesLeft all others (names ++ name ∷ [])
names_on {all = all} {mid = mid} {others = others} {key = key} {part = part} {names = names} {name = name} l n m u =
    by l.rest l.same (n _ l.gives)
  where
    behind : (o : Option View) (v : Tree) (ps : Pairs) → key_names all ≡ (names ++ name ∷ []) ++ key_names ps
        → GivesNext others ((None, v) ∷ alternating ps) o → NamesLeft all others (names ++ name ∷ [])
    behind _ v ps s (gives_one t g) = record { rest = ps; gives = g; same = s }

    by : (ps : Pairs) → key_names all ≡ names ++ key_names ps → GivesNext mid (alternating ps) (Some key)
        → NamesLeft all others (names ++ name ∷ [])
    by no_pair s h = elim h [ ]
    by (pair x v ps) s (gives_one t g) =
        behind part v ps
        (s ∙ ap (λ (y : List ℕ). names ++ y ∷ key_names ps) (sym (u x (None, t)))
        ∙ sym (append_assoc names (name ∷ []) (key_names ps)))
        (m _ g)

pub names_end : {all : Pairs} {parts others : Children} {names : List (List ℕ)} → NamesLeft all parts names
    → NextIs parts None others → names ≡ key_names all
names_end {all = all} {others = others} {names = names} l n = by l.rest l.same (n _ l.gives)
  where
    by : (ps : Pairs) → key_names all ≡ names ++ key_names ps → GivesNext others (alternating ps) None
        → names ≡ key_names all
    by no_pair s h = sym (s ∙ append-nil names)
    by (pair x v ps) s h = elim h [ ]

-- ---- texts that are looked at in turn

abbrev pub texts_behind : List (List ℕ) → Option (List (List ℕ)) → Option (List (List ℕ))
texts_behind texts o = option_map (λ (l : List (List ℕ)). texts ++ l) o

-- what is said of all entries is said of these, behind so many nils, and these texts fill the keys before theirs
abbrev pub EachSaid : (ℕ → Json → Type 0) → Style → Table → (k e : TypeId) → Pairs → ℕ → List (List ℕ) → Pairs → Type 0
EachSaid N style T k e all m texts ps = (js : Items) → PairsIn N style T k e all js
    → (more : Items) × PairsIn (behind m N) style T k e ps more
    × (key_texts js ≡ texts_behind texts (key_texts more))

-- these entries are to come
pub record TextsSeen (N : ℕ → Json → Type 0) (style : Style) (T : Table) (k e : TypeId) (all : Pairs)
    (parts : Children) (m : ℕ) (texts : List (List ℕ)) : Type 0 where
  pub rest : Pairs
  pub gives : Gives parts (alternating rest)
  pub bare : are_bare all ≡ are_bare rest
  pub each : EachSaid N style T k e all m texts rest

none_behind : (o : Option (List (List ℕ))) → o ≡ texts_behind [] o
none_behind None = refl
none_behind (Some texts) = refl

one_behind : (texts : List (List ℕ)) (text : List ℕ) (o : Option (List (List ℕ)))
    → texts_behind texts (text_before (Some text) o) ≡ texts_behind (texts ++ text ∷ []) o
one_behind texts text None = refl
one_behind texts text (Some l) = ap Some (sym (append_assoc texts (text ∷ []) l))

pub seen_begun : {parts : Children} (N : ℕ → Json → Type 0) (style : Style) (T : Table) (k e : TypeId) (ps : Pairs)
    → Gives parts (alternating ps) → TextsSeen N style T k e ps parts 0 []
seen_begun N style T k e ps g = record {
  rest = ps;
  gives = g;
  bare = refl;
  each = λ js h. (
    js,
    pairs_as_much N (behind 0 N) (content_in style) T k e (shown_pairs style T k e ps) js
        (λ i l j p. subst (λ n. N n j) (omega arith) p) h,
    none_behind (key_texts js),
  );
}

-- a nil says what it says
says_nil : (N : ℕ → Json → Type 0) (style : Style) (T : Table) (t : TypeId) (v : Tree) (j : Json)
    → kind.Nil ≡ kind_of v → SaysInWith N style T t v j → N 0 j
says_nil N style T t Value.nil j k = by style.zeros
  where
    by : (z : Bool) → SaysWith N (content_in style) T t (if z then filled T t Value.nil else Value.nil) j → N 0 j
    by true h = h
    by false h = h
says_nil N style T t (Value.opaque b) j k = cc
says_nil N style T t (Value.bool x) j k = cc
says_nil N style T t (Value.int i) j k = cc
says_nil N style T t (Value.uint n) j k = cc
says_nil N style T t (Value.float x) j k = cc
says_nil N style T t (Value.complex x y) j k = cc
says_nil N style T t (Value.bytes x) j k = cc
says_nil N style T t (Value.text b) j k = cc
says_nil N style T t (Value.many vs) j k = cc
says_nil N style T t (Value.pairs ps) j k = cc
says_nil N style T t (Value.fields fs) j k = cc

-- how many nils an entry without parts has
bare_count : (style : Style) (T : Table) (e : TypeId) (v : Tree) → has_parts v ≡ false
    → bare_nils v ≡ 1 + nils_in style T e v
bare_count style T e v = by style.zeros v
  where
    by : (z : Bool) (v : Tree) → has_parts v ≡ false → bare_nils v ≡ 1 + nils T e (if z then filled T e v else v)
    by true (Value.many vs) h = cc
    by true (Value.pairs ps) h = cc
    by true (Value.fields fs) h = cc
    by true Value.nil h = refl
    by true (Value.bool b) h = refl
    by true (Value.int i) h = refl
    by true (Value.uint n) h = refl
    by true (Value.float x) h = refl
    by true (Value.complex x y) h = refl
    by true (Value.bytes b) h = refl
    by true (Value.text b) h = refl
    by true (Value.opaque b) h = refl
    by false (Value.many vs) h = cc
    by false (Value.pairs ps) h = cc
    by false (Value.fields fs) h = cc
    by false Value.nil h = refl
    by false (Value.bool b) h = refl
    by false (Value.int i) h = refl
    by false (Value.uint n) h = refl
    by false (Value.float x) h = refl
    by false (Value.complex x y) h = refl
    by false (Value.bytes b) h = refl
    by false (Value.text b) h = refl
    by false (Value.opaque b) h = refl

both_hold : (a b : Bool) → (a && not b) ≡ true → (a ≡ true) × (b ≡ false)
both_hold true true e = cc
both_hold true false e = (refl, refl)
both_hold false b e = cc

one_fails : (a b c : Bool) → (a && not b) ≡ false → (a && (not b && c)) ≡ false
one_fails true true c e = refl
one_fails true false c e = cc
one_fails false b c e = refl

bare_rest : (x v : Tree) (ps : Pairs) → (is_nil x ≡ true) × (has_parts v ≡ false) → are_bare (pair x v ps) ≡ are_bare ps
bare_rest x v ps h =
    ap (λ b. b && (not (has_parts v) && are_bare ps)) h.0 ∙ ap (λ b. not b && are_bare ps) h.1

-- what is said of an entry whose key is nil, and of those behind it
record EntrySaid (N : ℕ → Json → Type 0) (style : Style) (T : Table) (k e : TypeId) (m next : ℕ) (ps : Pairs)
    (more : Items) : Type 0 where
  key : Json
  says : N m key
  items : Items
  others : PairsIn (behind next N) style T k e ps items
  texts : key_texts more ≡ text_before (said_text key) (key_texts items)

entry_said : (N : ℕ → Json → Type 0) (style : Style) (T : Table) (k e : TypeId) (m next : ℕ) (x v : Tree) (ps : Pairs)
    (more : Items)
    → is_nil x ≡ true → next ≡ m + (1 + nils_in style T e v)
    → PairsIn (behind m N) style T k e (pair x v ps) more → EntrySaid N style T k e m next ps more
entry_said N style T k e m next x v ps json.no_items nil count h =
    absurd (entry_missing (behind m N) style T k e x v ps h)
entry_said N style T k e m next x v ps (json.item j js) nil count h =
    let out = entry_out (behind m N) style T k e x v ps j js h in
    let both = out.0 in
    let is_key = nil_kind_is x nil in
    let one = nil_nils style T k x is_key in record {
      key = both.0;
      says = subst (λ n. N n both.0) (omega arith) (says_nil (behind m N) style T k x both.0 is_key both.3);
      items = js;
      others = pairs_as_much (behind (nils_in style T e v) (behind (nils_in style T k x) (behind m N))) (behind next N)
          (content_in style) T k e (shown_pairs style T k e ps) js
          (λ i l j p. subst (λ n. N n j) (omega (arith, count, one)) p) out.1;
      texts = ap (λ (a : Json). text_before (said_text (said_key a)) (key_texts js)) both.2;
    }

module _ {N : ℕ → Json → Type 0} {style : Style} {T : Table} {k e : TypeId} {all : Pairs}
    {parts mid others : Children} {key element : View} {m : ℕ} {texts : List (List ℕ)} where
  pub seen_on : (text : List ℕ) (next : ℕ)
      → TextsSeen N style T k e all parts m texts → NextIs parts (Some key) mid → NextIs mid (Some element) others
      → ((x v : Tree) → Shows key x → Shows element v → TextFits (Some text) (N m) x v)
      → ((v : Tree) → Shows element v → next ≡ m + bare_nils v)
      → TextsSeen N style T k e all others next (texts ++ text ∷ [])
  seen_on text next l first second fits count = by l.rest l.bare l.each (first _ l.gives)
    where
      behind_key : (x v : Tree) (ps : Pairs) → Shows key x → are_bare all ≡ are_bare (pair x v ps)
          → EachSaid N style T k e all m texts (pair x v ps)
          → GivesNext others ((None, v) ∷ alternating ps) (Some element)
          → TextsSeen N style T k e all others next (texts ++ text ∷ [])
      behind_key x v ps s bare each (gives_one t g) =
          let fit = fits x v s (None, t) in
          let both = both_hold (is_nil x) (has_parts v) fit.0 in
          let many : next ≡ m + (1 + nils_in style T e v) =
          count v (None, t) ∙ ap (λ n. m + n) (bare_count style T e v both.1) in record {
            rest = ps;
            gives = g;
            bare = bare ∙ bare_rest x v ps both;
            each = λ js h.
                let q = each js h in
                let said = entry_said N style T k e m next x v ps q.0 both.0 many q.1 in (
                  said.items,
                  said.others,
                  q.2 ∙ ap (texts_behind texts) (said.texts
                      ∙ ap (λ o. text_before o (key_texts said.items)) (sym (fit.1 said.key said.says)))
                      ∙ one_behind texts text (key_texts said.items),
                );
          }

      by : (ps : Pairs) → are_bare all ≡ are_bare ps → EachSaid N style T k e all m texts ps
          → GivesNext mid (alternating ps) (Some key)
          → TextsSeen N style T k e all others next (texts ++ text ∷ [])
      by no_pair bare each h = elim h [ ]
      by (pair x v ps) bare each (gives_one s g) = behind_key x v ps (None, s) bare each (second _ g)

  pub seen_none : TextsSeen N style T k e all parts m texts → NextIs parts (Some key) mid
      → NextIs mid (Some element) others
      → ((x v : Tree) → Shows key x → Shows element v → TextFits None (N m) x v)
      → TextsFit None N style T k e all
  seen_none l first second fits = by l.rest l.bare l.each (first _ l.gives)
    where
      no_text : (x v : Tree) (ps : Pairs) → are_bare all ≡ are_bare (pair x v ps)
          → EachSaid N style T k e all m texts (pair x v ps)
          → TextFits None (N m) x v → TextsFit None N style T k e all
      no_text x v ps bare each (inl b) = inl (bare ∙ one_fails (is_nil x) (has_parts v) (are_bare ps) b)
      no_text x v ps bare each (inr f) = nil_or (is_nil x) refl
        where
          nil_or : (b : Bool) → is_nil x ≡ b → TextsFit None N style T k e all
          nil_or true nil = inr (λ js h.
              let q = each js h in
              let said = entry_said N style T k e m (m + (1 + nils_in style T e v)) x v ps q.0 nil refl q.1 in
              q.2 ∙ ap (texts_behind texts) (said.texts
              ∙ ap (λ o. text_before o (key_texts said.items)) (sym (f said.key said.says))))
          nil_or false other = inl (bare ∙ ap (λ b. b && (not (has_parts v) && are_bare ps)) other)

      behind_key : (x v : Tree) (ps : Pairs) → Shows key x → are_bare all ≡ are_bare (pair x v ps)
          → EachSaid N style T k e all m texts (pair x v ps)
          → GivesNext others ((None, v) ∷ alternating ps) (Some element)
          → TextsFit None N style T k e all
      behind_key x v ps s bare each (gives_one t g) = no_text x v ps bare each (fits x v s (None, t))

      by : (ps : Pairs) → are_bare all ≡ are_bare ps → EachSaid N style T k e all m texts ps
          → GivesNext mid (alternating ps) (Some key)
          → TextsFit None N style T k e all
      by no_pair bare each h = elim h [ ]
      by (pair x v ps) bare each (gives_one s g) = behind_key x v ps (None, s) bare each (second _ g)

-- a key has its element
pub seen_odd : {N : ℕ → Json → Type 0} {style : Style} {T : Table} {k e : TypeId} {all : Pairs}
    {parts mid others : Children} {key : View} {m : ℕ} {texts : List (List ℕ)}
    → TextsSeen N style T k e all parts m texts → NextIs parts (Some key) mid → NextIs mid None others → ⊥
seen_odd {mid = mid} {others = others} {key = key} l first second = by l.rest (first _ l.gives)
  where
    none : (v : Tree) (ps : Pairs) → GivesNext others ((None, v) ∷ alternating ps) None → ⊥
    none v ps h = elim h [ ]

    by : (ps : Pairs) → GivesNext mid (alternating ps) (Some key) → ⊥
    by no_pair h = elim h [ ]
    by (pair x v ps) (gives_one s g) = none v ps (second _ g)

pub seen_end : {N : ℕ → Json → Type 0} {style : Style} {T : Table} {k e : TypeId} {all : Pairs}
    {parts others : Children} {m : ℕ} {texts : List (List ℕ)}
    → TextsSeen N style T k e all parts m texts → NextIs parts None others → TextsFit (Some texts) N style T k e all
seen_end {N = N} {style = style} {T = T} {k = k} {e = e} {all = all} {others = others} {m = m} {texts = texts} l n =
    by l.rest l.bare l.each (n _ l.gives)
  where
    last : (more : Items) → PairsIn (behind m N) style T k e no_pair more
        → texts_behind texts (key_texts more) ≡ Some texts
    last json.no_items h = ap Some (append-nil texts)
    last (json.item j js) h = absurd (entry_too_many (behind m N) style T k e j js h)

    by : (ps : Pairs) → are_bare all ≡ are_bare ps → EachSaid N style T k e all m texts ps
        → GivesNext others (alternating ps) None → TextsFit (Some texts) N style T k e all
    by no_pair bare each h = (
      bare,
      λ js h.
          let q = each js h in q.2 ∙ last q.0 q.1,
    )
    by (pair x v ps) bare each h = elim h [ ]

-- ---- one key

pub fits_text : (o : Option (List ℕ)) (P : Json → Type 0) (x v : Tree) → (is_nil x && not (has_parts v)) ≡ true
    → ((a : Json) → P a → o ≡ said_text a) → TextFits o P x v
fits_text None P x v b f = inr f
fits_text (Some text) P x v b f = (b, f)

-- ---- a list that grows

pub map_push : {X Y : Type 0} (f : X → Y) (xs : List X) (x : X) → map f (xs ++ x ∷ []) ≡ map f xs ++ f x ∷ []
map_push f [] x = refl
map_push f (y ∷ ys) x = ap (λ l. f y ∷ l) (map_push f ys x)
