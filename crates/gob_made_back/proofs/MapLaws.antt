-- Maps: entries that are read are printed as an object or an array, by their keys.
use Rattle.std.proofs.Common.{◌≡◌, ◌∙◌, ◌==◌, ◌||◌, ◌&&◌, ℕ, List, ◌∷◌, Bool, true, false, cond, Option, Some}
use Rattle.std.proofs.Common.{None, ap}
use Rattle.std.proofs.Common.{decimal, refl, sym, subst, true≢false, not}
use Rattle.std.specs.Str.{is_utf8}
use Rattle.std.proofs.lemmas.Bool.{and_parts}
use Rattle.json.specs.Json.{Json, Items, Members}
use Rattle.json.specs.Json as json
use Rattle.serde_json.specs.Written.{outline}
use Rattle.gob_types.specs.declared.id.TypeId.{TypeId}
use Rattle.gob_types.specs.Table.{Table}
use Rattle.gob_types.proofs.PublicLaws.{basic_shape_of}
use Rattle.gob_value.specs.Tree.{Tree, Pairs, no_pair, pair}
use Rattle.gob_json.specs.Json.{integer_json, text_json, value_json}
use Rattle.gob_plain.specs.Plain.{IsMapOf, SayMembers, SayPairs, Says, all_differ, are_named, are_utf8, differ}
use Rattle.gob_plain.specs.Plain.{entries_json, gives_names, key_names, key_texts, key_text, may_be_named, said_key}
use Rattle.gob_plain.specs.Plain.{said_text, text_before, text_bytes, are_bare, members_of}
use Rattle.gob_make.specs.Leaf.{ReadsKey}
use Rattle.gob_make.specs.Leaf as leaf
use Rattle.gob_made_back.specs.Alike.{AreEntriesAlike, IsAlike, are_none, are_utf8_keys, by_name, is_by_name, is_object}
use Rattle.gob_made_back.specs.Alike.{map_json, name_of, names_of}
use Rattle.gob_made_back.specs.Alike as alike
use Rattle.gob_made_back.proofs.KeyLaws.{IsKey, guessed, key_said, key_says, name_is, utf8_is}
use Rattle.gob_made_back.proofs.LeafLaws.{integer_shown}

-- whatever is printed of the value is alike to the JSON
abbrev pub Goes : Bool → Table → TypeId → Json → Tree → Type 0
Goes lenient T t j v = (k : Json) → Says guessed T t v k → IsAlike lenient T t j k

-- [a,b] in front of other items
abbrev pub entry_item : Json → Json → Items → Items
entry_item a b js = json.item (json.array (json.item a (json.item b json.no_items))) js

-- the entries are those that the JSON says
pub data GoodPairs (lenient : Bool) (T : Table) (t e : TypeId) : Items → Pairs → Type 0 where
  none : GoodPairs lenient T t e json.no_items no_pair
  one_more : {a b : Json} {x v : Tree} {js : Items} {ps : Pairs} → IsKey t x → Goes lenient T t a x
      → Goes lenient T e b v → GoodPairs lenient T t e js ps
      → GoodPairs lenient T t e (entry_item a b js) (pair x v ps)

-- a key that a name says is printed as the JSON that the name stands for
pub key_goes : {lenient : Bool} {T : Table} {t : TypeId} {name : List ℕ} {x : Tree} → ReadsKey T t name x
    → Goes lenient T t (outline (value_json T t x)) x
key_goes {lenient = lenient} {T = T} {t = t} (leaf.of_text {b = b} is) = λ k s.
    let r = basic_shape_of T t is in
    subst (λ i. IsAlike lenient T t (outline (text_json b)) i) (sym s)
    (alike.of_type r.1 (alike.of_basic r.2 (alike.same_text b)))
key_goes {lenient = lenient} {T = T} {t = t} (leaf.of_int {i = i} is fits) = λ k s.
    let r = basic_shape_of T t is in
    subst (λ (l : Json). IsAlike lenient T t (outline (integer_json i)) l) (sym s)
    (subst (λ (l : Json). IsAlike lenient T t l l) (sym (integer_shown i))
    (alike.of_type r.1 (alike.of_basic r.2 alike.same_int)))
key_goes {lenient = lenient} {T = T} {t = t} (leaf.of_uint {n = n} is small) = λ k s.
    let r = basic_shape_of T t is in
    subst (λ (l : Json). IsAlike lenient T t (json.number (decimal n)) l) (sym s)
    (alike.of_type r.1 (alike.of_basic r.2 alike.same_uint))

-- what is printed of a map as it is read
pub record IsShown (lenient : Bool) (T : Table) (t e : TypeId) (js : Items) (k : Json) : Type 0 where
  pub entries : Items
  pub agree : AreEntriesAlike lenient T t e js entries
  pub is : k ≡ map_json t entries

-- ---- as an object

record AreNamed (lenient : Bool) (T : Table) (t e : TypeId) (js : Items) (ps : Pairs) (ms : Members) : Type 0 where
  entries : Items
  agree : AreEntriesAlike lenient T t e js entries
  are : ms ≡ by_name entries
  names : names_of entries ≡ key_names ps
  utf8 : are_utf8_keys entries ≡ are_utf8 ps

members_named : {lenient : Bool} {T : Table} {t e : TypeId} {js : Items} {ps : Pairs} (ms : Members)
    → gives_names t ≡ true → GoodPairs lenient T t e js ps → SayMembers guessed T e ps ms
    → AreNamed lenient T t e js ps ms
members_named json.no_members named none s = record {
  entries = json.no_items;
  agree = alike.no_entry;
  are = refl;
  names = refl;
  utf8 = refl;
}
members_named (json.member name k ms) named none s = absurd s
members_named json.no_members named (one_more key a b g) s = absurd s
members_named {T = T} {t = t} {e = e} (json.member name k ms) named (one_more {x = x} {v = v} {ps = ps} key a b g) s =
    let rest = members_named ms named g s.2 in
    let gives = key.named named in
    let c = outline (value_json T t x) in
    record {
      entries = entry_item c k rest.entries;
      agree = alike.entry (a c (key_says T t gives)) (b k s.1) rest.agree;
      are = ap (λ (n : List ℕ). json.member n k ms) (s.0 ∙ sym (name_is T t gives))
          ∙ ap (λ (m : Members). json.member (name_of c) k m) rest.are;
      names = ap (λ (n : List ℕ). n ∷ names_of rest.entries) (name_is T t gives)
          ∙ ap (λ (l : List (List ℕ)). key_text x ∷ l) rest.names;
      utf8 = ap (λ (u : Bool). u && are_utf8_keys rest.entries) (utf8_is T t gives)
          ∙ ap (λ (u : Bool). is_utf8 (text_bytes x) && u) rest.utf8;
    }

-- the test is that of the keys
by_keys : (t : TypeId) (ks : Items) (ps : Pairs) → names_of ks ≡ key_names ps → are_utf8_keys ks ≡ are_utf8 ps
    → (gives_names t && (are_utf8_keys ks || all_differ (names_of ks))) ≡ are_named t ps
by_keys t ks ps names utf8 =
    ap (λ (u : Bool). gives_names t && (u || all_differ (names_of ks))) utf8
    ∙ ap (λ (l : List (List ℕ)). gives_names t && (are_utf8 ps || all_differ l)) names

either : (a b : Bool) → a ≡ true → (a || b) ≡ true
either true b e = refl
either false b e = absurd (true≢false (sym e))

object_shown : {lenient : Bool} {T : Table} {t e : TypeId} {js : Items} {ps : Pairs} (ms : Members)
    → are_named t ps ≡ true → AreNamed lenient T t e js ps ms → IsShown lenient T t e js (json.object ms)
object_shown {t = t} {ps = ps} ms named n = record {
  entries = n.entries;
  agree = n.agree;
  is = ap json.object n.are ∙ ap (λ (c : Bool). cond c (json.object (by_name n.entries)) (json.array n.entries))
      (sym (either _ _ (by_keys t n.entries ps n.names n.utf8 ∙ named)));
}

-- ---- as an array

record AreListed (lenient : Bool) (T : Table) (t e : TypeId) (js : Items) (ps : Pairs) (ks : Items) : Type 0 where
  agree : AreEntriesAlike lenient T t e js ks
  names : gives_names t ≡ true → names_of ks ≡ key_names ps
  utf8 : gives_names t ≡ true → are_utf8_keys ks ≡ are_utf8 ps

pairs_listed : {lenient : Bool} {T : Table} {t e : TypeId} {js : Items} {ps : Pairs} (ks : Items)
    → GoodPairs lenient T t e js ps → SayPairs guessed T t e ps ks → AreListed lenient T t e js ps ks
pairs_listed json.no_items none s = record { agree = alike.no_entry; names = λ e. refl; utf8 = λ e. refl }
pairs_listed (json.item k ks) none s = absurd s
pairs_listed json.no_items (one_more key a b g) s = absurd s
pairs_listed {lenient = lenient} {T = T} {t = t} {e = e} {js = js} (json.item k ks)
    (one_more {a = i} {b = j} {x = x} {js = is} {ps = ps} key a b g) s =
    let rest = pairs_listed ks g s.1 in
    let c = s.0.0 in
    let d = s.0.1 in
    let here = ap said_key s.0.2 in
    record {
      agree = subst (λ (l : Json). AreEntriesAlike lenient T t e (entry_item i j is) (json.item l ks)) (sym s.0.2)
          (alike.entry (a c s.0.3) (b d s.0.4) rest.agree);
      names = λ named. let gives = key.named named in
          ap (λ (l : Json). name_of l ∷ names_of ks) (here ∙ key_said T t c gives s.0.3)
          ∙ ap (λ (n : List ℕ). n ∷ names_of ks) (name_is T t gives)
          ∙ ap (λ (l : List (List ℕ)). key_text x ∷ l) (rest.names named);
      utf8 = λ named. let gives = key.named named in
          ap (λ (l : Json). not (is_object l) && are_utf8_keys ks) (here ∙ key_said T t c gives s.0.3)
          ∙ ap (λ (u : Bool). u && are_utf8_keys ks) (utf8_is T t gives)
          ∙ ap (λ (u : Bool). is_utf8 (text_bytes x) && u) (rest.utf8 named);
    }

-- no text is first, where the first key is nil
nil_first : (t : TypeId) (T : Table) (e : TypeId) {x : Tree} (v : Tree) (ps : Pairs) (k : Json) (ks : Items)
    → IsKey t x
    → SayPairs guessed T t e (pair x v ps) (json.item k ks) → (t.0 == 8) ≡ true
    → differ (key_texts (json.item k ks)) ≡ false
nil_first t T e {x = x} v ps k ks key s is =
    let null : s.0.0 ≡ json.null = subst (λ y. Says guessed T t y s.0.0) (key.nil is) s.0.3 in
    ap (λ (l : Json). differ (text_before (said_text l) (key_texts ks))) (ap said_key s.0.2 ∙ null)
    ∙ none_before (key_texts ks)
  where
    none_before : (r : Option (List (List ℕ))) → differ (text_before None r) ≡ false
    none_before None = refl
    none_before (Some l) = refl

-- neither test holds
no_test : (g u n : Bool) → (g && n) ≡ false → (g ≡ true → u ≡ n) → (g && u) ≡ false
no_test false u n e h = refl
no_test true u n e h = h refl ∙ e

both_arrays : (w i bare d : Bool) (x y z : Json) → w ≡ false → (i ≡ true → d ≡ false)
    → cond ((i && bare) && d) x z ≡ cond (w || (i && false)) y z
both_arrays true i bare d x y z e h = absurd (true≢false e)
both_arrays false true true true x y z e h = absurd (true≢false (h refl))
both_arrays false true true false x y z e h = refl
both_arrays false true false d x y z e h = refl
both_arrays false false bare d x y z e h = refl

both_empty : (g i : Bool) (x z : Json) → (g && true) ≡ false
    → cond ((i && true) && true) x z ≡ cond ((g && true) || (i && true)) x z
both_empty true i x z e = absurd (true≢false e)
both_empty false true x z e = refl
both_empty false false x z e = refl

array_is : {lenient : Bool} {T : Table} {t e : TypeId} {js : Items} {ps : Pairs} (ks : Items)
    → GoodPairs lenient T t e js ps → are_named t ps ≡ false → SayPairs guessed T t e ps ks
    → AreListed lenient T t e js ps ks → entries_json (may_be_named t ps) ks ≡ map_json t ks
array_is {t = t} json.no_items none not_named s l =
    both_empty (gives_names t) (t.0 == 8) (json.object json.no_members) (json.array json.no_items) not_named
array_is (json.item k ks) none not_named s l = absurd s
array_is json.no_items (one_more key a b g) not_named s l = absurd s
array_is {T = T} {t = t} {e = e} (json.item k ks) (one_more {x = x} {v = v} {ps = ps} key a b g) not_named s l =
    let all = json.item k ks in
    let u = are_utf8_keys all || all_differ (names_of all) in
    let n = are_utf8 (pair x v ps) || all_differ (key_names (pair x v ps)) in
    both_arrays (gives_names t && u) (t.0 == 8) (are_bare (pair x v ps)) (differ (key_texts all))
    (json.object (members_of all)) (json.object (by_name all)) (json.array all)
    (no_test (gives_names t) u n not_named (λ named.
    ap (λ (c : Bool). c || all_differ (names_of all)) (l.utf8 named)
    ∙ ap (λ (c : List (List ℕ)). are_utf8 (pair x v ps) || all_differ c) (l.names named)))
    (nil_first t T e v ps k ks key s)

-- ---- both

pub map_shown : {lenient : Bool} {T : Table} {t e : TypeId} {js : Items} {ps : Pairs} (k : Json)
    → GoodPairs lenient T t e js ps
    → IsMapOf (are_named t ps) (may_be_named t ps) (λ ms. SayMembers guessed T e ps ms)
    (λ is. SayPairs guessed T t e ps is) k → IsShown lenient T t e js k
map_shown {lenient = lenient} {T = T} {t = t} {e = e} {js = js} {ps = ps} k g s = by (are_named t ps) refl s
  where
    by : (named : Bool) → are_named t ps ≡ named
        → IsMapOf named (may_be_named t ps) (λ ms. SayMembers guessed T e ps ms) (λ is. SayPairs guessed T t e ps is) k
        → IsShown lenient T t e js k
    by true is s =
        subst (λ (l : Json). IsShown lenient T t e js l) (sym s.1)
        (object_shown s.0 is (members_named s.0 (and_parts _ _ is).0 g s.2))
    by false is s =
        let listed = pairs_listed s.0 g s.2 in
        record { entries = s.0; agree = listed.agree; is = s.1 ∙ array_is s.0 g is s.2 listed }
