-- What is read part by part: whatever the rest of the tokens says, it stands behind the parts that were read.
use Rattle.std.proofs.Common.{◌≡◌, ℕ, List, [], ◌∷◌, ◌++◌, ◌∙◌, refl, ap, sym, subst, append_assoc, Bool}
use Rattle.std.proofs.Common.{true, Some}
use Rattle.json.specs.Json.{Json, Items, Members, after_end_array}
use Rattle.json.specs.Json as json
use Rattle.json.specs.Token.{Token}
use Rattle.json.specs.Tree.{json_tokens, items_tokens, members_tokens}
use Rattle.gob_types.specs.declared.id.TypeId.{TypeId}
use Rattle.gob_types.specs.declared.kind.Field.{Field}
use Rattle.gob_types.specs.Table.{Table}
use Rattle.gob_value.specs.Tree.{Trees, no_tree, tree, Pairs, no_pair, pair, Fields, no_field}
use Rattle.gob_value.specs.View.{view, views, pair_views}
use Rattle.gob_value.specs.declared.value.Value.{Value}
use Rattle.gob_lines.proofs.ReadLaws.{end_is_next}
use Rattle.gob_make.specs.Leaf.{IsNamed, ReadsKey}
use Rattle.gob_make.specs.Plain.{ReadsPlain, ReadsEach, ReadsPairs, ReadsEntries, ReadsMembers}
use Rattle.gob_make.specs.Plain as plain
use Rattle.gob_make.specs.Tells.{AddsMember, Begins, BeginsItems, BeginsMembers}

-- ---- elements

-- the elements that were read, in front of others
abbrev pub then_trees : List Value → Trees → Trees
then_trees [] vs = vs
then_trees (x ∷ xs) vs = tree (view x) (then_trees xs vs)

pub one_more_tree : (xs : List Value) (x : Value) (vs : Trees)
    → then_trees (xs ++ x ∷ []) vs ≡ then_trees xs (tree (view x) vs)
one_more_tree [] x vs = refl
one_more_tree (y ∷ xs) x vs = ap (tree (view y)) (one_more_tree xs x vs)

pub all_trees : (xs : List Value) → then_trees xs no_tree ≡ views xs
all_trees [] = refl
all_trees (x ∷ xs) = ap (tree (view x)) (all_trees xs)

abbrev pub ElementsGoOn : Bool → Table → TypeId → List Value → (start now : List Token) → Type 0
ElementsGoOn lenient T e xs start now = (js : Items) (vs : Trees) (rest : List Token) → ReadsEach lenient T e js vs
    → now ≡ items_tokens js ++ rest → BeginsItems (λ is. ReadsEach lenient T e is (then_trees xs vs)) start rest

pub no_element_yet : (lenient : Bool) (T : Table) (e : TypeId) (start now : List Token) → start ≡ now
    → ElementsGoOn lenient T e [] start now
no_element_yet lenient T e start now same = λ js vs rest r s. record { items = js; holds = r; stands = same ∙ s }

pub one_more_element : (lenient : Bool) (T : Table) (e : TypeId) (xs : List Value) (x : Value)
    (start mid now : List Token) → ElementsGoOn lenient T e xs start mid
    → Begins (λ j. ReadsPlain lenient T e j (view x)) mid now → ElementsGoOn lenient T e (xs ++ x ∷ []) start now
one_more_element lenient T e xs x start mid now goes b = λ js vs rest r s.
    subst (λ ts. BeginsItems (λ is. ReadsEach lenient T e is ts) start rest) (sym (one_more_tree xs x vs))
    (goes (json.item b.json js) (tree (view x) vs) rest (plain.element b.holds r)
    (b.stands ∙ ap (λ (l : List Token). json_tokens b.json ++ l) s
    ∙ sym (append_assoc (json_tokens b.json) (items_tokens js) rest)))

pub all_elements : (lenient : Bool) (T : Table) (e : TypeId) (xs : List Value) (start now rest : List Token)
    → ElementsGoOn lenient T e xs start now → after_end_array now ≡ Some rest
    → BeginsItems (λ is. ReadsEach lenient T e is (views xs)) start rest
all_elements lenient T e xs start now rest goes end =
    subst (λ ts. BeginsItems (λ is. ReadsEach lenient T e is ts) start rest) (all_trees xs)
    (goes json.no_items no_tree rest plain.no_element (end_is_next now rest end))

-- ---- pairs

abbrev pub then_pairs : List (Value × Value) → Pairs → Pairs
then_pairs [] ps = ps
then_pairs (x ∷ xs) ps = pair (view x.0) (view x.1) (then_pairs xs ps)

one_more_of_pairs : (xs : List (Value × Value)) (k v : Value) (ps : Pairs)
    → then_pairs (xs ++ (k, v) ∷ []) ps ≡ then_pairs xs (pair (view k) (view v) ps)
one_more_of_pairs [] k v ps = refl
one_more_of_pairs (y ∷ xs) k v ps = ap (pair (view y.0) (view y.1)) (one_more_of_pairs xs k v ps)

all_of_pairs : (xs : List (Value × Value)) → then_pairs xs no_pair ≡ pair_views xs
all_of_pairs [] = refl
all_of_pairs (x ∷ xs) = ap (pair (view x.0) (view x.1)) (all_of_pairs xs)

abbrev pub PairsGoOn : Bool → Table → TypeId → TypeId → List (Value × Value) → (start now : List Token) → Type 0
PairsGoOn lenient T k e xs start now = (js : Items) (ps : Pairs) (rest : List Token) → ReadsPairs lenient T k e js ps
    → now ≡ items_tokens js ++ rest → BeginsItems (λ is. ReadsPairs lenient T k e is (then_pairs xs ps)) start rest

pub no_pair_yet : (lenient : Bool) (T : Table) (k e : TypeId) (start now : List Token) → start ≡ now
    → PairsGoOn lenient T k e [] start now
no_pair_yet lenient T k e start now same = λ js ps rest r s. record { items = js; holds = r; stands = same ∙ s }

-- the tokens of [key,element]
pub pair_stands : (a b : Json) (m0 m1 m2 m3 now : List Token) → m0 ≡ Token.begin_array ∷ m1 → m1 ≡ json_tokens a ++ m2
    → m2 ≡ json_tokens b ++ m3 → m3 ≡ Token.end_array ∷ now
    → m0 ≡ json_tokens (json.array (json.item a (json.item b json.no_items))) ++ now
pair_stands a b m0 m1 m2 m3 now e0 e1 e2 e3 =
    e0 ∙ ap (λ (l : List Token). Token.begin_array ∷ l) (e1
    ∙ ap (λ (l : List Token). json_tokens a ++ l) (e2 ∙ ap (λ (l : List Token). json_tokens b ++ l) e3
    ∙ sym (append_assoc (json_tokens b) (Token.end_array ∷ []) now))
    ∙ sym (append_assoc (json_tokens a) (json_tokens b ++ Token.end_array ∷ []) now))

pub one_more_pair : (lenient : Bool) (T : Table) (k e : TypeId) (xs : List (Value × Value)) (x v : Value)
    (start mid m1 m2 m3 now : List Token) → PairsGoOn lenient T k e xs start mid → mid ≡ Token.begin_array ∷ m1
    → Begins (λ j. ReadsPlain lenient T k j (view x)) m1 m2 → Begins (λ j. ReadsPlain lenient T e j (view v)) m2 m3
    → m3 ≡ Token.end_array ∷ now → PairsGoOn lenient T k e (xs ++ (x, v) ∷ []) start now
one_more_pair lenient T k e xs x v start mid m1 m2 m3 now goes begun a b close = λ js ps rest r s.
    let j = json.array (json.item a.json (json.item b.json json.no_items)) in
    subst (λ qs. BeginsItems (λ is. ReadsPairs lenient T k e is qs) start rest) (sym (one_more_of_pairs xs x v ps))
    (goes (json.item j js) (pair (view x) (view v) ps) rest (plain.one_pair a.holds b.holds r)
    (pair_stands a.json b.json mid m1 m2 m3 now begun a.stands b.stands close
    ∙ ap (λ (l : List Token). json_tokens j ++ l) s ∙ sym (append_assoc (json_tokens j) (items_tokens js) rest)))

pub all_pairs : (lenient : Bool) (T : Table) (k e : TypeId) (xs : List (Value × Value)) (start now rest : List Token)
    → PairsGoOn lenient T k e xs start now → after_end_array now ≡ Some rest
    → BeginsItems (λ is. ReadsPairs lenient T k e is (pair_views xs)) start rest
all_pairs lenient T k e xs start now rest goes end =
    subst (λ ps. BeginsItems (λ is. ReadsPairs lenient T k e is ps) start rest) (all_of_pairs xs)
    (goes json.no_items no_pair rest plain.no_more_pairs (end_is_next now rest end))

-- ---- entries

abbrev pub EntriesGoOn : Bool → Table → TypeId → TypeId → List (Value × Value) → (start now : List Token) → Type 0
EntriesGoOn lenient T k e xs start now = (ms : Members) (ps : Pairs) (rest : List Token)
    → ReadsEntries lenient T k e ms ps → now ≡ members_tokens ms ++ rest
    → BeginsMembers (λ is. ReadsEntries lenient T k e is (then_pairs xs ps)) start rest

pub no_entry_yet : (lenient : Bool) (T : Table) (k e : TypeId) (start now : List Token) → start ≡ now
    → EntriesGoOn lenient T k e [] start now
no_entry_yet lenient T k e start now same = λ ms ps rest r s. record { members = ms; holds = r; stands = same ∙ s }

pub one_more_entry : (lenient : Bool) (T : Table) (k e : TypeId) (xs : List (Value × Value)) (x v : Value)
    (name : List ℕ) (start mid m1 now : List Token) → EntriesGoOn lenient T k e xs start mid
    → mid ≡ Token.key name ∷ m1 → ReadsKey T k name (view x) → Begins (λ j. ReadsPlain lenient T e j (view v)) m1 now
    → EntriesGoOn lenient T k e (xs ++ (x, v) ∷ []) start now
one_more_entry lenient T k e xs x v name start mid m1 now goes begun key b = λ ms ps rest r s.
    subst (λ qs. BeginsMembers (λ is. ReadsEntries lenient T k e is qs) start rest) (sym (one_more_of_pairs xs x v ps))
    (goes (json.member name b.json ms) (pair (view x) (view v) ps) rest (plain.entry key b.holds r)
    (begun ∙ ap (λ (l : List Token). Token.key name ∷ l) (b.stands
    ∙ ap (λ (l : List Token). json_tokens b.json ++ l) s
    ∙ sym (append_assoc (json_tokens b.json) (members_tokens ms) rest))))

pub all_entries : (lenient : Bool) (T : Table) (k e : TypeId) (xs : List (Value × Value)) (start now rest : List Token)
    → EntriesGoOn lenient T k e xs start now → now ≡ Token.end_object ∷ rest
    → BeginsMembers (λ is. ReadsEntries lenient T k e is (pair_views xs)) start rest
all_entries lenient T k e xs start now rest goes end =
    subst (λ ps. BeginsMembers (λ is. ReadsEntries lenient T k e is ps) start rest) (all_of_pairs xs)
    (goes json.no_members no_pair rest plain.no_entry end)

-- ---- members

abbrev pub MembersGoOn : Bool → Table → List Field → Fields → (start now : List Token) → Type 0
MembersGoOn lenient T types fs start now = (ms : Members) (gs : Fields) (rest : List Token)
    → ReadsMembers lenient T types fs ms gs → now ≡ members_tokens ms ++ rest
    → BeginsMembers (λ is. ReadsMembers lenient T types no_field is gs) start rest

pub no_member_yet : (lenient : Bool) (T : Table) (types : List Field) (start now : List Token) → start ≡ now
    → MembersGoOn lenient T types no_field start now
no_member_yet lenient T types start now same = λ ms gs rest r s. record { members = ms; holds = r; stands = same ∙ s }

member_stands : (j : Json) (name : List ℕ) (ms : Members) (mid m1 now rest : List Token) → mid ≡ Token.key name ∷ m1
    → m1 ≡ json_tokens j ++ now → now ≡ members_tokens ms ++ rest
    → mid ≡ members_tokens (json.member name j ms) ++ rest
member_stands j name ms mid m1 now rest begun stands s =
    begun ∙ ap (λ (l : List Token). Token.key name ∷ l) (stands ∙ ap (λ (l : List Token). json_tokens j ++ l) s
    ∙ sym (append_assoc (json_tokens j) (members_tokens ms) rest))

pub one_more_member : (lenient : Bool) (T : Table) (types : List Field) (number : ℕ) (e : Field) (fs more : Fields)
    (name : List ℕ) (start mid m1 now : List Token) → MembersGoOn lenient T types fs start mid
    → mid ≡ Token.key name ∷ m1 → IsNamed types number name e → AddsMember lenient T types number fs more m1 now
    → MembersGoOn lenient T types more start now
one_more_member lenient T types number e fs more name start mid m1 now goes begun named a = λ ms gs rest r s.
    goes (json.member name a.value ms) gs rest (a.adds name e named ms gs r)
    (member_stands a.value name ms mid m1 now rest begun a.stands s)

pub one_left_out : (lenient : Bool) (T : Table) (types : List Field) (fs : Fields) (name : List ℕ) (j : Json)
    (start mid m1 now : List Token) → MembersGoOn lenient T types fs start mid → mid ≡ Token.key name ∷ m1
    → lenient ≡ true → plain.IsUnknown types name → m1 ≡ json_tokens j ++ now
    → MembersGoOn lenient T types fs start now
one_left_out lenient T types fs name j start mid m1 now goes begun may unknown stands = λ ms gs rest r s.
    goes (json.member name j ms) gs rest (plain.left_out may unknown r)
    (member_stands j name ms mid m1 now rest begun stands s)

pub all_members : (lenient : Bool) (T : Table) (types : List Field) (fs : Fields) (start now rest : List Token)
    → MembersGoOn lenient T types fs start now → now ≡ Token.end_object ∷ rest
    → BeginsMembers (λ is. ReadsMembers lenient T types no_field is fs) start rest
all_members lenient T types fs start now rest goes end = goes json.no_members fs rest plain.no_more end
