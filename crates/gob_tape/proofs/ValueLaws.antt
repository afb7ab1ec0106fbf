-- How the values of whole parts are made of nodes, from the last to the first.
use Rattle.std.proofs.Common.{Vec, Global, ◌≡◌, ℕ, ◌+◌, ◌-◌, ◌<◌, ◌≤◌, List, [], ◌∷◌, ◌++◌, length, take, drop, map}
use Rattle.std.proofs.Common.{reverse, get_or, Option, Some, None, arith, refl, sym, ap, ◌∙◌, subst}
use Rattle.std.specs.Prelude.{slice_get}
use Rattle.std.specs.Option.{unwrap_or}
use Rattle.std.proofs.lemmas.List.{reverse-append}
use Rattle.std.proofs.lemmas.Option.{get_or_from_slice_get, slice_get-get_or}
use Rattle.gob_types.specs.declared.basic.Basic.{Basic}
use Rattle.gob_value.specs.declared.value.Value.{Value, Nil, Many, Pairs as ValuePairs, Fields as ValueFields}
use Rattle.gob_value.specs.Tree.{Tree, Trees, no_tree, tree, Pairs, no_pair, pair, Fields, no_field, field, tree_count}
use Rattle.gob_value.specs.Tree.{pair_count}
use Rattle.gob_value.specs.Tree as Value
use Rattle.gob_value.specs.View.{view, views, pair_views, field_views}
use Rattle.gob_value.proofs.PublicLaws.{view-Many, view-Pairs, view-Fields}
use Rattle.gob_read.specs.declared.event.RawKind.{RawKind}
use Rattle.gob_read.specs.declared.event.GroupKind.TheVariants as group
use Rattle.gob_read.specs.Leaf.{number_tree, raw_tree}
use Rattle.gob_tape.specs.declared.node.Content.{Content}
use Rattle.gob_tape.specs.declared.node.Content.TheVariants as content
use Rattle.gob_tape.specs.declared.node.Node.{Node}
use Rattle.gob_tape.specs.Meaning.{field_count}
use Rattle.gob_tape.specs.Machine.Values.{parts_on, TakesPart, TakesElements, TakesPairs, TakesFields, IsContentOf}
use Rattle.gob_tape.specs.Machine.Values.{TakesValue}
use Rattle.gob_tape.specs.Seeing.{elements, alternating, present, parts_of, AreParts, no_more, one_more}
use Rattle.gob_tape.proofs.MeaningLaws.{Says, node_says, at_rises}
use Rattle.gob_tape.proofs.BegunLaws.{last_first}
use Rattle.gob_tape.proofs.SeeingLaws.{says_parts, parts_rise, number_parts, raw_parts}

-- ---- the parts on a stack

pub on_pushed : (ps : List (Option ℕ × Value)) (p : Option ℕ × Value) → parts_on (ps ++ p ∷ []) ≡ (p.0, view p.1) ∷
    parts_on ps
on_pushed ps p = ap (map (λ p. (p.0, view p.1))) (reverse-append ps (p ∷ []))

-- ---- elements

-- these values, and then these trees
abbrev pub before_trees : List Value → Trees → Trees
before_trees [] ts = ts
before_trees (v ∷ vs) ts = tree (view v) (before_trees vs ts)

abbrev pub before_pairs : List (Value × Value) → Pairs → Pairs
before_pairs [] ts = ts
before_pairs (p ∷ ps) ts = pair (view p.0) (view p.1) (before_pairs ps ts)

abbrev pub before_fields : List (ℕ × Value) → Fields → Fields
before_fields [] ts = ts
before_fields (f ∷ fs) ts = field f.0 (view f.1) (before_fields fs ts)

tree_behind : (vs : List Value) (v : Value) (ts : Trees) → before_trees (vs ++ v ∷ []) ts ≡ before_trees vs
    (tree (view v) ts)
tree_behind [] v ts = refl
tree_behind (w ∷ vs) v ts = ap (tree (view w)) (tree_behind vs v ts)

pair_behind : (vs : List (Value × Value)) (v : Value × Value) (ts : Pairs)
    → before_pairs (vs ++ v ∷ []) ts ≡ before_pairs vs (pair (view v.0) (view v.1) ts)
pair_behind [] v ts = refl
pair_behind (w ∷ vs) v ts = ap (pair (view w.0) (view w.1)) (pair_behind vs v ts)

field_behind : (vs : List (ℕ × Value)) (v : ℕ × Value) (ts : Fields) → before_fields (vs ++ v ∷ []) ts ≡ before_fields
    vs (field v.0 (view v.1) ts)
field_behind [] v ts = refl
field_behind (w ∷ vs) v ts = ap (field w.0 (view w.1)) (field_behind vs v ts)

all_trees : (vs : List Value) → before_trees vs no_tree ≡ views vs
all_trees [] = refl
all_trees (v ∷ vs) = ap (tree (view v)) (all_trees vs)

all_pairs : (vs : List (Value × Value)) → before_pairs vs no_pair ≡ pair_views vs
all_pairs [] = refl
all_pairs (v ∷ vs) = ap (pair (view v.0) (view v.1)) (all_pairs vs)

all_fields : (vs : List (ℕ × Value)) → before_fields vs no_field ≡ field_views vs
all_fields [] = refl
all_fields (v ∷ vs) = ap (field v.0 (view v.1)) (all_fields vs)

-- so many elements were taken, and these are left
pub record ElementsLeft (taken count : ℕ) (values : List Value) (now : List (Option ℕ × Tree)) (vs : Trees)
    (rest : List (Option ℕ × Tree)) : Type 0 where
  pub left : Trees
  pub number : taken + tree_count left ≡ count
  pub stack : now ≡ elements left ++ rest
  pub all : before_trees values left ≡ vs

pub record PairsLeft (taken count : ℕ) (values : List (Value × Value)) (now : List (Option ℕ × Tree)) (vs : Pairs)
    (rest : List (Option ℕ × Tree)) : Type 0 where
  pub left : Pairs
  pub number : taken + pair_count left ≡ count
  pub stack : now ≡ alternating left ++ rest
  pub all : before_pairs values left ≡ vs

pub record FieldsLeft (taken count : ℕ) (values : List (ℕ × Value)) (now : List (Option ℕ × Tree)) (vs : Fields)
    (rest : List (Option ℕ × Tree)) : Type 0 where
  pub left : Fields
  pub number : taken + field_count left ≡ count
  pub stack : now ≡ present left ++ rest
  pub all : before_fields values left ≡ vs

-- where the elements come first
abbrev pub ElementsGo : ℕ → ℕ → List Value → List (Option ℕ × Tree) → List (Option ℕ × Tree) → Type 0
ElementsGo taken count values old now = (vs : Trees) (rest : List (Option ℕ × Tree)) → count ≡ tree_count vs
    → old ≡ elements vs ++ rest → ElementsLeft taken count values now vs rest

abbrev pub PairsGo : ℕ → ℕ → List (Value × Value) → List (Option ℕ × Tree) → List (Option ℕ × Tree) → Type 0
PairsGo taken count values old now = (vs : Pairs) (rest : List (Option ℕ × Tree)) → count ≡ pair_count vs
    → old ≡ alternating vs ++ rest → PairsLeft taken count values now vs rest

abbrev pub FieldsGo : ℕ → ℕ → List (ℕ × Value) → List (Option ℕ × Tree) → List (Option ℕ × Tree) → Type 0
FieldsGo taken count values old now = (vs : Fields) (rest : List (Option ℕ × Tree)) → count ≡ field_count vs
    → old ≡ present vs ++ rest → FieldsLeft taken count values now vs rest

pub elements_start : {count : ℕ} {values : List Value} {old : List (Option ℕ × Tree)} → values ≡ []
    → ElementsGo 0 count values old old
elements_start e vs rest c o = record {
  left = vs;
  number = omega arith;
  stack = o;
  all =
      ap (λ l. before_trees l vs) e;
}

pub pairs_start : {count : ℕ} {values : List (Value × Value)} {old : List (Option ℕ × Tree)} → values ≡ []
    → PairsGo 0 count values old old
pairs_start e vs rest c o = record { left = vs; number = omega arith; stack = o; all = ap (λ l. before_pairs l vs) e }

pub fields_start : {count : ℕ} {values : List (ℕ × Value)} {old : List (Option ℕ × Tree)} → values ≡ []
    → FieldsGo 0 count values old old
fields_start e vs rest c o = record { left = vs; number = omega arith; stack = o; all = ap (λ l. before_fields l vs) e }

-- a part is taken where one comes first
abbrev pub TakesFirst : Option ℕ × Value → List (Option ℕ × Tree) → List (Option ℕ × Tree) → Type 0
TakesFirst part old new = (f : Option ℕ) (v : Tree) (rest : List (Option ℕ × Tree)) → old ≡ (f, v) ∷ rest
    → TakesPart f v rest part new

pub elements_on : {taken count : ℕ} {values more : List Value} {old now new : List (Option ℕ × Tree)} (part : Option ℕ
    × Value) → ElementsGo taken count values old now → taken < count → TakesFirst part now new
    → more ≡ values ++ part.1 ∷ [] → ElementsGo (taken + 1) count more old new
elements_on {taken = taken} {count = count} {values = values} {more = more} {now = now} {new = new} part g l t e vs rest
    c o = let x = g vs rest c o in by x.left x.number x.stack x.all
  where
    by : (left : Trees) → taken + tree_count left ≡ count → now ≡ elements left ++ rest → before_trees values left ≡ vs
        → ElementsLeft (taken + 1) count more new vs rest
    by no_tree n s a = absurd (omega arith)
    by (tree v ts) n s a =
        let p = t None v (elements ts ++ rest) s in
        record {
          left = ts;
          number = omega arith;
          stack = p.others;
          all = ap (λ l. before_trees l ts) e ∙ tree_behind values part.1 ts
              ∙ ap (λ v. before_trees values (tree v ts)) p.value ∙ a;
        }

pub pairs_on : {taken count : ℕ} {values more : List (Value × Value)} {old now mid new : List (Option ℕ × Tree)}
    (key elem : Option ℕ × Value) → PairsGo taken count values old now → taken < count
    → TakesFirst key now mid → TakesFirst elem mid new → more ≡ values ++ (key.1, elem.1) ∷ []
    → PairsGo (taken + 1) count more old new
pairs_on {taken = taken} {count = count} {values = values} {more = more} {now = now} {new = new} key elem g l t u e vs
    rest c o = let x = g vs rest c o in by x.left x.number x.stack x.all
  where
    by : (left : Pairs) → taken + pair_count left ≡ count → now ≡ alternating left ++ rest
        → before_pairs values left ≡ vs → PairsLeft (taken + 1) count more new vs rest
    by no_pair n s a = absurd (omega arith)
    by (pair k v ts) n s a =
        let p = t None k ((None, v) ∷ (alternating ts ++ rest)) s in
        let q = u None v (alternating ts ++ rest) p.others in
        record {
          left = ts;
          number = omega arith;
          stack = q.others;
          all =
              ap (λ l. before_pairs l ts) e ∙ pair_behind values (key.1, elem.1) ts
              ∙ ap (λ k. before_pairs values (pair k (view elem.1) ts)) p.value
              ∙ ap (λ v. before_pairs values (pair k v ts)) q.value ∙ a;
        }

pub fields_on : {taken count number : ℕ} {values more : List (ℕ × Value)} {old now new : List (Option ℕ × Tree)}
    (part : Option ℕ × Value) → FieldsGo taken count values old now → taken < count → TakesFirst part now new
    → ((f : ℕ) → part.0 ≡ Some f → number ≡ f) → more ≡ values ++ (number, part.1) ∷ []
    → FieldsGo (taken + 1) count more old new
fields_on {taken = taken} {count = count} {number = number} {values = values} {more = more} {now = now} {new = new} part
    g l t same e vs rest c o = let x = g vs rest c o in by x.left x.number x.stack x.all
  where
    by : (left : Fields) → taken + field_count left ≡ count → now ≡ present left ++ rest
        → before_fields values left ≡ vs → FieldsLeft (taken + 1) count more new vs rest
    by no_field n s a = absurd (omega arith)
    by (field f v ts) n s a =
        let p = t (Some f) v (present ts ++ rest) s in
        record {
          left = ts;
          number = omega arith;
          stack = p.others;
          all =
              ap (λ l. before_fields l ts) e ∙ field_behind values (number, part.1) ts
              ∙ ap (λ n. before_fields values (field n (view part.1) ts)) (same f p.number)
              ∙ ap (λ v. before_fields values (field f v ts)) p.value ∙ a;
        }

pub elements_end : {taken count : ℕ} {values : List Value} {old now : List (Option ℕ × Tree)} → count ≤ taken
    → ElementsGo taken count values old now → TakesElements count values old now
elements_end {taken = taken} {count = count} {values = values} {now = now} l g vs rest c o = let x = g vs rest c o in
    by x.left x.number x.stack x.all
  where
    by : (left : Trees) → taken + tree_count left ≡ count → now ≡ elements left ++ rest → before_trees values left ≡ vs
        → (views values ≡ vs) × (now ≡ rest)
    by no_tree n s a = (sym (all_trees values) ∙ a, s)
    by (tree v ts) n s a = absurd (omega arith)

pub pairs_end : {taken count : ℕ} {values : List (Value × Value)} {old now : List (Option ℕ × Tree)} → count ≤ taken
    → PairsGo taken count values old now → TakesPairs count values old now
pairs_end {taken = taken} {count = count} {values = values} {now = now} l g vs rest c o = let x = g vs rest c o in
    by x.left x.number x.stack x.all
  where
    by : (left : Pairs) → taken + pair_count left ≡ count → now ≡ alternating left ++ rest
        → before_pairs values left ≡ vs → (pair_views values ≡ vs) × (now ≡ rest)
    by no_pair n s a = (sym (all_pairs values) ∙ a, s)
    by (pair k v ts) n s a = absurd (omega arith)

pub fields_end : {taken count : ℕ} {values : List (ℕ × Value)} {old now : List (Option ℕ × Tree)} → count ≤ taken
    → FieldsGo taken count values old now → TakesFields count values old now
fields_end {taken = taken} {count = count} {values = values} {now = now} l g vs rest c o = let x = g vs rest c o in
    by x.left x.number x.stack x.all
  where
    by : (left : Fields) → taken + field_count left ≡ count → now ≡ present left ++ rest
        → before_fields values left ≡ vs → (field_views values ≡ vs) × (now ≡ rest)
    by no_field n s a = (sym (all_fields values) ∙ a, s)
    by (field f v ts) n s a = absurd (omega arith)

-- ---- a part

list_taken : (pool : List ℕ) (values : List Value) (count extent : ℕ) {made : Tree} {old new : List (Option ℕ × Tree)}
    → made ≡ Value.many (views values) → TakesElements count values old new
    → TakesValue pool (content.Group group.Many count extent) made old new
list_taken pool values count extent e t v rest (vs, (n, w)) o =
    let g = t vs rest n (o ∙ ap (λ v. parts_of v ++ rest) w) in
    (e ∙ ap Value.many g.0 ∙ sym w, g.1)

map_taken : (pool : List ℕ) (values : List (Value × Value)) (count extent : ℕ) {made : Tree}
    {old new : List (Option ℕ × Tree)} → made ≡ Value.pairs (pair_views values) → TakesPairs count values old new
    → TakesValue pool (content.Group group.Pairs count extent) made old new
map_taken pool values count extent e t v rest (vs, (n, w)) o =
    let g = t vs rest n (o ∙ ap (λ v. parts_of v ++ rest) w) in
    (e ∙ ap Value.pairs g.0 ∙ sym w, g.1)

struct_taken : (pool : List ℕ) (values : List (ℕ × Value)) (count extent : ℕ) {made : Tree}
    {old new : List (Option ℕ × Tree)} → made ≡ Value.fields (field_views values) → TakesFields count values old new
    → TakesValue pool (content.Group group.Fields count extent) made old new
struct_taken pool values count extent e t v rest (vs, (n, w)) o =
    let g = t vs rest n (o ∙ ap (λ v. parts_of v ++ rest) w) in
    (e ∙ ap Value.fields g.0 ∙ sym w, g.1)

pub list_value : (pool : List ℕ) (values : Vec Value Global) (count extent : ℕ) {old new : List (Option ℕ × Tree)}
    → TakesElements count values.items old new
    → TakesValue pool (content.Group group.Many count extent) (view (Many values)) old new
list_value pool values count extent t = list_taken pool values.items count extent (view-Many values) t

pub map_value : (pool : List ℕ) (values : Vec (Value × Value) Global) (count extent : ℕ)
    {old new : List (Option ℕ × Tree)} → TakesPairs count values.items old new
    → TakesValue pool (content.Group group.Pairs count extent) (view (ValuePairs values)) old new
map_value pool values count extent t = map_taken pool values.items count extent (view-Pairs values) t

pub struct_value : (pool : List ℕ) (values : Vec (ℕ × Value) Global) (count extent : ℕ)
    {old new : List (Option ℕ × Tree)} → TakesFields count values.items old new
    → TakesValue pool (content.Group group.Fields count extent) (view (ValueFields values)) old new
struct_value pool values count extent t = struct_taken pool values.items count extent (view-Fields values) t

pub number_value : (pool : List ℕ) {made : Tree} {old : List (Option ℕ × Tree)} (k : Basic) (a b : ℕ)
    → made ≡ number_tree k a b → TakesValue pool (content.Number k a b) made old old
number_value pool k a b e v rest w o = (
  e ∙ sym w,
  o ∙ ap (λ v. parts_of v ++ rest) w
      ∙ ap (λ xs. xs ++ rest) (number_parts k a b),
)

pub raw_value : (pool : List ℕ) {bytes : List ℕ} {made : Tree} {old : List (Option ℕ × Tree)} (k : RawKind)
    (start count : ℕ) → (start + count ≤ length pool → bytes ≡ take count (drop start pool)) → made ≡ raw_tree k bytes
    → TakesValue pool (content.Raw k start count) made old old
raw_value pool k start count r e v rest (l, w) o = (
  e ∙ ap (raw_tree k) (r l) ∙ sym w,
  o
      ∙ ap (λ v. parts_of v ++ rest) w ∙ ap (λ xs. xs ++ rest) (raw_parts k (take count (drop start pool))),
)

-- ---- the nodes behind a place

says_content : (nodes : List Node) (pool : List ℕ) (i j : ℕ) (v : Tree) (c : Content) → Says nodes pool c i j v
    → IsContentOf pool c v
says_content nodes pool i j v (content.Number k a b) s = s.value
says_content nodes pool i j v (content.Raw k start count) s = (s.within, s.value)
says_content nodes pool i j v (content.Group group.Many count extent) s = (s.parts, (s.counts, s.value))
says_content nodes pool i j v (content.Group group.Pairs count extent) s = (s.parts, (s.counts, s.value))
says_content nodes pool i j v (content.Group group.Fields count extent) s = (s.parts, (s.counts, s.value))

parts_then : {nodes : List Node} {pool : List ℕ} {i j k : ℕ} {xs ys : List (Option ℕ × Tree)}
    → AreParts nodes pool i j xs → AreParts nodes pool j k ys → AreParts nodes pool i k (xs ++ ys)
parts_then no_more q = q
parts_then (one_more m p) q = one_more m (parts_then p q)

-- the parts from this place on are on the stack
abbrev pub Stacked : List Node → List ℕ → ℕ → List (Option ℕ × Value) → Type 0
Stacked nodes pool i parts = (xs : List (Option ℕ × Tree)) → AreParts nodes pool i (length nodes) xs
    → parts_on parts ≡ xs

pub stacked_start : {nodes : List Node} {pool : List ℕ} {i : ℕ} {parts : List (Option ℕ × Value)} → i ≡ length nodes
    → parts ≡ [] → Stacked nodes pool i parts
stacked_start {parts = parts} e p [] m = ap parts_on p
stacked_start {nodes = nodes} {pool = pool} {i = i} e p (x ∷ xs) m = absurd (by m refl)
  where
    by : {j : ℕ} → AreParts nodes pool i j (x ∷ xs) → j ≡ length nodes → ⊥
    by (one_more m ms) h = omega (arith, at_rises m, parts_rise ms)

pub stacked_on : {nodes : List Node} {pool : List ℕ} (i : ℕ) (parts mid : List (Option ℕ × Value))
    {more : List (Option ℕ × Value)} (value : Value) (x : Node) → slice_get nodes i ≡ Some x → i < length nodes
    → Stacked nodes pool (i + 1) parts
    → TakesValue pool x.content (view value) (parts_on parts) (parts_on mid) → more ≡ mid ++ (x.field, value) ∷ []
    → Stacked nodes pool i more
stacked_on {nodes = nodes} {pool = pool} i parts mid {more = more} value x t l s g e ys m = by m refl
  where
    by : {j : ℕ} {ys : List (Option ℕ × Tree)} → AreParts nodes pool i j ys → j ≡ length nodes → parts_on more ≡ ys
    by no_more h = absurd (omega arith)
    by (one_more {j = j} {f = f} {v = v} {xs = xs} m ms) h =
        let n = node_says x.content t m in
        let rest = subst (λ k. AreParts nodes pool j k xs) h ms in
        let before = s (parts_of v ++ xs) (parts_then (says_parts nodes pool i j v x.content n.1) rest) in
        let made = g v xs (says_content nodes pool i j v x.content n.1) before in
        ap parts_on e ∙ on_pushed mid (x.field, value) ∙ ap (λ f. (f, view value) ∷ parts_on mid) n.0
        ∙ ap (λ w. (f, w) ∷ parts_on mid) made.0 ∙ ap (λ l. (f, v) ∷ l) made.1

first_taken : (old new : List (Option ℕ × Value)) (x part : Option ℕ × Value) → reverse old ≡ x ∷ reverse new → part ≡ x
    → TakesFirst part (parts_on old) (parts_on new)
first_taken old new x part top e f v rest h =
    let both : (x.0, view x.1) ∷ parts_on new ≡ (f, v) ∷ rest = sym (ap (map (λ p. (p.0, view p.1))) top) ∙ h in
    let same : ◌≡◌ {A = Option ℕ × Tree} (x.0, view x.1) (f, v) = cc in
    let others : parts_on new ≡ rest = cc in
    record {
      number = ap (λ p. p.0) e ∙ ap (λ p. p.0) same;
      value = ap (λ p. view p.1) e ∙ ap (λ p. p.1) same;
      others =
          others;
    }

pub popped : (old new : List (Option ℕ × Value)) (n : ℕ) (r : Option (Option ℕ × Value)) (part : Option ℕ × Value)
    → n ≡ length old → ((d : Option ℕ × Value) → 0 < n → r ≡ Some (get_or old (n - 1) d))
    → new ≡ take (n - 1) old → part ≡ unwrap_or r (None, Nil) → TakesFirst part (parts_on old) (parts_on new)
popped [] new n r part l g t e = λ f v rest h. absurd (cc)
popped (y ∷ ys) new n r part l g t e =
    let old = y ∷ ys in
    let x = get_or old (n - 1) y in
    let there : x ≡ get_or old (n - 1) x =
    sym (get_or_from_slice_get old (n - 1) x x (slice_get-get_or old (n - 1) y (omega arith))) in
    first_taken old new x part (last_first old (n - 1) x (omega arith) there ∙ ap (λ l. x ∷ reverse l) (sym t)) (e
    ∙ ap (λ r. unwrap_or r (None, Nil)) (g y (omega arith)))
