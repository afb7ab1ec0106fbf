-- How names and types of values are gathered from item to item.
use Rattle.std.proofs.Common.{◌≡◌, ℕ, ◌+◌, ◌<◌, List, [], ◌∷◌, ◌++◌, length, drop, get_or, ◌∙◌, ap, sym, subst, refl}
use Rattle.std.proofs.Common.{append-nil, append_assoc, Option}
use Rattle.gob_types.specs.Table.{Table}
use Rattle.gob_types.specs.declared.id.TypeId.{TypeId}
use Rattle.gob_value.specs.Tree.{Tree}
use Rattle.gob_filled.specs.Filled.{Fillings, no_filling, filling}
use Rattle.gob_filled.specs.Filled as spelled
use Rattle.gob_filled.specs.Stream.{FilledItem, putting}
use Rattle.gob_go.specs.Calls.Reader.{GivesItems, gives_none, gives_one}
use Rattle.gob_go.specs.Ids.{defined_ids, item_ids}
use Rattle.gob_go.specs.Meaning.{IsFilled, is_filled, AreFillings, no_fillings, filling_then}
use Rattle.gob_go.specs.declared.filled.Filled.{Filled, out-Filled}
use Rattle.gob_go.specs.declared.filled.Filling.{Filling, out-Filling}
use Rattle.gob_go.specs.declared.item.GoItem.{GoItem}
use Rattle.gob_go.proofs.IdLaws.{item_left}
use Rattle.gob_source.specs.Registered.{Naming, each_once, with_naming}
use Rattle.gob_views.specs.Gathering.{filling_namings, inner_namings, item_namings, namings_behind}
use Rattle.gob_views.specs.Gathering.{types_behind, with_item}
use Rattle.gob_views.specs.Machine.Gathered.{IsGathered, ItemGiven, TypeGathered}
use Rattle.gob_views.specs.declared.gathered.Gathered.{Gathered}

defined_append : (items others : List FilledItem) → defined_ids (items ++ others)
    ≡ defined_ids items ++ defined_ids others
defined_append [] others = refl
defined_append (i ∷ items) others =
    ap (λ (l : List TypeId). item_ids i ++ l) (defined_append items others)
    ∙ sym (append_assoc (item_ids i) (defined_ids items) (defined_ids others))

once_append : (known xs ys : List Naming) → each_once known (xs ++ ys) ≡ each_once (each_once known xs) ys
once_append known [] ys = refl
once_append known (x ∷ xs) ys = once_append (with_naming known x) xs ys

namings_append : (known : List Naming) (items more : List FilledItem)
    → namings_behind known (items ++ more) ≡ namings_behind (namings_behind known items) more
namings_append known [] more = refl
namings_append known (i ∷ items) more = namings_append (each_once known (item_namings i)) items more

types_append : (known : List TypeId) (items more : List FilledItem)
    → types_behind known (items ++ more) ≡ types_behind (types_behind known items) more
types_append known [] more = refl
types_append known (i ∷ items) more = types_append (with_item known i) items more

-- ---- of fillings
-- those of so many fillings are there, and those of the others from this number on are left
pub record AreNamed (T : Table) (kept : Filled) (fs : Fillings) (number : ℕ) (old new : List Naming) : Type 0 where
  pub rest : Fillings
  pub left : AreFillings T (drop number (out-Filled kept).fillings.items) rest
  pub so : each_once old (filling_namings fs) ≡ each_once new (filling_namings rest)

pub none_named : {T : Table} {kept : Filled} {fs : Fillings} (old : List Naming)
    → AreFillings T (out-Filled kept).fillings.items fs → AreNamed T kept fs 0 old old
none_named {fs = fs} old a = record { rest = fs; left = a; so = refl }

one_more : {T : Table} {f : Filling} {fs : List Filling} {all : Fillings} {new : List Naming} (mid : List Naming)
    → AreFillings T (f ∷ fs) all
    → ((w : spelled.Filled) → IsFilled T (out-Filling f).id (out-Filling f).value w
    → new ≡ each_once (with_naming mid ((out-Filling f).id, (out-Filling f).name.items)) (inner_namings w))
    → (others : Fillings) × AreFillings T fs others
    × (each_once mid (filling_namings all) ≡ each_once new (filling_namings others))
one_more {f = f} mid (filling_then {w = w} {fs = others} m ms) kept = (
  others,
  ms,
  once_append (with_naming mid ((out-Filling f).id, (out-Filling f).name.items)) (inner_namings w)
      (filling_namings others) ∙ ap (λ (l : List Naming). each_once l (filling_namings others)) (sym (kept w m)),
)

pub filling_named : {T : Table} {kept : Filled} {fs : Fillings} {number : ℕ} {old mid new : List Naming}
    {xs : List Filling} (f : Filling) → xs ≡ (out-Filled kept).fillings.items → f ≡ get_or xs number f
    → number < length xs → AreNamed T kept fs number old mid
    → ((w : spelled.Filled) → IsFilled T (out-Filling f).id (out-Filling f).value w
    → new ≡ each_once (with_naming mid ((out-Filling f).id, (out-Filling f).name.items)) (inner_namings w))
    → AreNamed T kept fs (number + 1) old new
filling_named {T = T} {number = number} {mid = mid} {xs = xs} f same is within m kept =
    let left = ap (λ (l : List Filling). drop number l) (sym same) ∙ item_left xs number f is within in
    let n = one_more mid (subst (λ (l : List Filling). AreFillings T l m.rest) left m.left) kept in
    record {
      rest = n.0;
      left = subst (λ (l : List Filling). AreFillings T (drop (number + 1) l) n.0) same n.1;
      so = m.so ∙ n.2;
    }

no_others : {T : Table} {fs : Fillings} → AreFillings T [] fs → fs ≡ no_filling
no_others no_fillings = refl

pub inner_named : {T : Table} {kept : Filled} {t : TypeId} {w : spelled.Filled} {number : ℕ} {old new : List Naming}
    {xs : List Filling} → xs ≡ (out-Filled kept).fillings.items → drop number xs ≡ []
    → ((fs : Fillings) → AreFillings T (out-Filled kept).fillings.items fs → AreNamed T kept fs number old new)
    → IsFilled T t kept w → new ≡ each_once old (inner_namings w)
inner_named {T = T} {number = number} {new = new} same none named (is_filled {fs = fs} top a) =
    let m = named fs a in
    let left = ap (λ (l : List Filling). drop number l) (sym same) ∙ none in
    let e = no_others (subst (λ (l : List Filling). AreFillings T l m.rest) left m.left) in
    sym (m.so ∙ ap (λ (fs : Fillings). each_once new (filling_namings fs)) e)

-- ---- from item to item
pub nothing_gathered : {g : Gathered} → (g.ids.items ≡ []) × (g.names ≡ []) × (g.values.keys ≡ []) → IsGathered g []
nothing_gathered e = record { ids = e.0; names = e.1; values = e.2 }

-- an item was gathered behind others
pub one_gathered : {old new : Gathered} (items : List FilledItem) (i : FilledItem) → IsGathered old items
    → (new.ids.items ≡ old.ids.items ++ item_ids i) × (new.names ≡ each_once old.names (item_namings i))
    × (new.values.keys ≡ with_item old.values.keys i) → IsGathered new (items ++ i ∷ [])
one_gathered items i g e = record {
  ids = e.0 ∙ ap (λ (l : List TypeId). l ++ item_ids i) g.ids
      ∙ ap (λ (l : List TypeId). defined_ids items ++ l) (sym (append-nil (item_ids i)))
      ∙ sym (defined_append items (i ∷ []));
  names = e.1 ∙ ap (λ (l : List Naming). each_once l (item_namings i)) g.names ∙ sym (namings_append [] items (i ∷ []));
  values = e.2 ∙ ap (λ (l : List TypeId). with_item l i) g.values ∙ sym (types_append [] items (i ∷ []));
}

pub step_gathered : {T : Table} {o : Option GoItem} {more : List FilledItem} {old new : Gathered}
    (items : List FilledItem) → GivesItems T o more → ItemGiven o old new → IsGathered old items
    → IsGathered new (items ++ more)
step_gathered {old = old} {new = new} items gives_none e g =
    subst (λ (l : List FilledItem). IsGathered new l) (sym (append-nil items))
    (subst (λ (n : Gathered). IsGathered n items) (sym e) g)
step_gathered {T = T} items (gives_one {i = i} m) e g = one_gathered items i g (e T i m)

pub value_gathered : {old new : Gathered} (items : List FilledItem) (t : TypeId) (v : Tree) → IsGathered old items
    → TypeGathered t old new → IsGathered new (items ++ putting t (spelled.filled v no_filling) ∷ [])
value_gathered {old = old} items t v g e =
    one_gathered items (putting t (spelled.filled v no_filling)) g
    (e.0 ∙ sym (append-nil old.ids.items), e.1, e.2)
