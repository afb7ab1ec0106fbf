-- The ids of what items define: how they are gathered.
use Rattle.std.proofs.Common.{◌≡◌, ℕ, ◌+◌, ◌<◌, List, [], ◌∷◌, ◌++◌, length, drop, get_or, ◌∙◌, ap, sym, subst}
use Rattle.std.proofs.Common.{refl, append_assoc, append-nil}
use Rattle.std.proofs.lemmas.List.{drop_more}
use Rattle.gob_types.specs.Table.{Table}
use Rattle.gob_types.specs.declared.id.TypeId.{TypeId}
use Rattle.gob_value.specs.declared.value.Value.{Value}
use Rattle.gob_filled.specs.Filled.{Definitions, Fillings, no_filling, filling}
use Rattle.gob_filled.specs.Filled as spelled
use Rattle.gob_filled.specs.Stream.{FilledItem}
use Rattle.gob_go.specs.Ids.{definition_ids, inner_ids, filling_ids, item_ids}
use Rattle.gob_go.specs.Meaning.{IsFilled, is_filled, AreFillings, no_fillings, filling_then, definitions_of}
use Rattle.gob_go.specs.Meaning.{ItemMeans, means_definition, means_value}
use Rattle.gob_go.specs.declared.filled.Definition.{Definition}
use Rattle.gob_go.specs.declared.filled.Filled.{Filled, out-Filled}
use Rattle.gob_go.specs.declared.filled.Filling.{Filling, out-Filling}
use Rattle.gob_go.specs.declared.item.GoItem.{GoItem}
use Rattle.gob_go.specs.declared.item.GoItem.TheVariants as item

-- the items of a list from this one on
pub item_left : {X : Type 0} (xs : List X) (i : ℕ) (x : X) → x ≡ get_or xs i x → i < length xs
    → drop i xs ≡ x ∷ drop (i + 1) xs
item_left xs i x is l = drop_more xs i x l ∙ ap (λ y. y ∷ drop (i + 1) xs) (sym is)

-- ---- of definitions, one by one
pub definition_kept : {new : List TypeId} (old mid : List TypeId) (ds : List Definition) (i : ℕ) (d : Definition)
    → d ≡ get_or ds i d → i < length ds
    → old ++ definition_ids (definitions_of ds) ≡ mid ++ definition_ids (definitions_of (drop i ds))
    → new ≡ mid ++ d.id ∷ []
    → old ++ definition_ids (definitions_of ds) ≡ new ++ definition_ids (definitions_of (drop (i + 1) ds))
definition_kept old mid ds i d is within so kept =
    let rest = definition_ids (definitions_of (drop (i + 1) ds)) in
    so ∙ ap (λ (l : List Definition). mid ++ definition_ids (definitions_of l)) (item_left ds i d is within)
    ∙ sym (append_assoc mid (d.id ∷ []) rest) ∙ ap (λ (l : List TypeId). l ++ rest) (sym kept)

pub definitions_kept : {new : List TypeId} (old : List TypeId) (ds : List Definition) (i : ℕ) → drop i ds ≡ []
    → old ++ definition_ids (definitions_of ds) ≡ new ++ definition_ids (definitions_of (drop i ds))
    → new ≡ old ++ definition_ids (definitions_of ds)
definitions_kept {new = new} old ds i none so =
    sym (so ∙ ap (λ (l : List Definition). new ++ definition_ids (definitions_of l)) none ∙ append-nil new)

-- ---- of fillings
-- those of so many fillings are there, and those of the others from this number on are left
pub record AreKept (T : Table) (kept : Filled) (fs : Fillings) (number : ℕ) (old new : List TypeId) : Type 0 where
  pub rest : Fillings
  pub left : AreFillings T (drop number (out-Filled kept).fillings.items) rest
  pub so : old ++ filling_ids fs ≡ new ++ filling_ids rest

pub none_kept : {T : Table} {kept : Filled} {fs : Fillings} (old : List TypeId)
    → AreFillings T (out-Filled kept).fillings.items fs → AreKept T kept fs 0 old old
none_kept {fs = fs} old a = record { rest = fs; left = a; so = refl }

one_more : {T : Table} {f : Filling} {fs : List Filling} {all : Fillings} {new : List TypeId} (mid : List TypeId)
    → AreFillings T (f ∷ fs) all
    → ((w : spelled.Filled) → IsFilled T (out-Filling f).id (out-Filling f).value w
    → new ≡ mid ++ (definition_ids (definitions_of (out-Filling f).definitions.items) ++ inner_ids w))
    → (others : Fillings) × AreFillings T fs others × (mid ++ filling_ids all ≡ new ++ filling_ids others)
one_more {f = f} mid (filling_then {w = w} {fs = others} m ms) kept =
    let ds = definition_ids (definitions_of (out-Filling f).definitions.items) in
    let rest = filling_ids others in (
      others,
      ms,
      ap (λ (l : List TypeId). mid ++ l) (sym (append_assoc ds (inner_ids w) rest))
          ∙ sym (append_assoc mid (ds ++ inner_ids w) rest) ∙ ap (λ (l : List TypeId). l ++ rest) (sym (kept w m)),
    )

pub filling_kept : {T : Table} {kept : Filled} {fs : Fillings} {number : ℕ} {old mid new : List TypeId}
    {xs : List Filling} (f : Filling) → xs ≡ (out-Filled kept).fillings.items → f ≡ get_or xs number f
    → number < length xs → AreKept T kept fs number old mid
    → ((w : spelled.Filled) → IsFilled T (out-Filling f).id (out-Filling f).value w
    → new ≡ mid ++ (definition_ids (definitions_of (out-Filling f).definitions.items) ++ inner_ids w))
    → AreKept T kept fs (number + 1) old new
filling_kept {T = T} {number = number} {mid = mid} {xs = xs} f same is within m kept =
    let left = ap (λ (l : List Filling). drop number l) (sym same) ∙ item_left xs number f is within in
    let n = one_more mid (subst (λ (l : List Filling). AreFillings T l m.rest) left m.left) kept in
    record {
      rest = n.0;
      left = subst (λ (l : List Filling). AreFillings T (drop (number + 1) l) n.0) same n.1;
      so = m.so ∙ n.2;
    }

no_others : {T : Table} {fs : Fillings} → AreFillings T [] fs → fs ≡ no_filling
no_others no_fillings = refl

all_kept : {T : Table} {kept : Filled} {fs : Fillings} {number : ℕ} {old new : List TypeId} {xs : List Filling}
    → xs ≡ (out-Filled kept).fillings.items → drop number xs ≡ [] → AreKept T kept fs number old new
    → new ≡ old ++ filling_ids fs
all_kept {T = T} {number = number} {new = new} same none m =
    let left = ap (λ (l : List Filling). drop number l) (sym same) ∙ none in
    let e = no_others (subst (λ (l : List Filling). AreFillings T l m.rest) left m.left) in
    sym (m.so ∙ ap (λ (fs : Fillings). new ++ filling_ids fs) e ∙ append-nil new)

pub inner_kept : {T : Table} {kept : Filled} {t : TypeId} {w : spelled.Filled} {number : ℕ} {old new : List TypeId}
    {xs : List Filling} → xs ≡ (out-Filled kept).fillings.items → drop number xs ≡ []
    → ((fs : Fillings) → AreFillings T (out-Filled kept).fillings.items fs → AreKept T kept fs number old new)
    → IsFilled T t kept w → new ≡ old ++ inner_ids w
inner_kept same none m (is_filled {fs = fs} top a) = all_kept same none (m fs a)

-- ---- of an item
pub definition_given : (old new : List TypeId) (given : GoItem) (id : TypeId) (described : Value)
    → given ≡ item.Define id described → new ≡ old ++ id ∷ [] → (T : Table) (i : FilledItem) → ItemMeans T given i
    → new ≡ old ++ item_ids i
definition_given old new given id described e kept T i m =
    by (subst (λ g. ItemMeans T g i) e m)
  where
    by : {i : FilledItem} → ItemMeans T (item.Define id described) i → new ≡ old ++ item_ids i
    by means_definition = kept

pub value_given : (old new : List TypeId) (given : GoItem) (id : TypeId) (value : Filled)
    → given ≡ item.Put id value
    → ((T : Table) (t : TypeId) (w : spelled.Filled) → IsFilled T t value w → new ≡ old ++ inner_ids w)
    → (T : Table) (i : FilledItem) → ItemMeans T given i → new ≡ old ++ item_ids i
value_given old new given id value e kept T i m =
    by (subst (λ g. ItemMeans T g i) e m)
  where
    by : {i : FilledItem} → ItemMeans T (item.Put id value) i → new ≡ old ++ item_ids i
    by (means_value {w = w} f) = kept T id w f
