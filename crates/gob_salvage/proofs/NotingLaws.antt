-- The types of the values that were kept, item by item.
use Rattle.std.proofs.Common.{◌≡◌, ℕ, ℤ, pos, negsuc, Bool, true, false, ◌+◌, ◌<◌, ◌≤◌, List, [], ◌∷◌, ◌++◌, length}
use Rattle.std.proofs.Common.{drop}
use Rattle.std.proofs.Common.{arith, refl, sym, ap, ◌∙◌, subst, append_assoc, length-append, length-drop}
use Rattle.std.proofs.Common.{if◌then◌else◌}
use Rattle.std.specs.Prelude.{◌<ℤ◌}
use Rattle.std.specs.List.{AllByRecursion, list_any}
use Rattle.std.proofs.lemmas.List.{append-nil}
use Rattle.std.proofs.lemmas.Int.{ints}
use Rattle.gob_types.specs.Base.{base_table}
use Rattle.gob_types.specs.Table.{Table}
use Rattle.gob_stream.specs.Bounds.{Bounds}
use Rattle.gob_filled.specs.Stream.{FilledItem, defining, putting, IsFilledItem, AreFilledItems, no_more, and_then}
use Rattle.gob_go.proofs.ItemsLaws.{Grown, item_grown, items_grown}
use Rattle.gob_salvage.specs.Evidence.{AllDefine, HasValue, IsDefinition, IsFrame}
use Rattle.gob_salvage.specs.Salvage.{HasTypeAt}
use Rattle.gob_salvage.specs.Searching.{HasWalked}
use Rattle.gob_salvage.specs.declared.kept_types.KeptTypes.{KeptTypes}
use Rattle.gob_salvage.proofs.EvidenceLaws.{NumberOf, of_type, of_put, behind_here, item_end, item_number}

-- ---- values among items
pub has_still : {items : List FilledItem} {n : ℕ} (more : List FilledItem) → HasValue items n
    → HasValue (items ++ more) n
has_still more h = record {
  before = h.before;
  id = h.id;
  value = h.value;
  after = h.after ++ more;
  whole = ap (λ l. l ++ more) h.whole ∙ append_assoc h.before (putting h.id h.value ∷ h.after) more;
  numbered = h.numbered;
}

-- those that are noted are noted still
pub all_still : (items more : List FilledItem) (keys : List ℕ)
    → AllByRecursion (λ n. HasValue items n) keys → AllByRecursion (λ n. HasValue (items ++ more) n) keys
all_still items more [] h = tt
all_still items more (k ∷ keys) h = (has_still more h.0, all_still items more keys h.1)

all_more : {items : List FilledItem} {n : ℕ} (keys : List ℕ) → AllByRecursion (λ n. HasValue items n) keys
    → HasValue items n → AllByRecursion (λ n. HasValue items n) (keys ++ n ∷ [])
all_more [] h one = (one, tt)
all_more (k ∷ keys) h one = (h.0, all_more keys h.1 one)

pub all_with : {items : List FilledItem} {n : ℕ} (keys : List ℕ) (known : Bool)
    → AllByRecursion (λ n. HasValue items n) keys → HasValue items n
    → AllByRecursion (λ n. HasValue items n) (if known then keys else keys ++ n ∷ [])
all_with keys true h one = h
all_with keys false h one = all_more keys h one

pub all_noted : (items more : List FilledItem) {keys keys' : List ℕ} → keys' ≡ keys
    → AllByRecursion (λ n. HasValue items n) keys → AllByRecursion (λ n. HasValue (items ++ more) n) keys'
all_noted items more {keys = keys} same h =
    subst (λ ks. AllByRecursion (λ n. HasValue (items ++ more) n) ks) (sym same) (all_still items more keys h)

pub all_define : (items more : List FilledItem) → AllDefine items → AllDefine more → AllDefine (items ++ more)
all_define [] more h m = m
all_define (i ∷ items) more h m = (h.0, all_define items more h.1 m)

-- the value of the item
pub last_value : (items : List FilledItem) {i : FilledItem} {m : ℕ} {number : ℤ} → NumberOf i number → number ≡ pos m
    → HasValue (items ++ i ∷ []) m
last_value items (of_type n e) p = absurd (cc)
last_value items {m = m} (of_put {t = t} {w = w} e) p = record {
  before = items;
  id = t;
  value = w;
  after = [];
  whole = refl;
  numbered = let q : pos t.0 ≡ pos m = sym e ∙ p in cc;
}

pub defines_only : {i : FilledItem} {number : ℤ} → NumberOf i number → number <ℤ pos 0 → AllDefine (i ∷ [])
defines_only (of_type n e) l = (tt, tt)
defines_only (of_put e) l = absurd (omega (arith, ints))

-- ---- the walk over values
empty_table : (m : Table) → length m ≡ 0 → m ≡ []
empty_table [] e = refl
empty_table (x ∷ m) e = absurd (omega arith)

-- the first of the items, where none defines a type
record FirstItem (L : Bounds) (T : Table) (items : List FilledItem) (z : List ℕ) : Type 0 where
  item : FilledItem
  rest : List FilledItem
  first : List ℕ
  others : List ℕ
  place : ℕ
  next : ℕ
  items_are : items ≡ item ∷ rest
  bytes_are : z ≡ first ++ others
  stands : IsFilledItem base_table L T place item first T
  are : AreFilledItems base_table L T next rest others T

first_item : {L : Bounds} {T V : Table} {offset : ℕ} {items : List FilledItem} {z : List ℕ}
    → AreFilledItems base_table L T offset items z V → V ≡ T → 0 < length z → FirstItem L T items z
first_item no_more same some = absurd (omega arith)
first_item {L = L} {T = T} {V = V} {offset = offset} (and_then {U = U} {next = next} {i = i} {items = items} {b = b}
    {c = c} h n is) same
    some =
    let g = item_grown h in
    let k = items_grown is in
    let none = empty_table g.more (omega (
      arith,
      ap length g.grown,
      length-append T g.more,
      ap length k.grown,
      length-append U k.more,
      ap length same,
    )) in
    let still : U ≡ T = g.grown ∙ ap (λ (m : Table). T ++ m) none ∙ append-nil T in
    record {
      item = i;
      rest = items;
      first = b;
      others = c;
      place = offset;
      next = next;
      items_are = refl;
      bytes_are = refl;
      stands = subst (λ (W : Table). IsFilledItem base_table L T offset i b W) still h;
      are = subst (λ (W : Table). AreFilledItems base_table L T next items c W) same
          (subst (λ (W : Table). AreFilledItems base_table L W next items c V) still is);
    }

-- the number was noted, or not
pub data NotesNumber (keys keys' : List ℕ) (number : ℤ) : Type 0 where
  not_noted : keys' ≡ keys → NotesNumber keys keys' number
  is_noted : (m : ℕ) (known : Bool) → keys' ≡ (if known then keys else keys ++ m ∷ []) → number ≡ pos m
      → NotesNumber keys keys' number

noted_so : (items : List FilledItem) {i : FilledItem} {keys keys' : List ℕ} {number : ℤ}
    → NotesNumber keys keys' number → NumberOf i number → AllByRecursion (λ n. HasValue items n) keys
    → AllByRecursion (λ n. HasValue (items ++ i ∷ []) n) keys'
noted_so items {i = i} (not_noted same) n h = all_noted items (i ∷ []) same h
noted_so items {i = i} {keys = keys} (is_noted m known e p) n h =
    subst (λ ks. AllByRecursion (λ n. HasValue (items ++ i ∷ []) n) ks) (sym e)
    (all_with keys known (all_still items (i ∷ []) keys h) (last_value items n p))

pub walk_start : {L : Bounds} {T : Table} {offset : ℕ} {items : List FilledItem} {bytes : List ℕ} {old new : KeptTypes}
    → AreFilledItems base_table L T offset items bytes T → new.ids.keys ≡ old.ids.keys
    → HasWalked L T items bytes old new 0
walk_start {offset = offset} {items = items} a same = record {
  done = [];
  left = items;
  offset = offset;
  whole = refl;
  are = a;
  each = λ before h. all_noted before [] same h;
}

pub walk_on : {L : Bounds} {T : Table} {items : List FilledItem} {bytes : List ℕ} {old new new' : KeptTypes}
    {at end : ℕ} {number : ℤ} → HasWalked L T items bytes old new at → IsFrame bytes at end → HasTypeAt bytes at number
    → NotesNumber new.ids.keys new'.ids.keys number → HasWalked L T items bytes old new' end
walk_on {L = L} {T = T} {bytes = bytes} {new' = new'} {at = at} {end = end} w f t n =
    let order = f.counts.order in let inside = f.counts.inside in
    let o = first_item w.are refl (omega (arith, length-drop at bytes)) in
    let ends : end ≡ at + length o.first = item_end o.others o.stands (omega arith) f o.bytes_are in
    let is = item_number o.others o.stands t o.bytes_are in
    record {
      done = w.done ++ o.item ∷ [];
      left = o.rest;
      offset = o.next;
      whole = w.whole ∙ ap (λ (l : List FilledItem). w.done ++ l) o.items_are
          ∙ sym (append_assoc w.done (o.item ∷ []) o.rest);
      are = subst (λ (z : List ℕ). AreFilledItems base_table L T o.next o.rest z T)
          (sym (ap (λ n. drop n bytes) ends ∙ behind_here at bytes o.first o.others o.bytes_are)) o.are;
      each = λ before h.
          subst (λ (l : List FilledItem). AllByRecursion (λ n. HasValue l n) new'.ids.keys)
          (append_assoc before w.done (o.item ∷ [])) (noted_so (before ++ w.done) n is (w.each before h));
    }

pub walked_all : {L : Bounds} {T : Table} {items : List FilledItem} {bytes : List ℕ} {old new : KeptTypes} {at : ℕ}
    → HasWalked L T items bytes old new at → (before : List FilledItem)
    → AllByRecursion (λ n. HasValue before n) old.ids.keys
    → AllByRecursion (λ n. HasValue (before ++ items) n) new.ids.keys
walked_all {new = new} w before h =
    subst (λ (l : List FilledItem). AllByRecursion (λ n. HasValue l n) new.ids.keys)
    (append_assoc before w.done w.left ∙ ap (λ (l : List FilledItem). before ++ l) (sym w.whole))
    (all_still (before ++ w.done) w.left new.ids.keys (w.each before h))

-- a number that is found is noted
pub any_noted : {items : List FilledItem} (n : ℕ) (test : ℕ → Bool) (keys : List ℕ)
    → AllByRecursion (λ k. HasValue items k) keys → list_any test keys ≡ true → ((k : ℕ) → test k ≡ true → n ≡ k)
    → HasValue items n
any_noted n test [] h e same = absurd (cc)
any_noted {items = items} n test (k ∷ keys) h e same =
    by_case (test k) refl (λ f. any_noted n test keys h.1 f same)
  where
    by_case : (b : Bool) → test k ≡ b → (list_any test keys ≡ true → HasValue items n) → HasValue items n
    by_case true is rest = subst (λ m. HasValue items m) (sym (same k is)) h.0
    by_case false is rest = rest (rw is at e)
