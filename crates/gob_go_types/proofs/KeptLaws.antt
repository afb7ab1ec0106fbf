-- What is kept while definitions are made stays sound.
use Rattle.std.proofs.Common.{◌≡◌, ◌∙◌, ◌⊎◌, ℕ, zero, suc, List, [], ◌∷◌, ◌++◌, Bool, true, false, refl, sym, ap}
use Rattle.std.proofs.Common.{subst, inl, inr}
use Rattle.std.proofs.Common.{Option, Some, None, if◌then◌else◌, ◌+◌, ◌<◌, length, take, arith}
use Rattle.std.proofs.lemmas.Bool.{eqb-true}
use Rattle.std.proofs.lemmas.Option.{none-some}
use Rattle.std.specs.Prelude.{nat_eq, slice_get, slice_set, ◌==◌, ◌&&◌, IfOk, OnOk, Result, Ok, Err}
use Rattle.std.specs.Borrow.{Bor}
use Rattle.std.specs.Cmp.Lexicographic.{same_text}
use Rattle.std.specs.Map.{lookup}
use Rattle.gob_types.specs.declared.id.TypeId.{TypeId}
use Rattle.gob_types.specs.declared.kind.Kind.{Kind}
use Rattle.gob_types.specs.declared.kind.Kind.TheVariants as kind
use Rattle.gob_types.specs.Base.{id}
use Rattle.gob_go_source.specs.declared.declarations.GoSource.{GoSource}
use Rattle.gob_go_source.specs.declared.go_type.Declaration.{Declaration}
use Rattle.gob_go_types.specs.declared.free.FreeIds.{FreeIds}
use Rattle.gob_go_types.specs.declared.made.Made.{Made}
use Rattle.gob_go_types.specs.declared.made.MadeKind.{MadeKind}
use Rattle.gob_go_types.specs.declared.made.MadeKind.TheVariants as made
use Rattle.gob_go_types.specs.declared.numbers.Defined.{Defined}
use Rattle.gob_go_types.specs.declared.numbers.Form.{Form}
use Rattle.gob_go_types.specs.declared.numbers.Form.TheVariants as form
use Rattle.gob_go_types.specs.declared.numbers.Numbers.{Numbers}
use Rattle.gob_go_types.specs.declared.numbers.Slot.{Slot}
use Rattle.gob_go_types.specs.declared.sight.Sight.{Sight}
use Rattle.gob_go_types.specs.declared.sight.Sight.TheVariants as sight
use Rattle.gob_go_types.specs.declared.sight.Step.TheVariants as step
use Rattle.gob_go_types.specs.Machine.{AllDone, Closes, GivesId, Goes, HasKindIn, IsOfIn, Keeps, KnowsMade, Numbered}
use Rattle.gob_go_types.specs.Machine.{OwnsSlot, PutsId, PutsMade, Sound, finished, ids_of, is_given, is_open}
use Rattle.gob_go_types.specs.Machine.{kind_made, made_definition}
use Rattle.gob_go_types.specs.Machine.{open_at, open_place, slot_open, same_id, same_kind, same_made, waiting}
use Rattle.gob_go_types.specs.Names.{same_name}
use Rattle.gob_go_types.specs.Sight.{LeadsFrom, SeenFrom}
use Rattle.gob_go_types.specs.Types.{AreOwnIds, AreTypesOf, Has, Ids, IsDefinedBy, IsNumbered, defined}
use Rattle.gob_go_types.specs.Types.{no_ids, one_more_id}
use Rattle.gob_go_types.specs.Types.{wanted_of}
use Rattle.gob_go_types.proofs.KindLaws.{goes_keeps, keeps_then, kind_on}
use Rattle.gob_go_types.proofs.SlotLaws.{closed_has, closed_ids, closed_keeps, closed_others, done_front, done_grown}
use Rattle.gob_go_types.proofs.SlotLaws.{finished_last}
use Rattle.gob_go_types.proofs.SlotLaws.{done_ids, done_more, done_open}
use Rattle.gob_go_types.proofs.SlotLaws.{has_cases, has_front, has_last, ids-append, kept, set_stands}
use Rattle.gob_go_types.proofs.SlotLaws.{within_some}

true-false : true ≡ false → ⊥
true-false e = cc

-- ---- ids

only_one : (u t : TypeId) (n : ℕ) → slice_get (u ∷ []) n ≡ Some t → u ≡ t
only_one u t zero e = cc
only_one u t (suc n) e = absurd (none-some _ e)

-- one more definition, with an id that is given
pub numbered_more : (xs ys : List Slot) (f g : FreeIds) (x : Slot) → Numbered xs f → ys ≡ xs ++ x ∷ []
    → GivesId f g x.id → Numbered ys g
numbered_more xs ys f g x n e gives = record {
  ids = subst AreOwnIds (sym all) (one_more_id n.ids gives.own new);
  given = λ t h. given t (subst (λ (l : List TypeId). Has l t) all h);
}
  where
    all : ids_of ys ≡ ids_of xs ++ x.id ∷ []
    all = ap ids_of e ∙ ids-append xs (x ∷ [])

    new : Has (ids_of xs) x.id → ⊥
    new h = true-false (sym (n.given x.id h) ∙ gives.fresh)

    given : (t : TypeId) → Has (ids_of xs ++ x.id ∷ []) t → is_given g t.0 ≡ true
    given t h =
        elim (has_cases (ids_of xs) (x.id ∷ []) t h) [
          | inl k ↦ gives.stays t.0 (n.given t k)
          | inr k ↦ subst (λ (u : TypeId). is_given g u.0 ≡ true) (only_one x.id t k.0 k.1) gives.given
        ]

-- ---- more definitions

owns_on : (s : GoSource) (a b : Numbers) (i : ℕ) (t : TypeId) → Goes a b → OwnsSlot s a i t → OwnsSlot s b i t
owns_on s a b i t g o = record {
  declaration = o.declaration;
  parts = o.parts;
  declared = o.declared;
  leads = o.leads;
  stands = elim o.stands [
    | inl h ↦ inl (subst (λ (l : List Slot). Has l (waiting t o.declaration.name o.parts)) (sym g.slots)
        (has_front a.slots.items g.more _ h))
    | inr h ↦ inr (h.0, kind_on s a b (goes_keeps a b g) h.1, (goes_keeps a b g).definitions _ h.2)
  ];
}

made_on : (a b : Numbers) → Goes a b → KnowsMade a.made.entries (finished a.slots.items)
    → KnowsMade a.made.entries (finished b.slots.items)
made_on a b g k = record { each = λ m t h. (goes_keeps a b g).definitions _ (k.each m t h) }

-- a definition of its kind is put behind the others
pub goes_one : (a b : Numbers) (x : Slot) → b.slots.items ≡ a.slots.items ++ x ∷ []
    → b.ids.entries ≡ a.ids.entries → Goes a b
goes_one a b x e i = record {
  ids = λ j t n. subst (λ l. IsNumbered l j t) (sym i) n;
  more = x ∷ [];
  slots = e;
}

pub sound_done : (s : GoSource) (a b : Numbers) (x : Slot) → Sound s a → Numbered b.slots.items b.free
    → b.slots.items ≡ a.slots.items ++ x ∷ [] → b.ids.entries ≡ a.ids.entries
    → KnowsMade b.made.entries (finished b.slots.items) → Sound s b
sound_done s a b x o n e i k = record {
  numbered = n;
  made = k;
  owned = λ j t h. owns_on s a b j t (goes_one a b x e i) (o.owned j t (subst (λ l. IsNumbered l j t) i h));
}

-- what a call that adds a definition says, where it is over
pub added_sound : {E : Type 0} (s : GoSource) (a b : Numbers) (name : Bor (List ℕ)) (k : Kind) (r : Result TypeId E)
    → Sound s a → OnOk r (Numbered b.slots.items b.free)
    → IfOk r (λ t. b.slots.items ≡ a.slots.items ++ record { id = t; name = name; form = form.Done k } ∷ [])
    → b.ids ≡ a.ids → b.made ≡ a.made → OnOk r (Sound s b)
added_sound s a b name k (Ok t) o n e i m =
    sound_done s a b _ o n e (ap (λ x. x.entries) i)
    (subst (λ l. KnowsMade l (finished b.slots.items)) (sym (ap (λ x. x.entries) m))
    (made_on a b (goes_one a b _ e (ap (λ x. x.entries) i)) o.made))
added_sound s a b name k (Err x) o n e i m = tt

pub added_there : {E : Type 0} (a b : Numbers) (name : Bor (List ℕ)) (k : Kind) (r : Result TypeId E)
    → IfOk r (λ t. b.slots.items ≡ a.slots.items ++ record { id = t; name = name; form = form.Done k } ∷ [])
    → IfOk r (λ t. Has (finished b.slots.items) (defined t name.now k))
added_there a b name k (Ok t) e =
    finished_last a.slots.items b.slots.items (record { id = t; name = name; form = form.Done k }) k e refl
added_there a b name k (Err x) e = tt

both_true : (a b : Bool) → (a && b) ≡ true → (a ≡ true) × (b ≡ true)
both_true true true e = (refl, refl)
both_true true false e = absurd (true-false (sym e))
both_true false b e = absurd (true-false (sym e))

id_same : (t u : TypeId) → same_id t u ≡ true → t ≡ u
id_same t u e = ap id (eqb-true t.0 u.0 e)

kind_same : (x y : MadeKind) → same_kind x y ≡ true → kind_made x ≡ kind_made y
kind_same made.Gob made.Gob e = refl
kind_same made.Binary made.Binary e = refl
kind_same made.Text made.Text e = refl
kind_same (made.Array t n) (made.Array u m) e =
    let b = both_true (same_id t u) (n == m) e in
    ap (λ (v : TypeId). kind.Array v n) (id_same t u b.0) ∙ ap (λ l. kind.Array u l) (eqb-true n m b.1)
kind_same (made.Slice t) (made.Slice u) e = ap (λ (v : TypeId). kind.Slice v) (id_same t u e)
kind_same (made.Map t u) (made.Map v w) e =
    let b = both_true (same_id t v) (same_id u w) e in
    ap (λ (x : TypeId). kind.Map x u) (id_same t v b.0) ∙ ap (λ (x : TypeId). kind.Map v x) (id_same u w b.1)
kind_same _ _ e = absurd (true-false (sym e))

pub made_same : (x y : Made) (t : TypeId) → same_made x y ≡ true → made_definition x t ≡ made_definition y t
made_same x y t e =
    let b = both_true (same_name x.name y.name) (same_kind x.kind y.kind) e in
    ap (λ (w : List ℕ). defined t w (kind_made x.kind)) (same_text x.name.now y.name.now (sym b.0))
    ∙ ap (λ (k : Kind). defined t y.name.now k) (kind_same x.kind y.kind b.1)

-- what is told apart by its shape gets an id
pub made_more : (a b : Numbers) (m : Made) (t : TypeId) (es : List (Made × TypeId)) → Goes a b
    → KnowsMade a.made.entries (finished a.slots.items)
    → Has (finished b.slots.items) (made_definition m t)
    → es ≡ a.made.entries → PutsMade m t es b.made.entries → KnowsMade b.made.entries (finished b.slots.items)
made_more a b m t es g known there is puts = record { each = each }
  where
    each : (k : Made) (u : TypeId) → lookup (same_made k) b.made.entries ≡ Some u
        → Has (finished b.slots.items) (made_definition k u)
    each k u h =
        by (same_made m k) refl
        (sym (ap (λ (l : List (Made × TypeId)). if same_made m k then Some t else lookup (same_made k) l) is)
        ∙ sym (puts.each k) ∙ h)
      where
        by : (c : Bool) → same_made m k ≡ c
            → (if c then Some t else lookup (same_made k) a.made.entries) ≡ Some u
            → Has (finished b.slots.items) (made_definition k u)
        by true e f =
            let same : t ≡ u = cc in
            subst (λ (v : TypeId). Has (finished b.slots.items) (made_definition k v)) same
            (subst (λ (d : Defined). Has (finished b.slots.items) d) (made_same m k t e) there)
        by false e f = (made_on a b g known).each k u f

-- ---- declared types

-- a declared type gets an id
pub goes_own : (a b : Numbers) (i : ℕ) (t : TypeId) (x : Slot) (es : Ids) → b.slots.items ≡ a.slots.items ++ x ∷ []
    → lookup (nat_eq i) a.ids.entries ≡ None → es ≡ a.ids.entries → PutsId i t es b.ids.entries → Goes a b
goes_own a b i t x es e none is puts = record { ids = each; more = x ∷ []; slots = e }
  where
    each : (j : ℕ) (u : TypeId) → IsNumbered a.ids.entries j u → IsNumbered b.ids.entries j u
    each j u h =
        puts.each j ∙ ap (λ (l : Ids). if nat_eq i j then Some t else lookup (nat_eq j) l) is ∙ by (nat_eq i j) refl
      where
        by : (c : Bool) → nat_eq i j ≡ c → (if c then Some t else lookup (nat_eq j) a.ids.entries) ≡ Some u
        by true f =
            let same = eqb-true i j f in
            absurd (none-some _ (sym none ∙ ap (λ k. lookup (nat_eq k) a.ids.entries) same ∙ h))
        by false f = h

pub sound_own : (s : GoSource) (a b : Numbers) (i n : ℕ) (t : TypeId) (d : Declaration) (es : Ids) → Sound s a
    → Numbered b.slots.items b.free
    → b.slots.items ≡ a.slots.items ++ waiting t d.name n ∷ []
    → b.made.entries ≡ a.made.entries → slice_get s.declarations.items i ≡ Some d
    → LeadsFrom s i (step.At (sight.Own i n)) → Goes a b → es ≡ a.ids.entries → PutsId i t es b.ids.entries
    → Sound s b
sound_own s a b i n t d es o numbered e m declared leads g is puts = record {
  numbered = numbered;
  made = subst (λ l. KnowsMade l (finished b.slots.items)) (sym m) (made_on a b g o.made);
  owned = each;
}
  where
    own : OwnsSlot s b i t
    own = record {
      declaration = d;
      parts = n;
      declared = declared;
      leads = leads;
      stands = inl (subst (λ (l : List Slot). Has l (waiting t d.name n)) (sym e)
          (has_last a.slots.items _));
    }

    each : (j : ℕ) (u : TypeId) → IsNumbered b.ids.entries j u → OwnsSlot s b j u
    each j u h =
        by (nat_eq i j) refl
        (sym (ap (λ (l : Ids). if nat_eq i j then Some t else lookup (nat_eq j) l) is) ∙ sym (puts.each j) ∙ h)
      where
        by : (c : Bool) → nat_eq i j ≡ c → (if c then Some t else lookup (nat_eq j) a.ids.entries) ≡ Some u
            → OwnsSlot s b j u
        by true f k =
            let same : t ≡ u = cc in
            subst (λ (v : TypeId). OwnsSlot s b j v) same
            (subst (λ (v : ℕ). OwnsSlot s b v t) (eqb-true i j f) own)
        by false f k = owns_on s a b j u g (o.owned j u k)

-- ---- a definition gets its kind

open_same : {a b : ℕ} → form.Open a ≡ form.Open b → a ≡ b
open_same e = let f = ap open_place e in cc

pub keeps_closed : (a b : Numbers) (n p : ℕ) (k : Kind) (c : Closes a.slots.items b.slots.items n k)
    → c.slot.form ≡ form.Open p → b.ids.entries ≡ a.ids.entries → Keeps a b
keeps_closed a b n p k c waits i = record {
  ids = λ j t h. subst (λ l. IsNumbered l j t) (sym i) h;
  definitions = λ d h. subst (λ (l : List Slot). Has (finished l) d) (sym c.is)
      (closed_keeps a.slots.items n c.slot _ d c.was (ap is_open waits) h);
}

pub sound_closed : (s : GoSource) (a b : Numbers) (n p : ℕ) (k : Kind) (c : Closes a.slots.items b.slots.items n k)
    → c.slot.form ≡ form.Open p → b.ids.entries ≡ a.ids.entries → b.made.entries ≡ a.made.entries → b.free ≡ a.free
    → HasKindIn s a p k → Sound s a → Sound s b
sound_closed s a b n p k c waits i m f has o = record {
  numbered = numbered;
  made = record {
    each = λ x t h. keeps.definitions _ (o.made.each x t (subst (λ l. lookup (same_made x) l ≡ Some t) m h));
  };
  owned = λ j t h. owned j t (o.owned j t (subst (λ l. IsNumbered l j t) i h));
}
  where
    keeps : Keeps a b
    keeps = keeps_closed a b n p k c waits i

    ids : ids_of b.slots.items ≡ ids_of a.slots.items
    ids = ap ids_of c.is ∙ closed_ids a.slots.items n c.slot _ c.was refl

    numbered : Numbered b.slots.items b.free
    numbered = record {
      ids = subst AreOwnIds (sym ids) o.numbered.ids;
      given = λ t h. subst (λ (g : FreeIds). is_given g t.0 ≡ true) (sym f)
          (o.numbered.given t (subst (λ (l : List TypeId). Has l t) ids h));
    }

    owned : (j : ℕ) (t : TypeId) → OwnsSlot s a j t → OwnsSlot s b j t
    owned j t w = record {
      declaration = w.declaration;
      parts = w.parts;
      declared = w.declared;
      leads = w.leads;
      stands = elim w.stands [
        | inl h ↦ on h
        | inr h ↦ inr (h.0, kind_on s a b keeps h.1, keeps.definitions _ h.2)
      ];
    }
      where
        now_done : (waiting t w.declaration.name w.parts) ≡ c.slot
            → (q : Kind) × HasKindIn s b w.parts q × Has (finished b.slots.items) (defined t w.declaration.name.now q)
        now_done e =
            let same : w.parts ≡ p = open_same (ap (λ (x : Slot). x.form) e ∙ waits) in (
              k,
              subst (λ (v : ℕ). HasKindIn s b v k) (sym same) (kind_on s a b keeps has),
              subst (λ (x : Slot). Has (finished b.slots.items) (defined x.id x.name.now k)) (sym e)
                  (subst (λ (l : List Slot). Has (finished l) (defined c.slot.id c.slot.name.now k)) (sym c.is)
                  (closed_has a.slots.items n c.slot (record c.slot { form = form.Done k }) k c.was refl)),
            )

        on : Has a.slots.items (waiting t w.declaration.name w.parts)
            → Has b.slots.items (waiting t w.declaration.name w.parts)
            ⊎ ((q : Kind) × HasKindIn s b w.parts q × Has (finished b.slots.items)
            (defined t w.declaration.name.now q))
        on h = elim (closed_others a.slots.items n h.0 c.slot (record c.slot { form = form.Done k }) _ c.was h.1) [
          | inl e ↦ inl (
            h.0,
            subst (λ (l : List Slot). slice_get l h.0 ≡ Some (waiting t w.declaration.name w.parts)) (sym c.is) e,
          )
          | inr e ↦ inr (now_done e)
        ]

-- ---- the definition at a place is looked at

opened : (xs : List Slot) (n p : ℕ) → open_at xs n ≡ Some p
    → (x : Slot) × (slice_get xs n ≡ Some x) × (x.form ≡ form.Open p)
opened [] n p e = absurd (none-some _ e)
opened (x ∷ xs) zero p e = (x, refl, by x.form e)
  where
    by : (f : Form) → open_place f ≡ Some p → f ≡ form.Open p
    by (form.Open q) e = let same : q ≡ p = cc in ap form.Open same
    by (form.Done k) e = absurd (none-some _ e)
opened (x ∷ xs) (suc n) p e = opened xs n p e

some_same : (x y : Slot) → Some x ≡ Some y → x ≡ y
some_same x y e = cc

-- one that is open is so still where more definitions stand behind it
closes_open : (a m : Numbers) (n p : ℕ) (x : Slot) → Goes a m → open_at a.slots.items n ≡ Some p
    → slice_get m.slots.items n ≡ Some x → x.form ≡ form.Open p
closes_open a m n p x g e h =
    let o = opened a.slots.items n p e in
    let there = subst (λ (l : List Slot). slice_get l n ≡ Some o.0) (sym g.slots) (kept a.slots.items g.more n o.1) in
    subst (λ (y : Slot). y.form ≡ form.Open p) (some_same o.0 x (sym there ∙ h)) o.2

pub settled_sound : (s : GoSource) (a m b : Numbers) (n p : ℕ) (k : Kind) → Goes a m
    → open_at a.slots.items n ≡ Some p → Closes m.slots.items b.slots.items n k → b.ids ≡ m.ids → b.made ≡ m.made
    → b.free ≡ m.free → HasKindIn s m p k → Sound s m → Sound s b
settled_sound s a m b n p k g e c i d f has o =
    sound_closed s m b n p k c (closes_open a m n p c.slot g e c.was) (ap (λ x. x.entries) i) (ap (λ x. x.entries) d) f
    has o

pub settled_keeps : (a m b : Numbers) (n p : ℕ) (k : Kind) → Goes a m → open_at a.slots.items n ≡ Some p
    → Closes m.slots.items b.slots.items n k → b.ids ≡ m.ids → Keeps a b
settled_keeps a m b n p k g e c i =
    keeps_then a m b (goes_keeps a m g)
    (keeps_closed m b n p k c (closes_open a m n p c.slot g e c.was) (ap (λ x. x.entries) i))

pub settled_done : (a m b : Numbers) (n : ℕ) (k : Kind) → Goes a m → n < length a.slots.items
    → Closes m.slots.items b.slots.items n k → AllDone (take n a.slots.items) → AllDone (take (n + 1) b.slots.items)
settled_done a m b n k g within c done =
    let before =
    subst (λ (l : List Slot). AllDone (take n l)) (sym g.slots)
    (done_grown a.slots.items g.more n (omega arith) done) in
    subst (λ (l : List Slot). AllDone (take (n + 1) l)) (sym c.is)
    (done_more (slice_set m.slots.items n (record c.slot { form = form.Done k })) n (n + 1)
    (record c.slot { form = form.Done k }) refl (set_stands m.slots.items n c.slot _ c.was) refl
    (done_front m.slots.items n _ before))

-- one that isn't open is done
pub still_done : (xs : List Slot) (n : ℕ) → open_at xs n ≡ None → n < length xs → AllDone (take n xs)
    → AllDone (take (n + 1) xs)
still_done xs n e within done = by (slice_get xs n) refl
  where
    shut : (x : Slot) → open_place x.form ≡ None → is_open x.form ≡ false
    shut x h = by x.form h
      where
        by : (f : Form) → open_place f ≡ None → is_open f ≡ false
        by (form.Open q) h = absurd (none-some _ (sym h))
        by (form.Done k) h = refl

    by : (o : Option Slot) → slice_get xs n ≡ o → AllDone (take (n + 1) xs)
    by None f = absurd (within_some xs n within f)
    by (Some x) f = done_more xs n (n + 1) x refl f (shut x (subst (λ o. slot_open o ≡ None) f e)) done

-- ---- the first and the last

pub sound_none : (s : GoSource) (a : Numbers) → a.slots.items ≡ [] → a.ids.entries ≡ [] → a.made.entries ≡ []
    → Sound s a
sound_none s a e i m = record {
  numbered = record {
    ids = subst (λ (l : List Slot). AreOwnIds (ids_of l)) (sym e) no_ids;
    given = λ t h. absurd (none-some _ (subst (λ (l : List Slot). slice_get (ids_of l) h.0 ≡ Some t) e h.1));
  };
  made = record { each = λ k t h. absurd (none-some _ (subst (λ l. lookup (same_made k) l ≡ Some t) m h)) };
  owned = λ j t h. absurd (none-some _ (subst (λ l. lookup (nat_eq j) l ≡ Some t) i h));
}

pub types_made : (s : GoSource) (named : Option (List ℕ)) (a : Numbers) (wanted : ℕ) (v : Sight) (t : TypeId)
    (T : List Defined) → T ≡ finished a.slots.items → Sound s a → AllDone a.slots.items
    → wanted_of s.declarations.items named ≡ Some wanted → SeenFrom s wanted v → IsOfIn s a v t → AreTypesOf s named T t
types_made s named a wanted v t T e o done asked seen is =
    subst (λ (l : List Defined). AreTypesOf s named l t) (sym e) (record {
      wanted = wanted;
      seen_as = v;
      ids = a.ids.entries;
      asked = asked;
      seen = seen;
      is_of = is;
      defined_all = λ i u h. all i u (o.owned i u h);
      own_ids = subst AreOwnIds (sym (done_ids a.slots.items done)) o.numbered.ids;
    })
  where
    all : (i : ℕ) (u : TypeId) → OwnsSlot s a i u → IsDefinedBy s a.ids.entries (finished a.slots.items) i u
    all i u w = record {
      declaration = w.declaration;
      parts = w.parts;
      kind = known.0;
      declared = w.declared;
      leads = w.leads;
      has_kind = known.1;
      there = known.2;
    }
      where
        known : (q : Kind) × HasKindIn s a w.parts q × Has (finished a.slots.items) (defined u w.declaration.name.now q)
        known = elim w.stands [
          | inl h ↦ absurd (true-false (done_open a.slots.items _ done h))
          | inr h ↦ h
        ]
