-- Two kinds match, or clash for one reason. What they name has a property, or something that they name has another.
use Rattle.std.proofs.Common.{◌≡◌, ◌≢◌, ℕ, zero, suc, ◌<◌, ◌⊎◌, inl, inr, List, [], ◌∷◌, Some, arith, refl, sym, ap}
use Rattle.std.proofs.Common.{◌∙◌, subst, true≢false, is_some}
use Rattle.std.specs.Prelude.{slice_get}
use Rattle.gob_types.specs.declared.basic.Basic.{Basic}
use Rattle.gob_types.specs.declared.basic.Basic.TheVariants as basic
use Rattle.gob_types.specs.declared.id.TypeId.{TypeId}
use Rattle.gob_types.specs.declared.kind.Field.{Field}
use Rattle.gob_types.specs.declared.kind.Kind.{Kind}
use Rattle.gob_types.specs.declared.kind.Kind.TheVariants as kind
use Rattle.gob_types.specs.declared.kind.Marshal.{Marshal}
use Rattle.gob_types.specs.declared.kind.Marshal.TheVariants as marshal
use Rattle.gob_types.proofs.PublicLaws.{some_injective}
use Rattle.gob_match.specs.declared.pair.TypePair.{TypePair}
use Rattle.gob_match.specs.declared.reason.ClashReason.{ClashReason}
use Rattle.gob_match.specs.declared.reason.ClashReason.TheVariants as clash
use Rattle.gob_match.specs.declared.step.TypeStep.{TypeStep}
use Rattle.gob_match.specs.declared.step.TypeStep.TheVariants as step
use Rattle.gob_match.specs.Matching.{KindsMatch, basics, opaques, arrays, slices, maps, structs, KindsClash}
use Rattle.gob_match.specs.Matching.{basics_differ, opaques_differ, lengths_differ, name_repeated, nothing_in_common}
use Rattle.gob_match.specs.Matching.{unlike}
use Rattle.gob_match.specs.Pairs.{of_types, HasName, RepeatsName, ShareName, NamesPair, element_of_arrays}
use Rattle.gob_match.specs.Pairs.{element_of_slices, key_of_maps, element_of_maps, field_of_structs}
use Rattle.gob_match.proofs.ConversionLaws.{three_ways}
use Rattle.gob_match.proofs.HaveLaws.{same_or_not}

-- ---- names

-- where a name isn't that of the first field, nor of a later one
no_name : (f : Field) (fs : List Field) (name : List ℕ) → f.name ≢ name → ¬ HasName fs name → ¬ HasName (f ∷ fs) name
no_name f fs name d n h = by h.number h.field h.there h.named
  where
    by : (k : ℕ) (g : Field) → slice_get (f ∷ fs) k ≡ Some g → g.name ≡ name → ⊥
    by zero g there named = d (ap (λ (x : Field). x.name) (some_injective there) ∙ named)
    by (suc k) g there named = n (record { number = k; field = g; there = there; named = named })

pub name_or_not : (fs : List Field) (name : List ℕ) → HasName fs name ⊎ ¬ HasName fs name
name_or_not [] name = inr (λ h. true≢false (sym (ap is_some h.there)))
name_or_not (f ∷ fs) name = by (same_or_not f.name name) (name_or_not fs name)
  where
    by : (f.name ≡ name) ⊎ (f.name ≢ name) → HasName fs name ⊎ ¬ HasName fs name
        → HasName (f ∷ fs) name ⊎ ¬ HasName (f ∷ fs) name
    by (inl e) r = inl (record { number = 0; field = f; there = refl; named = e })
    by (inr d) (inl h) = inl (record { number = suc h.number; field = h.field; there = h.there; named = h.named })
    by (inr d) (inr n) = inr (no_name f fs name d n)

not_repeated : (f : Field) (fs : List Field) → ¬ HasName fs f.name → ¬ RepeatsName fs → ¬ RepeatsName (f ∷ fs)
not_repeated f fs n d r = by r.first r.second r.one r.other r.apart r.one_there r.other_there r.same
  where
    by : (i j : ℕ) (g h : Field) → i < j → slice_get (f ∷ fs) i ≡ Some g → slice_get (f ∷ fs) j ≡ Some h
        → g.name ≡ h.name → ⊥
    by i zero g h below a b e = absurd (omega arith)
    by zero (suc j) g h below a b e = n (record {
      number = j;
      field = h;
      there = b;
      named = sym e ∙ ap
          (λ (x : Field). x.name) (sym (some_injective a));
    })
    by (suc i) (suc j) g h below a b e = d (record
        { first = i; second = j; apart = omega arith; one = g; other = h; one_there = a; other_there = b; same = e })

repeated_or_not : (fs : List Field) → RepeatsName fs ⊎ ¬ RepeatsName fs
repeated_or_not [] = inr (λ r. true≢false (sym (ap is_some r.one_there)))
repeated_or_not (f ∷ fs) = by (name_or_not fs f.name) (repeated_or_not fs)
  where
    by : HasName fs f.name ⊎ ¬ HasName fs f.name → RepeatsName fs ⊎ ¬ RepeatsName fs
        → RepeatsName (f ∷ fs) ⊎ ¬ RepeatsName (f ∷ fs)
    by (inl h) r = inl (record {
      first = 0;
      second = suc h.number;
      apart = omega arith;
      one = f;
      other = h.field;
      one_there = refl;
      other_there = h.there;
      same = sym h.named;
    })
    by (inr n) (inl r) = inl (record {
      first = suc r.first;
      second = suc r.second;
      apart = let a = r.apart in omega
          arith;
      one = r.one;
      other = r.other;
      one_there = r.one_there;
      other_there = r.other_there;
      same = r.same;
    })
    by (inr n) (inr d) = inr (not_repeated f fs n d)

not_shared : (f : Field) (fs gs : List Field) → ¬ HasName gs f.name → ¬ ShareName fs gs → ¬ ShareName (f ∷ fs) gs
not_shared f fs gs n d s = by s.in_stream.number s.in_stream.field s.in_stream.there s.in_stream.named
  where
    by : (k : ℕ) (g : Field) → slice_get (f ∷ fs) k ≡ Some g → g.name ≡ s.name → ⊥
    by zero g there named =
        let w = s.in_wanted in
        n (record {
          number = w.number;
          field = w.field;
          there = w.there;
          named = w.named ∙ sym named
              ∙ ap (λ (x : Field). x.name) (sym (some_injective there));
        })
    by (suc k) g there named = d (record {
      name = s.name;
      in_stream = record
          { number = k; field = g; there = there; named = named };
      in_wanted = s.in_wanted;
    })

shared_or_not : (fs gs : List Field) → ShareName fs gs ⊎ ¬ ShareName fs gs
shared_or_not [] gs = inr (λ s. true≢false (sym (ap is_some s.in_stream.there)))
shared_or_not (f ∷ fs) gs = by (name_or_not gs f.name) (shared_or_not fs gs)
  where
    by : HasName gs f.name ⊎ ¬ HasName gs f.name → ShareName fs gs ⊎ ¬ ShareName fs gs
        → ShareName (f ∷ fs) gs ⊎ ¬ ShareName (f ∷ fs) gs
    by (inl h) r = inl (record {
      name = f.name;
      in_stream = record
          { number = 0; field = f; there = refl; named = refl };
      in_wanted = h;
    })
    by (inr n) (inl s) =
        let i = s.in_stream in
        inl (record {
          name = s.name;
          in_stream = record
              { number = suc i.number; field = i.field; there = i.there; named = i.named };
          in_wanted = s.in_wanted;
        })
    by (inr n) (inr d) = inr (not_shared f fs gs n d)

-- ---- kinds

same_basic : (b c : Basic) → (b ≡ c) ⊎ (b ≢ c)
same_basic basic.Bool basic.Bool = inl refl
same_basic basic.Int basic.Int = inl refl
same_basic basic.Uint basic.Uint = inl refl
same_basic basic.Float basic.Float = inl refl
same_basic basic.Bytes basic.Bytes = inl refl
same_basic basic.Str basic.Str = inl refl
same_basic basic.Complex basic.Complex = inl refl
same_basic basic.Interface basic.Interface = inl refl
same_basic _ _ = inr (λ e. cc)

same_marshal : (m n : Marshal) → (m ≡ n) ⊎ (m ≢ n)
same_marshal marshal.Gob marshal.Gob = inl refl
same_marshal marshal.Binary marshal.Binary = inl refl
same_marshal marshal.Text marshal.Text = inl refl
same_marshal _ _ = inr (λ e. cc)

-- two kinds clash for some reason
pub record Clash (k l : Kind) : Type 0 where
  pub reason : ClashReason
  pub clash : KindsClash k l reason

structs_choice : (fs gs : List Field)
    → KindsMatch (kind.Struct fs) (kind.Struct gs) ⊎ Clash (kind.Struct fs) (kind.Struct gs)
structs_choice fs gs = by (repeated_or_not fs) (repeated_or_not gs) (shared_or_not fs gs)
  where
    nothing : (fs gs : List Field) → ¬ RepeatsName fs → ¬ RepeatsName gs → ¬ ShareName fs gs
        → KindsMatch (kind.Struct fs) (kind.Struct gs) ⊎ Clash (kind.Struct fs) (kind.Struct gs)
    nothing [] [] m n d = inl (structs (record { in_stream = m; in_wanted = n }) (inr (refl, refl)))
    nothing [] (g ∷ gs) m n d = inr (record {
      reason = clash.NoCommonField;
      clash = nothing_in_common (record { in_stream = m; in_wanted = n })
          (λ s. elim s [ inl h ↦ d h | inr e ↦ let f = e.1 in cc ]);
    })
    nothing (f ∷ fs) gs m n d = inr (record {
      reason = clash.NoCommonField;
      clash = nothing_in_common (record { in_stream = m; in_wanted = n })
          (λ s. elim s [ inl h ↦ d h | inr e ↦ let f = e.0 in cc ]);
    })

    by : RepeatsName fs ⊎ ¬ RepeatsName fs → RepeatsName gs ⊎ ¬ RepeatsName gs → ShareName fs gs ⊎ ¬ ShareName fs gs
        → KindsMatch (kind.Struct fs) (kind.Struct gs) ⊎ Clash (kind.Struct fs) (kind.Struct gs)
    by (inl r) w s = inr (record { reason = clash.RepeatedName; clash = name_repeated (inl r) })
    by (inr m) (inl r) s = inr (record { reason = clash.RepeatedName; clash = name_repeated (inr r) })
    by (inr m) (inr n) (inl s) = inl (structs (record { in_stream = m; in_wanted = n }) (inl s))
    by (inr m) (inr n) (inr d) = nothing fs gs m n d

pub kinds_choice : (k l : Kind) → KindsMatch k l ⊎ Clash k l
kinds_choice (kind.Basic b) (kind.Basic c) = elim (same_basic b c) as
    (λ _. KindsMatch (kind.Basic b) (kind.Basic c) ⊎ Clash (kind.Basic b) (kind.Basic c)) [
      | inl e ↦ inl (subst (λ c. KindsMatch (kind.Basic b) (kind.Basic c)) e basics)
      | inr d ↦ inr (record { reason = clash.DifferentKind; clash = basics_differ d })
    ]
kinds_choice (kind.Opaque m) (kind.Opaque n) = elim (same_marshal m n) as
    (λ _. KindsMatch (kind.Opaque m) (kind.Opaque n) ⊎ Clash (kind.Opaque m) (kind.Opaque n)) [
      | inl e ↦ inl (subst (λ n. KindsMatch (kind.Opaque m) (kind.Opaque n)) e opaques)
      | inr d ↦ inr (record { reason = clash.DifferentKind; clash = opaques_differ d })
    ]
kinds_choice (kind.Array e m) (kind.Array f n) = elim (three_ways m n) as
    (λ _. KindsMatch (kind.Array e m) (kind.Array f n) ⊎ Clash (kind.Array e m) (kind.Array f n)) [
      | inl below ↦ inr (record { reason = clash.DifferentLength; clash = lengths_differ (λ e. omega arith) })
      | inr (inl same) ↦ inl (subst (λ n. KindsMatch (kind.Array e m) (kind.Array f n)) same arrays)
      | inr (inr above) ↦ inr (record { reason = clash.DifferentLength; clash = lengths_differ (λ e. omega arith) })
    ]
kinds_choice (kind.Slice e) (kind.Slice f) = inl slices
kinds_choice (kind.Map x e) (kind.Map y f) = inl maps
kinds_choice (kind.Struct fs) (kind.Struct gs) = structs_choice fs gs
kinds_choice _ _ = inr (record { reason = clash.DifferentKind; clash = unlike (λ h. h) })

pub one_reason : {k l : Kind} {reason other : ClashReason} → KindsClash k l reason → KindsClash k l other
    → reason ≡ other
one_reason (basics_differ d) (basics_differ e) = refl
one_reason (opaques_differ d) (opaques_differ e) = refl
one_reason (lengths_differ d) (unlike n) = absurd (n tt)
one_reason (name_repeated r) (nothing_in_common d n) = absurd (elim r [ inl h ↦ d.in_stream h | inr h ↦ d.in_wanted h ])
one_reason (name_repeated r) (unlike n) = absurd (n tt)
one_reason (nothing_in_common d n) (name_repeated r) = absurd (elim r [ inl h ↦ d.in_stream h | inr h ↦ d.in_wanted h ])
one_reason (nothing_in_common d n) (unlike m) = absurd (m tt)
one_reason (unlike n) (lengths_differ d) = absurd (n tt)
one_reason (unlike n) (name_repeated r) = absurd (n tt)
one_reason (unlike n) (nothing_in_common d m) = absurd (n tt)
one_reason _ _ = refl

-- ---- what two kinds name

-- each element has the first property, or some element has the second
pub items_choice : {X : Type 0} (P Q : X → Type 0) (xs : List X)
    → ((k : ℕ) (x : X) → slice_get xs k ≡ Some x → P x ⊎ Q x)
    → ((k : ℕ) (x : X) → slice_get xs k ≡ Some x → P x) ⊎ ((k : ℕ) × (x : X) × (slice_get xs k ≡ Some x) × Q x)
items_choice P Q [] choice = inl (λ k x there. absurd (true≢false (sym (ap is_some there))))
items_choice {X = X} P Q (x ∷ xs) choice = by (choice 0 x refl)
    (items_choice P Q xs (λ k y there. choice (suc k) y there))
  where
    each : P x → ((k : ℕ) (y : X) → slice_get xs k ≡ Some y → P y) → (k : ℕ) (y : X) → slice_get (x ∷ xs) k ≡ Some y
        → P y
    each p ps zero y there = subst P (some_injective there) p
    each p ps (suc k) y there = ps k y there

    by : P x ⊎ Q x → ((k : ℕ) (y : X) → slice_get xs k ≡ Some y → P y) ⊎
        ((k : ℕ) × (y : X) × (slice_get xs k ≡ Some y) × Q y)
        → ((k : ℕ) (y : X) → slice_get (x ∷ xs) k ≡ Some y → P y) ⊎
        ((k : ℕ) × (y : X) × (slice_get (x ∷ xs) k ≡ Some y) × Q y)
    by (inr q) r = inr (0, x, refl, q)
    by (inl p) (inl ps) = inl (each p ps)
    by (inl p) (inr r) = inr (suc r.0, r.1, r.2, r.3)

-- each pair that the kinds name has the property
pub record AllNamed (P : TypePair → Type 0) (k l : Kind) : Type 0 where
  pub each : (s : TypeStep) (q : TypePair) → NamesPair k l s q → P q

-- some pair that the kinds name has it
pub record SomeNamed (P : TypePair → Type 0) (k l : Kind) : Type 0 where
  pub step : TypeStep
  pub pair : TypePair
  pub named : NamesPair k l step pair
  pub holds : P pair

module _ (P Q : TypePair → Type 0) where
  at_array : {e f : TypeId} {m n : ℕ} {s : TypeStep} {q : TypePair} → P (of_types e f)
      → NamesPair (kind.Array e m) (kind.Array f n) s q → P q
  at_array p element_of_arrays = p

  at_slice : {e f : TypeId} {s : TypeStep} {q : TypePair} → P (of_types e f)
      → NamesPair (kind.Slice e) (kind.Slice f) s q
      → P q
  at_slice p element_of_slices = p

  at_map : {k l e f : TypeId} {s : TypeStep} {q : TypePair} → P (of_types k l) → P (of_types e f)
      → NamesPair (kind.Map k e) (kind.Map l f) s q → P q
  at_map o p key_of_maps = o
  at_map o p element_of_maps = p

  at_struct : {fs gs : List Field} {s : TypeStep} {q : TypePair}
      → ((i j : ℕ) (f g : Field) → slice_get fs i ≡ Some f → slice_get gs j ≡ Some g → f.name ≡ g.name
      → P (of_types f.id g.id))
      → NamesPair (kind.Struct fs) (kind.Struct gs) s q → P q
  at_struct each (field_of_structs f g) = subst P (λ z. of_types (f.typed z) (g.typed z))
      (each f.number g.number f.field g.field f.there g.there (f.named ∙ sym g.named))

  fields_choice : (fs gs : List Field)
      → ((s : TypeStep) (q : TypePair) → NamesPair (kind.Struct fs) (kind.Struct gs) s q → P q ⊎ Q q)
      → AllNamed P (kind.Struct fs) (kind.Struct gs) ⊎ SomeNamed Q (kind.Struct fs) (kind.Struct gs)
  fields_choice fs gs choice =
      elim (items_choice (λ f. (j : ℕ) (g : Field) → slice_get gs j ≡ Some g → f.name ≡ g.name → P (of_types f.id g.id))
      (λ f. (j : ℕ) × (g : Field) × (slice_get gs j ≡ Some g) × ((f.name ≡ g.name) × Q (of_types f.id g.id))) fs
      one)
      as (λ _. AllNamed P (kind.Struct fs) (kind.Struct gs) ⊎ SomeNamed Q (kind.Struct fs) (kind.Struct gs)) [
        | inl each ↦ inl (record { each = λ s q n. at_struct (λ i j f g a b e. each i f a j g b e) n })
        | inr r ↦ inr (record {
          step = step.Named r.1.name;
          pair = of_types r.1.id r.3.1.id;
          named = names r.0 r.3.0 r.1
              r.3.1 r.2 r.3.2 r.3.3.0;
          holds = r.3.3.1;
        })
      ]
    where
      names : (i j : ℕ) (f g : Field) → slice_get fs i ≡ Some f → slice_get gs j ≡ Some g → f.name ≡ g.name
          → NamesPair (kind.Struct fs) (kind.Struct gs) (step.Named f.name) (of_types f.id g.id)
      names i j f g a b e = field_of_structs (record { number = i; field = f; there = a; named = refl; typed = refl })
          (record { number = j; field = g; there = b; named = sym e; typed = refl })

      by : (i j : ℕ) (f g : Field) → slice_get fs i ≡ Some f → slice_get gs j ≡ Some g
          → (f.name ≡ g.name) ⊎ (f.name ≢ g.name)
          → (f.name ≡ g.name → P (of_types f.id g.id)) ⊎ ((f.name ≡ g.name) × Q (of_types f.id g.id))
      by i j f g a b (inl e) = elim (choice (step.Named f.name) (of_types f.id g.id) (names i j f g a b e)) as
          (λ _. (f.name ≡ g.name → P (of_types f.id g.id)) ⊎ ((f.name ≡ g.name) × Q (of_types f.id g.id))) [
            | inl p ↦ inl (λ _. p)
            | inr q ↦ inr (e, q)
          ]
      by i j f g a b (inr d) = inl (λ e. absurd (d e))

      one : (i : ℕ) (f : Field) → slice_get fs i ≡ Some f
          → ((j : ℕ) (g : Field) → slice_get gs j ≡ Some g → f.name ≡ g.name → P (of_types f.id g.id)) ⊎
          ((j : ℕ) × (g : Field) × (slice_get gs j ≡ Some g) × ((f.name ≡ g.name) × Q (of_types f.id g.id)))
      one i f a = items_choice (λ g. f.name ≡ g.name → P (of_types f.id g.id))
          (λ g. (f.name ≡ g.name) × Q (of_types f.id g.id)) gs (λ j g b. by i j f g a b (same_or_not f.name g.name))

  one_choice : {k l : Kind} (s : TypeStep) (q : TypePair) → NamesPair k l s q
      → ((x : TypeStep) (y : TypePair) → P q → NamesPair k l x y → P y) → P q ⊎ Q q → AllNamed P k l ⊎ SomeNamed Q k l
  one_choice s q n on (inl p) = inl (record { each = λ x y m. on x y p m })
  one_choice s q n on (inr h) = inr (record { step = s; pair = q; named = n; holds = h })

  map_choice : (x y e f : TypeId) → P (of_types x y) ⊎ Q (of_types x y) → P (of_types e f) ⊎ Q (of_types e f)
      → AllNamed P (kind.Map x e) (kind.Map y f) ⊎ SomeNamed Q (kind.Map x e) (kind.Map y f)
  map_choice x y e f (inl o) (inl p) = inl (record { each = λ s q m. at_map o p m })
  map_choice x y e f (inr h) r = inr (record { step = step.Key; pair = of_types x y; named = key_of_maps; holds = h })
  map_choice x y e f (inl o) (inr h) = inr (record
      { step = step.Element; pair = of_types e f; named = element_of_maps; holds = h })

  pub named_choice : (k l : Kind) → ((s : TypeStep) (q : TypePair) → NamesPair k l s q → P q ⊎ Q q)
      → AllNamed P k l ⊎ SomeNamed Q k l
  named_choice (kind.Array e m) (kind.Array f n) choice = one_choice step.Element (of_types e f) element_of_arrays
      (λ x y p m. at_array p m) (choice step.Element (of_types e f) element_of_arrays)
  named_choice (kind.Slice e) (kind.Slice f) choice = one_choice step.Element (of_types e f) element_of_slices
      (λ x y p m. at_slice p m) (choice step.Element (of_types e f) element_of_slices)
  named_choice (kind.Map x e) (kind.Map y f) choice = map_choice x y e f (choice step.Key (of_types x y) key_of_maps)
      (choice step.Element (of_types e f) element_of_maps)
  named_choice (kind.Struct fs) (kind.Struct gs) choice = fields_choice fs gs choice
  named_choice _ _ choice = inl (record { each = λ s q n. elim n [ ] })
