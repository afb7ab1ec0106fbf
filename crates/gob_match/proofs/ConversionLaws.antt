-- The conversions of shapes that match, and the pairs that they lead to.
use Rattle.std.proofs.Common.{◌≡◌, ℕ, zero, suc, ◌+◌, ◌^◌, ◌<◌, ◌≤◌, ◌⊎◌, inl, inr, List, [], ◌∷◌, ◌++◌, length, Some}
use Rattle.std.proofs.Common.{None, arith, refl, sym, ap, ◌∙◌, subst, append_assoc, true≢false, is_some, length-append}
use Rattle.std.proofs.Common.{get_or, append-nil, ◌-◌}
use Rattle.std.proofs.Math.Nat.{eq-or-lt_of_le}
use Rattle.std.proofs.lemmas.Option.{slice_get-get_or, slice_get_within}
use Rattle.std.specs.Prelude.{slice_get}
use Rattle.gob_types.specs.declared.id.TypeId.{TypeId}
use Rattle.gob_types.specs.declared.kind.Field.{Field}
use Rattle.gob_types.specs.declared.kind.Kind.{Kind}
use Rattle.gob_types.specs.declared.kind.Kind.TheVariants as kind
use Rattle.gob_types.specs.declared.kind.Shape.{Shape}
use Rattle.gob_types.specs.Ready.{IsReady}
use Rattle.gob_types.specs.Table.{Table, shape_of}
use Rattle.gob_types.proofs.PublicLaws.{slice_get-append_left, some_injective, reaches_itself}
use Rattle.gob_match.specs.declared.common.CommonField.{CommonField}
use Rattle.gob_match.specs.declared.conversion.Conversion.{Conversion}
use Rattle.gob_match.specs.declared.conversion.Conversion.TheVariants as conversion
use Rattle.gob_match.specs.declared.pair.TypePair.{TypePair}
use Rattle.gob_match.specs.declared.step.TypeStep.{TypeStep}
use Rattle.gob_match.specs.declared.step.TypeStep.TheVariants as step
use Rattle.gob_match.specs.Machine.Conversions.{IsConversion, of_basics, of_opaques, of_arrays, of_slices, of_maps}
use Rattle.gob_match.specs.Machine.Conversions.{of_structs, HasCommon, ConversionNames}
use Rattle.gob_match.specs.Machine.Exploring.{Converts, ConvertsAt, Explores}
use Rattle.gob_match.specs.Machine.Search.{Entry, came, IsAt, AddsPairs}
use Rattle.gob_match.specs.Machine.Struct.{AreCommonFields, no_more, missing, common}
use Rattle.gob_match.specs.Machine.Kept.{IsMatched}
use Rattle.gob_match.specs.Matching.{KindsMatch, structs, HasShapes, HasMatchingShapes, NamesByStep}
use Rattle.gob_match.specs.Pairs.{of_types, RepeatsName, NamesPair, element_of_arrays, element_of_slices, key_of_maps}
use Rattle.gob_match.specs.Pairs.{element_of_maps, field_of_structs}
use Rattle.gob_match.proofs.ClashLaws.{one_stream, one_wanted}
use Rattle.gob_match.proofs.FoundLaws.{IsStepTo}
use Rattle.gob_match.proofs.SearchLaws.{Searched, at_within, at_back, one_at, kept_at, below_or_past}
use Rattle.gob_match.proofs.SearchLaws.{slice_get-append_right}

-- ---- fields of one name

pub three_ways : (i j : ℕ) → (i < j) ⊎ ((i ≡ j) ⊎ (j < i))
three_ways zero zero = inr (inl refl)
three_ways zero (suc j) = inl (omega arith)
three_ways (suc i) zero = inr (inr (omega arith))
three_ways (suc i) (suc j) = elim (three_ways i j) as (λ _. (suc i < suc j) ⊎ ((suc i ≡ suc j) ⊎ (suc j < suc i))) [
  | inl h ↦ inl (omega arith)
  | inr (inl e) ↦ inr (inl (ap suc e))
  | inr (inr h) ↦ inr (inr (omega arith))
]

-- where no name is repeated, fields of one name have one number
pub one_number : {fs : List Field} {i j : ℕ} {f g : Field} → ¬ RepeatsName fs → slice_get fs i ≡ Some f
    → slice_get fs j ≡ Some g → f.name ≡ g.name → i ≡ j
one_number {i = i} {j = j} {f = f} {g = g} n a b e =
    elim (three_ways i j) as (λ _. i ≡ j) [
      | inl below ↦ absurd (n (record {
        first = i;
        second = j;
        apart = below;
        one = f;
        other = g;
        one_there = a;
        other_there = b;
        same = e;
      }))
      | inr (inl same) ↦ same
      | inr (inr above) ↦ absurd (n (record {
        first = j;
        second = i;
        apart = above;
        one = g;
        other = f;
        one_there = b;
        other_there = a;
        same = sym e;
      }))
    ]

-- ---- common fields

-- a field that stands in both structs under one name
pub record IsCommon (fs : List Field) (n : ℕ) (gs : List Field) (c : CommonField) : Type 0 where
  pub number : ℕ
  pub in_stream : Field
  pub in_wanted : Field
  pub at : c.wanted ≡ n + number
  pub there : slice_get fs c.stream ≡ Some in_stream
  pub wanted_there : slice_get gs number ≡ Some in_wanted
  pub same : in_stream.name ≡ in_wanted.name
  pub named : c.name ≡ in_wanted.name
  pub typed : c.pair ≡ of_types in_stream.id in_wanted.id
  pub small : c.wanted + 1 < 2 ^ 64

later_common : {fs : List Field} {n : ℕ} {g : Field} {gs : List Field} {c : CommonField} → IsCommon fs (n + 1) gs c
    → IsCommon fs n (g ∷ gs) c
later_common i = record {
  number = suc i.number;
  in_stream = i.in_stream;
  in_wanted = i.in_wanted;
  at = let a = i.at in omega arith;
  there = i.there;
  wanted_there = i.wanted_there;
  same = i.same;
  named = i.named;
  typed = i.typed;
  small = i.small;
}

pub common_sound : {fs : List Field} {n : ℕ} {gs : List Field} {cs : List CommonField} → AreCommonFields fs n gs cs
    → (i : ℕ) (c : CommonField) → slice_get cs i ≡ Some c → IsCommon fs n gs c
common_sound no_more i c there = absurd (true≢false (sym (ap is_some there)))
common_sound (missing m rest) i c there = later_common (common_sound rest i c there)
common_sound {fs = fs} (common {n = n} {j = j} {f = f} {g = g} {gs = gs} h e small rest) zero c there =
    subst (IsCommon fs n (g ∷ gs)) (some_injective there)
    (record {
      number = 0;
      in_stream = f;
      in_wanted = g;
      at = omega arith;
      there = h;
      wanted_there = refl;
      same = e;
      named = refl;
      typed = refl;
      small = small;
    })
common_sound (common h e small rest) (suc i) c there = later_common (common_sound rest i c there)

later_has : {c : CommonField} {cs : List CommonField} {s : TypeStep} {q : TypePair} → HasCommon cs s q
    → HasCommon (c ∷ cs) s q
later_has h = record { place = suc h.place; field = h.field; there = h.there; step = h.step; pair = h.pair }

pub common_whole : {fs : List Field} {n : ℕ} {gs : List Field} {cs : List CommonField} → AreCommonFields fs n gs cs
    → ¬ RepeatsName fs → (k j : ℕ) (f g : Field) → slice_get gs k ≡ Some g → slice_get fs j ≡ Some f → f.name ≡ g.name
    → HasCommon cs (step.Named g.name) (of_types f.id g.id)
common_whole no_more d k j f g a b e = absurd (true≢false (sym (ap is_some a)))
common_whole (missing {g = h} m rest) d zero j f g a b e =
    let same : h ≡ g = some_injective a in
    absurd (m (record { number = j; field = f; there = b; named = e ∙ ap (λ (x : Field). x.name) (sym same) }))
common_whole (missing m rest) d (suc k) j f g a b e = common_whole rest d k j f g a b e
common_whole {fs = fs} (common {n = n} {j = i} {f = f'} {g = h} {cs = cs} there same small rest) d zero j f g a b e =
    let g_is : h ≡ g = some_injective a in
    let number : i ≡ j = one_number d there b (same ∙ ap (λ (x : Field). x.name) g_is ∙ sym e) in
    let f_is : f' ≡ f = some_injective (sym there ∙ ap (slice_get fs) number ∙ b) in
    record {
      place = 0;
      field = record { name = h.name; stream = i; wanted = n; pair = of_types f'.id h.id };
      there = refl;
      step = ap (λ (x : Field). step.Named x.name) (sym g_is);
      pair = (λ z. of_types (sym f_is z).id (sym g_is z).id);
    }
common_whole (common there same small rest) d (suc k) j f g a b e = later_has (common_whole rest d k j f g a b e)

-- ---- what a conversion leads to

-- what a conversion leads to is named
pub conversion_named : {k l : Kind} {w : Conversion} {s : TypeStep} {q : TypePair} → IsConversion k l w
    → ConversionNames w s q → NamesPair k l s q
conversion_named of_basics h = absurd h
conversion_named of_opaques h = absurd h
conversion_named of_arrays h = rw (h.0, h.1) element_of_arrays
conversion_named of_slices h = rw (h.0, h.1) element_of_slices
conversion_named of_maps (inl h) = rw (h.0, h.1) key_of_maps
conversion_named of_maps (inr h) = rw (h.0, h.1) element_of_maps
conversion_named {q = q} (of_structs {fs = fs} {gs = gs} cs) h =
    let c = common_sound cs h.place h.field h.there in
    subst (λ s. NamesPair (kind.Struct fs) (kind.Struct gs) s q) (sym h.step)
    (subst (NamesPair (kind.Struct fs) (kind.Struct gs) (step.Named h.field.name)) (sym (h.pair ∙ c.typed))
    (field_of_structs (record {
      number = h.field.stream;
      field = c.in_stream;
      there = c.there;
      named = c.same ∙ sym
          c.named;
      typed = refl;
    }) (record {
      number = c.number;
      field = c.in_wanted;
      there = c.wanted_there;
      named = sym
          c.named;
      typed = refl;
    })))

-- and what is named, the conversion leads to
pub named_conversion : {k l : Kind} {w : Conversion} {s : TypeStep} {q : TypePair} → KindsMatch k l → IsConversion k l w
    → NamesPair k l s q → ConversionNames w s q
named_conversion m of_arrays element_of_arrays = (refl, refl)
named_conversion m of_slices element_of_slices = (refl, refl)
named_conversion m of_maps key_of_maps = inl (refl, refl)
named_conversion m of_maps element_of_maps = inr (refl, refl)
named_conversion (structs d c) (of_structs cs) (field_of_structs f g) =
    let h = common_whole cs d.in_stream g.number f.number f.field g.field g.there f.there (f.named ∙ sym g.named) in
    record {
      place = h.place;
      field = h.field;
      there = h.there;
      step = ap step.Named (sym g.named) ∙ h.step;
      pair = (λ z. of_types (sym f.typed z) (sym g.typed z)) ∙ h.pair;
    }
named_conversion m of_basics n = elim n [ ]
named_conversion m of_opaques n = elim n [ ]

-- ---- pairs that are added

pub adds_as : {es new : List Entry} {place : ℕ} {P Q : TypeStep → TypePair → Type 0} → AddsPairs es new place P
    → ((s : TypeStep) (q : TypePair) → P s q → Q s q) → ((s : TypeStep) (q : TypePair) → Q s q → P s q)
    → AddsPairs es new place Q
adds_as m on back = record {
  more = m.more;
  grown = m.grown;
  has = λ s q h. m.has s q (back s q h);
  only = λ k e there. let w = m.only k e there in (w.0, w.1, w.2, on w.0 w.1 w.3);
}

pub adds_none : {es : List Entry} {place : ℕ} {P : TypeStep → TypePair → Type 0} → ((s : TypeStep) (q : TypePair)
    → P s q → ⊥)
    → AddsPairs es es place P
adds_none {es = es} none = record {
  more = [];
  grown = sym (append-nil es);
  has = λ s q h. absurd (none s q h);
  only = λ k e there. absurd (true≢false (sym (ap is_some there)));
}

pub adds_joined : {es mid new : List Entry} {place : ℕ} {P Q : TypeStep → TypePair → Type 0} → AddsPairs es mid place P
    → AddsPairs mid new place Q → AddsPairs es new place (λ s q. P s q ⊎ Q s q)
adds_joined {es = es} {mid = mid} {new = new} {place = place} {P = P} {Q = Q} m n = record {
  more = m.more ++ n.more;
  grown = n.grown ∙ ap (λ zs. zs ++ n.more) m.grown ∙ append_assoc es m.more n.more;
  has = has;
  only = only;
}
  where
    has : (s : TypeStep) (q : TypePair) → P s q ⊎ Q s q → (k : ℕ) × IsAt new k q
    has s q (inl h) = let at = m.has s q h in (at.0, subst (λ zs. IsAt zs at.0 q) (sym n.grown) (kept_at n.more at.1))
    has s q (inr h) = n.has s q h

    only : (k : ℕ) (e : Entry) → slice_get (m.more ++ n.more) k ≡ Some e → (s : TypeStep) × (q : TypePair)
        × (e ≡ (q, came place s)) × (P s q ⊎ Q s q)
    only k e there = by (below_or_past k (length m.more))
      where
        by : (k < length m.more) ⊎ (length m.more ≤ k) → (s : TypeStep) × (q : TypePair) × (e ≡ (q, came place s))
            × (P s q ⊎ Q s q)
        by (inl within) = let w = m.only k e (sym (slice_get-append_left m.more n.more k within) ∙ there) in
            (w.0, w.1, w.2, inl w.3)
        by (inr past) = let w = n.only (k - length m.more) e
            (sym (slice_get-append_right m.more n.more k (k - length m.more) (omega (arith, past))) ∙ there) in
            (w.0, w.1, w.2, inr w.3)

-- one of the first n common fields has this step and this pair
pub record IsAmongFirst (cs : List CommonField) (n : ℕ) (s : TypeStep) (q : TypePair) : Type 0 where
  pub place : ℕ
  pub below : place < n
  pub field : CommonField
  pub there : slice_get cs place ≡ Some field
  pub step : s ≡ step.Named field.name
  pub pair : q ≡ field.pair

pub adds_none_yet : {cs : List CommonField} {es : List Entry} {place : ℕ} → AddsPairs es es place (IsAmongFirst cs 0)
adds_none_yet = adds_none (λ s q h. let b = h.below in omega (arith, b))

pub adds_next : {cs : List CommonField} {es mid new : List Entry} {place n : ℕ} {c : CommonField}
    → AddsPairs es mid place (IsAmongFirst cs n) → slice_get cs n ≡ Some c
    → AddsPairs mid new place (IsStepTo (step.Named c.name) c.pair)
    → AddsPairs es new place (IsAmongFirst cs (n + 1))
adds_next {cs = cs} {n = n} {c = c} m there one = adds_as (adds_joined m one) on back
  where
    on : (s : TypeStep) (q : TypePair) → IsAmongFirst cs n s q ⊎ IsStepTo (step.Named c.name) c.pair s q
        → IsAmongFirst cs (n + 1) s q
    on s q (inl h) = record {
      place = h.place;
      below = omega (arith, h.below);
      field = h.field;
      there = h.there;
      step =
          h.step;
      pair = h.pair;
    }
    on s q (inr h) = record { place = n; below = omega arith; field = c; there = there; step = h.0; pair = h.1 }

    back : (s : TypeStep) (q : TypePair) → IsAmongFirst cs (n + 1) s q
        → IsAmongFirst cs n s q ⊎ IsStepTo (step.Named c.name) c.pair s q
    back s q h = by (eq-or-lt_of_le (omega (arith, h.below)))
      where
        by : (h.place ≡ n) ⊎ (h.place < n) → IsAmongFirst cs n s q ⊎ IsStepTo (step.Named c.name) c.pair s q
        by (inr below) = inl (record {
          place = h.place;
          below = below;
          field = h.field;
          there = h.there;
          step = h.step;
          pair = h.pair;
        })
        by (inl same) =
            let is : h.field ≡ c = some_injective (sym h.there ∙ ap (slice_get cs) same ∙ there) in
            inr (h.step ∙ ap (λ (x : CommonField). step.Named x.name) is, h.pair ∙ ap (λ (x : CommonField). x.pair) is)

pub adds_all : {cs : List CommonField} {es new : List Entry} {place n : ℕ} → AddsPairs es new place (IsAmongFirst cs n)
    → length cs ≤ n → AddsPairs es new place (HasCommon cs)
adds_all {cs = cs} m whole = adds_as m
    (λ s q h. record { place = h.place; field = h.field; there = h.there; step = h.step; pair = h.pair })
    (λ s q h. record {
      place = h.place;
      below = omega (arith, whole, slice_get_within cs h.place h.field h.there);
      field = h.field;
      there = h.there;
      step = h.step;
      pair = h.pair;
    })

-- ---- a pair that was explored

pub explored : {T U : Table} {old new : List Entry} {place : ℕ} {p : TypePair} {s t : Shape} {w : Conversion}
    → IsAt old place p → HasShapes T U p s t → Converts s.kind t.kind w → AddsPairs old new place (ConversionNames w)
    → Explores T U old new place w
explored {T = T} {U = U} {p = p} {s = s} {t = t} {w = w} at shapes converts added = record {
  pair = p;
  at = at;
  converts = record { stream = s; wanted = t; shapes = shapes; converts = converts };
  added = adds_as added (λ x q h. record {
    stream = s;
    wanted = t;
    shapes = shapes;
    named = conversion_named
        converts.conversion h;
  }) back;
}
  where
    back : (x : TypeStep) (q : TypePair) → NamesByStep T U p x q → ConversionNames w x q
    back x q n =
        named_conversion converts.match converts.conversion
        (subst (λ (r : Shape). NamesPair r.kind t.kind x q) (one_stream n.shapes shapes)
        (subst (λ (r : Shape). NamesPair n.stream.kind r.kind x q) (one_wanted n.shapes shapes) n.named))

pub converts_match : {T U : Table} {p : TypePair} {w : Conversion} → ConvertsAt T U p w → HasMatchingShapes T U p
converts_match g = record { stream = g.stream; wanted = g.wanted; shapes = g.shapes; match = g.converts.match }

-- ---- conversions that are kept

-- the conversion of each of the first pairs
pub record HaveConversions (T U : Table) (es : List Entry) (conversions : List Conversion) (n : ℕ) : Type 0 where
  pub count : length conversions ≡ n
  pub each : (k : ℕ) (p : TypePair) (w : Conversion) → IsAt es k p → slice_get conversions k ≡ Some w
      → ConvertsAt T U p w

pub conversions_none : {T U : Table} {es : List Entry} {conversions : List Conversion} → conversions ≡ []
    → HaveConversions T U es conversions 0
conversions_none {conversions = conversions} e = record {
  count = ap length e;
  each = λ k p w at there. absurd
      (true≢false (sym (ap is_some (sym (ap (λ zs. slice_get zs k) e) ∙ there))));
}

last_conversion : (ws : List Conversion) (w : Conversion) (k : ℕ) → k ≡ length ws → slice_get (ws ++ w ∷ []) k ≡ Some w
last_conversion ws w k e = ap (slice_get (ws ++ w ∷ [])) e ∙ end ws
  where
    end : (ws : List Conversion) → slice_get (ws ++ w ∷ []) (length ws) ≡ Some w
    end [] = refl
    end (x ∷ xs) = end xs

pub conversions_on : {T U : Table} {es new : List Entry} {conversions more : List Conversion} {n : ℕ} {w : Conversion}
    → HaveConversions T U es conversions n → Explores T U es new n w → more ≡ conversions ++ w ∷ []
    → HaveConversions T U new more (n + 1)
conversions_on {T = T} {U = U} {es = es} {new = new} {conversions = conversions} {more = more} {n = n} {w = w} h l
    grown = record {
      count = ap length grown ∙ length-append conversions (w ∷ []) ∙ ap (λ m. m + 1) h.count;
      each = each;
    }
  where
    here_in : n < length es
    here_in = at_within l.at

    each : (k : ℕ) (p : TypePair) (x : Conversion) → IsAt new k p → slice_get more k ≡ Some x → ConvertsAt T U p x
    each k p x at there = by (eq-or-lt_of_le (let b = slice_get_within more k x there in let c = h.count in omega
        (arith, ap length grown ∙ length-append conversions (w ∷ []))))
      where
        at_es : IsAt (es ++ l.added.more) k p
        at_es = subst (λ zs. IsAt zs k p) l.added.grown at

        by : (k ≡ n) ⊎ (k < n) → ConvertsAt T U p x
        by (inr before) =
            h.each k p x (at_back es l.added.more (omega (arith, before, here_in)) at_es)
            (sym (slice_get-append_left conversions (w ∷ []) k (omega (arith, before, h.count)))
            ∙ ap (λ zs. slice_get zs k) (sym grown) ∙ there)
        by (inl same) =
            let is : l.pair ≡ p = one_at (kept_at l.added.more l.at)
            (subst (λ m. IsAt (es ++ l.added.more) m p) same at_es) in
            let conversion_is : w ≡ x = some_injective
            (sym (last_conversion conversions w k (same ∙ sym h.count)) ∙ ap (λ zs. slice_get zs k) (sym grown)
            ∙ there) in
            subst (λ q. ConvertsAt T U q x) is (subst (ConvertsAt T U l.pair) conversion_is l.converts)

-- at the end
pub matched : {T U : Table} {t u : TypeId} {es : List Entry} {conversions : List Conversion} {next : ℕ}
    → Searched T U (of_types t u) es next → HaveConversions T U es conversions next → length es ≤ next
    → IsMatched T U t u es conversions
matched {conversions = conversions} r h whole = record {
  begins = r.begins;
  conversion = λ k p at.
      let there = slice_get-get_or conversions k conversion.Unchanged (omega (arith, whole, at_within at, h.count)) in (
        get_or conversions k conversion.Unchanged,
        there,
        h.each k p (get_or conversions k conversion.Unchanged) at
            there,
      );
  named = λ k p q s at n. let j = (r.done k p (omega (arith, whole, at_within at)) at).named s q n in (j.0, j.1);
}

-- a type that is ready has a shape
pub undefined : {T : Table} {t : TypeId} → IsReady T t → None ≡ shape_of T t → ⊥
undefined {t = t} r none = let d = (r t reaches_itself).0 in true≢false (sym (ap is_some (none ∙ d.1)))
