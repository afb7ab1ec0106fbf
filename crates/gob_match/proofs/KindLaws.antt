-- Kinds that match, and kinds that clash.
use Rattle.std.proofs.Common.{◌≡◌, ◌≢◌, ℕ, ◌<◌, ◌⊎◌, inl, inr, List, [], ◌∷◌, length, refl, sym, ap, ◌∙◌, subst, arith}
use Rattle.std.proofs.Common.{Vec, Option, Some, None, MatchOption, true≢false, is_some}
use Rattle.std.proofs.lemmas.Option.{slice_get_within}
use Rattle.std.specs.Global.{Global}
use Rattle.gob_types.specs.declared.basic.Basic.{Basic}
use Rattle.gob_types.specs.declared.id.TypeId.{TypeId}
use Rattle.gob_types.specs.declared.kind.Field.{Field}
use Rattle.gob_types.specs.declared.kind.Kind.{Kind}
use Rattle.gob_types.specs.declared.kind.Kind.TheVariants as kind
use Rattle.gob_types.specs.declared.kind.Marshal.{Marshal}
use Rattle.gob_match.specs.declared.common.CommonField.{CommonField}
use Rattle.gob_match.specs.declared.conversion.Conversion.TheVariants as conversion
use Rattle.gob_match.specs.declared.pair.TypePair.{TypePair}
use Rattle.gob_match.specs.declared.reason.ClashReason.TheVariants as clash
use Rattle.gob_match.specs.Machine.Conversions.{of_basics, of_opaques, of_arrays, of_slices, of_maps, of_structs}
use Rattle.gob_match.specs.Machine.Exploring.{Converts}
use Rattle.gob_match.specs.Machine.Struct.{AreCommonFields}
use Rattle.gob_match.specs.Matching.{basics, opaques, arrays, slices, maps, structs, KindsClash, basics_differ}
use Rattle.gob_match.specs.Matching.{opaques_differ, lengths_differ, nothing_in_common, unlike, AreAlike}
use Rattle.gob_match.specs.Matching.{HaveDistinctNames, HaveInCommon}
use Rattle.gob_match.specs.Pairs.{of_types, RepeatsName, ShareName}
use Rattle.gob_match.proofs.ConversionLaws.{common_sound, common_whole}

-- ---- shapes of other kinds

-- the second kind is no case of the first one's
abbrev IsOther : Kind → Kind → Type 0
IsOther (kind.Basic b) l = (c : Basic) → l ≡ kind.Basic c → ⊥
IsOther (kind.Opaque m) l = (n : Marshal) → l ≡ kind.Opaque n → ⊥
IsOther (kind.Array d m) l = (e : TypeId) (n : ℕ) → l ≡ kind.Array e n → ⊥
IsOther (kind.Slice d) l = (e : TypeId) → l ≡ kind.Slice e → ⊥
IsOther (kind.Map c d) l = (k e : TypeId) → l ≡ kind.Map k e → ⊥
IsOther (kind.Struct fs) l = (gs : List Field) → l ≡ kind.Struct gs → ⊥

pub others_clash : (k l : Kind) → IsOther k l → KindsClash k l clash.DifferentKind
others_clash k l n = unlike (alike k l n)
  where
    alike : (k l : Kind) → IsOther k l → ¬ AreAlike k l
    alike (kind.Basic b) (kind.Basic c) n h = n c refl
    alike (kind.Opaque b) (kind.Opaque m) n h = n m refl
    alike (kind.Array d l) (kind.Array e m) n h = n e m refl
    alike (kind.Slice d) (kind.Slice e) n h = n e refl
    alike (kind.Map c d) (kind.Map k e) n h = n k e refl
    alike (kind.Struct fs) (kind.Struct gs) n h = n gs refl
    alike _ _ n h = h

-- ---- shapes that match

pub basics_convert : {b c : Basic} {l : Kind} → l ≡ kind.Basic c → b ≡ c
    → Converts (kind.Basic b) l conversion.Unchanged
basics_convert {b = b} e same = subst (λ (k : Kind). Converts (kind.Basic b) k conversion.Unchanged)
    (sym (e ∙ ap kind.Basic (sym same))) (record { match = basics; conversion = of_basics })

pub opaques_convert : {b c : Marshal} {l : Kind} → l ≡ kind.Opaque c → b ≡ c
    → Converts (kind.Opaque b) l conversion.Unchanged
opaques_convert {b = b} e same = subst (λ (k : Kind). Converts (kind.Opaque b) k conversion.Unchanged)
    (sym (e ∙ ap kind.Opaque (sym same))) (record { match = opaques; conversion = of_opaques })

pub arrays_convert : {e f : TypeId} {m n : ℕ} {l : Kind} {p : TypePair} → l ≡ kind.Array f n → m ≡ n → p ≡ of_types e f
    → Converts (kind.Array e m) l (conversion.Elements p)
arrays_convert {e = e} {f = f} {m = m} is same at = rw (at, is)
    (subst (λ n. Converts (kind.Array e m) (kind.Array f n) (conversion.Elements (of_types e f))) same
    (record { match = arrays; conversion = of_arrays }))

pub slices_convert : {e f : TypeId} {l : Kind} {p : TypePair} → l ≡ kind.Slice f → p ≡ of_types e f
    → Converts (kind.Slice e) l (conversion.Elements p)
slices_convert is at = rw (at, is) (record { match = slices; conversion = of_slices })

pub maps_convert : {k e x f : TypeId} {l : Kind} {p q : TypePair} → l ≡ kind.Map x f → p ≡ of_types k x
    → q ≡ of_types e f → Converts (kind.Map k e) l (conversion.Entries p q)
maps_convert is at and = rw (at, and, is) (record { match = maps; conversion = of_maps })

-- ---- shapes that don't

pub basics_clash : {b c : Basic} {l : Kind} → l ≡ kind.Basic c → b ≢ c → KindsClash (kind.Basic b) l clash.DifferentKind
basics_clash is n = rw is (basics_differ n)

pub opaques_clash : {b c : Marshal} {l : Kind} → l ≡ kind.Opaque c → b ≢ c
    → KindsClash (kind.Opaque b) l clash.DifferentKind
opaques_clash is n = rw is (opaques_differ n)

pub lengths_clash : {e f : TypeId} {m n : ℕ} {l : Kind} → l ≡ kind.Array f n → m ≢ n
    → KindsClash (kind.Array e m) l clash.DifferentLength
lengths_clash is n = rw is (lengths_differ n)

-- ---- structs

nothing : {X : Type 0} (xs : List X) → ¬ (0 < length xs) → xs ≡ []
nothing [] n = refl
nothing (x ∷ xs) n = absurd (n (omega arith))

something : {fs gs : List Field} {cs : List CommonField} → AreCommonFields fs 0 gs cs → 0 < length cs → ShareName fs gs
something {cs = []} a below = absurd (omega (arith, below))
something {cs = c ∷ cs} a below =
    let i = common_sound a 0 c refl in
    record {
      name = i.in_wanted.name;
      in_stream = record { number = c.stream; field = i.in_stream; there = i.there; named = i.same };
      in_wanted = record { number = i.number; field = i.in_wanted; there = i.wanted_there; named = refl };
    }

pub structs_convert : {fs gs : List Field} {cs : Vec CommonField Global} → HaveDistinctNames fs gs
    → AreCommonFields fs 0 gs cs.items → 0 < length cs.items
    → Converts (kind.Struct fs) (kind.Struct gs) (conversion.Fields cs)
structs_convert d a below = record { match = structs d (inl (something a below)); conversion = of_structs a }

pub empty_structs_convert : {fs gs : List Field} {cs : Vec CommonField Global} → HaveDistinctNames fs gs
    → AreCommonFields fs 0 gs cs.items → ¬ (0 < length fs) → ¬ (0 < length gs)
    → Converts (kind.Struct fs) (kind.Struct gs) (conversion.Fields cs)
empty_structs_convert {fs = fs} {gs = gs} d a m n = record
    { match = structs d (inr (nothing fs m, nothing gs n)); conversion = of_structs a }

-- no field is common
unshared : {fs gs : List Field} {cs : List CommonField} → ¬ RepeatsName fs → AreCommonFields fs 0 gs cs
    → ¬ (0 < length cs) → ¬ ShareName fs gs
unshared {cs = cs} d a n s =
    let i = s.in_stream in
    let w = s.in_wanted in
    let h = common_whole a d w.number i.number i.field w.field w.there i.there (i.named ∙ sym w.named) in
    let b = slice_get_within cs h.place h.field h.there in
    n (omega (arith, b))

pub structs_clash : {fs gs : List Field} {cs : List CommonField} → HaveDistinctNames fs gs → AreCommonFields fs 0 gs cs
    → ¬ (0 < length cs) → (0 < length fs) ⊎ (0 < length gs)
    → KindsClash (kind.Struct fs) (kind.Struct gs) clash.NoCommonField
structs_clash {fs = fs} {gs = gs} d a n some = nothing_in_common d neither
  where
    neither : ¬ HaveInCommon fs gs
    neither (inl s) = unshared d.in_stream a n s
    neither (inr e) = elim some [
      | inl h ↦ absurd (omega (arith, h, ap length e.0))
      | inr h ↦ absurd
          (omega (arith, h, ap length e.1))
    ]

-- where the names of a struct aren't given, one is repeated
pub repeated : {X : Type 0} (Q : X → Type 0) (o : Option X) (fs gs : List Field) → o ≡ None
    → MatchOption o (RepeatsName fs) Q → fs ≡ gs → RepeatsName gs
repeated Q None fs gs e m same = subst RepeatsName same m
repeated Q (Some x) fs gs e m same = absurd (true≢false (ap is_some e))
