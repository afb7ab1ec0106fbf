-- What was said of types, one behind another.
use Rattle.std.proofs.Common.{◌≡◌, ℕ, ◌+◌, ◌<◌, suc, List, ◌∙◌, length, get_or, drop, refl, sym, ap, Option, Some}
use Rattle.std.proofs.Common.{None, Bool, true, false, ◌==◌, if◌then◌else◌, add-one, drop-cons}
use Rattle.gob_types.specs.declared.id.TypeId.{TypeId}
use Rattle.gob_plain.specs.OpaqueText.{later, taken_as}
use Rattle.gob_plain.specs.declared.opaque.Content.{Content}
use Rattle.gob_plain.specs.declared.style.Taken.{Taken}

later_last : (a b c : Option Content) → later a (later b c) ≡ later (later a b) c
later_last a b None = refl
later_last a b (Some c) = refl

-- one more was looked at
pub taken_more : (all : List Taken) (t : TypeId) (i : ℕ) (before now : Option Content) (d : Taken) → i < length all
    → taken_as all t ≡ later before (taken_as (drop i all) t)
    → now ≡ later before (if (get_or all i d).id.0 == t.0 then Some (get_or all i d).content else None)
    → taken_as all t ≡ later now (taken_as (drop (i + 1) all) t)
taken_more all t i before now d l e n =
    let said : Taken = get_or all i d in
    rw add-one (e ∙ ap (λ (k : List Taken). later before (taken_as k t)) (drop-cons all i d l)
    ∙ later_last before (if said.id.0 == t.0 then Some said.content else None) (taken_as (drop (suc i) all) t)
    ∙ ap (λ (o : Option Content). later o (taken_as (drop (suc i) all) t)) (sym n))

pub said_now : (before now : Option Content) (c : Content) (is : Bool) → is ≡ true → now ≡ Some c
    → now ≡ later before (if is then Some c else None)
said_now before now c is t e = rw t e

pub not_said : (before now : Option Content) (c : Content) (is : Bool) → is ≡ false → now ≡ before
    → now ≡ later before (if is then Some c else None)
not_said before now c is f e = rw f e
