use Rattle.std.proofs.Common.{refl}
use Rattle.std.proofs.lemmas.List.{map-append}
use Rattle.gob_read.proofs.tree_part.TreePart.add.Goals as goal

pub returns-in_ok-push-in-Fields : goal.returns-in_ok-push-in-Fields
returns-in_ok-push-in-Fields c =
    let taken = c.in-Some-take.ensures in
    rw (c.in-Fields.is, c.in_ok-push-in-Fields.ensures.items, taken.after, ← taken.value, map-append) refl

pub returns-in_ok-push-in-Some : goal.returns-in_ok-push-in-Some
returns-in_ok-push-in-Some c =
    let taken = c.in-Some.ensures in
    rw (c.in-Pairs.is, c.in_ok-push-in-Some.ensures.items, taken.after, ← taken.value, map-append) refl

pub returns-in_ok-push-in-Many : goal.returns-in_ok-push-in-Many
returns-in_ok-push-in-Many c = rw (c.in-Many.is, c.in_ok-push-in-Many.ensures.items, map-append) refl

pub returns-in_default : goal.returns-in_default
returns-in_default c = let taken = c.in_default.ensures in rw (c.in-Fields.is, taken.after, ← taken.value) refl
