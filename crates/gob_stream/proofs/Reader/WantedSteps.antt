-- How much of the item under way a reader expects.
use Rattle.std.proofs.Common.{◌≡◌, ℕ, ◌+◌, ◌<◌, List, ◌++◌, length, arith, ap, length-append}
use Rattle.gob_read.specs.Building.{Building}
use Rattle.gob_stream.specs.declared.body.ValueStage.{ValueStage}
use Rattle.gob_stream.specs.declared.body.DescriptionStage.{DescriptionStage}
use Rattle.gob_stream.specs.declared.stage.Stage.TheVariants as stage
use Rattle.gob_stream.specs.declared.stage.Extent.{Extent}
use Rattle.gob_stream.specs.Machine.SessionState.{SessionState}
use Rattle.gob_stream.specs.Bounds.{Bounds}
use Rattle.gob_stream.specs.Machine.HasRead.{IsCount, IsRest, size, IsUsable, has_failed, stands_after}
use Rattle.gob_stream.proofs.Reader.StageSteps.{parts}

-- bytes that are fewer than what is left of the body end before the item does
rest_some : {L : Bounds} {offset m taken n : ℕ} {c a : List ℕ} {body rest : Extent} (y : List ℕ)
    → IsCount L offset m c body → IsRest body a rest → n ≡ length (c ++ (a ++ y)) → taken ≡ offset + n
    → length y < size rest → taken < rest.end
rest_some {c = c} {a = a} y k r e t l = let b = k.begin in let s = r.begin in omega (
  arith,
  length-append c (a ++ y),
  length-append a y,
)

-- a reader expects some bytes of a value
pub value_left : {X O : Type 0} {most : ℕ} {building : Building X O most} {s : SessionState X O} {at : ValueStage X O}
    → IsUsable building s → s.stage ≡ stage.Value at → s.taken < at.rest.end
value_left (has_failed f) e = absurd (cc)
value_left (stands_after a) e =
    let p = parts e a.stage in
    rest_some p.y p.count p.rest_is (ap length p.whole)
    (omega (arith, a.taken, ap length a.whole, length-append a.prefix a.under_way)) p.behind.viable.room

-- and of a description
pub description_left : {X O : Type 0} {most : ℕ} {building : Building X O most} {s : SessionState X O}
    {at : DescriptionStage} → IsUsable building s → s.stage ≡ stage.Description at
    → s.taken < at.rest.end
description_left (has_failed f) e = absurd (cc)
description_left (stands_after a) e =
    let p = parts e a.stage in
    rest_some p.y p.count p.rest_is (ap length p.whole)
    (omega (arith, a.taken, ap length a.whole, length-append a.prefix a.under_way)) p.behind.viable.room
