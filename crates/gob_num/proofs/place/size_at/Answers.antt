use Rattle.std.proofs.Common.{arith, refl}
use Rattle.gob_num.proofs.PlaceLaws.{sized_at}
use Rattle.gob_num.proofs.place.size_at.Goals as goal

pub returns : goal.returns
returns c =
    let room = c.if-bytes-at-lt-LONGEST.false in
    λ _. sized_at c.digits_behind-count.result _ (record { inside = omega (arith, room); is = refl })
    (record { inside = omega (arith, room); is = refl }) (λ i. omega (arith, c.type_inv.bytes i))
    c.digits_behind-count.ensures.short c.digits_behind-count.ensures.long (omega (arith, c.if-count-gt8.false))
    (λ some. c.least_behind.ensures some _ (omega (arith, c.if-bytes-at.false))) (omega (arith, room)) c.from.ensures
