use Rattle.std.proofs.Common.{arith, sym, refl}
use Rattle.gob_num.proofs.PlaceLaws.{counted_at}
use Rattle.gob_num.proofs.place.Counted.begins_number.Goals as goal

pub returns : goal.returns
returns c =
    let room = c.if-bytes-at-lt-LONGEST.false in
    λ _. counted_at c.args.self.count c.args.self.count
    (record { inside = omega (arith, room); is = sym c.if-bytes-at.false })
    (record { inside = omega (arith, room); is = refl }) (λ i. omega (arith, c.type_inv.bytes i)) c.requires.counts.0
    c.requires.counts.1 (c.requires.least _ (omega (arith, c.if-bytes-at-2.false)))
    (omega (arith, room, c.requires.counts.0, c.requires.counts.1)) refl
