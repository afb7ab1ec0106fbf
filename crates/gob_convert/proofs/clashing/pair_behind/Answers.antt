-- The shapes of the pair say where the step leads.
use Rattle.std.proofs.Common.{sym}
use Rattle.gob_convert.proofs.ClashingLaws.{same_pair, stream_behind, wanted_behind}
use Rattle.gob_types.proofs.PublicLaws.{some_injective}
use Rattle.gob_convert.proofs.clashing.pair_behind.Goals as goal

pub unreachable-requires-in_default-type_behind : goal.unreachable-requires-in_default-type_behind
unreachable-requires-in_default-type_behind c =
    absurd (cc (stream_behind (sym c.in-Some.ensures) (sym c.in-Some-shape_of.ensures) _ c.requires.shapes
    c.requires.some.1 c.in_default-type_behind.ensures))

pub unreachable-requires-in_default-type_behind-2 : goal.unreachable-requires-in_default-type_behind-2
unreachable-requires-in_default-type_behind-2 c =
    absurd (cc (wanted_behind (sym c.in-Some.ensures) (sym c.in-Some-shape_of.ensures) _ c.requires.shapes
    c.requires.some.1 c.in_default-type_behind-2.ensures))

pub returns : goal.returns
returns c = λ next n.
    let stream = sym c.in-Some.ensures in
    let wanted = sym c.in-Some-shape_of.ensures in
    same_pair
    (some_injective (stream_behind stream wanted _ c.requires.shapes n c.in-Some-type_behind.ensures))
    (some_injective (wanted_behind stream wanted _ c.requires.shapes n c.in-Some-type_behind-2.ensures))
