use Rattle.std.proofs.Common.{sym}
use Rattle.std.proofs.lemmas.Result.{IfOk-from_err}
use Rattle.gob_match.proofs.ConversionLaws.{explored, undefined}
use Rattle.gob_match.proofs.matching.explore.Goals as goal

pub unreachable-requires : goal.unreachable-requires
unreachable-requires g c = undefined (c.requires.ready c.pair_at-pair.result c.pair_at-pair.ensures).0
    c.in_default.ensures

pub unreachable-requires-in_default-shape_of : goal.unreachable-requires-in_default-shape_of
unreachable-requires-in_default-shape_of g c = undefined
    (c.requires.ready c.pair_at-pair.result c.pair_at-pair.ensures).1 c.in_default-shape_of.ensures

pub returns-clause-explored : goal.returns-clause-explored
returns-clause-explored g c = explored c.pair_at-pair.ensures
    (record { stream = sym c.in-Some.ensures; wanted = sym c.in-Some-shape_of.ensures })
    c.in_ok-conversion.ensures.converts c.in_ok-add_named.ensures

pub returns-in_err-conversion-clause-explored : goal.returns-in_err-conversion-clause-explored
returns-in_err-conversion-clause-explored g c = IfOk-from_err c.from_residual.result _ c.from_residual.ensures.0

pub returns-in_err-add_named-clause-explored : goal.returns-in_err-add_named-clause-explored
returns-in_err-add_named-clause-explored g c = IfOk-from_err c.from_residual-in_err-add_named.result _
    c.from_residual-in_err-add_named.ensures.0
