-- What a value leaves out stays the same when the table of the stream grows.
use Rattle.std.proofs.Common.{List}
use Rattle.gob_types.specs.Table.{Table}
use Rattle.gob_types.proofs.PublicLaws.{Keeps, shape_back}
use Rattle.gob_value.specs.Tree.{Tree}
use Rattle.gob_match.specs.declared.pair.TypePair.{TypePair}
use Rattle.gob_match.specs.declared.step.TypeStep.{TypeStep}
use Rattle.gob_match.specs.Matching.{HasShapes}
use Rattle.gob_match.proofs.SearchLaws.{IsReadyPair, named_ready}
use Rattle.gob_left_out.specs.declared.field.UnwantedField.{UnwantedField}
use Rattle.gob_left_out.specs.LeftOut.{here, inside, LeavesOut}
use Rattle.gob_left_out.proofs.MayLaws.{part_named}

-- of a pair of types that were ready in the smaller table
pub left_back : {T V U : Table} {p : TypePair} {v : Tree} {path : List TypeStep} {x : UnwantedField} → Keeps T V
    → IsReadyPair T U p → LeavesOut V U p v path x → LeavesOut T U p v path x
left_back keeps ready (here h l) =
    here (record { stream = shape_back keeps ready.stream h.stream; wanted = h.wanted }) l
left_back {T = T} {U = U} keeps ready (inside {p = p} {s = s} {r = r} h part l) =
    let shapes : HasShapes T U p s r =
    record { stream = shape_back keeps ready.stream h.stream; wanted = h.wanted } in
    inside shapes part (left_back keeps (named_ready ready
    (record { stream = s; wanted = r; shapes = shapes; named = part_named part })) l)
