-- The piece that was found stands there.
use Rattle.std.proofs.Common.{sym, ◌∙◌}
use Rattle.std.proofs.lemmas.Bool.Decides.{Decides-eqb}
use Rattle.std.proofs.lemmas.Slice.Eq.{slice_eq-Decides}
use Rattle.gob_salvage.proofs.KeepingSteps.{stands_there}
use Rattle.gob_salvage.proofs.frame.has_piece.Goals as goal

pub returns-then-eq : goal.returns-then-eq
returns-then-eq c = λ _.
    let same = (slice_eq-Decides Decides-eqb c.in-Some.found.now c.args.piece.now c.eq.result c.eq.ensures).0
    c.if-eq.true in
    stands_there c.args.bytes.now _ _ c.args.piece.now (sym same ∙ c.in-Some.ensures.lookup.0.2)
