use Rattle.std.proofs.Common.{ap, arith, subst}
use Rattle.gob_num.proofs.PublicLaws.{bytes_each}
use Rattle.gob_types.specs.Defined.{Defined, types}
use Rattle.gob_value.specs.Whole.{IsWhole}
use Rattle.gob_stream.specs.Bounds.{Bounds}
use Rattle.gob_go_writer.proofs.PlainSteps.{plain_next}
use Rattle.gob_go_writer.proofs.plain.is_plain_next.Goals as goal

pub returns-clause-plain : goal.returns-clause-plain
returns-clause-plain c = λ yes.
    let skeleton = c.args.skeleton.now in
    let limits = ap (λ (L : Bounds). L.depth) c.limits.ensures in
    plain_next c.args.session.now (bytes_each skeleton (λ i. omega (arith, c.type_inv.skeleton i))) c.requires
    c.in-Some.ensures.body (omega (arith, limits, c.depth.ensures.depth, c.min-depth.ensures))
    (subst (λ (d : Defined). IsWhole (types d) c.args.id c.min-depth.result skeleton) c.table.ensures
    (c.is_whole.ensures yes))
