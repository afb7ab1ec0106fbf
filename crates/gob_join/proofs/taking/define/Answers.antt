use Rattle.std.proofs.Common.{sym, ap, ◌∙◌}
use Rattle.gob_types.specs.Defined.{types}
use Rattle.gob_types.specs.Table.{shape_of}
use Rattle.gob_join.proofs.NumberLaws.{on_ok}
use Rattle.gob_join.proofs.TakingLaws.{type_put, type_there}
use Rattle.gob_join.proofs.taking.define.Goals as goal

pub returns-then-is_renamed-clause-defined : goal.returns-then-is_renamed-clause-defined
returns-then-is_renamed-clause-defined c = λ items bytes h.
    type_there c.args.text.now.items h c.in_ok-new.ensures (sym c.in-Some.ensures)
    (ap (λ d. shape_of (types d) c.in_ok-new.new) (sym c.table.ensures) ∙ sym c.in-Some-shape_of.ensures)
    (c.is_renamed.ensures c.if-is_renamed.true)

pub returns-clause-defined : goal.returns-clause-defined
returns-clause-defined c = λ items bytes h.
    on_ok c.put_shape.result (λ p. type_put c.in_ok-new.ensures (sym c.in-Some.ensures) c.in_ok-shape.ensures p)
    (c.put_shape.ensures.put items bytes h)
