use Rattle.std.proofs.Common.{rules, ◌∙◌, Some, ap, sym}
use Rattle.std.specs.Option.{option_copied}
use Rattle.gob_types.specs.Defined.{types}
use Rattle.gob_types.specs.declared.kind.Shape.{Shape}
use Rattle.gob_filled_match.proofs.NumberedLaws.{no_shape, shape_of_interface, shape_of_other}
use Rattle.gob_filled_match.proofs.numbered.NumberedShapes.shape_of.Goals as goal

pub returns-in_err-shape : goal.returns-in_err-shape
returns-in_err-shape c =
    ap option_copied c.from_residual.ensures
    ∙ sym (no_shape (types c.args.self.now.table.now) c.args.id
    (sym c.shape_of.ensures ∙ ap option_copied c.in_err-shape.was))

pub returns-then-is_interface : goal.returns-then-is_interface
returns-then-is_interface c =
    ap (λ (s : Shape). Some s) c.args.self.now.known
    ∙ sym (shape_of_interface (types c.args.self.now.table.now) c.args.id
    (sym c.shape_of.ensures ∙ ap option_copied c.in_ok-shape.was) (c.if-is_interface.ensures.0 (search rules)))

pub returns : goal.returns
returns c =
    sym (shape_of_other (types c.args.self.now.table.now) c.args.id
    (sym c.shape_of.ensures ∙ ap option_copied c.in_ok-shape.was)
    (λ i. absurd (search (rules, c.if-is_interface.ensures.1 i))))
