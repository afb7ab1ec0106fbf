-- The line of a field is appended where it is declared.
use Rattle.std.proofs.Common.{◌∙◌, ◌++◌, ◌≡◌, sym}
use Rattle.gob_source.specs.Source.{field_line, is_declared}
use Rattle.gob_source.proofs.FieldNameLaws.{adds_nothing, adds_text, on_ok}
use Rattle.gob_source.proofs.fields.push_field.Goals as goal

pub returns-then-branch : goal.returns-then-branch
returns-then-branch g c =
    let T = g.S.Shapes.table c.args.types.now.shapes.now in
    let line = field_line T c.args.types.now.ids.now c.args.of c.args.width c.args.field.now in
    on_ok c.push_field_line.result
    (λ (added : c.push_field_line.new.out.items ≡ c.args.out.now.items ++ line) before knows.
    let told = c.in_ok-declares.ensures before knows in (
      adds_text c.args.out.now.items c.push_field_line.new.out.items line (is_declared before c.args.field.now)
          (sym c.if-branch.true ∙ told.0) added,
      told.1,
    ))
    c.push_field_line.ensures

pub returns : goal.returns
returns g c = λ before knows.
    let T = g.S.Shapes.table c.args.types.now.shapes.now in
    let told = c.in_ok-declares.ensures before knows in
    let line = field_line T c.args.types.now.ids.now c.args.of c.args.width c.args.field.now in (
      adds_nothing c.args.out.now.items line (is_declared before c.args.field.now)
          (sym c.if-branch.false ∙ told.0),
      told.1,
    )
