-- The event is said by its tokens.
use Rattle.std.proofs.Common.{refl, ap, subst, sym, ◌∙◌}
use Rattle.gob_json.specs.Json.{field_name}
use Rattle.gob_plain.specs.Plain.{name_text}
use Rattle.gob_plain.specs.AbsentFields.{AbsentTokens}
use Rattle.std.proofs.lemmas.Result.{IfOk-from_err, on_ok_weaker}
use Rattle.gob_plain.proofs.LineLaws.{put_last}
use Rattle.gob_plain.proofs.PlaceLaws.{no_name, field_said}
use Rattle.gob_plain.proofs.visitor.PlainVisitor.field.Goals as goal

pub returns-in_err-absent : goal.returns-in_err-absent
returns-in_err-absent g c = (refl, refl, IfOk-from_err c.from_residual.result _ c.from_residual.ensures.0)

pub returns : goal.returns
returns g c = (
  refl,
  refl,
  on_ok_weaker c.name.result (put_last c.in_ok-absent.ensures
      (λ zs p. no_name c.leaves_name.ensures.free c.leaves_name.ensures.lost
      (field_said c.args.types.now c.args.next c.args.number _
      (ap name_text (c.as_bytes.ensures ∙ ap field_name (sym c.requires.field))) zs
      (subst (λ l. AbsentTokens c.args.self.now.style (g.S.Shapes.table c.args.self.now.shapes.now) l c.args.next
      c.args.number zs) c.as_slice.ensures p)))) c.name.ensures,
)
