-- The event is said by its tokens.
use Rattle.std.proofs.Common.{refl, subst}
use Rattle.gob_plain.specs.AbsentFields.{AbsentTokens}
use Rattle.std.proofs.lemmas.Result.{IfOk-from_err, on_ok_weaker}
use Rattle.gob_plain.proofs.LineLaws.{put_last}
use Rattle.gob_plain.proofs.PlaceLaws.{no_name, struct_end_said}
use Rattle.gob_plain.proofs.visitor.PlainVisitor.struct_ends.Goals as goal

pub returns-in_err-absent : goal.returns-in_err-absent
returns-in_err-absent g c = (refl, refl, IfOk-from_err c.from_residual.result _ c.from_residual.ensures.0)

pub returns : goal.returns
returns g c = (
  refl,
  refl,
  on_ok_weaker c.end_object.result (put_last c.in_ok-absent.ensures
      (λ zs p. no_name c.leaves_name.ensures.free c.leaves_name.ensures.lost
      (struct_end_said c.args.types.now c.args.next zs
      (subst (λ l. AbsentTokens c.args.self.now.style (g.S.Shapes.table c.args.self.now.shapes.now) c.args.types.now
      c.args.next l zs) c.count-count.ensures
      (subst (λ l. AbsentTokens c.args.self.now.style (g.S.Shapes.table c.args.self.now.shapes.now) l c.args.next
      c.count-count.result zs) c.as_slice.ensures p))))) c.end_object.ensures,
)
