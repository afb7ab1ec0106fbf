-- What stands before the field, made for it or beforehand.
use Rattle.std.proofs.Common.{nat_lt, refl, subst, sym}
use Rattle.gob_value.proofs.WholeSteps.{if_some}
use Rattle.gob_json.specs.Json.{field_name}
use Rattle.gob_json.specs.Machine.TextParts.{field_head}
use Rattle.gob_walk.specs.Event as event
use Rattle.gob_json.proofs.EventLaws.{told_one}
use Rattle.gob_json.proofs.text.exact.ExactVisitor.field.Goals as goal

pub returns : goal.returns
returns g c = (
  refl,
  told_one g.O.TextOut.puts (event.present c.args._types.now c.args.next c.args.number)
      (subst (λ o. g.O.TextOut.puts c.args.self.now.out.now c.put_begin.new.out
      (field_head (nat_lt 0 c.args.next) c.args.number (field_name o)) c.put_begin.result) (sym c.requires.field)
      (c.put_begin.ensures c.args._types.now
      (if_some c.args.heads (λ h are. are c.args._types.now refl) c.requires.heads) c.requires.field)),
)
