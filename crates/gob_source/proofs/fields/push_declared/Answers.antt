-- Field by field more is appended.
use Rattle.std.proofs.Common.{refl, take}
use Rattle.gob_source.specs.Source.{field_text, declared_text}
use Rattle.gob_source.proofs.FieldNameLaws.{knows_next}
use Rattle.gob_source.proofs.SourceLaws.{appended_more}
use Rattle.gob_source.proofs.fields.push_declared.Goals as goal

pub loop-field-preserved : goal.loop-field-preserved
loop-field-preserved g c =
    let T = g.S.Shapes.table c.args.types.now.shapes.now in
    let ts = c.args.types.now.ids.now in
    let of = c.args.of in
    let w = c.in_ok-width.width in
    let i = c.loop-field.field-index in
    let fields = c.args.fields.now in
    let f = c.field-item.result in
    let told = c.in_ok-push_field.ensures (take i fields) c.loop-field.invariant.known in
    record {
      text =
          appended_more (λ seen f. field_text T ts of w seen f) (λ seen fs. declared_text T ts of w seen fs)
          (λ seen f fs. refl)
          fields i f c.loop-field.out.items c.push_field.new.out.items _ c.field-item.is c.loop-field-test.true
          c.loop-field.invariant.text told.0;
      known = knows_next c.push_field.new.seen fields i f c.field-item.is c.loop-field-test.true told.1;
    }
