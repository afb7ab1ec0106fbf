-- Field by field more is appended.
use Rattle.std.proofs.Common.{refl, take}
use Rattle.gob_source.specs.Source.{comment_text, comments_text}
use Rattle.gob_source.proofs.FieldNameLaws.{knows_next}
use Rattle.gob_source.proofs.SourceLaws.{appended_more}
use Rattle.gob_source.proofs.fields.push_comments.Goals as goal

pub loop-field-preserved : goal.loop-field-preserved
loop-field-preserved g c =
    let T = g.S.Shapes.table c.args.types.now.shapes.now in
    let ts = c.args.types.now.ids.now in
    let of = c.args.of in
    let i = c.loop-field.field-index in
    let fields = c.args.fields.now in
    let f = c.field-item.result in
    let told = c.in_ok-push_comment.ensures (take i fields) c.loop-field.invariant.known in
    record {
      text =
          appended_more (λ seen f. comment_text T ts of seen f) (λ seen fs. comments_text T ts of seen fs)
          (λ seen f fs. refl)
          fields i f c.loop-field.out.items c.push_comment.new.out.items _ c.field-item.is c.loop-field-test.true
          c.loop-field.invariant.text told.0;
      known = knows_next c.push_comment.new.seen fields i f c.field-item.is c.loop-field-test.true told.1;
    }
