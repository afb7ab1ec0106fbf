use Rattle.std.proofs.Common.{refl}
use Rattle.std.proofs.lemmas.Result.{err_from_is_err_and}
use Rattle.gob_value.specs.View.{view}
use Rattle.gob_stream.specs.Bounds.{within_trees}
use Rattle.gob_stream.specs.Item.{puts}
use Rattle.gob_stream.specs.WriterRefusal.{refused_body}
use Rattle.gob_stream.proofs.DenialLaws.{denial_weaker}
use Rattle.gob_stream.proofs.Written.WritingLaws.{body_alone, whole_item}
use Rattle.gob_stream.proofs.Written.WriterSteps.{denied_writes, trees_within, sent_writes, denied_effects}
use Rattle.gob_stream.proofs.Written.WriterSteps.{sent_effects}
use Rattle.gob_stream.proofs.Written.WriterSteps.{usable_behind, failed_wrote, failed_effects, writer_state}
use Rattle.gob_stream.proofs.stream_writer.StreamWriter.put.Goals as goal

pub returns-in_err-spell_value : goal.returns-in_err-spell_value
returns-in_err-spell_value g c =
    let p = err_from_is_err_and c.from_residual.result c.from_residual.ensures.1 in
    let w = writer_state c.self.inside.limits c.self.inside.types c.self.inside.place in
    let why = c.in_err-spell_value.field-0.0 in
    rw (p.1, p.2, ← c.self.view_is) (record {
      writes = λ items bytes T written. denied_writes (within_trees w.limits) w w items bytes T
          (puts c.args.id (view c.args.value.now)) _ why written
          ((rw c.up_to-limits.ensures at c.in_err-spell_value.ensures.err) w.place.offset);
      effects = denied_effects g.W.Write.contents w w c.args.output.now why c.self.invariant c.if-self.false refl;
    })

pub returns-in_err-begin_item : goal.returns-in_err-begin_item
returns-in_err-begin_item g c =
    let p = err_from_is_err_and c.from_residual-in_err-begin_item.result c.from_residual-in_err-begin_item.ensures.1 in
    let w = writer_state c.self.inside.limits c.self.inside.types c.self.inside.place in
    let why = c.in_err-begin_item.field-0.0 in
    let refused = rw (c.deref.ensures.value, c.up_to-limits.ensures) at c.in_err-begin_item.ensures.err in
    rw (p.1, p.2, ← c.self.view_is) (record {
      writes = λ items bytes T written. denied_writes (within_trees w.limits) w w items bytes T
          (puts c.args.id (view c.args.value.now)) _ why written
          (denial_weaker _ (λ r. refused_body
          (body_alone (rw c.up_to-limits.ensures at c.in_ok-spell_value.ensures.ok))) refused);
      effects = denied_effects g.W.Write.contents w w c.args.output.now why c.self.invariant c.if-self.false refl;
    })

pub invariant_of-self-2 : goal.invariant_of-self-2
invariant_of-self-2 g c =
    let w = writer_state c.self.inside.limits c.self.inside.types c.self.inside.place in
    let whole = rw (c.deref.ensures.value, c.up_to-limits.ensures) at c.in_ok-begin_item.ensures.ok in
    usable_behind (within_trees w.limits) w (w) c.send.new.self _ _ (puts c.args.id (view c.args.value.now)) _ _
    c.send.result c.self.invariant c.if-self.false
    (λ some. (record {
      limits = refl;
      place = refl;
      within = trees_within w.limits;
      most = refl;
      table = refl;
      item =
          whole_item (body_alone (rw c.up_to-limits.ensures at c.in_ok-spell_value.ensures.ok)) whole;
    }))
    (rw c.deref-2.ensures.value at c.send.ensures.sends)

pub returns : goal.returns
returns g c =
    let w = writer_state c.self.inside.limits c.self.inside.types c.self.inside.place in
    let whole = rw (c.deref.ensures.value, c.up_to-limits.ensures) at c.in_ok-begin_item.ensures.ok in
    rw (← c.self.view_is) (record {
      writes = λ items bytes T written. sent_writes (within_trees w.limits) w (w) c.send.new.self _ items bytes T _
          (puts c.args.id (view c.args.value.now)) _ _ c.send.result written
          (record {
            limits = refl;
            place = refl;
            within = trees_within w.limits;
            most = refl;
            table = refl;
            item =
                whole_item (body_alone (rw c.up_to-limits.ensures at c.in_ok-spell_value.ensures.ok)) whole;
          })
          (rw c.deref-2.ensures.value at c.send.ensures.sends);
      effects = sent_effects g.W.Write.contents w (w) c.send.new.self _ c.args.output.now c.send.new.output
          c.send.result c.self.invariant c.if-self.false c.send.ensures.sends c.send.ensures.counted;
    })

pub returns-then-self : goal.returns-then-self
returns-then-self g c =
    let w = writer_state c.self.inside.limits c.self.inside.types c.self.inside.place in
    rw (← c.self.view_is) (record {
      writes = λ items bytes T written. failed_wrote c.if-self.true written;
      effects = failed_effects g.W.Write.contents w c.args.output.now c.if-self.true;
    })
