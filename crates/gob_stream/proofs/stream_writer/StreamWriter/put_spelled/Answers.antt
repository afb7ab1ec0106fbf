use Rattle.std.proofs.Common.{refl, subst}
use Rattle.std.proofs.lemmas.Result.{err_from_is_err_and}
use Rattle.gob_types.specs.Base.{base_table}
use Rattle.gob_types.specs.Defined.{types}
use Rattle.gob_types.specs.Denial.{IsDenial}
use Rattle.gob_types.specs.declared.denial.Denial.{Denial}
use Rattle.gob_stream.specs.Item.{StreamItem, puts}
use Rattle.gob_stream.specs.Machine.WriterState.{WriterState}
use Rattle.gob_stream.specs.WriterRefusal.{RefusesItem, refused_type, refused_body}
use Rattle.gob_stream.proofs.DenialLaws.{denial_weaker}
use Rattle.gob_stream.proofs.Written.WritingLaws.{whole_item}
use Rattle.gob_stream.proofs.Written.WriterSteps.{denied_writes, all_within, sent_writes, denied_effects, sent_effects}
use Rattle.gob_stream.proofs.Written.WriterSteps.{usable_behind, failed_effects, failed_wrote, writer_state}
use Rattle.gob_stream.proofs.stream_writer.StreamWriter.put_spelled.Goals as goal

-- the item of this value is denied so
abbrev Denies : WriterState → StreamItem → Denial → Type 0
Denies w i d = IsDenial (RefusesItem base_table w.limits (types w.types) w.place.offset i) d

pub returns-in_err-spell_head-clause-writes : goal.returns-in_err-spell_head-clause-writes
returns-in_err-spell_head-clause-writes g c = λ v spelled items bytes T written.
    let p = err_from_is_err_and c.from_residual.result c.from_residual.ensures.1 in
    let w = c.args.self.now in
    let why = c.in_err-spell_head.field-0.0 in
    let denied = subst (λ (w : WriterState). Denies w (puts c.args.id v) why) c.self.view_is
    (denial_weaker _ (λ r. refused_type) c.in_err-spell_head.ensures.err) in
    rw (p.1, p.2) (denied_writes w.limits w w items bytes T (puts c.args.id v) _ why written denied)

pub returns-in_err-begin_item-clause-writes : goal.returns-in_err-begin_item-clause-writes
returns-in_err-begin_item-clause-writes g c = λ v spelled items bytes T written.
    let p = err_from_is_err_and c.from_residual-in_err-begin_item.result c.from_residual-in_err-begin_item.ensures.1 in
    let w = c.args.self.now in
    let why = c.in_err-begin_item.field-0.0 in
    let refused = rw c.deref.ensures.value at c.in_err-begin_item.ensures.err in
    let is = rw (← c.self.view_is) at spelled in
    let denied = subst (λ (w : WriterState). Denies w (puts c.args.id v) why) c.self.view_is
    (denial_weaker _ (λ r. refused_body (c.in_ok-spell_head.ensures.ok c.self.inside.limits v c.args.spelling.now is))
    refused) in
    rw (p.1, p.2) (denied_writes w.limits w w items bytes T (puts c.args.id v) _ why written denied)

pub returns-clause-writes : goal.returns-clause-writes
returns-clause-writes g c =
    let w = writer_state c.self.inside.limits c.self.inside.types c.self.inside.place in
    let whole = rw c.deref.ensures.value at c.in_ok-begin_item.ensures.ok in
    λ v spelled items bytes T written.
    let before = rw (← c.self.view_is) at written in
    let is = rw (← c.self.view_is) at spelled in
    rw (← c.self.view_is) (sent_writes w.limits w w c.send.new.self _ items bytes T _ (puts c.args.id v) _ _
    c.send.result before
    (record {
      limits = refl;
      place = refl;
      within = all_within w.limits;
      most = refl;
      table = refl;
      item =
          whole_item (c.in_ok-spell_head.ensures.ok w.limits v c.args.spelling.now is) whole;
    })
    (rw c.deref-2.ensures.value at c.send.ensures.sends))

pub returns-then-self-clause-writes : goal.returns-then-self-clause-writes
returns-then-self-clause-writes g c = λ v spelled items bytes T written.
    let before = rw (← c.self.view_is) at written in
    failed_wrote c.if-self.true before

pub invariant_of-self-2 : goal.invariant_of-self-2
invariant_of-self-2 g c =
    let w = writer_state c.self.inside.limits c.self.inside.types c.self.inside.place in
    let whole = rw c.deref.ensures.value at c.in_ok-begin_item.ensures.ok in
    let given = rw (← c.self.view_is) at c.requires in
    usable_behind w.limits w w c.send.new.self _ _ (puts c.args.id given.value) _ _ c.send.result c.self.invariant
    c.if-self.false
    (λ some. record {
      limits = refl;
      place = refl;
      within = all_within w.limits;
      most = refl;
      table = refl;
      item = whole_item (c.in_ok-spell_head.ensures.ok w.limits given.value c.args.spelling.now given.spelled) whole;
    })
    (rw c.deref-2.ensures.value at c.send.ensures.sends)

pub returns-in_err-spell_head-clause-effects : goal.returns-in_err-spell_head-clause-effects
returns-in_err-spell_head-clause-effects g c =
    let p = err_from_is_err_and c.from_residual.result c.from_residual.ensures.1 in
    let w = writer_state c.self.inside.limits c.self.inside.types c.self.inside.place in
    rw (p.1, p.2, ← c.self.view_is) (denied_effects g.W.Write.contents w w c.args.output.now
    c.in_err-spell_head.field-0.0 c.self.invariant c.if-self.false refl)

pub returns-in_err-begin_item-clause-effects : goal.returns-in_err-begin_item-clause-effects
returns-in_err-begin_item-clause-effects g c =
    let p = err_from_is_err_and c.from_residual-in_err-begin_item.result c.from_residual-in_err-begin_item.ensures.1 in
    let w = writer_state c.self.inside.limits c.self.inside.types c.self.inside.place in
    rw (p.1, p.2, ← c.self.view_is) (denied_effects g.W.Write.contents w w c.args.output.now
    c.in_err-begin_item.field-0.0 c.self.invariant c.if-self.false refl)

pub returns-clause-effects : goal.returns-clause-effects
returns-clause-effects g c =
    let w = writer_state c.self.inside.limits c.self.inside.types c.self.inside.place in
    rw (← c.self.view_is) (sent_effects g.W.Write.contents w w c.send.new.self _ c.args.output.now c.send.new.output
    c.send.result c.self.invariant c.if-self.false c.send.ensures.sends c.send.ensures.counted)

pub returns-then-self-clause-effects : goal.returns-then-self-clause-effects
returns-then-self-clause-effects g c =
    let w = writer_state c.self.inside.limits c.self.inside.types c.self.inside.place in
    rw (← c.self.view_is) (failed_effects g.W.Write.contents w c.args.output.now c.if-self.true)
