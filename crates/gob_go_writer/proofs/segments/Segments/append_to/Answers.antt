use Rattle.std.proofs.Common.{subst, ap, ◌++◌, ◌∙◌}
use Rattle.std.proofs.lemmas.Result.{on_ok_weaker, on_err_weaker}
use Rattle.gob_num.specs.Spelled.{Appends}
use Rattle.gob_value.proofs.PublicLaws.{keeps_then, on_err_any}
use Rattle.gob_go_writer.specs.Machine.Letters.{IsSegment}
use Rattle.gob_go_writer.proofs.LetterLaws.{all_appended, nothing_more}
use Rattle.gob_go_writer.proofs.segments.Segments.append_to.Goals as goal

pub returns-clause-ok : goal.returns-clause-ok
returns-clause-ok c = on_ok_weaker c.write_segment.result
    (λ a letters h. all_appended c.args.out.now.items
    (subst (λ old. Appends (IsSegment c.args.self.last.items) old c.write_segment.new.out.items)
    (c.in_ok-extend_from_slice.ensures.items ∙ ap (λ l. c.args.out.now.items ++ l) c.deref.ensures.value)
    (subst (λ s. Appends (IsSegment s) c.extend_from_slice.new.self.items c.write_segment.new.out.items)
    c.deref-2.ensures.value a)) h) c.write_segment.ensures.ok

pub returns-in_err-extend_from_slice-clause-err : goal.returns-in_err-extend_from_slice-clause-err
returns-in_err-extend_from_slice-clause-err c = on_err_any c.from_residual.result
    (nothing_more c.in_err-extend_from_slice.ensures.items)

pub returns-clause-err : goal.returns-clause-err
returns-clause-err c =
    let ended = c.deref.result.now in
    let appended = c.in_ok-extend_from_slice.ensures.items in
    on_err_weaker c.write_segment.result
    (keeps_then (record { bytes = ended; spelled = tt; appended = appended })) c.write_segment.ensures.err
