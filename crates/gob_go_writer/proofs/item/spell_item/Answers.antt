use Rattle.std.proofs.Common.{[], ◌++◌, ◌∙◌, ap, take}
use Rattle.std.proofs.Math.Seq.{take-append_seam}
use Rattle.gob_go_writer.proofs.ItemSteps.{letters_spelled}
use Rattle.gob_go_writer.proofs.item.spell_item.Goals as goal

pub returns-in-Ok-clause-ok : goal.returns-in-Ok-clause-ok
returns-in-Ok-clause-ok c =
    let t = c.in_ok-put_item.ensures.ok in
    let a = c.in-Ok.ensures.ok t.letters (t.takes.behind [] c.new-segments.ensures) in
    record { bytes = a.bytes; spelled = letters_spelled t.spelled a.spelled; appended = a.appended }

pub returns-in-Err-clause-err : goal.returns-in-Err-clause-err
returns-in-Err-clause-err c =
    let more = c.in-Err.ensures.err in
    let old = c.args.out.now in
    c.truncate.ensures.items ∙ ap (λ l. take c.len-start.result l) more.appended
    ∙ ap (λ n. take n (old.items ++ more.bytes)) (c.len-start.ensures ∙ old.ok.0)
    ∙ take-append_seam old.items more.bytes
