use Rattle.std.proofs.Common.{◌++◌, ◌∙◌, ap}
use Rattle.gob_go_writer.proofs.SpellingLaws.{kept_spelled, one_kept}
use Rattle.gob_go_writer.proofs.item.write_item.Goals as goal

pub returns-in-Ok-clause-ok : goal.returns-in-Ok-clause-ok
returns-in-Ok-clause-ok c = λ bytes a.
    let s = c.in-Ok.ensures.ok in
    s.appended ∙ ap (λ b. c.args.out.now.items ++ b) (one_kept s.spelled (kept_spelled a))

pub unreachable-requires : goal.unreachable-requires
unreachable-requires c =
    let unfit = rw c.in-Err-Refused.field-0-is at c.in-Err-Refused.ensures.refused in
    unfit.1 (record { bytes = c.requires.bytes; spelled = kept_spelled c.requires.spelled })
