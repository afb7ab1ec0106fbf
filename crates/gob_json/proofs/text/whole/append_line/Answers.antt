-- The line goes behind the others, or it is made first and then copied there.
use Rattle.std.proofs.Common.{arith, refl}
use Rattle.std.proofs.lemmas.Result.{IfOk-from_err}
use Rattle.gob_json.proofs.LineLaws.{line_appended, line_copied}
use Rattle.gob_json.proofs.text.whole.append_line.Goals as goal

pub returns-clause-ok : goal.returns-clause-ok
returns-clause-ok g c =
    line_copied (line_appended (omega arith) (c.in_ok-put_line.ensures.whole refl)
    (λ v p d. (c.in_ok-put_line.ensures.sent v p d).answers))
    c.clear.ensures.items c.deref-2.ensures.value c.in_ok-copy-2.ensures.ok

pub returns-in_err-copy-clause-ok : goal.returns-in_err-copy-clause-ok
returns-in_err-copy-clause-ok g c = IfOk-from_err c.from_residual.result _ c.from_residual.ensures.0

pub returns-in_err-put_line-clause-ok : goal.returns-in_err-put_line-clause-ok
returns-in_err-put_line-clause-ok g c =
    IfOk-from_err c.from_residual-in_err-put_line.result _ c.from_residual-in_err-put_line.ensures.0

pub returns-in_err-copy-2-clause-ok : goal.returns-in_err-copy-2-clause-ok
returns-in_err-copy-2-clause-ok g c =
    IfOk-from_err c.from_residual-in_err-copy-2.result _ c.from_residual-in_err-copy-2.ensures.0
