-- Without the bytes that were cut off it is UTF-8 or not.
use Rattle.std.proofs.Common.{take, sym, subst, arith, below_more}
use Rattle.std.proofs.lemmas.Bool.{true≢false}
use Rattle.std.specs.Str.{IsUtf8}
use Rattle.gob_forms.proofs.TextLaws.{is_cut}
use Rattle.gob_forms.proofs.text.is_utf8.Goals as goal

pub returns-in-Ok : goal.returns-in-Ok
returns-in-Ok c = is_cut c.is_empty.result c.loop-cut-test.true c.saturating_sub.ensures c.in-Ok.ensures.cases.0
    c.in-Ok.ensures.cases.1 c.is_empty.ensures c.loop-cut.invariant

pub loop-cut-preserved : goal.loop-cut-preserved
loop-cut-preserved c = below_more _ _ c.loop-cut.invariant (λ utf8. c.in_default.ensures.cases.0
    (subst (λ n. IsUtf8 (take n c.args.bytes.now)) (sym c.saturating_sub.ensures) utf8))

pub returns : goal.returns
returns c = (
  λ t. absurd (true≢false (sym t)),
  λ u. let few = u.few in
      absurd (c.loop-cut.invariant u.cut (omega arith) u.utf8),
)
