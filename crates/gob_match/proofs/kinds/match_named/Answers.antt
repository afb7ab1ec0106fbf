use Rattle.std.proofs.Common.{inr, sym, subst}
use Rattle.gob_value.proofs.PublicLaws.{not_true}
use Rattle.std.proofs.lemmas.Result.{IfOk-from_err}
use Rattle.gob_match.specs.Matching.{name_repeated}
use Rattle.gob_match.specs.Pairs.{RepeatsName}
use Rattle.gob_match.proofs.kinds.match_named.Goals as goal

pub returns-then-branch-clause-fault : goal.returns-then-branch-clause-fault
returns-then-branch-clause-fault c = name_repeated
    (inr (subst RepeatsName c.as_slice.ensures (c.in_ok-repeats_name.ensures.0 c.if-branch.true)))

pub match_common-requires-clause-distinct : goal.match_common-requires-clause-distinct
match_common-requires-clause-distinct c = record {
  in_stream = c.requires.distinct;
  in_wanted = λ twice. not_true c.if-branch.false c.in_ok-repeats_name.ensures
      (subst RepeatsName (sym c.as_slice.ensures) twice);
}

pub returns-in_err-repeats_name-clause-converts : goal.returns-in_err-repeats_name-clause-converts
returns-in_err-repeats_name-clause-converts c = IfOk-from_err c.from_residual.result _ c.from_residual.ensures.0

pub returns-in_err-match_common-clause-converts : goal.returns-in_err-match_common-clause-converts
returns-in_err-match_common-clause-converts c = IfOk-from_err c.from_residual-in_err-match_common.result _
    c.from_residual-in_err-match_common.ensures.0
