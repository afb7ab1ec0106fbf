-- No item may stand where its head says so.
use Rattle.std.proofs.Common.{sym, ◌∙◌}
use Rattle.std.proofs.lemmas.Bool.{true≢false}
use Rattle.gob_num.proofs.PlaceLaws.{all_taken}
use Rattle.gob_forms.proofs.HeadLaws.{none_stands}
use Rattle.gob_forms.proofs.chain.item_end.Goals as goal
use Rattle.gob_forms.proofs.chain.item_end.Goals.{then-not-may_come-via-then-not-may_come}
use Rattle.gob_forms.proofs.chain.item_end.Goals.{then-not-may_come-via-else-not-may_come+then-not-is_whole_in}

pub returns-then-not-may_come-clause-none : goal.returns-then-not-may_come-clause-none
returns-then-not-may_come-clause-none c = λ _. none_stands
    (c.in_ok-item.ensures.lookup.0.2 ∙ all_taken c.args.bytes.now c.args.place)
    c.in_ok-head.ensures.found (λ may whole. elim c.then-not-may_come.branch [
      | then-not-may_come-via-then-not-may_come w ↦ true≢false (sym (c.may_come.ensures.1 may) ∙ w.if-not-may_come.true)
      | then-not-may_come-via-else-not-may_come+then-not-is_whole_in w ↦
          true≢false (sym (w.is_whole_in.ensures.1 whole) ∙ w.if-not-is_whole_in.true)
    ])
