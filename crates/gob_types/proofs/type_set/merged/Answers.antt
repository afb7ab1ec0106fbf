use Rattle.std.proofs.Common.{inl, inr, ◌⊎◌, Contains}
use Rattle.std.proofs.lemmas.Result.{IfOk-weaker}
use Rattle.gob_types.proofs.type_set.merged.Goals as goal

pub returns-then-count : goal.returns-then-count
returns-then-count c = IfOk-weaker c.with_ids.result _ _ (λ both a u there. elim (a.only u there) as
    (λ _. Contains c.args.first u ⊎ Contains c.args.second u) [ inl h ↦ inr h | inr h ↦ inl h ]) c.with_ids.ensures
