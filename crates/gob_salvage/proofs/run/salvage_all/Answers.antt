use Rattle.std.proofs.Common.{◌∙◌, List, ℕ, subst, sym}
use Rattle.gob_stream.specs.Bounds.{within_trees}
use Rattle.gob_salvage.specs.Running.{IsOf}
use Rattle.gob_salvage.proofs.RunLaws.{whole_read}
use Rattle.gob_salvage.proofs.run.salvage_all.Goals as goal

pub returns-clause-kept : goal.returns-clause-kept
returns-clause-kept g c = λ bytes known.
    let w = whole_read _ _ _ bytes c.in_ok-read.ensures.all c.in_ok-read.ensures.end known in
    subst (λ (b : List ℕ). IsOf (within_trees c.args.limits) b c.in_ok-salvage.field-0)
    (c.bytes.ensures ∙ sym w.0) c.in_ok-salvage.ensures
