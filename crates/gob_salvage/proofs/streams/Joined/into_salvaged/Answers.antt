use Rattle.std.proofs.Common.{◌∙◌, List, ℕ, ap, subst, sym}
use Rattle.gob_stream.specs.Bounds.{within_trees}
use Rattle.gob_salvage.specs.Salvage.{IsSalvage}
use Rattle.gob_salvage.specs.Streams.{IsSalvaged}
use Rattle.gob_salvage.proofs.StreamsLaws.{all_joined, behind_nothing}
use Rattle.gob_salvage.proofs.streams.Joined.into_salvaged.Goals as goal

pub returns : goal.returns
returns c = λ bytes h none breaks.
    let L = within_trees c.args.limits in
    let kept = c.in_ok-whole.whole.kept in
    let same = ap (λ v. v.items) c.into_inner-bytes.ensures in
    subst (λ (b : List ℕ). IsSalvaged L bytes kept.items b c.args.self.gaps.items) (sym same)
    (all_joined bytes h none breaks
    (subst (λ (b : List ℕ). IsSalvage L b kept.items kept.bytes.items kept.gaps.items) (c.deref.ensures.value ∙ same)
    (behind_nothing c.in_ok-whole.ensures.salvage)))
