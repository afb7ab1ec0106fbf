use Rattle.std.proofs.Common.{◌⊎◌, inl, inr}
use Rattle.gob_match.specs.declared.reason.ClashReason.{ClashReason}
use Rattle.gob_match.specs.Matching.{KindsMatch, KindsClash}
use Rattle.gob_match.proofs.ClashLaws.{match_or_clash}
use Rattle.gob_match.proofs.KindChoice.{kinds_choice, one_reason}
use Rattle.gob_match.proofs.laws.shapes_match_or_clash.Goals as goal

pub returns-clause-either : goal.returns-clause-either
returns-clause-either c k l = elim (kinds_choice k l) as
    (λ _. KindsMatch k l ⊎ ((reason : ClashReason) × KindsClash k l reason))
    [ inl m ↦ inl m | inr h ↦ inr (h.reason, h.clash) ]

pub returns-clause-not_both : goal.returns-clause-not_both
returns-clause-not_both c k l reason = match_or_clash k l reason

pub returns-clause-one_reason : goal.returns-clause-one_reason
returns-clause-one_reason c k l reason other = one_reason
