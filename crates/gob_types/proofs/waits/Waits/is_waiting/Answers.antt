use Rattle.std.proofs.Common.{Some, sym, ap, ◌∙◌}
use Rattle.gob_types.proofs.GrowthLaws.{some_injective}
use Rattle.gob_types.proofs.SetLaws.{same_exact}
use Rattle.gob_types.proofs.WaitLaws.{same_equal}
use Rattle.gob_types.proofs.waits.Waits.is_waiting.Goals as goal

pub returns-in-Some : goal.returns-in-Some
returns-in-Some c =
    let e = sym c.awaited.ensures ∙ c.in-Some.is in (
      λ yes. e ∙ ap Some (same_exact _ _ (sym c.eq.ensures ∙ yes)),
      λ h. c.eq.ensures
          ∙ same_equal (some_injective (sym e ∙ h)),
    )
