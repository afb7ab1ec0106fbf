use Rattle.std.proofs.Common.{ap, Some, sym, subst, ◌∙◌}
use Rattle.std.proofs.lemmas.Option.{none-some}
use Rattle.gob_types.specs.Machine.Kept.{Sets, IsIn}
use Rattle.gob_types.proofs.WaitLaws.{in_found}
use Rattle.gob_types.proofs.sets.Sets.of.Goals as goal

pub returns-in-Some : goal.returns-in-Some
returns-in-Some c u h =
    in_found {sets = c.self.inside.sets.entries} (ap Some c.as_slice.ensures ∙ c.in-Some.ensures.value) u
    (subst (λ (m : Sets). IsIn m c.args.id u) (sym c.self.view_is) h)

pub returns-in-None : goal.returns-in-None
returns-in-None c u h =
    absurd (none-some _ (c.in-None.ensures.value
    ∙ (subst (λ (m : Sets). IsIn m c.args.id u) (sym c.self.view_is) h).there))
