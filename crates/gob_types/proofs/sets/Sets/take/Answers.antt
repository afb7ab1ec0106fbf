use Rattle.std.proofs.Common.{List, Contains, subst, rules, ◌∙◌, arith}
use Rattle.gob_types.specs.declared.id.TypeId.{TypeId}
use Rattle.gob_types.specs.Machine.Kept.{Sets, IsIn, KeepsSets, IsSet}
use Rattle.gob_types.proofs.WaitLaws.{keeps_less, found_in}
use Rattle.gob_types.proofs.sets.Sets.take.Goals as goal

pub returns-clause-taken : goal.returns-clause-taken
returns-clause-taken c u h =
    subst (λ (m : Sets). IsIn m c.args.id u) c.self.view_is
    (found_in c.in-Some.ensures.value u (subst (λ (l : List TypeId). Contains l u) c.replace.ensures.value h))

pub returns-clause-kept : goal.returns-clause-kept
returns-clause-kept c =
    let E = c.self.inside.sets.entries in
    let new = (c.get_mut.follows.lender c.replace.new.dest).entries in
    let n : IsSet E new c.args.id c.replace.new.dest =
    record { each = ((c.get_mut.follows.holds c.replace.new.dest).3 (search rules)).0 } in
    let less : KeepsSets new E =
    keeps_less n (λ u h. absurd
    (omega (
      arith,
      (subst (λ (l : List TypeId). Contains l u) (c.replace.ensures.after ∙ c.new-empty.ensures)
          h).1,
    ))) in
    subst (λ (m : Sets). KeepsSets new m) c.self.view_is less
