use Rattle.std.proofs.Common.{subst, rules}
use Rattle.gob_types.specs.Machine.Kept.{Sets, KeepsSets, IsSet}
use Rattle.gob_types.proofs.WaitLaws.{keeps_less, found_in, popped_less}
use Rattle.gob_types.proofs.sets.Sets.pop.Goals as goal

pub returns-clause-kept : goal.returns-clause-kept
returns-clause-kept c =
    let E = c.self.inside.sets.entries in
    let new = (c.get_mut.follows.lender c.pop.new.self).entries in
    let n : IsSet E new c.args.id c.pop.new.self =
    record { each = ((c.get_mut.follows.holds c.pop.new.self).3 (search rules)).0 } in
    let less : KeepsSets new E =
    keeps_less n (λ u h. found_in c.in_ok-set.ensures.value u (popped_less _ _ c.pop.result c.pop.ensures u h)) in
    subst (λ (m : Sets). KeepsSets new m) c.self.view_is less
