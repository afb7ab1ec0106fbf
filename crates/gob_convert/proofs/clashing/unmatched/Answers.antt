-- The path of the clash leads to the pair whose kinds are told.
use Rattle.std.proofs.Common.{subst, sym}
use Rattle.gob_types.specs.Defined.{types}
use Rattle.gob_match.specs.Clashing.{LeadsBySteps}
use Rattle.gob_match.specs.Faults.{IsMatchFault}
use Rattle.gob_match.specs.Pairs.{of_types}
use Rattle.gob_convert.proofs.ClashingLaws.{tells_clash}
use Rattle.gob_convert.proofs.clashing.unmatched.Goals as goal

pub returns-in-Clash-clause-stops : goal.returns-in-Clash-clause-stops
returns-in-Clash-clause-stops c = λ all w.
    let T = types c.args.table.now in
    let W = types c.args.target.now.table in
    let least = subst (λ f. IsMatchFault T W c.args.id c.args.target.now.id f) c.in-Clash.is c.requires in
    tells_clash c.in-Clash.path c.in-Clash.reason c.args.number _ _ least
    (c.pair_at-pair.ensures least.clash.last
    (subst (λ steps. LeadsBySteps T W steps (of_types c.args.id c.args.target.now.id) least.clash.last)
    (sym c.deref.ensures.value) least.clash.leads)) c.kind_of.ensures c.kind_of-in-Clash.ensures
