use Rattle.std.proofs.Common.{sym, subst}
use Rattle.gob_match.specs.Machine.Exploring.{IsExploreFault}
use Rattle.gob_match.specs.Machine.Search.{IsPathTo, HasPath}
use Rattle.gob_match.proofs.matching.keep_explored.Goals as goal

pub path_to-requires : goal.path_to-requires
path_to-requires g c =
    let h = subst (IsExploreFault (g.S.Shapes.table c.args.stream.now) (g.T.Shapes.table c.args.wanted.now)
    c.args.found.now c.explore.new.found c.args.place) c.in-Err-Clash.field-0-is c.in-Err-Clash.ensures.fault in
    subst (λ es. HasPath es c.args.place) (sym h.same) c.requires.path

pub returns-in_ok-path-in-Err-Clash-clause-fault : goal.returns-in_ok-path-in-Err-Clash-clause-fault
returns-in_ok-path-in-Err-Clash-clause-fault g c =
    let h = subst (IsExploreFault (g.S.Shapes.table c.args.stream.now) (g.T.Shapes.table c.args.wanted.now)
    c.args.found.now c.explore.new.found c.args.place) c.in-Err-Clash.field-0-is c.in-Err-Clash.ensures.fault in
    record {
      pair = h.pair;
      at = h.at;
      clash = h.clash;
      leads = subst
          (λ es. IsPathTo es c.args.place c.in_ok-path-in-Err-Clash.path.items) h.same
          c.in_ok-path-in-Err-Clash.ensures;
    }

pub returns-in_ok-push-in-Ok-clause-kept : goal.returns-in_ok-push-in-Ok-clause-kept
returns-in_ok-push-in-Ok-clause-kept g c = record
    { conversion = c.in-Ok.conversion; explores = c.in-Ok.ensures.explored; kept = c.in_ok-push-in-Ok.ensures.items }
