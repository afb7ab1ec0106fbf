use Rattle.std.proofs.Common.{subst}
use Rattle.std.specs.Prelude.{MatchResult}
use Rattle.gob_types.specs.Defined.{Defined, types}
use Rattle.gob_types.specs.Ready.{IsReady}
use Rattle.gob_types.specs.Readiness.{IsNotReady}
use Rattle.gob_types.proofs.table.Table.ready.Goals as goal

pub returns-then-kept-clause-judged : goal.returns-then-kept-clause-judged
returns-then-kept-clause-judged c = c.kept.ensures.0 c.if-kept.true

pub returns-clause-judged : goal.returns-clause-judged
returns-clause-judged c =
    subst (λ (d : Defined). MatchResult c.ready.result (λ _. IsReady (types d) c.args.id)
    (λ fault. IsNotReady (types d) c.args.id fault)) c.self.view_is c.ready.ensures.judged
