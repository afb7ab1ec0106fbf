use Rattle.std.proofs.Common.{false, subst, IfSome}
use Rattle.gob_stream.specs.Stepping.{GivesNoMoreBy}
use Rattle.gob_go.specs.GoStepping.{nothing_meant, passing_stepping}
use Rattle.gob_go.proofs.SessionAnswers.{gives_no_more}
use Rattle.gob_go.proofs.passing.PassingSessionSteps.awaited.Goals as goal

pub returns-clause-given : goal.returns-clause-given
returns-clause-given c =
    subst (λ s. IfSome c.awaited.result (λ a. GivesNoMoreBy passing_stepping s c.args.piece.now)) c.self.view_is
    (gives_no_more false nothing_meant c.self.inside.session c.args.piece.now c.awaited.result
    c.awaited.ensures.between c.awaited.ensures.begun)
