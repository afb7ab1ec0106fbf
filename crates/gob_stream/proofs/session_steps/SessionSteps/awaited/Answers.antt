use Rattle.gob_stream.proofs.Reader.SessionAnswers.{gives_no_more}
use Rattle.gob_stream.proofs.session_steps.SessionSteps.awaited.Goals as goal

pub returns-clause-given : goal.returns-clause-given
returns-clause-given g c =
    gives_no_more g.B.Builder.building c.args.self.now c.args.piece.now c.awaited.result c.awaited.ensures.between
    c.awaited.ensures.begun
