use Rattle.gob_stream.proofs.Reader.SessionAnswers.{nothing_strict, of_ok, stands}
use Rattle.gob_stream.proofs.session_steps.SessionSteps.begin.Goals as goal

pub returns-clause-stands : goal.returns-clause-stands
returns-clause-stands g c = of_ok c.new.result (λ s. stands g.B.Builder.building s)

pub returns-clause-nothing : goal.returns-clause-nothing
returns-clause-nothing g c = nothing_strict _
