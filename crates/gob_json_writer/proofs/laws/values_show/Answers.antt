use Rattle.gob_json_writer.proofs.ShownLaws.{filled_shown, stream_shown}
use Rattle.gob_json_writer.proofs.laws.values_show.Goals as goal

pub returns-clause-value : goal.returns-clause-value
returns-clause-value c base L T U t limit w letters p = filled_shown p (record { shape = λ t s e. e })

pub returns-clause-stream : goal.returns-clause-stream
returns-clause-stream c L T before behind t w bytes s = stream_shown before behind s
