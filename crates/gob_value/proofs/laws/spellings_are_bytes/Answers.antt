use Rattle.gob_value.proofs.BytesLaws.{spelled_bytes, top_bytes}
use Rattle.gob_value.proofs.laws.spellings_are_bytes.Goals as goal

pub returns-clause-value : goal.returns-clause-value
returns-clause-value c T t v b p = spelled_bytes p

pub returns-clause-top : goal.returns-clause-top
returns-clause-top c T t v b p = top_bytes p
