use Rattle.gob_go_writer.proofs.SpellingLaws.{kept_spelled, one_kept}
use Rattle.gob_go_writer.proofs.laws.items_are_spelled.Goals as goal

pub returns-clause-one : goal.returns-clause-one
returns-clause-one c T kept b b' p q = one_kept p q

pub returns-clause-bytes : goal.returns-clause-bytes
returns-clause-bytes c T kept b a = kept_spelled a
