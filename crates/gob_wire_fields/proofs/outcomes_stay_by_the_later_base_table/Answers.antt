use Rattle.gob_wire_fields.specs.BaseTable.{earlier_base_table}
use Rattle.gob_stream.proofs.PublicLaws.{somehow}
use Rattle.gob_wire_fields.proofs.WiderStreams.{outcomes_stay}
use Rattle.gob_wire_fields.proofs.outcomes_stay_by_the_later_base_table.Goals as goal

pub returns-clause-some : goal.returns-clause-some
returns-clause-some c = somehow earlier_base_table

pub returns-clause-stay : goal.returns-clause-stay
returns-clause-stay c = outcomes_stay
