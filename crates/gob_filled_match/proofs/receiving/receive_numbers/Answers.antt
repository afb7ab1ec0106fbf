use Rattle.gob_types.specs.Defined.{types}
use Rattle.gob_filled_match.proofs.NumberedLaws.{ready_on}
use Rattle.gob_filled_match.proofs.receiving.receive_numbers.Goals as goal

pub match_again-requires-clause-ready : goal.match_again-requires-clause-ready
match_again-requires-clause-ready c =
    ready_on {T = types c.new-types.result.table.now} (rw c.new-types.ensures c.requires.ready)

pub match_again-requires-clause-wanted_ready : goal.match_again-requires-clause-wanted_ready
match_again-requires-clause-wanted_ready c =
    ready_on {T = types c.new-wanted_types.result.table.now} (rw c.new-wanted_types.ensures c.requires.wanted_ready)

pub receive_bytes-requires-clause-ready : goal.receive_bytes-requires-clause-ready
receive_bytes-requires-clause-ready c =
    ready_on {T = types c.new-types.result.table.now} (rw c.new-types.ensures c.requires.ready)
