use Rattle.std.proofs.Common.{[], ◌∷◌}
use Rattle.gob_stream.proofs.Reader.WholeSteps.{only_item}
use Rattle.gob_stream.proofs.Stream.StreamLaws.{one_item}
use Rattle.gob_stream.proofs.session.Session.pass.Goals as goal

pub go_past-requires-clause-items : goal.go_past-requires-clause-items
go_past-requires-clause-items g c = only_item c.requires.item

pub returns-clause-passed : goal.returns-clause-passed
returns-clause-passed g c = λ items bytes item z a there size.
    c.go_past.ensures.passed items bytes (item ∷ []) z a (one_item there) size
