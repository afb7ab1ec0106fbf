use Rattle.gob_match.specs.Machine.Search.{AddsPairs}
use Rattle.gob_match.proofs.ConversionLaws.{IsAmongFirst}
use Rattle.gob_match.proofs.adding.add_fields.Given as goal

-- the pairs of the fields so far were added
abbrev pub invariant-loop-field : goal.invariant-loop-field
invariant-loop-field l = AddsPairs l.initial.found l.found l.place (IsAmongFirst l.common l.field-index)
