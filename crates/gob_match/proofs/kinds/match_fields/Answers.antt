use Rattle.std.proofs.Common.{inl}
use Rattle.std.proofs.lemmas.Result.{IfOk-from_err}
use Rattle.gob_match.specs.Machine.Struct.{AreNames}
use Rattle.gob_match.specs.Matching.{name_repeated}
use Rattle.gob_match.proofs.KindLaws.{repeated}
use Rattle.gob_match.proofs.kinds.match_fields.Goals as goal

pub returns-in_default-clause-fault : goal.returns-in_default-clause-fault
returns-in_default-clause-fault c = name_repeated
    (inl (repeated (AreNames c.as_slice.result.now) c.in_ok-names.field-0 c.as_slice.result.now c.args.stream.now
    c.in_default.is c.in_ok-names.ensures c.as_slice.ensures))

pub returns-in_err-names-clause-converts : goal.returns-in_err-names-clause-converts
returns-in_err-names-clause-converts c = IfOk-from_err c.from_residual.result _ c.from_residual.ensures.0
