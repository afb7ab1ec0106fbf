use Rattle.std.proofs.lemmas.Result.{IfOk-from_err}
use Rattle.gob_match.proofs.kinds.match_kinds.Goals as goal

pub returns-in_err-match_basic-in-Basic-clause-converts : goal.returns-in_err-match_basic-in-Basic-clause-converts
returns-in_err-match_basic-in-Basic-clause-converts c = IfOk-from_err c.from_residual.result _ c.from_residual.ensures.0

pub returns-in_err-match_opaque-in-Opaque-clause-converts : goal.returns-in_err-match_opaque-in-Opaque-clause-converts
returns-in_err-match_opaque-in-Opaque-clause-converts c =
    IfOk-from_err c.from_residual-in_err-match_opaque-in-Opaque.result _
    c.from_residual-in_err-match_opaque-in-Opaque.ensures.0

pub returns-in_err-match_array-in-Array-clause-converts : goal.returns-in_err-match_array-in-Array-clause-converts
returns-in_err-match_array-in-Array-clause-converts c =
    IfOk-from_err c.from_residual-in_err-match_array-in-Array.result _
    c.from_residual-in_err-match_array-in-Array.ensures.0

pub returns-in_err-match_slice-in-Slice-clause-converts : goal.returns-in_err-match_slice-in-Slice-clause-converts
returns-in_err-match_slice-in-Slice-clause-converts c =
    IfOk-from_err c.from_residual-in_err-match_slice-in-Slice.result _
    c.from_residual-in_err-match_slice-in-Slice.ensures.0

pub returns-in_err-match_map-in-Map-clause-converts : goal.returns-in_err-match_map-in-Map-clause-converts
returns-in_err-match_map-in-Map-clause-converts c =
    IfOk-from_err c.from_residual-in_err-match_map-in-Map.result _ c.from_residual-in_err-match_map-in-Map.ensures.0
