use Rattle.std.proofs.lemmas.Result.{err_from_is_err_and}
use Rattle.gob_go.proofs.TypeNumberSteps.{begun, begun_under_way, begun_admitted}
use Rattle.gob_go.proofs.HeldBeginSteps.{held_denied, held_begins, held_begins_wrong, held_begun_fits}
use Rattle.gob_go.proofs.held.begin_definition.Goals as goal

pub returns-in_err-description : goal.returns-in_err-description
returns-in_err-description c =
    let p = err_from_is_err_and c.from_residual.result c.from_residual.ensures.1 in
    rw (p.1, p.2)
    (held_denied c.args.levels.now c.args.piece.now c.in_err-description.field-0.0 c.in_err-description.ensures)

pub take-requires-clause-has_read : goal.take-requires-clause-has_read
take-requires-clause-has_read c =
    begun_under_way c.requires.within (begun c.args.rest.begin c.in_ok-description.ensures)

pub take-requires-clause-admitted : goal.take-requires-clause-admitted
take-requires-clause-admitted c = begun_admitted (begun c.args.rest.begin c.in_ok-description.ensures)

pub returns-in_err-described : goal.returns-in_err-described
returns-in_err-described c =
    let p = err_from_is_err_and c.from_residual-in_err-described.result c.from_residual-in_err-described.ensures.1 in
    rw (p.1, p.2) (held_begins_wrong c.args.levels.now c.in_ok-description.description c.args.piece.now
    c.requires.known.base (begun c.args.rest.begin c.in_ok-description.ensures) c.in_err-described.ensures)

pub behind_held-requires-clause-fits : goal.behind_held-requires-clause-fits
behind_held-requires-clause-fits c =
    (held_begun_fits c.in_ok-described.described c.in_ok-description.description c.args.piece.now
    c.stream-most.ensures.limits.stream c.requires (begun c.args.rest.begin c.in_ok-description.ensures)
    c.in_ok-described.ensures).fits

pub behind_held-requires-clause-order : goal.behind_held-requires-clause-order
behind_held-requires-clause-order c =
    (held_begun_fits c.in_ok-described.described c.in_ok-description.description c.args.piece.now
    c.stream-most.ensures.limits.stream c.requires (begun c.args.rest.begin c.in_ok-description.ensures)
    c.in_ok-described.ensures).order

pub returns : goal.returns
returns c =
    let g = begun c.args.rest.begin c.in_ok-description.ensures in
    let fits = (held_begun_fits c.in_ok-described.described c.in_ok-description.description c.args.piece.now
    c.stream-most.ensures.limits.stream c.requires g c.in_ok-described.ensures).fits in
    held_begins c.args.around.now.taken c.in_ok-described.described c.in_ok-description.description c.args.piece.now
    c.behind_held.result c.requires.known.base fits g c.in_ok-described.ensures c.behind_held.ensures
