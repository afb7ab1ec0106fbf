use Rattle.std.proofs.Common.{arith}
use Rattle.std.proofs.lemmas.Result.{err_from_is_err_and}
use Rattle.gob_go.proofs.TypeNumberSteps.{definition_denied, begun, begun_under_way, begun_admitted, definition_begins}
use Rattle.gob_go.proofs.TypeNumberSteps.{definition_begins_wrong, begun_fits}
use Rattle.gob_go.proofs.type_number.begin_definition.Goals as goal

pub returns-in_err-description : goal.returns-in_err-description
returns-in_err-description c =
    let p = err_from_is_err_and c.from_residual.result c.from_residual.ensures.1 in
    rw (p.1, p.2) (record {
      each = λ offset size d a k n t l o. definition_denied c.args.piece.now c.in_err-description.field-0.0 k n t l
          c.in_err-description.ensures;
    })

pub take-requires-clause-has_read : goal.take-requires-clause-has_read
take-requires-clause-has_read c =
    begun_under_way c.requires.within (begun c.args.body.begin c.in_ok-description.ensures)

pub take-requires-clause-admitted : goal.take-requires-clause-admitted
take-requires-clause-admitted c = begun_admitted (begun c.args.body.begin c.in_ok-description.ensures)

pub returns-in_err-described : goal.returns-in_err-described
returns-in_err-described c =
    let p = err_from_is_err_and c.from_residual-in_err-described.result c.from_residual-in_err-described.ensures.1 in
    rw (p.1, p.2) (record {
      each = λ offset size d a k n t l o. definition_begins_wrong c.in_ok-description.description c.args.piece.now k n t
          l
          c.requires.known.base (begun c.args.body.begin c.in_ok-description.ensures) c.in_err-described.ensures;
    })

pub behind_description-requires : goal.behind_description-requires
behind_description-requires c =
    let h = c.requires in let most = c.stream-most.ensures.limits.stream in
    let k = h.counted in let kb = k.begin in let ke = k.end in let ks = k.stream in
    let fits = begun_fits c.args.body.begin c.in_ok-described.described c.args.piece.now h.numbered h.taken_is h.within
    (begun c.args.body.begin c.in_ok-description.ensures) c.in_ok-described.ensures in
    omega arith

pub returns : goal.returns
returns c = rw c.behind_description.ensures (record {
  each = λ offset size d a k n t l o. definition_begins c.args.around.now.taken c.in_ok-description.description
      c.args.piece.now k n t l c.requires.known.base (begun c.args.body.begin c.in_ok-description.ensures)
      c.in_ok-described.ensures;
})
