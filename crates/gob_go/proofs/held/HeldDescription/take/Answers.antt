use Rattle.std.proofs.lemmas.Result.{err_from_is_err_and}
use Rattle.gob_go.proofs.HeldDefinitionSteps.{held_ready, held_failed, held_ends, held_went, held_fits}
use Rattle.gob_go.proofs.HeldDefinitionSteps.{held_some}
use Rattle.gob_go.proofs.held.HeldDescription.take.Goals as goal

pub take-requires-clause-has_read : goal.take-requires-clause-has_read
take-requires-clause-has_read c = (held_ready c.requires.has_read).has_read

pub take-requires-clause-admitted : goal.take-requires-clause-admitted
take-requires-clause-admitted c = (held_ready c.requires.has_read).admits

pub returns-in_err-described : goal.returns-in_err-described
returns-in_err-described c =
    let p = err_from_is_err_and c.from_residual.result c.from_residual.ensures.1 in
    rw (p.1, p.2) (record {
      each = λ T offset z h o. held_failed c.args.levels.now c.args.self.description c.args.piece.now
          c.requires.has_read.known.base h c.in_err-described.ensures;
      some = λ l. tt;
    })

pub behind_held-requires-clause-fits : goal.behind_held-requires-clause-fits
behind_held-requires-clause-fits c = (held_fits c.in_ok-described.described c.args.self.description c.args.piece.now
    c.stream-most.ensures.limits.stream c.requires.has_read c.in_ok-described.ensures).fits

pub behind_held-requires-clause-order : goal.behind_held-requires-clause-order
behind_held-requires-clause-order c = (held_fits c.in_ok-described.described c.args.self.description c.args.piece.now
    c.stream-most.ensures.limits.stream c.requires.has_read c.in_ok-described.ensures).order

pub returns : goal.returns
returns c =
    let w = c.requires.has_read in
    let f = held_fits c.in_ok-described.described c.args.self.description c.args.piece.now
    c.stream-most.ensures.limits.stream w c.in_ok-described.ensures in
    let e = held_ends c.args.around.now.taken c.args.self.description c.args.piece.now w.taken_is w.has_read
    c.in_ok-described.ensures in
    record {
      each = λ T offset z h o. held_went c.args.around.now.taken c.behind_held.new.levels c.args.self.description
          c.args.piece.now c.behind_held.result w.known.base e f.fits h c.in_ok-described.ensures c.behind_held.ensures;
      some = λ l. held_some c.behind_held.new.levels c.args.around.now.taken c.in_ok-described.described
          c.args.self.description
          c.args.piece.now c.behind_held.result w.has_read c.in_ok-described.ensures c.behind_held.ensures l;
    }
