use Rattle.std.proofs.Common.{arith}
use Rattle.std.proofs.lemmas.Result.{err_from_is_err_and}
use Rattle.gob_go.proofs.DefinitionSteps.{definition_ready, definition_failed, definition_went, definition_fits}
use Rattle.gob_go.proofs.DefinitionSteps.{definition_some, definition_ends}
use Rattle.gob_go.proofs.definition.DefinitionStage.take.Goals as goal

pub take-requires-clause-has_read : goal.take-requires-clause-has_read
take-requires-clause-has_read c = (definition_ready c.requires).has_read

pub take-requires-clause-admitted : goal.take-requires-clause-admitted
take-requires-clause-admitted c = (definition_ready c.requires).admits

pub returns-in_err-described : goal.returns-in_err-described
returns-in_err-described c =
    let p = err_from_is_err_and c.from_residual.result c.from_residual.ensures.1 in
    rw (p.1, p.2) (record {
      each = λ T offset z h o. definition_failed c.args.self.description c.args.piece.now c.requires.known.base h
          c.in_err-described.ensures;
      some = λ l. tt;
    })

pub behind_description-requires : goal.behind_description-requires
behind_description-requires c =
    let w = c.requires in let most = c.stream-most.ensures.limits.stream in
    let fits = definition_fits c.args.self.description c.args.piece.now w.known.base w.taken_is w.in_item
    c.in_ok-described.ensures in
    omega arith

pub returns : goal.returns
returns c =
    let w = c.requires in
    let ends = definition_ends c.args.self.description c.args.piece.now w.taken_is w.in_item
    c.in_ok-described.ensures in
    rw c.behind_description.ensures (record {
      each = λ T offset z h o. definition_went c.args.around.now.taken c.args.self.description c.args.piece.now
          w.known.base ends h
          c.in_ok-described.ensures;
      some = λ l. definition_some c.args.around.now.taken c.args.self.description c.args.piece.now w.in_item
          c.in_ok-described.ensures l;
    })
