use Rattle.std.proofs.Common.{arith}
use Rattle.std.proofs.lemmas.Result.{err_from_is_err_and}
use Rattle.gob_num.proofs.PublicLaws.{bytes-append, bytes_each}
use Rattle.gob_go.proofs.PutSteps.{is_in_put}
use Rattle.gob_go.proofs.PutEndSteps.{put_bound, put_answers, put_stopped}
use Rattle.gob_go.proofs.put.PutStage.take.Goals as goal

pub take-requires : goal.take-requires
take-requires c = record { has_read = is_in_put c.requires }

pub returns-in_err-taken : goal.returns-in_err-taken
returns-in_err-taken c =
    let p = err_from_is_err_and c.from_residual.result c.from_residual.ensures.1 in
    rw (p.1, p.2) (put_stopped _ c.in_err-taken.ensures)

pub behind_part-requires : goal.behind_part-requires
behind_part-requires c =
    let most = c.stream-most.ensures.limits.stream in
    let o = bytes-append c.requires.bytes c.args.piece.now c.requires.are_bytes
    (bytes_each c.args.piece.now (λ i. omega (arith, c.type_inv.piece i))) in
    let bound = put_bound c.requires o c.in_ok-taken.ensures in
    omega arith

pub returns : goal.returns
returns c = put_answers c.behind_part.result c.requires c.in_ok-taken.ensures c.behind_part.ensures
