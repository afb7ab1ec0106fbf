use Rattle.gob_num.proofs.TakenLaws.{empty_taken, short_taken, chunk_taken}
use Rattle.gob_num.proofs.unsigned.take_uint.Goals as goal

pub returns-in_default : goal.returns-in_default
returns-in_default c = empty_taken c.args.piece.now c.in_default.ensures.cases

pub returns-then-head-lt128 : goal.returns-then-head-lt128
returns-then-head-lt128 c = short_taken c.args.piece.now c.in-Some.rest.now c.in-Some.head.now c.from.result
    c.in-Some.ensures.cases.0 c.if-head-lt128.true c.from.ensures

pub returns-in-Some-first_chunk : goal.returns-in-Some-first_chunk
returns-in-Some-first_chunk c =
    let chunk = c.in-Some-first_chunk.ensures.cases in
    chunk_taken c.args.piece.now c.in-Some.rest.now c.in-Some-first_chunk.digits.now c.in-Some.head.now
    c.take_digits.result c.in-Some.ensures.cases.0 c.in-Some-first_chunk.ensures.cases.enough
    c.in-Some-first_chunk.ensures.cases.same c.take_digits.ensures
