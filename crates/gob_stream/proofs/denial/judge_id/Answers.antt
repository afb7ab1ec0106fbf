use Rattle.gob_stream.specs.WriterRefusal.{reserved}
use Rattle.gob_stream.proofs.DenialLaws.{may_define, twice_refused, more_refused}
use Rattle.gob_stream.proofs.denial.judge_id.Goals as goal

pub returns-in-Ok-clause-judged : goal.returns-in-Ok-clause-judged
returns-in-Ok-clause-judged c = λ L most. may_define L c.args.table.now most c.in-Ok.ensures.admitted

pub returns-in-Err-ReservedType-clause-judged : goal.returns-in-Err-ReservedType-clause-judged
returns-in-Err-ReservedType-clause-judged c =
    λ L most. reserved (rw c.in-Err-ReservedType.field-0-is at c.in-Err-ReservedType.ensures.refused)

pub returns-in-Err-DefinedTwice-clause-judged : goal.returns-in-Err-DefinedTwice-clause-judged
returns-in-Err-DefinedTwice-clause-judged c = λ L most.
    twice_refused L c.args.table.now c.args.id (rw c.in-Err-DefinedTwice.field-0-is at
    c.in-Err-DefinedTwice.ensures.refused)

pub returns-in-Err-TooManyTypes-clause-judged : goal.returns-in-Err-TooManyTypes-clause-judged
returns-in-Err-TooManyTypes-clause-judged c = λ L most.
    more_refused L c.args.table.now c.args.id c.in-Err-TooManyTypes.ensures.known most
    (rw c.in-Err-TooManyTypes.field-0-is at c.in-Err-TooManyTypes.ensures.refused)
