use Rattle.gob_lines.proofs.NumberLaws.{int_number, int_text}
use Rattle.gob_lines.proofs.leaf.read_int.Goals as goal

pub returns-in-Some-Number-clause-ok : goal.returns-in-Some-Number-clause-ok
returns-in-Some-Number-clause-ok c =
    let stands = rw c.in-Some-Number.field-0-is at c.in-Some-Number.ensures.value in
    int_number c.int_in.result c.in-Some-Number.digits.now c.args.tokens.now c.next.new.self stands c.int_in.ensures.ok

pub returns-in-Some-String-clause-ok : goal.returns-in-Some-String-clause-ok
returns-in-Some-String-clause-ok c =
    let stands = rw c.in-Some-String.field-0-is at c.in-Some-String.ensures.value in
    int_text c.int_in-in-Some-String.result c.in-Some-String.digits.now c.args.tokens.now c.next.new.self stands
    c.int_in-in-Some-String.ensures.ok
