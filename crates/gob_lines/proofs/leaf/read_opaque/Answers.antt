use Rattle.std.proofs.Common.{codes}
use Rattle.gob_lines.proofs.PartLaws.{object_it}
use Rattle.gob_lines.proofs.leaf.read_opaque.Goals as goal

pub returns-in_ok-take_object_end-in-Some-BeginObject-clause-whole :
    goal.returns-in_ok-take_object_end-in-Some-BeginObject-clause-whole
returns-in_ok-take_object_end-in-Some-BeginObject-clause-whole c = λ b rest bytes said.
    let object = rw c.in-Some-BeginObject.field-0-is at c.in-Some-BeginObject.ensures.value in
    object_it (codes "opaque") c.in_ok-bytes-in-Some-BeginObject.bytes.items b c.args.tokens.now c.next.new.self
    c.take_key.new.tokens c.read_hex.new.tokens c.take_object_end.new.tokens rest
    c.in_ok-bytes-in-Some-BeginObject.ensures.only bytes object c.in_ok-take_key-in-Some-BeginObject.ensures.ok
    c.in_ok-take_object_end-in-Some-BeginObject.ensures.ok said
