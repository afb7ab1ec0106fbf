use Rattle.gob_tape.proofs.ReceivedLaws.{field_told}
use Rattle.gob_tape.proofs.tape_builder.TapeBuilder.name.Goals as goal

pub returns-in-Some : goal.returns-in-Some
returns-in-Some c = rw c.in-Some.is (λ us t. record { held = t.held; taped = field_told c.in-Some.next t.taped })
