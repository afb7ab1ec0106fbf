use Rattle.gob_lines.proofs.PartLaws.{hex_it}
use Rattle.gob_lines.proofs.leaf.read_hex.Goals as goal

pub returns-in-Some-clause-only : goal.returns-in-Some-clause-only
returns-in-Some-clause-only c = λ b rest bytes said.
    let text = rw c.in-Some-String.field-0-is at c.in-Some-String.ensures.value in
    let got = rw c.in-Some.is at c.in_ok-bytes.ensures.decoded in
    hex_it c.in-Some.bytes.items b c.in-Some-String.text.now c.args.tokens.now c.next.new.self rest got text bytes said
