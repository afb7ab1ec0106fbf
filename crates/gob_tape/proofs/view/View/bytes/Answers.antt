use Rattle.std.proofs.Common.{◌∙◌, sym}
use Rattle.gob_tape.specs.declared.node.Content.TheVariants as content
use Rattle.gob_tape.proofs.SeeingLaws.{seen_says, says_no_number_bytes, says_raw_bytes, says_no_group_bytes}
use Rattle.gob_tape.proofs.view.View.bytes.Goals as goal

pub returns-in-Number : goal.returns-in-Number
returns-in-Number c = λ f v s.
    let self = c.args.self in
    let w = c.in-Number in
    says_no_number_bytes self.nodes.now self.pool.now self.place s.end v w.field-0 w.field-1 w.field-2
    (seen_says (content.Number w.field-0 w.field-1 w.field-2) _ self.inside (sym c.content.ensures ∙ w.is) s).1

pub returns-in-Raw : goal.returns-in-Raw
returns-in-Raw c = λ f v s.
    let self = c.args.self in
    let w = c.in-Raw in
    says_raw_bytes self.nodes.now self.pool.now self.place s.end v w.field-0 w.start w.count c.raw_bytes.ensures
    (seen_says (content.Raw w.field-0 w.start w.count) _ self.inside (sym c.content.ensures ∙ w.is) s).1

pub returns-in-Group : goal.returns-in-Group
returns-in-Group c = λ f v s.
    let self = c.args.self in
    let w = c.in-Group in
    says_no_group_bytes self.nodes.now self.pool.now self.place s.end v w.field-0 w.field-1 w.field-2
    (seen_says (content.Group w.field-0 w.field-1 w.field-2) _ self.inside (sym c.content.ensures ∙ w.is) s).1
