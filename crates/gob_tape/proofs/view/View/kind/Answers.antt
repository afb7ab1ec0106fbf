use Rattle.std.proofs.Common.{◌∙◌, sym}
use Rattle.gob_tape.specs.declared.node.Content.TheVariants as content
use Rattle.gob_tape.proofs.SeeingLaws.{seen_says, says_number_kind, says_raw_kind, says_group_kind}
use Rattle.gob_tape.proofs.view.View.kind.Goals as goal

pub returns-in-Number : goal.returns-in-Number
returns-in-Number c = λ f v s.
    let self = c.args.self in
    let w = c.in-Number in
    c.number_kind.ensures ∙ says_number_kind self.nodes.now self.pool.now self.place s.end v w.kind w.field-1 w.field-2
    (seen_says (content.Number w.kind w.field-1 w.field-2) _ self.inside (sym c.content.ensures ∙ w.is) s).1

pub returns-in-Raw : goal.returns-in-Raw
returns-in-Raw c = λ f v s.
    let self = c.args.self in
    let w = c.in-Raw in
    c.raw_kind.ensures ∙ says_raw_kind self.nodes.now self.pool.now self.place s.end v w.kind w.field-1 w.field-2
    (seen_says (content.Raw w.kind w.field-1 w.field-2) _ self.inside (sym c.content.ensures ∙ w.is) s).1

pub returns-in-Group : goal.returns-in-Group
returns-in-Group c = λ f v s.
    let self = c.args.self in
    let w = c.in-Group in
    c.group_kind.ensures ∙ says_group_kind self.nodes.now self.pool.now self.place s.end v w.kind w.field-1 w.field-2
    (seen_says (content.Group w.kind w.field-1 w.field-2) _ self.inside (sym c.content.ensures ∙ w.is) s).1
