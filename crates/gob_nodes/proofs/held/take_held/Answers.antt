use Rattle.std.proofs.Common.{List, ℕ}
use Rattle.gob_types.specs.declared.id.TypeId.{TypeId}
use Rattle.gob_nodes.specs.declared.held.Held.{Held}
use Rattle.gob_nodes.proofs.PutLaws.{fault_read}
use Rattle.gob_nodes.proofs.held.take_held.Goals as goal

pub returns-in_err-node-clause-whole : goal.returns-in_err-node-clause-whole
returns-in_err-node-clause-whole c = λ id name h may small.
    fault_read {B = List ℕ × TypeId} (λ (held : Held). (held.name.now, held.id)) c.from_residual.result
    c.in_err-node.field-0.0 (name, id) c.from_residual.ensures.1 (λ w. c.in_err-node.ensures.none h.node h.there h.kind)

pub returns-in_err-text-clause-whole : goal.returns-in_err-text-clause-whole
returns-in_err-text-clause-whole c = λ id name h may small.
    fault_read {B = List ℕ × TypeId} (λ (held : Held). (held.name.now, held.id)) c.from_residual-in_err-text.result
    c.in_err-text.field-0.0 (name, id) c.from_residual-in_err-text.ensures.1
    (λ w. c.in_err-text.ensures.none h.text h.behind h.text_kind)
