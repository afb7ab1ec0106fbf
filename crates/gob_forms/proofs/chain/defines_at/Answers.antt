-- The head that stands there says whether.
use Rattle.std.proofs.Common.{◌↔◌, IsTrue, subst, ◌∙◌}
use Rattle.gob_num.proofs.PlaceLaws.{all_taken}
use Rattle.gob_forms.proofs.HeadLaws.{defines_here, defines_nothing}
use Rattle.gob_forms.specs.Heads.{BeginsDefinition}
use Rattle.gob_forms.proofs.chain.defines_at.Goals as goal

pub returns-then-head : goal.returns-then-head
returns-then-head c = subst (λ z. IsTrue c.may_come.result ↔ BeginsDefinition z)
    (c.in-Some.ensures.lookup.0.2 ∙ all_taken c.args.bytes.now c.args.place)
    (defines_here c.may_come.result c.in-Some-head_of.ensures.found c.may_come.ensures c.if-head.true)

pub returns-else-head : goal.returns-else-head
returns-else-head c = subst (λ z. IsTrue c.in-Some-head_of.head.defines ↔ BeginsDefinition z)
    (c.in-Some.ensures.lookup.0.2 ∙ all_taken c.args.bytes.now c.args.place)
    (defines_nothing c.in-Some-head_of.ensures.found c.if-head.false)
