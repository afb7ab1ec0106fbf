use Rattle.std.proofs.Common.{arith, subst, sym}
use Rattle.gob_num.proofs.PublicLaws.{bytes_each}
use Rattle.gob_go.specs.declared.filled.Filled.{out-Filled}
use Rattle.gob_go_writer.specs.Machine.ReadingBack.{IsPlainNext, IsPlainSpelling}
use Rattle.gob_go_writer.proofs.PlainSteps.{none_in, plain_item, plain_read, plain_spelling}
use Rattle.gob_go_writer.proofs.plain.read_plain.Goals as goal

pub is_plain_next-requires : goal.is_plain_next-requires
is_plain_next-requires c =
    let fillings = (out-Filled c.in-Put.value).fillings in
    let none = none_in _ _ c.is_empty.result fillings.ok.0 c.is_empty.ensures c.if-not-is_empty.false in
    subst (λ l. IsPlainSpelling c.in-Put.id l c.args.bytes.now) (sym c.deref.ensures.value)
    (plain_spelling c.in-Put.is none c.requires)

pub pass-requires-clause-item : goal.pass-requires-clause-item
pass-requires-clause-item c = plain_item (c.is_plain_next.ensures.plain c.if-not-is_plain_next.false)

pub returns-clause-read : goal.returns-clause-read
returns-clause-read c = λ yes items z w.
    let fillings = (out-Filled c.in-Put.value).fillings in
    let none = none_in _ _ c.is_empty.result fillings.ok.0 c.is_empty.ensures c.if-not-is_empty.false in
    let next = subst (λ l. IsPlainNext c.args.session.now c.in-Put.id l c.args.bytes.now) c.deref.ensures.value
    (c.is_plain_next.ensures.plain c.if-not-is_plain_next.false) in
    plain_read c.args.session.now c.pass.new.self c.in-Put.is none
    (bytes_each c.args.bytes.now (λ i. omega (arith, c.type_inv.bytes i))) next c.pass.ensures.passed
    c.pass.ensures.types c.pass.ensures.limits w
