-- Text by text: each is new, or one that was seen.
use Rattle.std.proofs.Common.{◌≡◌, not, subst}
use Rattle.std.specs.Prelude.{string_bytes}
use Rattle.gob_plain.specs.Machine.Naming.{has_text, with_text}
use Rattle.gob_plain.proofs.DistinctLaws.{seen_more, seen_again}
use Rattle.gob_plain.proofs.distinct.all_differ.Goals as goal

pub loop-text-preserved : goal.loop-text-preserved
loop-text-preserved c =
    let seen = c.loop-text.seen in
    let more = seen_more string_bytes c.args.texts.now c.loop-text.text-index c.text-item.result seen c.add.new.self
    c.in_ok-add.field-0 c.loop-text-test.true c.text-item.is c.loop-text.invariant.all c.loop-text.invariant.differ
    c.if-branch.true
    (subst (λ t. (c.in_ok-add.field-0 ≡ not (has_text t seen)) × (c.add.new.self ≡ with_text seen t))
    c.as_bytes.ensures.value c.in_ok-add.ensures) in
    record { all = more.0; differ = more.1 }

pub returns-in-loop-text : goal.returns-in-loop-text
returns-in-loop-text c =
    let seen = c.loop-text.seen in
    seen_again string_bytes c.args.texts.now c.loop-text.text-index c.text-item.result seen c.in_ok-add.field-0
    c.loop-text-test.true c.text-item.is c.loop-text.invariant.all c.if-branch.false
    (subst (λ t. c.in_ok-add.field-0 ≡ not (has_text t seen)) c.as_bytes.ensures.value c.in_ok-add.ensures.0)
