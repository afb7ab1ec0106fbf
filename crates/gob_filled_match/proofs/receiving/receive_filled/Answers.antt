use Rattle.std.proofs.Common.{[], refl}
use Rattle.gob_types.specs.Defined.{types}
use Rattle.gob_filled.specs.Filled.{Fillings}
use Rattle.gob_go.specs.Meaning.{AreFillings}
use Rattle.gob_go.specs.declared.filled.Filled.{out-Filled, out-roll-Filled}
use Rattle.gob_filled_match.specs.Machine.Moving.{MovesFillings}
use Rattle.gob_filled_match.specs.Received.{Anywhere, IsInNumbers}
use Rattle.gob_filled_match.proofs.ReceivingLaws.{held_received, none_held, nothing_held}
use Rattle.gob_filled_match.proofs.receiving.receive_filled.Goals as goal

pub returns-then-is_empty-clause-received : goal.returns-then-is_empty-clause-received
returns-then-is_empty-clause-received c =
    let kept = (out-Filled c.args.value).fillings in
    let none = none_held kept.items kept.len c.is_empty.result kept.ok.0 c.is_empty.ensures c.if-is_empty.true in
    let received = rw c.deref.ensures.value at c.in_ok-skeleton.ensures.received in
    λ v h. nothing_held none received (simp (out-roll-Filled) refl) (simp (out-roll-Filled) none) h

pub returns-clause-received : goal.returns-clause-received
returns-clause-received c =
    let T = types c.args.stream.now in
    let kept = out-Filled c.args.value in
    let numbers : (fs : Fillings) → AreFillings T kept.fillings.items fs
    → IsInNumbers Anywhere fs [] kept.skeleton.items fs c.in_ok-numbers.numbers.items =
    λ fs m. rw c.deref-2.ensures.value at (c.in_ok-numbers.ensures T fs (rw c.deref-3.ensures.value m)) in
    let received = rw c.deref-4.ensures.value at c.in_ok-received.ensures.received in
    let taken = rw c.deref-5.ensures.value at c.in_ok-bytes.ensures in
    let moved : (all : Fillings) → AreFillings T kept.fillings.items all
    → MovesFillings T all c.in_ok-bytes.field-0.nils.items c.in_ok-fillings.fillings.items =
    λ all m. rw c.deref-6.ensures.value at (c.in_ok-fillings.ensures T all m) in
    λ v h. held_received numbers received taken moved (simp (out-roll-Filled) refl) (simp (out-roll-Filled) refl) h
