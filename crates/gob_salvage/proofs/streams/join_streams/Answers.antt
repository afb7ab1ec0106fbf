use Rattle.std.proofs.Common.{List, ℕ, arith, subst, refl, sym}
use Rattle.std.proofs.lemmas.List.{take_rest}
use Rattle.gob_stream.specs.Bounds.{within_trees}
use Rattle.gob_salvage.specs.Keeping.{IsKeptOf}
use Rattle.gob_salvage.proofs.StreamsLaws.{breaks_of}
use Rattle.gob_salvage.proofs.streams.join_streams.Goals as goal

pub returns-in_default : goal.returns-in_default
returns-in_default c =
    c.into_salvaged.ensures c.args.bytes.now c.streams.invariant c.in_default.is
    (breaks_of c.args.first.now c.requires.first)

pub streams-init : goal.streams-init
streams-init c =
    let L = within_trees c.args.limits in
    let new = c.in_ok-joined.ensures in
    c.in_ok-take_in.ensures c.args.bytes.now new.next.first (new.joined c.args.bytes.now c.requires.small (omega arith))
    new.next.is new.next.at (subst (λ (f : List ℕ). IsKeptOf L f c.args.bytes.now c.args.first.now) (sym new.next.front)
    c.requires.first.kept) c.if-not-branch.false

pub streams-preserved : goal.streams-preserved
streams-preserved c =
    let L = within_trees c.args.limits in
    let later = c.in-Some.later in
    let rest = take_rest c.args.bytes.now later.at in
    c.in_ok-take_in-2.ensures c.args.bytes.now later c.streams.invariant c.in-Some.is refl
    (subst (λ (z : List ℕ). IsKeptOf L later.front.items z c.in_ok-next.next) rest
    (rw c.deref.ensures.value at c.in_ok-next.ensures))
    c.if-not-branch-2.false
