-- Nil by nil.
use Rattle.std.proofs.Common.{ℕ, List, refl, subst}
use Rattle.std.proofs.lemmas.List.{at_drop_more, drop_all}
use Rattle.gob_plain.specs.Machine.Placing.{fillers_left, gaps_left}
use Rattle.gob_plain.proofs.PlacingLaws.{InSoFar, in_begun, in_ended, in_on}
use Rattle.gob_plain.proofs.go.placing.in_nils.Goals as goal

pub loop-nil-init : goal.loop-nil-init
loop-nil-init c =
    in_begun c.new-left.ensures.behind c.new-left.ensures.gaps c.new-left.ensures.fillers
    c.in_ok-with_capacity.ensures.items c.new.ensures.items

pub loop-nil-preserved : goal.loop-nil-preserved
loop-nil-preserved c =
    let nils = c.args.nils.now in
    let left = c.loop-nil.left in
    let texts = c.loop-nil.parted.texts.items in
    let held = c.loop-nil.parted.held.items in
    let one = c.in_ok-part.ensures in
    in_on texts held
    (subst (λ (r : List ℕ). InSoFar nils c.args.gaps.now c.args.fillers.items left.behind r (gaps_left left)
    (fillers_left left) texts held)
    (at_drop_more (λ (l : List ℕ). l) nils c.loop-nil.nil-index 0 c.loop-nil-test.true) c.loop-nil.invariant)
    c.take-filler.ensures one.2 one.3 one.4

pub returns : goal.returns
returns c =
    in_ended c.loop-nil.invariant (drop_all c.loop-nil.nil-index c.args.nils.now c.loop-nil-test.false)
    (c.if-not-is_empty.ensures.gaps refl) (c.if-not-is_empty.ensures.fillers refl)
