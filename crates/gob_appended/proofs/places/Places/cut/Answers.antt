-- A cut that is made is the last.
use Rattle.std.proofs.Common.{◌≡◌, refl, subst, sym, true}
use Rattle.gob_appended.specs.Cuts.{are_before, has_cut}
use Rattle.gob_appended.specs.declared.places.Cut.{Cut}
use Rattle.gob_appended.proofs.CutLaws.{before_pushed, cut_pushed, leaves_anew, leaves_more}
use Rattle.gob_appended.proofs.places.Places.cut.Goals as goal

pub returns-then-self-clause-places : goal.returns-then-self-clause-places
returns-then-self-clause-places c =
    let s = c.args.self.now in
    λ more. leaves_more s.given s.left_out more s.cuts.items s.ordered (s.last c.if-self.true)

pub invariant_of-self-2-clause-ordered : goal.invariant_of-self-2-clause-ordered
invariant_of-self-2-clause-ordered c =
    let s = c.args.self.now in
    let cut : Cut = record { at = s.given; before = s.left_out } in
    subst (λ cs. are_before s.given cs ≡ true) (sym c.in_ok-push.ensures.items)
    (before_pushed s.given s.cuts.items cut refl s.ordered)

pub invariant_of-self-2-clause-last : goal.invariant_of-self-2-clause-last
invariant_of-self-2-clause-last c =
    let s = c.args.self.now in
    let cut : Cut = record { at = s.given; before = s.left_out } in
    λ e. subst (λ cs. has_cut s.given cs ≡ true) (sym c.in_ok-push.ensures.items)
    (cut_pushed s.given s.cuts.items cut refl)

pub returns-clause-places : goal.returns-clause-places
returns-clause-places c =
    let s = c.args.self.now in
    let cut : Cut = record { at = s.given; before = s.left_out } in
    λ more. leaves_anew s.given s.left_out more s.cuts.items c.push.new.self.items cut s.ordered refl refl
    c.in_ok-push.ensures.items
