-- Nothing fills the nil, and all that was left is left; or the next filler does.
use Rattle.std.proofs.Common.{◌≡◌, ◌∙◌, ◌+◌, ℕ, List, [], ◌∷◌, ap, arith, drop, sym, subst, reverse}
use Rattle.std.proofs.lemmas.List.{append-nil, at_drop_more, reverse-append}
use Rattle.gob_plain.specs.declared.go.level.HeldText.{HeldText}
use Rattle.gob_plain.specs.Machine.Placing.{AreIn, nothing_in}
use Rattle.gob_plain.proofs.PlacingLaws.{nothing_taken, one_taken}
use Rattle.gob_plain.proofs.go.placing.Left.take.Goals as goal

pub returns-in_err-gap : goal.returns-in_err-gap
returns-in_err-gap c = λ nils all h. nothing_taken c.from_residual.ensures h

pub returns-in_err-ahead : goal.returns-in_err-ahead
returns-in_err-ahead c = λ nils all h. nothing_taken c.from_residual-in_err-ahead.ensures h

pub returns-then-ahead-gap : goal.returns-then-ahead-gap
returns-then-ahead-gap c = λ nils all h. nothing_in h

pub returns-in_err-behind : goal.returns-in_err-behind
returns-in_err-behind c = λ nils all h. nothing_taken c.from_residual-in_err-behind.ensures h

pub returns-in_err-filler : goal.returns-in_err-filler
returns-in_err-filler c = λ nils all h.
    let left = c.args.self.now in
    let same = c.in_err-filler.ensures.items ∙ append-nil c.pop.new.self.items in
    nothing_taken c.from_residual-in_err-filler.ensures
    (subst (λ (l : List HeldText). AreIn left.behind nils (drop left.next left.gaps.now) (reverse l) all) (sym same) h)

pub returns : goal.returns
returns c = λ nils all h.
    let left = c.args.self.now in
    let gaps = left.gaps.now in
    let gap = c.in_ok-gap.gap.now in
    let g = c.in_ok-gap.ensures.lookup in
    let fillers = c.pop.new.self.items in
    let f = c.in_ok-filler.filler in
    let ahead = c.in_ok-ahead.ensures in
    let within = ahead.0 in
    let ahead_is = ahead.1 in
    let is : c.args.nil ≡ left.behind + gap = omega (arith, within, ahead_is, c.if-ahead-gap.false) in
    let rest : AreIn c.in_ok-behind.behind nils (drop (left.next + 1) gaps) (reverse fillers) all = h in
    one_taken
    (at_drop_more (λ (l : List ℕ). l) gaps left.next gap g.3.0
    ∙ ap (λ k. k ∷ drop (left.next + 1) gaps) (sym (g.4 (omega arith) gap)))
    (ap reverse c.in_ok-filler.ensures.items ∙ reverse-append fillers (f ∷ []))
    is c.in_ok-behind.ensures.1 rest
