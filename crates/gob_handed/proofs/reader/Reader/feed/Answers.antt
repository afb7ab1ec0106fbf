use Rattle.std.proofs.Common.{rules, ◌≡◌, ◌<◌, ◌-◌, ◌∙◌, ◌++◌, refl, arith, drop, length-append, length-drop}
use Rattle.std.proofs.Common.{take, length, ap, sym, ℕ}
use Rattle.std.proofs.Math.Seq.{take-length}
use Rattle.gob_handed.proofs.ReadingLaws.{feeds_at, none_yet, shown_at, stops_piece, up_to, whole_piece}
use Rattle.gob_handed.proofs.reader.Reader.feed.Goals as goal

pub returns-then-has_failed-clause-fed : goal.returns-then-has_failed-clause-fed
returns-then-has_failed-clause-fed g c = λ items bytes h.
    absurd (c.if-has_failed.ensures.unread refl items bytes h.gave)

pub steps-init : goal.steps-init
steps-init g c =
    let d = g.S.Steps.stepping in
    let f = c.forget_handed.ensures in (
      λ items bytes h. none_yet d bytes c.args.piece.now f.session f.offset f.waiting f.begin h,
      ap (λ s. d.limits s) f.session,
    )

pub steps-preserved : goal.steps-preserved
steps-preserved g c =
    let d = g.S.Steps.stepping in
    let n = c.in_ok-used.used in
    let rest = c.steps.rest.now in
    let later : take (length rest - n) (drop n rest)
    ≡ drop n rest = ap (λ (k : ℕ). take k (drop n rest)) (sym (length-drop n rest)) ∙ take-length (drop n rest) in (
      λ items bytes h.
          let u = c.steps.invariant.0 items bytes h in
          up_to d n bytes c.args.piece.now rest (take (length rest - n) (drop n rest)) later u
          (c.in_ok-used.ensures.stepped u.goes.all (bytes ++ u.prefix) u.goes.so),
      c.in_ok-used.ensures.limits ∙ c.steps.invariant.1,
    )

pub steps-smaller : goal.steps-smaller
steps-smaller g c =
    let n = c.in_ok-used.used in
    let rest = c.steps.rest.now in
    let later : take (length rest - n) (drop n rest)
    ≡ drop n rest = ap (λ (k : ℕ). take k (drop n rest)) (sym (length-drop n rest)) ∙ take-length (drop n rest) in
    let some : 0 < length rest = search rules in
    omega (arith, ap length later, length-drop n rest, c.in_ok-used.ensures.some some, c.in_ok-used.ensures.within)

pub returns-in_err-used-clause-fed : goal.returns-in_err-used-clause-fed
returns-in_err-used-clause-fed g c = λ items bytes h.
    let d = g.S.Steps.stepping in
    let e = c.in_err-used.field-0.0 in
    let u = c.steps.invariant.0 items bytes h in
    feeds_at d bytes c.args.piece.now c.from_residual.result e c.from_residual.ensures.1
    (stops_piece d bytes c.args.piece.now c.steps.rest.now e c.steps.invariant.1 u
    (c.in_err-used.ensures.stepped u.goes.all (bytes ++ u.prefix) u.goes.so))

pub returns-in_err-used-clause-shown : goal.returns-in_err-used-clause-shown
returns-in_err-used-clause-shown g c = λ items bytes h.
    let u = c.steps.invariant.0 items bytes h in
    shown_at ℕ (length bytes) (length (bytes ++ u.prefix)) c.from_residual.result c.in_err-used.field-0.0
    c.from_residual.ensures.1 (omega (arith, length-append bytes u.prefix))
    (c.in_err-used.ensures.shown u.goes.all (bytes ++ u.prefix) u.goes.so)

pub returns-in_err-used-clause-stays : goal.returns-in_err-used-clause-stays
returns-in_err-used-clause-stays g c = λ f. absurd (c.if-has_failed.ensures.failed f)

pub returns-in_err-used-clause-limits : goal.returns-in_err-used-clause-limits
returns-in_err-used-clause-limits g c = c.in_err-used.ensures.limits ∙ c.steps.invariant.1

pub returns-clause-fed : goal.returns-clause-fed
returns-clause-fed g c = λ items bytes h.
    let none : length c.steps.rest.now ≡ 0 = search rules in
    whole_piece g.S.Steps.stepping bytes c.args.piece.now none (c.steps.invariant.0 items bytes h)

pub returns-clause-stays : goal.returns-clause-stays
returns-clause-stays g c = λ f. absurd (c.if-has_failed.ensures.failed f)

pub returns-clause-limits : goal.returns-clause-limits
returns-clause-limits g c = c.steps.invariant.1
