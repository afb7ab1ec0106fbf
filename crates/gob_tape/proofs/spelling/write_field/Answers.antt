use Rattle.std.proofs.Common.{arith, rules, ◌≡◌, ◌<◌, ◌≤◌, ◌+◌, ◌-◌, ◌^◌, ◌∙◌, sym, subst, set, reverse, Some, vec_len}
use Rattle.std.proofs.lemmas.Option.{same_Some}
use Rattle.gob_value.specs.Written.{next_number}
use Rattle.std.proofs.lemmas.Result.{IfOk-from_err}
use Rattle.gob_tape.specs.Machine.Writing.{Named}
use Rattle.gob_tape.proofs.WritingLaws.{named}
use Rattle.gob_tape.proofs.spelling.write_field.Goals as goal

pub returns-in_ok-write_uint-clause-some : goal.returns-in_ok-write_uint-clause-some
returns-in_ok-write_uint-clause-some c = λ n s ss f e l m.
    let xs = c.args.structs.now in
    let k = c.in-Some.number in
    let o = c.in-Some-last_mut.open.now in
    let some : 0 < vec_len xs = search rules in
    let same : k ≡ n = same_Some k n (sym c.in-Some.is ∙ f) in
    subst
    (λ n. next_number s.last ≤ n → n + 1 - next_number s.last < 2 ^ 64
    → Named n s ss (reverse (set xs.items (vec_len xs - 1) (record { end = o.end; last = Some k })))
    c.args.out.now.items c.write_uint.new.out.items)
    same
    (λ l m. named xs.items (vec_len xs - 1) k o s ss (omega (arith, xs.ok.0)) c.in-Some-last_mut.ensures.value e
    c.delta.ensures l m c.in_ok-write_uint.ensures.ok) l m

pub returns-in_err-write_uint-clause-some : goal.returns-in_err-write_uint-clause-some
returns-in_err-write_uint-clause-some c = IfOk-from_err c.from_residual.result _ c.from_residual.ensures.0

pub returns-in_err-write_uint-clause-none : goal.returns-in_err-write_uint-clause-none
returns-in_err-write_uint-clause-none c = IfOk-from_err c.from_residual.result _ c.from_residual.ensures.0

pub returns-in_err-write_uint-clause-kept : goal.returns-in_err-write_uint-clause-kept
returns-in_err-write_uint-clause-kept c = IfOk-from_err c.from_residual.result _ c.from_residual.ensures.0
