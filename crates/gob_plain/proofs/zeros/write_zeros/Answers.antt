-- From number to number one more zero is written.
use Rattle.std.proofs.Common.{◌≡◌, ℕ, ◌+◌, ◌-◌, ◌≤◌, ◌<◌, suc, [], Ok, arith, refl, subst, length, min, inl, inr}
use Rattle.std.proofs.lemmas.Bool.{cases_lt}
use Rattle.std.specs.declared.alloc.AllocError.{AllocError}
use Rattle.gob_plain.specs.AbsentFields.{ZeroTokens}
use Rattle.gob_plain.specs.Filled.{between}
use Rattle.gob_plain.specs.WritesPlain.{WritesSome}
use Rattle.gob_plain.proofs.SomeLaws.{some_then}
use Rattle.gob_plain.proofs.ZeroLaws.{some_nothing, zeros_none, zeros_then}
use Rattle.gob_plain.proofs.zeros.write_zeros.Goals as goal

pub loop-number-init : goal.loop-number-init
loop-number-init g c =
    let T = g.S.Shapes.table c.args.table.now in
    let types = c.args.types.now in
    let start = c.args.absent.start in
    let none : 0 ≡ start - start = omega arith in record {
      still = λ h. refl;
      written = some_nothing (subst (λ (n : ℕ). ZeroTokens T types start n []) none (zeros_none T types start));
    }

pub loop-number-preserved : goal.loop-number-preserved
loop-number-preserved g c =
    let T = g.S.Shapes.table c.args.table.now in
    let types = c.args.types.now in
    let start = c.args.absent.start in
    let number = c.loop-number.number in
    let from : start ≤ number = c.loop-number.auto.number in
    let below : number < c.min-end.result = c.loop-number-test.true in
    let more : suc (number - start) ≡ number + 1 - start = omega arith in
    let here : number ≡ start + (number - start) = omega arith in record {
      still = λ h. absurd (omega arith);
      written = subst
          (λ (n : ℕ). WritesSome {E = AllocError} (Ok tt) c.args.out.now c.write_zero.new.out
          (ZeroTokens T types start n))
          more
          (some_then c.loop-number.invariant.written c.in_ok-write_zero.ensures
          (λ xs ys p q. zeros_then T types start (number - start) xs ys p
          (subst (λ (m : ℕ). ZeroTokens T types m 1 ys) here q)));
    }

pub returns : goal.returns
returns g c =
    let T = g.S.Shapes.table c.args.table.now in
    let types = c.args.types.now in
    let start = c.args.absent.start in
    let number = c.loop-number.number in
    let end : c.min-end.result ≡ min c.args.absent.end (length types) = c.min-end.ensures in
    let from : start ≤ number = c.loop-number.auto.number in
    let to : start ≤ c.min-end.result → number ≤ c.min-end.result = c.loop-number.auto.number-end in
    let past : c.min-end.result ≤ number = c.loop-number-test.false in
    let still : c.min-end.result ≤ start → number ≡ start = c.loop-number.invariant.still in
    let all : number - start ≡ between types start c.args.absent.end = elim (cases_lt start c.min-end.result) [
      | inl some ↦ let last = to (omega arith) in omega (arith, last)
      | inr none ↦ let first = still none in omega (arith, first)
    ] in
    subst
    (λ (n : ℕ). WritesSome {E = AllocError} (Ok tt) c.args.out.now c.loop-number.out (ZeroTokens T types start n))
    all c.loop-number.invariant.written
