-- Three digits at a time.
use Rattle.std.proofs.Common.{List, ℕ, ◌++◌, ◌/◌, ◌%◌, arith, sym, subst}
use Rattle.gob_json.specs.Machine.Digits.{three_digits}
use Rattle.gob_json.proofs.DigitLaws.{decimal_thousands, decimal_millions}
use Rattle.gob_json.proofs.OutLaws.{piece_failed}
use Rattle.gob_json.proofs.text.leaf.put_thousands.Goals as goal

pub returns-in_err-put_first : goal.returns-in_err-put_first
returns-in_err-put_first g c =
    let n = c.args.number in
    let r = c.from_residual.result in
    subst (λ (t : List ℕ). g.O.TextOut.puts c.args.out.now c.put_first.new.out t r)
    (sym (decimal_thousands n c.requires c.ranges.number.fits))
    (piece_failed g.O.TextOut.puts g.met.O.TextOut.cut (three_digits (n % 1000)) r c.from_residual.ensures.1
    c.in_err-put_first.ensures)

pub returns-then-number-lt1000000 : goal.returns-then-number-lt1000000
returns-then-number-lt1000000 g c =
    subst (λ (t : List ℕ). g.O.TextOut.puts c.args.out.now c.put_three_digits.new.out t c.put_three_digits.result)
    (sym (decimal_thousands c.args.number c.requires c.ranges.number.fits))
    (g.met.O.TextOut.joined _ _ _ _ _ _ c.in_ok-put_first.ensures c.put_three_digits.ensures)

pub returns-in_err-put_first-2 : goal.returns-in_err-put_first-2
returns-in_err-put_first-2 g c =
    let n = c.args.number in
    let r = c.from_residual-in_err-put_first-2.result in
    subst (λ (t : List ℕ). g.O.TextOut.puts c.args.out.now c.put_first-then-number-lt1000000000.new.out t r)
    (sym (decimal_millions n (omega (arith, c.if-number-lt1000000.false)) c.ranges.number.fits))
    (piece_failed g.O.TextOut.puts g.met.O.TextOut.cut (three_digits (n / 1000 % 1000) ++ three_digits (n % 1000)) r
    c.from_residual-in_err-put_first-2.ensures.1 c.in_err-put_first-2.ensures)

pub returns-in_err-put_three_digits : goal.returns-in_err-put_three_digits
returns-in_err-put_three_digits g c =
    let n = c.args.number in
    let r = c.from_residual-in_err-put_three_digits.result in
    subst (λ (t : List ℕ). g.O.TextOut.puts c.args.out.now c.put_three_digits-then-number-lt1000000000.new.out t r)
    (sym (decimal_millions n (omega (arith, c.if-number-lt1000000.false)) c.ranges.number.fits))
    (g.met.O.TextOut.joined _ _ _ _ _ r c.in_ok-put_first-2.ensures
    (piece_failed g.O.TextOut.puts g.met.O.TextOut.cut (three_digits (n % 1000)) r
    c.from_residual-in_err-put_three_digits.ensures.1 c.in_err-put_three_digits.ensures))

pub returns-then-number-lt1000000000 : goal.returns-then-number-lt1000000000
returns-then-number-lt1000000000 g c =
    let joined = g.met.O.TextOut.joined in
    subst (λ (t : List ℕ). g.O.TextOut.puts c.args.out.now c.put_three_digits-then-number-lt1000000000-2.new.out t
    c.put_three_digits-then-number-lt1000000000-2.result)
    (sym (decimal_millions c.args.number (omega (arith, c.if-number-lt1000000.false)) c.ranges.number.fits))
    (joined _ _ _ _ _ _ c.in_ok-put_first-2.ensures
    (joined _ _ _ _ _ _ c.in_ok-put_three_digits.ensures c.put_three_digits-then-number-lt1000000000-2.ensures))
