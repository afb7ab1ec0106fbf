-- Three digits at a time.
use Rattle.std.proofs.Common.{ℕ, List, ap, sym, ◌∙◌, ◌++◌, ◌/◌, ◌%◌, arith, take, append_assoc}
use Rattle.gob_json.specs.Machine.Digits.{three_digits}
use Rattle.std.specs.Fmt.{decimal}
use Rattle.gob_json.proofs.DigitLaws.{decimal_thousands, decimal_millions}
use Rattle.gob_json.proofs.text.block.natural_at.Goals as goal

pub returns-then-number-lt1000000-clause-text : goal.returns-then-number-lt1000000-clause-text
returns-then-number-lt1000000-clause-text c =
    let n = c.args.number in
    let last = three_digits (n % 1000) in
    c.three_at.ensures.text ∙ ap (λ (l : List ℕ). l ++ last) c.first_at-behind.ensures.text
    ∙ append_assoc (take c.args.at c.args.block.now) (decimal (n / 1000)) last
    ∙ ap (λ (l : List ℕ). take c.args.at c.args.block.now ++ l)
    (sym (decimal_thousands n (omega (arith, c.if-number-lt1000.false)) c.ranges.number.fits))

pub returns-then-number-lt1000000000-clause-text : goal.returns-then-number-lt1000000000-clause-text
returns-then-number-lt1000000000-clause-text c =
    let n = c.args.number in
    let before = take c.args.at c.args.block.now in
    let middle = three_digits (n / 1000 % 1000) in
    let last = three_digits (n % 1000) in
    c.three_at-then-number-lt1000000000.ensures.text
    ∙ ap (λ (l : List ℕ). l ++ last) (c.three_at-later.ensures.text ∙ ap (λ (l : List ℕ). l ++ middle)
    c.first_at-behind-then-number-lt1000000000.ensures.text)
    ∙ append_assoc (before ++ decimal (n / 1000000)) middle last
    ∙ append_assoc before (decimal (n / 1000000)) (middle ++ last)
    ∙ ap (λ (l : List ℕ). before ++ l)
    (sym (decimal_millions n (omega (arith, c.if-number-lt1000000.false)) c.ranges.number.fits))
