use Rattle.std.proofs.Common.{◌∙◌, ap, sym, arith}
use Rattle.std.specs.Result.{result_ok}
use Rattle.std.specs.Prelude.{decimal}
use Rattle.std.proofs.lemmas.Fmt.{parse-decimal}
use Rattle.gob_types.proofs.PublicLaws.{some_injective}
use Rattle.gob_go_source.proofs.number.number_in.Goals as goal

pub returns-in_err-number : goal.returns-in_err-number
returns-in_err-number c = rw c.from_residual.ensures
    (λ n small e.
    let parsed = parse-decimal 64 n c.args.text.now c.from_str_radix.result small small (sym e)
    c.from_str_radix.ensures.value in
    let found = c.ok.ensures.value ∙ ap result_ok parsed in
    let lost = c.in_err-number.was in
    grind (arith, found, lost))

pub returns-then-not-is_same : goal.returns-then-not-is_same
returns-then-not-is_same c = λ n small e.
    let parsed = parse-decimal 64 n c.args.text.now c.from_str_radix.result small small (sym e)
    c.from_str_radix.ensures.value in
    let found = c.ok.ensures.value ∙ ap result_ok parsed in
    let one = some_injective (sym c.in_ok-number.was ∙ found) in
    let text = c.format.ensures.text in
    let yes = c.is_same.ensures.1 (text ∙ ap decimal one ∙ e) in
    grind (arith, yes, c.if-not-is_same.true)
