use Rattle.std.proofs.Common.{◌∙◌, ap, sym, subst, arith, w64}
use Rattle.std.specs.Result.{result_ok}
use Rattle.std.specs.Fmt.{signed_decimal}
use Rattle.std.proofs.lemmas.Fmt.{parse-signed_decimal}
use Rattle.std.proofs.lemmas.Int.{ints, to_z-of_z}
use Rattle.std.specs.Prelude.{FitsSigned}
use Rattle.gob_types.proofs.PublicLaws.{some_injective}
use Rattle.gob_lines.proofs.leaf.int_of.Goals as goal

pub returns-in_err-number-clause-none : goal.returns-in_err-number-clause-none
returns-in_err-number-clause-none c = λ none n small e.
    let parsed = parse-signed_decimal w64 n c.args.text.now c.from_str_radix.result small (omega (arith, ints)) (sym e)
    c.from_str_radix.ensures.value in
    let found = c.ok.ensures.value ∙ ap result_ok parsed in
    let lost = c.in_err-number.was in
    grind (arith, found, lost)

pub returns-then-not-is_same-clause-none : goal.returns-then-not-is_same-clause-none
returns-then-not-is_same-clause-none c = λ none n small e.
    let parsed = parse-signed_decimal w64 n c.args.text.now c.from_str_radix.result small (omega (arith, ints)) (sym e)
    c.from_str_radix.ensures.value in
    let found = c.ok.ensures.value ∙ ap result_ok parsed in
    let one = some_injective (sym c.in_ok-number.was ∙ found) in
    let text = c.format.ensures.text in
    let fits = subst (λ k. FitsSigned w64 k) (sym one) small in
    let yes = c.is_same.ensures.1 (text ∙ ap signed_decimal (to_z-of_z w64 c.in_ok-number.number fits ∙ one) ∙ e) in
    grind (arith, yes, c.if-not-is_same.true)
