-- The first token says whether there are parts, and the text has no more tokens than bytes and one.
use Rattle.std.proofs.Common.{◌≡◌, ◌∙◌, ◌∷◌, [], arith, sym, subst, ap, length}
use Rattle.std.specs.Prelude.{MatchBool}
use Rattle.json_parts.specs.Parts.{HasLeft, parts_of}
use Rattle.json_parts.proofs.Counts.{tokens_few}
use Rattle.json_parts.proofs.PartLaws.{opened_by}
use Rattle.json_parts.proofs.parts.Parts.of.Goals as goal

pub invariant_of-result : goal.invariant_of-result
invariant_of-result c =
    let all = tokens_few c.args.text.now in
    let first = ap length (sym c.in_ok-reader.ensures.ok) in
    let next = ap length c.in-Some.ensures.value in
    record { few = omega (arith, all, first, next) }

pub returns : goal.returns
returns c = λ j e.
    let opened = opened_by c.args.form j (sym e ∙ sym c.in_ok-reader.ensures.ok ∙ c.in-Some.ensures.value) in
    let parts = parts_of c.args.form j in
    subst (λ b. MatchBool b (HasLeft c.args.form c.next.new.self parts) (parts ≡ j ∷ []))
    (sym c.opens.ensures ∙ c.if-not-opens.false) opened
