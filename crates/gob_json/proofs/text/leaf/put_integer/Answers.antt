-- The sign, and the number without it.
use Rattle.std.proofs.Common.{◌≡◌, ℕ, List, [], ◌∷◌, ◌++◌, rules, subst}
use Rattle.serde_json.specs.Written.{compact_text}
use Rattle.gob_json.specs.Json.{integer_json, natural_json}
use Rattle.gob_json.proofs.OutLaws.{piece_failed}
use Rattle.gob_json.proofs.text.leaf.put_integer.Goals as goal

pub returns-in_err-put : goal.returns-in_err-put
returns-in_err-put g c =
    let put = g.O.TextOut.puts c.args.out.now c.put.new.self in
    let text : (45 ∷ []) ++ compact_text (natural_json c.unsigned_abs-size.result) ≡ compact_text
    (integer_json c.args.number) =
    search rules in
    subst (λ (t : List ℕ). put t c.from_residual.result) text
    (piece_failed g.O.TextOut.puts g.met.O.TextOut.cut (compact_text (natural_json c.unsigned_abs-size.result))
    c.from_residual.result c.from_residual.ensures.1 c.in_err-put.ensures)

pub returns : goal.returns
returns g c =
    let put = g.O.TextOut.puts c.args.out.now c.put_natural-2.new.out in
    let text : (45 ∷ []) ++ compact_text (natural_json c.unsigned_abs-size.result) ≡ compact_text
    (integer_json c.args.number) =
    search rules in
    subst (λ (t : List ℕ). put t c.put_natural-2.result) text
    (g.met.O.TextOut.joined _ _ _ (45 ∷ []) (compact_text (natural_json c.unsigned_abs-size.result)) _
    c.in_ok-put.ensures c.put_natural-2.ensures)
