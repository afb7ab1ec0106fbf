-- The head, the value's text and the end.
use Rattle.std.proofs.Common.{ℕ, List, [], ◌∷◌, ◌++◌, Ok, subst}
use Rattle.std.proofs.lemmas.Result.{IfOk-from_err}
use Rattle.serde_json.specs.Written.{compact_text}
use Rattle.gob_json.specs.Json.{value_json}
use Rattle.gob_walk.specs.Told.{Reaches}
use Rattle.gob_walk.proofs.PublicLaws.{reached_both, reached_prefix, stopped, took}
use Rattle.gob_json.proofs.LineLaws.{line_parts}
use Rattle.gob_json.proofs.OutLaws.{ended, piece_failed}
use Rattle.gob_json.proofs.text.whole.put_line.Goals as goal

pub returns-in_err-put_head-clause-sent : goal.returns-in_err-put_head-clause-sent
returns-in_err-put_head-clause-sent g c = λ v p deep.
    subst (λ (t : List ℕ). Reaches g.O.TextOut.puts c.args.out.now c.put_head.new.out t c.from_residual.result)
    (line_parts (g.S.Shapes.table c.args.shapes.now) c.args.id v)
    (piece_failed (Reaches g.O.TextOut.puts) (reached_prefix g.O.TextOut.puts g.met.O.TextOut.cut)
    ((compact_text (value_json (g.S.Shapes.table c.args.shapes.now) c.args.id v)) ++ 125 ∷ 10 ∷ [])
    c.from_residual.result c.from_residual.ensures.1
    (stopped g.O.TextOut.puts c.in_err-put_head.ensures))

pub returns-in_err-put_value-clause-sent : goal.returns-in_err-put_value-clause-sent
returns-in_err-put_value-clause-sent g c = λ v p deep.
    let r = c.from_residual-in_err-put_value.result in
    subst (λ (t : List ℕ). Reaches g.O.TextOut.puts c.args.out.now c.put_value.new.out t r)
    (line_parts (g.S.Shapes.table c.args.shapes.now) c.args.id v)
    ((reached_both g.O.TextOut.puts g.met.O.TextOut.joined) _ _ _ _ _ r (took g.O.TextOut.puts c.in_ok-put_head.ensures)
    (piece_failed (Reaches g.O.TextOut.puts) (reached_prefix g.O.TextOut.puts g.met.O.TextOut.cut) (125 ∷ 10 ∷ []) r
    c.from_residual-in_err-put_value.ensures.1 (c.in_err-put_value.ensures.sent v p deep)))

pub returns-clause-sent : goal.returns-clause-sent
returns-clause-sent g c = λ v p deep.
    subst (λ (t : List ℕ). Reaches g.O.TextOut.puts c.args.out.now c.put_end.new.out t (Ok tt))
    (line_parts (g.S.Shapes.table c.args.shapes.now) c.args.id v)
    ((reached_both g.O.TextOut.puts g.met.O.TextOut.joined) _ _ _ _ _ (Ok tt)
    (took g.O.TextOut.puts c.in_ok-put_head.ensures)
    ((reached_both g.O.TextOut.puts g.met.O.TextOut.joined) _ _ _
    (compact_text (value_json (g.S.Shapes.table c.args.shapes.now) c.args.id v)) (125 ∷ 10 ∷ []) (Ok tt)
    (c.in_ok-put_value.ensures.sent v p deep) (took g.O.TextOut.puts c.in_ok-put_end.ensures)))

pub returns-in_err-put_end-clause-sent : goal.returns-in_err-put_end-clause-sent
returns-in_err-put_end-clause-sent g c = λ v p deep.
    let r = c.from_residual-in_err-put_end.result in
    subst (λ (t : List ℕ). Reaches g.O.TextOut.puts c.args.out.now c.put_end.new.out t r)
    (line_parts (g.S.Shapes.table c.args.shapes.now) c.args.id v)
    ((reached_both g.O.TextOut.puts g.met.O.TextOut.joined) _ _ _ _ _ r (took g.O.TextOut.puts c.in_ok-put_head.ensures)
    ((reached_both g.O.TextOut.puts g.met.O.TextOut.joined) _ _ _
    (compact_text (value_json (g.S.Shapes.table c.args.shapes.now) c.args.id v)) (125 ∷ 10 ∷ []) r
    (c.in_ok-put_value.ensures.sent v p deep)
    (ended (Reaches g.O.TextOut.puts) r c.from_residual-in_err-put_end.ensures.1
    (stopped g.O.TextOut.puts c.in_err-put_end.ensures))))

pub returns-in_err-put_head-clause-whole : goal.returns-in_err-put_head-clause-whole
returns-in_err-put_head-clause-whole g c = λ looked. IfOk-from_err c.from_residual.result _ c.from_residual.ensures.0

pub returns-in_err-put_value-clause-whole : goal.returns-in_err-put_value-clause-whole
returns-in_err-put_value-clause-whole g c = λ looked.
    IfOk-from_err c.from_residual-in_err-put_value.result _ c.from_residual-in_err-put_value.ensures.0

pub returns-in_err-put_end-clause-whole : goal.returns-in_err-put_end-clause-whole
returns-in_err-put_end-clause-whole g c = λ looked.
    IfOk-from_err c.from_residual-in_err-put_end.result _ c.from_residual-in_err-put_end.ensures.0
