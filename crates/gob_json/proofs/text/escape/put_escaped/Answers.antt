-- A run stands for itself, and the byte behind it is escaped.
use Rattle.std.proofs.Common.{ℕ, List, ◌+◌, sym, subst, arith, drop}
use Rattle.json.specs.Print.{escape}
use Rattle.gob_json.proofs.EscapeLaws.{escape_run, escape_run_byte, all_plain}
use Rattle.gob_json.proofs.OutLaws.{piece_failed}
use Rattle.gob_json.proofs.text.escape.put_escaped.Goals as goal

pub returns-then-stop-bytes : goal.returns-then-stop-bytes
returns-then-stop-bytes g c =
    c.runs.invariant.left _ _
    (subst (λ (t : List ℕ). g.O.TextOut.puts c.runs.out c.put.new.self t c.put.result)
    (all_plain c.args.bytes.now c.runs.at c.plain_end-stop.result c.plain_end-stop.ensures.value (omega arith))
    c.put.ensures)

pub returns-in_err-put : goal.returns-in_err-put
returns-in_err-put g c =
    let bytes = c.args.bytes.now in
    let stop = c.plain_end-stop.result in
    let r = c.from_residual.result in
    c.runs.invariant.left c.put-in-runs.new.self r
    (subst (λ (t : List ℕ). g.O.TextOut.puts c.runs.out c.put-in-runs.new.self t r)
    (sym (escape_run bytes c.runs.at stop c.plain_end-stop.ensures.value))
    (piece_failed g.O.TextOut.puts g.met.O.TextOut.cut (escape (drop stop bytes)) r c.from_residual.ensures.1
    c.in_err-put.ensures))

pub returns-in_err-put_escape : goal.returns-in_err-put_escape
returns-in_err-put_escape g c =
    let bytes = c.args.bytes.now in
    let stop = c.plain_end-stop.result in
    let bound = c.plain_end-stop.ensures.bound in
    let r = c.from_residual-in_err-put_escape.result in
    c.runs.invariant.left c.put_escape.new.out r
    (subst (λ (t : List ℕ). g.O.TextOut.puts c.runs.out c.put_escape.new.out t r)
    (sym (escape_run_byte bytes c.runs.at stop c.plain_end-stop.ensures.value (omega arith)))
    (g.met.O.TextOut.joined _ _ _ _ _ r c.in_ok-put.ensures
    (piece_failed g.O.TextOut.puts g.met.O.TextOut.cut (escape (drop (stop + 1) bytes)) r
    c.from_residual-in_err-put_escape.ensures.1 c.in_err-put_escape.ensures)))

pub runs-preserved : goal.runs-preserved
runs-preserved g c =
    let bytes = c.args.bytes.now in
    let stop = c.plain_end-stop.result in
    let bound = c.plain_end-stop.ensures.bound in
    record {
      inside = omega arith;
      left = λ new r p. c.runs.invariant.left new r
          (subst (λ (t : List ℕ). g.O.TextOut.puts c.runs.out new t r)
          (sym (escape_run_byte bytes c.runs.at stop c.plain_end-stop.ensures.value (omega arith)))
          (g.met.O.TextOut.joined _ _ _ _ _ _ c.in_ok-put.ensures
          (g.met.O.TextOut.joined _ _ _ _ _ _ c.in_ok-put_escape.ensures p)));
    }
