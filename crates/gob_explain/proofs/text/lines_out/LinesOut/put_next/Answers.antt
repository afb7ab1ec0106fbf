-- Without memory nothing was put out, else a line of which a terminal obeys no character beside the bytes.
use Rattle.std.proofs.Common.{◌≡◌, ◌++◌, ◌∙◌, ap, string_bytes}
use Rattle.std.proofs.lemmas.Str.{IsUtf8-string_bytes}
use Rattle.gob_explain.specs.Column.{line_text}
use Rattle.gob_explain.proofs.PutLaws.{line_goes_out, no_line_put}
use Rattle.gob_explain.proofs.text.lines_out.LinesOut.put_next.Goals as goal

pub returns-in_err-meaning-clause-put : goal.returns-in_err-meaning-clause-put
returns-in_err-meaning-clause-put g c =
    no_line_put g.O.TextOut.puts c.args.offset c.args.bytes.now c.args.levels c.args.self.now.out
    c.from_residual.result c.from_residual.ensures.1

pub returns-in_err-push_line-clause-put : goal.returns-in_err-push_line-clause-put
returns-in_err-push_line-clause-put g c =
    no_line_put g.O.TextOut.puts c.args.offset c.args.bytes.now c.args.levels c.args.self.now.out
    c.from_residual-in_err-push_line.result c.from_residual-in_err-push_line.ensures.1

pub returns-in_err-shown-clause-put : goal.returns-in_err-shown-clause-put
returns-in_err-shown-clause-put g c =
    no_line_put g.O.TextOut.puts c.args.offset c.args.bytes.now c.args.levels c.args.self.now.out
    c.from_residual-in_err-shown.result c.from_residual-in_err-shown.ensures.1

pub returns-clause-put : goal.returns-clause-put
returns-clause-put g c =
    let shown = string_bytes c.in_ok-shown.shown in
    let line = line_text c.args.offset c.args.bytes.now c.args.levels in
    let made : c.as_bytes.result.now ≡ line shown =
    c.as_bytes.ensures.value ∙ c.in_ok-push_line.ensures ∙ ap (λ l. l ++ line c.as_str-2.result.now)
    c.clear.ensures.bytes ∙ ap line c.as_str-2.ensures.value in
    line_goes_out g.O.TextOut.puts c.args.offset c.args.bytes.now c.args.levels c.args.self.now.out c.put.new.self
    c.as_bytes.result.now c.put.result c.map_err.result (
      record {
        text = shown;
        characters = IsUtf8-string_bytes c.in_ok-shown.shown;
        unobeyed = c.in_ok-shown.ensures.unobeyed;
      },
      made,
    ) c.put.ensures c.map_err.ensures.cases
