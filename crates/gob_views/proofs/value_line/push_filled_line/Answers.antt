-- The lines are those of the JSON that says the value.
use Rattle.std.proofs.Common.{List, subst, sym}
use Rattle.std.proofs.lemmas.Result.{on_ok_weaker}
use Rattle.gob_plain.specs.declared.style.Taken.{Taken}
use Rattle.gob_views.specs.Values.{AreTaken}
use Rattle.gob_views.proofs.PlainLaws.{left_out_line, shown_lines}
use Rattle.gob_views.proofs.value_line.push_filled_line.Goals as goal

pub returns-then-not-is_chosen : goal.returns-then-not-is_chosen
returns-then-not-is_chosen c = λ w m. left_out_line c.if-not-is_chosen.ensures c.requires

pub returns : goal.returns
returns c =
    let style =
    c.style_of-style.ensures (subst (λ (t : List Taken). AreTaken c.args.lines.kinds.now t) (sym c.deref.ensures.value)
    c.in_ok-taken.ensures) in
    on_ok_weaker c.push_lines.result
    (λ made w m.
    let s = c.in_ok-json.ensures.said w m in
    shown_lines c.if-not-is_chosen.ensures s.0 (c.style_of-style.result, style, s.1) (made s.0 s.2 s.3) c.requires)
    c.push_lines.ensures
