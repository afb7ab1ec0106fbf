use Rattle.std.proofs.Common.{◌∙◌, ◌++◌, List, ap, subst, ℕ}
use Rattle.gob_types.specs.Defined.{types}
use Rattle.gob_types.specs.Table.{Table}
use Rattle.gob_json.specs.TextWhole.{LineOfWhole}
use Rattle.gob_stream.specs.Calls.ReaderOf.{session_of}
use Rattle.gob_stream.specs.Item.{puts}
use Rattle.gob_tool.specs.Line.{line}
use Rattle.gob_tool.proofs.item_line.push_whole_line.Goals as goal

pub returns : goal.returns
returns g c =
    let item = c.in-Some.item in
    let T = types (g.S.Steps.stepping.table (session_of c.args.reader.now)) in
    let l = subst (λ (T : Table). LineOfWhole T item.id c.args.depth item.body.now c.args.text.now.items
    c.line_of_whole.new.out.items) (ap (λ d. types d) c.table.ensures)
    (c.in_ok-line_of_whole.ensures.line c.if-not-branch.false) in
    record {
      id = item.id;
      body = item.body.now;
      between = c.in-Some.ensures.between;
      next = c.in-Some.ensures.body;
      whole = record { value = l.value; spelled = l.spelled; within = l.within };
      text_is = l.text ∙ ap (λ (b : List ℕ). b ++ line T (puts item.id l.value)) c.requires;
    }
