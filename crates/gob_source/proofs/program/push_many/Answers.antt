-- The pieces are appended one behind another.
use Rattle.std.proofs.Common.{◌≡◌, ◌++◌, codes}
use Rattle.gob_source.specs.Program.{cases_text, lines_text, main_comment, many_loop, many_main}
use Rattle.gob_source.proofs.AddsLaws.{adds_five, adds_then}
use Rattle.gob_source.proofs.FieldNameLaws.{on_ok}
use Rattle.gob_source.proofs.program.push_many.Goals as goal

pub returns : goal.returns
returns g c =
    let T = g.S.Shapes.table c.args.types.now.shapes.now in
    let ts = c.args.types.now.ids.now in
    let out = c.args.out.now.items in
    let told = c.push_text.new.out.items in
    let begun = c.push_text-2.new.out.items in
    let cased = c.push_cases.new.out.items in
    let read = c.push_lines.new.out.items in
    let said = c.push_text-3.new.out.items in
    let all = c.push_lines-2.new.out.items in
    let head = codes "\n// newValue returns a place for a value of the type that has this id in the stream.\n" in
    let opens = codes "func newValue(typeID int64) interface{} {\n\tswitch typeID {\n" in
    let cases = cases_text T ts c.args.values.now in
    let rest = opens ++ (cases ++ (lines_text many_main ++ (main_comment ++ lines_text many_loop))) in
    on_ok c.push_lines-2.result
    (λ (last : all ≡ said ++ lines_text many_loop).
    adds_then out told all head rest c.in_ok-push_text.ensures
    (adds_five told begun cased read said all opens cases (lines_text many_main) main_comment (lines_text many_loop)
    c.in_ok-push_text-2.ensures c.in_ok-push_cases.ensures c.in_ok-push_lines.ensures c.in_ok-push_text-3.ensures
    last))
    c.push_lines-2.ensures
