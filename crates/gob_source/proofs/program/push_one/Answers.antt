-- The pieces are appended one behind another.
use Rattle.std.proofs.Common.{◌≡◌, ◌++◌, codes}
use Rattle.gob_source.specs.Program.{lines_text, main_comment, new_text, one_main, place_text}
use Rattle.gob_source.proofs.AddsLaws.{adds_five}
use Rattle.gob_source.proofs.FieldNameLaws.{on_ok}
use Rattle.gob_source.proofs.program.push_one.Goals as goal

pub returns : goal.returns
returns g c =
    let T = g.S.Shapes.table c.args.types.now.shapes.now in
    let ts = c.args.types.now.ids.now in
    let out = c.args.out.now.items in
    let begun = c.push_text.new.out.items in
    let made = c.push_new.new.out.items in
    let ended = c.push_text-2.new.out.items in
    let told = c.push_text-3.new.out.items in
    on_ok c.push_lines.result
    (λ (last : c.push_lines.new.out.items ≡ told ++ lines_text one_main).
    adds_five out begun made ended told c.push_lines.new.out.items
    (codes "\n// newValue returns a place for a value.\nfunc newValue() interface{} {\n\treturn ")
    (new_text (place_text T ts c.args.value)) (codes "\n}\n") main_comment (lines_text one_main)
    c.in_ok-push_text.ensures c.in_ok-push_new.ensures c.in_ok-push_text-2.ensures c.in_ok-push_text-3.ensures last)
    c.push_lines.ensures
