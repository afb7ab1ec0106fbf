-- The pieces are appended one behind another.
use Rattle.std.proofs.Common.{◌≡◌, ◌∙◌, ◌++◌, ap, codes}
use Rattle.gob_source.specs.Names.{own_name}
use Rattle.gob_source.specs.Source.{encoder_name}
use Rattle.gob_source.proofs.AddsLaws.{adds_five}
use Rattle.gob_source.proofs.FieldNameLaws.{on_ok}
use Rattle.gob_source.proofs.definitions.push_encoder.Goals as goal

pub returns : goal.returns
returns g c =
    let T = g.S.Shapes.table c.args.types.now.shapes.now in
    let own = own_name T c.args.types.now.ids.now c.args.of c.args.name.now in
    let head = c.push_text.new.out.items in
    let named = c.push_own.new.out.items in
    let closed = c.push_text-2.new.out.items in
    let called = c.push_text-3.new.out.items in
    let end = codes "() ([]byte, error) {\n\treturn []byte(value), nil\n}\n" in
    on_ok c.push_text-4.result
    (λ (last : c.push_text-4.new.out.items ≡ called ++ end).
    adds_five c.args.out.now.items head named closed called c.push_text-4.new.out.items (codes "\nfunc (value ") own
    (codes ") ") (encoder_name c.args.marshal) end c.in_ok-push_text.ensures c.in_ok-push_own.ensures
    c.in_ok-push_text-2.ensures (c.in_ok-push_text-3.ensures ∙ ap (λ m. closed ++ m) c.encoder_name.ensures) last)
    c.push_text-4.ensures
