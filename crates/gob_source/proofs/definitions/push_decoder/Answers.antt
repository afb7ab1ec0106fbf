-- The pieces are appended one behind another.
use Rattle.std.proofs.Common.{◌≡◌, ◌∙◌, ◌++◌, ap, codes}
use Rattle.gob_source.specs.Names.{own_name}
use Rattle.gob_source.specs.Source.{decoder_name}
use Rattle.gob_source.proofs.AddsLaws.{adds_five, adds_three}
use Rattle.gob_source.proofs.FieldNameLaws.{on_ok}
use Rattle.gob_source.proofs.definitions.push_decoder.Goals as goal

pub returns : goal.returns
returns g c =
    let T = g.S.Shapes.table c.args.types.now.shapes.now in
    let own = own_name T c.args.types.now.ids.now c.args.of c.args.name.now in
    let head = c.push_text.new.out.items in
    let named = c.push_own.new.out.items in
    let closed = c.push_text-2.new.out.items in
    let called = c.push_text-3.new.out.items in
    let opened = c.push_text-4.new.out.items in
    let kept = c.push_own-2.new.out.items in
    let all = c.push_text-5.new.out.items in
    let open_ = codes "(data []byte) error {\n\t*value = " in
    let end = codes "(data)\n\treturn nil\n}\n" in
    on_ok c.push_text-5.result
    (λ (last : all ≡ kept ++ end).
    adds_five c.args.out.now.items head named closed called all (codes "\nfunc (value *") own (codes ") ")
    (decoder_name c.args.marshal) (open_ ++ (own ++ end)) c.in_ok-push_text.ensures c.in_ok-push_own.ensures
    c.in_ok-push_text-2.ensures (c.in_ok-push_text-3.ensures ∙ ap (λ m. closed ++ m) c.decoder_name.ensures)
    (adds_three called opened kept all open_ own end c.in_ok-push_text-4.ensures c.in_ok-push_own-2.ensures last))
    c.push_text-5.ensures
