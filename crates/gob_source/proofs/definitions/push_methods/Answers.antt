-- The methods are appended one behind another.
use Rattle.std.proofs.Common.{◌≡◌, ◌∙◌, ◌++◌, ℕ, List, None, ap, rules, sym}
use Rattle.gob_source.specs.Names.{own_name}
use Rattle.gob_source.specs.Source.{decoder_text, encoder_text}
use Rattle.gob_source.proofs.AddsLaws.{adds_then}
use Rattle.gob_source.proofs.FieldNameLaws.{on_ok}
use Rattle.gob_source.proofs.SourceLaws.{methods_of}
use Rattle.gob_source.proofs.definitions.push_methods.Goals as goal

pub returns-in_ok-push_encoder-in-Opaque : goal.returns-in_ok-push_encoder-in-Opaque
returns-in_ok-push_encoder-in-Opaque g c =
    let name = c.args.name.now in
    let own = own_name (g.S.Shapes.table c.args.types.now.shapes.now) c.args.types.now.ids.now c.args.of name in
    let m = c.in-Opaque.marshal in
    let out = c.args.out.now.items in
    let mid = c.push_encoder.new.out.items in
    let none : c.package_of.result ≡ None = search rules in
    on_ok c.push_decoder.result
    (λ (last : c.push_decoder.new.out.items ≡ mid ++ decoder_text m own).
    adds_then out mid c.push_decoder.new.out.items (encoder_text m own) (decoder_text m own)
    c.in_ok-push_encoder-in-Opaque.ensures last
    ∙ ap (λ (l : List ℕ). out ++ l) (sym (methods_of name own c.args.kind.now m c.package_of.result c.in-Opaque.is
    c.package_of.ensures none)))
    c.push_decoder.ensures
