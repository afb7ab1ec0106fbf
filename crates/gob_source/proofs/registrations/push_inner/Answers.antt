-- The pieces are appended one behind another.
use Rattle.std.proofs.Common.{◌≡◌, ◌∙◌, ◌++◌, ℕ, List, ap, codes}
use Rattle.gob_source.specs.Program.{inner_end, is_pointer, place_text, quoted}
use Rattle.gob_source.specs.Registered.{naming}
use Rattle.gob_source.proofs.AddsLaws.{adds_five}
use Rattle.gob_source.proofs.FieldNameLaws.{on_ok}
use Rattle.gob_source.proofs.registrations.push_inner.Goals as goal

pub returns : goal.returns
returns g c =
    let T = g.S.Shapes.table c.args.types.now.shapes.now in
    let ts = c.args.types.now.ids.now in
    let out = c.args.out.now.items in
    let p = naming c.args.registered.now in
    let begun = c.push_text.new.out.items in
    let typed = c.push_type.new.out.items in
    let parted = c.push_text-2.new.out.items in
    let named = c.push_quoted.new.out.items in
    on_ok c.push_text-3.result
    (λ (last : c.push_text-3.new.out.items ≡ named ++ c.inner_end.result.now).
    adds_five out begun typed parted named c.push_text-3.new.out.items (codes "\t{\n\t\ttype value ")
    (place_text T ts p.0) (codes "\n\t\tgob.RegisterName(") (quoted p.1) (inner_end (is_pointer p))
    c.in_ok-push_text.ensures c.in_ok-push_type.ensures c.in_ok-push_text-2.ensures
    (c.in_ok-push_quoted.ensures ∙ ap (λ (n : List ℕ). parted ++ quoted n) c.deref.ensures.value)
    (last ∙ ap (λ (l : List ℕ). named ++ l) c.inner_end.ensures))
    c.push_text-3.ensures
