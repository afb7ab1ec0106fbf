-- The pieces are appended one behind another.
use Rattle.std.proofs.Common.{◌≡◌, ◌∙◌, ◌++◌, ℕ, List, ap, codes}
use Rattle.gob_source.specs.Program.{quoted, value_text}
use Rattle.gob_source.specs.Registered.{naming}
use Rattle.gob_source.proofs.AddsLaws.{adds_five}
use Rattle.gob_source.proofs.FieldNameLaws.{on_ok}
use Rattle.gob_source.proofs.registrations.push_plain.Goals as goal

pub returns : goal.returns
returns g c =
    let T = g.S.Shapes.table c.args.types.now.shapes.now in
    let ts = c.args.types.now.ids.now in
    let out = c.args.out.now.items in
    let p = naming c.args.registered.now in
    let begun = c.push_text.new.out.items in
    let named = c.push_quoted.new.out.items in
    let parted = c.push_text-2.new.out.items in
    let given = c.push_value.new.out.items in
    on_ok c.push_text-3.result
    (λ (last : c.push_text-3.new.out.items ≡ given ++ codes ")\n").
    adds_five out begun named parted given c.push_text-3.new.out.items (codes "\tgob.RegisterName(") (quoted p.1)
    (codes ", ") (value_text T ts p) (codes ")\n") c.in_ok-push_text.ensures
    (c.in_ok-push_quoted.ensures ∙ ap (λ (n : List ℕ). begun ++ quoted n) c.deref.ensures.value)
    c.in_ok-push_text-2.ensures c.in_ok-push_value.ensures last)
    c.push_text-3.ensures
