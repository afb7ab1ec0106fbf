-- The pieces are appended one behind another.
use Rattle.std.proofs.Common.{◌≡◌, ◌∙◌, ◌++◌, ℕ, List, ap, codes}
use Rattle.std.specs.Fmt.{decimal}
use Rattle.gob_source.specs.Names.{own_name}
use Rattle.gob_source.specs.Registered.{names_of, names_text, namings}
use Rattle.gob_source.specs.Source.{encoded_text, kind_text}
use Rattle.gob_source.proofs.AddsLaws.{adds_seven, adds_then}
use Rattle.gob_source.proofs.FieldNameLaws.{on_ok}
use Rattle.gob_source.proofs.definitions.push_declaration.Goals as goal

pub returns : goal.returns
returns g c =
    let T = g.S.Shapes.table c.args.types.now.shapes.now in
    let ts = c.args.types.now.ids.now in
    let out = c.args.out.now.items in
    let t = c.args.of in
    let kind = c.args.shape.now.kind in
    let name = c.as_bytes-name.result.now in
    let names = names_text (names_of t (namings c.args.names.now.all.now)) in
    let begun = c.push_text.new.out.items in
    let numbered = c.push_number.new.out.items in
    let encoded = c.push_encoded.new.out.items in
    let registered = c.push_names.new.out.items in
    let opened = c.push_text-2.new.out.items in
    let named = c.push_own.new.out.items in
    let parted = c.push_text-3.new.out.items in
    let typed = c.push_kind.new.out.items in
    let all = c.push_text-4.new.out.items in
    let end = λ (n : List ℕ). codes "\ntype " ++ (own_name T ts t n ++ (codes " " ++
    (kind_text T ts t n kind ++ codes "\n"))) in
    let rest = λ (n : List ℕ). decimal t.0 ++ (encoded_text kind ++ (names ++ end n)) in
    on_ok c.push_text-4.result
    (λ (last : all ≡ typed ++ codes "\n").
    adds_then out begun all (codes "\n// type ") (rest name) c.in_ok-push_text.ensures
    (adds_then begun numbered all (decimal t.0) (encoded_text kind ++ (names ++ end name)) c.in_ok-push_number.ensures
    (adds_seven numbered encoded registered opened named parted typed all (encoded_text kind) names (codes "\ntype ")
    (own_name T ts t name) (codes " ") (kind_text T ts t name kind) (codes "\n") c.in_ok-push_encoded.ensures
    c.in_ok-push_names.ensures c.in_ok-push_text-2.ensures c.in_ok-push_own.ensures c.in_ok-push_text-3.ensures
    c.in_ok-push_kind.ensures last))
    ∙ ap (λ (n : List ℕ). out ++ (codes "\n// type " ++ rest n)) c.as_bytes-name.ensures)
    c.push_text-4.ensures
