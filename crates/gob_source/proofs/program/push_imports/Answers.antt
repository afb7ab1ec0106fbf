-- The pieces are appended one behind another.
use Rattle.std.proofs.Common.{◌≡◌, ◌∙◌, ◌++◌, ℕ, List, ap, codes}
use Rattle.gob_source.specs.Program.{buffer_import}
use Rattle.gob_source.specs.Source.{import_text}
use Rattle.gob_source.specs.declared.library.Package.TheVariants as packages
use Rattle.gob_source.proofs.AddsLaws.{adds_seven, adds_three}
use Rattle.gob_source.proofs.FieldNameLaws.{on_ok}
use Rattle.gob_source.proofs.program.push_imports.Goals as goal

pub returns : goal.returns
returns g c =
    let text = import_text (g.S.Shapes.table c.args.types.now.shapes.now) c.args.types.now.ids.now in
    let begun = c.push_text.new.out.items in
    let buffered = c.push_text-2.new.out.items in
    let own = c.push_text-3.new.out.items in
    let own2 = c.push_text-4.new.out.items in
    let big = c.push_import.new.out.items in
    let netip = c.push_import-2.new.out.items in
    let url = c.push_import-3.new.out.items in
    let time = c.push_import-4.new.out.items in
    let all = c.push_text-5.new.out.items in
    let names = codes "\t\"encoding/gob\"\n\t\"encoding/json\"\n\t\"fmt\"\n\t\"io\"\n\t\"log\"\n" in
    let others = codes "\t\"os\"\n\t\"reflect\"\n" in
    let rest = names ++ (text packages.Big ++ (text packages.Netip ++ (text packages.Url ++ (others ++
    (text packages.Time ++ codes ")\n"))))) in
    on_ok c.push_text-5.result
    (λ (last : all ≡ time ++ codes ")\n").
    adds_three c.args.out.now.items begun buffered all (codes "\nimport (\n") (buffer_import c.args.one) rest
    c.in_ok-push_text.ensures
    (c.in_ok-push_text-2.ensures ∙ ap (λ (l : List ℕ). begun ++ l) c.buffer_import.ensures)
    (adds_seven buffered own big netip url own2 time all names (text packages.Big) (text packages.Netip)
    (text packages.Url) others (text packages.Time) (codes ")\n") c.in_ok-push_text-3.ensures
    c.in_ok-push_import.ensures c.in_ok-push_import-2.ensures c.in_ok-push_import-3.ensures c.in_ok-push_text-4.ensures
    c.in_ok-push_import-4.ensures last))
    c.push_text-5.ensures
