-- The pieces are appended one behind another.
use Rattle.std.proofs.Common.{◌≡◌, ◌∙◌, ◌++◌, [], Bool, ap, codes}
use Rattle.gob_source.specs.Program.{has_one, init_text, main_text, program_imports, registrations_text}
use Rattle.gob_source.specs.Registered.{namings}
use Rattle.gob_source.specs.Source.{definitions_text}
use Rattle.gob_source.proofs.AddsLaws.{adds_five}
use Rattle.gob_source.proofs.FieldNameLaws.{on_ok}
use Rattle.gob_source.proofs.program.push_program.Goals as goal

pub returns : goal.returns
returns g c =
    let T = g.S.Shapes.table c.args.types.now.shapes.now in
    let ts = c.args.types.now.ids.now in
    let out = c.args.out.now.items in
    let ps = namings c.args.names.now.all.now in
    let vs = c.args.values.now in
    let begun = c.push_text.new.out.items in
    let imported = c.push_imports.new.out.items in
    let defined = c.push_definitions.new.out.items in
    let registered = c.push_init.new.out.items in
    let all = c.push_main.new.out.items in
    on_ok c.push_main.result
    (λ (last : all ≡ registered ++ main_text T ts vs).
    adds_five out begun imported defined registered all (codes "package main\n") (program_imports T ts (has_one vs))
    (definitions_text T ts ps ts) (init_text (registrations_text T ts [] ps)) (main_text T ts vs)
    c.in_ok-push_text.ensures
    (c.in_ok-push_imports.ensures ∙ ap (λ (b : Bool). begun ++ program_imports T ts b) c.has_one.ensures)
    c.in_ok-push_definitions.ensures c.in_ok-push_init.ensures last)
    c.push_main.ensures
