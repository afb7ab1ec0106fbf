-- Where there are calls, they are those of the function.
use Rattle.std.proofs.Common.{◌≡◌, ◌∙◌, ◌++◌, ℕ, List, ap, codes, sym}
use Rattle.gob_source.proofs.AddsLaws.{adds_three}
use Rattle.gob_source.proofs.FieldNameLaws.{on_ok}
use Rattle.gob_source.proofs.SourceLaws.{init_filled}
use Rattle.gob_source.proofs.program.push_init_of.Goals as goal

pub returns : goal.returns
returns c =
    let out = c.args.out.now.items in
    let calls = c.args.calls.now in
    let head = codes "\n// The names under which interfaces hold values.\nfunc init() {\n" in
    on_ok c.push_text-3.result
    (λ (last : c.push_text-3.new.out.items ≡ c.push_text-2.new.out.items ++ codes "}\n").
    adds_three out c.push_text.new.out.items c.push_text-2.new.out.items c.push_text-3.new.out.items head calls
    (codes "}\n") c.in_ok-push_text.ensures c.in_ok-push_text-2.ensures last
    ∙ ap (λ (l : List ℕ). out ++ l) (sym (init_filled calls c.is_empty.result c.is_empty.ensures c.if-is_empty.false)))
    c.push_text-3.ensures
