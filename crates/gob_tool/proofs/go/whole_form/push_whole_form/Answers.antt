use Rattle.std.proofs.Common.{◌∙◌, ◌++◌, List, ap, subst, sym, ℕ}
use Rattle.gob_num.specs.Spelled.{IsSpelled}
use Rattle.gob_types.specs.Defined.{Defined, types}
use Rattle.gob_go_writer.specs.Item.{IsItemOf}
use Rattle.gob_tool.proofs.Profile.FormLaws.{form_given, whole_rewritten}
use Rattle.gob_tool.proofs.go.whole_form.push_whole_form.Goals as goal

pub write_item-written-requires : goal.write_item-written-requires
write_item-written-requires c =
    let w = rw c.in-Some.is at c.in_ok-whole.ensures in
    subst (λ (d : Defined). IsSpelled (IsItemOf (types d) c.in-Some.whole.form)) (sym c.table.ensures) (form_given w)

pub returns : goal.returns
returns c =
    let w = rw c.in-Some.is at c.in_ok-whole.ensures in
    whole_rewritten w (λ bytes is. c.in_ok-written.ensures.ok bytes
    (subst (λ (d : Defined). IsItemOf (types d) c.in-Some.whole.form bytes) (sym c.table.ensures) is)
    ∙ ap (λ (l : List ℕ). l ++ bytes) c.requires)
