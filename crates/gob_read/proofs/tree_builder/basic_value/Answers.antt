use Rattle.std.proofs.Common.{ap, sym, ◌∙◌, rules, w64}
use Rattle.std.proofs.lemmas.Int.{to_z-of_z}
use Rattle.gob_value.specs.Tree.{Tree}
use Rattle.gob_value.specs.View.{view}
use Rattle.gob_value.specs.declared.value.Value.{Int}
use Rattle.gob_value.proofs.PublicLaws.{view-Int}
use Rattle.gob_read.specs.Leaf.{number_tree}
use Rattle.gob_read.proofs.Events.BuiltLaws.{signed_is}
use Rattle.gob_read.proofs.tree_builder.basic_value.Goals as goal

pub returns-in-Int : goal.returns-in-Int
returns-in-Int c =
    let i = c.to_signed.result in
    ap (λ j. view (Int j)) (to_z-of_z w64 i (search rules)) ∙ view-Int i
    ∙ ap Tree.int (signed_is c.args.first i c.ranges.first.fits c.to_signed.ensures)
    ∙ sym (ap (λ k. number_tree k c.args.first c.args.second) c.in-Int.is)
