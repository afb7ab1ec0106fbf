-- What was told of the value is gathered, and those are the nodes and bytes of a tape of it.
use Rattle.std.proofs.Common.{List, ℕ, None, refl, ap, subst, sym, ◌∙◌}
use Rattle.gob_types.specs.Defined.{types}
use Rattle.gob_tape.specs.declared.flat.FlatNode.{FlatNode}
use Rattle.gob_walk.specs.Event.{value_told}
use Rattle.gob_filled.specs.Filled.{filled, no_filling}
use Rattle.gob_handed.specs.Machine.Gathered.{after_all, nothing_gathered}
use Rattle.gob_handed.specs.ValueNodes.{AreNodesOf}
use Rattle.gob_handed.proofs.GatheredLaws.{value_gathered, value_nodes}
use Rattle.gob_handed.proofs.LaidLaws.{nodes_of_value}
use Rattle.gob_handed.proofs.flat_visitor.flat_value.Goals as goal

pub returns-in-Ok : goal.returns-in-Ok
returns-in-Ok c =
    let T = types c.args.table.now in
    let w = c.in-Ok.ensures.whole refl in
    let told = (c.in-Ok.ensures.sent w.value w.spelled w.within).answers in
    let all = told ∙ ap (λ s. after_all s (value_told T c.args.id w.value)) c.new-visitor.ensures
    ∙ value_gathered T c.args.id w.value nothing_gathered in
    let nodes = ap (λ v. v.nodes.items) c.into_value.ensures ∙ ap (λ s. s.nodes) all in
    let pool = ap (λ v. v.pool.items) c.into_value.ensures ∙ ap (λ s. s.pool) all in
    record {
      whole = w;
      are = subst (λ (l : List FlatNode). AreNodesOf T c.args.id (filled w.value no_filling) l
          c.into_value.result.pool.items) (sym nodes)
          (subst (λ (l : List ℕ). AreNodesOf T c.args.id (filled w.value no_filling) (value_nodes None 0 w.value) l)
          (sym pool) (nodes_of_value w.spelled));
    }
