use Rattle.std.proofs.Common.{rules, arith, sym, subst, ◌≡◌, ◌∷◌}
use Rattle.gob_types.specs.Definable.{IsDefinable}
use Rattle.gob_nodes.specs.Shapes.{SaysShape, says_shape}
use Rattle.gob_nodes.proofs.ShapeLaws.{shape_once, shape_parts}
use Rattle.gob_nodes.proofs.definition.shape_of_nodes.Goals as goal

pub returns-clause-says : goal.returns-clause-says
returns-clause-says c =
    let split : c.args.given.nodes.now ≡ c.in-Some.first.now ∷ c.in-Some.behind.now = search rules in
    subst (λ ns. SaysShape c.args.given.bytes.now ns (record { name = c.in_ok-name.name; kind = c.in_ok-kind.kind }))
    (sym split)
    (says_shape c.in_ok-name.ensures.has c.in_ok-name.ensures.are c.in_ok-kind.ensures.says)

pub returns-then-not-definable-clause-whole : goal.returns-then-not-definable-clause-whole
returns-then-not-definable-clause-whole c = λ s h d w.
    let split : c.args.given.nodes.now ≡ c.in-Some.first.now ∷ c.in-Some.behind.now = search rules in
    let parts = shape_parts (subst (λ ns. SaysShape c.args.given.bytes.now ns s) split h) in
    let same = shape_once c.in_ok-name.name c.in_ok-kind.kind c.in_ok-name.ensures.are
    (c.in_ok-kind.ensures.whole s.kind parts.kind) parts in
    let yes = c.definable.ensures.1 (subst IsDefinable (sym same) d) in
    grind (arith, yes)
