use Rattle.std.proofs.Common.{arith, subst, sym}
use Rattle.gob_types.specs.Definable.{IsDefinable}
use Rattle.gob_lines.specs.Definition.{ReadsParts, shape_parts}
use Rattle.gob_lines.specs.declared.definition_parts.Parts.{Parts}
use Rattle.gob_lines.proofs.definition.read_shape.Goals as goal

pub returns-clause-whole : goal.returns-clause-whole
returns-clause-whole c = λ s rest definable readable bytes said.
    c.in_ok-shape.ensures.whole s rest readable bytes
    (subst (λ (p : Parts). ReadsParts p (shape_parts s.kind s.name) c.args.tokens.now rest)
    (sym c.new-parts.ensures) said)

pub returns-then-not-definable-clause-whole : goal.returns-then-not-definable-clause-whole
returns-then-not-definable-clause-whole c = λ s rest definable readable bytes said wrong.
    let it = c.in_ok-shape.ensures.whole s rest readable bytes
    (subst (λ (p : Parts). ReadsParts p (shape_parts s.kind s.name) c.args.tokens.now rest)
    (sym c.new-parts.ensures) said) in
    let yes = c.definable.ensures.1 (subst IsDefinable (sym it.0) definable) in
    let no = c.if-not-definable.true in
    grind (arith, yes, no)
