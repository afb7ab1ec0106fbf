use Rattle.std.proofs.Common.{◌≡◌, ◌∙◌, None, Some, ap, sym}
use Rattle.gob_types.specs.declared.kind.Shape.{Shape}
use Rattle.gob_lines.specs.Definition.{shape_parts}
use Rattle.gob_lines.specs.declared.definition_parts.Parts.{Parts}
use Rattle.gob_lines.proofs.DefinitionLaws.{shape_is, shape_named, shape_once, shape_parts_readable}
use Rattle.gob_lines.proofs.WholeLaws.{fault_reads}
use Rattle.gob_lines.proofs.definition.read_told.Goals as goal

some_is_not_none : {A : Type 0} {a : A} → Some a ≡ None → ⊥
some_is_not_none e = absurd (cc)

pub returns-in_err-end-clause-whole : goal.returns-in_err-end-clause-whole
returns-in_err-end-clause-whole c = λ s rest readable bytes said.
    fault_reads (λ (x : Shape). x) c.from_residual.result c.in_err-end.field-0.0 c.read_members.new.tokens s rest
    c.from_residual.ensures.1 (c.in_err-end.ensures.whole (shape_parts s.kind s.name) rest
    (shape_parts_readable s.kind s.name readable bytes) said)

pub returns-in_err-kind-clause-whole : goal.returns-in_err-kind-clause-whole
returns-in_err-kind-clause-whole c = λ s rest readable bytes said.
    let all = c.in_ok-end.ensures.whole (shape_parts s.kind s.name) rest
    (shape_parts_readable s.kind s.name readable bytes) said in
    fault_reads (λ (x : Shape). x) c.from_residual-in_err-kind.result c.in_err-kind.field-0.0
    c.read_members.new.tokens s rest c.from_residual-in_err-kind.ensures.1
    (λ w. c.in_err-kind.ensures.none s.kind s.name readable all.0)

pub returns-in-Some-clause-whole : goal.returns-in-Some-clause-whole
returns-in-Some-clause-whole c = λ s rest readable bytes said.
    let all = c.in_ok-end.ensures.whole (shape_parts s.kind s.name) rest
    (shape_parts_readable s.kind s.name readable bytes) said in
    let name = c.in-Some.name in
    let there = sym c.in_ok-kind.ensures.name ∙ sym c.take.ensures.value ∙ c.in-Some.is in
    let same = shape_once c.in_ok-kind.kind s.kind name s.name readable
    (sym (c.in_ok-kind.ensures.told name there) ∙ all.0) in
    (shape_is s same.0 same.1, all.1)

pub returns-in-None-clause-whole : goal.returns-in-None-clause-whole
returns-in-None-clause-whole c = λ s rest readable bytes said wrong.
    let all = c.in_ok-end.ensures.whole (shape_parts s.kind s.name) rest
    (shape_parts_readable s.kind s.name readable bytes) said in
    some_is_not_none (sym (shape_named s.kind s.name readable) ∙ ap (λ (p : Parts). p.name) (sym all.0)
    ∙ sym c.in_ok-kind.ensures.name ∙ sym c.take.ensures.value ∙ c.in-None.is)
