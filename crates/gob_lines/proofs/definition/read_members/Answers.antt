use Rattle.std.proofs.Common.{◌++◌}
use Rattle.serde_json.specs.Data.{no_members}
use Rattle.gob_lines.specs.Definition.{no_more}
use Rattle.gob_lines.proofs.DefinitionLaws.{JM, fault_fills, part_before, part_behind, part_readable, part_stands}
use Rattle.gob_lines.proofs.DefinitionLaws.{parts_begin, parts_end}
use Rattle.gob_lines.proofs.definition.read_members.Goals as goal

pub members-preserved : goal.members-preserved
members-preserved c =
    let stands = rw c.in-Some.is at c.in_ok-key.ensures.ok in
    record {
      read = λ all rest said.
          c.members.invariant.read all rest (part_before stands c.in_ok-read_member-in-Some.ensures.read said);
      leaves = λ all rest readable said.
          let n = part_stands c.in-Some.key.now (c.members.invariant.leaves all rest readable said) stands in
          part_behind n (c.in_ok-read_member-in-Some.ensures.whole n.part (JM n.members ++ rest)
          (part_readable n readable) n.same n.fresh n.value);
    }

pub returns-in-None-clause-read : goal.returns-in-None-clause-read
returns-in-None-clause-read c =
    let stands = rw c.in-None.is at c.in_ok-key.ensures.ok in
    c.members.invariant.read c.members.parts c.take_next_key.new.tokens
    (record { members = no_members; says = no_more; reads = stands })

pub returns-in-None-clause-whole : goal.returns-in-None-clause-whole
returns-in-None-clause-whole c = λ all rest readable said.
    let stands = rw c.in-None.is at c.in_ok-key.ensures.ok in
    parts_end (c.members.invariant.leaves all rest readable said) stands

pub returns-in_err-key-clause-whole : goal.returns-in_err-key-clause-whole
returns-in_err-key-clause-whole c = λ all rest readable said.
    fault_fills c.from_residual.result c.in_err-key.field-0.0 c.members.parts all
    c.take_next_key.new.tokens rest c.from_residual.ensures.1
    (λ w. c.in_err-key.ensures.none (parts_begin (c.members.invariant.leaves all rest readable said)))

pub returns-in_err-read_member-in-Some-clause-whole : goal.returns-in_err-read_member-in-Some-clause-whole
returns-in_err-read_member-in-Some-clause-whole c = λ all rest readable said.
    let stands = rw c.in-Some.is at c.in_ok-key.ensures.ok in
    let n = part_stands c.in-Some.key.now (c.members.invariant.leaves all rest readable said) stands in
    fault_fills c.from_residual-in_err-read_member-in-Some.result c.in_err-read_member-in-Some.field-0.0
    c.read_member.new.parts all c.read_member.new.tokens rest c.from_residual-in_err-read_member-in-Some.ensures.1
    (c.in_err-read_member-in-Some.ensures.whole n.part (JM n.members ++ rest) (part_readable n readable) n.same
    n.fresh n.value)
