use Rattle.std.proofs.Common.{List, length}
use Rattle.json.specs.Token.{Token}
use Rattle.gob_lines.specs.Complete.{ArePartsReadable}
use Rattle.gob_lines.specs.Definition.{ReadsParts}
use Rattle.gob_lines.specs.declared.definition_parts.Parts.{Parts}
use Rattle.gob_lines.proofs.definition.read_members.Given as goal

abbrev pub invariant-members : goal.invariant-members
invariant-members l = record {
  read : (all : Parts) (rest : List Token) → ReadsParts l.parts all l.tokens rest
      → ReadsParts l.fn.parts all l.fn.tokens rest;
  leaves : (all : Parts) (rest : List Token) → ArePartsReadable all → ReadsParts l.fn.parts all l.fn.tokens rest
      → ReadsParts l.parts all l.tokens rest;
}

abbrev pub decreases-members : goal.decreases-members
decreases-members l = length l.tokens
