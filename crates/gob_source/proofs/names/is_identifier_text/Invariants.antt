-- What was read so far is an identifier, or not.
use Rattle.std.proofs.Common.{◌≡◌, not}
use Rattle.gob_source.specs.Names.{is_identifier_text}
use Rattle.gob_source.proofs.IdentifierLaws.{is_empty}
use Rattle.gob_source.proofs.names.is_identifier_text.Given as goal

abbrev pub invariant-loop-character : goal.invariant-loop-character
invariant-loop-character l = record {
  begun : l.begun ≡ not (is_empty l.yielded);
  fits : l.fits ≡ is_identifier_text l.yielded;
}
