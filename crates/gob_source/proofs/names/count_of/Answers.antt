-- Each character is counted once.
use Rattle.std.proofs.Common.{rules}
use Rattle.std.proofs.lemmas.Str.{chars_from_encodes}
use Rattle.gob_source.proofs.names.count_of.Goals as goal

pub returns : goal.returns
returns c = search (rules, chars_from_encodes)
