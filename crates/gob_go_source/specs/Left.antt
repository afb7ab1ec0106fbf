-- The tokens that are left to read.
use Rattle.std.specs.Prelude.{List, drop}
use Rattle.gob_go_source.specs.declared.token.Token.{Token}
use Rattle.gob_go_source.specs.declared.tokens.Tokens.{Tokens}

abbrev pub left : Tokens → List Token
left s = drop s.at s.all.now
