use Rattle.std.proofs.Common.{arith}
use Rattle.gob_match.proofs.FoundLaws.{length_keys}
use Rattle.gob_match.proofs.SearchLaws.{key_at}
use Rattle.gob_match.proofs.matched.Matched.pair_at.Goals as goal

pub pair_at-requires : goal.pair_at-requires
pair_at-requires g c = omega (arith, c.requires, length_keys c.args.self.now.found)

pub returns : goal.returns
returns g c =
    key_at c.args.self.now.found c.args.place (c.pair_at.result, c.pair_at.ensures.origin) c.pair_at.ensures.there
