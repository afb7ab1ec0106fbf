use Rattle.std.proofs.Common.{◌∙◌, sym}
use Rattle.gob_match.proofs.FoundLaws.{length_keys}
use Rattle.gob_match.proofs.matched.Matched.pair_count.Goals as goal

pub returns : goal.returns
returns g c = c.count.ensures.count ∙ sym (length_keys c.args.self.now.found)
