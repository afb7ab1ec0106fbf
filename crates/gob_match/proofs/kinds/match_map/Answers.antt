use Rattle.gob_match.proofs.KindLaws.{others_clash, maps_convert}
use Rattle.gob_match.proofs.kinds.match_map.Goals as goal

pub returns-in-Map : goal.returns-in-Map
returns-in-Map c = maps_convert c.in-Map.is c.pair_of.ensures c.pair_of-in-Map.ensures

pub returns-in_default : goal.returns-in_default
returns-in_default c = others_clash _ c.args.wanted.now c.in_default.not-Map
