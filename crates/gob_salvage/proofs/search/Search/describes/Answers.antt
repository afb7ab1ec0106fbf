use Rattle.gob_salvage.proofs.search.Search.describes.Goals as goal

pub spend_on-requires : goal.spend_on-requires
spend_on-requires c = c.kept.ensures.0 c.if-not-kept.false
