use Rattle.gob_types.proofs.PublicLaws.{extends_keeps}
use Rattle.gob_value.proofs.StayLaws.{spells_on, spells_back, top_on, top_back}
use Rattle.gob_value.proofs.laws.spellings_stay.Goals as goal

pub returns-clause-value : goal.returns-clause-value
returns-clause-value c T U t v b e p = spells_on (extends_keeps e) p

pub returns-clause-top : goal.returns-clause-top
returns-clause-top c T U t v b e p = top_on (extends_keeps e) p

pub returns-clause-no_more : goal.returns-clause-no_more
returns-clause-no_more c T U t v b e r p = spells_back (extends_keeps e) r p

pub returns-clause-no_more_top : goal.returns-clause-no_more_top
returns-clause-no_more_top c T U t v b e r p = top_back (extends_keeps e) r p
