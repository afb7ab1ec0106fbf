-- A word that is no number gives no offset.
use Rattle.std.proofs.Common.{subst}
use Rattle.gob_words.specs.Views.{IsPlaceIn}
use Rattle.gob_words.specs.Words.{text_of}
use Rattle.gob_words.proofs.views.place_in.Goals as goal

pub returns-in-None : goal.returns-in-None
returns-in-None c = λ at p.
    let q = subst (λ w. IsPlaceIn (text_of w) at) c.in-Some.is p in c.in-None.ensures q.0 q.2
