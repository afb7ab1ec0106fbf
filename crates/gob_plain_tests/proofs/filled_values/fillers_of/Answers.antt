-- Filler by filler.
use Rattle.std.proofs.Common.{subst, sym}
use Rattle.gob_plain.specs.Fillers.{AreFillers}
use Rattle.gob_plain_tests.proofs.FillerLaws.{fillers_on}
use Rattle.gob_plain_tests.proofs.filled_values.fillers_of.Goals as goal

pub words-preserved : goal.words-preserved
words-preserved c = subst AreFillers (sym c.in_ok-push.ensures.items)
    (fillers_on c.words.all.items _ c.words.invariant c.in_ok-filler_of.ensures)
