-- What fills nils, with one more at the end.
use Rattle.std.proofs.Common.{◌++◌, List, [], ◌∷◌, Option}
use Rattle.gob_plain.specs.declared.fillers.Filler.{Filler}
use Rattle.gob_plain.specs.Fillers.{AreFillers, IsFiller}

pub fillers_on : (fs : List (Option Filler)) (f : Option Filler) → AreFillers fs → IsFiller f
    → AreFillers (fs ++ (f ∷ []))
fillers_on [] f are is = (is, are)
fillers_on (g ∷ fs) f are is = (are.0, fillers_on fs f are.1 is)
