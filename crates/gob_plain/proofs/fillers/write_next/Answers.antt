-- What fills the nil, or null.
use Rattle.std.proofs.Common.{Some, refl, sym, subst}
use Rattle.json.specs.Json as json
use Rattle.gob_plain.specs.Fillers.{FillerSays}
use Rattle.gob_plain.specs.WritesPlain.{WritesPlain}
use Rattle.gob_plain.proofs.SomeLaws.{some_of, one_written}
use Rattle.gob_plain.proofs.fillers.write_next.Goals as goal

pub returns-in-None : goal.returns-in-None
returns-in-None c =
    subst (λ o. WritesPlain c.null.result c.args.out.now c.null.new.self (FillerSays (Some o))) (sym c.in-None.is)
    (some_of (one_written c.null.ensures) (json.null, refl, refl))

pub returns-in-Some : goal.returns-in-Some
returns-in-Some c =
    subst (λ o. WritesPlain c.write_filler.result c.args.out.now c.write_filler.new.out (FillerSays (Some o)))
    (sym c.in-Some.is) c.write_filler.ensures
