use Rattle.std.proofs.Common.{subst, sym}
use Rattle.std.proofs.lemmas.Result.{IfOk-from_err}
use Rattle.gob_match.specs.Machine.Conversions.{ConversionNames}
use Rattle.gob_match.specs.Machine.Search.{AddsPairs}
use Rattle.gob_match.proofs.ConversionLaws.{adds_joined}
use Rattle.gob_match.proofs.adding.add_named.Goals as goal

pub returns-in_ok-add-in-Entries-2 : goal.returns-in_ok-add-in-Entries-2
returns-in_ok-add-in-Entries-2 c =
    subst (λ w. AddsPairs c.args.found.now c.add-in-Entries-2.new.self c.args.place (ConversionNames w))
    (sym c.in-Entries.is) (adds_joined c.in_ok-add-in-Entries.ensures.added c.in_ok-add-in-Entries-2.ensures.added)

pub returns-in_err-add-in-Elements : goal.returns-in_err-add-in-Elements
returns-in_err-add-in-Elements c = IfOk-from_err c.from_residual.result _ c.from_residual.ensures.0

pub returns-in_err-add-in-Entries : goal.returns-in_err-add-in-Entries
returns-in_err-add-in-Entries c =
    IfOk-from_err c.from_residual-in_err-add-in-Entries.result _ c.from_residual-in_err-add-in-Entries.ensures.0

pub returns-in_err-add-in-Entries-2 : goal.returns-in_err-add-in-Entries-2
returns-in_err-add-in-Entries-2 c =
    IfOk-from_err c.from_residual-in_err-add-in-Entries-2.result _ c.from_residual-in_err-add-in-Entries-2.ensures.0

pub returns-in_err-add_fields-in-Fields : goal.returns-in_err-add_fields-in-Fields
returns-in_err-add_fields-in-Fields c =
    IfOk-from_err c.from_residual-in_err-add_fields-in-Fields.result _
    c.from_residual-in_err-add_fields-in-Fields.ensures.0
