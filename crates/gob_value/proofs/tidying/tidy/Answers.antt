use Rattle.std.proofs.lemmas.Result.{IfOk-weaker}
use Rattle.gob_value.proofs.TidyFits.{tidy_fits}
use Rattle.gob_value.proofs.TidyLaws.{tidy_form, no_deeper}
use Rattle.gob_value.proofs.tidying.tidy.Goals as goal

pub tidy_type-requires : goal.tidy_type-requires
tidy_type-requires g c = tidy_form c.requires.spelled

pub returns-clause-tidy : goal.returns-clause-tidy
returns-clause-tidy g c = IfOk-weaker c.tidy_type.result _ _ (λ w p. p.tidies) c.tidy_type.ensures

pub returns-clause-fits : goal.returns-clause-fits
returns-clause-fits g c =
    IfOk-weaker c.tidy_type.result _ _
    (λ w p. let f = tidy_fits c.requires.spelled p.tidies p.small in record
    { bytes = f.bytes; spelled = f.spelled; within = no_deeper p.tidies })
    c.tidy_type.ensures
