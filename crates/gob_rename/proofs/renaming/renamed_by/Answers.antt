-- Each is judged by the types that those before it leave.
use Rattle.std.proofs.Common.{◌∙◌, ap, sym, take}
use Rattle.gob_types.specs.Defined.{types}
use Rattle.gob_types.specs.Table.{Table}
use Rattle.gob_rename.specs.Renaming.{ids_defined}
use Rattle.gob_rename.proofs.EntryLaws.{ids_renamed}
use Rattle.gob_rename.proofs.FitLaws.{all_fit, next_fits, next_misfits, none_fit}
use Rattle.gob_rename.proofs.renaming.renamed_by.Goals as goal

pub loop-number-init : goal.loop-number-init
loop-number-init c = none_fit

pub judge-judged-requires : goal.judge-judged-requires
judge-judged-requires c =
    c.requires ∙ ids_renamed (take c.loop-number.number c.args.renames.now) (types c.args.table.now)
    ∙ ap (λ (T : Table). ids_defined T) (sym c.in_ok-before.ensures)

pub loop-number-preserved : goal.loop-number-preserved
loop-number-preserved c =
    next_fits _ c.loop-number.invariant c.loop-number-test.true c.in_ok-before.ensures c.in_default.ensures

pub returns-in-Err-clause-judged : goal.returns-in-Err-clause-judged
returns-in-Err-clause-judged c =
    next_misfits _ c.in-Err.misfit c.loop-number-test.true c.in_ok-before.ensures c.in-Err.ensures

pub returns-clause-judged : goal.returns-clause-judged
returns-clause-judged c = all_fit c.loop-number.invariant c.loop-number-test.false
