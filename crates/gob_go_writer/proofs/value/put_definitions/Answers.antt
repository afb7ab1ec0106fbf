use Rattle.std.proofs.Common.{[], ◌∷◌, ◌++◌}
use Rattle.std.proofs.Math.ListN.{drop_of_length-le}
use Rattle.gob_stream.proofs.DenialLaws.{denial_weaker}
use Rattle.gob_stream.proofs.FaultSteps.{passed}
use Rattle.gob_filled.specs.Filled.{cut}
use Rattle.gob_go_writer.proofs.LetterLaws.{takes_then, takes_none}
use Rattle.gob_go_writer.proofs.PartSteps.{definitions_from, first_definition, going_begins, going_on, going_ends}
use Rattle.gob_go.proofs.IdLaws.{item_left}
use Rattle.gob_go_writer.proofs.PartSteps.{no_definition_left}
use Rattle.gob_go_writer.proofs.value.put_definitions.Goals as goal

pub loop-definition-init : goal.loop-definition-init
loop-definition-init c = going_begins _

pub returns-in_err-put_definition-clause-refused : goal.returns-in_err-put_definition-clause-refused
returns-in_err-put_definition-clause-refused c =
    passed c.from_residual.result _ c.from_residual.ensures.1
    (denial_weaker c.in_err-put_definition.field-0.0 (λ r unfit. (
      unfit.0,
      λ s.
          let left = item_left c.args.definitions.now c.loop-definition.definition-index c.definition-item.result
          c.definition-item.is c.loop-definition-test.true in
          unfit.1 (first_definition left (c.loop-definition.invariant.left s)).first,
    )) c.in_err-put_definition.ensures.refused)

pub loop-definition-preserved : goal.loop-definition-preserved
loop-definition-preserved c =
    let left = item_left c.args.definitions.now c.loop-definition.definition-index c.definition-item.result
    c.definition-item.is c.loop-definition-test.true in
    let d = c.in_ok-put_definition.ensures.ok in
    going_on c.loop-definition.invariant (d.letters ++ (cut ∷ [])) (takes_then d.takes c.in_ok-cut.ensures)
    (definitions_from left d.spelled.spelled) (λ s. (first_definition left s).others)

pub returns-clause-ok : goal.returns-clause-ok
returns-clause-ok c = going_ends c.loop-definition.invariant [] (takes_none _)
    (no_definition_left (drop_of_length-le c.args.definitions.now c.loop-definition-test.false))
