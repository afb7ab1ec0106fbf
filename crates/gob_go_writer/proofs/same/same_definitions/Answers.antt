use Rattle.std.proofs.Common.{ap, arith, refl}
use Rattle.std.proofs.Math.ListN.{drop_of_length-le}
use Rattle.gob_types.specs.declared.id.TypeId.{TypeId}
use Rattle.gob_stream.proofs.DenialLaws.{denial_weaker}
use Rattle.gob_stream.proofs.FaultSteps.{passed}
use Rattle.gob_stream.proofs.PublicLaws.{same_id}
use Rattle.gob_go_writer.proofs.SameSteps.{all_defined, as_many, defined_on, defined_there, no_definition_yet}
use Rattle.gob_go_writer.proofs.same.same_definitions.Goals as goal

pub returns-then-given-due-clause-refused : goal.returns-then-given-due-clause-refused
returns-then-given-due-clause-refused c = (
  refl,
  λ h.
      let same = as_many c.args.given.now c.args.due.now h.same in
      omega arith,
)

pub definitions-init : goal.definitions-init
definitions-init c = record { same = omega arith; so = no_definition_yet _ _ _ }

pub returns-then-one-other-clause-refused : goal.returns-then-one-other-clause-refused
returns-then-one-other-clause-refused c = (
  refl,
  λ h.
      let i = c.definitions.invariant in
      let n = defined_there c.args.given.now c.args.due.now c.definitions.place c.index-given-place.result
      c.index-due-place.result c.index-given-place.is c.index-due-place.is c.definitions-test.true i.same i.so h in
      c.if-one-other.true (ap (λ (t : TypeId). t.0) n.id),
)

pub returns-in_err-same_description-clause-refused : goal.returns-in_err-same_description-clause-refused
returns-in_err-same_description-clause-refused c =
    passed c.from_residual.result _ c.from_residual.ensures.1
    (denial_weaker c.in_err-same_description.field-0.0 (λ r unfit. (
      unfit.0,
      λ h.
          let i = c.definitions.invariant in
          let n = defined_there c.args.given.now c.args.due.now c.definitions.place c.index-given-place.result
          c.index-due-place.result c.index-given-place.is c.index-due-place.is c.definitions-test.true i.same i.so h in
          unfit.1 n.described,
    )) c.in_err-same_description.ensures.refused)

pub definitions-preserved : goal.definitions-preserved
definitions-preserved c =
    let i = c.definitions.invariant in
    record {
      same = i.same;
      so = defined_on c.args.given.now c.args.due.now c.definitions.place c.index-given-place.result
          c.index-due-place.result c.index-given-place.is c.index-due-place.is c.definitions-test.true i.same
          (same_id c.if-one-other.false) c.in_ok-same_description.ensures.ok i.so;
    }

pub returns-clause-ok : goal.returns-clause-ok
returns-clause-ok c =
    let same = c.definitions.invariant.same in
    all_defined (drop_of_length-le c.args.given.now c.definitions-test.false)
    (drop_of_length-le c.args.due.now (omega arith)) c.definitions.invariant.so
