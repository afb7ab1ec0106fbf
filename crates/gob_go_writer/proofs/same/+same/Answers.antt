use Rattle.std.proofs.Common.{ap, arith, ◌∙◌, refl, sym}
use Rattle.std.proofs.Math.ListN.{drop_of_length-le}
use Rattle.gob_stream.proofs.DenialLaws.{denial_weaker}
use Rattle.gob_stream.proofs.FaultSteps.{passed}
use Rattle.gob_stream.proofs.PublicLaws.{same_id}
use Rattle.gob_go.specs.Meaning.{definitions_of}
use Rattle.gob_go.specs.declared.filled.Filled.{out-Filled}
use Rattle.gob_go_writer.proofs.SameSteps.{alike_there, all_filled, as_many_fillings, filled_as, filled_on, fills_as}
use Rattle.gob_go_writer.proofs.SameSteps.{no_filling_yet, one_alike, value_alike}
use Rattle.gob_go_writer.proofs.same.+same.Goals as goal

-- ---- values

pub same_value-returns-then-not-same_bytes-clause-refused : goal.same_value-returns-then-not-same_bytes-clause-refused
same_value-returns-then-not-same_bytes-clause-refused t c = (
  refl,
  λ h.
      let a = value_alike h in
      let many = as_many_fillings a.fillings in
      let given = (out-Filled c.args.given.now).fillings.ok.0 in
      let due = (out-Filled c.args.due.now).fillings.ok.0 in
      elim c.then-not-same_bytes.branch [
        | goal.same_value-then-not-same_bytes-via-then-not-same_bytes w ↦
            rw w.if-not-same_bytes.true at c.same_bytes.ensures
            (c.deref.ensures.value ∙ a.skeleton ∙ sym c.deref-2.ensures.value)
        | goal.same_value-then-not-same_bytes-via-else-not-same_bytes+then-len w ↦ omega (arith, many, given, due)
      ],
)

pub same_value-fillings-init : goal.same_value-fillings-init
same_value-fillings-init t c = record {
  same = omega (arith, (out-Filled c.args.given.now).fillings.ok.0, (out-Filled c.args.due.now).fillings.ok.0);
  so = no_filling_yet _ _ _;
}

pub same_value-returns-in_err-same_filling-clause-refused : goal.same_value-returns-in_err-same_filling-clause-refused
same_value-returns-in_err-same_filling-clause-refused t c =
    passed c.from_residual.result _ c.from_residual.ensures.1
    (denial_weaker c.in_err-same_filling.field-0.0 (λ r unfit. (
      unfit.0,
      λ h.
          let given = (out-Filled c.args.given.now).fillings in
          let due = (out-Filled c.args.due.now).fillings in
          let i = c.fillings.invariant in
          let fills = (value_alike h).fillings in
          unfit.1 (one_alike c.index.result.now c.index-in-fillings.result.now _ _
          (alike_there given.items due.items c.fillings.place c.index.result.now c.index-in-fillings.result.now
          c.index.ensures c.index-in-fillings.ensures (omega (arith, given.ok.0)) i.same i.so fills)),
    )) c.in_err-same_filling.ensures.refused)

pub same_value-fillings-preserved : goal.same_value-fillings-preserved
same_value-fillings-preserved t c =
    let given = (out-Filled c.args.given.now).fillings in
    let due = (out-Filled c.args.due.now).fillings in
    let i = c.fillings.invariant in
    record {
      same = i.same;
      so = filled_on given.items due.items c.fillings.place c.index.result.now c.index-in-fillings.result.now
          c.index.ensures c.index-in-fillings.ensures (omega (arith, given.ok.0)) i.same
          c.in_ok-same_filling.ensures.ok i.so;
    }

pub same_value-returns-clause-ok : goal.same_value-returns-clause-ok
same_value-returns-clause-ok t c =
    let given = (out-Filled c.args.given.now).fillings in
    let due = (out-Filled c.args.due.now).fillings in
    let i = c.fillings.invariant in
    let same = i.same in
    filled_as (sym c.deref.ensures.value ∙ c.if-not-same_bytes.ensures ∙ c.deref-2.ensures.value)
    (all_filled (drop_of_length-le given.items (omega (arith, given.ok.0)))
    (drop_of_length-le due.items (omega (arith, given.ok.0, same))) i.so)

-- ---- what fills a nil

pub same_filling-returns-clause-ok : goal.same_filling-returns-clause-ok
same_filling-returns-clause-ok t c =
    fills_as c.if-given-due.false (sym c.deref.ensures.value ∙ c.if-not-same_bytes.ensures
    ∙ c.deref-else-given-due-2.ensures.value) (same_id c.if-given-due-2.false)
    (ap definitions_of (sym c.deref-2.ensures.value) ∙ c.in_ok-same_definitions.ensures.ok
    ∙ ap definitions_of c.deref-3.ensures.value) c.in_ok-same_value.ensures.ok
