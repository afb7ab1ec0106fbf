use Rattle.std.proofs.Common.{List, [], ◌++◌, ◌-◌, length, take, drop, refl, sym, ap, ◌∙◌, subst, arith}
use Rattle.std.proofs.Math.ListN.{drop_of_length-le}
use Rattle.gob_stream.proofs.DenialLaws.{denial_weaker}
use Rattle.gob_stream.proofs.FaultSteps.{passed}
use Rattle.gob_stream.proofs.Reader.NumberSteps.{slice_rest}
use Rattle.gob_types.specs.Defined.{types}
use Rattle.gob_go.specs.declared.filled.Definition.{Definition}
use Rattle.gob_go.specs.declared.filled.Filled.{out-Filled}
use Rattle.gob_go.specs.declared.filled.Filling.{out-Filling}
use Rattle.gob_go_writer.specs.Spelling.{SpellDefinitions, SpellsName, fills}
use Rattle.gob_go_writer.proofs.LetterLaws.{takes_then, takes_as, puts}
use Rattle.gob_go_writer.proofs.PartSteps.{filled_from, filling_left, filling_parts, first_filled, going_begins}
use Rattle.gob_go_writer.proofs.PartSteps.{going_on, going_ends, no_filling_left, type_number}
use Rattle.gob_go_writer.proofs.value.+value.Goals as goal

-- ---- a value

pub put_value-loop-filling-init : goal.put_value-loop-filling-init
put_value-loop-filling-init t c = record { within = omega arith; going = going_begins _ }

pub put_value-returns-then-filling-done-clause-refused : goal.put_value-returns-then-filling-done-clause-refused
put_value-returns-then-filling-done-clause-refused t c = (
  refl,
  λ s.
      let left = filling_left c.filling-item.result c.deref-filling-items.ensures.value c.filling-item.is
      c.loop-filling-test.true in
      let n = first_filled left (c.loop-filling.invariant.going.left s) in
      let low = n.low in
      let high = n.high in
      let len = (out-Filled c.args.value.now).skeleton.ok.0 in
      elim c.then-filling-done.branch [
        | goal.put_value-then-filling-done-via-then-filling-done w ↦ omega (arith, low)
        | goal.put_value-then-filling-done-via-else-filling-done+then-filling-len w ↦ omega (arith, high, len)
      ],
)

pub put_value-returns-in_err-put_filling-clause-refused : goal.put_value-returns-in_err-put_filling-clause-refused
put_value-returns-in_err-put_filling-clause-refused t c =
    passed c.from_residual-in_err-put_filling.result _ c.from_residual-in_err-put_filling.ensures.1
    (denial_weaker c.in_err-put_filling.field-0.0 (λ r unfit. (
      unfit.0,
      λ s.
          let left = filling_left c.filling-item.result c.deref-filling-items.ensures.value c.filling-item.is
          c.loop-filling-test.true in
          unfit.1 (first_filled left (c.loop-filling.invariant.going.left s)).first,
    )) c.in_err-put_filling.ensures.refused)

pub put_value-loop-filling-preserved : goal.put_value-loop-filling-preserved
put_value-loop-filling-preserved t c =
    let len = (out-Filled c.args.value.now).skeleton.ok.0 in
    let skeleton = (out-Filled c.args.value.now).skeleton.items in
    let left = filling_left c.filling-item.result c.deref-filling-items.ensures.value c.filling-item.is
    c.loop-filling-test.true in
    let place = (out-Filling c.filling-item.result).place in
    let done = c.loop-filling.done in
    let held = c.in_ok-put_filling.ensures.ok in
    record {
      within = omega (arith, len);
      going = going_on c.loop-filling.invariant.going (take (place - done) (drop done skeleton) ++ held.letters)
          (takes_then (takes_as (ap (λ s. take (place - done) (drop done s)) c.deref.ensures.value)
          c.in_ok-put.ensures) held.takes)
          (filled_from left (omega arith) (omega (arith, len)) held.spelled)
          (λ s. (first_filled left s).others);
    }

pub put_value-returns-clause-ok : goal.put_value-returns-clause-ok
put_value-returns-clause-ok t c =
    let skeleton = (out-Filled c.args.value.now).skeleton.items in
    let done = c.loop-filling.done in
    going_ends c.loop-filling.invariant.going (drop done skeleton)
    (takes_as (ap (λ s. take (length s - done) (drop done s)) c.deref-2.ensures.value ∙ slice_rest skeleton done)
    c.in_ok-put-2.ensures)
    (no_filling_left c.loop-filling.filling-index c.deref-filling-items.ensures.value
    (drop_of_length-le c.deref-filling-items.result.now c.loop-filling-test.false))

-- ---- what fills a nil

pub put_filling-returns-in_err-put_definitions-clause-refused :
    goal.put_filling-returns-in_err-put_definitions-clause-refused
put_filling-returns-in_err-put_definitions-clause-refused t c =
    passed c.from_residual-in_err-put_definitions.result _ c.from_residual-in_err-put_definitions.ensures.1
    (denial_weaker c.in_err-put_definitions.field-0.0 (λ r unfit. (
      unfit.0,
      λ s.
          let d = (filling_parts s).definitions in
          unfit.1 (record {
            bytes = d.bytes;
            spelled = subst (λ (ds : List Definition). SpellDefinitions (types c.args.table.now) ds d.bytes)
                (sym c.deref-2.ensures.value) d.spelled;
          }),
    )) c.in_err-put_definitions.ensures.refused)

pub put_filling-returns-then-not-has_number-clause-refused :
    goal.put_filling-returns-then-not-has_number-clause-refused
put_filling-returns-then-not-has_number-clause-refused t c =
    (refl, λ s. c.if-not-has_number.ensures (filling_parts s).small)

pub put_filling-returns-in_err-put_value-clause-refused : goal.put_filling-returns-in_err-put_value-clause-refused
put_filling-returns-in_err-put_value-clause-refused t c =
    passed c.from_residual-in_err-put_value.result _ c.from_residual-in_err-put_value.ensures.1
    (denial_weaker c.in_err-put_value.field-0.0 (λ r unfit. (unfit.0, λ s. unfit.1 (filling_parts s).held))
    c.in_err-put_value.ensures.refused)

pub put_filling-returns-clause-ok : goal.put_filling-returns-clause-ok
put_filling-returns-clause-ok t c =
    let name = c.in_ok-put_name.ensures in
    let ds = c.in_ok-put_definitions.ensures.ok in
    let n = c.in_ok-put_int.ensures in
    let v = c.in_ok-put_value.ensures.ok in
    let held = c.in_ok-append_to.ensures.ok v.letters (v.takes.behind [] c.new-held.ensures) in
    record {
      letters = name.letters ++ (ds.letters ++ (n.letters ++ held.bytes));
      spelled = fills (subst (λ s. SpellsName s name.letters) c.deref.ensures.value name.spelled)
          (subst (λ (l : List Definition). SpellDefinitions (types c.args.table.now) l ds.letters)
          c.deref-2.ensures.value ds.spelled) (type_number c.if-not-has_number.ensures n.spelled) v.spelled
          held.spelled;
      takes = takes_then name.takes (takes_then ds.takes (takes_then n.takes (puts refl held.appended)));
    }
