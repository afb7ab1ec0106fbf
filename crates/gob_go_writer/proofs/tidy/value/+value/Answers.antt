use Rattle.std.proofs.Common.{◌≡◌, ◌∙◌, ap, arith, refl, subst, sym, Some}
use Rattle.std.proofs.lemmas.List.{with_items_is}
use Rattle.std.proofs.lemmas.Option.{slice_get-get_or}
use Rattle.std.specs.Prelude.{slice_get}
use Rattle.std.proofs.lemmas.Result.{on_ok_weaker}
use Rattle.gob_types.specs.Defined.{types}
use Rattle.gob_go.specs.declared.filled.Filled.{out-Filled, out-roll-Filled}
use Rattle.gob_go.specs.declared.filled.Filling.{Filling}
use Rattle.gob_go_writer.specs.Machine.Tidied.{IsFillingTidied}
use Rattle.gob_go_writer.proofs.EachLaws.{all_hold, next_holds, unvisited_on}
use Rattle.gob_go_writer.proofs.TidiedLaws.{value_becomes}
use Rattle.gob_go_writer.proofs.tidy.value.+value.Goals as goal

pub tidy_value-returns : goal.tidy_value-returns
tidy_value-returns t c = on_ok_weaker c.tidy_fillings.result
    (λ a. value_becomes c.in_ok-bytes.field-0 c.deref.ensures.value c.deref-2.ensures.value c.deref-3.ensures.value
    (simp (out-roll-Filled) at c.deref_mut.ensures.value) c.in_ok-bytes.ensures a (simp (out-roll-Filled) refl)
    (simp (out-roll-Filled) (with_items_is (out-Filled c.args.value.now).fillings c.tidy_fillings.new.fillings
    (a.all ∙ simp (out-roll-Filled) at c.deref_mut.ensures.len)))) c.tidy_fillings.ensures

pub tidy_fillings-returns : goal.tidy_fillings-returns
tidy_fillings-returns t c = all_hold c.args.fillings.now c.fillings.fillings c.fillings.i c.fillings.auto.fillings
    c.fillings-test.false c.fillings.invariant.tidied

pub tidy_fillings-fillings-preserved : goal.tidy_fillings-fillings-preserved
tidy_fillings-fillings-preserved t c =
    let stays = c.fillings.invariant.unvisited in
    let same = c.fillings.auto.fillings in
    let old = c.index-fillings-i.result in
    let look = c.in-Some.ensures.lookup in
    let at : slice_get c.args.places.now c.fillings.i ≡ Some c.in-Some.place.now =
    slice_get-get_or c.args.places.now c.fillings.i 0 look.3.0 ∙ ap Some (sym (look.4 (omega arith) 0)) in
    record {
      unvisited = unvisited_on c.args.fillings.now c.fillings.fillings c.fillings.i c.tidy_filling.new.filling same
          stays.1;
      tidied = next_holds c.args.fillings.now c.fillings.fillings c.fillings.i old c.tidy_filling.new.filling same
          (omega arith) c.index-fillings-i.is (stays.1 c.fillings.i old (omega arith)) (record {
            place = c.in-Some.place.now;
            there = at;
            tidied = subst (λ (f : Filling). IsFillingTidied (types c.args.table.now) c.in-Some.place.now f
                c.tidy_filling.new.filling) (sym c.index-fillings-i.is) c.in_ok-tidy_filling.ensures;
          }) c.fillings.invariant.tidied;
    }
