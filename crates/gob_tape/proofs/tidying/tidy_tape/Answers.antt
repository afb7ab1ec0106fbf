use Rattle.std.proofs.Common.{◌≡◌, subst}
use Rattle.gob_value.specs.Tree.{Tree, depth}
use Rattle.gob_value.specs.Within.{FitsWithin}
use Rattle.gob_value.proofs.PublicLaws.{tidy_fits, tidy_form, no_deeper}
use Rattle.std.proofs.lemmas.Result.{IfOk-from_err}
use Rattle.gob_tape.specs.Meaning.{Means}
use Rattle.gob_tape.proofs.MeaningLaws.{at_one}
use Rattle.gob_tape.proofs.TidyingLaws.{tape_whole}
use Rattle.gob_tape.proofs.tidying.tidy_tape.Goals as goal

pub into_tape-requires : goal.into_tape-requires
into_tape-requires g c =
    let r = rw (← c.tape.view_is) at c.requires in
    let f = tidy_form r.fits.spelled in
    let told = c.in_ok-builder.ensures r.value f.tidy (rw
    (c.deref.ensures.value, c.deref-2.ensures.value) r.means.parts) f.tidies in
    let whole = tape_whole f.tidy told.stands in
    record { value = f.tidy; means = record { parts = whole.parts; deep = whole.deep } }

pub returns-clause-tidy : goal.returns-clause-tidy
returns-clause-tidy g c = rw (← c.tape.view_is) (λ v w m t.
    let told = c.in_ok-builder.ensures v w (rw (c.deref.ensures.value, c.deref-2.ensures.value) m.parts) t in
    let whole = tape_whole w told.stands in
    rw c.into_tape.ensures (record { parts = whole.parts; deep = whole.deep }))

pub returns-clause-fits : goal.returns-clause-fits
returns-clause-fits g c =
    let r = rw (← c.tape.view_is) at c.requires in
    let f = tidy_form r.fits.spelled in
    let told = c.in_ok-builder.ensures r.value f.tidy (rw
    (c.deref.ensures.value, c.deref-2.ensures.value) r.means.parts) f.tidies in
    rw (← c.tape.view_is, c.into_tape.ensures) (λ v w m n.
    let T = g.S.Shapes.table c.args.shapes.now in
    let t = c.args.id in
    let fits = tidy_fits r.fits.spelled f.tidies told.small in
    let tidied : f.tidy ≡ w = (at_one (tape_whole f.tidy told.stands).parts n.parts).value in
    let value : r.value ≡ v = (at_one r.means.parts m.parts).value in
    subst (λ (w : Tree). FitsWithin T t (depth v) w) tidied
    (subst (λ (v : Tree). FitsWithin T t (depth v) f.tidy) value (record {
      bytes = fits.bytes;
      spelled = fits.spelled;
      within = no_deeper f.tidies;
    })))

pub returns-in_err-builder-clause-tidy : goal.returns-in_err-builder-clause-tidy
returns-in_err-builder-clause-tidy g c = IfOk-from_err c.from_residual.result _ c.from_residual.ensures.0

pub returns-in_err-builder-clause-fits : goal.returns-in_err-builder-clause-fits
returns-in_err-builder-clause-fits g c = IfOk-from_err c.from_residual.result _ c.from_residual.ensures.0
