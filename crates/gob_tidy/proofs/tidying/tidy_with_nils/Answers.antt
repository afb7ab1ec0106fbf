use Rattle.std.proofs.Common.{◌∙◌, subst, sym}
use Rattle.gob_types.proofs.PublicLaws.{some_injective}
use Rattle.gob_tidy.specs.SameNil.{IsSameNil}
use Rattle.gob_tidy.proofs.tidying.tidy_with_nils.Goals as goal

pub returns-then-len-nils : goal.returns-then-len-nils
returns-then-len-nils g c =
    let moved = c.tidy_form-found.new.form in
    let form = c.in_ok-found.ensures c.if-branch.true in
    record {
      whole = form.whole;
      all = sym moved.places.ok.0 ∙ (sym c.len.ensures ∙ c.if-len-nils.true);
      each = λ i p q asked there.
          let found = form.each i q there in
          subst
          (λ place. IsSameNil (g.S.Shapes.table c.args.shapes.now) c.args.id c.args.body.now moved.bytes.items place q)
          (some_injective (sym found.1 ∙ asked)) found.2;
    }
