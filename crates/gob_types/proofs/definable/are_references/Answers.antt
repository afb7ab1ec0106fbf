use Rattle.std.proofs.Common.{length, refl, sym, subst, true≢false}
use Rattle.std.proofs.lemmas.Option.{slice_get_read}
use Rattle.gob_types.specs.Definable.{IsReference}
use Rattle.gob_types.proofs.FirstLaws.{none_first, more_first, all_first, contains_read}
use Rattle.gob_types.proofs.definable.are_references.Goals as goal

pub returns-then-not-is_reference : goal.returns-then-not-is_reference
returns-then-not-is_reference c =
    let fields = c.args.fields.now in
    let there = slice_get_read fields (length fields) c.loop-field.field-index c.field-item.result refl
    c.loop-field-test.true c.field-item.is in (
      λ no. absurd (true≢false (sym no)),
      λ each. c.if-not-is_reference.ensures.1
          (each _ (record {
            number = c.loop-field.field-index;
            field = c.field-item.result;
            there = there;
            type =
                refl;
          })),
    )

pub returns : goal.returns
returns c = (
  λ _ u h. subst IsReference h.type (all_first c.loop-field.invariant c.loop-field-test.false
      (contains_read _ _ _ h.there)),
  λ _. refl,
)

pub loop-field-init : goal.loop-field-init
loop-field-init c = none_first

pub loop-field-preserved : goal.loop-field-preserved
loop-field-preserved c = more_first c.loop-field.invariant (slice_get_read c.args.fields.now (length c.args.fields.now)
    c.loop-field.field-index c.field-item.result refl c.loop-field-test.true c.field-item.is)
    (c.if-not-is_reference.ensures.0 refl)
