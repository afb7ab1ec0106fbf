use Rattle.std.proofs.Common.{arith, length, refl, sym, ◌∙◌, true≢false}
use Rattle.std.proofs.lemmas.Option.{slice_get_read, slice_get_within}
use Rattle.std.proofs.lemmas.Slice.Eq.{bytes_eq-Decides}
use Rattle.gob_types.proofs.FirstLaws.{none_first, more_first}
use Rattle.gob_convert.proofs.clashing.type_named.Goals as goal

pub loop-field-init : goal.loop-field-init
loop-field-init c = none_first

pub loop-field-preserved : goal.loop-field-preserved
loop-field-preserved c = more_first c.loop-field.invariant (slice_get_read c.args.fields.now (length c.args.fields.now)
    c.loop-field.field-index c.field-item.result refl c.loop-field-test.true c.field-item.is)
    (λ same. true≢false (sym ((bytes_eq-Decides c.as_bytes.result.now c.args.name.now).1 (c.as_bytes.ensures ∙ same))
    ∙ sym c.eq.ensures ∙ c.if-eq.false))

pub returns : goal.returns
returns c = λ h. c.loop-field.invariant.each h.number h.field
    (omega (arith, slice_get_within c.args.fields.now h.number h.field h.there, c.loop-field-test.false)) h.there
    h.named

pub returns-then-eq : goal.returns-then-eq
returns-then-eq c = record {
  number = c.loop-field.field-index;
  field = c.field-item.result;
  there = slice_get_read c.args.fields.now (length c.args.fields.now)
      c.loop-field.field-index c.field-item.result refl c.loop-field-test.true c.field-item.is;
  named = sym c.as_bytes.ensures ∙ (bytes_eq-Decides c.as_bytes.result.now c.args.name.now).0
      (sym c.eq.ensures ∙ c.if-eq.true);
  typed = refl;
}
