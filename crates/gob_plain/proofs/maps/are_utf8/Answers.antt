-- Key by key.
use Rattle.std.proofs.Common.{◌∙◌, refl, sym}
use Rattle.gob_json_writer.proofs.TapeLaws.{next_is}
use Rattle.gob_plain.proofs.FormLaws.{utf8_bad, utf8_end, utf8_on}
use Rattle.gob_plain.proofs.maps.are_utf8.Goals as goal

pub returns-then-not-is_utf8 : goal.returns-then-not-is_utf8
returns-then-not-is_utf8 c ps h =
    utf8_bad (c.keys.invariant.left ps h) (next_is c.next.ensures.steps c.in-Some.is)
    (λ x s. sym (c.is_utf8.ensures x s) ∙ c.if-not-is_utf8.true)

pub keys-preserved : goal.keys-preserved
keys-preserved c = record {
  next = tt;
  finite = tt;
  left = λ ps h. utf8_on (c.keys.invariant.left ps h) (next_is c.next.ensures.steps c.in-Some.is)
      (next_is c.next-element.ensures.steps refl) (λ x s. sym (c.is_utf8.ensures x s) ∙ c.if-not-is_utf8.false);
}

pub returns : goal.returns
returns c ps h = utf8_end (c.keys.invariant.left ps h) (next_is c.next.ensures.steps c.in_default.is)
