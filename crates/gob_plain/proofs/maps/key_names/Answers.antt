-- Key by key.
use Rattle.std.proofs.Common.{◌∙◌, map, ap, refl, sym, subst}
use Rattle.std.specs.Prelude.{string_bytes}
use Rattle.gob_json_writer.proofs.TapeLaws.{next_is}
use Rattle.gob_plain.proofs.FormLaws.{NamesLeft, names_end, names_on, map_push}
use Rattle.gob_plain.proofs.maps.key_names.Goals as goal

pub keys-preserved : goal.keys-preserved
keys-preserved c = record {
  next = tt;
  finite = tt;
  left = λ ps h.
      subst (NamesLeft ps c.next-element.new.self)
      (sym (ap (map string_bytes) c.in_ok-push.ensures.items
      ∙ map_push string_bytes c.keys.names.items c.in_ok-name.name))
      (names_on (c.keys.invariant.left ps h) (next_is c.next.ensures.steps c.in-Some.is)
      (next_is c.next-element.ensures.steps refl) (λ x s. c.in_ok-name.ensures x s));
}

pub returns : goal.returns
returns c ps h = names_end (c.keys.invariant.left ps h) (next_is c.next.ensures.steps c.in_default.is)
