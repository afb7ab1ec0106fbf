-- Entry by entry.
use Rattle.std.proofs.Common.{◌∙◌, map, ap, sym, subst}
use Rattle.std.specs.Prelude.{option_map, string_bytes}
use Rattle.gob_json_writer.proofs.TapeLaws.{next_is}
use Rattle.gob_plain.specs.Machine.Naming.{TextFits}
use Rattle.gob_plain.proofs.FormLaws.{TextsSeen, map_push, seen_begun, seen_end, seen_none, seen_odd, seen_on}
use Rattle.gob_plain.proofs.maps.key_texts.Goals as goal

pub keys-init : goal.keys-init
keys-init g c = record {
  next = tt;
  finite = tt;
  left = λ style T k e ps h.
      subst (TextsSeen (g.N.NilTexts.says c.args.nils.now) style T k e ps c.args.parts 0)
      (sym (ap (map string_bytes) c.new-texts.ensures.items))
      (seen_begun (g.N.NilTexts.says c.args.nils.now) style T k e ps h);
}

pub returns-in_default-next : goal.returns-in_default-next
returns-in_default-next g c = λ style T k e ps h.
    absurd (seen_odd (c.keys.invariant.left style T k e ps h) (next_is c.next.ensures.steps c.in-Some.is)
    (next_is c.next-in-Some.ensures.steps c.in_default-next.is))

pub returns-in_default-2 : goal.returns-in_default-2
returns-in_default-2 g c = λ style T k e ps h.
    seen_none (c.keys.invariant.left style T k e ps h) (next_is c.next.ensures.steps c.in-Some.is)
    (next_is c.next-in-Some.ensures.steps c.in-Some-next.is)
    (λ x v s t. subst (λ o. TextFits (option_map string_bytes o) (g.N.NilTexts.says c.args.nils.now c.keys.ahead) x v)
    c.in_default-2.is (c.in_ok-text.ensures x v s t))

pub keys-preserved : goal.keys-preserved
keys-preserved g c = record {
  next = tt;
  finite = tt;
  left = λ style T k e ps h.
      subst (TextsSeen (g.N.NilTexts.says c.args.nils.now) style T k e ps c.next-in-Some.new.self c.in_ok-ahead.ahead)
      (sym (ap (map string_bytes) c.in_ok-push.ensures.items
      ∙ map_push string_bytes c.keys.texts.items c.in-Some-2.text))
      (seen_on (string_bytes c.in-Some-2.text) c.in_ok-ahead.ahead (c.keys.invariant.left style T k e ps h)
      (next_is c.next.ensures.steps c.in-Some.is)
      (next_is c.next-in-Some.ensures.steps c.in-Some-next.is)
      (λ x v s t. subst (λ o. TextFits (option_map string_bytes o) (g.N.NilTexts.says c.args.nils.now c.keys.ahead) x v)
      c.in-Some-2.is (c.in_ok-text.ensures x v s t))
      (λ v t. c.in_ok-ahead.ensures v t));
}

pub returns : goal.returns
returns g c = λ style T k e ps h.
    seen_end (c.keys.invariant.left style T k e ps h) (next_is c.next.ensures.steps c.in_default.is)
