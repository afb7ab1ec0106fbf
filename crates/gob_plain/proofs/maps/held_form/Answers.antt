-- By the texts, where each key is one.
use Rattle.std.proofs.Common.{◌∙◌, map, ap, sym, subst}
use Rattle.std.specs.Prelude.{option_map, string_bytes}
use Rattle.gob_plain.specs.Plain.{all_differ}
use Rattle.gob_plain.specs.Machine.Naming.{TextsFit}
use Rattle.gob_plain.proofs.FormLaws.{texts_alike, texts_differ, texts_none}
use Rattle.gob_plain.proofs.maps.held_form.Goals as goal

pub returns-in_default : goal.returns-in_default
returns-in_default g c = λ style T k e ps h.
    texts_none (g.N.NilTexts.says c.args.nils.now) style T k e ps
    (subst
    (λ o. TextsFit (option_map (λ found. map string_bytes found.items) o) (g.N.NilTexts.says c.args.nils.now) style T
    k e ps)
    c.in_default.is (c.in_ok-texts.ensures style T k e ps h))

pub returns-then-branch : goal.returns-then-branch
returns-then-branch g c = λ style T k e ps h.
    texts_differ (map string_bytes c.in-Some.texts.items) (g.N.NilTexts.says c.args.nils.now) style T k e ps
    (subst
    (λ o. TextsFit (option_map (λ found. map string_bytes found.items) o) (g.N.NilTexts.says c.args.nils.now) style T
    k e ps)
    c.in-Some.is (c.in_ok-texts.ensures style T k e ps h))
    (ap (λ l. all_differ (map string_bytes l)) (sym c.deref.ensures.value) ∙ sym c.in_ok-all_differ.ensures
    ∙ c.if-branch.true)

pub returns : goal.returns
returns g c = λ style T k e ps h.
    texts_alike (map string_bytes c.in-Some.texts.items) (g.N.NilTexts.says c.args.nils.now) style T k e ps
    (subst
    (λ o. TextsFit (option_map (λ found. map string_bytes found.items) o) (g.N.NilTexts.says c.args.nils.now) style T
    k e ps)
    c.in-Some.is (c.in_ok-texts.ensures style T k e ps h))
    (ap (λ l. all_differ (map string_bytes l)) (sym c.deref.ensures.value) ∙ sym c.in_ok-all_differ.ensures
    ∙ c.if-branch.false)
