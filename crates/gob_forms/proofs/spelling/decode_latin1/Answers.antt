-- The characters, one by one, or one that is no byte.
use Rattle.std.proofs.Common.{◌≡◌, None, sym, subst, ap, ◌∙◌, ◌++◌, ◌∷◌, [], arith}
use Rattle.std.specs.Str.{IsUtf8}
use Rattle.std.specs.declared.str.Chars.{Chars}
use Rattle.gob_forms.proofs.SpellingLaws.{AreFirst, all_kept, none_yet, not_utf8, one_more, too_large}
use Rattle.gob_forms.specs.Spellings.{of_characters, without_cut}
use Rattle.gob_forms.proofs.spelling.decode_latin1.Goals as goal

pub returns-in_default : goal.returns-in_default
returns-in_default c = subst (λ t. of_characters t ≡ None) c.without_cut.ensures
    (not_utf8 c.without_cut.result.now c.in_default.ensures.cases.0)

pub loop-character-init : goal.loop-character-init
loop-character-init c = none_yet c.in_ok-bytes.ensures.items
    (ap (λ (i : Chars). i.rest.now) c.into_iter-character-iterator.ensures.into_iter_gives
    ∙ c.chars-character-items.ensures.rest ∙ c.in-Ok.ensures.cases.0 ∙ c.without_cut.ensures)
    (subst IsUtf8 c.without_cut.ensures c.in-Ok.ensures.cases.1)

pub loop-character-preserved : goal.loop-character-preserved
loop-character-preserved c = subst (λ x. AreFirst (without_cut c.args.text.now) x c.next.new.self.rest.now)
    (ap (λ b. c.loop-character.bytes.items ++ b ∷ []) (sym c.from.ensures ∙ sym c.in-Ok-try_from.ensures.1)
    ∙ sym c.in_ok-push-in-Ok-try_from.ensures.items)
    (one_more c.next.new.self.rest.now c.in-Some.character c.loop-character.invariant c.in-Some.ensures.steps.0
    (let few = c.in-Ok-try_from.ensures.0 in let same = c.from.ensures in omega arith))

pub returns-in-Err : goal.returns-in-Err
returns-in-Err c = too_large c.next.new.self.rest.now c.in-Some.character
    (subst IsUtf8 c.without_cut.ensures c.in-Ok.ensures.cases.1) c.loop-character.invariant
    c.in-Some.ensures.steps.0 (λ few. let same = c.from.ensures in c.in-Err.ensures (omega arith))

pub returns : goal.returns
returns c = all_kept (subst IsUtf8 c.without_cut.ensures c.in-Ok.ensures.cases.1) c.loop-character.invariant
    c.in-None.ensures.steps.0.0
