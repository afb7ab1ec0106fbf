-- A character is read and written in each turn, and at the end there is none left.
use Rattle.std.proofs.Common.{◌∙◌, sym, string_bytes, subst}
use Rattle.std.specs.Str.{NonePass, chars}
use Rattle.std.proofs.lemmas.Iterator.{YieldsList-from_chars}
use Rattle.std.proofs.lemmas.Iterator.Consumers.{YieldsList-end}
use Rattle.std.proofs.lemmas.List.{map-id}
use Rattle.std.proofs.lemmas.Str.{IsUtf8-string_bytes}
use Rattle.gob_words.specs.Escaped.{is_obeyed}
use Rattle.gob_words.specs.Shell.{IsShellWord}
use Rattle.gob_words.proofs.ShellLaws.{quotes_more, word_is_read, word_is_unobeyed}
use Rattle.gob_words.proofs.shell.between_quotes.Goals as goal

pub loop-character-preserved : goal.loop-character-preserved
loop-character-preserved c =
    quotes_more c.loop-character.yielded c.in-Some.character _ _ c.loop-character.invariant
    c.in_ok-push_quoted.ensures

pub returns : goal.returns
returns c =
    let text = c.args.text.now in
    let word = string_bytes c.push-2.new.self in
    let utf8 = IsUtf8-string_bytes c.push-2.new.self in
    let all = YieldsList-end (YieldsList-from_chars text c.utf8.text cc) c.loop-character.yielded _
    c.loop-character.yielded_by _ _ c.in-None.is c.next.ensures.steps in
    let read = sym (map-id c.loop-character.yielded) ∙ all.0 in
    let last = c.in_ok-push-2.ensures.bytes in
    record {
      word = subst (λ cs. IsShellWord (chars word) cs) read
          (word_is_read word _ c.loop-character.yielded utf8 c.loop-character.invariant last);
      unobeyed = λ h. word_is_unobeyed word _ c.loop-character.yielded utf8 c.loop-character.invariant last
          (subst (NonePass is_obeyed) (sym read) h);
    }
