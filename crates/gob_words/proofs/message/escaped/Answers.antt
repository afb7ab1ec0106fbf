-- A character is read and written in each turn, and at the end there is none left.
use Rattle.std.proofs.Common.{◌∙◌, sym, string_bytes}
use Rattle.std.proofs.lemmas.Iterator.{YieldsList-from_chars}
use Rattle.std.proofs.lemmas.Iterator.Consumers.{YieldsList-end}
use Rattle.std.proofs.lemmas.List.{map-id}
use Rattle.std.proofs.lemmas.Str.{IsUtf8-string_bytes}
use Rattle.gob_words.proofs.EscapedLaws.{escapes_more, line_is_escaped, line_is_unobeyed, line_is_unchanged}
use Rattle.gob_words.proofs.message.escaped.Goals as goal

pub loop-character-preserved : goal.loop-character-preserved
loop-character-preserved c =
    escapes_more c.loop-character.yielded c.in-Some.character _ _ c.loop-character.invariant
    c.in_ok-push_escaped.ensures

pub returns : goal.returns
returns c =
    let text = c.args.text.now in
    let line = string_bytes c.loop-character.line in
    let of_line = IsUtf8-string_bytes c.loop-character.line in
    let all = YieldsList-end (YieldsList-from_chars text c.utf8.text cc) c.loop-character.yielded _
    c.loop-character.yielded_by _ _ c.in-None.is c.next.ensures.steps in
    let escaped = line_is_escaped text line c.loop-character.yielded of_line
    (sym (map-id c.loop-character.yielded) ∙ all.0) c.loop-character.invariant in
    record {
      characters = escaped;
      unobeyed = line_is_unobeyed text line escaped;
      unchanged = line_is_unchanged text line c.utf8.text of_line escaped;
    }
