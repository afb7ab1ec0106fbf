-- The line is made of the name as it is shown and as it is typed.
use Rattle.std.proofs.Common.{string_bytes}
use Rattle.std.proofs.lemmas.Result.{IfOk-weaker}
use Rattle.gob.proofs.way_on.way_on.Goals as goal

pub returns : goal.returns
returns c =
    let made = rw (c.as_str.ensures.value, c.as_str-2.ensures.value, c.end_of_options.ensures) at c.joined.ensures in
    IfOk-weaker c.joined.result _ _ (λ line is. record {
      shown = string_bytes c.in_ok-shown.shown;
      shown_is = c.in_ok-shown.ensures.characters;
      word = string_bytes c.in_ok-word.word;
      is_word = c.in_ok-word.ensures.word;
      unobeyed = c.in_ok-word.ensures.unobeyed;
      line_is = is;
    }) made
