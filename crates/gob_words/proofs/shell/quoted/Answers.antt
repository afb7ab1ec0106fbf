-- What a terminal obeys is escaped first, and what is left is quoted.
use Rattle.std.proofs.Common.{rules, ◌∙◌, List, ℕ, sym, subst, string_bytes}
use Rattle.std.specs.Result.{IfOk}
use Rattle.std.specs.Str.{chars}
use Rattle.gob_words.specs.Escaped.{IsUnobeyed}
use Rattle.gob_words.specs.Shell.{ArePlain, IsShellWord}
use Rattle.gob_words.proofs.ShellLaws.{plain_word}
use Rattle.gob_words.proofs.shell.quoted.Goals as goal

pub returns-then-is_plain_word : goal.returns-then-is_plain_word
returns-then-is_plain_word c =
    let shown = string_bytes c.in_ok-shown.shown in
    let plain = subst (λ (t : List ℕ). ArePlain t) c.as_str.ensures.value (c.is_plain_word.ensures (search rules)) in
    record {
      word = λ h. subst (λ (t : List ℕ). IsShellWord (chars shown) (chars t)) (c.in_ok-shown.ensures.unchanged h)
          (plain_word shown plain);
      unobeyed = c.in_ok-shown.ensures.unobeyed;
    }

pub returns : goal.returns
returns c = record {
  word = λ h. subst (λ (t : List ℕ). IfOk c.between_quotes.result (λ word. IsShellWord (chars (string_bytes word))
      (chars t))) (c.as_str-2.ensures.value ∙ c.in_ok-shown.ensures.unchanged h) c.between_quotes.ensures.word;
  unobeyed = c.between_quotes.ensures.unobeyed
      (subst (λ (t : List ℕ). IsUnobeyed t) (sym c.as_str-2.ensures.value) c.in_ok-shown.ensures.unobeyed);
}
