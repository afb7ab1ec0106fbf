-- Digits are ASCII: bytes that are no text are the decimal form of no number.
use Rattle.std.proofs.Common.{◌≡◌, ◌∙◌, sym, subst, Result, Ok, Err, None}
use Rattle.std.proofs.lemmas.Fmt.{IsAscii-decimal}
use Rattle.std.proofs.lemmas.Str.{IsUtf8-from_ascii}
use Rattle.std.specs.Prelude.{decimal, MatchResult}
use Rattle.std.specs.Result.{result_ok}
use Rattle.std.specs.Str.{IsUtf8}
use Rattle.gob_go_source.proofs.number.number_of.Goals as goal

of_error : {A E : Type 0} (Q : Type 0) (P : A → Type 0) (R : E → Type 0) (r : Result A E) → None ≡ result_ok r
    → MatchResult r P (λ e. Q × R e) → Q
of_error Q P R (Ok x) e m = cc
of_error Q P R (Err x) e m = m.0

pub returns-in_err-digits : goal.returns-in_err-digits
returns-in_err-digits c =
    let no_text = of_error (IsUtf8 c.args.text.now → ⊥) _ _ c.from_utf8.result
    (sym c.in_err-digits.was ∙ c.ok.ensures.value) c.from_utf8.ensures.cases in
    rw c.from_residual.ensures
    (λ n small e. no_text (subst IsUtf8 e (IsUtf8-from_ascii (decimal n) (IsAscii-decimal n small))))
