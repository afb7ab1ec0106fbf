-- How a loop over fields looks for one.
use Rattle.std.proofs.Common.{◌≡◌, ℕ, ◌≤◌, ◌↔◌, IsTrue, Bool, true, false, arith, sym, List, length, Some}
use Rattle.std.proofs.Common.{true≢false, ◌∙◌}
use Rattle.std.specs.Prelude.{slice_get}
use Rattle.std.proofs.lemmas.Option.{slice_get_within}
use Rattle.gob_types.specs.declared.kind.Field.{Field}
use Rattle.gob_types.proofs.FirstLaws.{FirstAre}
use Rattle.gob_rename.specs.Fitting.{HasSuch}

pub has_such : {P : Field → Type 0} {fields : List Field} {answer : Bool}
    (number : ℕ) (field : Field) → slice_get fields number ≡ Some field → P field → answer ≡ true
    → IsTrue answer ↔ HasSuch P fields
has_such number field there holds e = (
  λ _. record { number = number; field = field; there = there; holds = holds },
  λ _. e,
)

pub has_none : {P : Field → Type 0} {fields : List Field} {answer : Bool} (number : ℕ)
    → FirstAre (λ field. ¬ P field) fields number → length fields ≤ number → answer ≡ false
    → IsTrue answer ↔ HasSuch P fields
has_none {fields = fields} number first all e = (
  λ t. absurd (true≢false (sym t ∙ e)),
  λ h.
      let within = slice_get_within fields h.number h.field h.there in
      absurd (first.each h.number h.field (omega (arith, within, all)) h.there h.holds),
)
