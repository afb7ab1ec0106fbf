-- An empty array.
use Rattle.std.proofs.Common.{◌≡◌, [], ◌∷◌, List, ap, refl, subst, sym}
use Rattle.json.specs.Json as json
use Rattle.json.specs.Token.{Token}
use Rattle.gob_plain.specs.AbsentFields.{SaysZero}
use Rattle.gob_plain.specs.WritesPlain.{AreTokensOf}
use Rattle.gob_plain.proofs.SomeLaws.{some_of, some_behind, one_written}
use Rattle.gob_plain.proofs.zeros.write_zero_value.Goals as goal

pub returns-in_ok-begin_array-in-Many : goal.returns-in_ok-begin_array-in-Many
returns-in_ok-begin_array-in-Many c =
    some_behind {R = AreTokensOf (SaysZero c.args.kind)} (one_written c.in_ok-begin_array-in-Many.ensures)
    (some_of {P = λ ts. ts ≡ Token.end_array ∷ []} (one_written c.end_array.ensures) refl)
    (λ ys e. (
      json.array json.no_items,
      subst (λ k. SaysZero k (json.array json.no_items)) (sym c.in-Many.is) refl,
      ap (λ (l : List Token). Token.begin_array ∷ l) e,
    ))
