-- What a call answers behind a fault, where an array ends, and which field a number names.
use Rattle.std.proofs.Common.{◌≡◌, ◌∙◌, ℕ, List, ◌∷◌, None, Some, Result, Ok, Err, ap, sym, subst, arith}
use Rattle.std.specs.Prelude.{IsErrAnd, slice_get}
use Rattle.json.specs.Token.{Token}
use Rattle.json.specs.Json.{after_end_array}
use Rattle.gob_types.specs.declared.kind.Field.{Field}
use Rattle.gob_types.proofs.PublicLaws.{some_injective}
use Rattle.gob_lines.specs.Complete.{ReadsIt}
use Rattle.gob_lines.specs.Reads.{IsWrong}
use Rattle.gob_lines.specs.declared.fault.LineFault.{LineFault}

pub fault_reads : {A B : Type 0} (f : A → B) (r : Result A LineFault) (e : LineFault) (new : List Token) (b : B)
    (rest : List Token) → IsErrAnd r (λ x. x ≡ e) → ¬ IsWrong e → ReadsIt f r new b rest
fault_reads f (Ok a) e new b rest is h = absurd is
fault_reads f (Err x) e new b rest is h = λ w. h (subst (λ (y : LineFault). IsWrong y) is w)

pub no_end_there : {now rest : List Token} → now ≡ Token.end_array ∷ rest → after_end_array now ≡ None → ⊥
no_end_there h n = let both = sym n ∙ ap after_end_array h in grind (arith, both)

pub field_known : (types : List Field) {k n : ℕ} {f e : Field} → k ≡ n → slice_get types k ≡ Some f
    → slice_get types n ≡ Some e → f ≡ e
field_known types same found there =
    some_injective (sym found ∙ ap (λ (i : ℕ). slice_get types i) same ∙ there)
