-- Numbers that stand as numbers or as texts.
use Rattle.std.proofs.Common.{◌≡◌, ◌∙◌, ℕ, ℤ, List, ◌∷◌, ◌++◌, Result, Ok, Err, ap, sym}
use Rattle.std.specs.Prelude.{IfOk, decimal}
use Rattle.std.specs.Fmt.{signed_decimal}
use Rattle.json.specs.Token.{Token}
use Rattle.gob_types.specs.declared.id.TypeId.{TypeId}
use Rattle.gob_types.specs.Table.{Table}
use Rattle.gob_value.specs.Tree.{Tree}
use Rattle.gob_json.specs.Json.{integer_json, natural_json, value_json}
use Rattle.serde_json.specs.Data.{string}
use Rattle.gob_lines.specs.Numbers.{IsBasicJson, IsInteger, IsNatural, ReadsSome, as_shown, integer_number}
use Rattle.gob_lines.specs.Numbers.{integer_text}
use Rattle.gob_lines.specs.Numbers.{natural_number, natural_text, of_int, of_uint}
use Rattle.gob_lines.specs.Reads.{Reads}
use Rattle.gob_lines.specs.declared.fault.LineFault.{LineFault}
use Rattle.gob_lines.proofs.UniqueLaws.{integer_token}

-- ---- what is read of a token of digits

pub int_number : (r : Result ℤ LineFault) (digits : List ℕ) (old new : List Token) → old ≡ Token.number digits ∷ new
    → IfOk r (λ i. signed_decimal i ≡ digits) → IfOk r (λ i. ReadsSome (IsInteger i) old new)
int_number (Ok i) digits old new e d = record {
  json = integer_json i;
  is = integer_number;
  reads = e ∙ ap (λ s. Token.number s ∷ new) (sym d) ∙ ap (λ (l : List Token). l ++ new) (integer_token i);
}
int_number (Err f) digits old new e d = tt

pub int_text : (r : Result ℤ LineFault) (digits : List ℕ) (old new : List Token) → old ≡ Token.string digits ∷ new
    → IfOk r (λ i. signed_decimal i ≡ digits) → IfOk r (λ i. ReadsSome (IsInteger i) old new)
int_text (Ok i) digits old new e d = record {
  json = string (signed_decimal i);
  is = integer_text;
  reads = e ∙ ap (λ s. Token.string s ∷ new) (sym d);
}
int_text (Err f) digits old new e d = tt

pub uint_number : (r : Result ℕ LineFault) (digits : List ℕ) (old new : List Token) → old ≡ Token.number digits ∷ new
    → IfOk r (λ n. decimal n ≡ digits) → IfOk r (λ n. ReadsSome (IsNatural n) old new)
uint_number (Ok n) digits old new e d = record {
  json = natural_json n;
  is = natural_number;
  reads = e ∙ ap (λ s. Token.number s ∷ new) (sym d);
}
uint_number (Err f) digits old new e d = tt

pub uint_text : (r : Result ℕ LineFault) (digits : List ℕ) (old new : List Token) → old ≡ Token.string digits ∷ new
    → IfOk r (λ n. decimal n ≡ digits) → IfOk r (λ n. ReadsSome (IsNatural n) old new)
uint_text (Ok n) digits old new e d = record {
  json = string (decimal n);
  is = natural_text;
  reads = e ∙ ap (λ s. Token.string s ∷ new) (sym d);
}
uint_text (Err f) digits old new e d = tt

-- ---- and of a value of a basic type

pub int_basic : {T : Table} {t : TypeId} {i : ℤ} {old new : List Token} → ReadsSome (IsInteger i) old new
    → ReadsSome (IsBasicJson T t (Tree.int i)) old new
int_basic r = record { json = r.json; is = of_int r.is; reads = r.reads }

pub uint_basic : {T : Table} {t : TypeId} {n : ℕ} {old new : List Token} → ReadsSome (IsNatural n) old new
    → ReadsSome (IsBasicJson T t (Tree.uint n)) old new
uint_basic r = record { json = r.json; is = of_uint r.is; reads = r.reads }

pub shown_basic : {old new : List Token} (T : Table) (t : TypeId) (v : Tree) → Reads (value_json T t v) old new
    → ReadsSome (IsBasicJson T t v) old new
shown_basic T t v r = record { json = value_json T t v; is = as_shown; reads = r }
