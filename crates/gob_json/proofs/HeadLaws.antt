-- What stands before the value of a field, piece by piece.
use Rattle.std.proofs.Common.{◌≡◌, ℕ, ◌+◌, ◌*◌, ◌<◌, Bool, List, [], ◌∷◌, ◌++◌, take, drop}
use Rattle.std.proofs.Common.{append_assoc, ap, arith, sym, ◌∙◌}
use Rattle.std.proofs.lemmas.List.{drop-drop, take-append-drop}
use Rattle.std.specs.Fmt.{decimal}
use Rattle.std.proofs.lemmas.Fmt.{decimal_digit}
use Rattle.serde_json.specs.Written.{comma_if, compact_text}
use Rattle.gob_json.specs.Json.{text_json}
use Rattle.gob_json.specs.Machine.Digits.{IsPlainAscii}
use Rattle.gob_json.specs.Machine.TextParts.{digit_head, field_head}
use Rattle.gob_json.specs.declared.text.between.TheConstants.{HEADS}
use Rattle.gob_json.proofs.LeafLaws.{plain_text}
use Rattle.gob_json.proofs.RowLaws.{row}

-- ---- the table
head_in_table : (number : ℕ) → number < 10 → take 5 (drop (number * 5) HEADS) ≡ 44 ∷ digit_head number
head_in_table number small = row 5 5 (λ n. 44 ∷ digit_head n) HEADS 0 10 number number (omega arith) tt small

pub later_head : (number from k : ℕ) → number < 10 → from ≡ number * 5 → k ≡ 5
    → take k (drop from HEADS) ≡ 44 ∷ digit_head number
later_head number from k small place size =
    ap (λ (p : ℕ). take k (drop p HEADS)) place ∙ ap (λ (m : ℕ). take m (drop (number * 5) HEADS)) size
    ∙ head_in_table number small

pub first_head : (number from k : ℕ) → number < 10 → from ≡ number * 5 + 1 → k ≡ 4
    → take k (drop from HEADS) ≡ digit_head number
first_head number from k small place size =
    let r = drop (number * 5) HEADS in
    let rest = drop 5 r in
    let whole : r ≡ 44 ∷ (digit_head number ++ rest) =
    sym (take-append-drop 5 r) ∙ ap (λ (l : List ℕ). l ++ rest) (head_in_table number small) in
    ap (λ (p : ℕ). take k (drop p HEADS)) place ∙ ap (λ (m : ℕ). take m (drop (number * 5 + 1) HEADS)) size
    ∙ ap (take 4) (sym (drop-drop 1 (number * 5) HEADS) ∙ ap (drop 1) whole)

-- the number has one digit, and the name needs no escape
pub plain_head : (later : Bool) (number : ℕ) (name : List ℕ) → number < 10 → IsPlainAscii name
    → (comma_if later ++ digit_head number) ++ (name ++ 34 ∷ 44 ∷ []) ≡ field_head later number name
plain_head later number name small plain =
    append_assoc (comma_if later) (digit_head number) (name ++ 34 ∷ 44 ∷ [])
    ∙ ap (λ (l : List ℕ). comma_if later ++ 91 ∷ (48 + number) ∷ 44 ∷ 34 ∷ l)
    (sym (append_assoc name (34 ∷ []) (44 ∷ [])))
    ∙ ap (λ (l : List ℕ). comma_if later ++ 91 ∷ (48 + number) ∷ 44 ∷ (l ++ 44 ∷ [])) (plain_text name plain)
    ∙ ap (λ (l : List ℕ). comma_if later ++ 91 ∷ (l ++ 44 ∷ (compact_text (text_json name) ++ 44 ∷ [])))
    (sym (decimal_digit number small))

-- the pieces of any other
pub long_head : (later : Bool) (number : ℕ) (name : List ℕ)
    → comma_if later ++ ((91 ∷ (decimal number ++ 44 ∷ [])) ++ (compact_text (text_json name) ++ 44 ∷ []))
    ≡ field_head later number name
long_head later number name =
    ap (λ (l : List ℕ). comma_if later ++ 91 ∷ l) (append_assoc (decimal number) (44 ∷ [])
    (compact_text (text_json name) ++ 44 ∷ []))
