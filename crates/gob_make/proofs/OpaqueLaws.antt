-- What is said by one token.
use Rattle.std.proofs.Common.{◌≡◌, ◌∙◌, ◌+◌, ◌++◌, ℕ, IsTrue, List, [], ◌∷◌, ap, arith, subst, sym}
use Rattle.json.specs.Json.{Json, value}
use Rattle.json.specs.Json as json
use Rattle.json.specs.Token.{Token}
use Rattle.json.specs.Tree.{depth, json_tokens}
use Rattle.json.proofs.Printed.Trees.{value-json_tokens}
use Rattle.gob_types.proofs.PublicLaws.{some_injective}
use Rattle.gob_plain.specs.OpaqueText.{SaysContent}
use Rattle.gob_plain.specs.declared.opaque.Content.{Content}
use Rattle.gob_make.specs.Leaf.{IsTrimmed, ReadsContent, as_shown, may_be_time, with_zeros}

-- JSON is known by its tokens
json_one : (j k : Json) → json_tokens j ≡ json_tokens k → j ≡ k
json_one j k e =
    ap (λ (p : Json × List Token). p.0)
    (some_injective (sym (value-json_tokens j (depth j + depth k) [] (omega arith))
    ∙ ap (λ (ts : List Token). value (depth j + depth k) (ts ++ [])) e
    ∙ value-json_tokens k (depth j + depth k) [] (omega arith)))

-- the bytes are said by the JSON that has this token
abbrev pub IsShown : Content → List ℕ → Token → Type 0
IsShown c b t = (j : Json) × SaysContent c b j × (json_tokens j ≡ t ∷ [])

pub number_shown : (c : Content) (b bytes text : List ℕ) → b ≡ bytes → IsShown c b (Token.number text)
    → ReadsContent c (json.number text) bytes
number_shown c b bytes text same h =
    subst (λ d. ReadsContent c (json.number text) d) same
    (as_shown (subst (λ k. SaysContent c b k) (json_one h.0 (json.number text) h.2) h.1))

pub string_shown : (c : Content) (b bytes text : List ℕ) → b ≡ bytes → IsShown c b (Token.string text)
    → ReadsContent c (json.string text) bytes
string_shown c b bytes text same h =
    subst (λ d. ReadsContent c (json.string text) d) same
    (as_shown (subst (λ k. SaysContent c b k) (json_one h.0 (json.string text) h.2) h.1))

pub moment_shown : (c : Content) (b bytes text trimmed shown : List ℕ) → IsTrue (may_be_time c) → b ≡ bytes
    → IsTrimmed text trimmed → shown ≡ trimmed → IsShown c b (Token.string shown)
    → ReadsContent c (json.string text) bytes
moment_shown c b bytes text trimmed shown time same zeros is h =
    let says = subst (λ k. SaysContent c b k) (json_one h.0 (json.string shown) h.2 ∙ ap json.string is) h.1 in
    subst (λ d. ReadsContent c (json.string text) d) same (with_zeros time zeros says)
