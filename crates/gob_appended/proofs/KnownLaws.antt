-- Definitions that were met, as the keys of a set and as lists of bytes.
use Rattle.std.proofs.Common.{◌≡◌, ℕ, Bool, true, false, ◌||◌, List, [], ◌∷◌, ◌++◌, refl, ap, ◌∙◌, map, bytes_eq}
use Rattle.std.proofs.Common.{if◌then◌else◌}
use Rattle.std.specs.List.{list_any}
use Rattle.gob_appended.specs.Known.{with_definition}

pub any_mapped : {K : Type 0} (ks : List K) (items : K → List ℕ) (test : List ℕ → Bool)
    → list_any (λ k. test (items k)) ks ≡ list_any test (map items ks)
any_mapped [] items test = refl
any_mapped (k ∷ ks) items test = ap (λ b. test (items k) || b) (any_mapped ks items test)

mapped_last : {K : Type 0} (ks : List K) (items : K → List ℕ) (k : K)
    → map items (ks ++ k ∷ []) ≡ map items ks ++ items k ∷ []
mapped_last [] items k = refl
mapped_last (l ∷ ks) items k = ap (λ r. items l ∷ r) (mapped_last ks items k)

put : {K : Type 0} (b : Bool) (ks : List K) (items : K → List ℕ) (k : K)
    → map items (if b then ks else ks ++ k ∷ []) ≡ (if b then map items ks else map items ks ++ items k ∷ [])
put true ks items k = refl
put false ks items k = mapped_last ks items k

pub noted : {K : Type 0} (ks new : List K) (items : K → List ℕ) (k : K) (d : List ℕ) → items k ≡ d
    → new ≡ (if list_any (λ l. bytes_eq (items k) (items l)) ks then ks else ks ++ k ∷ [])
    → map items new ≡ with_definition (map items ks) d
noted ks new items k d same e =
    let all = map items ks in
    ap (map items) e ∙ put (list_any (λ l. bytes_eq (items k) (items l)) ks) ks items k
    ∙ ap (λ (b : Bool). if b then all else all ++ items k ∷ []) (any_mapped ks items (bytes_eq (items k)))
    ∙ ap (with_definition all) same
