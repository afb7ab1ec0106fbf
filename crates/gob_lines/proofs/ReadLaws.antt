-- What was read, and what the rest begins with.
use Rattle.std.proofs.Common.{◌≡◌, ℕ, List, [], ◌∷◌, ◌++◌, ◌∙◌, ap, sym, arith}
use Rattle.std.proofs.Common.{append_assoc, Some}
use Rattle.std.specs.List.{flat_map}
use Rattle.std.proofs.lemmas.List.{flat_map_more}
use Rattle.json.specs.Token.{Token}
use Rattle.json.specs.Json.{after_end_array}
use Rattle.json.specs.Tree.{items_tokens}
use Rattle.serde_json.specs.Data.{array, Items}
use Rattle.serde_json.specs.Written.{items_outline}
use Rattle.gob_types.proofs.GrowthLaws.{some_injective}
use Rattle.gob_lines.specs.Reads.{Reads}

-- ---- one more is read

-- the parts that were read stand behind the bracket, and the rest behind them
abbrev pub HasReadParts : {A : Type 0} → (A → List Token) → List A → (all now : List Token) → Type 0
HasReadParts f xs all now = all ≡ Token.begin_array ∷ (flat_map f xs ++ now)

pub one_more_read : {A : Type 0} (f : A → List Token) (xs : List A) (x : A) (all mid now : List Token)
    → HasReadParts f xs all mid → mid ≡ f x ++ now → HasReadParts f (xs ++ x ∷ []) all now
one_more_read f xs x all mid now h e =
    h ∙ ap (λ (l : List Token). Token.begin_array ∷ (flat_map f xs ++ l)) e
    ∙ ap (λ (l : List Token). Token.begin_array ∷ l)
    (sym (append_assoc (flat_map f xs) (f x) now) ∙ ap (λ (l : List Token). l ++ now) (flat_map_more f [] xs x))

-- the bracket that closes an array is next
pub end_is_next : (ts rest : List Token) → after_end_array ts ≡ Some rest → ts ≡ Token.end_array ∷ rest
end_is_next [] rest e = grind arith
end_is_next (Token.begin_object ∷ ts) rest e = grind arith
end_is_next (Token.end_object ∷ ts) rest e = grind arith
end_is_next (Token.begin_array ∷ ts) rest e = grind arith
end_is_next (Token.end_array ∷ ts) rest e = ap (λ (l : List Token). Token.end_array ∷ l) (some_injective e)
end_is_next (Token.key s ∷ ts) rest e = grind arith
end_is_next (Token.string s ∷ ts) rest e = grind arith
end_is_next (Token.number s ∷ ts) rest e = grind arith
end_is_next (Token.boolean b ∷ ts) rest e = grind arith
end_is_next (Token.null ∷ ts) rest e = grind arith
end_is_next (Token.bad ∷ ts) rest e = grind arith

-- all are read
pub all_read : {A : Type 0} (f : A → List Token) (xs : List A) (js : Items) (all mid now : List Token)
    → items_tokens (items_outline js) ≡ flat_map f xs ++ Token.end_array ∷ [] → HasReadParts f xs all mid
    → after_end_array mid ≡ Some now → Reads (array js) all now
all_read f xs js all mid now each h e =
    h ∙ ap (λ (l : List Token). Token.begin_array ∷ (flat_map f xs ++ l)) (end_is_next mid now e)
    ∙ ap (λ (l : List Token). Token.begin_array ∷ l)
    (sym (append_assoc (flat_map f xs) (Token.end_array ∷ []) now)
    ∙ ap (λ (l : List Token). l ++ now) (sym each))

-- ---- the parts of a field

pub nested : (a b t2 t3 t4 now : List Token) → t2 ≡ a ++ t3 → t3 ≡ b ++ t4 → t4 ≡ Token.end_array ∷ now
    → t2 ≡ (a ++ (b ++ Token.end_array ∷ [])) ++ now
nested a b t2 t3 t4 now e2 e3 e4 =
    e2 ∙ ap (λ (l : List Token). a ++ l)
    (e3 ∙ ap (λ (l : List Token). b ++ l) e4 ∙ sym (append_assoc b (Token.end_array ∷ []) now))
    ∙ sym (append_assoc a (b ++ Token.end_array ∷ []) now)

-- ---- a part between two tokens

pub between : (t u : Token) (a m0 m1 m2 now : List Token) → m0 ≡ t ∷ m1 → m1 ≡ a ++ m2 → m2 ≡ u ∷ now
    → m0 ≡ t ∷ ((a ++ u ∷ []) ++ now)
between t u a m0 m1 m2 now e0 e1 e2 =
    e0 ∙ ap (λ (l : List Token). t ∷ l)
    (e1 ∙ ap (λ (l : List Token). a ++ l) e2 ∙ sym (append_assoc a (u ∷ []) now))

-- ---- an object of two members

pub two_members : (k l : List ℕ) (n a m m0 m1 m2 m3 m4 now : List Token) → m ≡ Token.begin_object ∷ m0
    → m0 ≡ Token.key k ∷ m1 → m1 ≡ n ++ m2 → m2 ≡ Token.key l ∷ m3 → m3 ≡ a ++ m4 → m4 ≡ Token.end_object ∷ now
    → m ≡ Token.begin_object ∷ (Token.key k ∷ ((n ++ (Token.key l ∷ (a ++ Token.end_object ∷ []))) ++ now))
two_members k l n a m m0 m1 m2 m3 m4 now e e0 e1 e2 e3 e4 =
    let last = between (Token.key l) Token.end_object a m2 m3 m4 now e2 e3 e4 in
    e ∙ ap (λ (ts : List Token). Token.begin_object ∷ ts)
    (e0 ∙ ap (λ (ts : List Token). Token.key k ∷ ts)
    (e1 ∙ ap (λ (ts : List Token). n ++ ts) last
    ∙ sym (append_assoc n (Token.key l ∷ (a ++ Token.end_object ∷ [])) now)))
