-- What is passed over is a value: its tokens stand in front of those that are left.
use Rattle.std.proofs.Common.{◌≡◌, ℕ, zero, suc, List, [], ◌∷◌, ◌++◌, length, Option, Some, None, refl, sym, ap}
use Rattle.std.proofs.Common.{◌∙◌, subst, append_assoc, arith}
use Rattle.std.specs.Prelude.{⊤, option_map, option_and_then}
use Rattle.json.specs.Token.{Token}
use Rattle.json.specs.Json.{Json, array, object, Items, item, Members, member, Parse, parse_map}
use Rattle.json.specs.Json.{after_end_array, read_key, items_step, members_step, items, members, value_with, value}
use Rattle.json.specs.Json.{skip_value}
use Rattle.json.specs.Tree.{json_tokens, items_tokens, members_tokens}
use Rattle.gob_lines.proofs.ReadLaws.{end_is_next}
use Rattle.gob_types.proofs.GrowthLaws.{some_injective}

-- where something was read, its tokens stand in front of the rest
abbrev pub Stood : {A : Type 0} → (A → List Token) → List Token → Option (A × List Token) → Type 0
Stood f ts None = ⊤
Stood f ts (Some p) = ts ≡ f p.0 ++ p.1

abbrev Stands : {A : Type 0} → (A → List Token) → Parse A → Type 0
Stands f p = (ts : List Token) → Stood f ts (p ts)

mapped : {A B : Type 0} (g : A → B) (f : A → List Token) (h : B → List Token) (t : Token) (ts : List Token)
    (o : Option (A × List Token)) → ((a : A) → h (g a) ≡ t ∷ f a) → Stood f ts o → Stood h (t ∷ ts) (parse_map g o)
mapped g f h t ts None is s = tt
mapped g f h t ts (Some p) is s =
    ap (λ (l : List Token). t ∷ l) s ∙ ap (λ (l : List Token). l ++ p.1) (sym (is p.0))

with_tokens : (a : Parse Items) (o : Parse Members) → Stands items_tokens a → Stands members_tokens o
    → Stands json_tokens (value_with a o)
with_tokens a o s m [] = tt
with_tokens a o s m (Token.begin_object ∷ ts) =
    mapped object members_tokens json_tokens Token.begin_object ts (o ts) (λ ms. refl) (m ts)
with_tokens a o s m (Token.end_object ∷ ts) = tt
with_tokens a o s m (Token.begin_array ∷ ts) =
    mapped array items_tokens json_tokens Token.begin_array ts (a ts) (λ js. refl) (s ts)
with_tokens a o s m (Token.end_array ∷ ts) = tt
with_tokens a o s m (Token.key k ∷ ts) = tt
with_tokens a o s m (Token.string k ∷ ts) = refl
with_tokens a o s m (Token.number k ∷ ts) = refl
with_tokens a o s m (Token.boolean b ∷ ts) = refl
with_tokens a o s m (Token.null ∷ ts) = refl
with_tokens a o s m (Token.bad ∷ ts) = tt

-- one more in front of those that follow, behind its own tokens and these
more_stand : {B : Type 0} (g : B → B) (f : B → List Token) (j front : List Token) (r : List Token)
    (o : Option (B × List Token)) → ((b : B) → f (g b) ≡ front ++ (j ++ f b)) → Stood f r o
    → Stood f (front ++ (j ++ r)) (parse_map g o)
more_stand g f j front r None is s = tt
more_stand g f j front r (Some p) is s =
    ap (λ (l : List Token). front ++ (j ++ l)) s
    ∙ ap (λ (l : List Token). front ++ l) (sym (append_assoc j (f p.0) p.1))
    ∙ sym (append_assoc front (j ++ f p.0) p.1) ∙ ap (λ (l : List Token). l ++ p.1) (sym (is p.0))

next_item : (more : Parse Items) (ts : List Token) (o : Option (Json × List Token)) → Stands items_tokens more
    → Stood json_tokens ts o → Stood items_tokens ts (option_and_then (λ p. parse_map (item p.0) (more p.1)) o)
next_item more ts None s v = tt
next_item more ts (Some p) s v =
    subst (λ (l : List Token). Stood items_tokens l (parse_map (item p.0) (more p.1))) (sym v)
    (more_stand (item p.0) items_tokens (json_tokens p.0) [] p.1 (more p.1) (λ js. refl) (s p.1))

item_step : (p : Parse Json) (more : Parse Items) (ts : List Token) (end : Option (List Token))
    → after_end_array ts ≡ end → Stands json_tokens p → Stands items_tokens more
    → Stood items_tokens ts (items_step p more ts end)
item_step p more ts None e v s = next_item more ts (p ts) s (v ts)
item_step p more ts (Some rest) e v s = end_is_next ts rest e

items_stand : (p : Parse Json) (n : ℕ) → Stands json_tokens p → Stands items_tokens (items p n)
unfolding items
items_stand p zero v = λ ts. tt
items_stand p (suc n) v = λ ts. item_step p (items p n) ts (after_end_array ts) refl v (items_stand p n v)

-- the value of the member of this key, and the members behind it
next_member : (k : List ℕ) (more : Parse Members) (ts : List Token) (o : Option (Json × List Token))
    → Stands members_tokens more → Stood json_tokens ts o
    → Stood members_tokens (Token.key k ∷ ts) (option_and_then (λ p. parse_map (member k p.0) (more p.1)) o)
next_member k more ts None s v = tt
next_member k more ts (Some p) s v =
    subst (λ (l : List Token). Stood members_tokens (Token.key k ∷ l) (parse_map (member k p.0) (more p.1))) (sym v)
    (more_stand (member k p.0) members_tokens (json_tokens p.0) (Token.key k ∷ []) p.1 (more p.1) (λ ms. refl) (s p.1))

member_step : (p : Parse Json) (more : Parse Members) → Stands json_tokens p → Stands members_tokens more
    → (ts : List Token)
    → Stood members_tokens ts (option_and_then (λ q. members_step p more q.0 q.1) (read_key ts))
member_step p more v s [] = tt
member_step p more v s (Token.begin_object ∷ ts) = tt
member_step p more v s (Token.end_object ∷ ts) = refl
member_step p more v s (Token.begin_array ∷ ts) = tt
member_step p more v s (Token.end_array ∷ ts) = tt
member_step p more v s (Token.key k ∷ ts) = next_member k more ts (p ts) s (v ts)
member_step p more v s (Token.string k ∷ ts) = tt
member_step p more v s (Token.number k ∷ ts) = tt
member_step p more v s (Token.boolean b ∷ ts) = tt
member_step p more v s (Token.null ∷ ts) = tt
member_step p more v s (Token.bad ∷ ts) = tt

members_stand : (p : Parse Json) (n : ℕ) → Stands json_tokens p → Stands members_tokens (members p n)
unfolding members
members_stand p zero v = λ ts. tt
members_stand p (suc n) v = λ ts. member_step p (members p n) v (members_stand p n v) ts

value_stands : (depth : ℕ) → Stands json_tokens (value depth)
unfolding value
value_stands zero = with_tokens (λ ts. None) (λ ts. None) (λ ts. tt) (λ ts. tt)
value_stands (suc d) =
    with_tokens (λ ts. items (value d) (length ts) ts) (λ ts. members (value d) (length ts) ts)
    (λ ts. items_stand (value d) (length ts) (value_stands d) ts)
    (λ ts. members_stand (value d) (length ts) (value_stands d) ts)

skipped : (ts rest : List Token) (o : Option (Json × List Token)) → Stood json_tokens ts o
    → option_map (λ p. p.1) o ≡ Some rest → (j : Json) × (ts ≡ json_tokens j ++ rest)
skipped ts rest None s e = let never : ⊥ = grind (arith, e) in absurd never
skipped ts rest (Some p) s e = (p.0, s ∙ ap (λ (l : List Token). json_tokens p.0 ++ l) (some_injective e))

pub skipped_value : (depth : ℕ) (ts rest : List Token) → skip_value depth ts ≡ Some rest
    → (j : Json) × (ts ≡ json_tokens j ++ rest)
skipped_value depth ts rest e = skipped ts rest (value depth ts) (value_stands depth ts) e
