-- Texts that are appended one behind another.
use Rattle.std.proofs.Common.{◌≡◌, ◌∙◌, ℕ, List, ◌++◌, ap, append_assoc}

pub adds_then : (a b c p q : List ℕ) → b ≡ a ++ p → c ≡ b ++ q → c ≡ a ++ (p ++ q)
adds_then a b c p q e f = f ∙ ap (λ (l : List ℕ). l ++ q) e ∙ append_assoc a p q

pub adds_three : (a b c d p q r : List ℕ) → b ≡ a ++ p → c ≡ b ++ q → d ≡ c ++ r → d ≡ a ++ (p ++ (q ++ r))
adds_three a b c d p q r e f g = adds_then a b d p (q ++ r) e (adds_then b c d q r f g)

pub adds_five : (a b c d e f p q r s t : List ℕ) → b ≡ a ++ p → c ≡ b ++ q → d ≡ c ++ r → e ≡ d ++ s → f ≡ e ++ t
    → f ≡ a ++ (p ++ (q ++ (r ++ (s ++ t))))
adds_five a b c d e f p q r s t g h i j k =
    adds_three a b c f p q (r ++ (s ++ t)) g h (adds_three c d e f r s t i j k)

pub adds_seven : (a b c d e f g h p q r s t u v : List ℕ) → b ≡ a ++ p → c ≡ b ++ q → d ≡ c ++ r → e ≡ d ++ s
    → f ≡ e ++ t → g ≡ f ++ u → h ≡ g ++ v → h ≡ a ++ (p ++ (q ++ (r ++ (s ++ (t ++ (u ++ v))))))
adds_seven a b c d e f g h p q r s t u v i j k l m n o =
    adds_three a b c h p q (r ++ (s ++ (t ++ (u ++ v)))) i j (adds_five c d e f g h r s t u v k l m n o)
