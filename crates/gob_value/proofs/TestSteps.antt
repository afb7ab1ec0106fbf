-- One step of a test that goes over a list: what it says of a part and of the rest, it says of the whole.
use Rattle.std.proofs.Common.{◌≡◌, ◌↔◌, IsTrue, ℕ, ◌≤◌, Bool, true, false, List, [], length, drop, rules, sym, ◌∙◌}
use Rattle.std.proofs.lemmas.Bool.{false≢true}
use Rattle.std.proofs.lemmas.List.{drop_all}

pub through : {P Q R : Type 0} → P ↔ Q → Q ↔ R → P ↔ R
through f g = (λ p. g.0 (f.0 p), λ r. f.1 (g.1 r))

pub never : {P : Type 0} → ¬ P → IsTrue false ↔ P
never n = (λ h. absurd (search rules), λ p. absurd (n p))

pub always : {P : Type 0} → P → IsTrue true ↔ P
always p = (λ _. p, λ _. search rules)

pub not_true : {b : Bool} {P : Type 0} → b ≡ false → IsTrue b ↔ P → ¬ P
not_true e f p = false≢true (sym e ∙ f.1 p)

-- a first part of which the test holds, and the rest
pub keep : {F B A C : Type 0} → F → (F × B) ↔ A → A ↔ C → B ↔ C
keep f s i = (λ b. i.0 (s.0 (f, b)), λ c. (s.1 (i.1 c)).1)

-- and one of which it doesn't
pub stop : {F B A C : Type 0} → ¬ F → (F × B) ↔ A → A ↔ C → IsTrue false ↔ C
stop f s i = never (λ c. f (s.1 (i.1 c)).0)

-- two first parts of which the test holds, and the rest
pub keep_both : {F G B A C : Type 0} → F → G → (F × G × B) ↔ A → A ↔ C → B ↔ C
keep_both f g s i = (λ b. i.0 (s.0 (f, g, b)), λ c. (s.1 (i.1 c)).2)

pub stop_first : {F G B A C : Type 0} → ¬ F → (F × G × B) ↔ A → A ↔ C → IsTrue false ↔ C
stop_first f s i = never (λ c. f (s.1 (i.1 c)).0)

pub stop_second : {F G B A C : Type 0} → ¬ G → (F × G × B) ↔ A → A ↔ C → IsTrue false ↔ C
stop_second f s i = never (λ c. f (s.1 (i.1 c)).1)

pub none_left : {A : Type 0} (xs : List A) (i : ℕ) → length xs ≤ i → drop i xs ≡ []
none_left xs i h = drop_all i xs h
