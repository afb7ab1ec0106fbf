-- Pieces of a text, one behind another.
use Rattle.std.proofs.Common.{◌≡◌, ℕ, List, [], ◌∷◌, ◌++◌, refl, ap, ◌∙◌, sym, append_assoc, if◌then◌else◌}
use Rattle.json_number_texts.specs.Laws.{ArePiecesOf}
use Rattle.json_number_texts.specs.Texts.{after, is_edge, place_after, with_texts}
use Rattle.json_number_texts.specs.declared.place.Place.{Place}

texts_both : (p : Place) (a b : List ℕ) → with_texts p (a ++ b) ≡ with_texts p a ++ with_texts (place_after p a) b
texts_both p [] b = refl
texts_both p (x ∷ a) b =
    let edge : List ℕ = if is_edge p x then 34 ∷ [] else [] in
    ap (λ l. edge ++ x ∷ l) (texts_both (after p x) a b)
    ∙ sym (append_assoc edge (x ∷ with_texts (after p x) a) (with_texts (place_after (after p x) a) b))

place_both : (p : Place) (a b : List ℕ) → place_after p (a ++ b) ≡ place_after (place_after p a) b
place_both p [] b = refl
place_both p (x ∷ a) b = place_both (after p x) a b

pub pieces_of : (p : Place) (a b : List ℕ) → ArePiecesOf p a b
pieces_of p a b = record { texts = texts_both p a b; place = place_both p a b }
