-- What is said of types, taken one behind another.
use Rattle.std.proofs.Common.{◌≡◌, ℕ, ◌+◌, ◌<◌, ◌≤◌, List, [], ◌∷◌, ◌++◌, length, get_or, take}
use Rattle.std.proofs.Common.{subst}
use Rattle.std.proofs.Common.{add-one}
use Rattle.std.proofs.lemmas.List.{take_all}
use Rattle.std.proofs.Math.Seq.{take-suc}
use Rattle.gob_plain.specs.declared.style.Taken.{Taken}
use Rattle.gob_words.specs.declared.kinds.TypeKind.{TypeKind}
use Rattle.gob_views.specs.Values.{AreTaken, none_taken, then_taken, content_of}

taken_snoc : (said : TypeKind) (next : Taken) (all : List TypeKind) (taken : List Taken)
    → AreTaken all taken → next.id.0 ≡ said.id → next.content ≡ content_of said.kind
    → AreTaken (all ++ said ∷ []) (taken ++ next ∷ [])
taken_snoc said next _ _ none_taken i k = then_taken i k none_taken
taken_snoc said next _ _ (then_taken {all = all} {others = others} a b rest) i k =
    then_taken a b (taken_snoc said next all others rest i k)

pub taken_more : (kinds : List TypeKind) (i : ℕ) (d : TypeKind) (next : Taken) (old : List Taken) {new : List Taken}
    → AreTaken (take i kinds) old → i < length kinds → next.id.0 ≡ (get_or kinds i d).id
    → next.content ≡ content_of (get_or kinds i d).kind → new ≡ old ++ next ∷ []
    → AreTaken (take (i + 1) kinds) new
taken_more kinds i d next old {new} h l e k n =
    rw (add-one, take-suc kinds i d l, n) (taken_snoc (get_or kinds i d) next (take i kinds) old h e k)

pub taken_all : (kinds : List TypeKind) (i : ℕ) (taken : List Taken) → AreTaken (take i kinds) taken
    → length kinds ≤ i → AreTaken kinds taken
taken_all kinds i taken h l = subst (λ (k : List TypeKind). AreTaken k taken) (take_all i kinds l) h
