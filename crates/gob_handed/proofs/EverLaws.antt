-- Nodes behind no bytes are as they were.
use Rattle.std.proofs.Common.{◌≡◌, ℕ, ◌+◌, Bool, true, false, List, [], ◌∷◌, map, arith, ap, ap₂, refl}
use Rattle.std.specs.Prelude.{◌==◌, ◌||◌, if◌then◌else◌}
use Rattle.gob_tape.specs.declared.flat.FlatNode.{FlatNode}
use Rattle.gob_handed.specs.ValueNodes.{behind}

none_more : (c : Bool) (n : ℕ) → (if c then 0 + n else n) ≡ n
none_more true n = omega arith
none_more false n = refl

as_it_was : (n : FlatNode) → behind 0 n ≡ n
as_it_was n =
    ap (λ (x : ℕ). record { number = n.number; first = x; second = n.second; kind = n.kind; named = n.named })
    (none_more ((n.kind == 5) || ((n.kind == 6) || (n.kind == 12))) n.first)

pub all_as_they_were : (ns : List FlatNode) → map (behind 0) ns ≡ ns
all_as_they_were [] = refl
all_as_they_were (n ∷ ns) = ap₂ (λ x l. x ∷ l) (as_it_was n) (all_as_they_were ns)
