use Rattle.std.proofs.Common.{◌++◌, ◌∙◌, List, ap, arith, refl, ℕ}
use Rattle.gob_salvage.proofs.streams.behind.Goals as goal

pub returns-clause-some : goal.returns-clause-some
returns-clause-some c =
    rw c.in-Some.is (λ small. record {
      later = record { at = c.saturating_add-at.result; front = c.extend_from_slice.new.self };
      is = refl;
      at = omega (arith, c.saturating_add-at.ensures);
      front = c.in_ok-extend_from_slice.ensures.items
          ∙ ap (λ (l : List ℕ). l ++ c.deref.result.now) c.new-front.ensures.items ∙ c.deref.ensures.value;
    })
