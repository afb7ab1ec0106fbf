use Rattle.std.proofs.Common.{◌≡◌, ℕ, List, ◌++◌, length, refl, subst}
use Rattle.gob_num.specs.Unsigned.{IsUnsigned}
use Rattle.gob_num.specs.Spelled.{Appends}
use Rattle.gob_value.specs.Written.{WrittenBytes, counted}
use Rattle.gob_value.proofs.AppendedLaws.{then}
use Rattle.gob_value.proofs.leaf.write_bytes.Goals as goal

behind_count : (s : List ℕ) (n : ℕ) (b c : List ℕ) → n ≡ length s → IsUnsigned n b → c ≡ s → WrittenBytes s (b ++ c)
behind_count s n b c e p f = rw f (counted (subst (λ n. IsUnsigned n b) e p))

pub returns-clause-ok : goal.returns-clause-ok
returns-clause-ok c =
    let s = c.args.bytes.now in
    let rest : Appends (λ b. b ≡ s) c.write_uint.new.out.items c.extend_from_slice.new.self.items =
    record { bytes = s; spelled = refl; appended = c.in_ok-extend_from_slice.ensures.items } in
    then (λ x y p q. behind_count s _ x y refl p q) c.in_ok-write_uint.ensures.ok rest
