use Rattle.std.proofs.Common.{◌≡◌, ℕ, ◌⊎◌, inl, inr, Bool, true, false, List, Vec, Global, rules, w64, refl, ◌∙◌, subst}
use Rattle.std.proofs.lemmas.Int.{to_z-of_z}
use mir.Val.{bool_byte}
use Rattle.gob_num.specs.Unsigned.{IsUnsigned}
use Rattle.gob_num.specs.Signed.{IsSigned}
use Rattle.gob_value.specs.declared.value.Value.{Value, Bytes, Str, Opaque}
use Rattle.gob_value.specs.Spelling.{truth}
use Rattle.gob_value.specs.Written.{WrittenBytes, Written}
use Rattle.std.proofs.lemmas.Result.{on_ok_weaker}
use Rattle.gob_value.specs.View.{view}
use Rattle.gob_value.specs.Written as written
use Rattle.gob_value.proofs.AppendedLaws.{then, then_as}
use Rattle.gob_value.proofs.ViewLaws.{view-Bool, view-Int, view-Uint, view-Float, view-Complex, view-Bytes, view-Str}
use Rattle.gob_value.proofs.ViewLaws.{view-Nil, view-Opaque}
use Rattle.gob_value.proofs.leaf.write_leaf.Goals as goal

truth_byte : (x : Bool) → bool_byte x ≡ truth x
truth_byte false = refl
truth_byte true = refl

-- whichever of the three variants with bytes it is
bytes_written : {v : Value} (s : Vec ℕ Global) (b : List ℕ) → (v ≡ Bytes s) ⊎ ((v ≡ Str s) ⊎ (v ≡ Opaque s))
    → WrittenBytes s.items b → Written (view v) b
bytes_written s b (inl e) p = rw (e, view-Bytes s) (written.of_bytes p)
bytes_written s b (inr (inl e)) p = rw (e, view-Str s) (written.of_text p)
bytes_written s b (inr (inr e)) p = rw (e, view-Opaque s) (written.of_opaque p)

pub returns-in-Bool-clause-ok : goal.returns-in-Bool-clause-ok
returns-in-Bool-clause-ok c = on_ok_weaker c.write_uint.result
    (then_as (λ b p. rw (c.in-Bool.is, view-Bool c.in-Bool.x)
    (written.of_bool (subst (λ n. IsUnsigned n b) (c.from.ensures ∙ truth_byte c.in-Bool.x) p))))
    c.write_uint.ensures.ok

pub returns-in-Int-clause-ok : goal.returns-in-Int-clause-ok
returns-in-Int-clause-ok c = on_ok_weaker c.write_int.result
    (then_as (λ b p. rw (c.in-Int.is, view-Int c.in-Int.i)
    (written.of_int (subst (λ i. IsSigned i b) (to_z-of_z w64 c.in-Int.i (search rules)) p)))) c.write_int.ensures.ok

pub returns-in-Uint-clause-ok : goal.returns-in-Uint-clause-ok
returns-in-Uint-clause-ok c = on_ok_weaker c.write_uint-in-Uint.result
    (then_as (λ b p. rw (c.in-Uint.is, view-Uint c.in-Uint.n) (written.of_uint p))) c.write_uint-in-Uint.ensures.ok

pub returns-in-Float-clause-ok : goal.returns-in-Float-clause-ok
returns-in-Float-clause-ok c = on_ok_weaker c.write_pattern.result
    (then_as (λ b p. rw (c.in-Float.is, view-Float c.in-Float.p) (written.of_float p))) c.write_pattern.ensures.ok

pub returns-in_ok-write_pattern-in-Complex-clause-ok : goal.returns-in_ok-write_pattern-in-Complex-clause-ok
returns-in_ok-write_pattern-in-Complex-clause-ok c =
    on_ok_weaker c.write_pattern-in-Complex-2.result
    (λ a. then (λ x y p q. rw (c.in-Complex.is, view-Complex c.in-Complex.p c.in-Complex.q) (written.of_complex p q))
    c.in_ok-write_pattern-in-Complex.ensures.ok a)
    c.write_pattern-in-Complex-2.ensures.ok

pub returns-in-Nil-clause-ok : goal.returns-in-Nil-clause-ok
returns-in-Nil-clause-ok c = on_ok_weaker c.write_uint-in-Nil.result
    (then_as (λ b p. rw (c.in-Nil.is, view-Nil) (written.of_nil p))) c.write_uint-in-Nil.ensures.ok

pub returns-in-Bytes-clause-ok : goal.returns-in-Bytes-clause-ok
returns-in-Bytes-clause-ok c =
    on_ok_weaker c.write_bytes.result (then_as (λ b p. bytes_written c.in-Bytes.s b c.in-Bytes.is
    (rw c.deref.ensures.value at p))) c.write_bytes.ensures.ok
