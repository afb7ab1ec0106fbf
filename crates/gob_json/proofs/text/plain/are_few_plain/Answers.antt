use Rattle.std.proofs.Common.{◌≡◌, ℕ, ◌-◌, ◌<◌, arith, eq-zero-or-pos, inl, inr, get_or, subst, true}
use Rattle.json.specs.Run.{is_plain}
use Rattle.gob_json.proofs.PlainLaws.{stands}
use Rattle.gob_json.proofs.text.plain.are_few_plain.Goals as goal

pub bytes-preserved : goal.bytes-preserved
bytes-preserved c k h =
    let at = c.bytes.byte-index in
    elim (eq-zero-or-pos (at - k)) [
      | inl z ↦
          let last : at ≡ k = omega (arith, z, h) in
          subst (λ (i : ℕ). (is_plain (get_or c.args.bytes.now i 0) ≡ true) × (get_or c.args.bytes.now i 0 < 128)) last
          (subst (λ (b : ℕ). (is_plain b ≡ true) × (b < 128)) c.from.ensures
          (stands c.from.result (omega (arith, c.from.ensures, c.type_inv.bytes at)) c.if-from-eq0.false))
      | inr p ↦ c.bytes.invariant k (omega (arith, p))
    ]
