-- One byte more is copied.
use Rattle.std.proofs.Common.{ℕ, List, ◌≡◌, ◌∷◌, [], ◌++◌, ◌+◌, ◌-◌, ◌<◌, ap, arith, append_assoc, eq-zero-or-pos, inl}
use Rattle.std.proofs.Common.{inr, get_or, length-set, set, subst}
use Rattle.std.proofs.Common.{sym, take, true, ◌∙◌}
use Rattle.std.proofs.lemmas.List.{take-set-le, take_more, take_more_set}
use Rattle.json.specs.Run.{is_plain}
use Rattle.gob_json.proofs.PlainLaws.{stands}
use Rattle.gob_json.proofs.text.plain.copy_plain.Goals as goal

pub bytes-preserved : goal.bytes-preserved
bytes-preserved c =
    let i = c.bytes.index in
    let at = c.args.at in
    let bytes = c.args.bytes.now in
    let block = c.bytes.block in
    let byte = get_or bytes i 0 in
    let old = take at c.args.block.now in
    let now = c.bytes.invariant in
    record {
      plain = λ k h. elim (eq-zero-or-pos (i - k)) [
        | inl z ↦
            let last : i ≡ k = omega (arith, z, h) in
            subst (λ (j : ℕ). (is_plain (get_or bytes j 0) ≡ true) × (get_or bytes j 0 < 128)) last
            (subst (λ (b : ℕ). (is_plain b ≡ true) × (b < 128)) c.from.ensures
            (stands c.from.result (omega (arith, c.from.ensures, c.type_inv.bytes i)) c.if-from-eq0.false))
        | inr p ↦ now.plain k (omega (arith, p))
      ];
      copied =
          let next : at + (i + 1) ≡ at + i + 1 = omega arith in
          ap (λ (n : ℕ). take n (set block (at + i) byte)) next
          ∙ take_more_set block (at + i) byte (omega (arith, now.size, c.requires))
          ∙ ap (λ (l : List ℕ). l ++ byte ∷ []) now.copied ∙ append_assoc old (take i bytes) (byte ∷ [])
          ∙ ap (λ (l : List ℕ). old ++ l) (sym (take_more bytes i 0 c.bytes-test.true));
      before = take-set-le at block (at + i) byte (omega arith) ∙ now.before;
      size = length-set block (at + i) byte ∙ now.size;
    }
