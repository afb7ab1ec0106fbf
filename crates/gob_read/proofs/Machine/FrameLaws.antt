-- The open parts on the stack: the last one written, and what follows in the innermost one.
use Rattle.std.proofs.Common.{◌≡◌, ℕ, zero, suc, ◌+◌, ◌-◌, List, [], ◌∷◌, ◌++◌, length, arith, refl, sym, ap, ◌∙◌}
use Rattle.std.proofs.Common.{subst, drop}
use Rattle.std.specs.Prelude.{slice_set, reverse}
use Rattle.std.proofs.lemmas.List.{reverse-append, reverse-reverse, length-reverse, set-append_right}
use Rattle.gob_types.specs.declared.id.TypeId.{TypeId}
use Rattle.gob_read.specs.declared.frame.Frame.{Frame}
use Rattle.gob_read.specs.declared.frame.Frame.TheVariants as frame
use Rattle.gob_read.specs.Machine.Frames.{IsOver, last_element, last_pair, FrameGoesOn, to_element, to_value, to_key}
use Rattle.gob_read.specs.Machine.Frames.{to_delta}

-- the last of the frames is set
pub reverse_set : (fs : List Frame) (last : ℕ) (f : Frame) → last + 1 ≡ length fs
    → reverse (slice_set fs last f) ≡ f ∷ drop 1 (reverse fs)
reverse_set fs last f h = split (reverse fs) refl
  where
    on_end : (ys : List Frame) (y : Frame) (n : ℕ) → length (reverse ys) ≡ n
        → reverse (slice_set (reverse ys ++ y ∷ []) n f) ≡ f ∷ ys
    on_end ys y n e =
        let z : n - n ≡ 0 = omega arith in
        let s : slice_set (reverse ys ++ y ∷ []) n f ≡ reverse ys ++ slice_set (y ∷ []) (n - n) f =
        set-append_right (reverse ys) (y ∷ []) n n f e (omega arith) in
        ap reverse (s ∙ ap (λ k. reverse ys ++ slice_set (y ∷ []) k f) z) ∙ reverse-append (reverse ys) (f ∷ [])
        ∙ ap (λ l. f ∷ l) (reverse-reverse ys)

    split : (gs : List Frame) → reverse fs ≡ gs → reverse (slice_set fs last f) ≡ f ∷ drop 1 (reverse fs)
    split [] e = absurd (let n : length (reverse fs) ≡ 0 = ap length e in omega (arith, length-reverse fs))
    split (y ∷ ys) e =
        let n : length (reverse fs) ≡ suc (length ys) = ap length e in
        let whole : fs ≡ reverse ys ++ y ∷ [] = sym (reverse-reverse fs) ∙ ap reverse e ∙ reverse-append (y ∷ []) ys in
        let at : length (reverse ys) ≡ last = omega (arith, length-reverse ys, length-reverse fs) in
        ap (λ l. reverse (slice_set l last f)) whole ∙ on_end ys y last at ∙ ap (λ l. f ∷ drop 1 l) (sym e)

pub over_list : {f : Frame} {e : TypeId} (left : ℕ) → f ≡ frame.Many e left → left ≡ 0 → IsOver f
over_list zero h z = subst IsOver (sym h) last_element
over_list (suc left) h z = absurd (omega arith)

pub over_map : {f : Frame} {k e : TypeId} (left : ℕ) → f ≡ frame.Elem k e left → left ≡ 0 → IsOver f
over_map zero h z = subst IsOver (sym h) last_pair
over_map (suc left) h z = absurd (omega arith)

pub list_on : {f : Frame} {e : TypeId} (left : ℕ) → f ≡ frame.Many e left → (left ≡ 0 → ⊥)
    → FrameGoesOn f (frame.Many e (left - 1))
list_on zero h z = absurd (z refl)
list_on {f = f} {e = e} (suc left) h z = let one : left ≡ suc left - 1 = omega arith in
    subst (λ n. FrameGoesOn f (frame.Many e n)) one (subst (λ g. FrameGoesOn g (frame.Many e left)) (sym h) to_element)

pub map_on : {f : Frame} {k e : TypeId} (left : ℕ) → f ≡ frame.Elem k e left → (left ≡ 0 → ⊥)
    → FrameGoesOn f (frame.Key k e (left - 1))
map_on zero h z = absurd (z refl)
map_on {f = f} {k = k} {e = e} (suc left) h z = let one : left ≡ suc left - 1 = omega arith in
    subst (λ n. FrameGoesOn f (frame.Key k e n)) one (subst (λ g. FrameGoesOn g (frame.Key k e left)) (sym h) to_key)

pub key_on : {f : Frame} {k e : TypeId} {left : ℕ} → f ≡ frame.Key k e left → FrameGoesOn f (frame.Elem k e left)
key_on {k = k} {e = e} {left = left} h = subst (λ f. FrameGoesOn f (frame.Elem k e left)) (sym h) to_value

pub fields_on : {f : Frame} {t : TypeId} {next : ℕ} → f ≡ frame.Fields t next → FrameGoesOn f (frame.Fields t next)
fields_on {t = t} {next = next} h = subst (λ f. FrameGoesOn f (frame.Fields t next)) (sym h) to_delta
