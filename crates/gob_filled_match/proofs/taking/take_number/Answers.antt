use Rattle.std.proofs.Common.{rules, ◌≡◌, ◌∙◌, ◌+◌, ◌-◌, ◌∷◌, ◌++◌, [], ap, arith, drop, length, take}
use Rattle.gob_filled_match.specs.declared.taking.Skeleton.{Skeleton}
use Rattle.gob_filled_match.proofs.TakingLaws.{adds, adds_no, takes_number}
use Rattle.gob_filled_match.proofs.taking.take_number.Goals as goal
use Rattle.gob_filled_match.proofs.taking.take_number.Goals.{then-number-gt0+in_ok-push, else-number-gt0}

pub returns : goal.returns
returns c =
    let at = c.args.at in
    let used = c.args.used in
    let z = c.args.skeleton.now.bytes.items in
    let same : (at + used) - at ≡ used = omega arith in
    let taken : c.extend_from_slice.new.self.items ≡ z ++ take used (drop at c.args.numbered.now) =
    c.in_ok-extend_from_slice.ensures.items ∙ ap (λ n. z ++ take n (drop at c.args.numbered.now)) same in
    elim c.if-number-gt0.branch [
      | then-number-gt0+in_ok-push w ↦
          let count : length c.extend_from_slice.new.self.items ≡ w.len-place.result =
          search (rules, w.len-place.ensures) in
          takes_number c.in-Some.ensures.stands c.in-Some.ensures.onward taken
          (c.in_ok-push-2.ensures.items ∙ ap (λ (s : Skeleton). s.bytes.items ++ 0 ∷ []) w.skeleton-is)
          (adds w.if-number-gt0.true count
          (ap (λ (s : Skeleton). s.nils.items) w.skeleton-is ∙ w.in_ok-push.ensures.items))
      | else-number-gt0 w ↦
          takes_number c.in-Some.ensures.stands c.in-Some.ensures.onward taken
          (c.in_ok-push-2.ensures.items ∙ ap (λ (s : Skeleton). s.bytes.items ++ 0 ∷ []) w.skeleton-is)
          (adds_no w.if-number-gt0.false (ap (λ (s : Skeleton). s.nils.items) w.skeleton-is))
    ]
