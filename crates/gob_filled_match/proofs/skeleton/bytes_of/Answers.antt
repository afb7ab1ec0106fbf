use Rattle.std.proofs.Common.{rules, ◌∙◌, ◌∷◌, [], ◌++◌, ap, List, ℕ}
use Rattle.std.specs.Global.{Global}
use Rattle.std.specs.Prelude.{Vec}
use Rattle.gob_filled_match.proofs.SkeletonLaws.{spelled_struct, spelled_tagged}
use Rattle.gob_filled_match.proofs.skeleton.bytes_of.Goals as goal
use Rattle.gob_filled_match.proofs.skeleton.bytes_of.Goals.{then-not-has_structs+in_ok-push, else-not-has_structs}

pub returns-in-Ok : goal.returns-in-Ok
returns-in-Ok g c =
    elim c.if-not-has_structs.branch [
      | then-not-has_structs+in_ok-push w ↦
          spelled_tagged (λ has. absurd (search (rules, c.has_structs.ensures.1 has)))
          (ap (λ (l : Vec ℕ Global). l.items) w.bytes-is ∙ w.in_ok-push.ensures.items
          ∙ ap (λ (l : List ℕ). l ++ 0 ∷ []) c.new-bytes.ensures.items) c.in-Ok.ensures.ok
      | else-not-has_structs w ↦
          spelled_struct (c.has_structs.ensures.0 (search rules))
          (ap (λ (l : Vec ℕ Global). l.items) w.bytes-is ∙ c.new-bytes.ensures.items) c.in-Ok.ensures.ok
    ]
