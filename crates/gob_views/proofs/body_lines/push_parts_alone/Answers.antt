-- The value is that of the bytes that were made.
use Rattle.std.proofs.Common.{◌∙◌, ◌++◌, ◌∷◌, ℕ, List, [], ap}
use Rattle.std.proofs.lemmas.Result.{on_ok_weaker}
use Rattle.gob_views.proofs.PartLineLaws.{alone_spelled}
use Rattle.gob_views.proofs.body_lines.push_parts_alone.Goals as goal

pub returns : goal.returns
returns c = on_ok_weaker c.push_lines.result
    (λ lines v spelled.
    let s = c.in_ok-json.ensures.said v (alone_spelled
    (c.in_ok-push.ensures.items ∙ ap (λ (l : List ℕ). l ++ 0 ∷ []) c.in_ok-body.ensures.items)
    c.in_ok-write_uint.ensures.ok c.in_ok-extend_from_slice.ensures.items c.deref.ensures.value v spelled) in
    (s.0, s.1, lines s.0 s.2 s.3)) c.push_lines.ensures
