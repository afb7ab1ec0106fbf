use Rattle.std.proofs.Common.{◌∙◌, ap, min}
use Rattle.gob_stream.specs.Bounds.{Bounds, deepest}
use Rattle.gob_tool.proofs.rewrite.rewritten_depth.Goals as goal

pub returns : goal.returns
returns c =
    c.min.ensures ∙ ap (λ n. min n deepest) (c.depth.ensures.depth ∙ ap (λ (L : Bounds). L.depth) c.limits.ensures)
