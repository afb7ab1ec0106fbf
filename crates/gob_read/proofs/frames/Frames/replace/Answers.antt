use Rattle.std.proofs.Common.{arith, ap, drop, ◌∙◌, ◌∷◌, ◌-◌, length}
use Rattle.std.proofs.lemmas.List.{length-reverse}
use Rattle.gob_read.proofs.Machine.FrameLaws.{reverse_set}
use Rattle.gob_read.proofs.frames.Frames.replace.Goals as goal

pub returns : goal.returns
returns c =
    let n = length-reverse c.self.inside.frames.items in
    let v = ap length c.self.view_is in
    reverse_set c.self.inside.frames.items (c.len-last.result - 1) c.args.frame
    (omega (arith, n, v, c.requires, c.len-last.ensures, c.self.inside.frames.ok.0))
    ∙ ap (λ l. c.args.frame ∷ drop 1 l) c.self.view_is
