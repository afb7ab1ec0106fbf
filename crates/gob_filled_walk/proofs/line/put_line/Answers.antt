-- The head, the value's text and the end.
use Rattle.std.proofs.Common.{◌∷◌, ◌++◌, [], ap, arith, ◌∙◌}
use Rattle.gob_num.proofs.PublicLaws.{bytes_each}
use Rattle.gob_json.specs.TextWhole.{head_text}
use Rattle.gob_filled_walk.specs.HeldText.{held_text}
use Rattle.gob_filled_walk.proofs.LineLaws.{filled_line}
use Rattle.gob_filled_walk.proofs.line.put_line.Goals as goal

pub returns : goal.returns
returns c =
    let bytes = bytes_each c.args.body.now (λ i. omega (arith, c.type_inv.body i)) in
    let value = c.in_ok-put_filled.ensures in
    filled_line bytes value.reads (c.in_ok-put.ensures ∙ ap (λ l. l ++ 125 ∷ 10 ∷ []) (value.put
    ∙ ap (λ l. l ++ held_text value.events) (c.in_ok-put_head.ensures
    ∙ ap (λ l. l ++ head_text c.args.id) c.requires.empty)))
