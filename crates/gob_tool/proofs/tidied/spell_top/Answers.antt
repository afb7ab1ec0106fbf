use Rattle.std.proofs.Common.{rules, ◌∙◌, ◌∷◌, [], ◌++◌, ap, List, ℕ}
use Rattle.std.proofs.lemmas.Result.{on_ok_weaker}
use Rattle.gob_tool.proofs.TidiedLaws.{struct_spelled, tagged_spelled}
use Rattle.gob_tool.proofs.tidied.spell_top.Goals as goal

pub returns-then-has_structs : goal.returns-then-has_structs
returns-then-has_structs c = on_ok_weaker c.spell_tape.result (λ spells v bytes m top.
    struct_spelled (c.if-has_structs.ensures.0 (search rules)) c.requires spells m top) c.spell_tape.ensures.ok

pub returns : goal.returns
returns c = on_ok_weaker c.spell_tape-2.result (λ spells v bytes m top.
    tagged_spelled (λ has. absurd (search (rules, c.if-has_structs.ensures.1 has)))
    (c.in_ok-push.ensures.items ∙ ap (λ (l : List ℕ). l ++ 0 ∷ []) c.requires) spells m top) c.spell_tape-2.ensures.ok
