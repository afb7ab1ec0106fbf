use Rattle.std.proofs.Common.{rules, ◌∙◌, ◌∷◌, [], ◌++◌, ap, List, ℕ}
use Rattle.std.proofs.lemmas.Result.{on_ok_weaker}
use Rattle.gob_tool.proofs.FormLaws.{spelled_struct, spelled_tagged}
use Rattle.gob_tool.proofs.received_form.spell_top.Goals as goal

pub returns-then-has_structs : goal.returns-then-has_structs
returns-then-has_structs c = on_ok_weaker c.spell_fitting.result (λ g.
    spelled_struct (c.if-has_structs.ensures.0 (search rules)) c.requires.empty g) c.spell_fitting.ensures

pub returns : goal.returns
returns c = on_ok_weaker c.spell_fitting-2.result (λ g.
    spelled_tagged (λ has. absurd (search (rules, c.if-has_structs.ensures.1 has)))
    (c.in_ok-push.ensures.items ∙ ap (λ (l : List ℕ). l ++ 0 ∷ []) c.requires.empty) g) c.spell_fitting-2.ensures
