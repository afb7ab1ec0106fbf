use Rattle.std.proofs.Common.{◌∷◌, [], ◌++◌, List, ℕ, arith, refl, sym, subst}
use Rattle.gob_num.specs.Unsigned.{IsUnsigned, short}
use Rattle.gob_read.proofs.Machine.Runs.{fresh_is, number_answers, number_can_take}
use Rattle.gob_read.proofs.run.Run.take_zero.Goals as goal

pub take_whole_number-requires : goal.take_whole_number-requires
take_whole_number-requires g c =
    let none = fresh_is c.in-Number.item c.in-Number.is c.requires.before.has_read
    (c.requires.clear c.requires.at_nil.id c.requires.at_nil.expected c.requires.at_nil.kind) in
    let spelled = subst (λ (r : List ℕ). IsUnsigned 0 (r ++ 0 ∷ [])) (sym none) (short (omega arith)) in
    number_can_take c.in-Number.item (0 ∷ []) c.in-Number.is c.requires.before.has_read spelled
    (let r = c.requires.before.room in omega arith)

pub returns-clause-taken : goal.returns-clause-taken
returns-clause-taken g c =
    let none = fresh_is c.in-Number.item c.in-Number.is c.requires.before.has_read
    (c.requires.clear c.requires.at_nil.id c.requires.at_nil.expected c.requires.at_nil.kind) in
    let spelled = subst (λ (r : List ℕ). IsUnsigned 0 (r ++ 0 ∷ [])) (sym none) (short (omega arith)) in
    number_answers _ _ _ _ _ c.in-Number.item (0 ∷ []) c.take_whole_number.result c.in-Number.is refl none refl refl
    refl refl spelled c.take_whole_number.ensures
