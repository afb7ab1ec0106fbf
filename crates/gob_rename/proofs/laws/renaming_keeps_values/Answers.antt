-- The shapes differ in the names of fields alone, so each table follows the other.
use Rattle.gob_rename.proofs.AlikeLaws.{ready_follows, top_follows}
use Rattle.gob_rename.proofs.RenamedLaws.{renamed_on, renamed_back}
use Rattle.gob_rename.proofs.laws.renaming_keeps_values.Goals as goal

pub returns-clause-spellings : goal.returns-clause-spellings
returns-clause-spellings c = λ rs T t v b k.
    (λ s. top_follows (renamed_on rs k) s, λ s. top_follows (renamed_back rs k) s)

pub returns-clause-ready : goal.returns-clause-ready
returns-clause-ready c = λ rs T t k.
    let on = renamed_on rs k in
    let back = renamed_back rs k in
    (λ r. ready_follows on back r, λ r. ready_follows back on r)
