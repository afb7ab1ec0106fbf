use Rattle.gob_nodes.proofs.SpelledLaws.{says_whole}
use Rattle.gob_nodes.proofs.value.spell_nodes.Goals as goal

pub returns-clause-spelled : goal.returns-clause-spelled
returns-clause-spelled c =
    let put = c.in_ok-end.ensures.says in
    record { bytes = put.bytes; says = λ o. says_whole o put.says; appended = put.appended }
