use Rattle.gob_source_back.proofs.DifferLaws.{all_differ}
use Rattle.gob_source_back.proofs.GrammarLaws.{source_declares}
use Rattle.gob_source_back.proofs.NoteLaws.{remarks, remarks_quiet}
use Rattle.gob_source_back.proofs.TextLaws.{file_read}
use Rattle.gob_source_back.proofs.TypeLaws.{types_alike}
use Rattle.gob_source_back.proofs.WrittenLaws.{among_is, source_is}
use Rattle.gob_source_back.proofs.laws.written_types_are_read_back.Goals as goal

pub returns : goal.returns
returns c = λ T ts ps s named D t u depth written text are asked.
    let source = source_is ps written.each in
    let file = file_read T ts source.structs (remarks ps) source.words (remarks_quiet ps) source.text text.lexed in
    let declared = source_declares file.name file.behind file.is file.tokens text.said in
    types_alike T ts s source.structs declared source.of (all_differ written) (λ v among. among_is v written.each among)
    named D t u depth are asked
