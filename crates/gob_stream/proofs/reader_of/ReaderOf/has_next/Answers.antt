use Rattle.gob_stream.proofs.Reader.ReaderOfLaws.{lacks_some}
use Rattle.gob_stream.proofs.reader_of.ReaderOf.has_next.Goals as goal

pub returns-else-self-clause-lacks : goal.returns-else-self-clause-lacks
returns-else-self-clause-lacks g c = λ none.
    lacks_some g.S.Steps.stepping c.args.self.now c.bytes-bytes.result.now c.awaited.result c.is_none.result
    c.is_none.ensures none c.awaited.ensures.between c.awaited.ensures.begun
    c.awaited.ensures.given c.bytes-bytes.ensures c.if-self.false
