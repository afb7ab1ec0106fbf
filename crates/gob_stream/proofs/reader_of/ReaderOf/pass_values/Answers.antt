use Rattle.std.proofs.Common.{refl, subst}
use Rattle.gob_stream.specs.Calls.ReaderOf.{session_of}
use Rattle.gob_stream.specs.Stepping.{ReadsItemsBy}
use Rattle.gob_stream.proofs.Reader.ReaderOfLaws.{passes_from}
use Rattle.gob_stream.proofs.reader_of.ReaderOf.pass_values.Goals as goal

pub returns-clause-passed : goal.returns-clause-passed
returns-clause-passed g c =
    let D = g.S.Steps.stepping in
    let p = c.pass_values-passed.result in
    passes_from D p
    (subst (λ l. ReadsItemsBy D (session_of c.args.self.now) c.pass_values-passed.new.self p.items p.used l)
    c.bytes.ensures c.pass_values-passed.ensures.passed) c.pass.ensures.bytes
    (record { ended = refl; room = c.pass.ensures.room; limits = c.pass_values-passed.ensures.limits })
    c.pass_values-passed.ensures.taken
