use Rattle.std.proofs.Common.{◌≡◌, ◌+◌, length, refl, subst, take}
use Rattle.gob_stream.specs.Calls.ReaderOf.{session_of}
use Rattle.gob_stream.specs.Stepping.{ReadsOnBy}
use Rattle.gob_stream.proofs.Reader.ReaderOfLaws.{passes_one}
use Rattle.gob_stream.proofs.reader_of.ReaderOf.pass.Goals as goal

pub returns-clause-passed : goal.returns-clause-passed
returns-clause-passed g c =
    let D = g.S.Steps.stepping in
    passes_one D c.args.used c.requires.within c.pass-2.ensures.bytes
    (record { ended = refl; room = c.pass-2.ensures.room; limits = c.pass.ensures.limits })
    (subst (λ l. D.taken c.pass.new.self ≡ D.taken (session_of c.args.self.now) + length (take c.args.used l))
    c.bytes.ensures c.pass.ensures.taken)
    (subst (λ l. ReadsOnBy D (session_of c.args.self.now) c.pass.new.self (take c.args.used l)) c.bytes.ensures
    c.pass.ensures.passed)
