use Rattle.std.proofs.Common.{arith}
use Rattle.std.proofs.lemmas.Bool.{eqb-false, eqb-true}
use Rattle.gob_stream.proofs.reader_of.ReaderOf.read_once.Goals as goal

pub returns-in-Ok-clause-read : goal.returns-in-Ok-clause-read
returns-in-Ok-clause-read g c =
    let b = c.in-Ok.ensures.read in
    record {
      more = b.more;
      read = b.read;
      behind = b.behind;
      room = c.in-Ok.ensures.grown;
      some = λ e. omega (arith, eqb-false c.in-Ok.count 0 e, b.counted);
      end = λ e. b.end (eqb-true c.in-Ok.count 0 e);
    }
