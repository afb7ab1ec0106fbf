-- The next filler is gone past, or there is none.
use Rattle.std.proofs.Common.{◌+◌, arith, refl}
use Rattle.std.proofs.lemmas.Result.{on_ok_weaker}
use Rattle.json.specs.Json as json
use Rattle.gob_plain.proofs.FillerLaws.{next_there, filler_there, said_at, said_next, null_past, same_past}
use Rattle.gob_plain.proofs.SomeLaws.{some_of, some_weaker, one_written}
use Rattle.gob_plain.proofs.fillers.FillersNilTexts.write_nil.Goals as goal

pub write_next-requires : goal.write_next-requires
write_next-requires c =
    let all = c.args.self.now.all.now in
    filler_there all c.args.self.now.passed c.in-Some.next.now c.requires
    (next_there all c.args.self.now.passed c.in-Some.next.now c.in-Some.ensures.lookup.3.0
    c.in-Some.ensures.lookup.1)

pub returns-in-None-clause-written : goal.returns-in-None-clause-written
returns-in-None-clause-written c =
    some_of (one_written c.null.ensures) (
      json.null,
      null_past c.args.self.now.all.now (c.args.self.now.passed + 0) (omega (arith, c.in-None.ensures.lookup.3)),
      refl,
    )

pub returns-in-None-clause-passed : goal.returns-in-None-clause-passed
returns-in-None-clause-passed c =
    on_ok_weaker c.null.result
    (λ _ k j h. same_past c.args.self.now.all.now (c.args.self.now.passed + k) (c.args.self.now.passed + (1 + k)) j
    (omega (arith, c.in-None.ensures.lookup.3)) (omega (arith, c.in-None.ensures.lookup.3)) h)
    c.null.ensures.ok

pub returns-in-Some-clause-written : goal.returns-in-Some-clause-written
returns-in-Some-clause-written c =
    let all = c.args.self.now.all.now in
    some_weaker
    (λ ts p. (
      p.0,
      said_next all c.args.self.now.passed c.in-Some.next.now p.0
          (next_there all c.args.self.now.passed c.in-Some.next.now c.in-Some.ensures.lookup.3.0
          c.in-Some.ensures.lookup.1)
          p.1,
      p.2,
    ))
    c.write_next.ensures

pub returns-in-Some-clause-passed : goal.returns-in-Some-clause-passed
returns-in-Some-clause-passed c =
    on_ok_weaker c.write_next.result
    (λ _ k j h. said_at c.args.self.now.all.now ((c.args.self.now.passed + 1) + k) (c.args.self.now.passed + (1 + k)) j
    (omega arith) h)
    c.write_next.ensures.tokens
