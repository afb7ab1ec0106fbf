-- The next filler is gone past, or there is none.
use Rattle.std.proofs.Common.{◌+◌, arith, refl}
use Rattle.std.proofs.lemmas.Result.{on_ok_weaker}
use Rattle.json.specs.Json as json
use Rattle.gob_plain.proofs.FillerLaws.{next_there, filler_there, said_at, said_next, null_past, same_past}
use Rattle.gob_plain.proofs.SomeLaws.{some_of, some_weaker, one_written}
use Rattle.gob_plain.proofs.fillers.FillersNilTexts.write_name.Goals as goal

pub write_next_name-requires : goal.write_next_name-requires
write_next_name-requires c =
    let all = c.args.self.now.all.now in
    filler_there all c.args.self.now.passed c.in-Some.next.now c.requires
    (next_there all c.args.self.now.passed c.in-Some.next.now c.in-Some.ensures.lookup.3.0
    c.in-Some.ensures.lookup.1)

pub returns-in_default-clause-written : goal.returns-in_default-clause-written
returns-in_default-clause-written c =
    some_of (one_written c.key.ensures) (
      json.null,
      null_past c.args.self.now.all.now (c.args.self.now.passed + 0) (omega (arith, c.in_default.ensures.lookup.3)),
      refl,
    )

pub returns-in_default-clause-passed : goal.returns-in_default-clause-passed
returns-in_default-clause-passed c =
    on_ok_weaker c.key.result
    (λ _ k j h. same_past c.args.self.now.all.now (c.args.self.now.passed + k) (c.args.self.now.passed + (1 + k)) j
    (omega (arith, c.in_default.ensures.lookup.3)) (omega (arith, c.in_default.ensures.lookup.3)) h)
    c.key.ensures.ok

pub returns-clause-written : goal.returns-clause-written
returns-clause-written c =
    let all = c.args.self.now.all.now in
    some_weaker
    (λ ts p. (
      p.0,
      said_next all c.args.self.now.passed c.in-Some.next.now p.0
          (next_there all c.args.self.now.passed c.in-Some.next.now c.in-Some.ensures.lookup.3.0
          c.in-Some.ensures.lookup.1)
          p.1,
      p.2,
    ))
    c.write_next_name.ensures

pub returns-clause-passed : goal.returns-clause-passed
returns-clause-passed c =
    on_ok_weaker c.write_next_name.result
    (λ _ k j h. said_at c.args.self.now.all.now ((c.args.self.now.passed + 1) + k) (c.args.self.now.passed + (1 + k)) j
    (omega arith) h)
    c.write_next_name.ensures.tokens
