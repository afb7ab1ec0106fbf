use Rattle.std.proofs.Common.{arith, refl}
use Rattle.std.proofs.lemmas.Result.{on_ok_weaker}
use Rattle.gob_stream.proofs.Reader.FeedingSteps.{rest_of}
use Rattle.gob_salvage.proofs.KeepingSteps.{goes_from, pass_few, still_kept, values_kept}
use Rattle.gob_salvage.proofs.keeping.Keeper.go_on.Goals as goal

pub keep-requires-clause-few : goal.keep-requires-clause-few
keep-requires-clause-few c =
    let p = c.pass_values-passed.ensures in let h = c.requires.keeping.1 in
    let few = pass_few c.args.bytes.now h p.passed (p.both (omega arith)).1 p.limits in
    let some = few.0 in let within = few.1 in let items = h.few in let small = h.small in let fits = h.fits in
    omega arith

pub keep-requires-clause-near : goal.keep-requires-clause-near
keep-requires-clause-near c =
    let p = c.pass_values-passed.ensures in let h = c.requires.keeping.1 in
    let within = (pass_few c.args.bytes.now h p.passed (p.both (omega arith)).1 p.limits).1 in omega arith

pub keep-requires-clause-read : goal.keep-requires-clause-read
keep-requires-clause-read c =
    let p = c.pass_values-passed.ensures in let h = c.requires.keeping.1 in
    let within = (pass_few c.args.bytes.now h p.passed (p.both (omega arith)).1 p.limits).1 in
    let is = h.read_is in let few = h.few_read in let out = h.few_out in let small = h.small in let fits = h.fits in
    omega arith

pub returns-then-passed-gt0 : goal.returns-then-passed-gt0
returns-then-passed-gt0 c S h =
    let p = c.pass_values-passed.ensures in
    on_ok_weaker c.keep.result (λ m. goes_from c.requires.more refl refl (values_kept c.args.bytes.now h p.passed
    (p.both (omega arith)).1 p.limits p.types (omega arith) c.keep_values.ensures.limits
    c.in_ok-keep_values.ensures.noted
    m c.requires.more)) c.keep.ensures

pub take-requires-clause-keeping : goal.take-requires-clause-keeping
take-requires-clause-keeping c =
    let p = c.pass_values-passed.ensures in (
      c.requires.keeping.0,
      still_kept c.args.bytes.now (rest_of c.args.bytes.now c.args.self.now.at)
          c.requires.keeping.1 p.passed (omega arith) p.limits p.types,
    )

pub returns : goal.returns
returns c S h =
    let p = c.pass_values-passed.ensures in
    on_ok_weaker c.take.result (λ g. goes_from c.requires.more refl refl g) (c.take.ensures S
    (still_kept c.args.bytes.now (rest_of c.args.bytes.now c.args.self.now.at) h p.passed (omega arith) p.limits
    p.types))

pub returns-in-Some : goal.returns-in-Some
returns-in-Some c S h =
    let p = c.pass_values-passed.ensures in
    on_ok_weaker c.pass_repeated.result (λ g. goes_from c.requires.more refl refl g) (c.pass_repeated.ensures S
    c.args.bytes.now
    (still_kept c.args.bytes.now (rest_of c.args.bytes.now c.args.self.now.at) h p.passed (omega arith) p.limits
    p.types) c.in-Some.ensures)
