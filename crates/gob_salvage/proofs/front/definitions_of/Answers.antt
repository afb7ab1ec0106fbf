use Rattle.std.proofs.Common.{Some, ap, arith}
use Rattle.gob_salvage.proofs.FrontLaws.{defines_types}
use Rattle.gob_salvage.proofs.front.definitions_of.Goals as goal

pub returns-in-Ok : goal.returns-in-Ok
returns-in-Ok c = λ items T a.
    let item = c.may_have.ensures.item c.if-may_have.true in
    let stream = c.may_have.ensures.stream c.if-may_have.true in
    defines_types a (c.in-Ok.ensures.defined c.args.stream.now (ap (λ r. Some r.now) c.new-input.ensures.reader))
    c.new-definitions.ensures.items (omega arith) (omega arith)
