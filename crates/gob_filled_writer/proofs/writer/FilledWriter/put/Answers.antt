use Rattle.std.proofs.Common.{arith, refl, subst}
use Rattle.std.proofs.lemmas.Int.{ints}
use Rattle.std.proofs.lemmas.Result.{err_from_is_err_and}
use Rattle.gob_types.specs.Denial.{IsDenial}
use Rattle.gob_types.specs.Table as known
use Rattle.gob_filled.specs.Stream.{putting}
use Rattle.gob_stream.specs.Body.{MayPut}
use Rattle.gob_stream.specs.Bounds.{within_trees}
use Rattle.gob_stream.specs.WriterRefusal.{RefusesType}
use Rattle.gob_stream.proofs.DenialLaws.{denial_weaker}
use Rattle.gob_filled_writer.specs.Writing.{refused_type}
use Rattle.gob_filled_writer.proofs.WriterLaws.{denied, sent, value_item, value_refused}
use Rattle.gob_filled_writer.proofs.writer.FilledWriter.put.Goals as goal

pub returns-in_err-judge_type-clause-writes : goal.returns-in_err-judge_type-clause-writes
returns-in_err-judge_type-clause-writes g c = λ items bytes T value h spelled.
    let p = err_from_is_err_and c.from_residual.result c.from_residual.ensures.1 in
    let w = c.args.self.now in
    let why = c.in_err-judge_type.field-0.0 in
    let judged = subst (λ (K : known.Table). IsDenial (RefusesType K c.args.id) why) h.table
    c.in_err-judge_type.ensures.judged in
    rw (p.1, p.2) (denied (within_trees w.limits) w items bytes T (putting c.args.id value) _ why
    (denial_weaker why (λ r. refused_type) judged))

pub returns-in_err-head-clause-writes : goal.returns-in_err-head-clause-writes
returns-in_err-head-clause-writes g c = λ items bytes T value h spelled.
    let p = err_from_is_err_and c.from_residual-in_err-head.result c.from_residual-in_err-head.ensures.1 in
    let w = c.args.self.now in
    let why = c.in_err-head.field-0.0 in
    let may = subst (λ (K : known.Table). MayPut K c.args.id) h.table c.in_ok-judge_type.ensures.judged in
    let refused = rw (c.up_to-limits.ensures, h.offset) at c.in_err-head.ensures.err in
    rw (p.1, p.2) (denied (within_trees w.limits) w items bytes T (putting c.args.id value) _ why
    (denial_weaker why
    (λ r. value_refused may spelled (omega (arith, ints, c.in_ok-judge_type.ensures.small))) refused))

pub returns-clause-writes : goal.returns-clause-writes
returns-clause-writes g c = λ items bytes T value h spelled.
    let w = c.args.self.now in
    let may = subst (λ (K : known.Table). MayPut K c.args.id) h.table c.in_ok-judge_type.ensures.judged in
    let head = rw (c.up_to-limits.ensures, h.offset) at c.in_ok-head.ensures.ok in
    sent w w c.send.new.self _ items bytes T T (putting c.args.id value) _ _ c.send.result h
    (record { limits = refl; most = refl; table = h.table; offset = refl })
    (value_item may spelled (omega (arith, ints, c.in_ok-judge_type.ensures.small)) head)
    (rw c.deref.ensures.value at c.send.ensures.sends)
