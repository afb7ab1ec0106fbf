use Rattle.std.proofs.Common.{refl, sym, subst, arith}
use Rattle.gob_value.proofs.PublicLaws.{fault_at}
use Rattle.std.proofs.lemmas.Result.{IfOk-from_err}
use Rattle.gob_match.specs.Faults.{IsMatchFault}
use Rattle.gob_match.specs.Pairs.{of_types}
use Rattle.gob_match.proofs.ConversionLaws.{conversions_none, conversions_on, matched, converts_match}
use Rattle.gob_match.proofs.SearchLaws.{Searched, searched_start, searched_on, searched_match, search_ends}
use Rattle.gob_match.proofs.matching.match_types.Goals as goal

pub loop-next-init : goal.loop-next-init
loop-next-init g c =
    let T = g.S.Shapes.table c.args.stream.now in
    let U = g.T.Shapes.table c.args.wanted.now in
    let start = of_types c.args.id c.args.wanted_id in
    record {
      searched = subst (λ es. Searched T U start es 0) (sym c.in_ok-found.ensures)
          (searched_start start (record { stream = c.requires.stream_ready; wanted = c.requires.wanted_ready }));
      conversions = conversions_none c.new-conversions.ensures.items;
    }

pub keep_explored-requires-clause-ready : goal.keep_explored-requires-clause-ready
keep_explored-requires-clause-ready g c = λ p at. let r = c.loop-next.invariant.searched.ready c.loop-next.next p at in
    (r.stream, r.wanted)

pub keep_explored-requires-clause-path : goal.keep_explored-requires-clause-path
keep_explored-requires-clause-path g c = c.loop-next.invariant.searched.paths c.loop-next.next
    (omega (arith, c.loop-next-test.true, c.count.ensures.count))

pub returns-in_err-keep_explored-clause-fault : goal.returns-in_err-keep_explored-clause-fault
returns-in_err-keep_explored-clause-fault g c =
    let T = g.S.Shapes.table c.args.stream.now in
    let U = g.T.Shapes.table c.args.wanted.now in
    fault_at (IsMatchFault T U c.args.id c.args.wanted_id) c.from_residual-in_err-keep_explored.result
    c.in_err-keep_explored.field-0.0
    c.from_residual-in_err-keep_explored.ensures.1
    (search_ends c.loop-next.invariant.searched c.in_err-keep_explored.field-0.0
    c.in_err-keep_explored.ensures.fault)

pub loop-next-preserved : goal.loop-next-preserved
loop-next-preserved g c =
    let k = c.in_ok-keep_explored.ensures.kept in
    let l = k.explores in
    record {
      searched = searched_on {start = of_types c.args.id c.args.wanted_id} c.loop-next.invariant.searched l.at
          (converts_match l.converts) l.added;
      conversions = conversions_on c.loop-next.invariant.conversions l k.kept;
    }

pub returns-clause-matched : goal.returns-clause-matched
returns-clause-matched g c = searched_match c.loop-next.invariant.searched
    (omega (arith, c.loop-next-test.false, c.count.ensures.count))

pub returns-clause-of : goal.returns-clause-of
returns-clause-of g c = record { of_stream = refl; of_type = refl; of_wanted = refl; of_wanted_type = refl }

pub returns-clause-sound : goal.returns-clause-sound
returns-clause-sound g c = matched c.loop-next.invariant.searched c.loop-next.invariant.conversions
    (omega (arith, c.loop-next-test.false, c.count.ensures.count))

pub returns-in_err-found-clause-matched : goal.returns-in_err-found-clause-matched
returns-in_err-found-clause-matched g c = IfOk-from_err c.from_residual.result _ c.from_residual.ensures.0

pub returns-in_err-found-clause-of : goal.returns-in_err-found-clause-of
returns-in_err-found-clause-of g c = IfOk-from_err c.from_residual.result _ c.from_residual.ensures.0

pub returns-in_err-found-clause-sound : goal.returns-in_err-found-clause-sound
returns-in_err-found-clause-sound g c = IfOk-from_err c.from_residual.result _ c.from_residual.ensures.0

pub returns-in_err-keep_explored-clause-matched : goal.returns-in_err-keep_explored-clause-matched
returns-in_err-keep_explored-clause-matched g c = IfOk-from_err c.from_residual-in_err-keep_explored.result _
    c.from_residual-in_err-keep_explored.ensures.0

pub returns-in_err-keep_explored-clause-of : goal.returns-in_err-keep_explored-clause-of
returns-in_err-keep_explored-clause-of g c = IfOk-from_err c.from_residual-in_err-keep_explored.result _
    c.from_residual-in_err-keep_explored.ensures.0

pub returns-in_err-keep_explored-clause-sound : goal.returns-in_err-keep_explored-clause-sound
returns-in_err-keep_explored-clause-sound g c = IfOk-from_err c.from_residual-in_err-keep_explored.result _
    c.from_residual-in_err-keep_explored.ensures.0
