-- What is received of the value is put.
use Rattle.std.proofs.Common.{subst, sym}
use Rattle.gob_types.specs.Defined.{types}
use Rattle.gob_types.specs.Ready.{IsReady}
use Rattle.gob_match.specs.Matching.{Match}
use Rattle.gob_filled_match.specs.Calls.{MakesReceived}
use Rattle.gob_convert.proofs.ValueLaws.{filled_from, puts_received}
use Rattle.gob_convert.proofs.conversion.Conversion.put.Goals as goal

pub receive_filled-requires-clause-wanted_ready : goal.receive_filled-requires-clause-wanted_ready
receive_filled-requires-clause-wanted_ready c =
    subst (λ t. IsReady (types t) c.wanted.result.id) (sym c.wanted.ensures.table)
    (subst (λ i. IsReady (types c.args.target.now.table) i) (sym c.wanted.ensures.id) c.requires.wanted_ready)

pub returns-clause-put : goal.returns-clause-put
returns-clause-put c = λ w items bytes m h r fits.
    let T = types c.args.table.now in
    let W = types c.args.target.now.table in
    let t = c.args.given.id in
    let mr = subst (λ d. MakesReceived T (types d) t c.args.target.now.id c.in-Ok.received w)
    c.wanted.ensures.table
    (subst (λ i. MakesReceived T (types c.wanted.result.table.now) t i c.in-Ok.received w) c.wanted.ensures.id
    (c.in-Ok.ensures.received w m)) in
    let match = subst (λ d. Match T (types d) t c.args.target.now.id) c.wanted.ensures.table
    (subst (λ i. Match T (types c.wanted.result.table.now) t i) c.wanted.ensures.id
    c.in-Ok.ensures.matched) in
    puts_received (c.in_ok-left.ensures.left w m) match c.in_ok-add.ensures.tallied mr
    (c.in_ok-take_held.ensures.taken mr.skeleton mr.fillings items bytes h r (filled_from mr fits))

pub returns-in-Err-clause-put : goal.returns-in-Err-clause-put
returns-in-Err-clause-put c = λ w items bytes m h r fits. c.unmatched.ensures.stops c.args.target.now.all w
