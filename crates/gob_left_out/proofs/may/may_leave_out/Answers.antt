use Rattle.std.proofs.Common.{arith, length, sym, ◌≤◌, ◌∙◌, true≢false}
use Rattle.gob_types.proofs.FirstLaws.{all_first, more_first}
use Rattle.gob_types.proofs.PublicLaws.{contains_read}
use Rattle.gob_match.specs.Calls.Matched.{pairs_of}
use Rattle.gob_match.proofs.PublicLaws.{pairs_begin}
use Rattle.gob_left_out.proofs.MayLaws.{closed_at, none_lacks, none_left, some_lacks}
use Rattle.gob_left_out.proofs.may.may_leave_out.Goals as goal

pub lacks-requires : goal.lacks-requires
lacks-requires g c =
    let m = c.args.matched.now in
    let closed = closed_at g.S.Shapes.table g.T.Shapes.table m c.requires.sound c.requires.of_stream
    c.requires.of_wanted in
    closed.match c.pair_at.result (contains_read (pairs_of m) c.loop-place.place c.pair_at.result c.pair_at.ensures)

pub loop-place-preserved : goal.loop-place-preserved
loop-place-preserved g c =
    more_first c.loop-place.invariant c.pair_at.ensures
    (λ l. true≢false (sym (c.lacks.ensures.1 l) ∙ c.if-lacks.false))

pub returns-then-lacks-clause-told : goal.returns-then-lacks-clause-told
returns-then-lacks-clause-told g c = some_lacks c.loop-place.place c.pair_at.ensures (c.lacks.ensures.0 c.if-lacks.true)

pub returns-clause-told : goal.returns-clause-told
returns-clause-told g c =
    none_lacks c.loop-place.invariant (omega (arith, c.loop-place-test.false, c.pair_count-place-end.ensures))

pub returns-clause-nothing : goal.returns-clause-nothing
returns-clause-nothing g c = λ same v path x l.
    let m = c.args.matched.now in
    let closed = closed_at g.S.Shapes.table g.T.Shapes.table m c.requires.sound c.requires.of_stream
    c.requires.of_wanted in
    let all : length (pairs_of m) ≤ c.loop-place.place =
    omega (arith, c.loop-place-test.false, c.pair_count-place-end.ensures) in
    none_left closed (λ p there. all_first c.loop-place.invariant all there) l
    (pairs_begin g.S.Shapes.table g.T.Shapes.table m c.requires.sound)
