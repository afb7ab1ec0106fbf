use Rattle.std.proofs.Common.{List, ℕ, Some, subst}
use Rattle.gob_stream.specs.Bounds.{within_trees}
use Rattle.gob_stream.specs.Calls.Ends.{writer_of}
use Rattle.gob_join.specs.Joining.{JoinsWhole}
use Rattle.gob_salvage.proofs.StreamsLaws.{joined_on}
use Rattle.gob_salvage.proofs.streams.Joined.take_in.Goals as goal

pub returns : goal.returns
returns c = λ bytes later h next at kept _.
    let w = c.in_ok-take_stream.ensures.joined h.items _ h.put c.if-not-branch.false in
    let whole = subst (λ (z : List ℕ). JoinsWhole (within_trees c.args.limits) z w.0 c.take_stream.new.writer h.items
    (writer_of c.args.self.now.output).items (Some (writer_of c.args.self.now.output).items)
    (Some (writer_of c.take_stream.new.output).items)) c.deref.ensures.value w.1 in
    joined_on bytes h next at kept whole c.take_stream.ensures.limits c.told_gaps.ensures c.in_ok-push_moved.ensures
    c.in_ok-self.ensures.none c.in_ok-self.ensures.some
