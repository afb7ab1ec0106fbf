use Rattle.std.proofs.Common.{[], append-nil, sym, ap, ◌∙◌}
use Rattle.gob_stream.specs.declared.fault.Fault.TheVariants as fault
use Rattle.gob_stream.specs.Bounds.{within_trees}
use Rattle.gob_stream_laws.specs.Pieces.{joined, HasOutcome}
use Rattle.gob_stream_laws.proofs.Outcomes.{passed_on, begins_with_none, piece_stops, piece_taken, pieces_end}
use Rattle.gob_stream_laws.proofs.pieces.read_pieces.Goals as goal

pub returns-in_err-session : goal.returns-in_err-session
returns-in_err-session c = record {
  given = [];
  appended = sym (append-nil c.args.out.now.items);
  holds = passed_on (λ r. HasOutcome (within_trees c.args.limits) (joined c.args.pieces.now) [] r)
      c.from_residual.result fault.Memory c.from_residual.ensures.1 (begins_with_none (within_trees c.args.limits)
      (joined c.args.pieces.now));
}

pub loop-piece-init : goal.loop-piece-init
loop-piece-init c = record {
  limits = c.in_ok-session.ensures.limits;
  given = record {
    given = [];
    appended = sym (append-nil c.args.out.now.items);
    holds =
        c.in_ok-session.ensures.has_read;
  };
}

pub returns-in_err-feed : goal.returns-in_err-feed
returns-in_err-feed c =
    let limits = ap (λ L. within_trees L) c.loop-piece.invariant.limits in
    piece_stops c.shown_refusals_stay.ensures (within_trees c.args.limits) c.loop-piece.session c.feed.new.self
    c.args.pieces.now c.loop-piece.piece-index c.piece-item.result c.deref.result.now
    c.from_residual-in_err-feed.result c.in_err-feed.field-0.0
    c.deref.ensures.value c.from_residual-in_err-feed.ensures.1 limits c.piece-item.is c.loop-piece-test.true
    c.loop-piece.invariant.given c.in_err-feed.ensures.fed

pub loop-piece-preserved : goal.loop-piece-preserved
loop-piece-preserved c =
    let fed = rw c.deref.ensures.value at c.in_ok-feed.ensures.fed in
    record {
      limits = c.in_ok-feed.ensures.limits ∙ c.loop-piece.invariant.limits;
      given = piece_taken c.loop-piece.session c.feed.new.self c.args.pieces.now c.loop-piece.piece-index
          c.piece-item.result tt c.piece-item.is c.loop-piece-test.true c.loop-piece.invariant.given fed;
    }

pub returns : goal.returns
returns c =
    let limits = ap (λ L. within_trees L) c.loop-piece.invariant.limits in
    pieces_end (within_trees c.args.limits) c.loop-piece.session c.finish.new.self c.args.pieces.now
    c.loop-piece.piece-index c.finish.result limits c.loop-piece-test.false c.loop-piece.invariant.given
    c.finish.ensures.finishes
