-- From step to step the lines of the items that were read go out, and at the end the piece was read.
use Rattle.std.proofs.Common.{◌∙◌, ◌++◌, ap, arith, refl, subst, Ok, Err, length, take, length-drop}
use Rattle.std.proofs.lemmas.List.{take_rest}
use Rattle.gob_types.specs.Defined.{types}
use Rattle.gob_stream.specs.Bounds.{within_trees}
use Rattle.gob_stream.specs.Calls.Ends.{writer_of}
use Rattle.gob_go.specs.Calls.Session.{limits_of}
use Rattle.gob_tool.specs.Fault.{reading_fault}
use Rattle.gob_tool.proofs.EndLaws.{at_error}
use Rattle.gob_convert.specs.Machine.Printing.{ShowsItem, ShowsPiece}
use Rattle.gob_convert.proofs.ShownLaws.{shows_all, shows_first, shows_refused, shows_step, shows_unsent, step_over}
use Rattle.gob_convert.proofs.ShownLaws.{cut_under, stream_under}
use Rattle.gob_convert.proofs.shown.show_piece.Goals as goal

pub items-init : goal.items-init
items-init g c = record {
  limits = refl;
  writes = refl;
  within = omega arith;
  so = λ stream start h. shows_first c.args.piece.now h;
}

pub returns-in_err-step-clause-shown : goal.returns-in_err-step-clause-shown
returns-in_err-step-clause-shown g c = λ stream start h ends.
    let i = c.items.invariant in
    let e = c.in_err-step.field-0.0 in
    let s = i.so stream start h in
    at_error (λ r. ShowsPiece (within_trees (limits_of c.args.session.now)) c.step.new.self
    (stream ++ c.args.piece.now) start (g.W.Write.contents (writer_of c.items.output)) r)
    c.from_residual.result (reading_fault e) c.from_residual.ensures.1
    (cut_under (reading_fault e) i.limits
    (shows_refused c.step.new.self stream c.args.piece.now c.items.used e s (stream_under i.limits ends)
    (step_over c.items.session c.step.new.self s.items (stream ++ take c.items.used c.args.piece.now) c.args.piece.now
    c.items.used (Err e) (c.in_err-step.ensures.advances s.items _ s.read))))

pub items-preserved : goal.items-preserved
items-preserved g c =
    let i = c.items.invariant in
    let used = c.in_ok-step.ensures.used.1 in
    record {
      limits = c.in_ok-step.ensures.limits ∙ i.limits;
      writes = c.in_ok-show_item.ensures.writes ∙ i.writes;
      within = omega (
        arith,
        used,
        i.within,
        ap length (take_rest c.args.piece.now c.items.used),
        length-drop c.items.used c.args.piece.now,
      );
      so = λ stream start h.
          let s = i.so stream start h in
          shows_step stream c.args.piece.now c.items.used c.in_ok-step.step.used c.in_ok-step.step.item
          c.in_ok-step.ensures.limits s (step_over c.items.session c.step.new.self s.items
          (stream ++ take c.items.used c.args.piece.now) c.args.piece.now c.items.used (Ok c.in_ok-step.step)
          (c.in_ok-step.ensures.advances s.items _ s.read)) c.in_ok-step.ensures.between
          (subst (λ T. ShowsItem c.in_ok-step.step.item T (g.W.Write.contents (writer_of c.items.output))
          (g.W.Write.contents (writer_of c.show_item.new.output)) (Ok tt)) (ap types c.table.ensures)
          c.in_ok-show_item.ensures.shown);
    }

pub returns-in_err-show_item-clause-shown : goal.returns-in_err-show_item-clause-shown
returns-in_err-show_item-clause-shown g c = λ stream start h ends.
    let i = c.items.invariant in
    let f = c.in_err-show_item.field-0.0 in
    let s = i.so stream start h in
    at_error (λ r. ShowsPiece (within_trees (limits_of c.args.session.now)) c.step.new.self
    (stream ++ c.args.piece.now) start (g.W.Write.contents (writer_of c.show_item.new.output)) r)
    c.from_residual-in_err-show_item.result f c.from_residual-in_err-show_item.ensures.1
    (cut_under f i.limits
    (shows_unsent stream c.args.piece.now c.items.used c.in_ok-step.step.used c.in_ok-step.step.item f
    c.in_ok-step.ensures.limits s (step_over c.items.session c.step.new.self s.items
    (stream ++ take c.items.used c.args.piece.now) c.args.piece.now c.items.used (Ok c.in_ok-step.step)
    (c.in_ok-step.ensures.advances s.items _ s.read)) c.in_ok-step.ensures.between
    (subst (λ T. ShowsItem c.in_ok-step.step.item T (g.W.Write.contents (writer_of c.items.output))
    (g.W.Write.contents (writer_of c.show_item.new.output)) (Err f)) (ap types c.table.ensures)
    c.in_err-show_item.ensures.shown)))

pub returns-clause-shown : goal.returns-clause-shown
returns-clause-shown g c = λ stream start h ends.
    let i = c.items.invariant in
    shows_all stream c.args.piece.now c.items.used (omega (arith, c.items-test.false)) (i.so stream start h)
    (stream_under i.limits ends)
