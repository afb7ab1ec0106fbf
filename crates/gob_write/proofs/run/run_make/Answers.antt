use Rattle.std.proofs.Common.{◌∙◌, ap}
use Rattle.gob_stream.specs.Bounds.{Bounds, within_trees}
use Rattle.gob_stream.specs.Calls.Ends.{writer_of}
use Rattle.gob_write.specs.Making.{MakeAnswers}
use Rattle.gob_write.specs.declared.fault.LinesFault.TheVariants as fault
use Rattle.gob_write.proofs.MakeLaws.{ended_by, made_new, none_made, reads_at, writes_at}
use Rattle.gob_write.proofs.run.run_make.Goals as goal

pub returns-in_err-writer-clause-written : goal.returns-in_err-writer-clause-written
returns-in_err-writer-clause-written g c = λ bytes e.
    let L = within_trees c.args.limits in
    let old = g.W.Write.contents (writer_of c.args.output.now) in
    ended_by (λ r. MakeAnswers L c.args.types.now c.args.most bytes old old r) c.from_residual.result fault.Memory
    c.from_residual.ensures.1 (none_made L c.args.types.now c.args.most bytes old)

pub returns-in_err-end_lines-clause-written : goal.returns-in_err-end_lines-clause-written
returns-in_err-end_lines-clause-written g c = λ bytes e.
    let L = within_trees c.args.limits in
    let old = g.W.Write.contents (writer_of c.args.output.now) in
    let deep = c.depth.ensures.depth ∙ ap (λ (K : Bounds). K.depth) c.up_to.ensures in
    let new = made_new c.args.limits c.args.types.now c.in_ok-writer.writer c.depth.result c.item.result deep
    c.item.ensures c.in_ok-writer.ensures in
    ended_by (λ r. MakeAnswers L c.args.types.now c.args.most bytes old
    (g.W.Write.contents (writer_of c.end_lines.new.output)) r) c.from_residual-in_err-end_lines.result
    c.in_err-end_lines.field-0.0 c.from_residual-in_err-end_lines.ensures.1
    (c.in_err-end_lines.ensures.made L c.args.types.now c.args.most bytes old
    (c.write_made-answer.ensures.written c.args.limits bytes new e))

pub returns-in_err-end_lines-clause-reads : goal.returns-in_err-end_lines-clause-reads
returns-in_err-end_lines-clause-reads g c =
    reads_at _ _ c.from_residual-in_err-end_lines.result c.in_err-end_lines.field-0.0
    c.from_residual-in_err-end_lines.ensures.1
    (c.in_err-end_lines.ensures.reads _ _ c.write_made-answer.ensures.reads)

pub returns-in_err-end_lines-clause-writes : goal.returns-in_err-end_lines-clause-writes
returns-in_err-end_lines-clause-writes g c =
    writes_at _ _ c.from_residual-in_err-end_lines.result c.in_err-end_lines.field-0.0
    c.from_residual-in_err-end_lines.ensures.1
    (c.in_err-end_lines.ensures.writes _ c.write_made-answer.ensures.writes)

pub returns-clause-written : goal.returns-clause-written
returns-clause-written g c = λ bytes e.
    let deep = c.depth.ensures.depth ∙ ap (λ (K : Bounds). K.depth) c.up_to.ensures in
    let new = made_new c.args.limits c.args.types.now c.in_ok-writer.writer c.depth.result c.item.result deep
    c.item.ensures c.in_ok-writer.ensures in
    c.in_ok-end_lines.ensures.made (within_trees c.args.limits) c.args.types.now c.args.most bytes _
    (c.write_made-answer.ensures.written c.args.limits bytes new e)

pub returns-clause-reads : goal.returns-clause-reads
returns-clause-reads g c = c.in_ok-end_lines.ensures.reads _ _ c.write_made-answer.ensures.reads

pub returns-clause-writes : goal.returns-clause-writes
returns-clause-writes g c = c.in_ok-end_lines.ensures.writes _ c.write_made-answer.ensures.writes
