use Rattle.std.proofs.Common.{arith}
use Rattle.gob_stream.specs.Bounds.{within_trees}
use Rattle.gob_stream.specs.Calls.Ends.{reader_of, writer_of}
use Rattle.gob_tool.specs.RewritingGo.{IsRewritten}
use Rattle.gob_tool.proofs.Profile.RewriteLaws.{rewritten_so}
use Rattle.gob_tool.proofs.Profile.TextLaws.{texts_of}
use Rattle.gob_tool.proofs.go.rewrite.run_rewrite_go.Goals as goal

pub returns-clause-rewritten : goal.returns-clause-rewritten
returns-clause-rewritten g c = λ bytes known.
    let L = within_trees c.args.limits in
    let now = g.R.Read.remaining (reader_of c.run_texts.new.input) in
    let old = g.W.Write.contents (writer_of c.args.output.now) in
    let new = g.W.Write.contents (writer_of c.run_texts.new.output) in
    rewritten_so c.args.hoist L bytes now old new c.run_texts.result (omega arith)
    (texts_of (IsRewritten c.args.hoist) L bytes now old new c.run_texts.result
    (c.run_texts.ensures.written bytes known))
