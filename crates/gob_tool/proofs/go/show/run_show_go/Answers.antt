use Rattle.gob_stream.specs.Bounds.{within_trees}
use Rattle.gob_stream.specs.Calls.Ends.{reader_of, writer_of}
use Rattle.gob_tool.specs.Machine.LinesGo.{ShowsInLines}
use Rattle.gob_tool.proofs.Profile.ShowLaws.{shown_in_lines}
use Rattle.gob_tool.proofs.Profile.TextLaws.{texts_of}
use Rattle.gob_tool.proofs.go.show.run_show_go.Goals as goal

pub returns-clause-shown : goal.returns-clause-shown
returns-clause-shown g c = λ bytes known.
    let L = within_trees c.args.limits in
    let now = g.R.Read.remaining (reader_of c.run_texts.new.input) in
    let old = g.W.Write.contents (writer_of c.args.output.now) in
    let new = g.W.Write.contents (writer_of c.run_texts.new.output) in
    shown_in_lines L bytes now old new c.run_texts.result
    (texts_of ShowsInLines L bytes now old new c.run_texts.result (c.run_texts.ensures.written bytes known))
