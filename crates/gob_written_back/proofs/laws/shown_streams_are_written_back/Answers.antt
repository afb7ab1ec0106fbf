use Rattle.std.proofs.Common.{[], refl, sym}
use Rattle.gob_write.specs.Lines.{no_line}
use Rattle.gob_write.specs.Grammar.{say_none}
use Rattle.gob_written_back.proofs.CutLaws.{lines_cut}
use Rattle.gob_written_back.proofs.ExactLaws.{exact_once}
use Rattle.gob_written_back.proofs.SayLaws.{all_said}
use Rattle.gob_written_back.proofs.laws.shown_streams_are_written_back.Goals as goal

pub returns : goal.returns
returns c = λ L most items made bytes T few are stream short.
    let say = all_said [] [] [] few are stream refl say_none in
    record {
      cut = lines_cut T items [] no_line short;
      say = say;
      only = λ others d U given bytes said.
          let r = exact_once few given bytes say said in
          (sym r.0, sym r.1);
    }
