use Rattle.gob_go_writer.proofs.PlainSteps.{none_in}
use Rattle.gob_salvage.proofs.keeping.Keeper.has_definitions.Goals as goal

pub returns-then-is_empty : goal.returns-then-is_empty
returns-then-is_empty c = λ is.
    let gaps = c.args.self.now.kept.gaps in
    record {
      all = none_in gaps.items gaps.len c.is_empty.result gaps.ok.0 c.is_empty.ensures c.if-is_empty.true;
      only = c.has_no_value.ensures is;
    }
