-- It ends as it would without a clash, but where it would end well.
use Rattle.gob.proofs.ClashLaws.{ends_at_clash}
use Rattle.gob.proofs.convert.clashed.Goals as goal

pub returns-clause-settled : goal.returns-clause-settled
returns-clause-settled g c =
    let s = c.settled-ending.ensures.settled in
    record {
      lost = s.lost;
      ends = ends_at_clash s.told _ c.ended_at.result s.tells s.answered c.ended_at.ensures.clash
          c.ended_at.ensures.other;
      all = s.all;
    }
