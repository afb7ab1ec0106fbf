use Rattle.gob_salvage.proofs.BehindLaws.{tells_some}
use Rattle.gob_salvage.proofs.behind.tell_behind.Goals as goal

pub returns-in-Some : goal.returns-in-Some
returns-in-Some c =
    tells_some c.args.front.now c.in-Some.kept c.drop_front.new.self c.args.told.now c.in-Some.is c.drop_front.ensures
