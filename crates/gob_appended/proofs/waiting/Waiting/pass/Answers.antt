use Rattle.gob_appended.proofs.WaitingLaws.{advance}
use Rattle.gob_appended.proofs.waiting.Waiting.pass.Goals as goal

pub returns : goal.returns
returns c = advance c.args.self.now.room.items c.args.self.now.start c.args.self.now.end c.args.count c.requires
