use Rattle.std.proofs.Common.{Some, ap}
use Rattle.gob.proofs.salvage.counted.Goals as goal

pub returns : goal.returns
returns c = c.salvage_all.ensures.kept c.args.stream.now (ap (λ r. Some r.now) c.new.ensures.reader)
