use Rattle.std.proofs.Common.{[]}
use Rattle.gob_types.specs.Defined.{types}
use Rattle.gob_read.proofs.PublicLaws.{usable}
use Rattle.gob_salvage.proofs.search.Search.spend_on.Goals as goal

pub push-requires : goal.push-requires
push-requires c =
    let after = c.in_ok-reader.ensures (types c.args.table.now) c.requires in
    usable (record { limit = _; announced = _; bytes = []; after = after })
