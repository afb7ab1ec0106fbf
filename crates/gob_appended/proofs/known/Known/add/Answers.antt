use Rattle.gob_appended.proofs.KnownLaws.{noted}
use Rattle.gob_appended.proofs.known.Known.add.Goals as goal

pub returns-in-Ok-clause-noted : goal.returns-in-Ok-clause-noted
returns-in-Ok-clause-noted c =
    noted c.args.self.now.met.keys c.insert.new.self.keys (λ v. v.items) c.in_ok-bytes.bytes _
    (c.in_ok-bytes.ensures.items_if_clones_equal (λ x y h. h)) c.in-Ok.ensures.keys
