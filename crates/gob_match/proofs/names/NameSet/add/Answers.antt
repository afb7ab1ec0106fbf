use Rattle.std.proofs.Common.{subst}
use Rattle.gob_match.specs.Machine.Struct.{AddsName}
use Rattle.gob_match.proofs.NameLaws.{bytes_of, names_added}
use Rattle.gob_match.proofs.names.NameSet.add.Goals as goal

pub returns : goal.returns
returns c =
    subst (λ names. AddsName names (bytes_of c.insert_full.new.self.keys) c.args.name.now c.in_ok-new.new)
    c.self.view_is
    (names_added c.self.inside.names.keys c.insert_full.new.self.keys c.args.name c.in_ok-new.new
    c.in_ok-new.ensures.keys c.in_ok-new.ensures.added)
