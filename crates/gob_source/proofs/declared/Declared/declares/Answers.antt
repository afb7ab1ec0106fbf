-- A type is among them where it stands first somewhere.
use Rattle.std.proofs.Common.{◌∙◌, ap, is_some}
use Rattle.gob_source.proofs.PlaceLaws.{among}
use Rattle.gob_source.proofs.declared.Declared.declares.Goals as goal

pub returns : goal.returns
returns g c = c.is_some.ensures ∙ ap is_some c.place_of.ensures ∙ among 0 c.args.self.now.ids.now c.args.id
