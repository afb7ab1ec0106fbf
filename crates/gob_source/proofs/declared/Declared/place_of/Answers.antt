-- The place is that which is known.
use Rattle.std.proofs.Common.{◌∙◌}
use Rattle.gob_source.proofs.declared.Declared.place_of.Goals as goal

pub returns : goal.returns
returns g c = c.copied.ensures ∙ c.get.ensures.value ∙ c.args.self.now.known_ids.each c.args.id
