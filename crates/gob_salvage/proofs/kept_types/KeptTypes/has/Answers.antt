use Rattle.std.proofs.Common.{◌∙◌, sym, rules, tests}
use Rattle.gob_salvage.proofs.NotingLaws.{any_noted}
use Rattle.gob_salvage.proofs.kept_types.KeptTypes.has.Goals as goal

pub returns : goal.returns
returns c = λ is kept noted.
    any_noted c.args.id.0 _ c.args.self.now.ids.keys noted.each (sym c.contains.ensures ∙ is)
    (λ k e. search (rules, tests))
