-- A name is taken where it stands before the type.
use Rattle.std.proofs.Common.{◌∙◌, ap}
use Rattle.gob_source.specs.Places.{first_named, precedes}
use Rattle.gob_source.proofs.PlaceLaws.{by_name}
use Rattle.gob_source.proofs.declared.Declared.is_taken.Goals as goal

pub returns : goal.returns
returns g c =
    let T = g.S.Shapes.table c.args.self.now.shapes.now in
    let ids = c.args.self.now.ids.now in
    let named = c.copied.ensures ∙ c.get.ensures.value ∙ c.args.self.now.known_names.each c.args.name in
    c.precedes.ensures ∙ ap (λ p. precedes p c.place_of.result) named
    ∙ ap (λ q. precedes (first_named T 0 ids c.args.name.now) q) c.place_of.ensures
    ∙ by_name T 0 ids c.args.id c.args.name.now
