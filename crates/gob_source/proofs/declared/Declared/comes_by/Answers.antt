-- Places tell which type comes by the other.
use Rattle.std.proofs.Common.{◌∙◌, ap}
use Rattle.gob_source.specs.Places.{first_id, stands_by}
use Rattle.gob_source.proofs.PlaceLaws.{by_place}
use Rattle.gob_source.proofs.declared.Declared.comes_by.Goals as goal

pub returns : goal.returns
returns g c =
    let ids = c.args.self.now.ids.now in
    c.stands_by.ensures ∙ ap (λ p. stands_by p c.place_of-2.result) c.place_of.ensures
    ∙ ap (λ q. stands_by (first_id 0 ids c.args.id) q) c.place_of-2.ensures ∙ by_place 0 ids c.args.of c.args.id
