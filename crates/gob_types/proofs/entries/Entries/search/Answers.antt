use Rattle.std.proofs.Common.{◌∙◌, ap}
use Rattle.gob_types.specs.Table.{shape_of}
use Rattle.gob_types.proofs.TableLaws.{lookup-shape_of}
use Rattle.gob_types.proofs.entries.Entries.search.Goals as goal

pub returns : goal.returns
returns c =
    c.get.ensures.value ∙ lookup-shape_of c.self.inside.shapes.entries c.args.id
    ∙ ap (λ T. shape_of T c.args.id) c.self.view_is
