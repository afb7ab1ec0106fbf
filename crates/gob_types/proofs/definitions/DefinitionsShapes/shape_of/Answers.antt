use Rattle.std.proofs.Common.{◌∙◌, sym, ap}
use Rattle.gob_types.specs.Table.{shape_of}
use Rattle.gob_types.proofs.TableLaws.{types_are}
use Rattle.gob_types.proofs.definitions.DefinitionsShapes.shape_of.Goals as goal

pub returns : goal.returns
returns c = c.shape_of.ensures ∙ ap (λ T. shape_of T c.args.id) (sym (types_are c.self.view_is c.self.invariant))
