-- A key that is inserted is a name that is added.
use Rattle.std.proofs.Common.{◌≡◌, not, subst}
use Rattle.gob_source.specs.Machine.{has_name, with_name}
use Rattle.gob_source.proofs.FieldNameLaws.{bytes_of, name_added}
use Rattle.gob_source.proofs.field_names.FieldNames.add.Goals as goal

pub returns : goal.returns
returns c =
    subst (λ names. (c.in_ok-new.new ≡ not (has_name c.args.name.now names))
    × (bytes_of c.insert_full.new.self.keys ≡ with_name names c.args.name.now)) c.self.view_is
    (name_added c.self.inside.names.keys c.insert_full.new.self.keys c.args.name c.in_ok-new.new
    c.in_ok-new.ensures.keys c.in_ok-new.ensures.added)
