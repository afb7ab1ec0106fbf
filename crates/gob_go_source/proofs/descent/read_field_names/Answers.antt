use Rattle.std.proofs.Common.{◌≡◌, [], rules}
use Rattle.gob_go_source.specs.Grammar.{names_stand, none_stands}
use Rattle.gob_go_source.proofs.descent.read_field_names.Goals as goal

pub returns-then-is_embedded : goal.returns-then-is_embedded
returns-then-is_embedded c =
    let none : c.new-names.result.items ≡ [] = search rules in
    rw none (none_stands (c.is_embedded.ensures c.if-is_embedded.true))

pub returns : goal.returns
returns c = names_stand c.in_ok-read_names.ensures
