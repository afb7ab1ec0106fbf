-- What is made and done is what was asked for.
use Rattle.std.proofs.Common.{subst}
use Rattle.std.specs.Option.{option_copied}
use Rattle.gob_go_source.specs.declared.declarations.GoSource.{GoSource}
use Rattle.gob_go_types.specs.Types.{AreTypesOf}
use Rattle.gob_go_types.proofs.KeptLaws.{sound_none, types_made}
use Rattle.gob_go_types.proofs.KindLaws.{of_on}
use Rattle.gob_go_types.proofs.types.types_of.Goals as goal

pub id_of-requires-clause-sound : goal.id_of-requires-clause-sound
id_of-requires-clause-sound c =
    sound_none _ _ c.in_ok-numbers.ensures.slots c.in_ok-numbers.ensures.ids c.in_ok-numbers.ensures.made

pub returns-clause-types : goal.returns-clause-types
returns-clause-types c =
    subst (λ (s : GoSource). AreTypesOf s (option_copied c.args.named) c.in_ok-definitions.definitions.items
    c.in_ok-id.id)
    c.in_ok-code.ensures.source
    (types_made c.in_ok-code.code.source.now _ c.finish.new.numbers c.in_ok-wanted.wanted c.in_ok-sight.sight
    c.in_ok-id.id _ c.in_ok-definitions.ensures c.in_ok-finish.ensures.sound c.in_ok-finish.ensures.done
    c.in_ok-wanted.ensures c.in_ok-sight.ensures.seen
    (of_on _ _ _ c.in_ok-finish.ensures.keeps c.in_ok-id.ensures.says))
