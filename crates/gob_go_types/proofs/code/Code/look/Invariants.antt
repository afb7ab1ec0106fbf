-- What is seen from there is seen from the place.
use Rattle.gob_go_types.specs.declared.sight.Sight.{Sight}
use Rattle.gob_go_types.specs.Sight.{Seen}
use Rattle.gob_go_types.proofs.code.Code.look.Given as goal

abbrev pub invariant-looks : goal.invariant-looks
invariant-looks l = (v : Sight) → Seen l.self.source.now v l.at → Seen l.self.source.now v l.fn.place
