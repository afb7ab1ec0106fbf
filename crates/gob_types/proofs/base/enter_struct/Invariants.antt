use Rattle.std.proofs.Common.{◌≡◌, take, map}
use Rattle.gob_types.specs.Base.{field}
use Rattle.gob_types.proofs.base.enter_struct.Given as goal

-- the fields so far are copies of the first ones that are wanted
abbrev pub invariant-loop-name : goal.invariant-loop-name
invariant-loop-name l = l.items.items ≡ map (λ f. field f.0.now f.1) (take l.name-index l.fields)
