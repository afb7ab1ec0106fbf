-- What was said so far, and then what is said by the rest.
use Rattle.std.proofs.Common.{◌≡◌, drop}
use Rattle.gob_plain.specs.OpaqueText.{later, taken_as}
use Rattle.gob_plain.proofs.opaque.taken_as.Given as goal

abbrev pub invariant-loop-said : goal.invariant-loop-said
invariant-loop-said l = taken_as l.taken l.id ≡ later l.content (taken_as (drop l.said-index l.taken) l.id)
