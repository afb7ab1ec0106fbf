-- What is appended, and what the rest would append, is all.
use Rattle.std.proofs.Common.{◌≡◌, ◌++◌, drop}
use Rattle.gob_source.specs.Registered.{namings}
use Rattle.gob_source.specs.Source.{basic_namings}
use Rattle.gob_source.proofs.registrations.push_basic_namings.Given as goal

abbrev pub invariant-loop-one : goal.invariant-loop-one
invariant-loop-one l =
    l.out.items ++ basic_namings (namings (drop l.one-index l.registered))
    ≡ l.fn.out.items ++ basic_namings (namings l.registered)
