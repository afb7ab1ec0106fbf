-- What is appended, and what the rest would append, is all.
use Rattle.std.proofs.Common.{◌≡◌, ◌++◌, drop}
use Rattle.gob_source.specs.Registered.{names_of, names_text, namings}
use Rattle.gob_source.proofs.by_type.push_names.Given as goal

abbrev pub invariant-loop-place : goal.invariant-loop-place
invariant-loop-place l =
    l.out.items ++ names_text (drop l.place (names_of l.id (namings l.names.all.now)))
    ≡ l.fn.out.items ++ names_text (names_of l.id (namings l.names.all.now))
