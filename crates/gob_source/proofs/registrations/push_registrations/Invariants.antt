-- What is appended, and what the rest would append, is all, and what was seen is known.
use Rattle.std.proofs.Common.{◌≡◌, ◌++◌, [], drop, take}
use Rattle.gob_source.specs.Machine.{KnowsSeen}
use Rattle.gob_source.specs.Program.{registrations_text}
use Rattle.gob_source.specs.Registered.{namings}
use Rattle.gob_source.proofs.registrations.push_registrations.Given as goal

abbrev pub invariant-loop-one : goal.invariant-loop-one
invariant-loop-one g l = record {
  text : l.out.items ++ registrations_text (g.S.Shapes.table l.types.shapes.now) l.types.ids.now
      (namings (take l.one-index l.registered)) (namings (drop l.one-index l.registered))
      ≡ l.fn.out.items ++ registrations_text (g.S.Shapes.table l.types.shapes.now) l.types.ids.now []
      (namings l.registered);
  known : KnowsSeen l.names l.ids.keys (namings (take l.one-index l.registered));
}
