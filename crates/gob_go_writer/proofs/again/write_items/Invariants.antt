use Rattle.std.proofs.Common.{◌≡◌, ◌≤◌, length, take}
use Rattle.gob_go.specs.Calls.Session.{limits_of}
use Rattle.gob_go_writer.specs.Calls.Again.{HasWritten}
use Rattle.gob_go_writer.proofs.again.write_items.Given as goal

abbrev pub invariant-steps : goal.invariant-steps
invariant-steps l = record {
  written : HasWritten l.session (take l.used l.bytes) l.out.items;
  limits : limits_of l.session ≡ limits_of l.fn.session;
  within : l.used ≤ length l.bytes;
  onward : l.counter ≤ l.used;
}
