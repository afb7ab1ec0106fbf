use Rattle.std.proofs.Common.{◌≡◌, ℕ, ◌-◌, ◌≤◌, List, Some}
use Rattle.gob_read.specs.Calls.Builders.{tree_building}
use Rattle.gob_stream.specs.Devices.{counts_up}
use Rattle.gob_stream.specs.Item.{item_views}
use Rattle.gob_stream.specs.Reading.{SomeTaken, Given}
use Rattle.gob_stream.specs.Machine.HasRead.{HasRead}
use Rattle.gob_stream.proofs.read_items.read_items.Given as goal

abbrev pub invariant-loop-item : goal.invariant-loop-item
invariant-loop-item g l = record {
  given : Given l.initial.out.items l.out.items
      (λ given. (bytes : List ℕ) → g.R.Read.remaining l.initial.input.reader ≡ Some bytes
      → SomeTaken bytes (g.R.Read.remaining l.input.reader) (λ taken. HasRead tree_building l.session (item_views given)
      taken));
  limits : l.session.limits ≡ l.initial.session.limits;
  failures : l.input.failures ≡ l.initial.input.failures;
  taken : l.input.taken ≡ counts_up l.initial.input.taken l.session.taken;
  within : l.session.taken ≤ l.initial.session.limits.stream;
}

abbrev pub decreases-loop-item : goal.decreases-loop-item
decreases-loop-item g l = l.initial.session.limits.stream - l.session.taken
