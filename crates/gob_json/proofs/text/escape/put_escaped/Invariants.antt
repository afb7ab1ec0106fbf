-- With what stands for the rest, the whole text is put out.
use Rattle.std.proofs.Common.{Result, ◌-◌, ◌≤◌, length, drop}
use Rattle.json.specs.Print.{escape}
use Rattle.gob_json.proofs.text.escape.put_escaped.Given as goal

abbrev pub invariant-runs : goal.invariant-runs
invariant-runs g l = record {
  inside : l.at ≤ length l.bytes;
  left : (new : g.row.O.Denot) (r : Result (Unit {0}) g.row.O-Fault.Denot)
      → g.O.TextOut.puts l.out new (escape (drop l.at l.bytes)) r
      → g.O.TextOut.puts l.fn.out new (escape l.bytes) r;
}

abbrev pub decreases-runs : goal.decreases-runs
decreases-runs g l = length l.bytes - l.at
