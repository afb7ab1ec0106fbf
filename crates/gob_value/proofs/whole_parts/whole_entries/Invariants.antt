use Rattle.std.proofs.Common.{◌≡◌, ℕ, ◌+◌, ◌≤◌, length, false}
use Rattle.gob_value.specs.Machine.Begins.{HoldsBetween, BeginsPairs}
use Rattle.gob_value.proofs.whole_parts.whole_entries.Given as goal

abbrev pub invariant-entries : goal.invariant-entries
invariant-entries g l = record {
  inside : l.found.end ≤ length l.bytes;
  count : l.found.count ≡ l.counter;
  parts : (n m end : ℕ) → m ≡ l.found.count + n
      → HoldsBetween (BeginsPairs (g.S.Shapes.table l.shapes) false l.fn.key l.fn.elem l.depth n) l.bytes l.found.end
      end
      → HoldsBetween (BeginsPairs (g.S.Shapes.table l.shapes) false l.fn.key l.fn.elem l.depth m) l.bytes 0 end;
}
