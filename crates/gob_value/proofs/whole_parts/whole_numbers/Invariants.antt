use Rattle.std.proofs.Common.{◌≡◌, ℕ, ◌+◌, ◌≤◌, length, Some, false}
use Rattle.gob_types.specs.declared.id.TypeId.{TypeId}
use Rattle.gob_types.specs.declared.kind.Shape.{Shape}
use Rattle.gob_types.specs.Table.{Table, shape_of}
use Rattle.gob_value.specs.Machine.Begins.{HoldsNumbers, HoldsBetween, BeginsEach}
use Rattle.gob_value.proofs.whole_parts.whole_numbers.Given as goal

abbrev pub invariant-numbers : goal.invariant-numbers
invariant-numbers l = record {
  inside : l.found.end ≤ length l.bytes;
  count : l.found.count ≡ l.counter;
  parts : (T : Table) (e : TypeId) (s : Shape) → shape_of T e ≡ Some s → HoldsNumbers s.kind → (n m end : ℕ)
      → m ≡ l.found.count + n
      → HoldsBetween (BeginsEach T false e 1 n) l.bytes l.found.end end
      → HoldsBetween (BeginsEach T false e 1 m) l.bytes 0 end;
}
