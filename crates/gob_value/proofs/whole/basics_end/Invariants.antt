use Rattle.std.proofs.Common.{◌≡◌, ℕ, ◌-◌, ◌≤◌, length, Some, Bool}
use Rattle.gob_types.specs.declared.id.TypeId.{TypeId}
use Rattle.gob_types.specs.declared.kind.Kind.TheVariants as kind
use Rattle.gob_types.specs.declared.kind.Shape.{Shape}
use Rattle.gob_types.specs.Table.{Table, shape_of}
use Rattle.gob_value.specs.Machine.Begins.{HoldsBetween, BeginsEach}
use Rattle.gob_value.proofs.whole.basics_end.Given as goal

abbrev pub invariant-basics : goal.invariant-basics
invariant-basics l = record {
  inside : l.at ≤ length l.body;
  parts : (T : Table) (tidy : Bool) (e : TypeId) (s : Shape) → shape_of T e ≡ Some s → s.kind ≡ kind.Basic l.basic
      → (end : ℕ)
      → HoldsBetween (BeginsEach T tidy e 1 (l.count - l.counter)) l.body l.at end
      → HoldsBetween (BeginsEach T tidy e 1 l.count) l.body l.begin end;
}
