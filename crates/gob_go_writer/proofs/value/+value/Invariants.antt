use Rattle.std.proofs.Common.{◌≤◌, length, drop}
use Rattle.gob_types.specs.Defined.{types}
use Rattle.gob_go.specs.declared.filled.Filled.{out-Filled}
use Rattle.gob_go_writer.specs.Spelling.{SpellsRest, SpellsValue}
use Rattle.gob_go_writer.proofs.PartSteps.{Going}
use Rattle.gob_go_writer.proofs.value.+value.Given as goal

abbrev pub invariant-put_value-loop-filling : goal.invariant-put_value-loop-filling
invariant-put_value-loop-filling l = record {
  within : l.done ≤ length (out-Filled l.value).skeleton.items;
  going : Going (SpellsValue (types l.table) l.value)
      (SpellsRest (types l.table) (out-Filled l.value).skeleton.items l.done
      (drop l.filling-index (out-Filled l.value).fillings.items)) l.fn.segments l.segments;
}
