use Rattle.std.proofs.Common.{arith, length-drop, sym}
use Rattle.gob_split.proofs.CutterLaws.{one_value}
use Rattle.gob_split.proofs.cutter.values_in.Goals as goal

pub returns-then-text-len : goal.returns-then-text-len
returns-then-text-len c = sym (one_value _ (omega (
  arith,
  length-drop c.args.text.now.definitions c.args.text.now.bytes.items,
  c.if-text-len.true,
  c.len.ensures,
)))
