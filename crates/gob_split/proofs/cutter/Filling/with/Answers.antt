use Rattle.std.proofs.Common.{ap, arith, length, length-append}
use Rattle.gob_split.specs.Machine.Items.{text_in}
use Rattle.gob_split.specs.Text.{text_bytes}
use Rattle.gob_split.proofs.CutterLaws.{no_values, some_values, text_whole}
use Rattle.gob_split.proofs.cutter.Filling.with.Goals as goal

pub returns : goal.returns
returns c = λ p k.
    let all = length-append p.bytes (text_bytes (text_in c.args.text.now)) in
    let whole = ap length (text_whole c.args.text.now) in
    record {
      bytes = omega (arith, c.saturating_add.ensures, k.bytes, all, whole, c.len.ensures);
      values = omega (arith, c.saturating_add-2.ensures, k.values, c.values_in-values.ensures);
      done = λ is. some_values _ _ c.values_in-values.ensures is;
      not_done = λ is. no_values _ _ c.values_in-values.ensures is;
    }
