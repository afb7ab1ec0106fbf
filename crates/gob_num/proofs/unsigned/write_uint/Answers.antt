use Rattle.std.proofs.Common.{arith, ◌∙◌, sym}
use Rattle.gob_num.specs.Unsigned.{short}
use Rattle.gob_num.proofs.WrittenLaws.{digits_8, last_digits, written}
use Rattle.gob_num.proofs.unsigned.write_uint.Goals as goal

pub returns-then-n-lt128-clause-ok : goal.returns-then-n-lt128-clause-ok
returns-then-n-lt128-clause-ok c = record {
  bytes = _;
  spelled = short c.if-n-lt128.true;
  appended =
      c.in_ok-push.ensures.items;
}

pub returns-clause-ok : goal.returns-clause-ok
returns-clause-ok c =
    let count = c.digit_count-count in
    record {
      bytes = _;
      spelled = written c.digit_count-count.result c.args.n _ _ (omega arith) c.digit_count-count.ensures.range
          c.digit_count-count.ensures.enough c.digit_count-count.ensures.least
          (c.copy_from_slice.ensures.after
          ∙ last_digits c.digit_count-count.result c.args.n _ c.digit_count-count.ensures.range.1
          (c.to_be_bytes.ensures ∙ sym (digits_8 c.args.n)));
      appended = c.in_ok-extend_from_slice.ensures.items;
    }
