use Rattle.std.proofs.Common.{◌++◌, ◌∙◌, List, ℕ, length, length-append, ap, arith, subst}
use Rattle.std.proofs.lemmas.Int.{ints}
use Rattle.gob_num.specs.Unsigned.{IsUnsigned}
use Rattle.gob_num.proofs.PublicLaws.{bytes-append, signed_unsigned, unsigned_bytes}
use Rattle.gob_stream.proofs.FaultSteps.{passed}
use Rattle.gob_stream.proofs.Written.WritingLaws.{signed_as}
use Rattle.gob_filled_writer.proofs.WriterLaws.{alone, length_refused}
use Rattle.gob_filled_writer.proofs.head.item_head.Goals as goal

pub returns-in_err-judge_length-clause-err : goal.returns-in_err-judge_length-clause-err
returns-in_err-judge_length-clause-err c =
    let rest = c.args.rest.now in
    let size = c.body_size-size.ensures.size ∙ ap (λ (l : List ℕ). length (l ++ rest)) c.deref.ensures.value in
    passed c.from_residual-in_err-judge_length.result _ c.from_residual-in_err-judge_length.ensures.1
    (length_refused rest c.write_int.new.out.items c.write_uint.new.out.items
    (signed_as c.args.number (alone c.new-spelled.ensures.items c.in_ok-write_int.ensures.ok)
    (omega (arith, ints, c.ranges.number.sfits)))
    (alone c.new-head.ensures.items c.in_ok-write_uint.ensures.ok) size
    (omega (arith, c.len.ensures, c.write_uint.new.out.ok.0)) c.in_err-judge_length.ensures.err)

pub returns-clause-ok : goal.returns-clause-ok
returns-clause-ok c =
    let rest = c.args.rest.now in
    let spelled = c.write_int.new.out.items in
    let count = c.write_uint.new.out.items in
    let size = c.body_size-size.ensures.size ∙ ap (λ (l : List ℕ). length (l ++ rest)) c.deref.ensures.value in
    let number = signed_as c.args.number (alone c.new-spelled.ensures.items c.in_ok-write_int.ensures.ok)
    (omega (arith, ints, c.ranges.number.sfits)) in
    record {
      count = count;
      spelled = spelled;
      numbered = number;
      bytes = bytes-append spelled rest (unsigned_bytes (signed_unsigned number).1) c.body_size-size.ensures.bytes;
      counted = subst (λ n. IsUnsigned n count) size (alone c.new-head.ensures.items c.in_ok-write_uint.ensures.ok);
      whole = c.in_ok-extend_from_slice.ensures.items ∙ ap (λ (l : List ℕ). count ++ l) c.deref-2.ensures.value;
      item = omega (arith, size, c.in_ok-judge_length.ensures.item);
      stream = omega (
        arith,
        size,
        c.in_ok-judge_length.ensures.stream,
        c.len.ensures,
        c.write_uint.new.out.ok.0,
        length-append count (spelled ++ rest),
      );
    }
