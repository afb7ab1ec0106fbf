use Rattle.std.proofs.Common.{refl, ◌∙◌, ap, ◌++◌, arith, append_assoc}
use Rattle.gob_num.proofs.PublicLaws.{bytes_each}
use Rattle.gob_value.proofs.PublicLaws.{keeps, keeps_then, on_err_any}
use Rattle.gob_go_writer.proofs.LetterLaws.{nothing_more}
use Rattle.gob_go_writer.proofs.segments.write_segment.Goals as goal

pub returns-in_err-write_uint-clause-err : goal.returns-in_err-write_uint-clause-err
returns-in_err-write_uint-clause-err c = on_err_any c.from_residual.result
    (nothing_more c.in_err-write_uint.ensures.err)

pub returns-in_err-extend_from_slice-clause-err : goal.returns-in_err-extend_from_slice-clause-err
returns-in_err-extend_from_slice-clause-err c = on_err_any c.from_residual-in_err-extend_from_slice.result
    (keeps_then (keeps c.in_ok-write_uint.ensures.ok) (nothing_more c.in_err-extend_from_slice.ensures.items))

pub returns-clause-ok : goal.returns-clause-ok
returns-clause-ok c =
    let count = c.in_ok-write_uint.ensures.ok in
    let segment = c.args.segment.now in
    record {
      bytes = count.bytes ++ segment;
      spelled = record {
        count = count.bytes;
        are_bytes = bytes_each segment (λ i. omega (arith, c.type_inv.segment i));
        counts = count.spelled;
        whole = refl;
      };
      appended = c.in_ok-extend_from_slice.ensures.items ∙ ap (λ l. l ++ segment) count.appended
          ∙ append_assoc c.args.out.now.items count.bytes segment;
    }
