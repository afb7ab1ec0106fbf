use Rattle.gob_json_writer.proofs.WrittenLaws.{one_written, both_written}
use Rattle.gob_json_writer.proofs.tape_json.write_front.Goals as goal

pub returns : goal.returns
returns c =
    both_written (one_written c.in_ok-begin_object.ensures) (both_written (one_written c.in_ok-key.ensures)
    (both_written (one_written c.in_ok-begin_object-2.ensures) (both_written (one_written c.in_ok-key-2.ensures)
    (both_written c.in_ok-write_text.ensures (both_written (one_written c.in_ok-key-3.ensures)
    (both_written (one_written c.in_ok-u64.ensures) (one_written c.key-4.ensures)))))))
