use Rattle.std.proofs.Common.{append_assoc}
use Rattle.gob_stream.proofs.item_bytes.begin_item.Goals as goal

pub returns-clause-end : goal.returns-clause-end
returns-clause-end c =
    let small = rw c.deref.ensures.value at c.in_ok-judge_length.ensures.end in
    rw (c.in_ok-extend_from_slice.ensures.items, append_assoc) small
