use Rattle.std.proofs.Common.{ℕ, List, ◌++◌, ◌∙◌, ap, append_assoc}
use Rattle.gob_value.specs.Written.{counted}
use Rattle.gob_nodes.proofs.part.put_bytes.Goals as goal

pub returns-clause-ok : goal.returns-clause-ok
returns-clause-ok c =
    let count = c.in_ok-write_uint.ensures.ok in
    let bytes = c.args.bytes.now in
    record {
      bytes = count.bytes ++ bytes;
      spelled = counted count.spelled;
      appended = c.in_ok-extend_from_slice.ensures.items ∙ ap (λ (l : List ℕ). l ++ bytes) count.appended
          ∙ append_assoc c.args.out.now.items count.bytes bytes;
    }
