-- So many deltas stand there.
use Rattle.std.proofs.Common.{◌≡◌, ◌++◌, codes, string_bytes}
use Rattle.gob_explain.specs.Awaited.{delta_texts}
use Rattle.gob_explain.proofs.text.expected.push_fields.Given as goal

abbrev pub invariant-deltas : goal.invariant-deltas
invariant-deltas l = string_bytes l.out
    ≡ (string_bytes l.fn.out ++ codes "0, which ends the struct") ++ delta_texts l.fields l.next l.index
