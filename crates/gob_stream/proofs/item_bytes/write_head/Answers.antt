use Rattle.std.proofs.Common.{rules, w64}
use Rattle.std.proofs.lemmas.Int.{to_z_pos}
use Rattle.gob_stream.specs.Calls.Writing.{head_of_struct, head_with_tag}
use Rattle.gob_stream.proofs.FaultSteps.{appends_more}
use Rattle.gob_stream.proofs.item_bytes.write_head.Goals as goal

pub returns-then-has_structs : goal.returns-then-has_structs
returns-then-has_structs c =
    let number = c.in_ok-write_int.ensures.ok in
    let signed = rw (to_z_pos w64 c.args.id.0 c.requires) at number.spelled in
    record {
      bytes = number.bytes;
      spelled = head_of_struct (c.if-has_structs.ensures.0 (search rules)) signed;
      appended = number.appended;
    }

pub returns : goal.returns
returns c =
    let number = c.in_ok-write_int.ensures.ok in
    let signed = rw (to_z_pos w64 c.args.id.0 c.requires) at number.spelled in
    appends_more _ c.write_uint.result _ _ number.bytes number.appended c.write_uint.ensures.ok
    (λ z tag. head_with_tag (λ has. absurd (search (rules, c.if-has_structs.ensures.1 has))) signed tag)
