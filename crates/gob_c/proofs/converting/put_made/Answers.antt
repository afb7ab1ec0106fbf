use Rattle.std.proofs.Common.{◌∙◌, ap, length, string_bytes, sym}
use Rattle.gob_c.proofs.StreamLaws.{made_put}
use Rattle.gob_c.proofs.converting.put_made.Goals as goal

pub returns : goal.returns
returns c =
    made_put c.args.made.now.stream.items c.args.made.now.left_out c.args.made.now.answer c.args.room.now
    c.put_front-2.new.room c.args.said.now c.of_run.new.said c.args.left_out.now c.put_front.new.room
    (string_bytes c.in-Ok.line) c.as_slice.result.now c.as_bytes.result.now c.len.result c.of_run.result c.in-Ok.ensures
    c.put_front-2.ensures c.as_slice.ensures.value c.put_front.ensures c.as_bytes.ensures.value c.of_run.ensures
    (c.len.ensures ∙ sym c.as_bytes.ensures.len ∙ ap length c.as_bytes.ensures.value)
