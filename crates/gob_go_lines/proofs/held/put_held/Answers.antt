use Rattle.std.proofs.Common.{subst}
use Rattle.gob_num.specs.Spelled.{Appends}
use Rattle.gob_value.specs.Written.{WrittenBytes}
use Rattle.gob_go_lines.proofs.HeldLaws.{held_put}
use Rattle.gob_go_lines.proofs.held.put_held.Goals as goal

pub returns-clause-ok : goal.returns-clause-ok
returns-clause-ok c =
    let held = c.args.held.now in
    let out = c.args.out.now.items in
    let name = subst (λ s. Appends (WrittenBytes s) out c.put_bytes.new.out.items) c.deref.ensures.value
    c.in_ok-put_bytes.ensures.ok in
    held_put c.put_bytes-2.result held.name.items held.id c.args.body.now out c.put_bytes.new.out.items
    c.write_int.new.out.items c.put_bytes-2.new.out.items c.requires name c.in_ok-write_int.ensures.ok
    c.put_bytes-2.ensures.ok
