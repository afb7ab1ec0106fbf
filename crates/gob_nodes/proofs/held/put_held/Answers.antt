use Rattle.gob_nodes.proofs.PutLaws.{held_put}
use Rattle.gob_nodes.proofs.held.put_held.Goals as goal

pub returns-clause-ok : goal.returns-clause-ok
returns-clause-ok c =
    let held = c.args.held in
    held_put c.put_bytes-2.result held.name.now held.id c.args.body.now c.args.out.now.items c.put_bytes.new.out.items
    c.write_int.new.out.items c.put_bytes-2.new.out.items c.requires c.in_ok-put_bytes.ensures.ok
    c.in_ok-write_int.ensures.ok c.put_bytes-2.ensures.ok
