use Rattle.std.proofs.lemmas.Bool.{false≢true}
use Rattle.gob_handed.proofs.PutsLaws.{field_step, kept_nodes_on, kept_bytes_on, room_step}
use Rattle.gob_handed.proofs.definition.put_fields.Goals as goal

pub fields-preserved : goal.fields-preserved
fields-preserved c =
    let from = c.args.from in
    let at = c.fields.at in
    let before = c.fields.invariant in (
      field_step from at c.in_ok-at.at c.args.base c.args.nodes.now c.fields.nodes c.put_name.new.nodes
          c.args.pool.now c.fields.pool c.put_name.new.pool c.args.fields.now c.fields.place
          c.index-fields-place.result c.as_bytes.result.now c.fields-test.true c.index-fields-place.is
          c.as_bytes.ensures c.requires.base before.0
          (rw c.id_number.ensures at c.in_ok-at.ensures.nodes) c.in_ok-at.ensures.bytes,
      (
        kept_nodes_on from at c.args.nodes.now c.fields.nodes c.put_name.new.nodes _ before.0.0 before.1.0
            c.put_name.ensures.kept_nodes,
        kept_bytes_on from at c.args.pool.now c.fields.pool c.put_name.new.pool _ before.0.1 before.1.1
            c.put_name.ensures.kept_bytes,
      ),
    )

pub returns-in_err-at-clause-kept_nodes : goal.returns-in_err-at-clause-kept_nodes
returns-in_err-at-clause-kept_nodes c =
    let before = c.fields.invariant in
    kept_nodes_on c.args.from c.fields.at c.args.nodes.now c.fields.nodes c.put_name.new.nodes _ before.0.0 before.1.0
    c.put_name.ensures.kept_nodes

pub returns-in_err-at-clause-kept_bytes : goal.returns-in_err-at-clause-kept_bytes
returns-in_err-at-clause-kept_bytes c =
    let before = c.fields.invariant in
    kept_bytes_on c.args.from c.fields.at c.args.pool.now c.fields.pool c.put_name.new.pool _ before.0.1 before.1.1
    c.put_name.ensures.kept_bytes

pub returns-in_err-at-clause-room : goal.returns-in_err-at-clause-room
returns-in_err-at-clause-room c =
    λ ns bs.
    let room = room_step c.args.from c.fields.at c.args.base c.args.nodes.now c.fields.nodes c.args.pool.now
    c.fields.pool c.args.fields.now c.fields.place c.index-fields-place.result c.as_bytes.result.now
    c.fields-test.true c.index-fields-place.is c.as_bytes.ensures c.fields.invariant.0 c.fields.auto.nodes
    c.fields.auto.pool ns bs in
    absurd (false≢true (c.in_err-at.ensures.room room.0 room.1))
