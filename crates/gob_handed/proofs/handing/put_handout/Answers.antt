use Rattle.std.proofs.Common.{◌+◌, ◌≤◌, arith, length, refl, subst}
use Rattle.std.specs.Prelude.{IsSome}
use Rattle.std.proofs.lemmas.Bool.{false≢true}
use Rattle.gob_types.specs.Defined.{types}
use Rattle.gob_handed.specs.Handed.{content_bytes, content_nodes}
use Rattle.gob_handed.proofs.handing.put_handout.Goals as goal

pub returns-in_default : goal.returns-in_default
returns-in_default c =
    let T = types c.args.table.now in
    let id = c.args.handout.now.id in
    let put = c.put_value.ensures in
    let is = c.replace.ensures.value in
    let room = subst (λ k. c.args.at.nodes + length (content_nodes T id k) ≤ length c.args.nodes.now
    → c.args.at.bytes + length (content_bytes T id k) ≤ length c.args.pool.now → IsSome c.put_value.result) is
    (put.room T id) in
    let has = c.if-not-has_room.ensures.0 refl in
    let some : IsSome c.put_value.result =
    room (omega (arith, has.0, c.requires.nodes)) (omega (arith, has.1, c.requires.bytes)) in record {
      nodes = rw is at put.nodes T id;
      bytes = rw is at put.bytes T id;
      room = room;
      kept_nodes = put.kept_nodes;
      kept_bytes = put.kept_bytes;
      same_nodes = put.same_nodes;
      same_bytes = put.same_bytes;
      stays = λ none. absurd (false≢true (rw none at some));
    }
