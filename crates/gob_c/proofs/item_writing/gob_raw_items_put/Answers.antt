use Rattle.std.proofs.Common.{ap, sym, ◌∙◌}
use Rattle.std.specs.Prelude.{Some}
use Rattle.gob_c.specs.ItemWriting.{ItemTold}
use Rattle.gob_c.proofs.HeldLaws.{goes_on}
use Rattle.gob_c.proofs.item_writing.gob_raw_items_put.Goals as goal

pub returns : goal.returns
returns c =
    goes_on (λ old new. ItemTold c.args.given.now.defines old new (record { 0 = c.args.given.now.id })
    c.args.nodes.now c.args.bytes.now c.args.room.now c.told_of.new.room c.told_of.result)
    (c.taken-boxed.ensures ∙ ap Some (sym c.deref_mut.ensures.value)) c.give.ensures (record {
      answer = c.put_item-answer.result;
      says = c.told_of.ensures;
      puts = c.put_item-answer.ensures.puts;
      stays = c.put_item-answer.ensures.stays;
    })
