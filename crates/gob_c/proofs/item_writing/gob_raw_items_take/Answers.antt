use Rattle.std.proofs.Common.{ap, sym, ◌∙◌}
use Rattle.std.specs.Prelude.{Some}
use Rattle.gob_c.specs.ItemWriting.{TakesItems}
use Rattle.gob_c.proofs.HeldLaws.{goes_on}
use Rattle.gob_c.proofs.item_writing.gob_raw_items_take.Goals as goal

pub returns : goal.returns
returns c =
    goes_on (λ old new. TakesItems old new c.args.room.now c.take_waiting.new.room c.take_waiting.result)
    (c.taken-boxed.ensures ∙ ap Some (sym c.deref_mut.ensures.value)) c.give.ensures c.take_waiting.ensures
