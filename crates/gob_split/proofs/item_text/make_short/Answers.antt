use Rattle.std.proofs.Common.{arith, length, subst, sym, List, ℕ, ◌^◌, ◌<◌}
use Rattle.std.proofs.lemmas.Result.{on_ok_weaker}
use Rattle.gob_num.specs.Spelled.{IsSpelled}
use Rattle.gob_types.specs.Defined.{types}
use Rattle.gob_go.specs.declared.item.GoItem.{GoItem}
use Rattle.gob_go_writer.specs.Item.{IsItemOf}
use Rattle.gob_split.specs.Machine.Items.{IsMadeOf}
use Rattle.gob_split.proofs.TextLaws.{defined_text}
use Rattle.gob_split.proofs.item_text.make_short.Goals as goal

pub returns-in-Define : goal.returns-in-Define
returns-in-Define c =
    defined_text c.in-Define.is c.requires.short (omega (arith, c.len-text.ensures, c.args.text.now.bytes.ok))

pub hoist-requires-clause-of_stream : goal.hoist-requires-clause-of_stream
hoist-requires-clause-of_stream c =
    subst (λ (k : GoItem). IsSpelled (IsItemOf (types c.args.table.now) k)) c.in-Put.is c.requires.of_stream

pub hoist-requires-clause-short : goal.hoist-requires-clause-short
hoist-requires-clause-short c = λ bytes is.
    subst (λ (b : List ℕ). length b < 2 ^ 60) (c.requires.short.is bytes
    (subst (λ (k : GoItem). IsItemOf (types c.args.table.now) k bytes) (sym c.in-Put.is) is)) c.requires.short.short

pub returns-in-Put : goal.returns-in-Put
returns-in-Put c = on_ok_weaker c.hoist.result
    (λ made. subst (λ (k : GoItem). IsMadeOf (types c.args.table.now) k c.hoist.new.text) (sym c.in-Put.is) made)
    c.hoist.ensures
