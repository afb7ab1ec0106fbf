use Rattle.std.proofs.Math.ListN.{drop_of_length-le}
use Rattle.gob_tool.proofs.Profile.FormLaws.{all_written, first_of, none_written, one_written}
use Rattle.gob_split.proofs.item_text.write_items.Goals as goal

pub loop-item-init : goal.loop-item-init
loop-item-init c = λ bytes a. none_written _ a

pub write_item-requires : goal.write_item-requires
write_item-requires c =
    let g = c.loop-item.invariant c.requires.bytes c.requires.spelled in
    let f = first_of c.args.items.now c.loop-item.item-index c.item-item.result c.item-item.is c.loop-item-test.true
    g.left_are in
    record { bytes = f.front; spelled = f.is }

pub loop-item-preserved : goal.loop-item-preserved
loop-item-preserved c = λ bytes a.
    let g = c.loop-item.invariant bytes a in
    let f = first_of c.args.items.now c.loop-item.item-index c.item-item.result c.item-item.is c.loop-item-test.true
    g.left_are in
    one_written _ g f (c.in_ok-write_item.ensures.ok f.front f.is)

pub returns : goal.returns
returns c = λ bytes a.
    all_written (drop_of_length-le c.args.items.now c.loop-item-test.false) (c.loop-item.invariant bytes a)
