use Rattle.gob_go_writer.proofs.HoistedLaws.{item_bytes}
use Rattle.gob_go_writer.proofs.laws.hoisted_items_have_bytes.Goals as goal

pub returns : goal.returns
returns c L T U offset i b few h = item_bytes few h
