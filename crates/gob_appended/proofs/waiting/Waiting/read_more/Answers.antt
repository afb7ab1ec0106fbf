-- What was read stands behind what waited.
use Rattle.std.proofs.Common.{◌++◌, ◌∙◌, ap, sym, take, drop}
use Rattle.gob_appended.proofs.WaitingLaws.{prefix_same, range_grown}
use Rattle.gob_appended.proofs.waiting.Waiting.read_more.Goals as goal

pub returns-clause-ok : goal.returns-clause-ok
returns-clause-ok g c =
    let w = c.put_in_front.new.self in
    let room = c.read_behind.new.room.items in
    let count = c.in_ok-count.count in
    record {
      more = take count (drop w.end room);
      read = c.in_ok-count.ensures.ok;
      behind = range_grown room w.start w.end count w.ordered
          ∙ ap (λ l. l ++ take count (drop w.end room))
          (prefix_same w.room.items room w.start w.end w.ordered c.in_ok-count.ensures.prefix
          ∙ c.put_in_front.ensures.kept);
      counted = sym c.in_ok-count.ensures.size;
      end = c.in_ok-count.ensures.at_end;
    }
