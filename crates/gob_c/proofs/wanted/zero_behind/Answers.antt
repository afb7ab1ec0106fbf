-- What waits once the zero is put.
use Rattle.std.proofs.Common.{ap, ℕ, List, Ok, subst, ◌∙◌}
use Rattle.gob_types.specs.Table.{Table}
use Rattle.gob_stream.specs.Calls.Writing.{HasWritten}
use Rattle.gob_stream.specs.Item.{StreamItem}
use Rattle.gob_plain_writer.specs.Writing.{PutAnswers, waiting}
use Rattle.gob_c.specs.Converting.{null_text}
use Rattle.gob_c.proofs.wanted.zero_behind.Goals as goal

pub returns-in-Ok : goal.returns-in-Ok
returns-in-Ok c = record {
  behind = c.put.new.self;
  puts = subst (λ w. (items : List StreamItem) (bytes : List ℕ) (T : Table) → HasWritten w.stream items bytes T
      → PutAnswers w c.put.new.self items bytes T null_text (Ok tt)) c.deref_mut.ensures.value c.in-Ok.ensures.puts;
  waits = c.in_ok-from_slice-in-Ok.ensures.items ∙ c.waiting.ensures ∙ ap waiting c.deref.ensures;
}
