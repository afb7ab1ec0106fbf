-- How a call ended, and what was counted, in the words that C reads.
use Rattle.std.specs.Prelude.{ℕ, Option, Some, None, Result, Ok, Err}
use Rattle.gob_types.specs.declared.id.TypeId.{TypeId}
use Rattle.gob_types.specs.Reasons.{reason_number, reason_id}
use Rattle.gob_stream.specs.declared.fault.Fault.{Fault}
use Rattle.gob_stream.specs.declared.fault.Fault.TheVariants as fault
use Rattle.gob_counted.specs.declared.tally.Tally.{Tally}
use Rattle.gob_c.specs.declared.counts.Counts.{Counts}
use Rattle.gob_c.specs.declared.told.Told.{Told}

-- the type id that a reason speaks of, else 0
abbrev pub id_word : Option TypeId → ℕ
id_word (Some id) = id.0
id_word None = 0

abbrev pub told : (status reason id place seen begin : ℕ) → Told
told status reason id place seen begin = record {
  status = status;
  reason = reason;
  id = id;
  place = place;
  seen = seen;
  begin = begin;
}

-- a status alone
abbrev pub alone : ℕ → Told
alone n = told n 0 0 0 0 0

-- 0 no fault, 1 refused, the item that begins there, 2 no memory, 3 a fault came before; 4 tells of numbers that are no
-- limits
abbrev pub told_of : Result (Unit {0}) Fault → (begin : ℕ) → Told
told_of (Ok u) begin = alone 0
told_of (Err (fault.Refused r)) begin =
    told 1 (reason_number r.reason) (id_word (reason_id r.reason)) r.place r.seen begin
told_of (Err fault.Memory) begin = alone 2
told_of (Err fault.Read) begin = alone 3
told_of (Err fault.Failed) begin = alone 3

-- a tally, word for word
abbrev pub counts_of : Tally → Counts
counts_of tally = record { items = tally.items; types = tally.types; values = tally.values; bytes = tally.bytes }
