use Rattle.std.proofs.Common.{◌≡◌, ℕ, ◌<◌, List, length, get_or}
use Rattle.gob_num.proofs.PlaceLaws.{StandsAt, short_at, bad_head_at, only_number, known_digits_at}
use Rattle.gob_num.proofs.place.known_uint_at.Goals as goal

here : {bytes : List ℕ} {at head : ℕ} → (at < length bytes) × ((d : ℕ) → head ≡ get_or bytes at d)
    → StandsAt head bytes at
here p = record { inside = p.0; is = p.1 0 }

pub returns-then-head-lt128-clause-known : goal.returns-then-head-lt128-clause-known
returns-then-head-lt128-clause-known c =
    only_number (short_at (here c.in-Some.ensures.lookup.3) c.if-head-lt128.true c.from.ensures)

pub returns-then-head-lt-LEAST_HEAD-clause-known : goal.returns-then-head-lt-LEAST_HEAD-clause-known
returns-then-head-lt-LEAST_HEAD-clause-known c = λ n e u.
    absurd (bad_head_at (here c.in-Some.ensures.lookup.3) c.if-head-lt128.false c.if-head-lt-LEAST_HEAD.true n e u)

pub returns-in-Some-first_chunk-clause-known : goal.returns-in-Some-first_chunk-clause-known
returns-in-Some-first_chunk-clause-known c =
    known_digits_at (record {
      stands = here c.in-Some.ensures.lookup.3;
      enough = c.in-Some-first_chunk.ensures.cases.enough;
      same = c.in-Some-first_chunk.ensures.cases.same;
    }) c.known_digits-number.ensures.taken
