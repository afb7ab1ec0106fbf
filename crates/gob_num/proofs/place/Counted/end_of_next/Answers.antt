use Rattle.std.proofs.Common.{◌≡◌, ℕ, ◌+◌, ◌<◌, ◌≤◌, List, length, get_or, arith, rules, refl}
use Rattle.gob_num.proofs.PlaceLaws.{StandsAt, short_at, bad_head_at, padded_at, too_few_at, counted_at}
use Rattle.gob_num.proofs.place.Counted.end_of_next.Goals as goal
use Rattle.gob_num.proofs.place.Counted.end_of_next.Goals.{then-head-self+else-head-lt-LEAST_HEAD, else-head-self}
use Rattle.gob_num.proofs.place.Counted.end_of_next.Goals.{Joined-head-self}

here : {bytes : List ℕ} {at head : ℕ} → (at < length bytes) × ((d : ℕ) → head ≡ get_or bytes at d)
    → StandsAt head bytes at
here p = record { inside = p.0; is = p.1 0 }

-- the head that is read counts its digits
counts : (c : Joined-head-self) → (248 ≤ c.in_ok-head.field-0.now)
    × (c.in_ok-head.field-0.now + c.if-head-self.self.count ≡ 256)
counts c = elim c.if-head-self.branch [
  | then-head-self+else-head-lt-LEAST_HEAD w ↦ (w.if-head-lt-LEAST_HEAD.false, rw w.self-is w.digits_after.ensures)
  | else-head-self w ↦
      let known = c.requires (omega (arith, c.if-head-lt128.false, w.if-head-self.false)) in
      (omega (arith, known.0, w.if-head-self.false), rw w.self-is (omega (arith, known.1, w.if-head-self.false)))
]

pub returns-then-head-lt128-clause-found : goal.returns-then-head-lt128-clause-found
returns-then-head-lt128-clause-found c = (_, short_at (here c.in_ok-head.ensures.lookup.3) c.if-head-lt128.true refl)

pub returns-then-head-lt-LEAST_HEAD-clause-none : goal.returns-then-head-lt-LEAST_HEAD-clause-none
returns-then-head-lt-LEAST_HEAD-clause-none c =
    λ e. bad_head_at (here c.in_ok-head.ensures.lookup.3) c.if-head-lt128.false c.if-head-lt-LEAST_HEAD.true

pub returns-then-is_padded-clause-none : goal.returns-then-is_padded-clause-none
returns-then-is_padded-clause-none c =
    let joined = (goal.at.returns-then-is_padded-clause-none c).Joined-head-self in
    λ e. padded_at c.if-head-self.self.count (here c.in_ok-head.ensures.lookup.3) (here c.in_ok-first.ensures.lookup.3)
    (counts joined).1 (search (rules, c.is_padded.ensures, c.if-is_padded.true))

pub returns-then-bytes-at-clause-none : goal.returns-then-bytes-at-clause-none
returns-then-bytes-at-clause-none c =
    let joined = (goal.at.returns-then-bytes-at-clause-none c).Joined-head-self in
    λ e. too_few_at c.if-head-self.self.count (here c.in_ok-head.ensures.lookup.3) c.if-head-lt128.false
    (counts joined).1
    (omega (arith, c.if-bytes-at.true, c.from-count.ensures, c.in_ok-head.ensures.lookup.3.0))

pub returns-clause-found : goal.returns-clause-found
returns-clause-found c =
    let joined = (goal.at.returns-clause-found c).Joined-head-self in
    counted_at c.if-head-self.self.count _ (here c.in_ok-head.ensures.lookup.3) (here c.in_ok-first.ensures.lookup.3)
    (λ i. omega (arith, c.type_inv.bytes i)) (counts joined).0 (counts joined).1
    (λ n. search (rules, c.is_padded.ensures, c.if-is_padded.false))
    (omega (arith, c.if-bytes-at.false, c.from-count.ensures, c.in_ok-first.ensures.lookup.3.0)) c.from-count.ensures
