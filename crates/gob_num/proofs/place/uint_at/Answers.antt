use Rattle.std.proofs.Common.{subst, drop, arith}
use Rattle.gob_num.specs.Taken.{TakesUnsigned}
use Rattle.gob_num.proofs.PlaceLaws.{taken_at, short_at, chunk_taken_at, all_taken, none_at}
use Rattle.gob_num.proofs.place.uint_at.Goals as goal
use Rattle.gob_num.proofs.place.uint_at.Goals.{in-Some, in-None, Joined-first_chunk}

taken : (c : Joined-first_chunk) → TakesUnsigned (drop c.args.at c.args.bytes.now) c.match-first_chunk.taken
taken c =
    let lookup = c.in_ok-head.ensures.lookup in
    elim c.match-first_chunk.branch [
      | in-Some w ↦ rw w.taken-is (chunk_taken_at w.take_digits-taken.result (record {
        stands = record { inside = lookup.3.0; is = lookup.3.1 0 };
        enough = w.in-Some.ensures.cases.enough;
        same = w.in-Some.ensures.cases.same;
      }) w.take_digits-taken.ensures)
      | in-None w ↦ rw w.taken-is (subst (λ p. TakesUnsigned p w.take_near_the_end-taken.result)
          (all_taken c.args.bytes.now c.args.at) w.take_near_the_end-taken.ensures)
    ]

pub returns-then-head-lt128-clause-found : goal.returns-then-head-lt128-clause-found
returns-then-head-lt128-clause-found c =
    let lookup = c.in_ok-head.ensures.lookup in
    short_at (record { inside = lookup.3.0; is = lookup.3.1 0 }) c.if-head-lt128.true c.from.ensures

pub returns-in-Whole-clause-found : goal.returns-in-Whole-clause-found
returns-in-Whole-clause-found c =
    taken_at c.args.bytes.now c.args.at _ _ (omega (arith, c.in_ok-head.ensures.lookup.3.0))
    (subst (λ t. TakesUnsigned (drop c.args.at c.args.bytes.now) t) c.in-Whole.is
    (taken (goal.at.returns-in-Whole-clause-found c).Joined-first_chunk))

pub returns-in_default : goal.returns-in_default
returns-in_default c = record {
  found = tt;
  none = λ e. none_at c.args.bytes.now c.args.at c.match-first_chunk.taken
      (taken (goal.at.returns-in_default c).Joined-first_chunk) c.in_default.not-Whole;
}
