-- What is appended, what waits to be and what becomes of the rest are all.
use Rattle.std.proofs.Common.{◌≡◌, ◌+◌, ◌*◌, ◌≤◌, ◌++◌, drop, vec_capacity, vec_len}
use Rattle.std.specs.List.{slice_range}
use Rattle.json_number_texts.specs.Texts.{place_after, with_texts}
use Rattle.json_number_texts.proofs.pieces.push_texts.Given as goal

abbrev pub invariant-loop-i : goal.invariant-loop-i
invariant-loop-i l = record {
  texts : l.out.items ++ (slice_range l.piece l.start l.i ++ with_texts l.place (drop l.i l.piece))
      ≡ l.fn.out.items ++ with_texts l.fn.place l.piece;
  behind : place_after l.place (drop l.i l.piece) ≡ place_after l.fn.place l.piece;
  within : l.start ≤ l.i;
  few : vec_len l.out + l.i ≤ vec_len l.fn.out + 2 * l.i + l.start;
  room : vec_capacity l.fn.out ≤ vec_capacity l.out;
}
