use Rattle.std.proofs.Common.{◌≡◌, ◌≢◌, ℕ, ◌+◌, ◌-◌, ◌<◌, ◌≤◌, List, length, take, drop, arith, refl}
use Rattle.gob_read.specs.declared.next.NextNumber.TheVariants.{Delta}
use Rattle.gob_read.specs.Machine.Running.{item_depth}
use Rattle.gob_read.specs.Machine.BasicParts.{no_part_taken, some_parts_taken}
use Rattle.gob_read.specs.Machine.Frames.{to_delta}
use Rattle.gob_read.proofs.Machine.BasicPartSteps.{item_start, item_before, byte_before, item_passed, item_or_not}
use Rattle.gob_read.proofs.Machine.BasicPartSteps.{taken_or_not, same_passed, same_fresh, part_deep, unnamed, named_as}
use Rattle.gob_read.proofs.Machine.BasicPartSteps.{named_on, field_on, taken_within, fewer, end_on, rest_some}
use Rattle.gob_read.proofs.run.Run.take_basic_fields.Goals as goal

-- numbers that the answers below compare
not_zero : {n : ℕ} → n ≢ 0 → 0 < n
not_zero n = omega arith

sum_some : (used : ℕ) {taken : ℕ} → taken ≢ 0 → 0 < used + taken
sum_some used n = omega arith

next_some : (n : ℕ) → 0 < n + 1
next_some n = omega arith

not_next : (n : ℕ) → n + 1 ≡ 0 → ⊥
not_next n z = absurd (omega arith)

one_more : (n : ℕ) → n + 1 ≤ n + 1 + 1
one_more n = omega arith

delta_depth : (d : ℕ) → item_depth Delta d ≤ d + 1
delta_depth d = omega arith

rest_left : {used taken : ℕ} (rest : List ℕ) → used < length rest → taken ≤ length
    (take (length rest - used) (drop used rest))
    → used + taken ≢ length rest → used + taken < length rest
rest_left {used = used} rest some within more = omega (arith, rest_some rest used)

behind_delta : {n : ℕ} (rest : List ℕ) → n < length rest → n + 1 ≢ length rest → n + 1 < length rest
behind_delta rest l more = omega arith

pub returns-in_default : goal.returns-in_default
returns-in_default g c = no_part_taken refl refl

pub fields-init : goal.fields-init
fields-init g c =
    let b = c.requires.before in let d = part_deep b.expected b.has_read in
    record {
      at = item_start c.args.rest.now b.expected c.requires.inside c.requires.fresh (omega arith);
      some = b.some;
      same = λ z. refl;
    }

pub returns-in_default-basic_of : goal.returns-in_default-basic_of
returns-in_default-basic_of g c = item_or_not c.fields.invariant.at c.fields.invariant.same

pub take_basic_part-requires-clause-before : goal.take_basic_part-requires-clause-before
take_basic_part-requires-clause-before g c = item_before c.fields.invariant.at c.requires.before (omega arith)
    c.fields.invariant.some

pub take_basic_part-requires-clause-inside : goal.take_basic_part-requires-clause-inside
take_basic_part-requires-clause-inside g c = record {
  frame = _;
  innermost = c.fields.invariant.at.inside;
  goes_on =
      to_delta;
}

pub returns-then-taken-eq0 : goal.returns-then-taken-eq0
returns-then-taken-eq0 g c = taken_or_not c.fields.invariant.at c.fields.invariant.same c.requires.before.room
    c.fields.invariant.some c.in_ok-taken.ensures

pub take_end-requires-clause-before : goal.take_end-requires-clause-before
take_end-requires-clause-before g c = record {
  table = g.S.Shapes.table c.args.shapes.now;
  before =
      byte_before (field_on c.fields.invariant.at c.requires.before c.fields.invariant.some c.in_ok-taken.ensures
      (not_zero c.if-taken-eq0.false)) c.requires.before (delta_depth _)
      (rest_left c.args.rest.now c.fields.invariant.some (taken_within c.in_ok-taken.ensures) c.if-used-rest.false);
}

pub take_end-requires-clause-fresh : goal.take_end-requires-clause-fresh
take_end-requires-clause-fresh g c =
    (field_on c.fields.invariant.at c.requires.before c.fields.invariant.some c.in_ok-taken.ensures
    (not_zero c.if-taken-eq0.false)).fresh

pub returns-then-delta-eq0 : goal.returns-then-delta-eq0
returns-then-delta-eq0 g c =
    some_parts_taken (record {
      some = next_some (c.fields.used + c.in_ok-taken.taken);
      takes = end_on
          (field_on c.fields.invariant.at c.requires.before c.fields.invariant.some c.in_ok-taken.ensures
          (not_zero c.if-taken-eq0.false)) c.requires.before.room
          (rest_left c.args.rest.now c.fields.invariant.some (taken_within c.in_ok-taken.ensures) c.if-used-rest.false)
          c.if-delta-eq0.true (c.in_ok-moved.ensures.taken (g.S.Shapes.table c.args.shapes.now));
    }) c.in_ok-moved.ensures.fresh

pub bounds-rest-used : goal.bounds-rest-used
bounds-rest-used g c = rest_left c.args.rest.now c.fields.invariant.some (taken_within c.in_ok-taken.ensures)
    c.if-used-rest.false

pub take_field_delta-requires-clause-before : goal.take_field_delta-requires-clause-before
take_field_delta-requires-clause-before g c = byte_before
    (field_on c.fields.invariant.at c.requires.before c.fields.invariant.some c.in_ok-taken.ensures
    (not_zero c.if-taken-eq0.false)) c.requires.before (delta_depth _)
    (rest_left c.args.rest.now c.fields.invariant.some (taken_within c.in_ok-taken.ensures) c.if-used-rest.false)

pub take_field_delta-requires-clause-inside : goal.take_field_delta-requires-clause-inside
take_field_delta-requires-clause-inside g c =
    (field_on c.fields.invariant.at c.requires.before c.fields.invariant.some c.in_ok-taken.ensures
    (not_zero c.if-taken-eq0.false)).inside

pub take_field_delta-requires-clause-fresh : goal.take_field_delta-requires-clause-fresh
take_field_delta-requires-clause-fresh g c =
    (field_on c.fields.invariant.at c.requires.before c.fields.invariant.some c.in_ok-taken.ensures
    (not_zero c.if-taken-eq0.false)).fresh

pub returns-in_default-2 : goal.returns-in_default-2
returns-in_default-2 g c =
    let on = field_on c.fields.invariant.at c.requires.before c.fields.invariant.some c.in_ok-taken.ensures
    (not_zero c.if-taken-eq0.false) in
    let same = unnamed c.in_default-2.is c.in_ok-entered.ensures in
    some_parts_taken (record {
      some = sum_some c.fields.used c.if-taken-eq0.false;
      takes = same_passed same (item_passed on);
    }) (same_fresh same on.fresh)

pub returns-then-used-rest-2 : goal.returns-then-used-rest-2
returns-then-used-rest-2 g c =
    let on = field_on c.fields.invariant.at c.requires.before c.fields.invariant.some c.in_ok-taken.ensures
    (not_zero c.if-taken-eq0.false) in
    let left = rest_left c.args.rest.now c.fields.invariant.some (taken_within c.in_ok-taken.ensures)
    c.if-used-rest.false in
    let named = named_on on c.requires.before.room left (named_as c.in-Some-2.is c.in_ok-entered.ensures) in
    some_parts_taken (record {
      some = next_some (c.fields.used + c.in_ok-taken.taken);
      takes = item_passed named;
    }) named.fresh

pub fields-preserved : goal.fields-preserved
fields-preserved g c =
    record {
      at = fewer (c.fields.counter + 1)
          (named_on (field_on c.fields.invariant.at c.requires.before c.fields.invariant.some c.in_ok-taken.ensures
          (not_zero c.if-taken-eq0.false)) c.requires.before.room
          (rest_left c.args.rest.now c.fields.invariant.some (taken_within c.in_ok-taken.ensures) c.if-used-rest.false)
          (named_as c.in-Some-2.is c.in_ok-entered.ensures)) (one_more c.fields.counter);
      some = behind_delta c.args.rest.now
          (rest_left c.args.rest.now c.fields.invariant.some (taken_within c.in_ok-taken.ensures) c.if-used-rest.false)
          c.if-used-rest-2.false;
      same = λ z. absurd (not_next _ z);
    }

pub returns : goal.returns
returns g c = item_or_not c.fields.invariant.at c.fields.invariant.same

pub overflow_add-used : goal.overflow_add-used
overflow_add-used g c =
    let within = taken_within c.in_ok-taken.ensures in
    omega (arith, rest_some c.args.rest.now c.fields.used)

pub overflow_add-result : goal.overflow_add-result
overflow_add-result g c =
    let within : c.fields.used + c.in_ok-taken.taken < length c.args.rest.now =
    rest_left c.args.rest.now c.fields.invariant.some (taken_within c.in_ok-taken.ensures) c.if-used-rest.false in
    omega arith

pub overflow_add-used-in-fields : goal.overflow_add-used-in-fields
overflow_add-used-in-fields g c =
    let within : c.fields.used + c.in_ok-taken.taken < length c.args.rest.now =
    rest_left c.args.rest.now c.fields.invariant.some (taken_within c.in_ok-taken.ensures) c.if-used-rest.false in
    omega arith

pub take_field_delta-requires-clause-no_end : goal.take_field_delta-requires-clause-no_end
take_field_delta-requires-clause-no_end g c = not_zero c.if-delta-eq0.false
