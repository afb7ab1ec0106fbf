use Rattle.std.proofs.Common.{arith, refl, ap, length}
use Rattle.std.proofs.lemmas.Result.{err_from_is_err_and}
use Rattle.gob_go.proofs.EndSteps.{end_stops, end_on, end_whole, end_item}
use Rattle.gob_go.proofs.levels.Levels.end_values.Goals as goal

pub fill_outer-requires : goal.fill_outer-requires
fill_outer-requires c = record {
  all = c.loop-outer.self;
  popped = record { innermost = refl; items = c.in-Some.ensures.items; left = refl };
  is = c.loop-outer.invariant.is;
}

pub returns-in_err-fill_outer : goal.returns-in_err-fill_outer
returns-in_err-fill_outer c = λ T offset z a h o.
    let p = err_from_is_err_and c.from_residual.result c.from_residual.ensures.1 in
    rw (p.1, p.2) (end_stops c.in_err-fill_outer.field-0.0
    (c.in_err-fill_outer.ensures.steps c.loop-outer.self T offset z
    (record { innermost = refl; items = c.in-Some.ensures.items; left = refl }) a
    (c.loop-outer.invariant.each T offset z h a)))

pub returns-then-not-branch : goal.returns-then-not-branch
returns-then-not-branch c = λ T offset z a h o.
    end_on c.in_ok-fill_outer.field-0 c.if-not-branch.true
    (c.in_ok-fill_outer.ensures.steps c.loop-outer.self T offset z
    (record { innermost = refl; items = c.in-Some.ensures.items; left = refl }) a
    (c.loop-outer.invariant.each T offset z h a))

pub loop-outer-smaller : goal.loop-outer-smaller
loop-outer-smaller c = let l = c.in-Some.ensures.len in let e = ap length c.fill_outer.ensures.outer in omega arith

pub loop-outer-preserved : goal.loop-outer-preserved
loop-outer-preserved c =
    let w = c.loop-outer.invariant.is in
    record {
      is = record {
        table = w.table;
        offset = w.offset;
        bytes = w.bytes;
        has_read = end_whole c.in_ok-fill_outer.field-0 c.if-not-branch.false
            (c.in_ok-fill_outer.ensures.steps c.loop-outer.self w.table w.offset w.bytes
            (record { innermost = refl; items = c.in-Some.ensures.items; left = refl }) w.taken_is w.has_read);
        taken_is = w.taken_is;
        within = w.within;
        known = w.known;
      };
      each = λ T offset z h a.
          end_whole c.in_ok-fill_outer.field-0 c.if-not-branch.false
          (c.in_ok-fill_outer.ensures.steps c.loop-outer.self T offset z
          (record { innermost = refl; items = c.in-Some.ensures.items; left = refl }) a
          (c.loop-outer.invariant.each T offset z h a));
    }

pub returns : goal.returns
returns c = λ T offset z a h o.
    end_item c.loop-outer.self _ (c.loop-outer.invariant.each T offset z h a) o
    (let n = c.in_default.ensures.cases.0 in omega arith) refl
