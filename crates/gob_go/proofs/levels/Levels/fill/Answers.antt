use Rattle.std.proofs.Common.{refl, Ok, Err}
use Rattle.std.proofs.lemmas.Result.{err_from_is_err_and}
use Rattle.gob_go.proofs.EndSteps.{end_stops, end_on, end_whole}
use Rattle.gob_go.proofs.NilSteps.{of_nil_byte, nil_before, nil_ends, nil_read, filling_steps}
use Rattle.gob_go.proofs.levels.Levels.fill.Goals as goal

pub fill-requires-clause-order : goal.fill-requires-clause-order
fill-requires-clause-order c = nil_before (of_nil_byte c.requires.has_read) c.requires.taken_is

pub fill-requires-clause-end : goal.fill-requires-clause-end
fill-requires-clause-end c = nil_ends (of_nil_byte c.requires.has_read) c.requires.taken_is

pub fill-requires-clause-read : goal.fill-requires-clause-read
fill-requires-clause-read c = nil_read (of_nil_byte c.requires.has_read)

pub returns-in_err-fill : goal.returns-in_err-fill
returns-in_err-fill c = λ T offset z a h o.
    let p = err_from_is_err_and c.from_residual.result c.from_residual.ensures.1 in
    rw (p.1, p.2) (end_stops c.in_err-fill.field-0.0
    (filling_steps _ (Err c.in_err-fill.field-0.0) (of_nil_byte h) a c.in_err-fill.ensures refl refl))

pub end_values-requires : goal.end_values-requires
end_values-requires c = record {
  table = c.requires.table;
  offset = c.requires.offset;
  bytes = c.requires.bytes;
  has_read = end_whole c.in_ok-fill.field-0 c.if-branch.true (filling_steps {d = c.args.table.now} _
      (Ok c.in_ok-fill.field-0) (of_nil_byte c.requires.has_read) c.requires.taken_is c.in_ok-fill.ensures refl refl);
  taken_is = c.requires.taken_is;
  within = c.requires.within;
  known = c.requires.known;
}

pub returns-then-branch : goal.returns-then-branch
returns-then-branch c = λ T offset z a h o.
    c.end_values.ensures T offset z a (end_whole c.in_ok-fill.field-0 c.if-branch.true (filling_steps
    {d = c.args.table.now} _ (Ok c.in_ok-fill.field-0) (of_nil_byte h) a c.in_ok-fill.ensures refl refl)) o

pub returns : goal.returns
returns c = λ T offset z a h o.
    end_on c.in_ok-fill.field-0 c.if-branch.false
    (filling_steps {d = c.args.table.now} _ (Ok c.in_ok-fill.field-0) (of_nil_byte h) a c.in_ok-fill.ensures refl refl)
