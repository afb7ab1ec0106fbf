use Rattle.gob_num.proofs.PublicLaws.{bytes_each}
use Rattle.std.proofs.Common.{◌++◌, arith, refl, length-append}
use Rattle.std.proofs.lemmas.Result.{err_from_is_err_and}
use Rattle.gob_types.specs.Defined.{types}
use Rattle.gob_go.specs.Machine.Stages.{no_memory}
use Rattle.gob_go.specs.Reading.{as_before}
use Rattle.gob_go.proofs.BeginPutSteps.{value_begins, is_in_value, part_few}
use Rattle.gob_go.proofs.PutSteps.{part_stepped, part_stopped}
use Rattle.gob_go.proofs.TypeNumberSteps.{type_denied, put_bytes}
use Rattle.gob_go.proofs.type_number.begin_put.Goals as goal

pub returns-in-Err : goal.returns-in-Err
returns-in-Err c = rw c.of.ensures (record {
  each = λ offset size d a k n t l o. type_denied c.args.piece.now c.in-Err.denial k n t l c.in-Err.ensures.judged;
})

pub overflow_sub-left : goal.overflow_sub-left
overflow_sub-left c =
    let k = c.requires.counted in let b = k.begin in let e = k.end in let i = k.item in let w = c.requires.within in
    omega arith

pub returns-in_err-levels : goal.returns-in_err-levels
returns-in_err-levels c =
    let p = err_from_is_err_and c.from_residual.result c.from_residual.ensures.1 in
    rw (p.1, p.2) (record { each = λ offset size d a k n t l o. no_memory (as_before refl) })

pub take_value-requires : goal.take_value-requires
take_value-requires c = is_in_value (omega arith) c.requires c.in_default.ensures.judged
    c.in_ok-levels.ensures.innermost c.in_ok-levels.ensures.outer c.in_ok-levels.ensures.left (omega arith)

pub returns-in_err-taken : goal.returns-in_err-taken
returns-in_err-taken c =
    let p = err_from_is_err_and c.from_residual-in_err-taken.result c.from_residual-in_err-taken.ensures.1 in
    rw (p.1, p.2) (record {
      each = λ offset size d a k n t l o. part_stopped c.in_err-taken.field-0.0
          (c.in_err-taken.ensures.each (types c.args.table.now) offset _
          (value_begins c.args.table.now (omega arith) k n t l c.in_default.ensures.judged
          c.in_ok-levels.ensures.innermost c.in_ok-levels.ensures.outer c.in_ok-levels.ensures.left (omega arith)) o);
    })

pub returns : goal.returns
returns c = record {
  each = λ offset size d a k n t l o. part_stepped c.behind_part.result
      (c.in_ok-taken.ensures.each (types c.args.table.now) offset _
      (value_begins c.args.table.now (omega arith) k n t l c.in_default.ensures.judged c.in_ok-levels.ensures.innermost
      c.in_ok-levels.ensures.outer c.in_ok-levels.ensures.left (omega arith)) o)
      (let b = k.begin in omega (arith, length-append d a)) c.behind_part.ensures;
}

pub behind_part-requires : goal.behind_part-requires
behind_part-requires c =
    let h = c.requires in let k = h.counted in let ks = k.stream in let kb = k.begin in let ke = k.end in
    let most = c.stream-most.ensures.limits.stream in let w = h.within in
    let few = part_few (c.in_ok-taken.ensures.each (types c.args.table.now) h.offset (h.count ++ h.number)
    (value_begins c.args.table.now (omega arith) k h.numbered h.taken_is h.within c.in_default.ensures.judged
    c.in_ok-levels.ensures.innermost c.in_ok-levels.ensures.outer c.in_ok-levels.ensures.left (omega arith))
    (put_bytes c.args.piece.now h (bytes_each c.args.piece.now (λ i. omega (arith, c.type_inv.piece i))))) in
    omega arith
