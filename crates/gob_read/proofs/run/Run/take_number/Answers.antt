use Rattle.std.proofs.Common.{◌∷◌, [], ◌++◌, List, ℕ, arith, drop, get_or, length-take, refl, sym, subst, take, Ok, Err}
use Rattle.gob_num.specs.Unsigned.{IsUnsigned}
use Rattle.gob_read.proofs.Machine.ToldLaws.{some}
use Rattle.gob_read.proofs.Machine.Runs.{fresh_is, prefix_taken, head_and_rest, number_answers, number_can_take}
use Rattle.gob_read.proofs.Machine.Runs.{refused_further, take_and_drop}
use Rattle.gob_read.proofs.run.Run.take_number.Goals as goal

pub take_whole_number-requires : goal.take_whole_number-requires
take_whole_number-requires g c =
    let s = c.args.rest.now in let n = c.in-Whole.used in
    let none = fresh_is c.args.item c.requires.expected c.requires.has_read (c.if-self.true) in
    let spelled = subst (λ (r : List ℕ). IsUnsigned c.in-Whole.number (r ++ take n s)) (sym none) c.in-Whole.ensures.1
    in
    number_can_take c.args.item (take n s) c.requires.expected c.requires.has_read spelled (let r = c.requires.room in
    let u = c.in-Whole.ensures.0 in omega (arith, length-take n s))

pub returns-in-Ok-clause-taken : goal.returns-in-Ok-clause-taken
returns-in-Ok-clause-taken g c =
    let s = c.args.rest.now in let n = c.in-Whole.used in let u = c.in-Whole.ensures.0 in
    let none = fresh_is c.args.item c.requires.expected c.requires.has_read (c.if-self.true) in
    let spelled = subst (λ (r : List ℕ). IsUnsigned c.in-Whole.number (r ++ take n s)) (sym none) c.in-Whole.ensures.1
    in
    prefix_taken (take n s) (drop n s) (take_and_drop s n) (omega (arith, length-take n s))
    (omega (arith, some c.in-Whole.ensures.1, length-take n s))
    (number_answers _ _ _ _ _ c.args.item (take n s) (Ok c.in-Ok.moved) c.requires.expected refl none refl
    (omega (arith, length-take n s)) refl refl spelled c.in-Ok.ensures)

pub returns-in-Err-clause-taken : goal.returns-in-Err-clause-taken
returns-in-Err-clause-taken g c =
    let s = c.args.rest.now in let n = c.in-Whole.used in let u = c.in-Whole.ensures.0 in
    let none = fresh_is c.args.item c.requires.expected c.requires.has_read (c.if-self.true) in
    let spelled = subst (λ (r : List ℕ). IsUnsigned c.in-Whole.number (r ++ take n s)) (sym none) c.in-Whole.ensures.1
    in
    refused_further _ _ _ _ (drop n s) c.in-Err.stop (take_and_drop s n)
    (number_answers _ _ _ _ c.take_whole_number.new.self c.args.item (take n s) (Err c.in-Err.stop) c.requires.expected
    refl none refl (omega (arith, length-take n s)) refl refl spelled c.in-Err.ensures)

pub returns-in-Ok-take_number_byte-clause-taken : goal.returns-in-Ok-take_number_byte-clause-taken
returns-in-Ok-take_number_byte-clause-taken g c = prefix_taken (get_or c.args.rest.now 0 0 ∷ [])
    (drop 1 c.args.rest.now)
    (head_and_rest c.args.rest.now c.requires.some) refl (omega arith) c.in-Ok-take_number_byte.ensures.taken

pub returns-in-Err-take_number_byte-clause-taken : goal.returns-in-Err-take_number_byte-clause-taken
returns-in-Err-take_number_byte-clause-taken g c = refused_further _ _ _ _ (drop 1 c.args.rest.now)
    c.in-Err-take_number_byte.stop (head_and_rest c.args.rest.now c.requires.some)
    c.in-Err-take_number_byte.ensures.taken
