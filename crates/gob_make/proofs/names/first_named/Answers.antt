use Rattle.std.proofs.Common.{arith}
use Rattle.std.proofs.lemmas.Option.{slice_get_within}
use Rattle.gob_make.proofs.NameLaws.{none_so_far}
use Rattle.gob_make.proofs.names.first_named.Goals as goal

pub numbers-preserved : goal.numbers-preserved
numbers-preserved c =
    none_so_far c.args.types.now c.numbers.number c.index-types-number.result c.args.name.now c.in_ok-is_named.field-0
    c.index-types-number.is c.in_ok-is_named.ensures c.if-branch.false c.numbers.invariant

pub returns-clause-none : goal.returns-clause-none
returns-clause-none c = λ _ number e named.
    let within = slice_get_within c.args.types.now number e named.field in
    c.numbers.invariant number (omega (arith, within, c.numbers-test.false)) (e, named)
