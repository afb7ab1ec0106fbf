use Rattle.std.proofs.Common.{arith, rules, ◌≡◌, length, vec_len, refl}
use Rattle.gob_types.specs.Defined.{types}
use Rattle.gob_go.specs.declared.filled.Filled.{out-Filled}
use Rattle.gob_handed.proofs.HandoutLaws.{tape_so}
use Rattle.gob_handed.proofs.go.content_of.Goals as goal

pub tape_of-requires : goal.tape_of-requires
tape_of-requires c = c.if-not-kept.ensures.0 refl

pub returns-then-is_empty-clause-nodes : goal.returns-then-is_empty-clause-nodes
returns-then-is_empty-clause-nodes c =
    let fillings = (out-Filled c.args.value.now).fillings in
    let long : vec_len fillings ≡ 0 = search rules in
    let none : length fillings.items ≡ 0 = omega (arith, long, fillings.ok.0) in
    tape_so (types c.args.table.now) {kept = c.args.value.now} refl none
    (rw c.deref.ensures.value at c.in_ok-tape_of.ensures)
