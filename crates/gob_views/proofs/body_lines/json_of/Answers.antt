-- The text is that of the value that the body spells.
use Rattle.std.proofs.Common.{[], refl, subst}
use Rattle.gob_types.specs.Defined.{types}
use Rattle.gob_value.specs.Tree.{Tree}
use Rattle.gob_value.proofs.PublicLaws.{same_top}
use Rattle.gob_plain.specs.Filled.{SaysValue}
use Rattle.gob_views.proofs.body_lines.json_of.Goals as goal

pub returns-in-Some-clause-said : goal.returns-in-Some-clause-said
returns-in-Some-clause-said c = λ v spelled.
    let s = rw c.in-Some.is at c.in_ok-found.ensures in
    let is = (same_top [] [] s.0.spelled spelled refl).value in (
      s.1,
      subst (λ (v : Tree). SaysValue c.args.of.now.style (types c.args.of.now.table.now) c.args.of.now.id v s.1) is s.2,
      s.3,
      s.4,
    )

pub tape_of-requires : goal.tape_of-requires
tape_of-requires c = c.if-not-kept.ensures.0 refl
