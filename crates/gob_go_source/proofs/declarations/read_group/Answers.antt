use Rattle.std.proofs.Common.{◌≡◌, ◌∷◌, ◌++◌, [], List, length, refl, ap, subst, arith}
use Rattle.gob_go_source.specs.declared.token.Token.{Token}
use Rattle.gob_go_source.specs.Declarations.{SaysGroup, no_declarations}
use Rattle.gob_go_source.specs.Left.{left}
use Rattle.gob_go_source.proofs.DeclarationLaws.{none_more, one_more_declaration, declaration_shorter, weaker}
use Rattle.gob_go_source.proofs.GrammarLaws.{grown_same, grown_then}
use Rattle.gob_go_source.proofs.declarations.read_group.Goals as goal

pub group-init : goal.group-init
group-init c = record {
  says = none_more (λ ds. SaysGroup c.args.types.now.items ds (left c.args.tokens.now) (left c.args.tokens.now))
      c.args.declarations.now.items no_declarations;
  grown = grown_same c.args.types.now.items;
}

pub group-preserved : goal.group-preserved
group-preserved c =
    let items : c.push.new.self.items ≡ c.group.declarations.items ++ c.in_ok-declaration.declaration ∷ [] =
    grind arith in
    record {
      says = rw items (one_more_declaration c.group.types.items c.read_declaration.new.types.items
          c.args.declarations.now.items c.group.declarations.items c.in_ok-declaration.declaration
          c.group.invariant.says (c.group-test.ensures.stays refl) c.in_ok-declaration.ensures.says
          c.in_ok-declaration.ensures.grown);
      grown = grown_then _ _ _ c.group.invariant.grown c.in_ok-declaration.ensures.grown;
    }

pub group-smaller : goal.group-smaller
group-smaller c =
    omega (
      arith,
      declaration_shorter c.in_ok-declaration.ensures.says,
      ap length (c.group-test.ensures.stays refl),
    )

pub returns-clause-says : goal.returns-clause-says
returns-clause-says c = weaker
    (λ ds s. subst (λ (l : List Token). SaysGroup c.group.types.items ds (left c.args.tokens.now) l)
    (c.group-test.ensures.taken refl) s)
    c.group.invariant.says
