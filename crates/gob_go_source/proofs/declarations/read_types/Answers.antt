use Rattle.std.proofs.Common.{◌∷◌, [], List, refl, subst, arith}
use Rattle.gob_go_source.specs.declared.token.Token.{Token}
use Rattle.gob_go_source.specs.Declarations.{SaysDeclaration, one_type, some_types}
use Rattle.gob_go_source.specs.Left.{left}
use Rattle.gob_go_source.proofs.DeclarationLaws.{weaker}
use Rattle.gob_go_source.proofs.declarations.read_types.Goals as goal

pub returns-then-takes-clause-says : goal.returns-then-takes-clause-says
returns-then-takes-clause-says c = weaker
    (λ ds s. some_types (c.takes.ensures.taken c.if-takes.true) s refl c.in_ok-take_stop.ensures)
    c.in_ok-read_group.ensures.says

pub returns-clause-says : goal.returns-clause-says
returns-clause-says c = record {
  more = c.in_ok-declaration.declaration ∷ [];
  is = grind arith;
  said = one_type (subst
      (λ (l : List Token). SaysDeclaration c.read_declaration.new.types.items c.args.note
      c.in_ok-declaration.declaration l (left c.read_declaration.new.tokens))
      (c.takes.ensures.stays c.if-takes.false) c.in_ok-declaration.ensures.says);
}
