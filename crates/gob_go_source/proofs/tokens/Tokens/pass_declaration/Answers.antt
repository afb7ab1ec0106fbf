use Rattle.std.proofs.Common.{◌∙◌, refl, sym, arith}
use Rattle.gob_go_source.proofs.DeclarationLaws.{ends_here, goes_on, at_end}
use Rattle.gob_go_source.proofs.tokens.Tokens.pass_declaration.Goals as goal

pub tokens-preserved : goal.tokens-preserved
tokens-preserved c = record {
  few = omega (arith, c.open_behind-depth.ensures.small, c.tokens.invariant.few);
  same =
      goes_on c.tokens.depth c.open_behind-depth.result c.in-Some.ensures.some
      (sym c.is_end.ensures ∙ c.if-is_end.false) c.open_behind-depth.ensures.behind
      ∙ c.tokens.invariant.same;
}

pub returns-then-is_end : goal.returns-then-is_end
returns-then-is_end c =
    sym c.tokens.invariant.same
    ∙ ends_here c.tokens.depth c.in-Some.ensures.some (sym c.is_end.ensures ∙ c.if-is_end.true)

pub returns : goal.returns
returns c =
    sym c.tokens.invariant.same ∙ at_end c.tokens.depth (omega arith) (c.in_default.ensures.none refl)
