use Rattle.std.proofs.Common.{◌∙◌, sym, arith}
use Rattle.gob_go_source.proofs.BracketLaws.{closed_here, closed_later}
use Rattle.gob_go_source.proofs.tokens.Tokens.pass_brackets.Goals as goal

pub tokens-preserved : goal.tokens-preserved
tokens-preserved c = record {
  few = omega (arith, c.open_behind-depth.ensures.small, c.tokens.invariant.few);
  same =
      closed_later c.tokens.depth c.open_behind-depth.result c.in-Some.ensures.some
      (sym c.is_close.ensures ∙ c.if-is_close.false) c.open_behind-depth.ensures.behind
      ∙ c.tokens.invariant.same;
}

pub returns-then-is_close : goal.returns-then-is_close
returns-then-is_close c =
    sym c.tokens.invariant.same
    ∙ closed_here c.tokens.depth c.in-Some.ensures.some (sym c.is_close.ensures ∙ c.if-is_close.true)
