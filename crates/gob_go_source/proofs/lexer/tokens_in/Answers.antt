use Rattle.std.proofs.Common.{◌≡◌, List, ℕ, [], rules, arith, subst}
use Rattle.gob_go_source.specs.Lexing.{Gives, Noted, nothing_lexed, one_more_piece}
use Rattle.gob_go_source.proofs.lexer.tokens_in.Goals as goal

pub pieces-init : goal.pieces-init
pieces-init c =
    let none : c.new-tokens.result.items ≡ [] = search rules in
    let nowhere : c.new-offsets.result.items ≡ [] = search rules in
    record { lexes = rw (none, nowhere, c.nothing_ahead-ahead.ensures) nothing_lexed; within = omega arith }

pub pieces-preserved : goal.pieces-preserved
pieces-preserved c = record {
  lexes = one_more_piece c.token_of-token.result c.noted_by.result c.pieces.invariant.lexes c.in-Some.ensures.front
      (subst (λ (l : List ℕ). Gives c.pieces.ahead c.in-Some.front.piece l c.token_of-token.result)
      c.split_at.ensures.front c.token_of-token.ensures)
      (subst (λ (l : List ℕ). Noted c.in-Some.front.piece l c.noted_by.result)
      c.split_at.ensures.front c.noted_by.ensures)
      c.split_at.ensures.back c.ahead_behind-ahead.ensures c.in_ok-put_token.ensures.tokens
      c.in_ok-put_token.ensures.offsets;
  within = omega (arith, c.split_at.ensures.back_len, c.pieces.invariant.within);
}
