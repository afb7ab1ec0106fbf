-- Brackets among tokens: where the one that is open closes. Brackets of each kind count alike.
use Rattle.std.specs.Prelude.{ℕ, ◌+◌, ◌-◌, List, [], ◌∷◌, Bool, false, ◌==◌, Option, Some, None, if◌then◌else◌}
use Rattle.gob_go_source.specs.declared.token.Token.{Token}
use Rattle.gob_go_source.specs.declared.token.Token.TheVariants as token
use Rattle.gob_go_source.specs.declared.token.Mark.TheVariants as mark

-- how many brackets are open behind a token
abbrev pub depth_after : ℕ → Token → ℕ
depth_after d (token.Mark mark.OpenBrace) = d + 1
depth_after d (token.Mark mark.OpenBracket) = d + 1
depth_after d (token.Mark mark.Open) = d + 1
depth_after d (token.Mark mark.CloseBrace) = d - 1
depth_after d (token.Mark mark.CloseBracket) = d - 1
depth_after d (token.Mark mark.Close) = d - 1
depth_after d _ = d

-- where so many brackets are open inside of one, the token closes that
abbrev pub closes_at : ℕ → Token → Bool
closes_at d (token.Mark mark.CloseBrace) = d == 0
closes_at d (token.Mark mark.CloseBracket) = d == 0
closes_at d (token.Mark mark.Close) = d == 0
closes_at d _ = false

-- what stands behind the bracket that closes the one that is open, inside of which so many others are
abbrev pub behind_close : ℕ → List Token → Option (List Token)
behind_close d [] = None
behind_close d (t ∷ ts) = if closes_at d t then Some ts else behind_close (depth_after d t) ts
