-- What a call answers that writes JSON: where it is well, the tokens of the JSON stand behind those that stood before.
-- (docs/FORMAT.md, The JSON lines.)
use Rattle.std.specs.Prelude.{◌≡◌, List, ◌++◌, Result, OnOk}
use Rattle.json.specs.Token.{Token}
use Rattle.json.specs.Tree.{json_tokens}
use Rattle.json.specs.Written.{Written}
use Rattle.serde_json.specs.Data.{Data}
use Rattle.serde_json.specs.Written.{outline}

-- these tokens are behind those before, and the bytes that stood before the first token stay
pub record WritesTokens {E : Type 0} (r : Result (Unit {0}) E) (old new : Written) (ts : List Token) : Type 0 where
  pub tokens : OnOk r (new.tokens ≡ old.tokens ++ ts)
  pub before : new.before ≡ old.before

-- the tokens are those of the data
abbrev pub WritesJson : {E : Type 0} → Result (Unit {0}) E → Written → Written → Data → Type 0
WritesJson r old new d = WritesTokens r old new (json_tokens (outline d))

-- the tokens are those of the JSON of each value that is the one to be written
pub record WritesJsonOf {E V : Type 0} (r : Result (Unit {0}) E) (old new : Written) (Is : V → Type 0) (json : V → Data)
    : Type 0 where
  pub before : new.before ≡ old.before
  pub each : (v : V) → Is v → WritesJson r old new (json v)
