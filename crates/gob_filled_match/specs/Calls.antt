-- What contracts see of a match that is kept, and of a value that was received.
use Rattle.std.specs.Prelude.{IfSome}
use Rattle.gob_types.specs.declared.id.TypeId.{TypeId}
use Rattle.gob_types.specs.Table.{Table}
use Rattle.gob_value.specs.Tree.{Tree}
use Rattle.gob_value.specs.Top.{SpellsTop}
use Rattle.gob_match.specs.declared.kept.KeptMatch.{KeptMatch}
use Rattle.gob_match.specs.Calls.Matched.{IsKeptMatch, kept_type}
use Rattle.gob_match.specs.Matching.{Match}
use Rattle.gob_filled.specs.Filled.{Fillings}
use Rattle.gob_filled.specs.Filled as spelled
use Rattle.gob_go.specs.Meaning.{AreFillings}
use Rattle.gob_go.specs.declared.filled.Filled.{Filled, out-Filled}
use Rattle.gob_filled_match.specs.Numbered.{numbered}
use Rattle.gob_filled_match.specs.Received.{ReceivesFilled}
use Rattle.gob_filled_match.specs.declared.matching.LastMatch.{LastMatch}

-- it is a match of one of the types of T with u, one of U
pub record IsKnown (T U : Table) (u : TypeId) (kept : KeptMatch) : Type 0 where
  pub match : Match T U (kept_type kept) u
  pub is : IsKeptMatch T U (kept_type kept) u kept

-- and so is each that is kept, of the types or of those in which interfaces are numbers
abbrev pub KeepsKnown : (T U : Table) → TypeId → LastMatch → Type 0
KeepsKnown T U u kept = IfSome kept.plain (IsKnown T U u) × IfSome kept.numbered (IsKnown (numbered T) (numbered U) u)

-- what was made stands for a value that is received of this one: its skeleton is one of the wanted type, and what fills
-- its nils keeps the types of the stream
pub record MakesReceived (T U : Table) (t u : TypeId) (made : Filled) (v : spelled.Filled) : Type 0 where
  pub skeleton : Tree
  pub fillings : Fillings
  pub made_spelled : SpellsTop U u skeleton (out-Filled made).skeleton.items
  pub mean : AreFillings T (out-Filled made).fillings.items fillings
  pub receives : ReceivesFilled T U t u v (spelled.filled skeleton fillings)
