-- What the run that checks a stream answers, and what it has written then.
-- (docs/FORMAT.md, The program: this project's own.)
use Rattle.std.specs.Prelude.{◌≡◌, ℕ, ◌+◌, List, [], ◌∷◌, ◌++◌, length, codes, Option, Some, Result, Ok, Err}
use Rattle.std.specs.Fmt.{decimal}
use Rattle.std.specs.Io.KnownBytes.{Appends}
use Rattle.gob_types.specs.Defined.{definition_count}
use Rattle.gob_types.specs.Table.{Table}
use Rattle.gob_stream.specs.Bounds.{Bounds}
use Rattle.gob_stream.specs.Item.{StreamItem, defines, puts}
use Rattle.gob_stream.specs.Grammar.{Grammar, LongestIn, OutcomeIn, StreamIn}
use Rattle.gob_stream.specs.Outcome.{refused, strict}
use Rattle.gob_stream.specs.Reading.{SomeTaken}
use Rattle.gob_tool.specs.declared.check.Tally.{Tally}
use Rattle.gob_tool.specs.declared.fault.ToolFault.{ToolFault}
use Rattle.gob_tool.specs.declared.fault.ToolFault.TheVariants as fault
use Rattle.gob_tool.specs.Showing.{AppendsPrefix}

-- how many of the items define a type
abbrev pub definitions_in : List StreamItem → ℕ
definitions_in [] = 0
definitions_in (defines id described ∷ items) = definitions_in items + 1
definitions_in (puts id value ∷ items) = definitions_in items

-- the line that says of an accepted stream how many items it has, how many types it defines, and how many bytes it is
abbrev pub counts_line : (items types bytes : ℕ) → List ℕ
counts_line items types bytes =
    codes "ok: " ++ (decimal items ++ (codes " items, " ++ (decimal types ++ (codes " types, " ++ (decimal bytes
    ++ (codes " bytes" ++ 10 ∷ []))))))

-- the line of a tally
abbrev pub tally_line : Tally → List ℕ
tally_line tally = counts_line tally.items tally.types tally.bytes

-- how many types stand behind items, beside those of the base table
abbrev pub definitions_behind : {Told : Type 0} → List Told → Table → ℕ
definitions_behind items T = definition_count T

-- the bytes are the stream of some items, all of them were read, and this holds of the line that says so, where
-- `defined` is how many types the items define, with the table behind them
pub record IsCountedIn {Told : Type 0} (G : Grammar Told) (defined : List Told → Table → ℕ) (L : Bounds)
    (bytes : List ℕ) (now : Option (List ℕ)) (P : List ℕ → Type 0) : Type 0 where
  pub items : List Told
  pub table : Table
  pub stream : StreamIn G L items bytes table
  pub end : now ≡ Some []
  pub holds : P (counts_line (length items) (defined items table) (length bytes))

-- why the bytes aren't known to be a stream, where these are left
abbrev pub IsNoStreamIn : {Told : Type 0} → Grammar Told → Bounds → (bytes : List ℕ) → (now : Option (List ℕ))
    → ToolFault → Type 0
IsNoStreamIn {Told = Told} G L bytes now (fault.Refused R) = (items : List Told) × OutcomeIn G L bytes items (refused R)
IsNoStreamIn {Told = Told} G L bytes now fault.Read =
    SomeTaken bytes now (λ taken. (items : List Told) × LongestIn G L taken items)
IsNoStreamIn G L bytes now fault.Memory = Unit {0}
IsNoStreamIn G L bytes now fault.Write = ⊥
IsNoStreamIn G L bytes now (fault.Wanted R) = ⊥
IsNoStreamIn G L bytes now fault.NoWantedType = ⊥
IsNoStreamIn G L bytes now (fault.Clash path reason) = ⊥
IsNoStreamIn G L bytes now (fault.LeftOut path number) = ⊥

-- how the run ends, over an input with these bytes left and an output with the old bytes: the line of the whole stream
-- went out, or a prefix of it where the output failed; or nothing was written
pub data ChecksIn {Told : Type 0} (G : Grammar Told) (defined : List Told → Table → ℕ) (L : Bounds) (bytes : List ℕ)
    (now old new : Option (List ℕ)) : Result (Unit {0}) ToolFault → Type 0
  where
    is_accepted : {u : Unit {0}} → IsCountedIn G defined L bytes now (Appends old new)
        → ChecksIn G defined L bytes now old new (Ok u)
    is_cut : IsCountedIn G defined L bytes now (AppendsPrefix old new)
        → ChecksIn G defined L bytes now old new (Err fault.Write)
    is_stopped : {f : ToolFault} → IsNoStreamIn G L bytes now f → Appends old new []
        → ChecksIn G defined L bytes now old new (Err f)

-- so of a stream of the format
abbrev pub CheckAnswers : Bounds → (bytes : List ℕ) → (now old new : Option (List ℕ)) → Result (Unit {0}) ToolFault
    → Type 0
CheckAnswers L bytes now old new result = ChecksIn strict (λ items T. definitions_in items) L bytes now old new result
