-- What a run over a stream answers that writes something of each item, in any grammar of items.
-- (docs/FORMAT.md, The program: this project's own.)
use Rattle.std.specs.Prelude.{◌≡◌, ℕ, List, [], ◌++◌, Option, Some, Result, Ok, Err}
use Rattle.std.specs.Io.KnownBytes.{Appends}
use Rattle.gob_types.specs.Table.{Table}
use Rattle.gob_stream.specs.Bounds.{Bounds}
use Rattle.gob_stream.specs.Calls.ReaderOf.{GivesAllButIn}
use Rattle.gob_stream.specs.Grammar.{BeginsIn, Grammar, LongestIn, OutcomeIn, StreamIn, refused}
use Rattle.gob_stream.specs.Reading.{SomeTaken}
use Rattle.gob_stream.specs.declared.fault.Refusal.{Refusal}
use Rattle.gob_tool.specs.declared.fault.ToolFault.{ToolFault}
use Rattle.gob_tool.specs.declared.fault.ToolFault.TheVariants as fault

-- the bytes are the stream of some items, all of them were read, and this holds of the items and the types behind them
pub record EndsWhole {Told : Type 0} (G : Grammar Told) (L : Bounds) (bytes : List ℕ) (now : Option (List ℕ))
    (P : Table → List Told → Type 0) : Type 0 where
  pub items : List Told
  pub table : Table
  pub stream : StreamIn G L items bytes table
  pub end : now ≡ Some []
  pub holds : P table items

-- the bytes are refused so, and this holds of the items before the refusal and the types behind them
pub record IsRefused {Told : Type 0} (G : Grammar Told) (L : Bounds) (bytes : List ℕ) (R : Refusal)
    (P : Table → List Told → Type 0) : Type 0 where
  pub items : List Told
  pub outcome : OutcomeIn G L bytes items (refused R)
  pub holds : P outcome.gives.begins.table items

-- this holds of the items of the longest stream that the bytes begin with, and the types behind them
pub record GivesOutcome {Told : Type 0} (G : Grammar Told) (L : Bounds) (bytes : List ℕ)
    (P : Table → List Told → Type 0) : Type 0 where
  pub items : List Told
  pub given : LongestIn G L bytes items
  pub holds : P given.begins.table items

-- this holds of the items of some stream that the bytes begin with, and the types behind them
pub record BeginsOutcome {Told : Type 0} (G : Grammar Told) (L : Bounds) (bytes : List ℕ)
    (P : Table → List Told → Type 0) : Type 0 where
  pub items : List Told
  pub begins : BeginsIn G L bytes items
  pub holds : P begins.table items

-- of these bytes all but the last ones were taken, of which no more waited than what is read ahead; this holds of all
-- items that those taken give, and the types behind them
pub record GivesTaken {Told : Type 0} (G : Grammar Told) (L : Bounds) (bytes : List ℕ)
    (P : Table → List Told → Type 0) : Type 0 where
  pub items : List Told
  pub table : Table
  pub given : GivesAllButIn G L table items bytes
  pub holds : P table items

-- how a run over an input with these bytes left ends, where `Whole` holds of the items if all went out that was to be
-- written of them, or `Cut` after a failed write
abbrev pub RunAnswersIn : {Told : Type 0} → Grammar Told → Bounds → (bytes : List ℕ) → (now : Option (List ℕ))
    → (Whole Cut : Table → List Told → Type 0) → Result (Unit {0}) ToolFault → Type 0
RunAnswersIn G L bytes now Whole Cut (Ok _) = EndsWhole G L bytes now Whole
RunAnswersIn G L bytes now Whole Cut (Err (fault.Refused R)) = IsRefused G L bytes R Whole
RunAnswersIn G L bytes now Whole Cut (Err fault.Read) = SomeTaken bytes now (λ taken. GivesOutcome G L taken Whole)
RunAnswersIn G L bytes now Whole Cut (Err fault.Write) = BeginsOutcome G L bytes Cut
RunAnswersIn G L bytes now Whole Cut (Err fault.Memory) = SomeTaken bytes now (λ read. GivesTaken G L read Whole)
RunAnswersIn G L bytes now Whole Cut (Err (fault.Wanted R)) = ⊥
RunAnswersIn G L bytes now Whole Cut (Err fault.NoWantedType) = ⊥
RunAnswersIn G L bytes now Whole Cut (Err (fault.Clash path reason)) = ⊥
RunAnswersIn G L bytes now Whole Cut (Err (fault.LeftOut path number)) = ⊥

-- known bytes grow by a prefix of these
pub record AppendsPrefix (old new : Option (List ℕ)) (bytes : List ℕ) : Type 0 where
  pub prefix : List ℕ
  pub rest : List ℕ
  pub whole : bytes ≡ prefix ++ rest
  pub out : Appends old new prefix
