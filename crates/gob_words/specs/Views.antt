-- What the words ask to be shown, to people and to other programs. (docs/FORMAT.md, The program: this project's own.)
use Rattle.std.specs.Prelude.{◌≡◌, ◌≢◌, ◌⊎◌, ◌≤◌, ◌∷◌, ◌++◌, ⊤, ℕ, List, [], codes, string_bytes}
use Rattle.std.specs.Prelude.{Option, Some, None, unwrap_or, Bool, true, false}
use Rattle.clap.specs.Words.{Row, Text, all_of, first_of, subcommand_of, takes, fault_of, IsAmong}
use Rattle.clap.specs.declared.error.kind.ErrorKind.{ErrorKind}
use Rattle.clap.specs.declared.error.kind.ErrorKind.TheVariants.{DisplayHelp, DisplayVersion, OutOfMemory}
use Rattle.gob_words.specs.declared.view.View.{View}
use Rattle.gob_words.specs.declared.view.ViewCommand.{ViewCommand}
use Rattle.gob_words.specs.declared.view.ViewCommand.TheVariants as view
use Rattle.gob_words.specs.declared.view.ViewFault.{ViewFault}
use Rattle.gob_words.specs.declared.view.ViewFault.TheVariants as view_fault
use Rattle.gob_words.specs.declared.words.OrderFault.TheVariants as fault
use Rattle.gob_words.specs.declared.kinds.TypeKind.{TypeKind}
use Rattle.gob_words.specs.Escaped.{IsUnobeyed}
use Rattle.gob_words.specs.Kinds.{SayKinds}
use Rattle.gob_words.specs.ViewDepths.{greatest_view_depth}
use Rattle.gob_words.specs.Words.{AsksForHelp, IsNumber, IsSet, order_line, order_status, program, text_of}

abbrev pub view_name : ViewCommand → Text
view_name view.Values = codes "values"
view_name view.Types = codes "types"
view_name view.Why = codes "why"
view_name view.Explain = codes "explain"
view_name view.Verify = codes "verify"
view_name view.Salvage = codes "salvage"
view_name view.Split = codes "split"
view_name view.Join = codes "join"
view_name view.Write = codes "write"
view_name view.Make = codes "make"
view_name view.Version = codes "version"
view_name view.ShowGo = codes "show"
view_name view.CheckGo = codes "check"
view_name view.RewriteGo = codes "rewrite"

-- the command is a view, by clap's values of the flags for streams of Go's encoder: an exact command is one with such a
-- flag alone
abbrev pub IsAskedFor : ViewCommand → (go hoist salvage : Option Text) → Type 0
IsAskedFor view.ShowGo go hoist salvage = IsSet go ⊎ IsSet salvage
IsAskedFor view.CheckGo go hoist salvage = IsSet go
IsAskedFor view.RewriteGo go hoist salvage = IsSet go ⊎ IsSet hoist
IsAskedFor _ go hoist salvage = ⊤

-- the file that a word names: a minus sign is standard input
pub record IsFileOf (word file : Option Text) : Type 0 where
  pub input : word ≡ Some (codes "-") → file ≡ None
  pub named : word ≢ Some (codes "-") → file ≡ word

-- whether a flag is given, by clap's value of it: the word true where it is, and else false or none
pub record IsGiven (value : Option Text) (flag : Bool) : Type 0 where
  pub given : value ≡ Some (codes "true") → flag ≡ true
  pub absent : value ≢ Some (codes "true") → flag ≡ false

-- whether a flag of values is given, by clap's value of it, which no other command has
abbrev pub IsFlagOf : ViewCommand → Option Text → Bool → Type 0
IsFlagOf view.Values value flag = IsGiven value flag
IsFlagOf _ value flag = flag ≡ false

-- the word that says of which type values are shown, which no other command than values has
abbrev pub IsOnlyOf : ViewCommand → (word only : Option Text) → Type 0
IsOnlyOf view.Values word only = only ≡ word
IsOnlyOf _ word only = only ≡ None

-- whether the flag of explain is given, by clap's value of it, which no other command has
abbrev pub IsFaultFlagOf : ViewCommand → Option Text → Bool → Type 0
IsFaultFlagOf view.Explain value flag = IsGiven value flag
IsFaultFlagOf _ value flag = flag ≡ false

-- whether the flag of rewrite for definitions is given, by clap's value of it, which no other command has
abbrev pub IsHoistFlagOf : ViewCommand → Option Text → Bool → Type 0
IsHoistFlagOf view.RewriteGo value flag = IsGiven value flag
IsHoistFlagOf _ value flag = flag ≡ false

-- whether the flag of write for lines of `show --go` is given, by clap's value of it, which no other view has
abbrev pub IsGoFlagOf : ViewCommand → Option Text → Bool → Type 0
IsGoFlagOf view.Write value flag = IsGiven value flag
IsGoFlagOf _ value flag = flag ≡ false

-- the offset that a word of explain gives, if one is there
abbrev pub IsPlaceIn : Option Text → Option ℕ → Type 0
IsPlaceIn None at = at ≡ None
IsPlaceIn (Some word) at = (n : ℕ) × (at ≡ Some n) × IsNumber (Some word) 0 n

-- and in a command's words: no other command has that option
abbrev pub IsPlaceOf : ViewCommand → Option Text → Option ℕ → Type 0
IsPlaceOf view.Explain word at = IsPlaceIn word at
IsPlaceOf _ word at = at ≡ None

-- all words that a command's words give for this
abbrev pub words_in : Text → Option (Text × List Row) → List Text
words_in name None = []
words_in name (Some met) = unwrap_or (all_of name met.1) []

-- whether they give this flag: without a command they don't
abbrev pub IsFlagIn : Text → Option (Text × List Row) → Bool → Type 0
IsFlagIn name (Some met) flag = IsGiven (first_of name met.1) flag
IsFlagIn name None flag = flag ≡ false

-- those that say of types what their bytes are
abbrev pub kind_words_in : Option (Text × List Row) → List Text
kind_words_in met = words_in (codes "as") met

-- clap met a subcommand with these rows, and this is what they ask for
pub record IsViewOf (met : Option (Text × List Row)) (view : View) : Type 0 where
  pub rows : List Row
  pub command : met ≡ Some (view_name view.command, rows)
  pub asked : IsAskedFor view.command (first_of (codes "go") rows) (first_of (codes "hoist") rows)
      (first_of (codes "salvage") rows)
  pub input : IsFileOf (first_of (codes "IN") rows) (text_of view.input)
  pub depth : IsNumber (first_of (codes "depth") rows) 1000 view.depth
  pub item : IsNumber (first_of (codes "item") rows) 67108864 view.item
  pub zeros : IsFlagOf view.command (first_of (codes "zeros") rows) view.zeros
  pub raw : IsFlagOf view.command (first_of (codes "raw") rows) view.raw
  pub tagged : IsFlagOf view.command (first_of (codes "tagged") rows) view.tagged
  pub typed : IsFlagOf view.command (first_of (codes "typed") rows) view.typed
  pub only : IsOnlyOf view.command (first_of (codes "only") rows) (text_of view.only)
  pub each : IsGiven (first_of (codes "each") rows) view.each
  pub kinds : SayKinds (kind_words_in met) view.kinds.items
  pub main : IsGiven (first_of (codes "main") rows) view.main
  pub progress : IsGiven (first_of (codes "progress") rows) view.progress
  pub salvage : IsGiven (first_of (codes "salvage") rows) view.salvage
  pub hoist : IsHoistFlagOf view.command (first_of (codes "hoist") rows) view.hoist
  pub fault : IsFaultFlagOf view.command (first_of (codes "fault") rows) view.fault
  pub at : IsPlaceOf view.command (first_of (codes "at") rows) view.at
  pub line : IsNumber (first_of (codes "line") rows) 268435456 view.line
  pub go : IsGoFlagOf view.command (first_of (codes "go") rows) view.go
  pub least : 1 ≤ view.depth
  pub most : view.depth ≤ greatest_view_depth

-- what the option that asks for the version stands for
abbrev pub IsVersionView : View → Type 0
IsVersionView given = (given.command ≡ view.Version) × (given.input ≡ None) × (given.depth ≡ 1000)
    × (given.item ≡ 67108864) × (given.zeros ≡ false) × (given.raw ≡ false) × (given.tagged ≡ false)
    × (given.typed ≡ false) × (given.only ≡ None) × (given.hoist ≡ false) × (given.fault ≡ false) × (given.at ≡ None)
    × (given.each ≡ false) × (given.kinds.items ≡ []) × (given.main ≡ false) × (given.progress ≡ false)
    × (given.salvage ≡ false) × (given.line ≡ 268435456) × (given.go ≡ false)

-- the files that a command's words name, in order, where it takes some
abbrev pub files_in : Option (Text × List Row) → List Text
files_in met = words_in (codes "FILE") met

-- the words, the program's name first, ask for this: by its name, or for the version by an option
unfoldable pub AsksToView : List Text → View → Type 0
AsksToView words view = IsViewOf (subcommand_of program words) view
    ⊎ (IsVersionView view × IsAmong DisplayVersion (fault_of program words))

-- clap has no other answer to the words than the version
abbrev pub AsksForVersion : List Text → Type 0
AsksForVersion words = fault_of program words ≡ DisplayVersion ∷ []

-- clap refuses the words or they name nothing that is shown, and neither help nor the version is all that they ask for
abbrev pub AsksForNothing : List Text → Type 0
AsksForNothing words = (takes program words ≡ true → (view : View) → ¬ IsViewOf (subcommand_of program words) view)
    × (¬ AsksForHelp words) × (¬ AsksForVersion words)

-- what the words do where they don't: they ask for help, or for nothing that there is; a terminal obeys no character of
-- the line that says what is wrong
unfoldable pub RefusesToView : List Text → ViewFault → Type 0
RefusesToView words (view_fault.Word line) = AsksForNothing words × IsUnobeyed (string_bytes line)
RefusesToView words (view_fault.Order (fault.Help text)) = IsAmong DisplayHelp (fault_of program words)
RefusesToView words (view_fault.Order fault.Words) = AsksForNothing words
RefusesToView words (view_fault.Order fault.Memory) = ⊤

-- the fault of words that clap answers with an error of this kind
abbrev pub IsViewFaultOf : ErrorKind → ViewFault → Type 0
IsViewFaultOf kind (view_fault.Word line) =
    (kind ≢ OutOfMemory) × (kind ≢ DisplayHelp) × IsUnobeyed (string_bytes line)
IsViewFaultOf kind (view_fault.Order (fault.Help text)) = kind ≡ DisplayHelp
IsViewFaultOf kind (view_fault.Order fault.Words) = (kind ≢ OutOfMemory) × (kind ≢ DisplayHelp)
IsViewFaultOf kind (view_fault.Order fault.Memory) = ⊤

-- a word is wrong, or no memory was had to say so: help isn't asked for
abbrev pub IsWordAtFault : ViewFault → Type 0
IsWordAtFault (view_fault.Word line) = IsUnobeyed (string_bytes line)
IsWordAtFault (view_fault.Order (fault.Help text)) = ⊥
IsWordAtFault _ = ⊤

-- the words say no kinds of types, or no memory was had
abbrev pub SaysNoKinds : List Text → ViewFault → Type 0
SaysNoKinds words (view_fault.Order fault.Memory) = ⊤
SaysNoKinds words fault = ((said : List TypeKind) → ¬ SayKinds words said) × IsWordAtFault fault

-- what was met asks for nothing to be shown, or no memory was had
abbrev pub IsNoView : Option (Text × List Row) → ViewFault → Type 0
IsNoView met (view_fault.Order fault.Memory) = ⊤
IsNoView met fault = ((view : View) → ¬ IsViewOf met view) × IsWordAtFault fault

-- ---- what comes of them

-- the exit status of the program behind a fault of its words
abbrev pub view_status : ViewFault → ℕ
view_status (view_fault.Word line) = 2
view_status (view_fault.Order fault) = order_status fault

-- what is printed then
abbrev pub view_line : ViewFault → List ℕ
view_line (view_fault.Word line) = codes "gob: " ++ line.bytes.items
view_line (view_fault.Order fault) = order_line fault
