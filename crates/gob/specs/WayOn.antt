-- What is told behind a refusal. (docs/FORMAT.md, The program: this project's own.)
use Rattle.std.specs.Prelude.{◌≡◌, ℕ, List, [], ◌∷◌, ◌++◌, ◌==◌, codes, string_bytes, Bool, true}
use Rattle.std.specs.Prelude.{false, if◌then◌else◌, Option, None, MatchOption, Result, Ok, Err}
use Rattle.std.specs.Str.{chars}
use Rattle.gob_tool.specs.declared.fault.ToolFault.TheVariants as run_fault
use Rattle.gob_stream.specs.declared.fault.Refusal.{Refusal}
use Rattle.gob_words.specs.Escaped.{IsUnobeyed, escaped_text}
use Rattle.gob_words.specs.Shell.{IsShellWord}
use Rattle.gob_words.specs.Words.{text_of}
use Rattle.gob_words.specs.declared.view.View.{View}
use Rattle.gob_words.specs.declared.view.ViewCommand.{ViewCommand}
use Rattle.gob_words.specs.declared.view.ViewCommand.TheVariants as command
use Rattle.gob.specs.declared.Exit.{Exit}
use Rattle.gob.specs.declared.Exit.TheVariants.{Run, RefusedFile}

-- the refusals of this command are told with the way on
abbrev pub is_told : ViewCommand → Bool
is_told command.Values = true
is_told command.Types = true
is_told command.Explain = true
is_told command.ShowGo = true
is_told command.CheckGo = true
is_told command.RewriteGo = true
is_told command.Split = true
is_told _ = false

-- the name of the file that a refusal is told with
abbrev pub told_name : View → Option (List ℕ)
told_name view = if is_told view.command then text_of view.input else None

-- what stands before a name that begins with a minus sign (45), so that it is read as no option
abbrev pub end_of_options : List ℕ → List ℕ
end_of_options [] = []
end_of_options (c ∷ cs) = if c == 45 then codes "-- " else []

-- the line names the file, in characters of which a terminal obeys none, and has the command that says why it is
-- refused, with the name as a word of a shell
pub record IsWayOn (name line : List ℕ) : Type 0 where
  pub shown : List ℕ
  pub shown_is : chars shown ≡ escaped_text (chars name)
  pub word : List ℕ
  pub is_word : IsUnobeyed name → IsShellWord (chars word) (chars name)
  pub unobeyed : IsUnobeyed word
  pub line_is : line ≡ codes "gob: in " ++ (shown ++ (codes "; type: gob why " ++ (end_of_options name ++ word)))

-- what stops the program in place of a refusal of the file of this name: that and the line, or where no memory was had
-- for the line it alone
abbrev pub TellsRefusal : (name : List ℕ) → Refusal → Exit → Type 0
TellsRefusal name R (RefusedFile fault line) = (fault ≡ run_fault.Refused R) × IsWayOn name (string_bytes line)
TellsRefusal name R told = told ≡ Run (run_fault.Refused R)

-- what stops the program in place of what stopped a view's run over the file of this name
abbrev pub TellsWayOn : (name : List ℕ) → (stop told : Exit) → Type 0
TellsWayOn name (Run (run_fault.Refused R)) told = TellsRefusal name R told
TellsWayOn name stop told = told ≡ stop

-- how a view's run ends the program that ended so
abbrev pub WithWayOn : View → (ending result : Result (Unit {0}) Exit) → Type 0
WithWayOn view (Ok u) result = result ≡ Ok u
WithWayOn view (Err stop) (Ok u) = ⊥
WithWayOn view (Err stop) (Err told) = MatchOption (told_name view) (told ≡ stop) (λ name. TellsWayOn name stop told)
