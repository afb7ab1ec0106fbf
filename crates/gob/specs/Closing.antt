-- When a writer knows that nobody reads what it writes. (docs/FORMAT.md, The program: this project's own.)
use Rattle.std.specs.Prelude.{◌≡◌, ◌≢◌, Bool, true, Result, Ok, Err}
use Rattle.std.specs.IoError.{error_kind}
use Rattle.std.specs.declared.io.Error.{Error}
use Rattle.std.specs.declared.io.ErrorKind.TheVariants.{BrokenPipe}

-- whether the other end is known to be closed, before and after a call that failed with this error
pub record NotesError (was now : Bool) (error : Error) : Type 0 where
  pub closed : error_kind error ≡ BrokenPipe → now ≡ true
  pub other : error_kind error ≢ BrokenPipe → now ≡ was

-- and before and after a call that was answered so
abbrev pub NotesClosed : {A : Type 0} → (was now : Bool) → Result A Error → Type 0
NotesClosed was now (Ok _) = now ≡ was
NotesClosed was now (Err error) = NotesError was now error
