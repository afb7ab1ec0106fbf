-- What comments say of the types that are declared behind them. (docs/FORMAT.md, Types as source: this project's own.)
use Rattle.std.specs.Prelude.{◌≡◌, ℕ, List, IsTrue, Option, Some, None, codes, drop, if◌then◌else◌, length, take}
use Rattle.std.specs.Prelude.{nat_eq}
use Rattle.std.specs.List.{starts_with}
use Rattle.gob_types.specs.declared.kind.Marshal.{Marshal}
use Rattle.gob_types.specs.declared.kind.Marshal.TheVariants as marshal
use Rattle.gob_go_source.specs.declared.token.Note.{Note}
use Rattle.gob_go_source.specs.declared.scan.Scan.TheVariants as scan
use Rattle.gob_go_source.specs.Numbers.{IsNumberOf}
use Rattle.gob_go_source.specs.Scanning.{end_of}

abbrev pub no_note : Note
no_note = record { id = None; marshal = None }

-- the comment in front of a type begins so, with its id behind that
abbrev pub note_head : List ℕ
note_head = codes "// type "

-- by what the type encodes itself, as the text behind its id says
abbrev pub marshal_of : List ℕ → Option Marshal
marshal_of text =
    if starts_with nat_eq text (codes ", which encodes itself by GobEncode") then Some marshal.Gob else
    if starts_with nat_eq text (codes ", which encodes itself by MarshalBinary") then Some marshal.Binary else
    if starts_with nat_eq text (codes ", which encodes itself by MarshalText") then Some marshal.Text else None

-- the note of so many digits, and the text behind them
pub data NoteOf (text : List ℕ) : Option Note → Type 0 where
  notes : {size n : ℕ} {m : Option Marshal} → end_of scan.Digits text ≡ Some size → IsNumberOf (take size text) (Some n)
      → m ≡ marshal_of (drop size text) → NoteOf text (Some (record { id = Some n; marshal = m }))
  notes_nothing : ((size : ℕ) → end_of scan.Digits text ≡ Some size → IsNumberOf (take size text) None)
      → NoteOf text None

-- what a comment says, if it begins as that in front of a type
pub data SaysNote (comment : List ℕ) : Option Note → Type 0 where
  says_note : {o : Option Note} → IsTrue (starts_with nat_eq comment note_head)
      → NoteOf (drop (length note_head) comment) o → SaysNote comment o
  says_nothing : (IsTrue (starts_with nat_eq comment note_head) → ⊥) → SaysNote comment None
