-- What the crates below have no name of for others, by what their definitions give.
use Rattle.std.proofs.Common.{◌≡◌, ℕ, List, [], ◌∷◌, Some, None, codes, refl}
use Rattle.std.specs.Borrow.{Bor}
use Rattle.std.specs.Prelude.{Option, unwrap_or}
use Rattle.gob_types.specs.declared.id.TypeId.{TypeId}
use Rattle.gob_types.specs.declared.kind.Kind.TheVariants as kind
use Rattle.gob_types.specs.declared.kind.Marshal.{Marshal}
use Rattle.gob_types.specs.declared.kind.Marshal.TheVariants as marshal
use Rattle.gob_types.specs.Base.{id}
use Rattle.gob_go_source.specs.declared.declarations.GoSource.{GoSource}
use Rattle.gob_go_source.specs.Lexing.{front, nothing_ahead, pair_start, piece_of, scan_of, single_start}
use Rattle.gob_go_source.specs.Notes.{NoteOf, marshal_of, notes}
use Rattle.gob_go_source.specs.Numbers.{IsNumberOf}
use Rattle.gob_go_source.specs.Scanning.{end_of}
use Rattle.gob_go_types.specs.Library.{known_of}
use Rattle.gob_go_types.specs.Sight.{LeadsFrom, Seen, SeenFrom, parts_sight, seen_behind, seen_there}
use Rattle.gob_go_types.specs.Types.{IsOf, a_basic, an_opaque, defined}

abbrev pub type_of : {A : Type 0} → A → Type 0
type_of {A = A} x = A

abbrev pub item_of : {A : Type 0} → Option A → Type 0
item_of {A = A} x = A

abbrev pub index_of : {A : Type 0} (P : A → Type 0) {B : Type 0} (x : A) → (P x → B) → A
index_of P x f = x

abbrev pub value_of : {A : Type 0} (P : A → Type 0) (x : A) → P x → A
value_of P x p = x

-- ---- pieces

abbrev pub Ahead : Type 0
Ahead = type_of nothing_ahead

abbrev pub Front : Type 0
Front = item_of (front [])

abbrev pub Piece : Type 0
Piece = type_of (piece_of 0)

abbrev pub blank_piece : Piece
blank_piece = piece_of 32

abbrev pub line_piece : Piece
line_piece = piece_of 10

abbrev pub word_piece : Piece
word_piece = piece_of 97

abbrev pub number_piece : Piece
number_piece = piece_of 48

abbrev pub sign_piece : Piece
sign_piece = piece_of 123

abbrev pub text_piece : Piece
text_piece = piece_of 34

abbrev pub comment_piece : Piece
comment_piece = (unwrap_or (pair_start 47 47) (single_start 0)).piece

abbrev pub Scan : Type 0
Scan = type_of (scan_of 0 blank_piece)

abbrev pub blank_scan : Scan
blank_scan = scan_of 32 blank_piece

abbrev pub word_scan : Scan
word_scan = scan_of 97 word_piece

abbrev pub no_scan : Scan
no_scan = scan_of 123 sign_piece

abbrev pub line_scan : Scan
line_scan = (unwrap_or (pair_start 47 47) (single_start 0)).scan

-- a scan over digits alone, as the note of a comment has it
abbrev pub digits_scan : List ℕ → Scan
digits_scan text = index_of (λ s. end_of s text ≡ Some 0) {B = IsNumberOf [] (Some 0) → NoteOf text _} _
    (λ e. λ n. notes {size = 0} {n = 0} {m = marshal_of text} e n refl)

-- ---- looks

abbrev pub Sight : Type 0
Sight = type_of (parts_sight None 0)

abbrev pub sight_own : ℕ → ℕ → Sight
sight_own i n = parts_sight (Some i) n

abbrev pub sight_basic : GoSource → TypeId → Sight
sight_basic s t = value_of (λ v. IsOf s [] [] v t) _ a_basic

abbrev pub sight_opaque : GoSource → Bor (List ℕ) → Marshal → Sight
sight_opaque s w m = value_of (λ v. IsOf s [] (defined (id 0) w.now (kind.Opaque m) ∷ []) v (id 0)) _
    (an_opaque {w = w} {m = m} {t = id 0} (0, refl))

-- what is known of a type of Go's library that encodes itself so
abbrev pub known_opaque : Marshal → Option (item_of (known_of [] []))
known_opaque marshal.Gob = known_of (codes "time") (codes "Time")
known_opaque marshal.Binary = known_of (codes "url") (codes "URL")
known_opaque marshal.Text = None

abbrev pub step_type : {A : Type 0} → (A → Type 0) → Type 0
step_type {A = A} f = A

abbrev pub Step : GoSource → Type 0
Step s = step_type (LeadsFrom s 0)

abbrev pub step_at : (s : GoSource) → Sight → Step s
step_at s v = index_of (LeadsFrom s 0) {B = SeenFrom s 0 v} _ (λ l. seen_there l)

abbrev pub step_on : (s : GoSource) → ℕ → Step s
step_on s m = index_of (LeadsFrom s 0) {B = Seen s (parts_sight None 0) m → SeenFrom s 0 (parts_sight None 0)} _
    (λ l. λ x. seen_behind l x)
