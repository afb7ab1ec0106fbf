-- Types as they are written, and their tokens.
use Rattle.std.proofs.Common.{Bool, true, false, ◌<◌, ◌^◌, ◌≡◌, ℕ, List, [], ◌∷◌, ◌++◌, codes, decimal, replicate, None}
use Rattle.std.proofs.Common.{length, Some, not, ◌==◌, nat_eq}
use Rattle.std.specs.List.{list_all, starts_with}
use Rattle.gob_go_source.specs.Notes.{note_head}
use Rattle.std.specs.Borrow.{Bor}
use Rattle.std.specs.Prelude.{IsTrue, Option, slice_get}
use Rattle.gob_types.specs.declared.kind.Marshal.{Marshal}
use Rattle.gob_source.specs.Source.{decoder_text, encoder_text, marshal_text}
use Rattle.gob_go_source.specs.declared.go_type.Declaration.{Declaration}
use Rattle.gob_go_source.specs.declared.go_type.GoField.{GoField}
use Rattle.gob_go_source.specs.declared.go_type.GoType.{GoType}
use Rattle.gob_go_source.specs.declared.go_type.GoType.TheVariants as go
use Rattle.gob_go_source.specs.declared.token.Mark.{Mark}
use Rattle.gob_go_source.specs.declared.token.Mark.TheVariants as mark
use Rattle.gob_go_source.specs.declared.token.Note.{Note}
use Rattle.gob_go_source.specs.declared.token.Token.{Token}
use Rattle.gob_go_source.specs.declared.token.Token.TheVariants as token
use Rattle.gob_go_source.specs.Declarations.{behind_stop, is_passed}
use Rattle.gob_go_source.specs.Lexing.{front, keyword}
use Rattle.gob_go_source.specs.Scanning.{is_blank, is_word_byte}
use Rattle.gob_source_back.proofs.Named.{word_piece}

-- ---- texts

-- a type as it is written
pub data Written : Type 0 where
  word : List ℕ → Written
  pointer : Written → Written
  slice : Written → Written
  interface : Written
  array_of : ℕ → Written → Written
  map_of : (key elem : Written) → Written
  qualified : (owner name : List ℕ) → Written

-- its text, in front of another
abbrev pub type_then : Written → List ℕ → List ℕ
type_then (word w) rest = w ++ rest
type_then (pointer e) rest = 42 ∷ type_then e rest
type_then (slice e) rest = 91 ∷ 93 ∷ type_then e rest
type_then interface rest = codes "interface{}" ++ rest
type_then (array_of n e) rest = 91 ∷ (decimal n ++ (93 ∷ type_then e rest))
type_then (map_of k e) rest = codes "map[" ++ type_then k (93 ∷ type_then e rest)
type_then (qualified p w) rest = p ++ (46 ∷ (w ++ rest))

-- a field on a line: its name, the spaces behind it but for one, and its type
pub record Line : Type 0 where
  pub name : List ℕ
  pub pad : ℕ
  pub type : Written

abbrev pub lines_then : List Line → List ℕ → List ℕ
lines_then [] rest = rest
lines_then (l ∷ ls) rest =
    9 ∷ (l.name ++ (32 ∷ (replicate l.pad 32 ++ type_then l.type (10 ∷ lines_then ls rest))))

-- what a declared type is: a struct of these fields, a type that is written so, or another name for one
pub data Body : Type 0 where
  fields : List Line → Body
  parts : Written → Body
  another : Written → Body

abbrev pub body_then : Body → List ℕ → List ℕ
body_then (fields ls) rest = codes "struct {\n" ++ lines_then ls (codes "}\n" ++ rest)
body_then (parts e) rest = type_then e (10 ∷ rest)
body_then (another e) rest = codes "= " ++ type_then e (10 ∷ rest)

abbrev pub is_another : Body → Bool
is_another (another e) = true
is_another _ = false

-- comments on lines of their own, in front of the end of a line
abbrev pub notes_then : List (List ℕ) → List ℕ → List ℕ
notes_then [] rest = rest
notes_then (c ∷ cs) rest = 10 ∷ (c ++ notes_then cs rest)

-- comments behind empty lines, and nothing behind them
abbrev pub remarks_text : List (List ℕ) → List ℕ
remarks_text [] = []
remarks_text (c ∷ cs) = 10 ∷ (c ++ (10 ∷ remarks_text cs))

-- what the comment says behind the id of a type that encodes itself
abbrev pub encoding : Option Marshal → List ℕ
encoding None = []
encoding (Some m) = marshal_text m

-- the methods of one that is declared under this name
abbrev pub methods_then : Option Marshal → (own : List ℕ) → List ℕ → List ℕ
methods_then None own rest = rest
methods_then (Some m) own rest = encoder_text m own ++ (decoder_text m own ++ rest)

-- a declaration: the id of its type, how that encodes itself, the comments behind that, its name, what it is, and its
-- methods
pub record Struct : Type 0 where
  pub id : ℕ
  pub marshal : Option Marshal
  pub notes : List (List ℕ)
  pub name : List ℕ
  pub body : Body
  pub methods : Option Marshal

abbrev pub struct_then : Struct → List ℕ → List ℕ
struct_then d rest =
    codes "\n// type " ++ (decimal d.id ++ (encoding d.marshal ++ notes_then d.notes (codes "\ntype " ++ (d.name
    ++ (32 ∷ body_then d.body (methods_then d.methods d.name rest))))))

abbrev pub structs_then : List Struct → List ℕ → List ℕ
structs_then [] rest = rest
structs_then (d ∷ ds) rest = struct_then d (structs_then ds rest)

-- ---- words

-- in front of what is no letter or digit it stands for itself, and is no keyword
pub record IsWordText (w : List ℕ) : Type 0 where
  pub fronts : (c : ℕ) (rest : List ℕ) → is_word_byte c ≡ false
      → front (w ++ c ∷ rest) ≡ Some (record { piece = word_piece; len = length w })
  pub no_keyword : (n : Note) → keyword n w ≡ None
  pub first : ℕ
  pub others : List ℕ
  pub begins : w ≡ first ∷ others
  pub solid : is_blank first ≡ false

abbrev pub HasWords : Written → Type 0
HasWords (word w) = IsWordText w
HasWords (pointer e) = HasWords e
HasWords (slice e) = HasWords e
HasWords interface = Unit {0}
HasWords (array_of n e) = (n < 2 ^ 64) × HasWords e
HasWords (map_of k e) = HasWords k × HasWords e
HasWords (qualified p w) = IsWordText p × IsWordText w

pub data LinesHaveWords : List Line → Type 0 where
  no_words : LinesHaveWords []
  more_words : {l : Line} {ls : List Line} → IsWordText l.name → HasWords l.type → LinesHaveWords ls
      → LinesHaveWords (l ∷ ls)

abbrev pub BodyHasWords : Body → Type 0
BodyHasWords (fields ls) = LinesHaveWords ls
BodyHasWords (parts e) = HasWords e
BodyHasWords (another e) = HasWords e

-- ---- comments

-- the byte ends no line
abbrev pub stays : ℕ → Bool
stays b = not (b == 10)

-- a comment up to the end of its line, which isn't that in front of a type
pub record IsQuiet (c : List ℕ) : Type 0 where
  pub more : List ℕ
  pub is : c ≡ 47 ∷ 47 ∷ more
  pub whole : list_all stays more ≡ true
  pub other : starts_with nat_eq c note_head ≡ false

pub data AreQuiet : List (List ℕ) → Type 0 where
  none_quiet : AreQuiet []
  more_quiet : {c : List ℕ} {cs : List (List ℕ)} → IsQuiet c → AreQuiet cs → AreQuiet (c ∷ cs)

-- ---- tokens

-- the first of the old tokens are those of the type, and the rest stand behind them
pub data TypeTokens : Written → (old rest : List Token) → Type 0 where
  of_word : {w : List ℕ} {b : Bor (List ℕ)} {old rest : List Token} → b.now ≡ w → old ≡ token.Name b ∷ rest
      → TypeTokens (word w) old rest
  of_pointer : {e : Written} {old next rest : List Token} → old ≡ token.Mark mark.Star ∷ next
      → TypeTokens e next rest → TypeTokens (pointer e) old rest
  of_slice : {e : Written} {old next rest : List Token}
      → old ≡ token.Mark mark.OpenBracket ∷ token.Mark mark.CloseBracket ∷ next → TypeTokens e next rest
      → TypeTokens (slice e) old rest
  of_interface : {old rest : List Token}
      → old ≡ token.Mark mark.Interface ∷ token.Mark mark.OpenBrace ∷ token.Mark mark.CloseBrace ∷ rest
      → TypeTokens interface old rest
  of_array : {n m : ℕ} {e : Written} {old next rest : List Token} → decimal m ≡ decimal n
      → old ≡ token.Mark mark.OpenBracket ∷ token.Number m ∷ token.Mark mark.CloseBracket ∷ next
      → TypeTokens e next rest → TypeTokens (array_of n e) old rest
  of_map : {k e : Written} {old first mid next rest : List Token}
      → old ≡ token.Mark mark.Map ∷ token.Mark mark.OpenBracket ∷ first → TypeTokens k first mid
      → mid ≡ token.Mark mark.CloseBracket ∷ next → TypeTokens e next rest → TypeTokens (map_of k e) old rest
  of_qualified : {p w : List ℕ} {a b : Bor (List ℕ)} {old rest : List Token} → a.now ≡ p → b.now ≡ w
      → old ≡ token.Name a ∷ token.Mark mark.Dot ∷ token.Name b ∷ rest → TypeTokens (qualified p w) old rest

-- those of a line
pub record LineTokens (l : Line) (old rest : List Token) : Type 0 where
  pub name : Bor (List ℕ)
  pub named : name.now ≡ l.name
  pub next : List Token
  pub is : old ≡ token.Name name ∷ next
  pub typed : TypeTokens l.type next (token.Mark mark.Stop ∷ rest)

-- of lines
pub data LinesTokens : List Line → (old rest : List Token) → Type 0 where
  no_tokens : {old : List Token} → LinesTokens [] old old
  more_tokens : {l : Line} {ls : List Line} {old next rest : List Token} → LineTokens l old next
      → LinesTokens ls next rest → LinesTokens (l ∷ ls) old rest

-- of what a declared type is
pub data BodyTokens : Body → (old rest : List Token) → Type 0 where
  fields_tokens : {ls : List Line} {old next rest : List Token}
      → old ≡ token.Mark mark.Struct ∷ token.Mark mark.OpenBrace ∷ next
      → LinesTokens ls next (token.Mark mark.CloseBrace ∷ token.Mark mark.Stop ∷ rest)
      → BodyTokens (fields ls) old rest
  parts_tokens : {e : Written} {old rest : List Token} → TypeTokens e old (token.Mark mark.Stop ∷ rest)
      → BodyTokens (parts e) old rest
  another_tokens : {e : Written} {old next rest : List Token} → old ≡ token.Mark mark.Equals ∷ next
      → TypeTokens e next (token.Mark mark.Stop ∷ rest) → BodyTokens (another e) old rest

-- of a declaration
pub record StructTokens (d : Struct) (old rest : List Token) : Type 0 where
  pub note : Note
  pub noted : note.marshal ≡ d.marshal
  pub name : Bor (List ℕ)
  pub named : name.now ≡ d.name
  pub next : List Token
  pub is : old ≡ token.Type note ∷ token.Name name ∷ next
  pub body : BodyTokens d.body next rest

-- of declarations, among others that are passed over, and nothing behind them
pub data StructsTokens : List Struct → List Token → Type 0 where
  no_structs : StructsTokens [] []
  more_structs : {d : Struct} {ds : List Struct} {old rest : List Token} → StructTokens d old rest
      → StructsTokens ds rest → StructsTokens (d ∷ ds) old
  passed_tokens : {ds : List Struct} {m : Mark} {old next rest : List Token} → old ≡ token.Mark m ∷ next
      → IsTrue (is_passed m) → behind_stop 0 next ≡ Some rest → StructsTokens ds rest → StructsTokens ds old

-- ---- types among others

-- the type at a place is written so
pub data StandsAt (types : List GoType) : ℕ → Written → Type 0 where
  at_word : {n : ℕ} {w : List ℕ} {b : Bor (List ℕ)} → slice_get types n ≡ Some (go.Name b) → b.now ≡ w
      → StandsAt types n (word w)
  at_pointer : {n m : ℕ} {e : Written} → slice_get types n ≡ Some (go.Pointer m) → StandsAt types m e
      → StandsAt types n (pointer e)
  at_slice : {n m : ℕ} {e : Written} → slice_get types n ≡ Some (go.Slice m) → StandsAt types m e
      → StandsAt types n (slice e)
  at_interface : {n : ℕ} → slice_get types n ≡ Some go.Interface → StandsAt types n interface
  at_array : {n m length len : ℕ} {e : Written} → slice_get types n ≡ Some (go.Array length m)
      → decimal length ≡ decimal len → StandsAt types m e → StandsAt types n (array_of len e)
  at_map : {n k m : ℕ} {a e : Written} → slice_get types n ≡ Some (go.Map k m) → StandsAt types k a
      → StandsAt types m e → StandsAt types n (map_of a e)
  at_qualified : {n : ℕ} {p w : List ℕ} {a b : Bor (List ℕ)} → slice_get types n ≡ Some (go.Qualified a b) → a.now ≡ p
      → b.now ≡ w → StandsAt types n (qualified p w)

-- the lines of a struct are these
pub data LinesStand (types : List GoType) : List GoField → List Line → Type 0 where
  no_line : LinesStand types [] []
  one_line : {f : GoField} {fs : List GoField} {l : Line} {ls : List Line} {b : Bor (List ℕ)}
      → f.names.items ≡ b ∷ [] → b.now ≡ l.name → StandsAt types f.of l.type → LinesStand types fs ls
      → LinesStand types (f ∷ fs) (l ∷ ls)

-- what the declared type is stands at a place
pub data BodyStands (types : List GoType) (n : ℕ) : Body → Type 0 where
  fields_stand : {found : _} {ls : List Line} → slice_get types n ≡ Some (go.Struct found)
      → LinesStand types found.items ls → BodyStands types n (fields ls)
  parts_stand : {e : Written} → StandsAt types n e → BodyStands types n (parts e)
  another_stands : {e : Written} → StandsAt types n e → BodyStands types n (another e)

-- the declaration is this one
pub record IsDeclared (types : List GoType) (d : Declaration) (x : Struct) : Type 0 where
  pub named : d.name.now ≡ x.name
  pub noted : d.note.marshal ≡ x.marshal
  pub is_alias : d.is_alias ≡ is_another x.body
  pub body : BodyStands types d.of x.body

pub data AreDeclared (types : List GoType) : List Declaration → List Struct → Type 0 where
  none_declared : AreDeclared types [] []
  more_declared : {d : Declaration} {ds : List Declaration} {x : Struct} {xs : List Struct} → IsDeclared types d x
      → AreDeclared types ds xs → AreDeclared types (d ∷ ds) (x ∷ xs)
