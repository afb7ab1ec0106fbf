-- Declarations of Go's types as tokens. (The Go Programming Language Specification, Packages, Import declarations, Type
-- declarations, Function declarations.)
use Rattle.std.specs.Prelude.{◌≡◌, ℕ, List, [], ◌∷◌, ◌++◌, Bool, true, false, IsTrue, ◌==◌, Option, Some, None}
use Rattle.std.specs.Prelude.{if◌then◌else◌}
use Rattle.std.specs.Borrow.{Bor}
use Rattle.gob_go_source.specs.declared.token.Note.{Note}
use Rattle.gob_go_source.specs.declared.token.Token.{Token}
use Rattle.gob_go_source.specs.declared.token.Token.TheVariants as token
use Rattle.gob_go_source.specs.declared.token.Mark.{Mark}
use Rattle.gob_go_source.specs.declared.token.Mark.TheVariants as mark
use Rattle.gob_go_source.specs.declared.go_type.Declaration.{Declaration}
use Rattle.gob_go_source.specs.declared.go_type.GoType.{GoType}
use Rattle.gob_go_source.specs.Brackets.{depth_after}
use Rattle.gob_go_source.specs.Grammar.{Says, Stops}
use Rattle.gob_go_source.specs.Notes.{no_note}

-- ---- what is passed over

-- where so many brackets are open, the token ends a declaration
abbrev pub ends_at : ℕ → Token → Bool
ends_at d (token.Mark mark.Stop) = d == 0
ends_at d _ = false

-- what stands behind the first end of a line or semicolon outside of brackets, of which so many are open; the end of
-- the tokens is one too
abbrev pub behind_stop : ℕ → List Token → Option (List Token)
behind_stop d [] = if d == 0 then Some [] else None
behind_stop d (t ∷ ts) = if ends_at d t then Some ts else behind_stop (depth_after d t) ts

-- ---- types

-- the declaration of another name for a type has a sign of equality
abbrev pub Aliased : Bool → (old rest : List Token) → Type 0
Aliased true old rest = old ≡ token.Mark mark.Equals ∷ rest
Aliased false old rest = rest ≡ old

-- a declaration behind `type`, or in a group
pub data SaysDeclaration (types : List GoType) (note : Note) : Declaration → (old rest : List Token) → Type 0 where
  says_declaration : {d : Declaration} {old next begun typed rest : List Token} → d.note ≡ note
      → old ≡ token.Name d.name ∷ next → Aliased d.is_alias next begun → Says types d.of begun typed → Stops typed rest
      → SaysDeclaration types note d old rest

-- those of a group
pub data SaysGroup (types : List GoType) : List Declaration → (old rest : List Token) → Type 0 where
  no_declarations : {old : List Token} → SaysGroup types [] old old
  more_declarations : {ds : List Declaration} {d : Declaration} {old next rest : List Token}
      → SaysGroup types ds old next → SaysDeclaration types no_note d next rest
      → SaysGroup types (ds ++ d ∷ []) old rest

-- what stands behind `type`: a declaration, or a group of some in parentheses
pub data SaysTypes (types : List GoType) (note : Note) : List Declaration → (old rest : List Token) → Type 0 where
  one_type : {d : Declaration} {old rest : List Token} → SaysDeclaration types note d old rest
      → SaysTypes types note (d ∷ []) old rest
  some_types : {ds : List Declaration} {old first last end rest : List Token} → old ≡ token.Mark mark.Open ∷ first
      → SaysGroup types ds first last → last ≡ token.Mark mark.Close ∷ end → Stops end rest
      → SaysTypes types note ds old rest

-- ---- source

-- a declaration of imports or a function
abbrev pub is_passed : Mark → Bool
is_passed mark.Import = true
is_passed mark.Func = true
is_passed _ = false

-- a declaration of source, and the types that it declares: of packages, imports and functions none
pub data SaysTop (types : List GoType) : List Declaration → (old rest : List Token) → Type 0 where
  declares_types : {note : Note} {ds : List Declaration} {old next rest : List Token} → old ≡ token.Type note ∷ next
      → SaysTypes types note ds next rest → SaysTop types ds old rest
  names_package : {w : Bor (List ℕ)} {old next end rest : List Token} → old ≡ token.Mark mark.Package ∷ next
      → next ≡ token.Name w ∷ end → Stops end rest → SaysTop types [] old rest
  passed_over : {m : Mark} {old next rest : List Token} → old ≡ token.Mark m ∷ next → IsTrue (is_passed m)
      → behind_stop 0 next ≡ Some rest → SaysTop types [] old rest

-- the first of the old tokens are declarations, which declare these types in order, and the rest stand behind them
pub data SaysSource (types : List GoType) : List Declaration → (old rest : List Token) → Type 0 where
  nothing_said : {old : List Token} → SaysSource types [] old old
  more_said : {ds es : List Declaration} {old next rest : List Token} → SaysSource types ds old next
      → SaysTop types es next rest → SaysSource types (ds ++ es) old rest

-- the new declarations are the old ones, and those that are said behind them
pub record Declares (says : List Declaration → Type 0) (old new : List Declaration) : Type 0 where
  pub more : List Declaration
  pub is : new ≡ old ++ more
  pub said : says more
