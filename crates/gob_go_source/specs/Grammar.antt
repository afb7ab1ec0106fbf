-- Types of Go as tokens. (The Go Programming Language Specification, Types, Struct types, Function types, Interface
-- types, Channel types and Semicolons.)
use Rattle.std.specs.Prelude.{◌≡◌, ℕ, List, [], ◌∷◌, ◌++◌, Bool, true, false, IsTrue, Some, slice_get}
use Rattle.std.specs.Borrow.{Bor}
use Rattle.gob_go_source.specs.declared.token.Token.{Token}
use Rattle.gob_go_source.specs.declared.token.Token.TheVariants as token
use Rattle.gob_go_source.specs.declared.token.Mark.TheVariants as mark
use Rattle.gob_go_source.specs.declared.go_type.GoField.{GoField}
use Rattle.gob_go_source.specs.declared.go_type.GoType.{GoType}
use Rattle.gob_go_source.specs.declared.go_type.GoType.TheVariants as go
use Rattle.gob_go_source.specs.Brackets.{behind_close}

-- ---- single tokens

abbrev pub is_text : Token → Bool
is_text token.Text = true
is_text _ = false

abbrev pub is_name : Token → Bool
is_name (token.Name w) = true
is_name _ = false

-- what closes a struct or a group, or the end
abbrev pub closes : List Token → Bool
closes [] = true
closes (token.Mark mark.CloseBrace ∷ ts) = true
closes (token.Mark mark.Close ∷ ts) = true
closes _ = false

-- no type begins with the token
abbrev pub ends_name : Token → Bool
ends_name token.Text = true
ends_name (token.Mark mark.Dot) = true
ends_name (token.Mark mark.Stop) = true
ends_name (token.Mark mark.CloseBrace) = true
ends_name _ = false

abbrev pub embeds_by : Token → Token → Bool
embeds_by (token.Name w) t = ends_name t
embeds_by (token.Mark mark.Star) t = is_name t
embeds_by _ t = false

-- a field that begins so is embedded: a name stands there, or a pointer to one, and no type behind it
abbrev pub embeds : List Token → Bool
embeds (t ∷ (u ∷ ts)) = embeds_by t u
embeds _ = false

-- ---- ends

-- the tag of a field may stand there
pub data Tagged (old : List Token) : List Token → Type 0 where
  untagged : Tagged old old
  tagged : {rest : List Token} → old ≡ token.Text ∷ rest → Tagged old rest

-- a semicolon does, or what closes the fields or the declarations
pub data Stops (old : List Token) : List Token → Type 0 where
  stopped : {rest : List Token} → old ≡ token.Mark mark.Stop ∷ rest → Stops old rest
  closed : IsTrue (closes old) → Stops old old

-- ---- types

-- names with commas between them
pub data SaysNames : List (Bor (List ℕ)) → (old rest : List Token) → Type 0 where
  one_name : {w : Bor (List ℕ)} {old rest : List Token} → old ≡ token.Name w ∷ rest → SaysNames (w ∷ []) old rest
  more_names : {ws : List (Bor (List ℕ))} {w : Bor (List ℕ)} {old mid next rest : List Token} → SaysNames ws old mid
      → mid ≡ token.Mark mark.Comma ∷ next → next ≡ token.Name w ∷ rest → SaysNames (ws ++ w ∷ []) old rest

-- those of the fields of a line, where it doesn't embed one
pub data FieldNames : List (Bor (List ℕ)) → (old rest : List Token) → Type 0 where
  names_stand : {ws : List (Bor (List ℕ))} {old rest : List Token} → SaysNames ws old rest → FieldNames ws old rest
  none_stands : {old : List Token} → IsTrue (embeds old) → FieldNames [] old old

-- a channel begins so, in front of the type of what it passes on: one for both ways, or for one of them
pub data BeginsChannel (old : List Token) : List Token → Type 0 where
  both_ways : {rest : List Token} → old ≡ token.Mark mark.Chan ∷ rest → BeginsChannel old rest
  only_sends : {next rest : List Token} → old ≡ token.Mark mark.Chan ∷ next → next ≡ token.Mark mark.Arrow ∷ rest
      → BeginsChannel old rest
  only_receives : {next rest : List Token} → old ≡ token.Mark mark.Arrow ∷ next → next ≡ token.Mark mark.Chan ∷ rest
      → BeginsChannel old rest

mutual
  -- the first of the old tokens say the type at this place among these types, and the rest stand behind them
  pub data Says (types : List GoType) : ℕ → (old rest : List Token) → Type 0 where
    says_name : {n : ℕ} {w : Bor (List ℕ)} {old rest : List Token} → slice_get types n ≡ Some (go.Name w)
        → old ≡ token.Name w ∷ rest → Says types n old rest
    says_qualified : {n : ℕ} {p w : Bor (List ℕ)} {old dot next rest : List Token}
        → slice_get types n ≡ Some (go.Qualified p w)
        → old ≡ token.Name p ∷ dot → dot ≡ token.Mark mark.Dot ∷ next → next ≡ token.Name w ∷ rest
        → Says types n old rest
    says_pointer : {n e : ℕ} {old next rest : List Token} → slice_get types n ≡ Some (go.Pointer e)
        → old ≡ token.Mark mark.Star ∷ next → Says types e next rest → Says types n old rest
    in_parentheses : {n : ℕ} {old next last rest : List Token} → old ≡ token.Mark mark.Open ∷ next
        → Says types n next last → last ≡ token.Mark mark.Close ∷ rest → Says types n old rest
    says_slice : {n e : ℕ} {old next elem rest : List Token} → slice_get types n ≡ Some (go.Slice e)
        → old ≡ token.Mark mark.OpenBracket ∷ next → next ≡ token.Mark mark.CloseBracket ∷ elem
        → Says types e elem rest → Says types n old rest
    says_array : {n e length : ℕ} {old next last elem rest : List Token} → slice_get types n ≡ Some (go.Array length e)
        → old ≡ token.Mark mark.OpenBracket ∷ next → next ≡ token.Number length ∷ last
        → last ≡ token.Mark mark.CloseBracket ∷ elem → Says types e elem rest → Says types n old rest
    says_map : {n k e : ℕ} {old next key last elem rest : List Token} → slice_get types n ≡ Some (go.Map k e)
        → old ≡ token.Mark mark.Map ∷ next → next ≡ token.Mark mark.OpenBracket ∷ key → Says types k key last
        → last ≡ token.Mark mark.CloseBracket ∷ elem → Says types e elem rest → Says types n old rest
    says_struct : {n : ℕ} {fields : _} {old next first last rest : List Token}
        → slice_get types n ≡ Some (go.Struct fields)
        → old ≡ token.Mark mark.Struct ∷ next → next ≡ token.Mark mark.OpenBrace ∷ first
        → SaysFields types fields.items first last → last ≡ token.Mark mark.CloseBrace ∷ rest → Says types n old rest
    says_interface : {n : ℕ} {old next last rest : List Token} → slice_get types n ≡ Some go.Interface
        → old ≡ token.Mark mark.Interface ∷ next → next ≡ token.Mark mark.OpenBrace ∷ last
        → behind_close 0 last ≡ Some rest → Says types n old rest
    says_channel : {n e : ℕ} {old elem rest : List Token} → slice_get types n ≡ Some go.Unsent
        → BeginsChannel old elem → Says types e elem rest → Says types n old rest
    says_function : {n : ℕ} {old next parameters results rest : List Token} → slice_get types n ≡ Some go.Unsent
        → old ≡ token.Mark mark.Func ∷ next → next ≡ token.Mark mark.Open ∷ parameters
        → behind_close 0 parameters ≡ Some results → SaysResults types results rest → Says types n old rest

  -- the results of a function: none, some in parentheses, or one type
  pub data SaysResults (types : List GoType) : (old rest : List Token) → Type 0 where
    no_result : {old : List Token} → SaysResults types old old
    in_brackets : {old next rest : List Token} → old ≡ token.Mark mark.Open ∷ next → behind_close 0 next ≡ Some rest
        → SaysResults types old rest
    one_result : {n : ℕ} {old rest : List Token} → Says types n old rest → SaysResults types old rest

  -- the lines of a struct
  pub data SaysFields (types : List GoType) : List GoField → (old rest : List Token) → Type 0 where
    no_fields : {old : List Token} → SaysFields types [] old old
    more_fields : {fs : List GoField} {f : GoField} {old next rest : List Token} → SaysFields types fs old next
        → SaysField types f next rest → SaysFields types (fs ++ f ∷ []) old rest

  -- one of them
  pub data SaysField (types : List GoType) : GoField → (old rest : List Token) → Type 0 where
    says_field : {f : GoField} {old next typed tagged rest : List Token} → FieldNames f.names.items old next
        → Says types f.of next typed → Tagged typed tagged → Stops tagged rest → SaysField types f old rest
