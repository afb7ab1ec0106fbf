-- How the run ends that writes the stream of lines, in any grammar of what lines say and of how items are spelled.
-- (docs/FORMAT.md, The JSON lines.)
use Rattle.std.specs.Prelude.{◌≡◌, ◌⊎◌, ◌≢◌, ◌+◌, ◌<◌, ℕ, List, [], ◌∷◌, ◌++◌, length, Option, Result, Ok, Err}
use Rattle.std.specs.Io.KnownBytes.{Appends, Keeps}
use Rattle.std.specs.Str.{IsUtf8}
use Rattle.json.specs.Lex.{tokens}
use Rattle.gob_types.specs.Base.{base_table}
use Rattle.gob_types.specs.Table.{Table}
use Rattle.gob_types.specs.declared.reason.Reason.{Reason}
use Rattle.gob_stream.specs.Items.{AreItemsOf}
use Rattle.gob_write.specs.Lines.{AreLines, first_line}
use Rattle.gob_write.specs.declared.fault.LinesFault.{LinesFault}
use Rattle.gob_write.specs.declared.fault.LinesFault.TheVariants as fault

-- what lines say, and how a stream goes on with it, by the types before it and where it has so many bytes
pub record Grammar (Item : Type 0) : Type 1 where
  -- the line says the item
  pub says : Table → List ℕ → Item → Type 0
  -- the bytes are the item there, and the second table is the one behind it
  pub is : Table → ℕ → Item → List ℕ → Table → Type 0
  -- the line says no item
  pub says_none : Table → ℕ → List ℕ → Type 0
  -- no stream goes on with what the line says, for this reason
  pub refuses : Table → ℕ → List ℕ → Reason → Type 0

-- the lines say these items one by one, each by the types of those before, and the bytes are the stream of the items; a
-- line without tokens says none
pub data SayItems {Item : Type 0} (G : Grammar Item) : List (List ℕ) → List Item → List ℕ → Table → Type 0 where
  say_none : SayItems G [] [] [] base_table
  say_nothing_more : {lines : List (List ℕ)} (line : List ℕ) {items : List Item} {b : List ℕ} {T : Table}
      → SayItems G lines items b T → tokens line ≡ [] → SayItems G (lines ++ line ∷ []) items b T
  say_item_more : {lines : List (List ℕ)} (line : List ℕ) {items : List Item} {i : Item} {b c : List ℕ} {T U : Table}
      → SayItems G lines items b T → G.says T line i → G.is T (length b) i c U
      → SayItems G (lines ++ line ∷ []) (items ++ i ∷ []) (b ++ c) U

-- these lines stand in front of the rest, what they say went out as one stream, and this holds of how many they are,
-- the types and the bytes behind them, and the rest
pub record WroteItems {Item : Type 0} (G : Grammar Item) (most : ℕ) (bytes : List ℕ) (old mid : Option (List ℕ))
    (P : ℕ → Table → List ℕ → List ℕ → Type 0) : Type 0 where
  pub lines : List (List ℕ)
  pub rest : List ℕ
  pub items : List Item
  pub out : List ℕ
  pub table : Table
  pub cut : AreLines most bytes lines rest
  pub say : SayItems G lines items out table
  pub stream : AreItemsOf G.is base_table 0 items out table
  pub sent : Appends old mid out
  pub holds : P (length lines) table out rest

-- they are all lines
abbrev pub IsEnd : ℕ → Table → List ℕ → List ℕ → Type 0
IsEnd count T out rest = rest ≡ []

abbrev pub IsAnywhere : ℕ → Table → List ℕ → List ℕ → Type 0
IsAnywhere count T out rest = Unit {0}

-- the next line is the one of this number, and it is no text, or says no item
abbrev pub SaysNoneNext : {Item : Type 0} → Grammar Item → ℕ → ℕ → Table → List ℕ → List ℕ → Type 0
SaysNoneNext G n count T out rest = (rest ≢ []) × (n ≡ count + 1)
    × (IsUtf8 (first_line rest) → G.says_none T (length out) (first_line rest))

-- or no stream goes on with it for this reason
abbrev pub RefusesNext : {Item : Type 0} → Grammar Item → ℕ → Reason → ℕ → Table → List ℕ → List ℕ → Type 0
RefusesNext G n r count T out rest = (rest ≢ []) × (n ≡ count + 1) × G.refuses T (length out) (first_line rest) r

-- or it is longer than a line may be
abbrev pub IsLongNext : (most : ℕ) → ℕ → ℕ → Table → List ℕ → List ℕ → Type 0
IsLongNext most n count T out rest = (n ≡ count + 1) × (most < length (first_line rest))

-- a prefix of the item that the line says went out
pub record WrotePrefixOf {Item : Type 0} (G : Grammar Item) (T : Table) (offset : ℕ) (line : List ℕ)
    (old new : Option (List ℕ)) : Type 0 where
  pub item : Item
  pub says : G.says T line item
  pub prefix : List ℕ
  pub rest : List ℕ
  pub table : Table
  pub is : G.is T offset item (prefix ++ rest) table
  pub out : Appends old new prefix

-- a write or a flush failed: of the next line's item a prefix is out, or nothing more
abbrev pub CutsNext : {Item : Type 0} → Grammar Item → (mid new : Option (List ℕ)) → ℕ → Table → List ℕ → List ℕ
    → Type 0
CutsNext G mid new count T out rest = Keeps mid new ⊎ WrotePrefixOf G T (length out) (first_line rest) mid new

-- how the run ends, over an input with these bytes left and an output with the old bytes: what was written is the one
-- stream of what the lines before the fault say, or of all
abbrev pub RunAnswers : {Item : Type 0} → Grammar Item → (most : ℕ) → (bytes : List ℕ) → (old new : Option (List ℕ))
    → Result (Unit {0}) LinesFault → Type 0
RunAnswers G most bytes old new (Ok _) = WroteItems G most bytes old new IsEnd
RunAnswers G most bytes old new (Err (fault.Wrong n column path due)) =
    WroteItems G most bytes old new (SaysNoneNext G n)
RunAnswers G most bytes old new (Err (fault.Refused n r)) = WroteItems G most bytes old new (RefusesNext G n r)
RunAnswers G most bytes old new (Err (fault.TooLong n m)) =
    (m ≡ most) × WroteItems G most bytes old new (IsLongNext most n)
RunAnswers G most bytes old new (Err fault.Read) = WroteItems G most bytes old new IsAnywhere
RunAnswers G most bytes old new (Err fault.Memory) = WroteItems G most bytes old new IsAnywhere
RunAnswers G most bytes old new (Err fault.Write) =
    (mid : Option (List ℕ)) × WroteItems G most bytes old mid (CutsNext G mid new)
