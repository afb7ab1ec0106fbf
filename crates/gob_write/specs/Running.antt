-- How the run ends that writes the stream of what texts say, and of runs over lines what is left.
-- (docs/FORMAT.md, Plain JSON as input.)
use Rattle.std.specs.Prelude.{◌≡◌, ◌⊎◌, ◌≢◌, ◌+◌, ◌<◌, ℕ, List, [], ◌∷◌, ◌++◌, length, Option, Result, Ok, Err}
use Rattle.std.specs.Io.KnownBytes.{Appends, Keeps}
use Rattle.json.specs.Lex.{tokens}
use Rattle.gob_types.specs.Base.{base_table}
use Rattle.gob_types.specs.declared.reason.Reason.{Reason}
use Rattle.gob_types.specs.Table.{Table}
use Rattle.gob_stream.specs.Item.{StreamItem}
use Rattle.gob_stream.specs.Stream.{IsItem, Stream}
use Rattle.gob_write.specs.Lines.{first_line}
use Rattle.gob_write.specs.Place.{IsLineIn, IsPlaceIn, place_behind}
use Rattle.gob_write.specs.Says.{Saying, SaysItem, RefusesText, WroteSome}
use Rattle.gob_write.specs.Texts.{AreTexts, first_text}
use Rattle.gob_write.specs.declared.fault.LinesFault.{LinesFault}
use Rattle.gob_write.specs.declared.fault.LinesFault.TheVariants as fault

-- behind the stream in front the texts say these values one by one, and the bytes are the stream of the items; a text
-- without tokens says none
pub data SayStream (S : Saying) : List (List ℕ) → List StreamItem → List ℕ → Table → Type 0 where
  say_nothing : SayStream S [] S.items S.bytes S.table
  say_no_more : {texts : List (List ℕ)} (text : List ℕ) {items : List StreamItem} {b : List ℕ} {T : Table}
      → SayStream S texts items b T → tokens text ≡ [] → SayStream S (texts ++ text ∷ []) items b T
  say_one_more : {texts : List (List ℕ)} (text : List ℕ) {items : List StreamItem} {i : StreamItem} {b c : List ℕ}
      {T U : Table} → SayStream S texts items b T → SaysItem S.making T text i
      → IsItem base_table S.bounds T (length b) i c U → SayStream S (texts ++ text ∷ []) (items ++ i ∷ []) (b ++ c) U

-- these texts stand in front of the rest, what they say went out as one stream, and this holds of their bytes, the
-- types and the bytes of the stream behind them, and the rest
pub record WroteTexts (S : Saying) (most : ℕ) (bytes : List ℕ) (old mid : Option (List ℕ))
    (P : List ℕ → Table → List ℕ → List ℕ → Type 0) : Type 0 where
  pub texts : List (List ℕ)
  pub front : List ℕ
  pub rest : List ℕ
  pub items : List StreamItem
  pub out : List ℕ
  pub table : Table
  pub whole : bytes ≡ front ++ rest
  pub cut : AreTexts most bytes texts rest
  pub say : SayStream S texts items out table
  pub stream : Stream base_table S.bounds items out table
  pub sent : Appends old mid out
  pub holds : P front table out rest

-- something is wrong in the next text, at this line and column of the whole input
abbrev pub IsWrongNext : ℕ → ℕ → List ℕ → Table → List ℕ → List ℕ → Type 0
IsWrongNext n column front T out rest = (rest ≢ []) × IsPlaceIn (place_behind front) (first_text rest) n column

-- or no stream goes on with it for this reason
abbrev pub RefusesNext : Saying → ℕ → Reason → List ℕ → Table → List ℕ → List ℕ → Type 0
RefusesNext S n r front T out rest = (rest ≢ []) × IsLineIn (place_behind front) (first_text rest) n
    × RefusesText S T (length out) (first_text rest) r

-- or it begins at this line, and is longer than a text may be
abbrev pub IsLongText : (most : ℕ) → ℕ → List ℕ → Table → List ℕ → List ℕ → Type 0
IsLongText most n front T out rest = (n ≡ (place_behind front).line) × (most < length (first_text rest))

-- a write or a flush failed: of the next text's item a prefix is out, or nothing more
abbrev pub CutsNext : Saying → (mid new : Option (List ℕ)) → List ℕ → Table → List ℕ → List ℕ → Type 0
CutsNext S mid new front T out rest = Keeps mid new ⊎ WroteSome S T (length out) (first_text rest) mid new

abbrev pub IsWhole : List ℕ → Table → List ℕ → List ℕ → Type 0
IsWhole front T out rest = rest ≡ []

abbrev pub IsPart : List ℕ → Table → List ℕ → List ℕ → Type 0
IsPart front T out rest = Unit {0}

-- how the run ends, over an input with these bytes left and an output with the old bytes: what was written is the one
-- stream of what the texts before the fault say, or of all
abbrev pub WriteTextsAnswers : Saying → (most : ℕ) → (bytes : List ℕ) → (old new : Option (List ℕ))
    → Result (Unit {0}) LinesFault → Type 0
WriteTextsAnswers S most bytes old new (Ok _) = WroteTexts S most bytes old new IsWhole
WriteTextsAnswers S most bytes old new (Err (fault.Wrong n column path due)) =
    WroteTexts S most bytes old new (IsWrongNext n column)
WriteTextsAnswers S most bytes old new (Err (fault.Refused n r)) =
    WroteTexts S most bytes old new (RefusesNext S n r)
WriteTextsAnswers S most bytes old new (Err (fault.TooLong n m)) =
    (m ≡ most) × WroteTexts S most bytes old new (IsLongText most n)
WriteTextsAnswers S most bytes old new (Err fault.Read) = WroteTexts S most bytes old new IsPart
WriteTextsAnswers S most bytes old new (Err fault.Memory) = WroteTexts S most bytes old new IsPart
WriteTextsAnswers S most bytes old new (Err fault.Write) =
    (mid : Option (List ℕ)) × WroteTexts S most bytes old mid (CutsNext S mid new)

-- ---- of runs over lines

-- the next line is longer than a line may be
abbrev pub IsLongNext : (most : ℕ) → ℕ → ℕ → Table → List ℕ → List ℕ → Type 0
IsLongNext most n count T out rest = (n ≡ count + 1) × (most < length (first_line rest))

abbrev pub IsAll : ℕ → Table → List ℕ → List ℕ → Type 0
IsAll count T out rest = rest ≡ []

abbrev pub IsSome : ℕ → Table → List ℕ → List ℕ → Type 0
IsSome count T out rest = Unit {0}
