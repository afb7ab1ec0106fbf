-- Where a run stands that writes texts of items. For private clauses.
use Rattle.std.specs.Prelude.{◌≡◌, ℕ, ◌<◌, ◌≤◌, Bool, true, false, List, [], ◌∷◌, ◌++◌, Option, Some, None}
use Rattle.std.specs.Prelude.{Result, Ok, Err}
use Rattle.std.specs.Io.KnownBytes.{Appends}
use Rattle.gob_types.specs.Defined.{types}
use Rattle.gob_types.specs.Table.{Table}
use Rattle.gob_stream.specs.Bounds.{Bounds}
use Rattle.gob_stream.specs.Calls.ReaderOf.{HasReadBy, StopsBy, session_of}
use Rattle.gob_stream.specs.Calls.Writing.{SentPrefix}
use Rattle.gob_stream.specs.Devices.{counts_up}
use Rattle.gob_stream.specs.Grammar.{Grammar}
use Rattle.gob_stream.specs.Stepping.{StandsBy, Stepping}
use Rattle.gob_stream.specs.declared.fault.Fault.{Fault}
use Rattle.gob_stream.specs.declared.fault.WriteFault.{WriteFault}
use Rattle.gob_stream.specs.declared.reader_of.ReaderOf.{ReaderOf}
use Rattle.gob_tool.specs.Fault.{reading_fault}
use Rattle.gob_tool.specs.Texts.{AnswersOrStops, HaveTexts, OfTexts}
use Rattle.gob_tool.specs.declared.fault.ToolFault.{ToolFault}

-- what its grammar keeps to of the limits
abbrev pub bounds_of : {X I Told : Type 0} → Stepping X I Told → ReaderOf X I → Bounds
bounds_of d r = d.within (d.limits (session_of r))

-- it has read some items of some input
pub record HasReadSome {X I Told : Type 0} (d : Stepping X I Told) (r : ReaderOf X I) : Type 0 where
  pub read : Option (List ℕ)
  pub now : Option (List ℕ)
  pub given : List Told
  pub has : HasReadBy d r read now given
  pub stands : StandsBy d (session_of r)

-- the texts of what was read went out
pub record WritesSo {X I Told : Type 0} (d : Stepping X I Told) (Is : Table → Told → List ℕ → Type 0)
    (r : ReaderOf X I) (read now old new : Option (List ℕ)) : Type 0 where
  pub given : List Told
  pub has : HasReadBy d r read now given
  pub stands : StandsBy d (session_of r)
  pub out : (bytes : List ℕ) → read ≡ Some bytes
      → OfTexts d.grammar Is (bounds_of d r) bytes (Appends old new) given

-- whatever texts the items before have, these stand behind them as those of the items that follow
abbrev pub AreNextTexts : {Told : Type 0} → Grammar Told → (Is : Table → Told → List ℕ → Type 0) → Bounds
    → (bytes : List ℕ) → (before more : List Told) → (made : List ℕ) → Type 0
AreNextTexts G Is L bytes before more made =
    (text : List ℕ) → HaveTexts G Is L bytes before text → HaveTexts G Is L bytes (before ++ more) (text ++ made)

-- the texts of the items that are whole with what was taken
pub record MakesTexts {X I Told : Type 0} (d : Stepping X I Told) (Is : Table → Told → List ℕ → Type 0)
    (r r' : ReaderOf X I) (read now : Option (List ℕ)) (given : List Told) (made : List ℕ) : Type 0 where
  pub more : List Told
  pub after : HasReadBy d r' read now (given ++ more)
  pub onward : d.taken (session_of r) ≤ d.taken (session_of r')
  pub limits : d.limits (session_of r') ≡ d.limits (session_of r)
  pub stands : StandsBy d (session_of r')
  pub made_of : (bytes : List ℕ) → read ≡ Some bytes
      → AreNextTexts d.grammar Is (bounds_of d r') bytes given more made

-- where a byte was taken at least
abbrev pub MakesOnward : {X I Told : Type 0} → Stepping X I Told → (Is : Table → Told → List ℕ → Type 0)
    → (r r' : ReaderOf X I) → (read now : Option (List ℕ)) → List Told → (made : List ℕ) → Type 0
MakesOnward d Is r r' read now given made = MakesTexts d Is r r' read now given made
    × (d.taken (session_of r) < d.taken (session_of r'))

-- they were appended
abbrev pub AppendsTexts : {X I Told : Type 0} → Stepping X I Told → (Is : Table → Told → List ℕ → Type 0)
    → (r r' : ReaderOf X I) → (read now : Option (List ℕ)) → List Told → (old new : List ℕ) → Type 0
AppendsTexts d Is r r' read now given old new =
    (made : List ℕ) × MakesTexts d Is r r' read now given made × (new ≡ old ++ made)

-- why it went no further: what the reader met, or a fault at the item behind those that were given
pub data StopsNext {X I Told : Type 0} (d : Stepping X I Told) (Stop : Table → Told → ToolFault → Type 0)
    (r r' : ReaderOf X I) (read now : Option (List ℕ)) (given : List Told) : ToolFault → Type 0 where
  stops_reading : (T : Table) (e : Fault) → StopsBy d (session_of r) T read now given e
      → StopsNext d Stop r r' read now given (reading_fault e)
  stops_item : {f : ToolFault} (i : Told) → HasReadBy d r' read now (given ++ i ∷ []) → StandsBy d (session_of r')
      → d.between (session_of r') → d.limits (session_of r') ≡ d.limits (session_of r)
      → Stop (types (d.table (session_of r'))) i f → StopsNext d Stop r r' read now given f

abbrev pub MakesNext : {X I Told : Type 0} → Stepping X I Told → (Is : Table → Told → List ℕ → Type 0)
    → (Stop : Table → Told → ToolFault → Type 0) → (r r' : ReaderOf X I) → (read now : Option (List ℕ)) → List Told
    → (made : List ℕ) → Result (Unit {0}) ToolFault → Type 0
MakesNext d Is Stop r r' read now given made (Ok _) = MakesOnward d Is r r' read now given made
MakesNext d Is Stop r r' read now given made (Err f) = StopsNext d Stop r r' read now given f

-- the text of what a step gave
abbrev pub TextGiven : {I : Type 0} → (of_item : Table → I → List ℕ → Type 0) → Table → Option I → (made : List ℕ)
    → Type 0
TextGiven of_item T None made = made ≡ []
TextGiven of_item T (Some given) made = of_item T given made

-- the texts went out, or a prefix of them
abbrev pub WritesNext : {X I Told : Type 0} → Stepping X I Told → (Is : Table → Told → List ℕ → Type 0)
    → (Stop : Table → Told → ToolFault → Type 0) → (r r' : ReaderOf X I) → (read now : Option (List ℕ)) → List Told
    → (old new : Option (List ℕ)) → Result (Unit {0}) ToolFault → Type 0
WritesNext d Is Stop r r' read now given old new (Ok _) = (made : List ℕ)
    × MakesOnward d Is r r' read now given made × Appends old new made
WritesNext d Is Stop r r' read now given old new (Err f) = (bytes : List ℕ) → read ≡ Some bytes
    → (start : Option (List ℕ)) → OfTexts d.grammar Is (bounds_of d r) bytes (Appends start old) given
    → AnswersOrStops d.grammar Is Stop (bounds_of d r) bytes now start new (Err f)

-- the text went out, or a prefix of it; or nothing has changed
abbrev pub SendsLarge : {X I Told : Type 0} → Stepping X I Told → (Is : Table → Told → List ℕ → Type 0)
    → (r r' : ReaderOf X I) → (read now : Option (List ℕ)) → List Told → (old new : Option (List ℕ))
    → Result Bool WriteFault → Type 0
SendsLarge d Is r r' read now given old new (Ok true) = (made : List ℕ) × MakesOnward d Is r r' read now given made
    × Appends old new made
SendsLarge d Is r r' read now given old new (Ok false) = Unit {0}
SendsLarge d Is r r' read now given old new (Err e) = (made : List ℕ) × MakesOnward d Is r r' read now given made
    × SentPrefix made old new

abbrev pub SendsNone : {X I : Type 0} → (r r' : ReaderOf X I) → (failures failures' : ℕ) → (old new : Option (List ℕ))
    → Result Bool WriteFault → Type 0
SendsNone r r' failures failures' old new (Ok false) = (r' ≡ r) × (failures' ≡ failures) × (new ≡ old)
SendsNone r r' failures failures' old new _ = Unit {0}

abbrev pub CountsFaults : (failures failures' : ℕ) → Result Bool WriteFault → Type 0
CountsFaults failures failures' (Ok done) = failures' ≡ failures
CountsFaults failures failures' (Err e) = failures' ≡ counts_up failures 1
