-- What has been put into parts, and what putting a text answers. For private clauses.
use Rattle.std.specs.Prelude.{◌≡◌, ℕ, ◌-◌, ◌^◌, ◌<◌, List, [], ◌∷◌, ◌++◌, length, min, Option, Some, None}
use Rattle.std.specs.Prelude.{Result, Ok, Err, true, false}
use Rattle.gob_tool.specs.declared.fault.ToolFault.{ToolFault}
use Rattle.gob_tool.specs.declared.fault.ToolFault.TheVariants as fault
use Rattle.gob_split.specs.Split.{StreamPart, all_parts, definitions_of, IsCut, IsSplit, Turns}
use Rattle.gob_split.specs.Text.{Text}
use Rattle.gob_split.specs.declared.cutter.Cutter.{Cutter}
use Rattle.gob_split.specs.declared.cutter.Filling.{Filling}
use Rattle.gob_split.specs.declared.part_size.PartSize.{PartSize}
use Rattle.gob_split.specs.declared.parts.NotWritten.{NotWritten}

-- so much is in the part, as far as a number of 64 bits says it
pub record CountsPart (f : Filling) (p : StreamPart) : Type 0 where
  pub bytes : f.bytes ≡ min (length p.bytes) (2 ^ 64 - 1)
  pub values : f.values ≡ min p.values (2 ^ 64 - 1)
  pub done : f.ends_with_value ≡ true → 0 < p.ends
  pub not_done : f.ends_with_value ≡ false → p.ends ≡ 0

abbrev pub CountsLast : Option Filling → Option StreamPart → Type 0
CountsLast None None = Unit {0}
CountsLast (Some f) (Some p) = CountsPart f p
CountsLast None (Some p) = ⊥
CountsLast (Some f) None = ⊥

-- the texts were put, and the parts are these
pub record IsCutting (how : PartSize) (c : Cutter) (texts : List Text) (full : List (List ℕ))
    (last : Option StreamPart) :
    Type 0 where
  pub size : c.size ≡ how
  pub split : IsSplit how texts full last
  pub defining : c.defining.items ≡ definitions_of texts
  pub counts : CountsLast c.last last

-- ---- a part was begun behind others
pub record HasBegun (bytes : List ℕ) (all : List (List ℕ)) (Are : List (List ℕ) → Type 0) (f : Filling) : Type 0 where
  pub counts : CountsPart f (record { bytes = bytes; values = 0; ends = 0 })
  pub out : Are (all ++ bytes ∷ [])

-- or it wasn't, or not all of the bytes went out
pub data HasNotBegun (bytes : List ℕ) (all : List (List ℕ)) (Are : List (List ℕ) → Type 0) : Type 0 where
  not_begun : Are all → HasNotBegun bytes all Are
  begun_some : (prefix rest : List ℕ) → bytes ≡ prefix ++ rest → Are (all ++ prefix ∷ []) → HasNotBegun bytes all Are

abbrev pub BeginsPart : (bytes : List ℕ) → (all : List (List ℕ)) → (Are : List (List ℕ) → Type 0)
    → Result Filling NotWritten → Type 0
BeginsPart bytes all Are (Ok f) = HasBegun bytes all Are f
BeginsPart bytes all Are (Err _) = HasNotBegun bytes all Are

-- ---- a part is there for the next item
pub record HasTurned (how : PartSize) (defining : List ℕ) (full : List (List ℕ)) (last : Option StreamPart)
    (Are : List (List ℕ) → Type 0) (f : Filling) : Type 0 where
  pub full' : List (List ℕ)
  pub part : StreamPart
  pub turns : Turns how defining full last full' part
  pub counts : CountsPart f part
  pub out : Are (full' ++ part.bytes ∷ [])

-- or it couldn't be begun: of whatever was to go into it only this went out
pub record HasNotTurned (how : PartSize) (defining : List ℕ) (full : List (List ℕ)) (last : Option StreamPart)
    (Are : List (List ℕ) → Type 0) : Type 0 where
  pub full' : List (List ℕ)
  pub part : StreamPart
  pub turns : Turns how defining full last full' part
  pub written : List (List ℕ)
  pub cut : (more : List ℕ) → IsCut (full' ++ (part.bytes ++ more) ∷ []) written
  pub out : Are written

abbrev pub TurnAnswers : PartSize → (defining : List ℕ) → List (List ℕ) → Option StreamPart
    → (Are : List (List ℕ) → Type 0) → Result Filling NotWritten → Type 0
TurnAnswers how defining full last Are (Ok f) = HasTurned how defining full last Are f
TurnAnswers how defining full last Are (Err _) = HasNotTurned how defining full last Are

-- ---- a text was put
pub record HasPut (how : PartSize) (c : Cutter) (texts : List Text) (Are : List (List ℕ) → Type 0) : Type 0 where
  pub full : List (List ℕ)
  pub part : StreamPart
  pub cutting : IsCutting how c texts full (Some part)
  pub out : Are (full ++ part.bytes ∷ [])

-- or only some of it
pub record HasPutSome (how : PartSize) (texts : List Text) (Are : List (List ℕ) → Type 0) : Type 0 where
  pub full : List (List ℕ)
  pub part : StreamPart
  pub split : IsSplit how texts full (Some part)
  pub written : List (List ℕ)
  pub cut : IsCut (full ++ part.bytes ∷ []) written
  pub out : Are written

-- where memory is wanting nothing was sent
abbrev pub PutsText : PartSize → Cutter → List Text → List (List ℕ) → Option StreamPart → Text
    → (Are : List (List ℕ) → Type 0) → Result (Unit {0}) ToolFault → Type 0
PutsText how c texts full last t Are (Ok _) = HasPut how c (texts ++ t ∷ []) Are
PutsText how c texts full last t Are (Err fault.Memory) = Are (all_parts full last)
PutsText how c texts full last t Are (Err fault.Write) = HasPutSome how (texts ++ t ∷ []) Are
PutsText how c texts full last t Are (Err f) = ⊥
