-- What is read where a line says something: that, and nothing else. (docs/FORMAT.md, The JSON lines.)
use Rattle.std.specs.Prelude.{◌≡◌, ⊤, ℕ, ◌<◌, ◌^◌, List, [], ◌∷◌, IfSome, Result, Ok, Err}
use Rattle.json.specs.Token.{Token}
use Rattle.gob_num.specs.Unsigned.{AreBytes}
use Rattle.gob_types.specs.declared.id.TypeId.{TypeId}
use Rattle.gob_types.specs.declared.kind.Field.{Field}
use Rattle.gob_types.specs.declared.kind.Kind.{Kind}
use Rattle.gob_types.specs.declared.kind.Kind.TheVariants as kind
use Rattle.gob_types.specs.declared.kind.Shape.{Shape}
use Rattle.gob_types.specs.Definable.{IsDefinable}
use Rattle.gob_lines.specs.Definition.{IsDefinitionJson, Part}
use Rattle.gob_lines.specs.Numbers.{ReadsSome}
use Rattle.gob_lines.specs.Reads.{IsWrong}
use Rattle.gob_lines.specs.declared.definition_parts.Parts.{Parts}
use Rattle.gob_lines.specs.declared.fault.LineFault.{LineFault}

-- what a call answers that reads where this stands in front of the rest: just this, and the rest is left, or there was
-- no memory
abbrev pub ReadsIt : {A B : Type 0} → (A → B) → Result A LineFault → (new : List Token) → B → (rest : List Token)
    → Type 0
ReadsIt f (Ok a) new b rest = (f a ≡ b) × (new ≡ rest)
ReadsIt f (Err e) new b rest = ¬ IsWrong e

-- the fields of a struct's definition: their names are of bytes, and the numbers have 64 bits
abbrev pub AreFieldTypesReadable : List Field → Type 0
AreFieldTypesReadable [] = ⊤
AreFieldTypesReadable (f ∷ fs) = AreBytes f.name × (f.id.0 < 2 ^ 64) × AreFieldTypesReadable fs

-- and a kind
abbrev pub IsKindReadable : Kind → Type 0
IsKindReadable (kind.Basic b) = ⊥
IsKindReadable (kind.Array e n) = (e.0 < 2 ^ 64) × (n < 2 ^ 64)
IsKindReadable (kind.Slice e) = e.0 < 2 ^ 64
IsKindReadable (kind.Struct fs) = AreFieldTypesReadable fs
IsKindReadable (kind.Map k e) = (k.0 < 2 ^ 64) × (e.0 < 2 ^ 64)
IsKindReadable (kind.Opaque m) = ⊤

-- and what one member of a definition says
abbrev pub IsPartReadable : Part → Type 0
IsPartReadable (Part.elem e) = e.0 < 2 ^ 64
IsPartReadable (Part.fields fs) = AreFieldTypesReadable fs
IsPartReadable (Part.key k) = k.0 < 2 ^ 64
IsPartReadable (Part.kind_name w) = ⊤
IsPartReadable (Part.len n) = n < 2 ^ 64
IsPartReadable (Part.name n) = AreBytes n

-- and what its members say together
pub record ArePartsReadable (p : Parts) : Type 0 where
  pub elem : IfSome p.elem (λ e. e.0 < 2 ^ 64)
  pub fields : IfSome p.fields AreFieldTypesReadable
  pub key : IfSome p.key (λ k. k.0 < 2 ^ 64)
  pub len : IfSome p.len (λ n. n < 2 ^ 64)
  pub name : IfSome p.name AreBytes

-- the tokens say this definition, of a shape that a description of bytes can give
pub record SaysDefinition (ts : List Token) (id : TypeId) (s : Shape) : Type 0 where
  pub definable : IsDefinable s
  pub readable : IsKindReadable s.kind
  pub name : AreBytes s.name
  pub number : id.0 < 2 ^ 64
  pub said : ReadsSome (IsDefinitionJson id s) ts []

-- and one that adds to the parts that were said: these, and the rest is left
abbrev pub FillsIt : {A : Type 0} → Result A LineFault → (now all : Parts) → (new rest : List Token) → Type 0
FillsIt (Ok _) now all new rest = (now ≡ all) × (new ≡ rest)
FillsIt (Err e) now all new rest = ¬ IsWrong e

-- and one that passes what it expects
abbrev pub PassesIt : Result (Unit {0}) LineFault → (new rest : List Token) → Type 0
PassesIt (Ok _) new rest = new ≡ rest
PassesIt (Err e) new rest = ¬ IsWrong e
