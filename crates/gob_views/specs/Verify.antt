-- What is said of a file that is verified. (docs/FORMAT.md, The program: this project's own.)
use Rattle.std.specs.Prelude.{◌≡◌, ℕ, List, [], ◌∷◌, ◌++◌, codes, encode_utf8_all, Option, Result, Ok, Err}
use Rattle.std.specs.Str.{chars}
use Rattle.gob_stream.specs.Bounds.{Bounds}
use Rattle.gob_stream.specs.RefusalText.{refusal_text}
use Rattle.gob_tool.specs.CheckingGo.{IsCountedGoStream, IsNoGoStream}
use Rattle.gob_tool.specs.declared.fault.ToolFault.{ToolFault}
use Rattle.gob_tool.specs.declared.fault.ToolFault.TheVariants as fault
use Rattle.gob_words.specs.Escaped.{escaped_text}

-- the line about the file of this name, in which no character of the name is obeyed by a terminal
abbrev pub told_of : (name said : List ℕ) → List ℕ
told_of name said = encode_utf8_all (escaped_text (chars name)) ++ (codes ": " ++ said)

-- what is said behind the name, where a check of the stream answered so and wrote this line: that line, or why there is
-- none, where that is the file's fault
abbrev pub IsSaid : Result (Unit {0}) ToolFault → (line said : List ℕ) → Type 0
IsSaid (Ok _) line said = said ≡ line
IsSaid (Err (fault.Refused R)) line said = said ≡ refusal_text R ++ 10 ∷ []
IsSaid (Err fault.Read) line said = said ≡ codes "read fault" ++ 10 ∷ []
IsSaid (Err _) line said = ⊥

-- the answer is right of the bytes, of which those are left: a whole stream is counted in the line, or it is no stream
abbrev pub IsRightOf : Bounds → (bytes : List ℕ) → (now : Option (List ℕ)) → Result (Unit {0}) ToolFault
    → (line : List ℕ) → Type 0
IsRightOf L bytes now (Ok _) line = IsCountedGoStream L bytes now (λ counted. line ≡ counted)
IsRightOf L bytes now (Err f) line = IsNoGoStream L bytes now f

-- the line about the file of this name, whose bytes these are, where a check of them answers so
pub record IsToldOf (name : List ℕ) (L : Bounds) (bytes : List ℕ) (now : Option (List ℕ))
    (answer : Result (Unit {0}) ToolFault) (line : List ℕ) : Type 0 where
  pub counts : List ℕ
  pub right : IsRightOf L bytes now answer counts
  pub said : List ℕ
  pub says : IsSaid answer counts said
  pub is : line ≡ told_of name said
