-- What is taken from the front of a piece of a stream, where an unsigned number is to stand there.
use Rattle.std.specs.Prelude.{ℕ, ◌≤◌, List, [], ◌++◌, length, take}
use Rattle.gob_num.specs.Unsigned.{IsUnsigned, IsUnsignedPrefix, IsBadHead, IsNotMinimal}
use Rattle.gob_num.specs.declared.unsigned.Taken.{Taken}
use Rattle.gob_num.specs.declared.unsigned.Taken.TheVariants.{Whole, More, BadHead, NotMinimal}

-- what each answer says of the piece, behind the bytes of a number that came before
abbrev pub TakesOn : List ℕ → List ℕ → Taken → Type 0
TakesOn old piece (Whole number used) = (used ≤ length piece) × IsUnsigned number (old ++ take used piece)
TakesOn old piece More = IsUnsignedPrefix (old ++ piece)
TakesOn old piece BadHead = IsBadHead (old ++ piece)
TakesOn old piece NotMinimal = IsNotMinimal (old ++ piece)

-- what each answer says of the piece, where no byte of the number came before
abbrev pub TakesUnsigned : List ℕ → Taken → Type 0
TakesUnsigned piece taken = TakesOn [] piece taken

-- the bytes of the number that is under way after the answer: none after any but `More`
abbrev pub left : Taken → List ℕ → List ℕ
left (Whole number used) bytes = []
left More bytes = bytes
left BadHead bytes = []
left NotMinimal bytes = []
