-- What a reader of one byte after another says of the bytes so far.
use Rattle.std.specs.Prelude.{ℕ, List, []}
use Rattle.gob_num.specs.Unsigned.{IsUnsigned, IsUnsignedPrefix, IsBadHead, IsNotMinimal}
use Rattle.gob_num.specs.declared.number.Step.{Step}
use Rattle.gob_num.specs.declared.number.Step.TheVariants.{More, Done, BadHead, NotMinimal}

-- what each answer says of the bytes
abbrev pub Judges : List ℕ → Step → Type 0
Judges bytes More = IsUnsignedPrefix bytes
Judges bytes (Done n) = IsUnsigned n bytes
Judges bytes BadHead = IsBadHead bytes
Judges bytes NotMinimal = IsNotMinimal bytes

-- the bytes of the number that is under way after the answer: none after any but `More`
abbrev pub next : Step → List ℕ → List ℕ
next More bytes = bytes
next (Done n) bytes = []
next BadHead bytes = []
next NotMinimal bytes = []
