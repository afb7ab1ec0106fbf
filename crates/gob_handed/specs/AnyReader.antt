-- A reader of either grammar: what is so of it is so of the reader in it, in the words of its session.
use Rattle.std.specs.Prelude.{Bool, true, false}
use Rattle.gob_tape.specs.Calls.Builder.{tape_building}
use Rattle.gob_stream.specs.Stepping.{Stepping}
use Rattle.gob_stream.specs.StrictStepping.{strict_stepping}
use Rattle.gob_go.specs.GoStepping.{go_stepping}
use Rattle.gob_handed.specs.Reading.{Handouts}
use Rattle.gob_handed.specs.Unfolded.{exact_handouts, go_handouts}
use Rattle.gob_handed.specs.declared.any_reader.AnyReader.{AnyReader}
use Rattle.gob_handed.specs.declared.any_reader.AnyReader.TheVariants as any
use Rattle.gob_handed.specs.declared.reader.Reader.{Reader}

-- what may be so of a reader in any grammar, or of what a call makes of it
abbrev pub OfReader : Type 1
OfReader = (X I Told : Type 0) → Stepping X I Told → Handouts I → Reader X I → Type 0

abbrev pub OfCall : Type 1
OfCall = (X I Told : Type 0) → Stepping X I Told → Handouts I → (old new : Reader X I) → Type 0

-- this is so of the reader
abbrev pub IsSo : AnyReader → OfReader → Type 0
IsSo (any.Exact r) P = P _ _ _ (strict_stepping tape_building) exact_handouts r
IsSo (any.Go r) P = P _ _ _ go_stepping go_handouts r

-- it is of the documented format alone, where it is said to be exact
abbrev pub IsExactly : Bool → AnyReader → Type 0
IsExactly true (any.Exact r) = Unit {0}
IsExactly true (any.Go r) = ⊥
IsExactly false (any.Exact r) = ⊥
IsExactly false (any.Go r) = Unit {0}

-- it stays of its grammar, and this is so of what it was and is
abbrev pub GoesSo : (old new : AnyReader) → OfCall → Type 0
GoesSo (any.Exact r) (any.Exact s) P = P _ _ _ (strict_stepping tape_building) exact_handouts r s
GoesSo (any.Go r) (any.Go s) P = P _ _ _ go_stepping go_handouts r s
GoesSo (any.Exact r) (any.Go s) P = ⊥
GoesSo (any.Go r) (any.Exact s) P = ⊥
