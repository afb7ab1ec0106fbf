-- What reading bytes in pieces gives.
use Rattle.std.specs.Prelude.{ℕ, List, [], ◌∷◌, ◌++◌, Result, Ok, Err}
use Rattle.std.specs.Global.{Vec}
use Rattle.gob_types.specs.Base.{base_table}
use Rattle.gob_stream.specs.declared.fault.Fault.{Fault}
use Rattle.gob_stream.specs.declared.fault.Fault.TheVariants as fault
use Rattle.gob_stream.specs.Bounds.{Bounds}
use Rattle.gob_stream.specs.Item.{StreamItem}
use Rattle.gob_stream.specs.Outcome.{BeginsWithStream, Outcome, the_end, refused}

-- the bytes of pieces, one behind another
abbrev pub joined : List (Vec ℕ) → List ℕ
joined [] = []
joined (piece ∷ pieces) = piece.items ++ joined pieces

-- the outcome of the bytes; without memory, some of the items that they begin with
abbrev pub HasOutcome : Bounds → List ℕ → List StreamItem → Result (Unit {0}) Fault → Type 0
HasOutcome L bytes items (Ok _) = Outcome base_table L bytes items the_end
HasOutcome L bytes items (Err (fault.Refused R)) = Outcome base_table L bytes items (refused R)
HasOutcome L bytes items (Err fault.Memory) = BeginsWithStream base_table L bytes items
HasOutcome L bytes items (Err fault.Read) = ⊥
HasOutcome L bytes items (Err fault.Failed) = ⊥
