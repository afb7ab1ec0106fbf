-- What a part answers, by whichever name it goes.
use Rattle.std.proofs.Common.{Bool}
use Rattle.std.proofs.Common.{◌≡◌, ℕ, List, Result, subst, sym}
use Rattle.gob_types.specs.Defined.{Defined}
use Rattle.gob_stream.specs.declared.fault.Fault.{Fault}
use Rattle.gob_stream.specs.Bounds.{Bounds}
use Rattle.gob_go.specs.Machine.Stages.{IsInPut, IsInPutOfSome, IsInValue, PartAnswers, ValueAnswers}
use Rattle.gob_go.specs.declared.levels.Levels.{Levels}
use Rattle.gob_go.specs.declared.part.PutPart.{PutPart}
use Rattle.gob_go.specs.declared.part.PutPart.TheVariants as part
use Rattle.gob_go.specs.declared.part.PartTaken.{PartTaken}
use Rattle.gob_go.proofs.ValueSteps.{in_value_of, part_of_value}

pub part_there : {keep : Bool} {L : Bounds} {d : Defined} {taken : ℕ} {levels : Levels} {now old : PutPart} → now ≡ old
    → IsInPut keep L d taken levels now → IsInPut keep L d taken levels old
part_there {keep = keep} {L = L} {d = d} {taken = taken} {levels = levels} e w = subst
    (λ p. IsInPut keep L d taken levels p) e w

pub part_of_some : {keep : Bool} {L : Bounds} {d : Defined} {taken : ℕ} {levels : Levels} {now old : PutPart} → now
    ≡ old
    → IsInPut keep L d taken levels now → IsInPutOfSome keep L taken levels old
part_of_some {d = d} e w = record { types = d; is = part_there e w }

pub part_answers : {keep : Bool} {L : Bounds} {d d' : Defined} {old new : Levels} {now before : PutPart}
    {piece : List ℕ}
    {result : Result PartTaken Fault} → now ≡ before → PartAnswers keep L d d' old new before piece result
    → PartAnswers keep L d d' old new now piece result
part_answers {keep = keep} {L = L} {d = d} {d' = d'} {old = old} {new = new} {piece = piece} {result = result} e a =
    subst (λ p. PartAnswers keep L d d' old new p piece result) (sym e) a

-- under whichever table it stood
pub each_answers : {keep : Bool} {L : Bounds} {d : Defined} {taken : ℕ} {old new : Levels} {now before : PutPart}
    {piece : List ℕ}
    {result : Result PartTaken Fault} → now ≡ before → IsInPut keep L d taken old now
    → ((d : Defined) → IsInPut keep L d taken old before → PartAnswers keep L d d old new before piece result)
    → PartAnswers keep L d d old new now piece result
each_answers {d = d} e w f = part_answers e (f d (part_there e w))

pub in_value_there : {keep : Bool} {L : Bounds} {d : Defined} {taken : ℕ} {levels : Levels} {now : PutPart} → now
    ≡ part.Value
    → IsInPut keep L d taken levels now → IsInValue keep L d taken levels
in_value_there e w = in_value_of (part_there e w)

pub value_answers : {keep : Bool} {L : Bounds} {d : Defined} {old new : Levels} {now : PutPart} {piece : List ℕ}
    {result : Result PartTaken Fault} → now ≡ part.Value → ValueAnswers keep L d old new piece result
    → PartAnswers keep L d d old new now piece result
value_answers e v = part_answers e (part_of_value v)
