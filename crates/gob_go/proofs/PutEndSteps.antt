-- What an item answers of the step of a part: how far it comes in the stream, and that it takes as much.
use Rattle.std.proofs.Common.{Bool}
use Rattle.std.proofs.Common.{◌≡◌, ℕ, ◌+◌, ◌≤◌, List, ◌++◌, length, take, Option, Some, None, Ok, Err}
use Rattle.std.proofs.Common.{arith, ap, ◌∙◌, length-append}
use Rattle.std.proofs.lemmas.List.{length-take}
use Rattle.gob_num.specs.Unsigned.{AreBytes}
use Rattle.gob_types.specs.Defined.{Defined}
use Rattle.gob_types.specs.Table.{Table}
use Rattle.gob_stream.specs.declared.fault.Fault.{Fault}
use Rattle.gob_stream.specs.Bounds.{Bounds}
use Rattle.gob_go.specs.declared.levels.Levels.{Levels}
use Rattle.gob_go.specs.declared.part.PutPart.{PutPart}
use Rattle.gob_go.specs.declared.part.PartTaken.{PartTaken}
use Rattle.gob_go.specs.declared.put.PutStage.{PutStage}
use Rattle.gob_go.specs.declared.stage.Stage.TheVariants as stage
use Rattle.gob_go.specs.declared.stage.Stepped.{Stepped}
use Rattle.gob_go.specs.Machine.HasRead.{in_put}
use Rattle.gob_go.specs.Machine.Stages.{IsWithinItem, StageAnswers, StageBehind, PartAnswers, PartSteps}
use Rattle.gob_go.specs.Machine.Stages.{part_goes_on, item_ends}
use Rattle.gob_go.proofs.ItemsLaws as items
use Rattle.gob_go.proofs.PlaceLaws.{same_place}
use Rattle.gob_go.proofs.PutSteps.{in_put_of, part_stepped, part_stopped}
use Rattle.gob_go.proofs.UnderWayLaws.{stage_bound}

part_bound : {keep : Bool} {L : Bounds} {T : Table} {offset at : ℕ} {d d' : Defined} {levels : Levels}
    {taken : PartTaken}
    (z piece : List ℕ) → offset ≤ L.stream → at ≡ offset + length z
    → PartSteps keep L T offset d z piece levels d' (Ok taken) → at + taken.used ≤ L.stream + 9
part_bound z piece l e (part_goes_on {used = used} m few h) =
    let n = stage_bound l (in_put h) in omega (arith, length-append z (take used piece), length-take used piece)
part_bound z piece l e (item_ends {used = used} m few h) =
    let n = items.item_ends h.item in omega (arith, length-append z (take used piece), length-take used piece)

-- with what is taken of a part the stream is no longer than a number of 64 bits says
pub put_bound : {keep : Bool} {L : Bounds} {d d' : Defined} {at : ℕ} {put : PutStage} {new : Levels} {piece : List ℕ}
    {taken : PartTaken} → (w : IsWithinItem keep L d at (stage.Put put)) → AreBytes (w.bytes ++ piece)
    → PartAnswers keep L d d' put.levels new put.part piece (Ok taken) → at + taken.used ≤ L.stream + 9
put_bound {piece = piece} w o a =
    part_bound w.bytes piece w.within w.taken_is (a.each w.table w.offset w.bytes (in_put_of w.in_item) o)

-- what follows takes what the part took
behind_used : (levels : Levels) (at used : ℕ) (next : Option PutPart) (stepped : Stepped)
    → StageBehind levels at used next stepped → stepped.used ≡ used
behind_used levels at used (Some next) stepped b = ap (λ (s : Stepped). s.used) b
behind_used levels at used None stepped b = ap (λ (s : Stepped). s.used) b.3

pub put_answers : {keep : Bool} {L : Bounds} {d d' : Defined} {at : ℕ} {put : PutStage} {new : Levels} {piece : List ℕ}
    {taken : PartTaken} (stepped : Stepped) → IsWithinItem keep L d at (stage.Put put)
    → PartAnswers keep L d d' put.levels new put.part piece (Ok taken)
    → StageBehind new at taken.used taken.next stepped
    → StageAnswers keep L d d' (stage.Put put) piece (Ok stepped)
put_answers {at = at} {new = new} {taken = taken} stepped w a b = record {
  each = λ T offset z h o.
      part_stepped stepped (a.each T offset z (in_put_of h) o) (w.taken_is ∙ same_place (in_put_of w.in_item)
      (in_put_of h)) b;
  some = λ l. let some = a.some l in let same = behind_used new at taken.used taken.next stepped b in omega arith;
}

-- and it stops where the part does
pub put_stopped : {keep : Bool} {L : Bounds} {d d' : Defined} {put : PutStage} {new : Levels} {piece : List ℕ}
    (f : Fault)
    → PartAnswers keep L d d' put.levels new put.part piece (Err f)
    → StageAnswers keep L d d' (stage.Put put) piece (Err f)
put_stopped f a = record { each = λ T offset z h o. part_stopped f (a.each T offset z (in_put_of h) o); some = λ l. tt }
