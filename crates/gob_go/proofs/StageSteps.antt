-- What a stage answers, by whichever name it goes.
use Rattle.std.proofs.Common.{Bool}
use Rattle.std.proofs.Common.{◌≡◌, ℕ, List, Result, subst, sym}
use Rattle.gob_types.specs.Defined.{Defined}
use Rattle.gob_types.specs.Table.{Table}
use Rattle.gob_stream.specs.declared.fault.Fault.{Fault}
use Rattle.gob_stream.specs.Bounds.{Bounds}
use Rattle.gob_go.specs.Machine.HasRead.{StageHasRead, in_count, in_type_number, in_definition, in_put}
use Rattle.gob_go.specs.Machine.Stages.{IsWithinItem, IsWithinItemOfSome, StageAnswers}
use Rattle.gob_go.specs.declared.stage.Stage.{Stage}
use Rattle.gob_go.specs.declared.stage.Stage.TheVariants as stage
use Rattle.gob_go.specs.declared.stage.Stepped.{Stepped}

pub expected_there : {keep : Bool} {L : Bounds} {d : Defined} {taken : ℕ} {now old : Stage} → now ≡ old
    → IsWithinItem keep L d taken now
    → IsWithinItem keep L d taken old
expected_there {keep = keep} {L = L} {d = d} {taken = taken} e s = subst (λ st. IsWithinItem keep L d taken st) e s

pub of_some : {keep : Bool} {L : Bounds} {d : Defined} {taken : ℕ} {now old : Stage} → now ≡ old
    → IsWithinItem keep L d taken now
    → IsWithinItemOfSome keep L taken old
of_some e s = record { types = _; is = expected_there e s }

pub answers_there : {keep : Bool} {L : Bounds} {d d' : Defined} {now old : Stage} {piece : List ℕ}
    {result : Result Stepped Fault}
    → now ≡ old → StageAnswers keep L d d' old piece result → StageAnswers keep L d d' now piece result
answers_there {keep = keep} {L = L} {d = d} {d' = d'} {piece = piece} {result = result} e a =
    subst (λ st. StageAnswers keep L d d' st piece result) (sym e) a

pub count_answers : {keep : Bool} {L : Bounds} {d d' : Defined} {taken : ℕ} {now old : Stage} {piece : List ℕ}
    {result : Result Stepped Fault} → now ≡ old → d' ≡ d → IsWithinItem keep L d taken now
    → ((d : Defined) → IsWithinItem keep L d taken old → StageAnswers keep L d d old piece result)
    → StageAnswers keep L d d' now piece result
count_answers {keep = keep} {L = L} {d = d} {now = now} {piece = piece} {result = result} e same s f =
    subst (λ d'. StageAnswers keep L d d' now piece result) (sym same) (answers_there e (f d (expected_there e s)))

-- behind a fault nothing is expected
pub not_failed : {keep : Bool} {L : Bounds} {d : Defined} {taken : ℕ} {now : Stage} {A : Type 0}
    → IsWithinItem keep L d taken now
    → now ≡ stage.Failed → A
not_failed {keep = keep} s e = absurd (none s.in_item e)
  where
    none : {L : Bounds} {T U : Table} {offset : ℕ} {expects : Stage} {y : List ℕ}
        → StageHasRead keep L T offset U expects y
        → expects ≡ stage.Failed → ⊥
    none (in_count q g n) e = cc
    none (in_type_number a g k n) e = cc
    none (in_definition a y g k d) e = cc
    none (in_put p) e = cc
