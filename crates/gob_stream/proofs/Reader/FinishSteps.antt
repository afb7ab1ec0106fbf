-- What a reader answers at the end of its input.
use Rattle.std.proofs.Common.{◌≡◌, ◌≢◌, ℕ, List, [], sym, ap, ◌∙◌, subst}
use Rattle.gob_types.specs.declared.reason.Reason.TheVariants as reason
use Rattle.gob_types.specs.Base.{base_table}
use Rattle.gob_read.specs.Building.{Building}
use Rattle.gob_stream.specs.declared.fault.Refusal.{Refusal}
use Rattle.gob_stream.specs.Machine.SessionState.{SessionState}
use Rattle.gob_stream.specs.declared.count.CountStage.{CountStage}
use Rattle.gob_stream.specs.declared.stage.Stage.{Stage}
use Rattle.gob_stream.specs.declared.stage.Stage.TheVariants as stage
use Rattle.gob_stream.specs.Machine.Stages.{count_at}
use Rattle.gob_stream.specs.Item.{StreamItem}
use Rattle.gob_stream.specs.Refusing.{refuses}
use Rattle.gob_stream.specs.Outcome.{Outcome, refused}
use Rattle.gob_stream.specs.Machine.HasRead.{HasRead}
use Rattle.gob_stream.specs.Bounds.{no_deeper}
use Rattle.gob_stream.proofs.Reader.UnderWayLaws.{after_some, none_expects_count}

-- what is expected is one count
pub begins_at : {X O : Type 0} {expects : Stage X O} {at : CountStage} {n : ℕ} → expects ≡ stage.Count at
    → expects ≡ count_at n [] → at.begin ≡ n
begins_at {at = at} {n = n} i e =
    let same : stage.Count at ≡ count_at n [] = sym i ∙ e in
    let one : at ≡ record { begin = n; number = [] } = cc in
    ap (λ (at : CountStage). at.begin) one

-- where the count of the next item is not expected from there on, the bytes end within an item
pub ended_within : {X O : Type 0} {most : ℕ} {building : Building X O most} {s : SessionState X O}
    {items : List StreamItem} {bytes : List ℕ} {R : Refusal}
    → HasRead building s items bytes → s.stage ≢ count_at s.taken []
    → R ≡ refuses s.taken s.taken reason.Ended
    → Outcome base_table (no_deeper most s.limits) bytes items (refused R) × (R.reason ≡ reason.Ended)
ended_within {most = most} {s = s} {items = items} {bytes = bytes} a n e =
    let here = e ∙ ap (λ m. refuses m m reason.Ended) a.taken in (
      subst (λ R. Outcome base_table (no_deeper most s.limits) bytes items (refused R)) (sym here)
          (after_some a (λ u. n (none_expects_count a u))),
      ap (λ (R : Refusal). R.reason) e,
    )
