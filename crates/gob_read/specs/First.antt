-- The refusal that is given: of all, the one that the fewest bytes show.
-- (docs/FORMAT.md, Refusals.)
use Rattle.std.specs.Prelude.{◌≡◌, ℕ, ◌<◌, List}
use Rattle.gob_types.specs.declared.id.TypeId.{TypeId}
use Rattle.gob_types.specs.declared.reason.Reason.TheVariants as reason
use Rattle.gob_types.specs.Table.{Table}
use Rattle.gob_read.specs.Refusal.{Refusal, Refused}

-- at a tie the end of the body comes last
pub data NotAfter : Refusal → Refusal → Type 0 where
  fewer : {R S : Refusal} → R.seen < S.seen → NotAfter R S
  same : {R : Refusal} → NotAfter R R
  end_last : {R S : Refusal} → R.seen ≡ S.seen → S.reason ≡ reason.Short → NotAfter R S

pub record IsFirst (T : Table) (t : TypeId) (limit announced : ℕ) (z : List ℕ) (R : Refusal) : Type 0 where
  pub refused : Refused T t limit announced z R
  pub first : (S : Refusal) → Refused T t limit announced z S → NotAfter R S
