-- The session of the format, in the words of any session.
use Rattle.std.specs.Prelude.{◌≡◌, ℕ, List, OnErr, Result, refl}
use Rattle.gob_read.specs.Building.{Building}
use Rattle.gob_stream.specs.Bounds.{no_deeper}
use Rattle.gob_stream.specs.Calls.Session.{HasFailed, HasRead, IsBetweenItems, StepAnswers}
use Rattle.gob_stream.specs.Calls.Session.{limits_of, table_of, taken_of, types_of}
use Rattle.gob_stream.specs.Item.{StreamItem, ItemMeans}
use Rattle.gob_stream.specs.Machine.SessionState.{SessionState}
use Rattle.gob_stream.specs.Outcome.{strict}
use Rattle.gob_stream.specs.Reading.{HasTypesBehind}
use Rattle.gob_stream.specs.Stepping.{Stepping}
use Rattle.gob_stream.specs.declared.fault.Fault.{Fault}
use Rattle.gob_stream.specs.declared.item.Item as declared
use Rattle.gob_stream.specs.declared.session.Advance.{Advance}

-- what a step answers wherever the session stands; a fault changes neither its types nor its count of bytes
pub record StepsSo {X O : Type 0} {most : ℕ} (building : Building X O most) (s s' : SessionState X O) (piece : List ℕ)
    (result : Result (Advance (declared.Item O)) Fault) : Type 0 where
  pub advances : (items : List StreamItem) (bytes : List ℕ) → HasRead building s items bytes
      → StepAnswers building s s' items bytes piece result
  pub types : OnErr result (table_of s' ≡ table_of s)
  pub taken : OnErr result (taken_of s' ≡ taken_of s)

-- the types behind the items are the session's, and no others
abbrev pub strict_stepping : {X O : Type 0} {most : ℕ} → Building X O most
    → Stepping (SessionState X O) (declared.Item O) StreamItem
strict_stepping {most = most} building = record {
  grammar = strict;
  within = λ L. no_deeper most L;
  keeps = λ L. refl;
  limits = λ s. limits_of s;
  taken = λ s. taken_of s;
  table = λ s. table_of s;
  between = λ s. IsBetweenItems s;
  failed = λ s. HasFailed s;
  read = λ s items bytes. HasRead building s items bytes;
  behind = λ s items bytes h. types_of s;
  means = λ T given i. ItemMeans building.means given i;
  told = λ i. i;
  leads = λ L bytes items T. HasTypesBehind L bytes items T;
  steps = λ s s' piece result. StepsSo building s s' piece result;
}
