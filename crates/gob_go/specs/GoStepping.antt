-- The session of streams of Go's encoder, in the words of any session.
use Rattle.std.specs.Prelude.{◌≡◌, ℕ, List, OnErr, Result, refl, Bool, false, true}
use Rattle.gob_types.specs.Table.{Table}
use Rattle.gob_stream.specs.Bounds.{within_trees}
use Rattle.gob_stream.specs.Stepping.{Stepping}
use Rattle.gob_stream.specs.declared.fault.Fault.{Fault}
use Rattle.gob_stream.specs.declared.session.Advance.{Advance}
use Rattle.gob_filled.specs.Outcome.{profile}
use Rattle.gob_filled.specs.OutcomeLaws.{unfilled_item}
use Rattle.gob_filled.specs.Stream.{FilledItem}
use Rattle.gob_go.specs.Calls.Session.{HasFailed, IsBetweenItems, StandsAfter, StepAnswersSo}
use Rattle.gob_go.specs.Calls.Session.{limits_of, table_of, taken_of}
use Rattle.gob_go.specs.Machine.SessionState.{SessionState}
use Rattle.gob_go.specs.Meaning.{ItemMeans}
use Rattle.gob_go.specs.Reading.{LeadsBehind}
use Rattle.gob_go.specs.declared.item.GoItem.{GoItem}

-- what a step answers wherever the session stands; a fault leaves the count of bytes
pub record StepsSo (keep : Bool) (s s' : SessionState) (piece : List ℕ) (result : Result (Advance GoItem) Fault) : Type
    0 where
  pub advances : (items : List FilledItem) (bytes : List ℕ) → StandsAfter keep s items bytes
      → StepAnswersSo keep s s' items bytes piece result
  pub taken : OnErr result (taken_of s' ≡ taken_of s)

-- where values are kept or not, and what is handed out means so; within an item the session's types may be
-- ahead of those behind the items
abbrev pub stepping_of : Bool → (Table → GoItem → FilledItem → Type 0) → Stepping SessionState GoItem FilledItem
stepping_of keep means = record {
  grammar = profile;
  within = λ L. within_trees L;
  keeps = λ L. refl;
  limits = λ s. limits_of s;
  taken = λ s. taken_of s;
  table = λ s. table_of s;
  between = λ s. IsBetweenItems s;
  failed = λ s. HasFailed s;
  read = λ s items bytes. StandsAfter keep s items bytes;
  behind = λ s items bytes h. h.table;
  means = means;
  told = λ i. unfilled_item i;
  leads = λ L bytes items T. LeadsBehind L bytes items T;
  steps = λ s s' piece result. StepsSo keep s s' piece result;
}

-- where it is kept
abbrev pub go_stepping : Stepping SessionState GoItem FilledItem
go_stepping = stepping_of true (λ T given i. ItemMeans T given i)

-- what is handed out says nothing of an item
abbrev pub nothing_meant : Table → GoItem → FilledItem → Type 0
nothing_meant T given i = Unit {0}

-- where none of it is kept
abbrev pub passing_stepping : Stepping SessionState GoItem FilledItem
passing_stepping = stepping_of false nothing_meant
