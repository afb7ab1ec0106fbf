-- How a run ends that a clash stopped.
use Rattle.std.proofs.Common.{◌≡◌, ℕ, List, Result, Ok, Err, refl, subst, sym}
use Rattle.std.specs.Prelude.{IfErr, IsErrAnd}
use Rattle.gob_convert.specs.declared.clash.Clash.{Clash}
use Rattle.gob_tool.specs.declared.fault.ToolFault.{ToolFault}
use Rattle.gob_tool.specs.declared.fault.ToolFault.TheVariants as run_fault
use Rattle.gob.specs.Converting.{EndsAtClash, TellsClash}
use Rattle.gob.specs.Exit.{HasAnswered, IsTold}
use Rattle.gob.specs.declared.Exit.{Exit}
use Rattle.gob.specs.declared.Exit.TheVariants as end

ended_ok : (ending : Result (Unit {0}) Exit) → HasAnswered (Ok tt) ending → ending ≡ Ok tt
ended_ok (Ok u) h = refl
ended_ok (Err (end.Words f)) h = absurd h
ended_ok (Err (end.Run f)) h = absurd (cc h)
ended_ok (Err (end.Told f)) h = absurd h
ended_ok (Err (end.View line)) h = absurd h
ended_ok (Err (end.RefusedFile f line)) h = absurd h
ended_ok (Err (end.LeftOut report)) h = absurd h
ended_ok (Err (end.Lines line)) h = absurd h
ended_ok (Err (end.Verified said)) h = absurd h
ended_ok (Err end.Unread) h = absurd (cc h)

ended_cut : (ending result : Result (Unit {0}) Exit) → HasAnswered (Err run_fault.Write) ending
    → IfErr ending (λ stop. result ≡ Err stop) → HasAnswered (Err run_fault.Write) result
ended_cut (Ok u) result h same = absurd (cc h)
ended_cut (Err stop) result h same = subst (λ r. HasAnswered (Err run_fault.Write) r) (sym same) h

pub ends_at_clash : {c : Clash} {lost : List ℕ} (told : Result (Unit {0}) ToolFault)
    (ending result : Result (Unit {0}) Exit) → IsTold (Ok tt) lost told → HasAnswered told ending
    → (ending ≡ Ok tt → IsErrAnd result (TellsClash c)) → IfErr ending (λ stop. result ≡ Err stop)
    → EndsAtClash c lost result
ends_at_clash told ending result tells answered clash other = record {
  whole = λ e. clash (ended_ok ending (subst (λ t. HasAnswered t ending) (tells.whole e) answered));
  cut = λ e. ended_cut ending result (subst (λ t. HasAnswered t ending) (tells.cut e) answered) other;
}
