-- No quote was gone past.
use Rattle.std.proofs.Common.{◌≡◌, ℕ, ◌<◌, ◌≤◌, get_or}
use Rattle.gob_forms.proofs.quoted.quote_from.Given as goal

abbrev pub invariant-loop-quote : goal.invariant-loop-quote
invariant-loop-quote l = (k : ℕ) → l.fn.place ≤ k → k < l.quote → get_or l.bytes k 0 ≡ 34 → ⊥
