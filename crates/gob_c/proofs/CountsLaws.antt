-- What is told of a tally is told of the counts that C reads.
use Rattle.std.proofs.Common.{◌≡◌, ◌∙◌, ap, subst, sym}
use Rattle.std.specs.Prelude.{Result}
use Rattle.gob_counted.specs.Calls.{tally_of}
use Rattle.gob_counted.specs.declared.tally.Tally.{Tally}
use Rattle.gob_stream.specs.declared.fault.Fault.{Fault}
use Rattle.gob_c.specs.AnyCounter.{CounterIsSo}
use Rattle.gob_c.specs.Calls.{TellsTally}
use Rattle.gob_c.specs.Told.{counts_of, told_of}
use Rattle.gob_c.specs.declared.any_counter.AnyCounter.{AnyCounter}
use Rattle.gob_c.specs.declared.any_counter.AnyCounter.TheVariants as any
use Rattle.gob_c.specs.declared.counts.Counts.{Counts}
use Rattle.gob_c.specs.declared.told.Told.{Told}

pub says_so : {tally : Tally} {counts : Counts} {told : Told} (answer : Result (Unit {0}) Fault)
    → counts ≡ counts_of tally → told ≡ told_of answer tally.bytes → told ≡ told_of answer counts.bytes
says_so answer is says = says ∙ sym (ap (λ (k : Counts). told_of answer k.bytes) is)

tells : {tally : Tally} {counts : Counts} (counter : AnyCounter) → counts ≡ counts_of tally
    → CounterIsSo counter (λ X I Told d c. tally ≡ tally_of c) → TellsTally counter counts
tells (any.Exact c) is same = is ∙ ap counts_of same
tells (any.Go c) is same = is ∙ ap counts_of same

-- also where the counter was lent meanwhile
pub tells_so : {tally : Tally} {counts : Counts} (lent counter : AnyCounter) → lent ≡ counter
    → counts ≡ counts_of tally → CounterIsSo lent (λ X I Told d c. tally ≡ tally_of c) → TellsTally counter counts
tells_so {counts = counts} lent counter same is h = subst (λ k. TellsTally k counts) same (tells lent is h)
