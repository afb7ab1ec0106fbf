-- A counter of either grammar: what is so of it is so of the counter in it, in the words of its session.
use Rattle.std.specs.Prelude.{Bool, true, false}
use Rattle.gob_read.specs.Calls.Builders.{skip_building}
use Rattle.gob_stream.specs.Stepping.{Stepping}
use Rattle.gob_stream.specs.StrictStepping.{strict_stepping}
use Rattle.gob_go.specs.GoStepping.{go_stepping}
use Rattle.gob_counted.specs.declared.counter.Counter.{Counter}
use Rattle.gob_c.specs.declared.any_counter.AnyCounter.{AnyCounter}
use Rattle.gob_c.specs.declared.any_counter.AnyCounter.TheVariants as any

-- what may be so of a counter in any grammar, or of what a call makes of it
abbrev pub OfCounter : Type 1
OfCounter = (X I Told : Type 0) → Stepping X I Told → Counter X I → Type 0

abbrev pub OfCounting : Type 1
OfCounting = (X I Told : Type 0) → Stepping X I Told → (old new : Counter X I) → Type 0

-- this is so of the counter
abbrev pub CounterIsSo : AnyCounter → OfCounter → Type 0
CounterIsSo (any.Exact c) P = P _ _ _ (strict_stepping skip_building) c
CounterIsSo (any.Go c) P = P _ _ _ go_stepping c

-- it is of the documented format alone, where it is said to be exact
abbrev pub CountsExactly : Bool → AnyCounter → Type 0
CountsExactly true (any.Exact c) = Unit {0}
CountsExactly true (any.Go c) = ⊥
CountsExactly false (any.Exact c) = ⊥
CountsExactly false (any.Go c) = Unit {0}

-- it stays of its grammar, and this is so of what it was and is
abbrev pub CounterGoesSo : (old new : AnyCounter) → OfCounting → Type 0
CounterGoesSo (any.Exact c) (any.Exact e) P = P _ _ _ (strict_stepping skip_building) c e
CounterGoesSo (any.Go c) (any.Go e) P = P _ _ _ go_stepping c e
CounterGoesSo (any.Exact c) (any.Go e) P = ⊥
CounterGoesSo (any.Go c) (any.Exact e) P = ⊥
