-- What a walk over a part has told where it ends, for private clauses.
use Rattle.std.specs.Prelude.{◌≡◌, ◌↔◌, ℕ, ◌+◌, ◌^◌, ◌<◌, ◌≤◌, List, [], ◌∷◌, ◌++◌, length, Result, Ok, Err}
use Rattle.gob_num.specs.Unsigned.{IsUnsigned}
use Rattle.gob_types.specs.declared.id.TypeId.{TypeId}
use Rattle.gob_types.specs.Table.{Table}
use Rattle.gob_value.specs.Tree.{Tree, Trees, Pairs, tree_count, pair_count}
use Rattle.gob_value.specs.Spelling.{Spells, SpellsEach, SpellsPairs}
use Rattle.gob_value.specs.Top.{SpellsTop}
use Rattle.gob_read.specs.Expected.{Allowed, Allows, Expected}
use Rattle.gob_explain.specs.Laws.{Answers}
use Rattle.gob_explain.specs.Open.{Open, a_value}
use Rattle.gob_explain.specs.Path.{PathIn, PathOf, PathTop}
use Rattle.gob_explain.specs.declared.row.Row.{Row}
use Rattle.gob_explain.specs.declared.row.PartStep.{PartStep}
use Rattle.gob_explain.specs.declared.row.PartStep.TheVariants as step
use Rattle.gob_explain.specs.declared.stop.RowStop.{RowStop}
use Rattle.gob_explain.specs.declared.stop.RowStop.TheVariants as stops
use Rattle.gob_explain.specs.declared.row.What.{What}
use Rattle.gob_explain.specs.Walk.{Awaits, BeginsPart, IsRow, RowsLead, Steps, StopsAt, TellsNumber, between}

-- what tells of rows: from a sink that stands at one path to one that stands at another
abbrev pub Tells : Type 0 → Type 0 → Type 1
Tells S E = S × List PartStep → S × List PartStep → List Row → Result (Unit {0}) E → Type 0

-- a sink was told of rows that lead from one place to the other, where these are open
pub record Told {O E : Type 0} (tells : O → O → List Row → Result (Unit {0}) E → Type 0) (T : Table) (bytes : List ℕ)
    (opens : List Open) (at : ℕ) (old new : O) (answer : Result (Unit {0}) E) (last : List Open) (end : ℕ) : Type
    0 where
  pub rows : List Row
  pub told : tells old new rows answer
  pub lead : RowsLead T bytes opens at rows last end
  pub order : at ≤ end
  pub inside : end ≤ length bytes

-- why a walk from the place on ended too early: nothing more can stand there, and the sink stands at the path of what
-- comes next, or the sink is told no more
abbrev pub Fails : {S E : Type 0} → Tells S E → Table → List ℕ → (most : ℕ) → List Open → (at : ℕ)
    → S × List PartStep → S
    → RowStop E → Type 0
Fails tells T bytes most opens at old new (stops.Here place awaited) = (last : List Open) × (path : List PartStep)
    × Told tells T bytes opens at old (new, path) (Ok tt) last place × StopsAt T bytes most last place
    × PathOf T last path
Fails tells T bytes most opens at old new (stops.Sink e) = (last : List Open) × (place : ℕ) × (path : List PartStep)
    × Told tells T bytes opens at old (new, path) (Err e) last place

-- how a walk from the place on ends: where the others are open and the sink stands as it did, or too early
abbrev pub WalksTo : {S E : Type 0} → Tells S E → Table → List ℕ → (most : ℕ) → List Open → (at : ℕ) → S × List PartStep
    → S → List Open → Result ℕ (RowStop E) → Type 0
WalksTo tells T bytes most opens at old new last (Ok end) =
    Told tells T bytes opens at old (new, old.1) (Ok tt) last end
WalksTo tells T bytes most opens at old new last (Err stop) = Fails tells T bytes most opens at old new stop

-- how a walk ends within a value of this type, below so many parts, whose skeleton is p before it: behind more of the
-- skeleton, of which this holds, or too early
abbrev pub Walks : {S E : Type 0} → Tells S E → Table → List ℕ → (most : ℕ) → TypeId → (base : ℕ) → (p : List ℕ)
    → (outer : List Open) → (at : ℕ) → S × List PartStep → S → (List ℕ → Type 0) → Result ℕ (RowStop E) → Type 0
Walks tells T bytes most t base p outer at old new Whole (Ok end) = (more : List ℕ) × Whole more
    × Told tells T bytes (a_value t base p ∷ outer) at old (new, old.1) (Ok tt) (a_value t base (p ++ more) ∷ outer) end
Walks tells T bytes most t base p outer at old new Whole (Err stop) =
    Fails tells T bytes most (a_value t base p ∷ outer) at old new stop

-- a value of this type, below so many parts, is at the end of the path
abbrev pub IsValueAt : Table → TypeId → (base : ℕ) → List Open → List PartStep → Type 0
IsValueAt T t base outer way =
    (p : List ℕ) (path : List PartStep) → PathTop T t p path → PathOf T (a_value t base p ∷ outer) (way ++ path)

-- behind these bytes of a skeleton of such a value a part of the other type begins, with so many open parts around it,
-- at the end of the path
pub record BeginsAt (T : Table) (t : TypeId) (base : ℕ) (p : List ℕ) (outer : List Open) (u : TypeId) (around : ℕ)
    (way : List PartStep) : Type 0 where
  pub begins : BeginsPart T t p u around
  pub leads : (q : List ℕ) (path : List PartStep) → PathIn T u q path
      → PathOf T (a_value t base (p ++ q) ∷ outer) (way ++ path)

-- where these are open this comes next, and is what in which part, so deep and at this path; behind the row of a number
-- and its bytes the others are
pub record Takes (T : Table) (opens : List Open) (w : Expected) (x : What) (u : TypeId) (d : ℕ) (way : List PartStep)
    (next : ℕ → List ℕ → List Open) : Type 0 where
  pub awaits : Awaits T opens w d
  pub path : PathOf T opens way
  pub steps : (r : Row) (b : List ℕ) → IsRow x u d r → Answers w b → TellsNumber w r.number b
      → Steps T opens r b (next r.number b)

-- how a walk over a number ends
abbrev pub WalksNumber : {S E : Type 0} → Tells S E → Table → List ℕ → (most : ℕ) → List Open → (at : ℕ)
    → S × List PartStep → S → (ℕ → List ℕ → List Open) → (ℕ → ℕ → Type 0) → Result (ℕ × ℕ) (RowStop E) → Type 0
WalksNumber tells T bytes most opens at old new next Whole (Ok found) =
    Told tells T bytes opens at old (new, old.1) (Ok tt) (next found.0 (between at found.1 bytes)) found.1
    × Whole found.0 found.1
WalksNumber tells T bytes most opens at old new next Whole (Err stop) = Fails tells T bytes most opens at old new stop

-- and over raw bytes
abbrev pub WalksRaw : {S E : Type 0} → Tells S E → Table → List ℕ → (most : ℕ) → List Open → (at count : ℕ)
    → S × List PartStep → S → (ℕ → List ℕ → List Open) → Result ℕ (RowStop E) → Type 0
WalksRaw tells T bytes most opens at count old new next (Ok end) =
    Told tells T bytes opens at old (new, old.1) (Ok tt) (next count (between at end bytes)) end × (end ≡ at + count)
WalksRaw tells T bytes most opens at count old new next (Err stop) = Fails tells T bytes most opens at old new stop

-- the bytes spell a value of the type
abbrev pub SpellsOne : Table → TypeId → List ℕ → Type 0
SpellsOne T u b = (v : Tree) × Spells T u v b

-- and one with its tag
abbrev pub SpellsWhole : Table → TypeId → List ℕ → Type 0
SpellsWhole T t b = (v : Tree) × SpellsTop T t v b

-- so many elements
abbrev pub SpellsMany : Table → TypeId → ℕ → List ℕ → Type 0
SpellsMany T e n b = (vs : Trees) × SpellsEach T e vs b × (tree_count vs ≡ n)

-- so many pairs
abbrev pub SpellsEntries : Table → TypeId → TypeId → ℕ → List ℕ → Type 0
SpellsEntries T k e n b = (ps : Pairs) × SpellsPairs T k e ps b × (pair_count ps ≡ n)

-- behind fewer elements than these another one begins, a step from the list
abbrev pub BeginsEachPart : Table → TypeId → (base : ℕ) → List ℕ → List Open → TypeId → (count around : ℕ)
    → List PartStep
    → Type 0
BeginsEachPart T t base p outer e n around way = (vs : Trees) (q : List ℕ) → SpellsEach T e vs q → tree_count vs < n
    → BeginsAt T t base (p ++ q) outer e around (way ++ step.Element (tree_count vs) ∷ [])

-- behind fewer pairs than these another key begins
abbrev pub BeginsEachKey : Table → TypeId → (base : ℕ) → List ℕ → List Open → TypeId → TypeId → (count around : ℕ)
    → List PartStep → Type 0
BeginsEachKey T t base p outer k e n around way = (ps : Pairs) (q : List ℕ) → SpellsPairs T k e ps q → pair_count ps < n
    → BeginsAt T t base (p ++ q) outer k around (way ++ step.Key (pair_count ps) ∷ [])

-- and behind that an element
abbrev pub BeginsEachValue : Table → TypeId → (base : ℕ) → List ℕ → List Open → TypeId → TypeId → (count around : ℕ)
    → List PartStep → Type 0
BeginsEachValue T t base p outer k e n around way = (ps : Pairs) (x : Tree) (q a : List ℕ) → SpellsPairs T k e ps q
    → pair_count ps < n → Spells T k x a
    → BeginsAt T t base (p ++ (q ++ a)) outer e around (way ++ step.Value (pair_count ps) ∷ [])

-- the numbers of 64 bits in this range are those that are allowed
abbrev pub AllowsRange : Allowed → (least most : ℕ) → Type 0
AllowsRange a least most = (n : ℕ) → n < 2 ^ 64 → ((least ≤ n) × (n ≤ most)) ↔ Allows a n

-- a number in the range, and where it ends
abbrev pub IsInRange : (least most : ℕ) → List ℕ → (at number end : ℕ) → Type 0
IsInRange least most body at number end =
    (at < end) × (least ≤ number) × (number ≤ most) × IsUnsigned number (between at end body)
