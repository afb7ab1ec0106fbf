-- What was told of a filling, and where a walk over it ends.
use Rattle.std.proofs.Common.{◌≡◌, ◌≢◌, ℕ, zero, suc, ◌<◌, List, [], ◌∷◌, ◌++◌, refl, arith}
use Rattle.std.specs.Prelude.{Result, Ok, Err}
use Rattle.gob_types.specs.Base.{id, wire_type}
use Rattle.gob_types.specs.declared.id.TypeId.{TypeId}
use Rattle.gob_types.specs.Table.{Table}
use Rattle.gob_explain.specs.Open.{Open, a_filling, a_value, count, description, name}
use Rattle.gob_explain.specs.declared.row.PartStep.{PartStep}
use Rattle.gob_explain.specs.declared.stop.RowStop.{RowStop}
use Rattle.gob_explain.specs.Walk.{Ends}
use Rattle.gob_explain.specs.Machine.Walking.{Tells, Told, Walks, WalksTo}
use Rattle.gob_explain.proofs.TakesLaws.{behind_nil, behind_type}
use Rattle.gob_explain.proofs.WalkLaws.{Joins, fails_then, told_end, told_then}

module _ {S E : Type 0} (tells : Tells S E) where
  -- the number of an interface was told: nil, or the count of a name
  pub nil_told : {T : Table} {bytes : List ℕ} {first : List Open} {t : TypeId} {base at end : ℕ} {outer : List Open}
      {old new : S × List PartStep} {answer : Result (Unit {0}) E} (p : List ℕ) (u : TypeId) (deep n : ℕ) (b : List ℕ)
      → n ≡ 0
      → Told tells T bytes first at old new answer (behind_nil t base p outer u deep n b) end
      → Told tells T bytes first at old new answer (a_value t base (p ++ b) ∷ outer) end
  nil_told p u deep zero b e h = h
  nil_told p u deep (suc n) b e h = absurd (omega arith)

  pub name_told : {T : Table} {bytes : List ℕ} {first : List Open} {t u : TypeId} {base deep at end : ℕ} {p : List ℕ}
      {outer : List Open} {old new : S × List PartStep} {answer : Result (Unit {0}) E} (n : ℕ) (b : List ℕ) → 0 < n
      → Told tells T bytes first at old new answer (behind_nil t base p outer u deep n b) end
      → Told tells T bytes first at old new answer (a_filling u deep (name n) ∷ (a_value t base p ∷ outer)) end
  name_told zero b l h = absurd (omega arith)
  name_told (suc n) b l h = h

  -- a type number was told: that of what is held, or of a definition
  pub held_told : {T : Table} {bytes : List ℕ} {first : List Open} {u : TypeId} {d at end : ℕ} {outer : List Open}
      {old new : S × List PartStep} {answer : Result (Unit {0}) E} (sign half : ℕ) → sign ≡ 0
      → Told tells T bytes first at old new answer (behind_type u d outer sign half) end
      → Told tells T bytes first at old new answer (a_filling u d (count (id half)) ∷ outer) end
  held_told zero half e h = h
  held_told (suc sign) half e h = absurd (omega arith)

  pub described_told : {T : Table} {bytes : List ℕ} {first : List Open} {u : TypeId} {d at end : ℕ} {outer : List Open}
      {old new : S × List PartStep} {answer : Result (Unit {0}) E} (sign half : ℕ) → sign ≢ 0
      → Told tells T bytes first at old new answer (behind_type u d outer sign half) end
      → Told tells T bytes first at old new answer (a_value wire_type d [] ∷ (a_filling u d description ∷ outer)) end
  described_told zero half n h = absurd (n refl)
  described_told (suc sign) half n h = h

  -- a filling in the place of nil
  pub filled_walks : (T : Table) (bytes : List ℕ) (most : ℕ) (t : TypeId) (base : ℕ) (p : List ℕ) (outer : List Open)
      (at : ℕ) (old : S × List PartStep) (new : S) (W : List ℕ → Type 0) (r : Result ℕ (RowStop E)) → W (0 ∷ [])
      → WalksTo tells T bytes most (a_value t base p ∷ outer) at old new (a_value t base (p ++ 0 ∷ []) ∷ outer) r
      → Walks tells T bytes most t base p outer at old new W r
  filled_walks T bytes most t base p outer at old new W (Ok end) w h = (0 ∷ [], w, h)
  filled_walks T bytes most t base p outer at old new W (Err e) w h = h

  pub walks_to_on : Joins tells → (last : List Open) → {T : Table} {bytes : List ℕ} {opens mid : List Open}
      {at place : ℕ} {old : S × List PartStep} {here : S} (most : ℕ) (new : S)
      → Told tells T bytes opens at old (here, old.1) (Ok tt) mid place → (r : Result ℕ (RowStop E))
      → WalksTo tells T bytes most mid place (here, old.1) new last r
      → WalksTo tells T bytes most opens at old new last r
  walks_to_on joins last most new h (Ok end) q = told_then tells joins h q
  walks_to_on joins last most new h (Err e) q = fails_then tells joins most new h e q

  -- a whole value ends, and the walk goes on
  pub walks_to_end : {T : Table} {t : TypeId} {base : ℕ} {outer last : List Open} {V : List ℕ → Type 0}
      (bytes : List ℕ) (at : ℕ) (old : S × List PartStep) (most : ℕ) (new : S) (r : Result ℕ (RowStop E))
      → Walks tells T bytes most t base [] outer at old new V r
      → ((b : List ℕ) → V b → Ends T (a_value t base b ∷ outer) last)
      → WalksTo tells T bytes most (a_value t base [] ∷ outer) at old new last r
  walks_to_end bytes at old most new (Ok end) q f = told_end tells q.2 (f q.0 q.1)
  walks_to_end bytes at old most new (Err e) q f = q
