-- No bytes are without an outcome. Whether an item stands somewhere isn't decided here: it is only refuted that none
-- of the two is so.
use Rattle.std.proofs.Common.{◌≡◌, ℕ, zero, suc, ◌+◌, ◌≤◌, List, [], ◌∷◌, ◌++◌, length, inl, inr, arith, refl, sym, ap}
use Rattle.std.proofs.Common.{◌∙◌, subst, length-append}
use Rattle.std.proofs.lemmas.Bool.{cases_lt}
use Rattle.std.proofs.lemmas.List.{append-nil}
use Rattle.gob_types.specs.Base.{base_table}
use Rattle.gob_types.specs.Table.{Table}
use Rattle.gob_stream.specs.Bounds.{Bounds}
use Rattle.gob_stream.specs.Item.{StreamItem}
use Rattle.gob_stream.specs.Stream.{AreItems, no_more, and_then, Stream}
use Rattle.gob_stream.specs.Outcome.{BeginsWithStream, LongestStream, Ending, EndsSo, at_the_end, next_refused}
use Rattle.gob_stream.specs.Outcome.{within_an_item, Outcome}
use Rattle.gob_stream.proofs.Stream.StreamLaws.{counted_some}

-- each item has a byte at least
items_few : {base : Table} {L : Bounds} {T U : Table} {offset : ℕ} {items : List StreamItem} {bytes : List ℕ}
    → AreItems base L T offset items bytes U → length items ≤ length bytes
items_few no_more = omega arith
items_few (and_then {b = b} {c = c} q e r) = let some = counted_some q in let few = items_few r in
    omega (arith, length-append b c)

begun_few : {base : Table} {L : Bounds} {items : List StreamItem} {bytes : List ℕ} → BeginsWithStream base L bytes items
    → length items ≤ length bytes
begun_few b = let few = items_few b.stream in omega (arith, ap length b.whole, length-append b.prefix b.rest)

-- so there is a longest stream that bytes begin with
longest_somehow : {base : Table} {L : Bounds} {bytes : List ℕ} (n : ℕ) (items : List StreamItem)
    → BeginsWithStream base L bytes items → length bytes ≤ length items + n
    → ¬ ((items : List StreamItem) → ¬ LongestStream base L bytes items)
longest_somehow zero items b l none = none items (record {
  begins = b;
  longest = λ others q. let few = begun_few q in
      omega arith;
})
longest_somehow (suc n) items b l none =
    none items (record {
      begins = b;
      longest = λ others q. elim (cases_lt (length items) (length others)) [
        | inl more ↦
            absurd (longest_somehow n others q (omega arith) none)
        | inr few ↦ few
      ];
    })

-- and an ending behind it
ends_somehow : {base : Table} {L : Bounds} {bytes prefix : List ℕ} {items : List StreamItem} {T : Table} (rest : List ℕ)
    → Stream base L items prefix T → bytes ≡ prefix ++ rest → ¬ ((e : Ending) → ¬ EndsSo base L bytes items e)
ends_somehow {base = base} {L = L} {items = items} {T = T} [] p e none =
    none _ (at_the_end (subst (λ b. Stream base L items b T) (sym (e ∙ append-nil _)) p))
ends_somehow (x ∷ rest) p e none =
    none _ (within_an_item (x ∷ rest) p e (λ f. cc) (λ R q. none _ (next_refused (x ∷ rest) p e q)))

pub somehow : (base : Table) (L : Bounds) (bytes : List ℕ) → ¬ ((items : List StreamItem) (e : Ending)
    → ¬ Outcome base L bytes items e)
somehow base L bytes none =
    longest_somehow (length bytes) [] (record {
      prefix = [];
      rest = bytes;
      table = base;
      stream = no_more;
      whole =
          refl;
    }) (omega arith)
    (λ items g. ends_somehow g.begins.rest g.begins.stream g.begins.whole
    (λ e s. none items e (record { gives = g; ends = s })))

pub outcome_somehow : (L : Bounds) (bytes : List ℕ) → ¬ ((items : List StreamItem) (e : Ending)
    → ¬ Outcome base_table L bytes items e)
outcome_somehow = somehow base_table
