-- Items that have a byte at least are no more than the bytes; and no byte gives no item.
use Rattle.std.proofs.Common.{ℕ, ◌<◌, ◌≤◌, arith, List, [], length, ap, refl, length-append}
use Rattle.gob_types.specs.Base.{base_table}
use Rattle.gob_types.specs.Table.{Table}
use Rattle.gob_stream.specs.Bounds.{Bounds}
use Rattle.gob_stream.specs.Grammar.{GivesIn, Grammar}
use Rattle.gob_stream.specs.Items.{AreItemsOf, no_more, and_then}

pub items_few : {Told : Type 0} {is : Table → ℕ → Told → List ℕ → Table → Type 0} {T U : Table} {offset : ℕ}
    {items : List Told} {bytes : List ℕ}
    → ((T U : Table) (offset : ℕ) (i : Told) (b : List ℕ) → is T offset i b U → 0 < length b)
    → AreItemsOf is T offset items bytes U → length items ≤ length bytes
items_few some no_more = omega arith
items_few some (and_then {i = i} {b = b} {c = c} q e r) =
    let one = some _ _ _ i b q in
    let few = items_few some r in
    omega (arith, length-append b c)

pub gives_nothing : {Told : Type 0} (G : Grammar Told) (L : Bounds)
    → ((T U : Table) (offset : ℕ) (i : Told) (b : List ℕ) → G.is L T offset i b U → 0 < length b)
    → GivesIn G L base_table [] []
gives_nothing G L some = record {
  gives = record {
    begins = record { prefix = []; rest = []; table = base_table; stream = no_more; whole = refl };
    longest = λ others b.
        let few = items_few some b.stream in
        omega (arith, few, ap length b.whole, length-append b.prefix b.rest);
  };
  table = refl;
}
