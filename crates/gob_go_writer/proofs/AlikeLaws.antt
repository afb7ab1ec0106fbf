-- The descriptions in an item of a stream can be spelled.
use Rattle.std.proofs.Common.{ℕ, ◌≤◌, List, arith}
use Rattle.gob_types.specs.declared.id.TypeId.{TypeId}
use Rattle.gob_types.specs.Base.{base_table}
use Rattle.gob_types.specs.Table.{Table}
use Rattle.gob_types.proofs.PublicLaws.{Keeps}
use Rattle.gob_value.specs.Tree.{Tree}
use Rattle.gob_value.proofs.PublicLaws.{spells_on}
use Rattle.gob_stream.specs.Bounds.{Bounds, greatest_depth}
use Rattle.gob_filled.specs.Definition.{Defines, defines}
use Rattle.gob_filled.specs.Filled.{Definitions, Filled, Fillings, AreDefined, none_defined, one_defined, SpellsFilled}
use Rattle.gob_filled.specs.Filled.{with_fillings, Fills, as_it_stands, next_filled}
use Rattle.gob_filled.specs.Stream.{FilledItem, IsFilledItem, of_definition, of_value}
use Rattle.gob_filled.proofs.Refused.{definition_keeps, in_turn}
use Rattle.gob_filled.proofs.Strict.{filled_keeps}
use Rattle.gob_go_writer.specs.Machine.Alike.{AreDescribed, FillingsDescribed, IsDescribed, ItemDescribed}
use Rattle.gob_go_writer.specs.Machine.Alike.{ValueDescribed}
use Rattle.gob_go_writer.proofs.PartSteps.{defs_keep}
use Rattle.gob_go_writer.proofs.ValueSteps.{fills_keep}

definition_described : {L : Bounds} {T U V : Table} {id : TypeId} {v : Tree} {b : List ℕ}
    → Defines base_table L T id v b U → Keeps U V → L.depth ≤ greatest_depth → IsDescribed V v
definition_described {V = V} d keep low = by d (in_turn (definition_keeps d) keep) low
  where
    by : {L : Bounds} {T U : Table} {id : TypeId} {v : Tree} {b : List ℕ} → Defines base_table L T id v b U → Keeps T V
        → L.depth ≤ greatest_depth → IsDescribed V v
    by (defines {b = b} may de ds i s k) all low = record {
      bytes = b;
      spelled = spells_on all k;
      within = omega arith;
    }

definitions_described : {L : Bounds} {T U V : Table} {ds : Definitions} {b : List ℕ} → AreDefined base_table L T ds b U
    → Keeps U V → L.depth ≤ greatest_depth → AreDescribed V ds
definitions_described none_defined keep low = tt
definitions_described (one_defined o d ds) keep low =
    (definition_described d (in_turn (defs_keep ds) keep) low, definitions_described ds keep low)

mutual
  value_described : {L : Bounds} {T U V : Table} {t : TypeId} {limit : ℕ} {w : Filled} {b : List ℕ}
      → SpellsFilled base_table L T t limit w b U → Keeps U V → L.depth ≤ greatest_depth → ValueDescribed V w
  value_described (with_fillings sp de fl) keep low = fillings_described fl keep low

  fillings_described : {L : Bounds} {T U V W : Table} {t : TypeId} {limit : ℕ} {done left ls : List ℕ} {fs : Fillings}
      → Fills base_table L T t limit U done left fs ls V → Keeps V W → L.depth ≤ greatest_depth
      → FillingsDescribed W fs
  fillings_described (as_it_stands o) keep low = tt
  fillings_described (next_filled c oc ex l o u ds may i vs g fl) keep low =
      let behind = in_turn (fills_keep fl) keep in (
        definitions_described ds (in_turn (filled_keeps vs) behind) low,
        (value_described vs behind low, fillings_described fl keep low),
      )

pub item_described : {L : Bounds} {T U : Table} {offset : ℕ} {i : FilledItem} {b : List ℕ} → L.depth ≤ greatest_depth
    → IsFilledItem base_table L T offset i b U → ItemDescribed U i
item_described low (of_definition n l s d) = definition_described d (record { shape = λ t s e. e }) low
item_described low (of_value may sg k cs) = value_described k (record { shape = λ t s e. e }) low
