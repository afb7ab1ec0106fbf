-- The fillings of a value: the first of them, and the tables behind them.
use Rattle.std.proofs.Common.{◌≡◌, ℕ, List, ◌∷◌, refl}
use Rattle.gob_types.specs.declared.id.TypeId.{TypeId}
use Rattle.gob_types.specs.Base.{base_table}
use Rattle.gob_types.specs.Table.{Table}
use Rattle.gob_types.proofs.PublicLaws.{Keeps}
use Rattle.gob_stream.specs.Bounds.{Bounds}
use Rattle.gob_filled.specs.Filled.{Fillings, filling, Fills, as_it_stands, next_filled}
use Rattle.gob_filled.specs.Filled as spelled
use Rattle.gob_filled.proofs.Refused.{in_turn}
use Rattle.gob_filled.proofs.Strict.{filled_keeps}
use Rattle.gob_go.specs.Meaning.{IsFilled, AreFillings, filling_then, definitions_of}
use Rattle.gob_go.specs.declared.filled.Filling.{Filling, out-Filling}
use Rattle.gob_go_writer.specs.Item.{IsGrown}
use Rattle.gob_go_writer.proofs.PartSteps.{defs_keep}

-- ---- tables behind tables

pub fills_keep : {L : Bounds} {T U V : Table} {t : TypeId} {limit : ℕ} {done left ls : List ℕ} {fs : Fillings}
    → Fills base_table L T t limit U done left fs ls V → Keeps U V
fills_keep (as_it_stands o) = record { shape = λ t s e. e }
fills_keep (next_filled c oc ex l o u ds may i vs g fl) = in_turn (defs_keep ds)
    (in_turn (filled_keeps vs) (fills_keep fl))

pub grown_by : {T U : Table} (V : Table) → Keeps T U → IsGrown U V → IsGrown T V
grown_by V k g = λ t s e. g t s (k.shape t s e)

-- ---- the first filling

pub record FirstFilling (now : Table) (f : Filling) (fs : List Filling) (all : Fillings) : Type 0 where
  pub value : spelled.Filled
  pub others : Fillings
  pub is : all ≡ filling (out-Filling f).place (out-Filling f).name.items
      (definitions_of (out-Filling f).definitions.items) (out-Filling f).id value others
  pub means : IsFilled now (out-Filling f).id (out-Filling f).value value
  pub others_mean : AreFillings now fs others

pub first_filling : {now : Table} {f : Filling} {fs : List Filling} {all : Fillings} → AreFillings now (f ∷ fs) all
    → FirstFilling now f fs all
first_filling (filling_then {w = w} {fs = others} m ms) =
    record { value = w; others = others; is = refl; means = m; others_mean = ms }
