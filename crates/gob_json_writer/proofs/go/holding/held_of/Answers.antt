use Rattle.std.proofs.Common.{◌≡◌, ◌∙◌, ℕ, ◌-◌, ◌<◌, ◌≤◌, ◌++◌, Some, ap, arith, refl, sym, subst}
use Rattle.serde_json.specs.Data.{Data}
use Rattle.gob_types.specs.Table.{Table}
use Rattle.gob_tape.specs.Meaning.{Means}
use Rattle.gob_json_writer.specs.Nils.{HeldShows, holds}
use Rattle.gob_json_writer.specs.NilsJson.{interface_json, value_json_with}
use Rattle.gob_json_writer.specs.declared.held.Held.{Held}
use Rattle.gob_go.specs.declared.filled.Filling.{Filling, out-Filling}
use Rattle.gob_json_writer.specs.Machine.Holding.{FillingShows, filling_shows, Holds, IsLevelOf}
use Rattle.gob_json_writer.specs.declared.go.holding.Holding.{Holding}
use Rattle.gob_json_writer.specs.declared.go.holding.FilledTape.{FilledTape}
use Rattle.gob_json_writer.proofs.go.holding.held_of.Goals as goal

shown_by : {T : Table} {kept : Filling} {level : FilledTape} {json : Data} (held : Held Holding)
    → held.name.items ≡ (out-Filling kept).name.items → held.id ≡ (out-Filling kept).id → held.tape ≡ level.tape
    → held.nils ≡ level.nils
    → IsLevelOf T (out-Filling kept).id (out-Filling kept).value level → FillingShows T kept json
    → HeldShows Holds T (Some held) json
shown_by {T = T} {kept = kept} {level = level} held e i t n l (filling_shows {w = w} {v = v} {M = M} f s) =
    let both = l.each w v M f s in
    let tape = subst (λ t. Means t v) (sym t) both.0 in
    let nils = subst (λ x. Holds T x M 0) (sym n) both.1 in
    subst (λ name. HeldShows Holds T (Some held) (interface_json name (out-Filling kept).id
    (value_json_with M T (out-Filling kept).id 0 v))) e
    (subst (λ id. HeldShows Holds T (Some held) (interface_json held.name.items id (value_json_with M T id 0 v))) i
    (holds held tape nils))

less : {before levels now : ℕ} → (1 ≤ before) × (levels ≡ before - 1) → now ≡ levels → now < before
less h e = let a = h.0 in let b = h.1 in omega arith

pub returns : goal.returns
returns c =
    let name : c.extend_from_slice.new.self.items ≡ (out-Filling c.args.filling.now).name.items =
    c.in_ok-extend_from_slice.ensures.items ∙ ap (λ l. l ++ c.deref.result.now) c.new-name.ensures.items
    ∙ c.deref.ensures.value in record {
      held = record { each = λ json h. shown_by _ name refl refl refl c.in_ok-level.ensures.level h };
      levels = less c.in-Some.ensures c.in_ok-level.ensures.levels;
    }
