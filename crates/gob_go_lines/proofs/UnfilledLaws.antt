-- A value whose interfaces are nil is said by the JSON that it has in the lines of `show`.
use Rattle.std.proofs.Common.{ℕ, ◌≤◌, Bool, List, arith, refl, subst}
use Rattle.gob_types.specs.declared.id.TypeId.{TypeId}
use Rattle.gob_types.specs.Table.{Table}
use Rattle.gob_value.specs.Bytes.{HoldsBytes}
use Rattle.gob_value.specs.Top.{SpellsTop}
use Rattle.gob_value.specs.Tree.{Tree, depth}
use Rattle.gob_value.proofs.BytesLaws.{top_bytes}
use Rattle.gob_read.specs.Weight.{part_count}
use Rattle.gob_json.specs.Json.{value_json}
use Rattle.gob_json_writer.proofs.NilsLaws.{nulls, value_nulls}
use Rattle.gob_go_lines.specs.Says.{SaysTop}
use Rattle.gob_go_lines.proofs.FilledLaws.{holes_say}
use Rattle.gob_go_lines.proofs.HoleLaws.{no_hole}

pub top_says : {T : Table} {H : Bool} {t : TypeId} {limit : ℕ} {v : Tree} {b : List ℕ} → SpellsTop T t v b
    → HoldsBytes v → depth v ≤ limit → SaysTop T H t limit (value_json T t v) b
top_says {T = T} {H = H} {t = t} {limit = limit} {v = v} {b = b} spelled o within =
    subst (λ j. SaysTop T H t limit j b) (value_nulls T t 0 v)
    (holes_say {next = part_count v} {N = nulls} spelled within
    (no_hole ((top_bytes spelled).1 o) (omega arith) (λ m order. refl)))
