-- Received values and definitions as items.
use Rattle.std.proofs.Common.{◌≡◌, ◌∙◌, ℕ, ℤ, pos, negsuc, List, [], ◌∷◌, ◌++◌, Option, Some, None, Result, ap, sym}
use Rattle.std.proofs.Common.{subst}
use Rattle.std.proofs.Common.{refl}
use Rattle.gob_num.specs.Spelled.{Appends as Grows}
use Rattle.gob_types.specs.declared.id.TypeId.{TypeId}
use Rattle.gob_types.specs.Base.{base_table, wire_type}
use Rattle.gob_types.specs.Table.{Table}
use Rattle.gob_types.proofs.PublicLaws.{Keeps}
use Rattle.gob_value.specs.Spelling.{Spells, of_type}
use Rattle.gob_value.specs.Top.{HasStructs, SpellsTop, at_once, tagged}
use Rattle.gob_value.specs.Tree.{Tree}
use Rattle.gob_value.proofs.PublicLaws.{spells_back}
use Rattle.gob_stream.specs.Item.{StreamItem, defines}
use Rattle.gob_stream.specs.Stream.{and_then, no_more}
use Rattle.gob_stream.specs.declared.fault.WriteFault.{WriteFault}
use Rattle.gob_stream.proofs.PublicLaws.{wire_ready}
use Rattle.gob_tool.specs.Machine.Received.{SendsReceived}
use Rattle.gob_tool.specs.Machine.Rewritten.{IsLastOfStream, IsNumbered, SendsNumbered, SpellsItem, spells_definition}
use Rattle.gob_tool.specs.Machine.Rewritten.{spells_value}
use Rattle.gob_tool.specs.declared.received_form.ReceivedForm.TheVariants as form
use Rattle.gob_tool.proofs.LinesStay.{keeps_on, stream_keeps}
use Rattle.gob_tool.proofs.TidiedLaws.{IsDescribed, numbered_as}

-- ---- a value at the top
pub spelled_struct : {T : Table} {t : TypeId} {v : Tree} {content out : List ℕ} → HasStructs T t → content ≡ []
    → Grows (Spells T t v) content out → SpellsTop T t v out
spelled_struct {T = T} {t = t} {v = v} h empty g =
    subst (SpellsTop T t v) (sym (g.appended ∙ ap (λ (l : List ℕ). l ++ g.bytes) empty))
    (at_once h.found h.struct g.spelled)

pub spelled_tagged : {T : Table} {t : TypeId} {v : Tree} {content out : List ℕ} → ¬ HasStructs T t
    → content ≡ 0 ∷ [] → Grows (Spells T t v) content out → SpellsTop T t v out
spelled_tagged {T = T} {t = t} {v = v} none tag g =
    subst (SpellsTop T t v) (sym (g.appended ∙ ap (λ (l : List ℕ). l ++ g.bytes) tag)) (by g.spelled)
  where
    by : {b : List ℕ} → Spells T t v b → SpellsTop T t v (0 ∷ b)
    by (of_type {s = s} e p) = tagged e (λ i. none (record { shape = s; found = e; struct = i })) (of_type e p)

-- the item of the value that the body spells is sent
pub sends_numbered : (U : Table) (u : TypeId) (limit failures failures' : ℕ) (body : List ℕ) (old new : Option (List ℕ))
    (number : ℤ) → number ≡ pos u.0 → (r : Option (Result (Unit {0}) WriteFault))
    → SendsNumbered number body failures failures' old new r
    → SendsReceived form.Item U u limit body failures failures' old new r
sends_numbered U u limit failures failures' body old new number same None h = h
sends_numbered U u limit failures failures' body old new number same (Some sent) h =
    λ w. (h.0, spells_value w.spelled (numbered_as same refl h.1), h.2, h.3)

-- ---- a definition
last_keeps : {T : Table} {i : StreamItem} → IsLastOfStream T i → Keeps base_table T
last_keeps s = keeps_on (stream_keeps s.earlier) (stream_keeps (and_then s.counted refl no_more))

pub described_spelled : {T : Table} {id : TypeId} {v : Tree} {b c text : List ℕ} (number : ℤ) (d : IsDescribed T id v)
    → IsLastOfStream T (defines id v) → number ≡ negsuc d.below → Spells T wire_type v b → c ≡ b
    → IsNumbered number c text → SpellsItem base_table (defines id v) text
described_spelled number d last same p is h =
    spells_definition d.id_is (spells_back (last_keeps last) wire_ready p) (numbered_as same is h)
