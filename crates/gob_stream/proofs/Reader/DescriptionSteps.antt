-- Taking the bytes of a description.
use Rattle.std.proofs.Common.{◌≡◌, ℕ, List, [], length, Some, None, Ok, Err, refl, sym, ap, ◌∙◌, subst}
use Rattle.gob_types.specs.Base.{base_table, wire_type}
use Rattle.gob_types.specs.Table.{shape_of}
use Rattle.gob_types.specs.declared.kind.Shape.{Shape}
use Rattle.gob_types.proofs.PublicLaws.{Keeps, some_injective, shape_of-append, ready_on}
use Rattle.gob_types.specs.Ready.{IsReady}
use Rattle.gob_value.specs.Spelling.{Spells}
use Rattle.gob_value.specs.Top.{SpellsTop, at_once, tagged, IsStruct}
use Rattle.gob_value.specs.Fits.{Fits}
use Rattle.gob_value.specs.View.{view}
use Rattle.gob_value.specs.declared.value.Value.{Value}
use Rattle.gob_value.proofs.PublicLaws.{spells_back}
use Rattle.gob_read.specs.Calls.Builders.{tree_building}
use Rattle.gob_read.specs.Calls.Reader.{ReaderHasRead, ReaderRefusesBody, Stops, IsMade, ReaderGives}
use Rattle.gob_read.specs.Calls.UnderWay.{under_way}
use Rattle.gob_read.specs.declared.stop.Stop.{Stop}
use Rattle.gob_read.specs.declared.stop.Stop.TheVariants as stop
use Rattle.gob_read.specs.declared.reader.BodyReader.{BodyReader}
use Rattle.gob_read.specs.declared.reader.Progress.{Progress}
use Rattle.gob_read.specs.declared.reader.Progress.TheVariants as progress
use Rattle.gob_read.specs.declared.tree_builder.TreeBuilder.{TreeBuilder}
use Rattle.gob_stream.specs.declared.item.Item.TheVariants as item
use Rattle.gob_stream.specs.declared.stage.Stage.{Stage}
use Rattle.gob_stream.specs.Machine.Stages.{count_at, description_in}
use Rattle.gob_stream.specs.Machine.HasRead.{size}
use Rattle.gob_stream.specs.Machine.ReadParts.{HasWireType, IsView, IsDescribed, fault_behind, ReadsDescription}
use Rattle.gob_stream.specs.Machine.ReadParts.{description_goes_on, description_ends, description_refused}
use Rattle.gob_stream.specs.Machine.ReadParts.{describes_nothing, no_memory_for_description}
use Rattle.gob_stream.proofs.Stream.WireLaws.{wire_ready}
use Rattle.gob_stream.proofs.Reader.BodySteps.{not_ended}
use Rattle.gob_types.specs.declared.id.TypeId.{TypeId}
use Rattle.gob_types.specs.Table.{Table}
use Rattle.gob_types.specs.Defined.{Defined, types}
use Rattle.gob_value.specs.Tree.{Tree}
use Rattle.gob_value.specs.Description.{Misdescribes}
use Rattle.gob_stream.specs.declared.fault.Fault.{Fault}
use Rattle.gob_stream.specs.declared.stage.Extent.{Extent}
use Rattle.gob_types.specs.declared.denial.Denial.{Denial}
use Rattle.gob_types.specs.declared.denial.Denial.TheVariants as denial
use Rattle.gob_types.specs.Denial.{IsDenial}
use Rattle.gob_stream.specs.Machine.Denial.{fault_at}
use Rattle.gob_stream.specs.Machine.ReadParts.{Defines}

-- ---- descriptions are spelled as in the base table
pub wire_spelled : {T : Table} {v : Tree} {z : List ℕ} → HasWireType T → SpellsTop T wire_type v z
    → Spells T wire_type v z
wire_spelled w (at_once e i s) = s
wire_spelled {T = T} w (tagged e i s) =
    let there : shape_of T wire_type ≡ _ = ap (λ (T : Table). shape_of T wire_type) w.grown
    ∙ shape_of-append base_table w.more wire_type _ refl in
    absurd (i (subst (λ (s : Shape). IsStruct s.kind) (some_injective (sym there ∙ e)) tt))

wire_keeps : {T : Table} → HasWireType T → Keeps base_table T
wire_keeps {T = T} w = subst (λ (T : Table). Keeps base_table T) (sym w.grown)
    (record { shape = λ t s e. shape_of-append base_table w.more t s e })

pub wire_ready_in : {T : Table} → HasWireType T → IsReady T wire_type
wire_ready_in w = ready_on (wire_keeps w) wire_ready

pub wire_fits : {T : Table} {limit announced : ℕ} {z : List ℕ} {described : Value} → HasWireType T
    → IsMade T wire_type limit announced IsView described z → Fits base_table wire_type (view described)
wire_fits w made = record {
  bytes = _;
  spelled = spells_back (wire_keeps w) wire_ready
      (subst (λ v. Spells _ wire_type v _) (sym made.meant) (wire_spelled w made.spelled));
}

-- ---- what became of a piece of a description
pub made_of : {T : Table} {limit : ℕ} {rest : Extent} {p : Progress Value} {described : Value} {used : ℕ}
    (reader : BodyReader TreeBuilder Value) (z piece : List ℕ)
    → p ≡ progress.Done described used
    → ReaderGives T wire_type limit (size rest) tree_building.received IsView (under_way reader) z piece p
    → IsDescribed T limit rest z piece described used
made_of {T = T} {limit = limit} {rest = rest} reader z piece e h =
    let g = subst (λ p. ReaderGives T wire_type limit (size rest) tree_building.received IsView (under_way reader) z
    piece p) e h in
    record { within = g.within; made = g.made }

pub description_more : {d : Defined} {id : TypeId} {limit : ℕ} {rest : Extent} {X O : Type 0} {p : Progress Value}
    (reader : BodyReader TreeBuilder Value) (z piece : List ℕ)
    → p ≡ progress.More
    → ReaderGives (types d) wire_type limit (size rest) tree_building.received IsView (under_way reader) z piece p
    → ReadsDescription {X = X} {O = O} d id limit rest z piece d
    (Ok (record { used = length piece; stage = description_in id rest reader; item = None }))
description_more {d = d} {limit = limit} {rest = rest} reader z piece e h =
    let g = subst (λ p. ReaderGives (types d) wire_type limit (size rest) tree_building.received IsView
    (under_way reader) z piece p) e h in
    description_goes_on refl (record { after = g.after; viable = g.viable })

pub description_done : {d d' : Defined} {id : TypeId} {limit : ℕ} {rest : Extent} {X O : Type 0} {described : Value}
    {used : ℕ} {st : Stage X O} {z piece : List ℕ}
    → IsDescribed (types d) limit rest z piece described used
    → Defines id (view described) d d' → st ≡ count_at rest.end []
    → ReadsDescription {X = X} {O = O} d id limit rest z piece d'
    (Ok (record { used = used; stage = st; item = Some (item.Define id described) }))
description_done there given e = rw e (description_ends there given)

pub description_wrong : {d d' : Defined} {id : TypeId} {limit : ℕ} {rest : Extent} {X O : Type 0} {described : Value}
    {used : ℕ} {z piece : List ℕ} (why : Denial)
    → IsDescribed (types d) limit rest z piece described used
    → IsDenial (Misdescribes id (view described)) why × (d' ≡ d) → ReadsDescription {X = X} {O = O} d id limit
    rest z piece d' (Err (fault_at rest.begin rest.end why))
description_wrong (denial.Refused r) there wrong = describes_nothing wrong.1 there wrong.0
description_wrong denial.Memory there wrong = no_memory_for_description wrong.1

pub description_stopped : {d : Defined} {id : TypeId} {limit : ℕ} {rest : Extent} {X O : Type 0}
    (reader : BodyReader TreeBuilder Value) (z piece : List ℕ) (s : Stop) {f : Fault}
    → f ≡ fault_behind rest.begin s
    → Stops (under_way reader) (λ refusal. ReaderRefusesBody (types d) tree_building.received (under_way reader) piece
    refusal) s
    → ReaderHasRead (types d) wire_type limit (size rest) tree_building.received (under_way reader) z
    → ReadsDescription {X = X} {O = O} d id limit rest z piece d (Err f)
description_stopped {limit = limit} {rest = rest} reader z piece (stop.Refused place seen reason) e r s =
    rw e (description_refused refl (r.each wire_type limit (size rest) z s))
description_stopped reader z piece stop.Memory e r s = rw e (no_memory_for_description refl)
description_stopped {d = d} {limit = limit} {rest = rest} reader z piece stop.Failed e r s =
    absurd (not_ended (types d) wire_type limit (size rest) tree_building reader z s r)
