-- Taking the bytes of a description.
use Rattle.std.proofs.Common.{◌≡◌, ℕ, List, Result, Ok, Err, refl, subst}
use Rattle.gob_types.specs.Base.{wire_type}
use Rattle.gob_types.specs.Defined.{Defined, types}
use Rattle.gob_types.specs.declared.denial.Denial.{Denial}
use Rattle.gob_types.specs.declared.denial.Denial.TheVariants as denial
use Rattle.gob_types.specs.declared.id.TypeId.{TypeId}
use Rattle.gob_types.specs.declared.kind.Shape.{Shape}
use Rattle.gob_types.specs.Denial.{IsDenial}
use Rattle.gob_value.specs.Tree.{Tree}
use Rattle.gob_value.specs.View.{view}
use Rattle.gob_value.specs.Loose.{DescribesLoosely, IsLooseFault}
use Rattle.gob_value.specs.ShapeFaults.{description_denial}
use Rattle.gob_value.specs.declared.fault.ShapeFault.{ShapeFault}
use Rattle.gob_value.specs.declared.fault.ShapeFault.TheVariants as shape
use Rattle.gob_value.specs.declared.value.Value.{Value}
use Rattle.gob_read.specs.Calls.Builders.{tree_building}
use Rattle.gob_read.specs.Calls.Reader.{ReaderHasRead, ReaderRefusesBody, Stops, ReaderGives}
use Rattle.gob_read.specs.Calls.UnderWay.{under_way}
use Rattle.gob_read.specs.declared.reader.BodyReader.{BodyReader}
use Rattle.gob_read.specs.declared.reader.Progress.{Progress}
use Rattle.gob_read.specs.declared.reader.Progress.TheVariants as progress
use Rattle.gob_read.specs.declared.stop.Stop.{Stop}
use Rattle.gob_read.specs.declared.stop.Stop.TheVariants as stop
use Rattle.gob_read.specs.declared.tree_builder.TreeBuilder.{TreeBuilder}
use Rattle.gob_stream.specs.declared.fault.Fault.{Fault}
use Rattle.gob_stream.specs.declared.stage.Extent.{Extent}
use Rattle.gob_stream.specs.Machine.Denial.{AddAnswers, fault_at}
use Rattle.gob_stream.specs.Machine.HasRead.{size}
use Rattle.gob_stream.specs.Machine.ReadParts.{IsView, IsDescribed, fault_behind}
use Rattle.gob_stream.proofs.DenialLaws.{description_denied}
use Rattle.gob_stream.proofs.Reader.BodySteps.{not_ended}
use Rattle.gob_go.specs.declared.description.Described.TheVariants as described
use Rattle.gob_go.specs.Machine.Parts.{MisdescribesLoosely, DefineAnswers, ReadsDescription}
use Rattle.gob_go.specs.Machine.Parts.{description_goes_on, description_refused, describes_nothing}
use Rattle.gob_go.specs.Machine.Parts.{no_memory_for_description}

-- ---- defining a type

pub loosely_denied : (t : TypeId) (v : Tree) (f : ShapeFault) → IsLooseFault t v f
    → IsDenial (MisdescribesLoosely t v) (description_denial f)
loosely_denied t v shape.KindCount f =
    record { strictly = description_denied t v shape.KindCount f.0; none = f.1 }
loosely_denied t v shape.WrongId f = record { strictly = description_denied t v shape.WrongId f.0; none = f.1 }
loosely_denied t v shape.BadReference f =
    record { strictly = description_denied t v shape.BadReference f.0; none = f.1 }
loosely_denied t v shape.BadLength f = record { strictly = description_denied t v shape.BadLength f.0; none = f.1 }
loosely_denied t v shape.Memory f = tt

pub defines_as : (id : TypeId) (v : Tree) (s : Shape) (d d' : Defined) (r : Result (Unit {0}) Denial)
    → DescribesLoosely id v s → AddAnswers id s d d' r → DefineAnswers id v d d' r
defines_as id v s d d' (Ok done) describes a = record { shape = s; describes = describes; behind = a.0; most = a.1 }
defines_as id v s d d' (Err why) describes a = (rw a.0 tt, a.1)

-- ---- what became of a piece

pub description_more : {d : Defined} {id : TypeId} {limit : ℕ} {rest : Extent} {p : Progress Value}
    (reader : BodyReader TreeBuilder Value) (z piece : List ℕ) → p ≡ progress.More
    → ReaderGives (types d) wire_type limit (size rest) tree_building.received IsView (under_way reader) z piece p
    → ReadsDescription d id limit rest z piece d
    (Ok (described.More (record { id = id; rest = rest; reader = reader })))
description_more {d = d} {limit = limit} {rest = rest} reader z piece e h =
    let g = subst (λ p. ReaderGives (types d) wire_type limit (size rest) tree_building.received IsView
    (under_way reader) z piece p) e h in
    description_goes_on refl (record { after = g.after; viable = g.viable })

pub description_wrong : {d d' : Defined} {id : TypeId} {limit : ℕ} {rest : Extent} {kept : Value} {used : ℕ}
    {z piece : List ℕ} (why : Denial) → IsDescribed (types d) limit rest z piece kept used
    → IsDenial (MisdescribesLoosely id (view kept)) why × (d' ≡ d)
    → ReadsDescription d id limit rest z piece d' (Err (fault_at rest.begin rest.end why))
description_wrong (denial.Refused r) there wrong = describes_nothing wrong.1 there wrong.0
description_wrong denial.Memory there wrong = no_memory_for_description wrong.1

pub description_stopped : {d : Defined} {id : TypeId} {limit : ℕ} {rest : Extent}
    (reader : BodyReader TreeBuilder Value) (z piece : List ℕ) (s : Stop) {f : Fault} → f ≡ fault_behind rest.begin s
    → Stops (under_way reader) (λ refusal. ReaderRefusesBody (types d) tree_building.received (under_way reader) piece
    refusal) s
    → ReaderHasRead (types d) wire_type limit (size rest) tree_building.received (under_way reader) z
    → ReadsDescription d id limit rest z piece d (Err f)
description_stopped {limit = limit} {rest = rest} reader z piece (stop.Refused place seen reason) e r s =
    rw e (description_refused refl (r.each wire_type limit (size rest) z s))
description_stopped reader z piece stop.Memory e r s = rw e (no_memory_for_description refl)
description_stopped {d = d} {limit = limit} {rest = rest} reader z piece stop.Failed e r s =
    absurd (not_ended (types d) wire_type limit (size rest) tree_building reader z s r)
