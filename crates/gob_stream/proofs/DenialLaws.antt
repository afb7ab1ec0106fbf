-- What denies is what the grammar refuses.
use Rattle.std.proofs.Common.{◌≡◌, ◌≢◌, ◌≤◌, Option, Some, None, Result, Ok, Err, length, refl, sym, ap, ◌∙◌, arith}
use Rattle.std.proofs.Common.{length-append}
use Rattle.std.proofs.lemmas.Option.{none-some}
use Rattle.gob_types.specs.declared.id.TypeId.{TypeId}
use Rattle.gob_types.specs.declared.kind.Shape.{Shape}
use Rattle.gob_types.specs.declared.reason.Reason.{Reason}
use Rattle.gob_types.specs.declared.reason.Reason.TheVariants as reason
use Rattle.gob_types.specs.declared.readiness.NotReady.{NotReady}
use Rattle.gob_types.specs.declared.readiness.NotReady.TheVariants as unready
use Rattle.gob_types.specs.declared.table.DefineFault.TheVariants as defining
use Rattle.gob_types.specs.Table.{Table, shape_of}
use Rattle.gob_types.specs.Base.{base_table, gob_encoder_type}
use Rattle.gob_types.specs.Defined.{Defined, types, IsTable, Admits}
use Rattle.gob_types.specs.Refused.{RefusesToDefine}
use Rattle.gob_types.specs.Readiness.{IsNotReady}
use Rattle.gob_value.specs.Tree.{Tree}
use Rattle.gob_value.specs.declared.fault.ShapeFault.{ShapeFault}
use Rattle.gob_value.specs.declared.fault.ShapeFault.TheVariants as shape
use Rattle.gob_value.specs.declared.fault.SpellFault.{SpellFault}
use Rattle.gob_value.specs.declared.fault.SpellFault.TheVariants as spelling
use Rattle.gob_value.specs.Faults.{IsSpellFault}
use Rattle.gob_value.specs.ShapeFaults.{IsShapeFault}
use Rattle.gob_value.specs.Description.{Describes, Misdescribes}
use Rattle.gob_types.specs.declared.denial.Denial.{Denial}
use Rattle.gob_types.specs.declared.denial.Denial.TheVariants as denial
use Rattle.gob_stream.specs.Bounds.{Bounds}
use Rattle.gob_stream.specs.Body.{MayDefine}
use Rattle.gob_stream.specs.Machine.ReadParts.{DefineAnswers}
use Rattle.gob_types.specs.Denial.{IsDenial, type_denial}
use Rattle.gob_value.specs.Faults.{value_denial}
use Rattle.gob_value.specs.ShapeFaults.{description_denial}
use Rattle.gob_stream.specs.Machine.Denial.{AddAnswers}
use Rattle.gob_stream.specs.WriterRefusal.{RefusesId, defined_twice, too_many, RefusesType, undefined, bottomless}
use Rattle.gob_stream.specs.WriterRefusal.{RefusesValue, too_deep, does_not_fit}

-- what refuses one refuses the other
pub denial_weaker : {P Q : Reason → Type 0} (d : Denial) → ((r : Reason) → P r → Q r) → IsDenial P d → IsDenial Q d
denial_weaker (denial.Refused r) weaker p = weaker r p
denial_weaker denial.Memory weaker p = p

-- ---- which ids can be defined
pub may_define : (L : Bounds) (d : Defined) {t : TypeId} → d.most ≡ L.types → Admits d t
    → MayDefine base_table L (types d) t
may_define L d most admits = record { own = admits.own; new = admits.new; room = let room = admits.room in omega arith }

pub twice_refused : (L : Bounds) (d : Defined) (t : TypeId) → RefusesToDefine d t defining.DefinedTwice
    → RefusesId base_table L (types d) t (reason.DefinedTwice t)
twice_refused L d t refused = defined_twice refused.0 (λ none. none-some _ (sym none ∙ refused.1.1))

-- a table is no shorter than the base table
base_within : {T : Table} → IsTable T → length base_table ≤ length T
base_within table = omega (arith, ap length table.behind_base, length-append base_table table.definitions)

pub more_refused : (L : Bounds) (d : Defined) (t : TypeId) → IsTable (types d) → d.most ≡ L.types
    → RefusesToDefine d t defining.TooManyTypes → RefusesId base_table L (types d) t reason.TooManyTypes
more_refused L d t table most refused = too_many refused.0 refused.1 (λ room. let full = refused.2 in let some =
    base_within table in omega arith)

-- ---- which types can be put
not_there : (o : Option Shape) → ¬ ((s : Shape) × (o ≡ Some s)) → o ≡ None
not_there None never = refl
not_there (Some s) never = absurd (never (s, refl))

pub type_denied : (T : Table) (t : TypeId) (f : NotReady) → t ≢ gob_encoder_type → IsNotReady T t f
    → IsDenial (RefusesType T t) (type_denial f)
type_denied T t (unready.UndefinedType u) public unready =
    undefined public unready.has.0 (λ defined. none-some _ (sym unready.has.1 ∙ defined.1))
    (λ w reached bad. unready.least w (reached, not_there (shape_of T w) bad))
type_denied T t (unready.Bottomless u) public unready =
    bottomless public unready.0 unready.1.has.0 unready.1.has.1 (λ w reached bad. unready.1.least w (reached, bad))
type_denied T t unready.Memory public unready = tt

-- ---- which descriptions give a shape, and which values are spelled
pub description_denied : (t : TypeId) (v : Tree) (f : ShapeFault) → IsShapeFault t v f
    → IsDenial (Misdescribes t v) (description_denial f)
description_denied t v shape.KindCount fault = fault
description_denied t v shape.WrongId fault = fault
description_denied t v shape.BadReference fault = fault
description_denied t v shape.BadLength fault = fault
description_denied t v shape.Memory fault = tt

pub value_denied : (L : Bounds) (T : Table) (t : TypeId) (v : Tree) (f : SpellFault) → IsSpellFault T t L.depth v f
    → IsDenial (RefusesValue L T t v) (value_denial f)
value_denied L T t v spelling.TooDeep fault = too_deep fault
value_denied L T t v spelling.DoesNotFit fault = does_not_fit fault.0 fault.1
value_denied L T t v spelling.Memory fault = tt

-- ---- a type that is described is added to the table
pub defines_as : (id : TypeId) (v : Tree) (s : Shape) (d d' : Defined) (r : Result (Unit {0}) Denial) → Describes id v s
    → AddAnswers id s d d' r → DefineAnswers id v d d' r
defines_as id v s d d' (Ok done) describes a = record { shape = s; describes = describes; behind = a.0; most = a.1 }
defines_as id v s d d' (Err why) describes a = (rw a.0 tt, a.1)
