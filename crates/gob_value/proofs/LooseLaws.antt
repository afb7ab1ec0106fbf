-- Descriptions read loosely: under the defined id, or under one above it that an opaque kind says.
use Rattle.std.proofs.Common.{◌≡◌, ◌≢◌, ◌<◌, ◌≤◌, ◌⊎◌, inl, inr, ℕ, pos, Some, None, arith, refl, sym, ap, ◌∙◌, subst}
use Rattle.gob_types.specs.declared.id.TypeId.{TypeId}
use Rattle.gob_types.specs.declared.kind.Kind.{Kind}
use Rattle.gob_types.specs.declared.kind.Shape.{Shape}
use Rattle.gob_types.specs.declared.reason.Reason.TheVariants as reason
use Rattle.gob_value.specs.Tree.{Tree, Fields}
use Rattle.gob_value.specs.Description.{Said, SaidKind, said, said_opaque, GivesKind, gives_array, gives_slice}
use Rattle.gob_value.specs.Description.{gives_struct, gives_map, gives_opaque, Describes, Misdescribes, wrong_id}
use Rattle.gob_value.specs.Machine.Saying.{what_said}
use Rattle.gob_value.specs.Machine.SaidId.{IsOpaqueSaid, IsOpaqueField, SaysAbove, IsReadUnder, as_defined, as_said}
use Rattle.gob_value.specs.ShapeFaults.{IsShapeFault, IsDescription}
use Rattle.gob_value.specs.Loose.{IsOpaque, IsHigherId, DescribesLoosely, IsLooseDescription, IsLooseFault}
use Rattle.gob_value.specs.declared.described_shape.WireField.{WireField}
use Rattle.gob_value.specs.declared.described_shape.WireField.TheVariants as wire
use Rattle.gob_value.specs.declared.fault.ShapeFault.{ShapeFault}
use Rattle.gob_value.specs.declared.fault.ShapeFault.TheVariants as fault
use Rattle.gob_value.proofs.JudgedLaws.{pos_injective, one_said, one_shape, one_reason, not_both, some_shape}

-- ---- what is said of the kind

opaque_said : (w : WireField) (fs : Fields) → IsOpaqueSaid (what_said w fs).kind → IsOpaqueField w
opaque_said wire.ArrayT fs h = h
opaque_said wire.SliceT fs h = h
opaque_said wire.StructT fs h = h
opaque_said wire.MapT fs h = h
opaque_said wire.GobEncoderT fs h = tt
opaque_said wire.BinaryMarshalerT fs h = tt
opaque_said wire.TextMarshalerT fs h = tt

opaque_field : (w : WireField) (fs : Fields) → IsOpaqueField w → IsOpaqueSaid (what_said w fs).kind
opaque_field wire.ArrayT fs h = h
opaque_field wire.SliceT fs h = h
opaque_field wire.StructT fs h = h
opaque_field wire.MapT fs h = h
opaque_field wire.GobEncoderT fs h = tt
opaque_field wire.BinaryMarshalerT fs h = tt
opaque_field wire.TextMarshalerT fs h = tt

opaque_given : {k : SaidKind} {g : Kind} → GivesKind k g → IsOpaqueSaid k → IsOpaque g
opaque_given gives_opaque h = tt
opaque_given (gives_array r l) h = absurd h
opaque_given (gives_slice r) h = absurd h
opaque_given (gives_struct r) h = absurd h
opaque_given (gives_map r q) h = absurd h

opaque_from : {k : SaidKind} {g : Kind} → GivesKind k g → IsOpaque g → IsOpaqueSaid k
opaque_from gives_opaque h = tt
opaque_from (gives_array r l) h = absurd h
opaque_from (gives_slice r) h = absurd h
opaque_from (gives_struct r) h = absurd h
opaque_from (gives_map r q) h = absurd h

record IsOpaqueKind (k : SaidKind) : Type 0 where
  pub kind : Kind
  pub gives : GivesKind k kind

some_opaque : (k : SaidKind) → IsOpaqueSaid k → IsOpaqueKind k
some_opaque (said_opaque m) h = record { kind = _; gives = gives_opaque {m = m} }
some_opaque _ h = absurd h

-- ---- the id under which it is read

none_above : {v : Tree} (id other : TypeId) → said v ≡ None → ¬ SaysAbove id other v
none_above id other e s = let f = s.says in cc

pub read_none : {v : Tree} (id : TypeId) → said v ≡ None → IsReadUnder id v id
read_none id e = as_defined (λ other s. none_above id other e s)

pub read_kind : {v : Tree} (w : WireField) (fs : Fields) (id : TypeId) → said v ≡ Some (what_said w fs)
    → ¬ IsOpaqueField w → IsReadUnder id v id
read_kind w fs id e n = as_defined (λ other s. let one = one_said s.says e in
    n (opaque_said w fs (subst (λ (x : Said). IsOpaqueSaid x.kind) one s.opaque)))

pub read_not_above : {v : Tree} (w : WireField) (fs : Fields) (id : TypeId) → said v ≡ Some (what_said w fs)
    → ((n : ℕ) → (what_said w fs).id ≡ pos n → id.0 < n → n ≤ 2147483647 → ⊥) → IsReadUnder id v id
read_not_above w fs id e n = as_defined (λ other s.
    n other.0 (ap (λ (x : Said). x.id) (one_said e s.says) ∙ s.other_id) s.above.0 s.above.1)

pub read_above : {v : Tree} (w : WireField) (fs : Fields) (id other : TypeId) → said v ≡ Some (what_said w fs)
    → IsOpaqueField w → (what_said w fs).id ≡ pos other.0 → IsHigherId id other → IsReadUnder id v other
read_above w fs id other e o i l = as_said
    (record { what = what_said w fs; says = e; other_id = i; above = l; opaque = opaque_field w fs o })

-- ---- the shape

pub strict_is_loose : {id : TypeId} {v : Tree} {s : Shape} → Describes id v s → DescribesLoosely id v s
strict_is_loose {id = id} d = record { said = id; describes = d; allowed = inl refl }

pub loose_shape : {v : Tree} {s : Shape} {id under : TypeId} → IsReadUnder id v under → Describes under v s
    → DescribesLoosely id v s
loose_shape (as_defined n) d = strict_is_loose d
loose_shape {v = v} {s = s} {id = id} (as_said {other = other} a) d =
    let o = subst (λ (x : Said). IsOpaqueSaid x.kind) (one_said a.says d.says) a.opaque in
    record { said = other; describes = d; allowed = inr (a.above, opaque_given d.kind o) }

pub loosely : {v : Tree} {id under : TypeId} → IsReadUnder id v under → IsDescription under v → IsLooseDescription id v
loosely r d = record { shape = d.shape; describes = loose_shape r d.describes }

-- a loose description says the id, or another one that is above
by_said : {v : Tree} {s : Shape} {id : TypeId} {A : Type 0} → DescribesLoosely id v s → (Describes id v s → A)
    → ((other : TypeId) → Describes other v s → IsHigherId id other → IsOpaque s.kind → A) → A
by_said {v = v} {s = s} {id = id} {A = A} l f g = by l.said l.describes l.allowed
  where
    by : (said : TypeId) → Describes said v s → (said ≡ id) ⊎ (IsHigherId id said × IsOpaque s.kind) → A
    by said d (inl e) = f (subst (λ i. Describes i v s) e d)
    by said d (inr a) = g said d a.0 a.1

pub loose_is_strict : {id : TypeId} {v : Tree} {s : Shape} → DescribesLoosely id v s
    → ¬ Misdescribes id v reason.WrongId → Describes id v s
loose_is_strict {id = id} l n = by_said l (λ d. d) (λ other d above o.
    let m = above.0 in
    absurd (n (wrong_id d.says (λ e. let same = pos_injective (sym d.same_id ∙ e) in absurd (omega arith)))))

none_said_above : {v : Tree} {id : TypeId} → ((other : TypeId) → ¬ SaysAbove id other v) → IsLooseDescription id v
    → IsDescription id v
none_said_above n l = by_said l.describes (λ d. record { shape = l.shape; describes = d }) (λ other d above o.
    let k = opaque_from d.kind o in
    absurd (n other (record { what = d.what; says = d.says; other_id = d.same_id; above = above; opaque = k })))

pub one_loose_shape : {id other : TypeId} {v : Tree} {r s : Shape} → DescribesLoosely id v r
    → DescribesLoosely other v s → r ≡ s
one_loose_shape {v = v} {s = s} d e =
    let same : d.said ≡ e.said = one_id (pos_injective
    (sym d.describes.same_id ∙ ap (λ (x : Said). x.id) (one_said d.describes.says e.describes.says)
    ∙ e.describes.same_id)) in
    one_shape d.describes (subst (λ i. Describes i v s) (sym same) e.describes)
  where
    one_id : {i j : TypeId} → i.0 ≡ j.0 → i ≡ j
    one_id e = let make : ℕ → TypeId = λ n. record { 0 = n } in ap make e

-- ---- the fault

-- where the value describes a shape, no fault but Memory is left
only_memory : {id : TypeId} {v : Tree} (f : ShapeFault) → IsShapeFault id v f → IsDescription id v → f ≡ fault.Memory
only_memory fault.KindCount m d = absurd (not_both d.describes m)
only_memory fault.WrongId m d = absurd (not_both d.describes m)
only_memory fault.BadReference m d = absurd (not_both d.describes m)
only_memory fault.BadLength m d = absurd (not_both d.describes m)
only_memory fault.Memory m d = refl

not_wrong : {id : TypeId} {v : Tree} (f : ShapeFault) → IsShapeFault id v f → f ≢ fault.WrongId
    → ¬ Misdescribes id v reason.WrongId
not_wrong fault.KindCount m n w = let e = one_reason m w in cc
not_wrong fault.WrongId m n w = n refl
not_wrong fault.BadReference m n w = let e = one_reason m w in cc
not_wrong fault.BadLength m n w = let e = one_reason m w in cc
not_wrong fault.Memory m n w = not_both m.describes w

-- a fault is one of the loose reading, where both readings find a description or neither does
stays : {id : TypeId} {v : Tree} (f : ShapeFault) → IsShapeFault id v f → (IsDescription id v → IsLooseDescription id v)
    → (IsLooseDescription id v → IsDescription id v) → IsLooseFault id v f
stays fault.KindCount m to from = (m, λ l. not_both (from l).describes m)
stays fault.WrongId m to from = (m, λ l. not_both (from l).describes m)
stays fault.BadReference m to from = (m, λ l. not_both (from l).describes m)
stays fault.BadLength m to from = (m, λ l. not_both (from l).describes m)
stays fault.Memory m to from = to m

pub fault_stays : (id : TypeId) (v : Tree) (f : ShapeFault) → IsShapeFault id v f → f ≢ fault.WrongId
    → IsLooseFault id v f
fault_stays id v f m n = stays f m (λ d. record { shape = d.shape; describes = strict_is_loose d.describes })
    (λ l. record { shape = l.shape; describes = loose_is_strict l.describes (not_wrong f m n) })

pub loose_fault : {v : Tree} {id under : TypeId} (f : ShapeFault) → IsReadUnder id v under → IsShapeFault under v f
    → IsLooseFault id v f
loose_fault f (as_defined n) m = stays f m (loosely (as_defined n)) (none_said_above n)
loose_fault {v = v} {id = id} f (as_said {other = other} a) m =
    let k = some_opaque a.what.kind a.opaque in
    let d = some_shape other v a.what k.kind a.says a.other_id k.gives in
    subst (IsLooseFault id v) (sym (only_memory f m d)) (loosely (as_said a) d)
