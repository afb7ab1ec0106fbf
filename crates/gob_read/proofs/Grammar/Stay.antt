-- What bytes expect at a ready type, and why they are refused, stays when the table grows.
use Rattle.std.proofs.Common.{ℕ, inl, inr, List, refl}
use Rattle.gob_types.specs.declared.id.TypeId.{TypeId}
use Rattle.gob_types.specs.declared.kind.Field.{Field}
use Rattle.gob_types.specs.declared.kind.Kind.{Kind}
use Rattle.gob_types.specs.declared.kind.Kind.TheVariants as kind
use Rattle.gob_types.specs.Table.{Table}
use Rattle.gob_types.specs.Ready.{Names, IsReady}
use Rattle.gob_types.proofs.PublicLaws.{Keeps, shape_back, names_ready}
use Rattle.gob_value.proofs.PublicLaws.{AllReady, spells_on, each_on, pairs_on, top_on, spells_back, each_back}
use Rattle.gob_value.proofs.PublicLaws.{pairs_back, top_back}
use Rattle.gob_read.specs.Expected.{Expected}
use Rattle.gob_read.specs.Expects.{FieldsRun, no_fields, field_then, Enters, slice_element, array_element, next_key}
use Rattle.gob_read.specs.Expects.{next_value, next_field as enters_field, ExpectsAt, first, second, byte_content}
use Rattle.gob_read.specs.Expects.{text_content, opaque_content, next_delta, Expects, in_itself, in_part, ExpectsTop}
use Rattle.gob_read.specs.Expects.{in_struct, at_tag, behind_tag}
use Rattle.gob_read.specs.Refusal.{Refusal, Refused, extra, too_deep, short_of, bad_head_at, not_minimal_at}
use Rattle.gob_read.specs.Refusal.{not_allowed}
use Rattle.gob_read.specs.First.{IsFirst}
use Rattle.gob_read.specs.Viable.{IsShallow, IsViable}

pub run_on : {T U : Table} {types : List Field} {start next : ℕ} {b : List ℕ} → Keeps T U
    → FieldsRun T types start next b → FieldsRun U types start next b
run_on s no_fields = no_fields
run_on s (field_then l g n p q) = field_then l g n (spells_on s p) (run_on s q)

pub run_back : {T U : Table} {types : List Field} {start next : ℕ} {b : List ℕ} → Keeps T U
    → AllReady T (kind.Struct types) → FieldsRun U types start next b → FieldsRun T types start next b
run_back s r no_fields = no_fields
run_back s r (field_then {f = f} {e = e} l g n p q) =
    field_then l g n (spells_back s (r.each e.id (record { number = f; field = e; there = g; type = refl })) p)
    (run_back s r q)

pub enters_on : {T U : Table} {k : Kind} {q : List ℕ} {u : TypeId} → Keeps T U → Enters T k q u → Enters U k q u
enters_on s (slice_element n ps l) = slice_element n (each_on s ps) l
enters_on s (array_element n ps l) = array_element n (each_on s ps) l
enters_on s (next_key n ps l) = next_key n (pairs_on s ps) l
enters_on s (next_value n ps l p) = next_value n (pairs_on s ps) l (spells_on s p)
enters_on s (enters_field q l g n) = enters_field (run_on s q) l g n

pub enters_back : {T U : Table} {k : Kind} {q : List ℕ} {u : TypeId} → Keeps T U → AllReady T k → Enters U k q u
    → Enters T k q u
enters_back s r (slice_element {e = e} n ps l) = slice_element n (each_back s (r.each e refl) ps) l
enters_back s r (array_element {e = e} n ps l) = array_element n (each_back s (r.each e refl) ps) l
enters_back s r (next_key {k = k} {e = e} n ps l) = next_key n (pairs_back s (r.each k (inl refl)) (r.each e (inr refl))
    ps) l
enters_back s r (next_value {k = k} {e = e} n ps l p) =
    next_value n (pairs_back s (r.each k (inl refl)) (r.each e (inr refl)) ps) l (spells_back s (r.each k (inl refl)) p)
enters_back s r (enters_field q l g n) = enters_field (run_back s r q) l g n

-- a part that is entered is of a type that the kind names
pub enters_named : {T : Table} {k : Kind} {q : List ℕ} {u : TypeId} → Enters T k q u → Names k u
enters_named (slice_element n ps l) = refl
enters_named (array_element n ps l) = refl
enters_named (next_key n ps l) = inl refl
enters_named (next_value n ps l p) = inr refl
enters_named (enters_field {f = f} {e = e} q l g n) = record { number = f; field = e; there = g; type = refl }

pub at_on : {T U : Table} {k : Kind} {p : List ℕ} {w : Expected} → Keeps T U → ExpectsAt T k p w → ExpectsAt U k p w
at_on s first = first
at_on s (second n) = second n
at_on s (byte_content l n) = byte_content l n
at_on s (text_content l n) = text_content l n
at_on s (opaque_content l n) = opaque_content l n
at_on s (next_delta l q) = next_delta l (run_on s q)

pub at_back : {T U : Table} {k : Kind} {p : List ℕ} {w : Expected} → Keeps T U → AllReady T k → ExpectsAt U k p w
    → ExpectsAt T k p w
at_back s r first = first
at_back s r (second n) = second n
at_back s r (byte_content l n) = byte_content l n
at_back s r (text_content l n) = text_content l n
at_back s r (opaque_content l n) = opaque_content l n
at_back s r (next_delta l q) = next_delta l (run_back s r q)

pub expects_on : {T U : Table} {t : TypeId} {p : List ℕ} {w : Expected} {d : ℕ} → Keeps T U → Expects T t p w d
    → Expects U t p w d
expects_on s (in_itself e a) = in_itself (s.shape _ _ e) (at_on s a)
expects_on s (in_part e n a) = in_part (s.shape _ _ e) (enters_on s n) (expects_on s a)

pub expects_back : {T U : Table} {t : TypeId} {p : List ℕ} {w : Expected} {d : ℕ} → Keeps T U → IsReady T t
    → Expects U t p w d → Expects T t p w d
expects_back s r (in_itself e a) = let f = shape_back s r e in
    in_itself f (at_back s (record { each = λ w n. names_ready r f n }) a)
expects_back s r (in_part e n a) =
    let f = shape_back s r e in
    let m = enters_back s (record { each = λ w n. names_ready r f n }) n in
    in_part f m (expects_back s (names_ready r f (enters_named m)) a)

pub expects_top_on : {T U : Table} {t : TypeId} {p : List ℕ} {w : Expected} {d : ℕ} → Keeps T U → ExpectsTop T t p w d
    → ExpectsTop U t p w d
expects_top_on s (in_struct e i a) = in_struct (s.shape _ _ e) i (expects_on s a)
expects_top_on s (at_tag e i) = at_tag (s.shape _ _ e) i
expects_top_on s (behind_tag e i a) = behind_tag (s.shape _ _ e) i (expects_on s a)

pub expects_top_back : {T U : Table} {t : TypeId} {p : List ℕ} {w : Expected} {d : ℕ} → Keeps T U → IsReady T t
    → ExpectsTop U t p w d → ExpectsTop T t p w d
expects_top_back s r (in_struct e i a) = in_struct (shape_back s r e) i (expects_back s r a)
expects_top_back s r (at_tag e i) = at_tag (shape_back s r e) i
expects_top_back s r (behind_tag e i a) = behind_tag (shape_back s r e) i (expects_back s r a)

pub refused_on : {T U : Table} {t : TypeId} {limit announced : ℕ} {z : List ℕ} {R : Refusal} → Keeps T U
    → Refused T t limit announced z R → Refused U t limit announced z R
refused_on s (extra r p e l) = extra r (top_on s p) e l
refused_on s (too_deep r a e l) = too_deep r (expects_top_on s a) e l
refused_on s (short_of r a e n h) = short_of r (expects_top_on s a) e n h
refused_on s (bad_head_at r a e h) = bad_head_at r (expects_top_on s a) e h
refused_on s (not_minimal_at r a e h) = not_minimal_at r (expects_top_on s a) e h
refused_on s (not_allowed r a e u h) = not_allowed r (expects_top_on s a) e u h

pub refused_back : {T U : Table} {t : TypeId} {limit announced : ℕ} {z : List ℕ} {R : Refusal} → Keeps T U → IsReady T t
    → Refused U t limit announced z R → Refused T t limit announced z R
refused_back s i (extra r p e l) = extra r (top_back s i p) e l
refused_back s i (too_deep r a e l) = too_deep r (expects_top_back s i a) e l
refused_back s i (short_of r a e n h) = short_of r (expects_top_back s i a) e n h
refused_back s i (bad_head_at r a e h) = bad_head_at r (expects_top_back s i a) e h
refused_back s i (not_minimal_at r a e h) = not_minimal_at r (expects_top_back s i a) e h
refused_back s i (not_allowed r a e u h) = not_allowed r (expects_top_back s i a) e u h

pub first_on : {T U : Table} {t : TypeId} {limit announced : ℕ} {z : List ℕ} {R : Refusal} → Keeps T U → IsReady T t
    → IsFirst T t limit announced z R → IsFirst U t limit announced z R
first_on s i h = record { refused = refused_on s h.refused; first = λ S k. h.first S (refused_back s i k) }

pub first_back : {T U : Table} {t : TypeId} {limit announced : ℕ} {z : List ℕ} {R : Refusal} → Keeps T U → IsReady T t
    → IsFirst U t limit announced z R → IsFirst T t limit announced z R
first_back s i h = record { refused = refused_back s i h.refused; first = λ S k. h.first S (refused_on s k) }

pub shallow_grown : {T U : Table} {t : TypeId} {limit : ℕ} {p : List ℕ} → Keeps T U → IsReady T t
    → IsShallow T t limit p → IsShallow U t limit p
shallow_grown s i h = record { each = λ q x w d a e n. h.each q x w d (expects_top_back s i a) e n }

pub shallow_back : {T U : Table} {t : TypeId} {limit : ℕ} {p : List ℕ} → Keeps T U → IsShallow U t limit p
    → IsShallow T t limit p
shallow_back s h = record { each = λ q x w d a e n. h.each q x w d (expects_top_on s a) e n }

pub stood_on : {T U : Table} {t : TypeId} {limit announced : ℕ} {z : List ℕ} → Keeps T U → IsReady T t
    → IsViable T t limit announced z → IsViable U t limit announced z
stood_on s i h = record {
  before = h.before;
  under_way = h.under_way;
  expected = h.expected;
  depth = h.depth;
  expects = expects_top_on s h.expects;
  whole = h.whole;
  within = h.within;
  not_deep = h.not_deep;
  shallow = shallow_grown s i h.shallow;
  room = h.room;
}

pub stood_back : {T U : Table} {t : TypeId} {limit announced : ℕ} {z : List ℕ} → Keeps T U → IsReady T t
    → IsViable U t limit announced z → IsViable T t limit announced z
stood_back s i h = record {
  before = h.before;
  under_way = h.under_way;
  expected = h.expected;
  depth = h.depth;
  expects = expects_top_back s i h.expects;
  whole = h.whole;
  within = h.within;
  not_deep = h.not_deep;
  shallow = shallow_back s h.shallow;
  room = h.room;
}
