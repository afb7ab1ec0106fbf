-- The counts of lists of events, and of what they tell.
use Rattle.std.proofs.Common.{◌≡◌, ℕ, ◌+◌, List, [], ◌∷◌, ◌++◌, length, arith, refl, sym, zero-add, length-append}
use Rattle.gob_read.specs.declared.event.RawKind.{RawKind}
use Rattle.gob_read.specs.declared.event.RawKind.TheVariants as raw
use Rattle.gob_read.specs.declared.event.GroupKind.{GroupKind}
use Rattle.gob_read.specs.declared.event.GroupKind.TheVariants as group
use Rattle.gob_value.specs.Tree.{Tree, Trees, Pairs, Fields}
use Rattle.gob_read.specs.Event.{Event, number, raw_start, raw_more, enter, field, leave, HasRawEvents, no_bytes}
use Rattle.gob_read.specs.Event.{more_bytes, HasEvents, tell_bool, tell_not_negative, tell_negative, tell_uint}
use Rattle.gob_read.specs.Event.{tell_float, tell_complex, tell_nil, tell_bytes, tell_text, tell_opaque, tell_many}
use Rattle.gob_read.specs.Event.{tell_pairs, tell_fields, HaveEvents, tell_none, tell_each, PairsHaveEvents}
use Rattle.gob_read.specs.Event.{tell_no_pair, tell_pair, FieldsHaveEvents, tell_no_field, tell_field}
use Rattle.gob_read.specs.Building.{HasRoomFor}
use Rattle.gob_read.specs.Weight.{part_count, parts_of_all, parts_of_pairs, parts_of_fields, raw_count, raw_of_all}
use Rattle.gob_read.specs.Weight.{raw_of_pairs, raw_of_fields, weight, parts_told, raw_told}

pub parts_told-append : (us ws : List Event) → parts_told (us ++ ws) ≡ parts_told us + parts_told ws
parts_told-append [] ws = sym (zero-add (parts_told ws))
parts_told-append (number k a b ∷ us) ws = omega (arith, parts_told-append us ws)
parts_told-append (raw_start k ∷ us) ws = omega (arith, parts_told-append us ws)
parts_told-append (raw_more s ∷ us) ws = parts_told-append us ws
parts_told-append (enter k ∷ us) ws = omega (arith, parts_told-append us ws)
parts_told-append (field f ∷ us) ws = parts_told-append us ws
parts_told-append (leave ∷ us) ws = parts_told-append us ws

pub raw_told-append : (us ws : List Event) → raw_told (us ++ ws) ≡ raw_told us + raw_told ws
raw_told-append [] ws = sym (zero-add (raw_told ws))
raw_told-append (number k a b ∷ us) ws = raw_told-append us ws
raw_told-append (raw_start k ∷ us) ws = raw_told-append us ws
raw_told-append (raw_more s ∷ us) ws = omega (arith, raw_told-append us ws)
raw_told-append (enter k ∷ us) ws = raw_told-append us ws
raw_told-append (field f ∷ us) ws = raw_told-append us ws
raw_told-append (leave ∷ us) ws = raw_told-append us ws

-- both counts of a list of events are these
pub record Counts (us : List Event) (p r : ℕ) : Type 0 where
  pub parts : parts_told us ≡ p
  pub raw : raw_told us ≡ r

one_then : (t : Event) {us : List Event} {p r q s : ℕ} → Counts (t ∷ []) p r → Counts us q s
    → Counts ((t ∷ us) ++ leave ∷ []) (q + p) (s + r)
one_then t {us = us} c d = record {
  parts = omega (
    arith,
    parts_told-append (t ∷ []) (us ++ leave ∷ []),
    parts_told-append us (leave ∷ []),
    c.parts,
    d.parts,
  );
  raw = omega (arith, raw_told-append (t ∷ []) (us ++ leave ∷ []), raw_told-append us (leave ∷ []), c.raw, d.raw);
}

one_part : {k : RawKind} → Counts (raw_start k ∷ []) 1 0
one_part = record { parts = refl; raw = refl }

one_group : {k : GroupKind} → Counts (enter k ∷ []) 1 0
one_group = record { parts = refl; raw = refl }

both : {us ws : List Event} {p r q s : ℕ} → Counts us p r → Counts ws q s → Counts (us ++ ws) (p + q) (r + s)
both {us = us} {ws = ws} c d = record {
  parts = omega (arith, parts_told-append us ws, c.parts, d.parts);
  raw = omega (arith, raw_told-append us ws, c.raw, d.raw);
}

pub raw_counts : {s : List ℕ} {us : List Event} → HasRawEvents s us → Counts us 0 (length s)
raw_counts no_bytes = record { parts = refl; raw = refl }
raw_counts (more_bytes {s = s} {us = us} c t) =
    let x = raw_counts t in
    record {
      parts = omega (arith, parts_told-append us (raw_more c ∷ []), x.parts);
      raw = omega (arith, raw_told-append us (raw_more c ∷ []), length-append s c, x.raw);
    }

mutual
  pub tells_counts : {v : Tree} {us : List Event} → HasEvents v us → Counts us (part_count v) (raw_count v)
  tells_counts tell_bool = record { parts = refl; raw = refl }
  tells_counts tell_not_negative = record { parts = refl; raw = refl }
  tells_counts tell_negative = record { parts = refl; raw = refl }
  tells_counts tell_uint = record { parts = refl; raw = refl }
  tells_counts tell_float = record { parts = refl; raw = refl }
  tells_counts tell_complex = record { parts = refl; raw = refl }
  tells_counts tell_nil = record { parts = refl; raw = refl }
  tells_counts (tell_bytes t) = let c = one_then (raw_start raw.Bytes) one_part (raw_counts t) in
      record { parts = c.parts; raw = omega (arith, c.raw) }
  tells_counts (tell_text t) = let c = one_then (raw_start raw.Str) one_part (raw_counts t) in
      record { parts = c.parts; raw = omega (arith, c.raw) }
  tells_counts (tell_opaque t) = let c = one_then (raw_start raw.Opaque) one_part (raw_counts t) in
      record { parts = c.parts; raw = omega (arith, c.raw) }
  tells_counts (tell_many t) = let c = one_then (enter group.Many) one_group (each_counts t) in
      record { parts = c.parts; raw = omega (arith, c.raw) }
  tells_counts (tell_pairs t) = let c = one_then (enter group.Pairs) one_group (pairs_counts t) in
      record { parts = c.parts; raw = omega (arith, c.raw) }
  tells_counts (tell_fields t) = let c = one_then (enter group.Fields) one_group (fields_counts t) in
      record { parts = c.parts; raw = omega (arith, c.raw) }

  pub each_counts : {vs : Trees} {us : List Event} → HaveEvents vs us → Counts us (parts_of_all vs) (raw_of_all vs)
  each_counts tell_none = record { parts = refl; raw = refl }
  each_counts (tell_each t ts) = both (tells_counts t) (each_counts ts)

  pub pairs_counts : {ps : Pairs} {us : List Event} → PairsHaveEvents ps us
      → Counts us (parts_of_pairs ps) (raw_of_pairs ps)
  pairs_counts tell_no_pair = record { parts = refl; raw = refl }
  pairs_counts (tell_pair k e ts) = both (tells_counts k) (both (tells_counts e) (pairs_counts ts))

  pub fields_counts : {fs : Fields} {us : List Event} → FieldsHaveEvents fs us
      → Counts us (parts_of_fields fs) (raw_of_fields fs)
  fields_counts tell_no_field = record { parts = refl; raw = refl }
  fields_counts (tell_field t ts) = let c = both (tells_counts t) (fields_counts ts) in
      record { parts = c.parts; raw = c.raw }

-- the events of a value are its weight
pub tells_weight : {v : Tree} {us : List Event} → HasEvents v us → parts_told us + raw_told us ≡ weight v
tells_weight t = let d = tells_counts t in omega (arith, d.parts, d.raw)

-- a prefix has room where the whole list has
pub prefix_room : (us ws : List Event) → HasRoomFor (us ++ ws) → HasRoomFor us
prefix_room us ws r = record { room = omega (arith, r.room, parts_told-append us ws, raw_told-append us ws) }

pub ruleset counting = (parts_told-append, raw_told-append)
