-- Where the reader stands, the grammar expects the same.
use Rattle.std.proofs.Common.{◌≡◌, ℕ, suc, ◌+◌, ◌-◌, ◌<◌, inl, inr, List, [], ◌++◌, length, arith, refl, sym, ap, subst}
use Rattle.std.proofs.Common.{add-one}
use Rattle.gob_num.specs.Unsigned.{IsUnsigned}
use Rattle.gob_types.specs.declared.id.TypeId.{TypeId}
use Rattle.gob_types.specs.declared.kind.Field.{Field}
use Rattle.gob_types.specs.declared.kind.Kind.{Kind}
use Rattle.gob_types.specs.Table.{Table, IsDefined}
use Rattle.gob_types.specs.Ready.{IsReady}
use Rattle.gob_types.proofs.PublicLaws.{names_ready, ready_defined}
use Rattle.gob_value.specs.Tree.{Trees, tree_count, Fields}
use Rattle.gob_read.specs.Expected.{Allowed, Expected, a_number, raw, any, tag, delta, first_allowed}
use Rattle.gob_read.specs.Expects.{FieldsRun, no_fields, field_then, Enters, slice_element, array_element, next_key}
use Rattle.gob_read.specs.Expects.{next_value, next_field as enters_field, ExpectsAt, second, byte_content}
use Rattle.gob_read.specs.Expects.{text_content, opaque_content, next_delta, ExpectsTop}
use Rattle.gob_read.specs.Expects as expects
use Rattle.gob_read.specs.Event.{Event}
use Rattle.gob_read.specs.Machine.Kinds.{HasKind, IsRawKind, is_bytes, is_text, is_opaque, IsList, is_slice, is_array}
use Rattle.gob_read.specs.Machine.OpenPath.{EachTold, FieldsTold, no_field_told, field_told, OpenPath, at_once}
use Rattle.gob_read.specs.Machine.OpenPath.{behind_tag, in_list, at_key, at_value, in_field, OpenStruct, open_struct}
use Rattle.gob_read.specs.Machine.OpenPath.{AtNext, at_tag, at_part, at_second, at_delta, at_raw}
use Rattle.gob_read.specs.Machine.Running.{item_depth, depth_of}
use Rattle.gob_read.specs.declared.event.RawKind.{RawKind}
use Rattle.gob_read.specs.declared.frame.Frame.{Frame}
use Rattle.gob_read.specs.declared.next.Next.{Next}
use Rattle.gob_read.specs.declared.next.Next.TheVariants.{Top, Number, Raw}
use Rattle.gob_read.specs.declared.next.NextNumber.{NextNumber}
use Rattle.gob_read.specs.declared.next.NextNumber.TheVariants.{Tag, Part, Second, Delta}
use Rattle.gob_read.proofs.Grammar.Compare.{compare_top, met_some}
use Rattle.gob_read.proofs.Grammar.Inside.{Inside, outermost, one_in, InsideTop, inside_struct, inside_behind_tag}
use Rattle.gob_read.proofs.Grammar.Inside.{inside_more_top, inside_expects_top, begins_expects}
use Rattle.gob_read.proofs.Machine.Moves.{each_spells, pairs_spell}
use Rattle.gob_read.proofs.Grammar.Stay.{enters_named}

pub run_of : {T : Table} {types : List Field} {start next : ℕ} {fs : Fields} {b : List ℕ} {us : List Event}
    → FieldsTold T types start next fs b us → FieldsRun T types start next b
run_of no_field_told = no_fields
run_of (field_told l g n s t r) = field_then l g n s (run_of r)

list_enters : {T : Table} {k : Kind} {n : ℕ} {e : TypeId} {vs : Trees} {c b : List ℕ} {us : List Event} (left : ℕ)
    → IsList k n e → IsUnsigned n c → EachTold T e vs b us → tree_count vs + left + 1 ≡ n → Enters T k (c ++ b) e
list_enters left is_slice n r m = slice_element n (each_spells r) (omega arith)
list_enters left is_array n r m = array_element n (each_spells r) (omega arith)

-- one part is open around another
entered : {T : Table} {t u v : TypeId} {d : ℕ} {k : Kind} {p q : List ℕ} → InsideTop T t p u d → HasKind T u k
    → Enters T k q v → InsideTop T t (p ++ q) v (suc d)
entered {T = T} {v = v} {q = q} i h e = inside_more_top i h.there (subst (λ k. Enters T k q v) (sym h.kind) e)

pub expected_in : {T : Table} {t u : TypeId} {d : ℕ} {k : Kind} {p q : List ℕ} {w : Expected} → InsideTop T t p u d
    → HasKind T u k → ExpectsAt T k q w → ExpectsTop T t (p ++ q) w (suc d)
expected_in {T = T} {q = q} {w = w} i h a = inside_expects_top i h.there (subst (λ k. ExpectsAt T k q w) (sym h.kind) a)

-- the open frames are the parts around the place
pub within_inside : {T : Table} {t u : TypeId} {fs : List Frame} {p : List ℕ} {us : List Event} → OpenPath T t fs p us u
    → InsideTop T t p u (length fs)
within_inside (at_once e i) = inside_struct e i outermost
within_inside (behind_tag e i) = inside_behind_tag e i outermost
within_inside (in_list {left = left} w h l n r m) = entered (within_inside w) h (list_enters left l n r m)
within_inside (at_key w h n r m) = entered (within_inside w) h (next_key n (pairs_spell r) (omega arith))
within_inside (at_value w h n r m s t) = entered (within_inside w) h (next_value n (pairs_spell r) (omega arith) s)
within_inside (in_field w h r l m g n) = entered (within_inside w) h (enters_field (run_of r) l g n)

inside_ready : {T : Table} {t u : TypeId} {d : ℕ} {p : List ℕ} → IsReady T t → Inside T t p u d → IsReady T u
inside_ready r outermost = r
inside_ready r (one_in e n i) = inside_ready (names_ready r e (enters_named n)) i

-- the parts of a ready type are ready
pub within_ready : {T : Table} {t u : TypeId} {fs : List Frame} {p : List ℕ} {us : List Event} → IsReady T t
    → OpenPath T t fs p us u → IsReady T u
within_ready {T = T} {t = t} {u = u} r w = from (within_inside w)
  where
    from : {d : ℕ} {p : List ℕ} → InsideTop T t p u d → IsReady T u
    from (inside_struct e i a) = inside_ready r a
    from (inside_behind_tag e i a) = inside_ready r a

pub part_defined : {T : Table} {t u : TypeId} {fs : List Frame} {p : List ℕ} {us : List Event} → IsReady T t
    → OpenPath T t fs p us u → IsDefined T u
part_defined r w = ready_defined (within_ready r w)

-- where a part of the kind begins, its first number is expected
pub part_expects : {T : Table} {t u : TypeId} {k : Kind} {fs : List Frame} {p : List ℕ} {us : List Event}
    → OpenPath T t fs p us u → HasKind T u k → ExpectsTop T t p (a_number (first_allowed k)) (length fs + 1)
part_expects {T = T} {t = t} {fs = fs} {p = p} w h =
    subst (λ k. ExpectsTop T t p (a_number (first_allowed k)) (length fs + 1)) h.kind
    (rw add-one (begins_expects (within_inside w) h.there))

-- the delta behind a field
pub delta_expects : {T : Table} {t u : TypeId} {fs : List Frame} {types : List Field} {next : ℕ} {p : List ℕ}
    {us : List Event} → OpenStruct T t fs u types next p us → 0 < next
    → ExpectsTop T t p (a_number (delta (length types - next))) (length fs)
delta_expects (open_struct w h r) l = expected_in (within_inside w) h (next_delta l (run_of r))

-- what the grammar expects where a number is expected
pub record ExpectsNumber (T : Table) (t : TypeId) (depth : ℕ) (p : List ℕ) : Type 0 where
  pub allowed : Allowed
  pub expects : ExpectsTop T t p (a_number allowed) depth

pub item_expects : {T : Table} {t : TypeId} {fs : List Frame} {p r : List ℕ} {us : List Event} (i : NextNumber)
    → IsReady T t → AtNext T t fs (Number i) p r us → ExpectsNumber T t (item_depth i (length fs)) p
item_expects (Tag u) d (at_tag e n) = record { allowed = tag; expects = expects.at_tag e n }
item_expects (Part u) d (at_part w) =
    let k = part_defined d w in
    record {
      allowed = first_allowed k.0.kind;
      expects =
          part_expects w (record { shape = k.0; there = k.1; kind = refl });
    }
item_expects (Second q) d (at_second w h n) =
    record { allowed = any; expects = rw add-one (expected_in (within_inside w) h (second n)) }
item_expects Delta d (at_delta {next = next} {types = types} o l) = record {
  allowed = delta (length types - next);
  expects = delta_expects o l;
}

-- what the grammar expects where raw bytes are taken
pub record ExpectsRaw (T : Table) (t : TypeId) (depth left : ℕ) (p r : List ℕ) : Type 0 where
  pub count : ℕ
  pub expects : ExpectsTop T t p (raw count) depth
  pub left_is : length r + left ≡ count
  pub some_left : 0 < left

content : {T : Table} {k : Kind} {x : RawKind} {n : ℕ} {b : List ℕ} → IsRawKind k x → 0 < n → IsUnsigned n b
    → ExpectsAt T k b (raw n)
content is_bytes l n = byte_content l n
content is_text l n = text_content l n
content is_opaque l n = opaque_content l n

pub raw_expects : {T : Table} {t : TypeId} {fs : List Frame} {left : ℕ} {p r : List ℕ} {us : List Event}
    → AtNext T t fs (Raw left) p r us → ExpectsRaw T t (length fs + 1) left p r
raw_expects (at_raw {n = n} w h k m o q l) =
    rw add-one (record {
      count = n;
      expects = expected_in (within_inside w) h (content k (omega arith) m);
      left_is = q;
      some_left = l;
    })

-- before its type is looked up a body is at no place
pub no_top : {T : Table} {t u : TypeId} {fs : List Frame} {p r : List ℕ} {us : List Event}
    → AtNext T t fs (Top u) p r us → ⊥
no_top a = elim a [ ]

-- something is expected wherever the reader stands
pub record ExpectsSome (T : Table) (t : TypeId) (depth : ℕ) (p : List ℕ) : Type 0 where
  pub item : Expected
  pub expects : ExpectsTop T t p item depth

pub place_expects : {T : Table} {t : TypeId} {fs : List Frame} {p r : List ℕ} {us : List Event} (a : Next) → IsReady T t
    → AtNext T t fs a p r us → ExpectsSome T t (depth_of a fs) p
place_expects (Top u) d a = absurd (no_top a)
place_expects (Number i) d a = let w = item_expects i d a in record { item = a_number w.allowed; expects = w.expects }
place_expects (Raw left) d a = let w = raw_expects a in record { item = raw w.count; expects = w.expects }

-- one place expects one thing
pub one_depth : {T : Table} {t : TypeId} {d d' : ℕ} {p : List ℕ} {w u : Expected} → ExpectsTop T t p w d
    → ExpectsTop T t p u d' → d ≡ d'
one_depth a b =
    elim (compare_top [] [] a b refl) [
      | inl z ↦ ap (λ (v : Expected × ℕ). v.1) z.value
      | inr z ↦ absurd (elim z [ inl h ↦ met_some a h | inr h ↦ met_some b h ])
    ]

-- where a number is expected, its bytes so far are no matter
pub at_any : {T : Table} {t : TypeId} {fs : List Frame} {p r : List ℕ} {us : List Event} (i : NextNumber) (r' : List ℕ)
    → AtNext T t fs (Number i) p r us → AtNext T t fs (Number i) p r' us
at_any (Tag u) r' (at_tag e n) = at_tag e n
at_any (Part u) r' (at_part w) = at_part w
at_any (Second q) r' (at_second w h n) = at_second w h n
at_any Delta r' (at_delta o l) = at_delta o l
