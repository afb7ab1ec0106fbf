-- One refusal is given at most of what stands behind the items of a stream, and none where an item stands.
use Rattle.std.proofs.Common.{◌≡◌, ℕ, ℤ, pos, negsuc, ◌+◌, ◌-◌, ◌≤◌, List, [], ◌++◌, length, take, Some, arith, refl}
use Rattle.std.proofs.Common.{sym, ap, ◌∙◌, subst, append_assoc, length-append}
use Rattle.std.proofs.lemmas.List.{append-nil, take-append-le}
use Rattle.gob_num.specs.Unsigned.{IsUnsigned, IsUnsignedPrefix, IsBadHead, IsNotMinimal}
use Rattle.gob_num.specs.Signed.{IsSigned}
use Rattle.gob_num.proofs.PublicLaws.{unsigned_prefix, signed_prefix, signed_unsigned, bad_head_none, not_minimal_none}
use Rattle.gob_num.proofs.PublicLaws.{prefix_not_bad_head, prefix_not_padded, bad_head_not_padded}
use Rattle.gob_types.specs.declared.id.TypeId.{TypeId}
use Rattle.gob_types.specs.declared.kind.Shape.{Shape}
use Rattle.gob_types.specs.declared.reason.Reason.{Reason}
use Rattle.gob_types.specs.declared.reason.Reason.TheVariants as reason
use Rattle.gob_types.specs.Base.{wire_type}
use Rattle.gob_types.specs.Table.{Table, shape_of}
use Rattle.gob_value.specs.Tree.{Tree, depth}
use Rattle.gob_value.specs.Spelling.{Spells}
use Rattle.gob_value.specs.Top.{SpellsTop, at_once, IsStruct}
use Rattle.gob_value.specs.Description.{Describes, Misdescribes}
use Rattle.gob_value.proofs.PublicLaws.{same_spelling}
use Rattle.gob_read.specs.Refusal as body
use Rattle.gob_read.specs.First.{IsFirst}
use Rattle.gob_read.proofs.PublicLaws.{prefix_not_number, given_once, only_extra, take_whole}
use Rattle.gob_stream.specs.declared.fault.Refusal.{Refusal}
use Rattle.gob_stream.specs.Bounds.{Bounds}
use Rattle.gob_stream.specs.Item.{StreamItem}
use Rattle.gob_stream.specs.Body.{Body, definition, value, MayDefine, MayPut}
use Rattle.gob_stream.specs.Stream.{IsItem, counted}
use Rattle.gob_stream.specs.WriterRefusal.{RefusesId, RefusesType}
use Rattle.gob_stream.specs.Refusing.{behind, refuses, RefusesCount, bad_head, not_minimal, item_too_long}
use Rattle.gob_stream.specs.Refusing.{stream_too_long, RefusesBody, short, refused_id, refused_type, refused_value}
use Rattle.gob_stream.specs.Refusing.{refused_description, described_wrongly}
use Rattle.gob_stream.specs.Refusing as refusing
use Rattle.gob_stream.specs.Outcome.{RefusesNext, refused_count, refused_body}
use Rattle.gob_stream.proofs.Stream.StreamLaws.{same_id}
use Rattle.gob_stream.proofs.Stream.RefusalLaws.{id_met, type_met, one_id, one_type, one_description, description_met}

-- descriptions are structs, which stand behind no tag
pub record HasWireStruct (T : Table) : Type 0 where
  pub shape : Shape
  pub there : shape_of T wire_type ≡ Some shape
  pub struct : IsStruct shape.kind

-- ---- how bytes begin, where a signed number is to stand
pub data Start : Type 0 where
  bad : Start
  padded : Start
  unfinished : Start
  whole : ℤ → List ℕ → List ℕ → Start

pub data Starts (y : List ℕ) : Start → Type 0 where
  is_bad : IsBadHead y → Starts y bad
  is_padded : IsNotMinimal y → Starts y padded
  is_unfinished : IsUnsignedPrefix y → Starts y unfinished
  is_whole : {i : ℤ} {a z : List ℕ} → y ≡ a ++ z → IsSigned i a → Starts y (whole i a z)

bad_not_number : {y a : List ℕ} {i : ℤ} (z : List ℕ) → IsBadHead y → y ≡ a ++ z → IsSigned i a → ⊥
bad_not_number {y = y} z h e s = bad_head_none y h [] z (signed_unsigned s).1 (append-nil y ∙ e)

padded_not_number : {y a : List ℕ} {i : ℤ} (z : List ℕ) → IsNotMinimal y → y ≡ a ++ z → IsSigned i a → ⊥
padded_not_number {y = y} z h e s = not_minimal_none y h [] z (signed_unsigned s).1 (append-nil y ∙ e)

prefix_not_signed : {y a : List ℕ} {i : ℤ} (z : List ℕ) → IsUnsignedPrefix y → y ≡ a ++ z → IsSigned i a → ⊥
prefix_not_signed z h e s = prefix_not_number z h (signed_unsigned s).1 e

same_whole : {i j : ℤ} {a b x y : List ℕ} → i ≡ j → a ≡ b → x ≡ y → whole i a x ≡ whole j b y
same_whole e f g = cc

pub one_start : {y : List ℕ} {s r : Start} → Starts y s → Starts y r → s ≡ r
one_start (is_bad h) (is_bad k) = refl
one_start {y = y} (is_bad h) (is_padded k) = absurd (bad_head_not_padded y h k)
one_start (is_bad h) (is_unfinished k) = absurd (prefix_not_bad_head k h)
one_start (is_bad h) (is_whole e s) = absurd (bad_not_number _ h e s)
one_start {y = y} (is_padded h) (is_bad k) = absurd (bad_head_not_padded y k h)
one_start (is_padded h) (is_padded k) = refl
one_start (is_padded h) (is_unfinished k) = absurd (prefix_not_padded k h)
one_start (is_padded h) (is_whole e s) = absurd (padded_not_number _ h e s)
one_start (is_unfinished h) (is_bad k) = absurd (prefix_not_bad_head h k)
one_start (is_unfinished h) (is_padded k) = absurd (prefix_not_padded h k)
one_start (is_unfinished h) (is_unfinished k) = refl
one_start (is_unfinished h) (is_whole e s) = absurd (prefix_not_signed _ h e s)
one_start (is_whole e s) (is_bad k) = absurd (bad_not_number _ k e s)
one_start (is_whole e s) (is_padded k) = absurd (padded_not_number _ k e s)
one_start (is_whole e s) (is_unfinished k) = absurd (prefix_not_signed _ k e s)
one_start (is_whole {z = x} e s) (is_whole {z = y} f r) = let p = signed_prefix x y s r (sym e ∙ f) in
    same_whole p.value p.bytes p.rest

-- ---- a body's refusals, by how it begins
pub data RefusesDefinition (base : Table) (L : Bounds) (T : Table) (offset m : ℕ) (id : TypeId) (a z : List ℕ) : Refusal
    → Type 0 where
  by_id : {r : Reason} → RefusesId base L T id r
      → RefusesDefinition base L T offset m id a z (refuses offset (offset + length a) r)
  by_first : {R : body.Refusal} → MayDefine base L T id → IsFirst T wire_type L.depth (m - length a) z R
      → RefusesDefinition base L T offset m id a z (behind (offset + length a) R)
  by_description : {v : Tree} {r : Reason} → length z ≡ m - length a → MayDefine base L T id → Spells T wire_type v z
      → depth v ≤ L.depth → Misdescribes id v r
      → RefusesDefinition base L T offset m id a z (refuses (offset + length a) (offset + m) r)

pub data RefusesPut (L : Bounds) (T : Table) (offset m : ℕ) (t : TypeId) (a z : List ℕ) : Refusal → Type 0 where
  by_type : {r : Reason} → RefusesType T t r → RefusesPut L T offset m t a z (refuses offset (offset + length a) r)
  by_value : {R : body.Refusal} → MayPut T t → IsFirst T t L.depth (m - length a) z R
      → RefusesPut L T offset m t a z (behind (offset + length a) R)

pub data RefusesFrom (base : Table) (L : Bounds) (T : Table) (offset m : ℕ) : Start → Refusal → Type 0 where
  from_bad : RefusesFrom base L T offset m bad (refuses offset (offset + 1) reason.BadHead)
  from_padded : RefusesFrom base L T offset m padded (refuses offset (offset + 2) reason.NotMinimal)
  from_end : RefusesFrom base L T offset m unfinished (refuses (offset + m) (offset + m) reason.Short)
  from_definition : {id : TypeId} {n : ℕ} {a z : List ℕ} {R : Refusal} → id.0 ≡ n + 1
      → RefusesDefinition base L T offset m id a z R → RefusesFrom base L T offset m (whole (negsuc n) a z) R
  from_value : {t : TypeId} {i : ℤ} {a z : List ℕ} {R : Refusal} → i ≡ pos t.0 → RefusesPut L T offset m t a z R
      → RefusesFrom base L T offset m (whole i a z) R

pub record Started (base : Table) (L : Bounds) (T : Table) (offset m : ℕ) (y : List ℕ) (R : Refusal) : Type 0 where
  pub start : Start
  pub starts : Starts y start
  pub refuses : RefusesFrom base L T offset m start R

left_behind : (a z y : List ℕ) (m : ℕ) → y ≡ a ++ z → length y ≡ m → length z ≡ m - length a
left_behind a z y m e n = omega (arith, ap length e, length-append a z)

pub started : {base : Table} {L : Bounds} {T : Table} {offset m : ℕ} {y : List ℕ} {R : Refusal}
    → RefusesBody base L T offset m y R → Started base L T offset m y R
started (refusing.RefusesBody.bad_head h) = record { start = bad; starts = is_bad h; refuses = from_bad }
started (refusing.RefusesBody.not_minimal h) = record { start = padded; starts = is_padded h; refuses = from_padded }
started (short n h) = record { start = unfinished; starts = is_unfinished h; refuses = from_end }
started (refused_id z e n s q) = record {
  start = whole _ _ z;
  starts = is_whole e s;
  refuses =
      from_definition n (by_id q);
}
started (refused_type z e s q) = record {
  start = whole _ _ z;
  starts = is_whole e s;
  refuses =
      from_value refl (by_type q);
}
started (refused_value z e s p q) = record {
  start = whole _ _ z;
  starts = is_whole e s;
  refuses =
      from_value refl (by_value p q);
}
started (refused_description z e n s p q) = record {
  start = whole _ _ z;
  starts = is_whole e s;
  refuses =
      from_definition n (by_first p q);
}
started {m = m} {y = y} (described_wrongly {a = a} {z = z} e l n s p q d w) =
    record {
      start = whole _ _ z;
      starts = is_whole e s;
      refuses =
          from_definition n (by_description (left_behind a z y m e l) p q d w);
    }

-- a whole value is refused only for what is announced behind it
not_all : {T : Table} {t : TypeId} {limit announced : ℕ} {v : Tree} {z : List ℕ} {S : body.Refusal} → SpellsTop T t v z
    → depth v ≤ limit → body.Refused T t limit announced z S → length z ≡ announced → ⊥
not_all {T = T} {t = t} {limit = limit} {announced = announced} {z = z} {S = S} s d r n =
    let l = (only_extra [] s d (subst (λ y. body.Refused T t limit announced y S) (sym (append-nil z)) r)).1 in
    omega arith

-- ---- one refusal
same_misdescribed : {id : TypeId} {v w : Tree} {r s : Reason} → v ≡ w → Misdescribes id v r → Misdescribes id w s
    → r ≡ s
same_misdescribed {id = id} {r = r} e p q = one_description (subst (λ v. Misdescribes id v r) e p) q

one_definition : {base : Table} {L : Bounds} {T : Table} {offset m : ℕ} {id : TypeId} {a z : List ℕ} {R S : Refusal}
    → HasWireStruct T
    → RefusesDefinition base L T offset m id a z R → RefusesDefinition base L T offset m id a z S → R ≡ S
one_definition {offset = offset} {a = a} w (by_id p) (by_id q) = ap (λ r. refuses offset (offset + length a) r)
    (one_id p q)
one_definition w (by_id p) (by_first q f) = absurd (id_met p q)
one_definition w (by_id p) (by_description n q s d k) = absurd (id_met p q)
one_definition w (by_first p f) (by_id q) = absurd (id_met q p)
one_definition {offset = offset} {a = a} w (by_first p f) (by_first q g) = ap (λ R. behind (offset + length a) R)
    (given_once f g)
one_definition w (by_first p f) (by_description n q s d k) = absurd (not_all (at_once w.there w.struct s) d f.refused n)
one_definition w (by_description n p s d k) (by_id q) = absurd (id_met q p)
one_definition w (by_description n p s d k) (by_first q f) = absurd (not_all (at_once w.there w.struct s) d f.refused n)
one_definition {offset = offset} {m = m} {a = a} w (by_description n p s d k) (by_description n' p' s' d' k') =
    let e = (same_spelling [] [] s s' refl).value in
    ap (λ r. refuses (offset + length a) (offset + m) r) (same_misdescribed e k k')

one_put : {L : Bounds} {T : Table} {offset m : ℕ} {t : TypeId} {a z : List ℕ} {R S : Refusal}
    → RefusesPut L T offset m t a z R → RefusesPut L T offset m t a z S → R ≡ S
one_put {offset = offset} {a = a} (by_type p) (by_type q) = ap (λ r. refuses offset (offset + length a) r)
    (one_type p q)
one_put (by_type p) (by_value q f) = absurd (type_met p q)
one_put (by_value p f) (by_type q) = absurd (type_met q p)
one_put {offset = offset} {a = a} (by_value p f) (by_value q g) = ap (λ R. behind (offset + length a) R)
    (given_once f g)

same_put : {L : Bounds} {T : Table} {offset m : ℕ} {t u : TypeId} {a z : List ℕ} {R S : Refusal} → t ≡ u
    → RefusesPut L T offset m t a z R → RefusesPut L T offset m u a z S → R ≡ S
same_put {L = L} {T = T} {offset = offset} {m = m} {a = a} {z = z} {R = R} e p q =
    one_put (subst (λ t. RefusesPut L T offset m t a z R) e p) q

same_definition : {base : Table} {L : Bounds} {T : Table} {offset m : ℕ} {t u : TypeId} {a z : List ℕ} {R S : Refusal}
    → HasWireStruct T → t ≡ u
    → RefusesDefinition base L T offset m t a z R → RefusesDefinition base L T offset m u a z S → R ≡ S
same_definition {base = base} {L = L} {T = T} {offset = offset} {m = m} {a = a} {z = z} {R = R} w e p q =
    one_definition w (subst (λ t. RefusesDefinition base L T offset m t a z R) e p) q

from_once : {base : Table} {L : Bounds} {T : Table} {offset m : ℕ} {s : Start} {R S : Refusal} → HasWireStruct T
    → RefusesFrom base L T offset m s R → RefusesFrom base L T offset m s S → R ≡ S
from_once w from_bad from_bad = refl
from_once w from_padded from_padded = refl
from_once w from_end from_end = refl
from_once w (from_definition {id = t} e p) (from_definition {id = u} f q) =
    same_definition w (same_id (let n : t.0 ≡ u.0 = omega arith in n)) p q
from_once w (from_definition e p) (from_value f q) = cc
from_once w (from_value e p) (from_definition f q) = cc
from_once w (from_value {t = t} e p) (from_value {t = u} f q) =
    same_put (same_id (let n : pos t.0 ≡ pos u.0 = sym e ∙ f in let k : t.0 ≡ u.0 = cc in k)) p q

pub body_once : {base : Table} {L : Bounds} {T : Table} {offset m : ℕ} {y : List ℕ} {R S : Refusal} → HasWireStruct T
    → RefusesBody base L T offset m y R → RefusesBody base L T offset m y S → R ≡ S
body_once {base = base} {L = L} {T = T} {offset = offset} {m = m} {S = S} w p q =
    let h = started p in let k = started q in
    from_once w h.refuses (subst (λ s. RefusesFrom base L T offset m s S) (one_start k.starts h.starts) k.refuses)

-- ---- no body is refused
definition_not : {base : Table} {L : Bounds} {T : Table} {offset m : ℕ} {id : TypeId} {a z : List ℕ} {v : Tree}
    {s : Shape} {R : Refusal} → HasWireStruct T
    → RefusesDefinition base L T offset m id a z R → MayDefine base L T id → depth v ≤ L.depth → Describes id v s
    → Spells T wire_type v z → length z ≡ m - length a → ⊥
definition_not w (by_id p) q d x k n = id_met p q
definition_not w (by_first p f) q d x k n = not_all (at_once w.there w.struct k) d f.refused n
definition_not {id = id} {s = s} w (by_description n p k d y) q d' x k' n' =
    let e = (same_spelling [] [] k' k refl).value in description_met y (subst (λ v. Describes id v s) e x)

put_not : {L : Bounds} {T : Table} {offset m : ℕ} {t : TypeId} {a z : List ℕ} {v : Tree} {R : Refusal}
    → RefusesPut L T offset m t a z R → MayPut T t → depth v ≤ L.depth → SpellsTop T t v z → length z ≡ m - length a → ⊥
put_not (by_type p) q d k n = type_met p q
put_not (by_value p f) q d k n = not_all k d f.refused n

definition_at : {base : Table} {L : Bounds} {T : Table} {offset m n : ℕ} {t : TypeId} {a z : List ℕ} {v : Tree}
    {s : Shape} {R : Refusal} → HasWireStruct T
    → RefusesFrom base L T offset m (whole (negsuc n) a z) R → t.0 ≡ n + 1 → MayDefine base L T t → depth v ≤ L.depth
    → Describes t v s → Spells T wire_type v z → length z ≡ m - length a → ⊥
definition_at {base = base} {L = L} {T = T} {offset = offset} {m = m} {t = t} {a = a} {z = z} {R = R} w
    (from_definition {id = u} e p) f q d x k n =
    definition_not w (subst (λ t. RefusesDefinition base L T offset m t a z R)
    (same_id (let l : u.0 ≡ t.0 = omega arith in l)) p) q d x k n
definition_at w (from_value e p) f q d x k n = cc

put_at : {base : Table} {L : Bounds} {T : Table} {offset m : ℕ} {t : TypeId} {i : ℤ} {a z : List ℕ} {v : Tree}
    {R : Refusal}
    → RefusesFrom base L T offset m (whole i a z) R → i ≡ pos t.0 → MayPut T t → depth v ≤ L.depth → SpellsTop T t v z
    → length z ≡ m - length a → ⊥
put_at (from_definition e p) f q d k n = cc
put_at {L = L} {T = T} {offset = offset} {m = m} {t = t} {a = a} {z = z} {R = R} (from_value {t = u} e p) f q d k n =
    put_not (subst (λ t. RefusesPut L T offset m t a z R) (same_id (let l : pos u.0 ≡ pos t.0 = sym e
    ∙ f in let k : u.0 ≡ t.0 = cc in k)) p) q d k n

pub body_not : {base : Table} {L : Bounds} {T U : Table} {offset : ℕ} {i : StreamItem} {d : List ℕ} {R : Refusal}
    → HasWireStruct T → RefusesBody base L T offset (length d) d R → Body base L T i d U → ⊥
body_not {base = base} {L = L} {T = T} {offset = offset} {R = R} w p (definition {a = a} {b = b} q d x n s k) =
    let h = started p in
    definition_at w (subst (λ r. RefusesFrom base L T offset (length (a ++ b)) r R)
    (one_start h.starts (is_whole refl s)) h.refuses) n q d x k (left_behind a b (a ++ b) _ refl refl)
body_not {base = base} {L = L} {T = T} {offset = offset} {R = R} w p (value {a = a} {b = b} q d s k) =
    let h = started p in
    put_at (subst (λ r. RefusesFrom base L T offset (length (a ++ b)) r R) (one_start h.starts (is_whole refl s))
    h.refuses) refl q d k (left_behind a b (a ++ b) _ refl refl)

-- ---- counts
pub count_not : {L : Bounds} {offset m : ℕ} {z c : List ℕ} {R : Refusal} (x : List ℕ) → RefusesCount L offset z R
    → IsUnsigned m c → z ≡ c ++ x → m ≤ L.item → offset + length c + m ≤ L.stream → ⊥
count_not {z = z} x (refusing.RefusesCount.bad_head h) u e l k = bad_head_none z h [] x u (append-nil z ∙ e)
count_not {z = z} x (refusing.RefusesCount.not_minimal h) u e l k = not_minimal_none z h [] x u (append-nil z ∙ e)
count_not x (item_too_long r e' u' l') u e l k = let p = (unsigned_prefix r x u' u (sym e' ∙ e)).value in omega arith
count_not x (stream_too_long r e' u' l' k') u e l k =
    let p = unsigned_prefix r x u' u (sym e' ∙ e) in let v = p.value in let n = ap length p.bytes in omega arith

count_once : {L : Bounds} {offset : ℕ} {z : List ℕ} {R S : Refusal} → RefusesCount L offset z R
    → RefusesCount L offset z S → R ≡ S
count_once (refusing.RefusesCount.bad_head h) (refusing.RefusesCount.bad_head k) = refl
count_once {z = z} (refusing.RefusesCount.bad_head h) (refusing.RefusesCount.not_minimal k) =
    absurd (bad_head_not_padded z h k)
count_once {z = z} (refusing.RefusesCount.bad_head h) (item_too_long r e u l) =
    absurd (bad_head_none z h [] r u (append-nil z ∙ e))
count_once {z = z} (refusing.RefusesCount.bad_head h) (stream_too_long r e u l k) =
    absurd (bad_head_none z h [] r u (append-nil z ∙ e))
count_once {z = z} (refusing.RefusesCount.not_minimal h) (refusing.RefusesCount.bad_head k) =
    absurd (bad_head_not_padded z k h)
count_once (refusing.RefusesCount.not_minimal h) (refusing.RefusesCount.not_minimal k) = refl
count_once {z = z} (refusing.RefusesCount.not_minimal h) (item_too_long r e u l) =
    absurd (not_minimal_none z h [] r u (append-nil z ∙ e))
count_once {z = z} (refusing.RefusesCount.not_minimal h) (stream_too_long r e u l k) =
    absurd (not_minimal_none z h [] r u (append-nil z ∙ e))
count_once {z = z} (item_too_long r e u l) (refusing.RefusesCount.bad_head h) =
    absurd (bad_head_none z h [] r u (append-nil z ∙ e))
count_once {z = z} (item_too_long r e u l) (refusing.RefusesCount.not_minimal h) =
    absurd (not_minimal_none z h [] r u (append-nil z ∙ e))
count_once {offset = offset} (item_too_long r e u l) (item_too_long x f v k) =
    ap (λ c. refuses offset (offset + length c) reason.ItemTooLong) (unsigned_prefix r x u v (sym e ∙ f)).bytes
count_once (item_too_long r e u l) (stream_too_long x f v k n) =
    absurd (let p = (unsigned_prefix r x u v (sym e ∙ f)).value in omega arith)
count_once {z = z} (stream_too_long r e u l k) (refusing.RefusesCount.bad_head h) =
    absurd (bad_head_none z h [] r u (append-nil z ∙ e))
count_once {z = z} (stream_too_long r e u l k) (refusing.RefusesCount.not_minimal h) =
    absurd (not_minimal_none z h [] r u (append-nil z ∙ e))
count_once (stream_too_long r e u l k) (item_too_long x f v n) =
    absurd (let p = (unsigned_prefix r x u v (sym e ∙ f)).value in omega arith)
count_once {offset = offset} (stream_too_long r e u l k) (stream_too_long x f v n o) =
    ap (λ c. refuses offset (offset + length c) reason.StreamTooLong) (unsigned_prefix r x u v (sym e ∙ f)).bytes

-- ---- the next item
pub take_prefix : (d y : List ℕ) → take (length d) (d ++ y) ≡ d
take_prefix d y = take-append-le (length d) d y (omega arith) ∙ take_whole d (length d) (omega arith)

pub next_not : {base : Table} {L : Bounds} {T U : Table} {offset : ℕ} {z b : List ℕ} {i : StreamItem} {R : Refusal}
    (y : List ℕ) → HasWireStruct T → RefusesNext base L T offset z R → IsItem base L T offset i b U → z ≡ b ++ y → ⊥
next_not y w (refused_count q) (counted {c = c} {d = d} u l s p) e =
    count_not (d ++ y) q u (e ∙ append_assoc c d y) l (omega (arith, length-append c d))
next_not {base = base} {L = L} {T = T} {offset = offset} y w (refused_body {m = m} {c = c} {R = R} r e u l s q)
    (counted {c = c'} {d = d} u' l' s' p) f =
    let same = unsigned_prefix r (d ++ y) u u' (sym e ∙ f ∙ append_assoc c' d y) in
    let there : take m r ≡ d = ap (λ m. take m r) same.value ∙ ap (λ r. take (length d) r) same.rest
    ∙ take_prefix d y in
    body_not w (subst (λ m. RefusesBody base L T (offset + length c) m d R) same.value
    (subst (λ y. RefusesBody base L T (offset + length c) m y R) there q)) p

same_next : {base : Table} {L : Bounds} {T : Table} {m n : ℕ} {c d r x : List ℕ} {R S : Refusal} (offset : ℕ)
    → HasWireStruct T → m ≡ n → c ≡ d → r ≡ x
    → RefusesBody base L T (offset + length c) m (take m r) R → RefusesBody base L T (offset + length d) n (take n x) S
    → R ≡ S
same_next {base = base} {L = L} {T = T} {m = m} {n = n} {c = c} {d = d} {r = r} {x = x} {R = R} offset w e f g p q =
    let P : ℕ → List ℕ → List ℕ → Type 0 = λ m c r. RefusesBody base L T (offset + length c) m (take m r) R in
    body_once w (subst (λ r. P n d r) g (subst (λ c. P n c r) f (subst (λ m. P m c r) e p))) q

pub next_once : {base : Table} {L : Bounds} {T : Table} {offset : ℕ} {z : List ℕ} {R S : Refusal} → HasWireStruct T
    → RefusesNext base L T offset z R → RefusesNext base L T offset z S → R ≡ S
next_once w (refused_count p) (refused_count q) = count_once p q
next_once w (refused_count p) (refused_body r e u l k q) = absurd (count_not r p u e l k)
next_once w (refused_body r e u l k q) (refused_count p) = absurd (count_not r p u e l k)
next_once {offset = offset} w (refused_body r e u l k p) (refused_body x f v n o q) =
    let same = unsigned_prefix r x u v (sym e ∙ f) in same_next offset w same.value same.bytes same.rest p q
