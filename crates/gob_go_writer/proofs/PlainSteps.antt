-- The spelling of a value in which no interface holds anything, where it stands whole as the next item.
use Rattle.std.proofs.Common.{◌≡◌, ℕ, pos, List, [], ◌∷◌, ◌++◌, length, take, drop, min, Bool, true, arith, refl}
use Rattle.std.proofs.Common.{sym, ap, ◌∙◌, subst, append_assoc, append-nil, take-append-drop, length-append, ◌==◌}
use Rattle.std.proofs.lemmas.Bool.Decides.{nat_tests}
use Rattle.gob_num.specs.Signed.{IsSigned}
use Rattle.gob_num.specs.Unsigned.{AreBytes}
use Rattle.gob_num.proofs.PublicLaws.{bytes-append, signed_prefix, signed_unsigned, unsigned_bytes, unsigned_prefix}
use Rattle.gob_types.specs.Base.{base_table}
use Rattle.gob_types.specs.Defined.{types}
use Rattle.gob_types.specs.Table.{Table}
use Rattle.gob_types.specs.declared.id.TypeId.{TypeId}
use Rattle.gob_value.specs.Whole.{IsWhole}
use Rattle.gob_stream.specs.Bounds.{Bounds, within_trees}
use Rattle.gob_stream.specs.Item.{puts}
use Rattle.gob_stream.specs.Whole.{HasBody}
use Rattle.gob_stream.proofs.PublicLaws.{same_id, whole_item}
use Rattle.gob_filled.specs.Filled.{AreSegments, no_filling}
use Rattle.gob_filled.specs.Filled as spelled
use Rattle.gob_filled.specs.Stream.{FilledItem, FilledStream, IsFilledItem, putting}
use Rattle.gob_filled.proofs.Contained.{item_stays}
use Rattle.gob_go.specs.Calls.Session.{HasItemNext, IsNext, ReadsOn, limits_of, table_of, types_of}
use Rattle.gob_go.specs.Machine.SessionState.{SessionState}
use Rattle.gob_go.specs.Meaning.{AreFillings, ItemMeans, is_filled, means_value, no_fillings}
use Rattle.gob_go.specs.declared.filled.Filled.{Filled, out-Filled}
use Rattle.gob_go.specs.declared.filled.Filling.{Filling}
use Rattle.gob_go.specs.declared.item.GoItem.{GoItem}
use Rattle.gob_go.specs.declared.item.GoItem.TheVariants as item
use Rattle.gob_go.proofs.ItemsLaws.{one_more}
use Rattle.gob_go_writer.specs.Calls.Writer.{HasReadWhole}
use Rattle.gob_go_writer.specs.Machine.ReadingBack.{IsPlainNext, IsPlainSpelling, ReadsBack}
use Rattle.gob_go_writer.specs.Spelling.{IsSpelling, SpellsRest}
use Rattle.gob_go_writer.specs.Spelling as spelling
use Rattle.gob_go_writer.proofs.ItemSteps.{one_segment}

nothing_in : {A : Type 0} (l : List A) → length l ≡ 0 → l ≡ []
nothing_in [] e = refl
nothing_in (x ∷ l) e = absurd (omega arith)

-- ---- an item without fillings

pub none_in : {A : Type 0} (l : List A) (n : ℕ) (b : Bool) → n ≡ length l → b ≡ (n == 0) → b ≡ true → l ≡ []
none_in l n b e f g = nothing_in l (let h : n ≡ 0 = grind (arith, nat_tests) in omega arith)

rest_is : {T : Table} {skeleton ls : List ℕ} {fs : List Filling} → fs ≡ [] → SpellsRest T skeleton 0 fs ls
    → ls ≡ skeleton
rest_is e spelling.as_it_stands = refl
rest_is e (spelling.next_filled low high h r) = absurd (cc)

pub plain_spelling : {T : Table} {given : GoItem} {id : TypeId} {kept : Filled} {bytes : List ℕ}
    → given ≡ item.Put id kept → (out-Filled kept).fillings.items ≡ [] → IsSpelling T given bytes
    → IsPlainSpelling id (out-Filled kept).skeleton.items bytes
plain_spelling {T = T} {id = id} {kept = kept} {bytes = bytes} is e sp =
    by (subst (λ i. IsSpelling T i bytes) is sp)
  where
    by : IsSpelling T (item.Put id kept) bytes → IsPlainSpelling id (out-Filled kept).skeleton.items bytes
    by (spelling.of_value {n = n} sg v k) = record {
      number = n;
      names = sg;
      segments = subst (λ l. AreSegments (n ++ l) bytes) (rest_is e v) k;
    }

-- ---- a body that stands at the front of the spelling

-- it is the skeleton, and nothing stands behind it
record IsSkeleton (id other : TypeId) (skeleton body : List ℕ) (used : ℕ) (bytes : List ℕ) : Type 0 where
  pub same : other ≡ id
  pub body_is : body ≡ skeleton
  pub whole : take used bytes ≡ bytes

signed_bytes : {n : ℕ} {b : List ℕ} → IsSigned (pos n) b → AreBytes b
signed_bytes sg = unsigned_bytes (signed_unsigned sg).1

pos_same : {m n : ℕ} → pos m ≡ pos n → m ≡ n
pos_same e = cc

skeleton_stands : {L : Bounds} {T : Table} {offset used : ℕ} {id other : TypeId} {skeleton body bytes : List ℕ}
    → AreBytes skeleton → IsPlainSpelling id skeleton bytes → HasBody L T offset other body used bytes
    → IsSkeleton id other skeleton body used bytes
skeleton_stands {used = used} {skeleton = skeleton} {body = body} {bytes = bytes} o p b =
    let n = p.number in
    let one = one_segment (bytes-append n skeleton (signed_bytes p.names) o) p.segments in
    let rest = drop used bytes in
    let split : take used bytes ++ rest ≡ bytes = take-append-drop used bytes in
    let e : one.count ++ (n ++ skeleton) ≡ b.count ++ ((b.number ++ body) ++ rest) =
    sym one.whole ∙ sym split ∙ ap (λ (l : List ℕ). l ++ rest) b.whole
    ∙ append_assoc b.count (b.number ++ body) rest in
    let first = unsigned_prefix (n ++ skeleton) ((b.number ++ body) ++ rest) one.counts b.counts e in
    let none : rest ≡ [] = nothing_in rest (omega (
      arith,
      first.value,
      ap length first.rest,
      length-append (b.number ++ body) rest,
    )) in
    let bodies : n ++ skeleton ≡ b.number ++ body =
    first.rest ∙ ap (λ (r : List ℕ). (b.number ++ body) ++ r) none ∙ append-nil (b.number ++ body) in
    let second = signed_prefix skeleton body p.names b.names bodies in
    record {
      same = same_id (pos_same (sym second.value));
      body_is = sym second.rest;
      whole = sym (append-nil (take used bytes)) ∙ ap (λ (r : List ℕ). take used bytes ++ r) (sym none) ∙ split;
    }

pub plain_next : (s : SessionState) {id other : TypeId} {skeleton body bytes : List ℕ} {used d : ℕ}
    → AreBytes skeleton → IsPlainSpelling id skeleton bytes
    → HasBody s.limits (types s.types) s.taken other body used bytes → d ≡ min s.limits.depth 1000
    → IsWhole (types s.types) id d skeleton → IsPlainNext s id skeleton bytes
plain_next s {id = id} {skeleton = skeleton} {body = body} {bytes = bytes} {used = used} o p b depth w =
    let k = skeleton_stands o p b in
    let here : HasBody s.limits (types s.types) s.taken id skeleton used bytes =
    subst (λ l. HasBody s.limits (types s.types) s.taken id l used bytes) k.body_is
    (subst (λ t. HasBody s.limits (types s.types) s.taken t body used bytes) k.same b) in
    record {
      value = w.value;
      spelled = w.spelled;
      next = subst (λ z. IsNext s (puts id w.value) z) k.whole (whole_item 1000 depth here w);
    }

-- ---- the session has gone past it

pub plain_item : {s : SessionState} {id : TypeId} {skeleton bytes : List ℕ} → IsPlainNext s id skeleton bytes
    → HasItemNext s bytes
plain_item {id = id} p = (puts id p.value, p.next)

pub plain_read : (s s' : SessionState) {given : GoItem} {id : TypeId} {kept : Filled} {bytes z : List ℕ}
    {items : List FilledItem} → given ≡ item.Put id kept → (out-Filled kept).fillings.items ≡ [] → AreBytes bytes
    → IsPlainNext s id (out-Filled kept).skeleton.items bytes → ReadsOn s s' bytes → table_of s' ≡ table_of s
    → limits_of s' ≡ limits_of s → HasReadWhole s items z → ReadsBack s s' items z given bytes
plain_read s s' {given = given} {id = id} {kept = kept} {bytes = bytes} {z = z} {items = items} is e o p on t l w =
    let L = within_trees s.limits in
    let T = types s.types in
    let i : FilledItem = putting id (spelled.filled p.value no_filling) in
    let there : IsFilledItem base_table L T s.taken i bytes T = item_stays o p.next in
    let here : IsFilledItem base_table L T (length z) i bytes T =
    subst (λ n. IsFilledItem base_table L T n i bytes T) w.read.taken there in
    let means : ItemMeans T (item.Put id kept) i = means_value (is_filled p.spelled
    (subst (λ fs. AreFillings T fs no_filling) (sym e) no_fillings)) in
    let stream : FilledStream base_table L (items ++ i ∷ []) (z ++ bytes) T =
    one_more w.stream (omega arith) here in
    record {
      item = i;
      means = subst (λ d. ItemMeans (types d) given i) (sym t) (subst (λ k. ItemMeans T k i) (sym is) means);
      is = subst (λ d. IsFilledItem base_table L T (length z) i bytes (types d)) (sym t) here;
      whole = record {
        read = on items z (puts id p.value) w.read p.next;
        stream = subst (λ (M : Bounds). FilledStream base_table (within_trees M) (items ++ i ∷ []) (z ++ bytes)
            (types_of s')) (sym l)
            (subst (λ d. FilledStream base_table L (items ++ i ∷ []) (z ++ bytes) (types d)) (sym t) stream);
      };
    }
