-- Where a reader stands within an item: no item is whole, and nothing is refused that the bytes so far show.
use Rattle.std.proofs.Common.{Bool}
use Rattle.std.proofs.Common.{◌≡◌, ℕ, ◌+◌, ◌-◌, ◌<◌, ◌≤◌, inl, inr, List, [], ◌∷◌, ◌++◌, length, take, arith, refl, sym}
use Rattle.std.proofs.Common.{ap, ◌∙◌, subst, append_assoc, length-append}
use Rattle.std.proofs.lemmas.List.{take_all}
use Rattle.gob_num.specs.Unsigned.{IsUnsigned}
use Rattle.gob_num.proofs.PublicLaws.{unsigned_prefix, signed_prefix, signed_unsigned}
use Rattle.gob_types.specs.Base.{base_table, wire_type}
use Rattle.gob_types.specs.Table.{Table}
use Rattle.gob_value.specs.Top.{SpellsTop}
use Rattle.gob_value.specs.Tree.{Tree}
use Rattle.gob_read.specs.Viable.{IsViable}
use Rattle.gob_read.proofs.PublicLaws.{prefix_not_number}
use Rattle.gob_read.proofs.Grammar.Compare.{whole_meets_top}
use Rattle.gob_read.proofs.Grammar.Prefixes.{same_end}
use Rattle.gob_stream.specs.declared.fault.Refusal.{Refusal}
use Rattle.gob_stream.specs.declared.stage.Extent.{Extent}
use Rattle.gob_stream.specs.Bounds.{Bounds}
use Rattle.gob_stream.specs.Refusing.{RefusesBody}
use Rattle.gob_stream.specs.Machine.HasRead.{IsCount}
use Rattle.gob_stream.proofs.Stream.RefusingLaws.{count_not}
use Rattle.gob_stream.proofs.Stream.ShownLaws.{take_past}
use Rattle.gob_filled.specs.Standing.{Level, Next, in_value, in_filling, Stands, IsWholeItem}
use Rattle.gob_filled.specs.Stream.{FilledItem, IsFilledItem, of_definition, of_value, AreCounted, last_counted}
use Rattle.gob_filled.specs.Stream.{next_counted}
use Rattle.gob_filled.specs.Outcome.{RefusesAt, RefusesFilled, refused_count, refused_body, refused_value}
use Rattle.gob_filled.proofs.Prefix.{unmet, further, not_defined}
use Rattle.gob_filled.proofs.Final.{rests}
use Rattle.gob_filled.proofs.OneWay.{State, state, bytes_of, Step, by_name, one_way}
use Rattle.gob_filled.proofs.Refused.{Begins, begins}
use Rattle.gob_filled.proofs.Complete.{stands_so}
use Rattle.gob_go.specs.Machine.HasRead.{PartHasRead, in_skeleton, in_name_length, in_name, in_held_number}
use Rattle.gob_go.specs.Machine.HasRead.{in_held_description, in_next_count, in_inner_count, StageHasRead, in_count}
use Rattle.gob_go.specs.Machine.HasRead.{in_type_number, in_definition, in_put, DescriptionIs}
use Rattle.gob_go.specs.Reading.{LeadsAtMostTo, LeadsToTypes, behind_whole}
use Rattle.gob_go.specs.declared.description.DescriptionStage.{DescriptionStage}
use Rattle.gob_go.specs.declared.levels.Levels.{Levels}
use Rattle.gob_go.specs.declared.part.PutPart.{PutPart}
use Rattle.gob_go.specs.declared.stage.Stage.{Stage}
use Rattle.gob_go.proofs.AtRestLaws.{count_begun, number_begun, description_begun, pos_negsuc, skeleton_step}
use Rattle.gob_go.proofs.AtRestLaws.{skeleton_refusal, nil_viable, name_step, name_refusal, held_number_step}
use Rattle.gob_go.proofs.AtRestLaws.{held_number_refusal, held_description_step, held_description_refusal}
use Rattle.gob_go.proofs.ItemsLaws.{Grown, same_grown, grown_on, defines_grown, stands_grown, prefix_few}
use Rattle.gob_go.proofs.LeadingLaws.{DefinesAtMost, leads_at_most, leads_nowhere, none_in_value, none_so_short}
use Rattle.gob_go.proofs.LeadingLaws.{one_defined, stands_lead, stays}
use Rattle.gob_go.proofs.NestedLaws.{levels_nest, within_stream}
use Rattle.gob_go.proofs.AtRestLaws.{next_count_step, next_count_refusal, inner_count_step, inner_count_refusal}

-- ---- in the item of a value

-- the bytes stand so far, where no step leads on over those that follow, and these are no refusal
-- these are all types where they lead
pub record AtRest (L : Bounds) (T : Table) (offset : ℕ) (U : Table) (y : List ℕ) : Type 0 where
  pub before : List ℕ
  pub behind : List ℕ
  pub table : Table
  pub levels : List Level
  pub next : Next
  pub left : ℕ
  pub stands : Stands base_table L T offset before table levels next left
  pub whole : y ≡ before ++ behind
  pub no_step : (p x : List ℕ) (S : State) → Step base_table L offset (state before table levels next left) p S
      → p ++ x ≡ behind → ⊥
  pub no_refusal : (R : Refusal) → RefusesAt base_table L (offset + length before) table behind levels next left R → ⊥
  pub goes_on : (lv : Level) → levels ≡ lv ∷ [] → next ≡ in_value → offset + length (before ++ behind) < lv.end
  pub types : DefinesAtMost L offset (state before table levels next left) behind U
  pub leads : LeadsToTypes L T offset y U

room_of : {lv l : Level} {around : List Level} {n : ℕ} → lv ∷ around ≡ l ∷ [] → n < lv.end → n < l.end
room_of {lv = lv} {l = l} {n = n} e r = let same : lv ≡ l = cc in subst (λ (l : Level). n < l.end) same r

not_in_value : {d : ℕ} {A : Type 0} → in_filling d ≡ in_value → A
not_in_value e = cc

description_viable : {L : Bounds} {U : Table} {stage : DescriptionStage} {begin end : ℕ} {a y : List ℕ}
    → DescriptionIs L U stage begin end a y → IsViable U wire_type L.depth (end - begin - length a) y
description_viable {L = L} {U = U} {y = y} d =
    let b = d.begins in let e = d.ends in
    subst (λ n. IsViable U wire_type L.depth n y) (omega arith) d.read.viable

rests_at : {L : Bounds} {T S U : Table} {offset : ℕ} {z : List ℕ} {levels : List Level} {next : Next} {left : ℕ}
    (behind : List ℕ) → Stands base_table L T offset z S levels next left
    → ((p x : List ℕ) (R : State) → Step base_table L offset (state z S levels next left) p R → p ++ x ≡ behind → ⊥)
    → ((R : Refusal) → RefusesAt base_table L (offset + length z) S behind levels next left R → ⊥)
    → ((lv : Level) → levels ≡ lv ∷ [] → next ≡ in_value → offset + length (z ++ behind) < lv.end)
    → DefinesAtMost L offset (state z S levels next left) behind U → LeadsToTypes L T offset (z ++ behind) U
    → AtRest L T offset U (z ++ behind)
rests_at {S = S} {z = z} {levels = levels} {next = next} {left = left} behind p step refusal on types leads = record {
  before = z;
  behind = behind;
  table = S;
  levels = levels;
  next = next;
  left = left;
  stands = p;
  whole = refl;
  no_step = step;
  no_refusal = refusal;
  goes_on = on;
  types = types;
  leads = leads;
}

pub part_at_rest : {keep : Bool} {L : Bounds} {T U : Table} {offset : ℕ} {levels : Levels} {next : PutPart} {y : List ℕ}
    → PartHasRead keep L T offset U levels next y → AtRest L T offset U y
part_at_rest {offset = offset} (in_skeleton {z = z} {lv = lv} c p said w o) =
    let r = w.rest in let short = w.viable.room in
    let room : offset + length (z ++ c) < lv.end = omega arith in
    let announced : w.announced ≡ length lv.done + (lv.end - (offset + length z)) =
    omega (arith, length-append z c, length-append lv.done c) in
    let viable = subst (λ n. IsViable lv.table lv.type lv.limit n (lv.done ++ c)) announced w.viable in
    rests_at c p (λ q x S s e. skeleton_step x w.viable room s e) (λ R h. skeleton_refusal viable h)
    (λ l e f. room_of e room) none_in_value (stands_lead c (z ++ c) p refl)
part_at_rest {offset = offset} (in_name_length {z = z} {lv = lv} c a p said n o num rest) =
    let r = num.room in
    let room : offset + length (z ++ (c ++ a)) < lv.end =
    omega (arith, length-append z c, length-append z (c ++ a), length-append c a) in
    let viable = nil_viable (offset + length z) c lv n.expects n.not_deep n.shallow num.prefix
    (omega (arith, length-append z (c ++ a))) in
    rests_at (c ++ a) p (λ q x S s e. skeleton_step x viable room s e) (λ R h. skeleton_refusal viable h)
    (λ l e f. room_of e room) none_in_value (stands_lead (c ++ a) (z ++ (c ++ a)) p refl)
part_at_rest (in_name {z = z} c a s p said n o rest u size some fits name defs room) =
    rests_at (c ++ (a ++ s)) p (λ q x S st e. name_step c s x n.expects u (omega arith) room st e)
    (λ R h. name_refusal c s n.expects n.not_deep n.shallow u (omega arith)
    (omega (arith, length-append z (c ++ (a ++ s)))) h) (λ l e f. room_of e room) none_in_value
    (stands_lead (c ++ (a ++ s)) (z ++ (c ++ (a ++ s))) p refl)
part_at_rest (in_held_number {z = z} a p said n o held num) =
    let r = num.room in
    rests_at a p (λ q x S s e. held_number_step x num.prefix s e)
    (λ R h. held_number_refusal num.prefix (omega arith) h) (λ l e f. not_in_value f)
    (none_so_short (omega (arith, length-append z a))) (stands_lead a (z ++ a) p refl)
part_at_rest {offset = offset} (in_held_description {z = z} {lv = lv} a y p said n o held desc) =
    let viable = description_viable desc in let short = viable.room in
    let room : offset + length (z ++ (a ++ y)) < lv.end =
    omega (arith, length-append z (a ++ y), length-append a y) in
    rests_at (a ++ y) p (λ q x S s e. held_description_step y x desc.number room s e)
    (λ R h. held_description_refusal desc.id_is desc.number desc.may viable h) (λ l e f. not_in_value f)
    (none_so_short room) (stands_lead (a ++ y) (z ++ (a ++ y)) p refl)
part_at_rest (in_next_count {z = z} {b = b} q p said def_ ends n o held num) =
    rests_at (b ++ q) p (λ r x R s e. next_count_step x def_ num.prefix s e)
    (λ R h. next_count_refusal def_ (omega (arith, length-append z b)) num.prefix num.room h)
    (λ l e f. not_in_value f) (one_defined q def_) (behind_whole q p def_ ends refl)
part_at_rest (in_inner_count {z = z} {n = n} q p said may sg nil o held num) =
    let r = num.room in
    rests_at (n ++ q) p (λ r x S s e. inner_count_step x sg num.prefix s e)
    (λ R h. inner_count_refusal may sg num.prefix (omega (arith, length-append z n)) h) (λ l e f. not_in_value f)
    (none_so_short (omega (arith, length-append z n, length-append z (n ++ q), length-append n q)))
    (stands_lead (n ++ q) (z ++ (n ++ q)) p refl)

-- ---- nothing leads on
abbrev AtState : Bounds → ℕ → State → List ℕ → Refusal → Type 0
AtState L offset (state y U levels next left) w R = RefusesAt base_table L (offset + length y) U w levels next left R

-- so the bytes are not refused
rest_unrefused : {L : Bounds} {T U : Table} {offset : ℕ} {y : List ℕ} {R : Refusal} (a : AtRest L T offset U y)
    → Begins L T offset y → RefusesFilled base_table L T offset y R → ⊥
rest_unrefused a b (refused_count h) = count_not (b.number ++ b.rest) h b.counts b.whole b.item b.stream
rest_unrefused a b (refused_body {m = m} r e u l s h ns) =
    let count = unsigned_prefix (b.number ++ b.rest) r b.counts u (sym b.whole ∙ e) in
    let few = b.short in let v = count.value in
    ns.no_type b.type b.number (take (m - length b.number) b.rest)
    (ap (λ r. take m r) (sym count.rest) ∙ take_past b.number b.rest m (omega arith)) b.names b.may
rest_unrefused {L = L} {offset = offset} {R = R} a b (refused_value {U = U} {y = z} {w = w} {levels = levels}
    {next = next} {left = left} e p h) =
    elim (one_way a.behind w a.stands p (sym a.whole ∙ e)) [
      | inl o ↦ same (stays w a.no_step o (sym a.whole ∙ e))
      | inr o ↦ same (sym (rests a.behind refl h o (sym e ∙ a.whole)))
    ]
  where
    same : state a.before a.table a.levels a.next a.left ≡ state z U levels next left → ⊥
    same k =
        let there : AtState L offset (state a.before a.table a.levels a.next a.left) w R =
        subst (λ s. AtState L offset s w R) (sym k) h in
        let eb : a.before ≡ z = ap bytes_of k in
        let ew : w ≡ a.behind = sym (same_end a.before a.behind w (sym a.whole ∙ e ∙ ap (λ (l : List ℕ). l ++ w)
        (sym eb))) in
        a.no_refusal R (subst (λ w. AtState L offset (state a.before a.table a.levels a.next a.left) w R) ew there)

-- no step is left where the outermost value is whole
no_further : {L : Bounds} {offset left : ℕ} {b p : List ℕ} {U : Table} {lv : Level} {v : Tree} {S : State}
    (rest x w : List ℕ) → SpellsTop lv.table lv.type v (lv.done ++ rest)
    → Step base_table L offset (state b U (lv ∷ []) in_value left) p S → p ++ w ≡ rest ++ x → ⊥
no_further {lv = lv} rest x w sp (by_name {a = a} c s ex dl sh some u fit) e =
    unmet s (s ++ w) some u (whole_meets_top (a ++ (s ++ w)) x sp ex
    (further lv.done c (a ++ (s ++ w)) ∙ ap (λ (l : List ℕ). lv.done ++ l) (sym (grouped c a s w) ∙ e)
    ∙ sym (further lv.done rest x)))
  where
    grouped : (c a s x : List ℕ) → (c ++ (a ++ s)) ++ x ≡ c ++ (a ++ (s ++ x))
    grouped c a s x = simp append_assoc

abbrev levels_of : State → List Level
levels_of (state z U levels next left) = levels

abbrev next_of : State → Next
next_of (state z U levels next left) = next

-- nor do they begin with an item
rest_no_item : {L : Bounds} {T U V : Table} {offset : ℕ} {y b : List ℕ} {i : FilledItem} (x : List ℕ)
    (a : AtRest L T offset U y) → IsFilledItem base_table L T offset i b V → y ≡ b ++ x → ⊥
rest_no_item {y = y} x a (of_definition {c = c} {d = d} n l s p) e =
    let b = begins a.behind y a.stands a.whole in
    let count = unsigned_prefix (d ++ x) (b.number ++ b.rest) n b.counts (sym (append_assoc c d x) ∙ sym e ∙ b.whole) in
    not_defined b.rest x p b.names (sym count.rest)
rest_no_item {L = L} {T = T} {V = V} {offset = offset} {y = y} {b = b} x a (of_value may sg k cs) e =
    at_end (stands_so (of_value may sg k cs))
  where
    at_end : IsWholeItem base_table L T offset b V → ⊥
    at_end k =
        elim (one_way (k.rest ++ x) a.behind k.stands a.stands (sym there ∙ a.whole)) [
          | inl o ↦ same (sym (stays a.behind (λ p w R s e. no_further k.rest x w k.spelled s e) o (sym there
              ∙ a.whole)))
          | inr o ↦ same (stays (k.rest ++ x) a.no_step o (sym a.whole ∙ there))
        ]
      where
        there : y ≡ k.before ++ (k.rest ++ x)
        there = e ∙ ap (λ (l : List ℕ). l ++ x) k.whole ∙ append_assoc k.before k.rest x

        same : state a.before a.table a.levels a.next a.left ≡ state k.before V (k.level ∷ []) in_value k.left → ⊥
        same s =
            let few = a.goes_on k.level (ap levels_of s) (ap next_of s) in
            let ends = k.ends in
            omega (
              arith,
              ap length (sym a.whole ∙ there),
              length-append k.before (k.rest ++ x),
              length-append k.rest x,
              length-append k.before k.rest,
            )

-- ---- in any item

-- how an item begins
record Counts (offset : ℕ) (b : List ℕ) : Type 0 where
  size : ℕ
  count : List ℕ
  rest : List ℕ
  counted : IsUnsigned size count
  all_there : size ≤ length rest
  whole : b ≡ count ++ rest

segments_count : {L : Bounds} {most offset : ℕ} {ls f : List ℕ} → AreCounted L most offset ls f → Counts offset f
segments_count (last_counted {c = c} s o u l k) =
    record { size = length s; count = c; rest = s; counted = u; all_there = omega arith; whole = refl }
segments_count (next_counted {c = c} {f = f} s o u l k n m) = record {
  size = length s;
  count = c;
  rest = s ++ f;
  counted = u;
  all_there = omega (arith, length-append s f);
  whole = refl;
}

item_counts : {L : Bounds} {T U : Table} {offset : ℕ} {i : FilledItem} {b : List ℕ}
    → IsFilledItem base_table L T offset i b U → Counts offset b
item_counts (of_definition {c = c} {d = d} n l s p) =
    record { size = length d; count = c; rest = d; counted = n; all_there = omega arith; whole = refl }
item_counts (of_value may sg k cs) = segments_count cs

-- behind a count there is less than it says
pub fewer_no_item : {L : Bounds} {T U : Table} {offset m : ℕ} {c b : List ℕ} {i : FilledItem} (y x : List ℕ)
    → IsUnsigned m c → length y < m → IsFilledItem base_table L T offset i b U → c ++ y ≡ b ++ x → ⊥
fewer_no_item y x u few h e =
    let k = item_counts h in let all = k.all_there in
    let same = unsigned_prefix y (k.rest ++ x) u k.counted (e ∙ ap (λ (l : List ℕ). l ++ x) k.whole
    ∙ append_assoc k.count k.rest x) in
    let v = same.value in omega (arith, ap length same.rest, length-append k.rest x)

description_short : {L : Bounds} {offset m : ℕ} {c : List ℕ} {U : Table} {body : Extent} {stage : DescriptionStage}
    {a y : List ℕ} → IsCount L offset m c body → DescriptionIs L U stage body.begin body.end a y → length (a ++ y) < m
description_short {a = a} {y = y} k d =
    let short = (description_viable d).room in let e = k.end in omega (arith, length-append a y)

pub no_item_yet : {keep : Bool} {L : Bounds} {T U V : Table} {offset : ℕ} {expects : Stage} {y b : List ℕ}
    {i : FilledItem}
    (x : List ℕ) → StageHasRead keep L T offset U expects y → IsFilledItem base_table L T offset i b V → y ≡ b ++ x → ⊥
no_item_yet x (in_count q g n) h e =
    let k = item_counts h in
    prefix_not_number (k.rest ++ x) n.prefix k.counted (e ∙ ap (λ (l : List ℕ). l ++ x) k.whole
    ∙ append_assoc k.count k.rest x)
no_item_yet x (in_type_number a g k n) h e =
    let f = k.end in let r = n.room in fewer_no_item a x k.count (omega arith) h e
no_item_yet x (in_definition a y g k d) h e = fewer_no_item (a ++ y) x k.count (description_short k d) h e
no_item_yet x (in_put p) h e = rest_no_item x (part_at_rest p) h e

-- what is there of a body behind its count
body_there : {L : Bounds} {T : Table} (offset : ℕ) {m n : ℕ} {c d y : List ℕ} {R : Refusal} (r : List ℕ)
    → IsUnsigned m c
    → IsUnsigned n d → c ++ y ≡ d ++ r → length y < m → RefusesBody base_table L T (offset + length d) n (take n r) R
    → RefusesBody base_table L T (offset + length c) m y R
body_there {L = L} {T = T} offset {m = m} {n = n} {c = c} {d = d} {y = y} {R = R} r u v e l h =
    let same = unsigned_prefix y r u v e in
    let there = subst (λ r. RefusesBody base_table L T (offset + length c) m (take m r) R) (sym same.rest)
    (subst (λ (c : List ℕ). RefusesBody base_table L T (offset + length c) m (take m r) R) (sym same.bytes)
    (subst (λ m. RefusesBody base_table L T (offset + length d) m (take m r) R) (sym same.value) h)) in
    subst (λ y. RefusesBody base_table L T (offset + length c) m y R) (take_all m y (omega arith)) there

pub unrefused : {keep : Bool} {L : Bounds} {T U : Table} {offset : ℕ} {expects : Stage} {y : List ℕ} {R : Refusal}
    → StageHasRead keep L T offset U expects y → RefusesFilled base_table L T offset y R → ⊥
unrefused (in_count q g n) (refused_count h) = count_begun n.prefix h
unrefused (in_count q g n) (refused_body r e u l s h ns) = prefix_not_number r n.prefix u e
unrefused (in_count q g n) (refused_value {w = w} e p h) =
    let b = begins w q p e in prefix_not_number (b.number ++ b.rest) n.prefix b.counts b.whole
unrefused (in_type_number a g k n) (refused_count h) = count_not a h k.count refl k.item k.stream
unrefused {offset = offset} (in_type_number a g k n) (refused_body r e u l s h ns) =
    let f = k.end in let room = n.room in
    number_begun n.prefix (omega arith) (body_there offset r k.count u e (omega arith) h)
unrefused (in_type_number {c = c} a g k n) (refused_value {w = w} e p h) =
    let b = begins w (c ++ a) p e in
    let count = unsigned_prefix a (b.number ++ b.rest) k.count b.counts b.whole in
    prefix_not_number b.rest n.prefix (signed_unsigned b.names).1 count.rest
unrefused (in_definition a y g k d) (refused_count h) = count_not (a ++ y) h k.count refl k.item k.stream
unrefused {L = L} {T = T} {U = U} {offset = offset} {R = R} (in_definition {m = m} {c = c} a y g k d)
    (refused_body r e u l s h ns) =
    let few = description_short k d in let b = k.begin in let f = k.end in
    description_begun d.id_is d.number d.may
    (subst (λ n. IsViable U wire_type L.depth n y) (omega arith) (description_viable d))
    (subst (λ T. RefusesBody base_table L T (offset + length c) m (a ++ y) R) (sym g)
    (body_there offset r k.count u e few h))
unrefused (in_definition {c = c} a y g k d) (refused_value {w = w} e p h) =
    let b = begins w (c ++ (a ++ y)) p e in
    let count = unsigned_prefix (a ++ y) (b.number ++ b.rest) k.count b.counts b.whole in
    pos_negsuc (signed_prefix b.rest y b.names d.number (sym count.rest)).value
unrefused {y = y} (in_put p) h = let a = part_at_rest p in rest_unrefused a (begins a.behind y a.stands a.whole) h

-- the types are all where the bytes so far lead
pub under_way_lead : {keep : Bool} {L : Bounds} {T U : Table} {offset : ℕ} {expects : Stage} {y : List ℕ}
    → StageHasRead keep L T offset U expects y → LeadsAtMostTo L T offset y U
under_way_lead (in_count q g n) =
    leads_nowhere g (λ b. prefix_not_number (b.number ++ b.rest) n.prefix b.counts b.whole)
under_way_lead (in_type_number a g k n) = leads_nowhere g (λ b.
    let count = unsigned_prefix a (b.number ++ b.rest) k.count b.counts b.whole in
    prefix_not_number b.rest n.prefix (signed_unsigned b.names).1 count.rest)
under_way_lead (in_definition a y g k d) = leads_nowhere g (λ b.
    let count = unsigned_prefix (a ++ y) (b.number ++ b.rest) k.count b.counts b.whole in
    pos_negsuc (signed_prefix b.rest y b.names d.number (sym count.rest)).value)
under_way_lead (in_put p) = let a = part_at_rest p in leads_at_most a.behind a.stands a.whole a.no_step a.types a.leads

-- ---- types
part_grown : {keep : Bool} {L : Bounds} {T U : Table} {offset : ℕ} {levels : Levels} {next : PutPart} {y : List ℕ}
    → PartHasRead keep L T offset U levels next y → Grown T U
part_grown (in_skeleton c p said w o) = stands_grown p
part_grown (in_name_length c a p said n o num rest) = stands_grown p
part_grown (in_name c a s p said n o rest u size some fits name defs room) = stands_grown p
part_grown (in_held_number a p said n o held num) = stands_grown p
part_grown (in_held_description a y p said n o held desc) = stands_grown p
part_grown (in_next_count q p said def_ ends n o held num) = grown_on (stands_grown p) (defines_grown def_)
part_grown (in_inner_count q p said may sg nil o held num) = stands_grown p

-- the table says of each type what the one before the item said
pub stage_grown : {keep : Bool} {L : Bounds} {T U : Table} {offset : ℕ} {expects : Stage} {y : List ℕ}
    → StageHasRead keep L T offset U expects y → Grown T U
stage_grown (in_count q g n) = same_grown g
stage_grown (in_type_number a g k n) = same_grown g
stage_grown (in_definition a y g k d) = same_grown g
stage_grown (in_put p) = part_grown p

-- ---- how far bytes come
part_bound : {keep : Bool} {L : Bounds} {T U : Table} {offset : ℕ} {levels : Levels} {next : PutPart} {y : List ℕ}
    → PartHasRead keep L T offset U levels next y → offset + length y ≤ L.stream + 9
part_bound {L = L} {offset = offset} (in_skeleton {z = z} {lv = lv} {around = around} c p said w o) =
    let s = within_stream L around lv _ (levels_nest p) in let r = w.rest in let short = w.viable.room in omega arith
part_bound {L = L} (in_name_length {z = z} {lv = lv} {around = around} c a p said n o num rest) =
    let s = within_stream L around lv _ (levels_nest p) in let r = num.room in
    omega (arith, length-append z c, length-append z (c ++ a), length-append c a)
part_bound {L = L} (in_name {lv = lv} {around = around} c a s p said n o rest u size some fits name defs room) =
    let k = within_stream L around lv _ (levels_nest p) in omega arith
part_bound {L = L} (in_held_number {z = z} {lv = lv} {around = around} a p said n o held num) =
    let s = within_stream L around lv _ (levels_nest p) in let r = num.room in omega (arith, length-append z a)
part_bound {L = L} (in_held_description {z = z} {lv = lv} {around = around} a y p said n o held desc) =
    let s = within_stream L around lv _ (levels_nest p) in let short = (description_viable desc).room in
    omega (arith, length-append z (a ++ y), length-append a y)
part_bound {L = L} (in_next_count {z = z} {b = b} {lv = lv} {around = around} q p said def_ ends n o held num) =
    let s = within_stream L around lv _ (levels_nest p) in let few = prefix_few num.prefix in
    omega (arith, length-append z (b ++ q), length-append z b, length-append b q)
part_bound {L = L} (in_inner_count {z = z} {n = n} {lv = lv} {around = around} q p said may sg nil o held num) =
    let s = within_stream L around lv _ (levels_nest p) in let r = num.room in
    omega (arith, length-append z (n ++ q), length-append z n, length-append n q)

-- all but those of a count end within the stream's limit
pub stage_bound : {keep : Bool} {L : Bounds} {T U : Table} {offset : ℕ} {expects : Stage} {y : List ℕ}
    → offset ≤ L.stream
    → StageHasRead keep L T offset U expects y → offset + length y ≤ L.stream + 9
stage_bound l (in_count q g n) = let few = prefix_few n.prefix in omega arith
stage_bound l (in_type_number {c = c} a g k n) =
    let s = k.stream in let b = k.begin in let e = k.end in let r = n.room in omega (arith, length-append c a)
stage_bound l (in_definition {c = c} a y g k d) =
    let s = k.stream in let few = description_short k d in omega (arith, length-append c (a ++ y))
stage_bound l (in_put p) = part_bound p
