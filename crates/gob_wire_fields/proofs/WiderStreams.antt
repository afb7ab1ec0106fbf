-- The outcome of bytes by the base table whose wireType has its later fields, and by the one that has the earlier ones
-- alone.
use Rattle.std.proofs.Common.{◌≡◌, ℕ, pos, negsuc, ◌+◌, ◌-◌, ◌<◌, ◌≤◌, ◌⊎◌, inl, inr, List, [], ◌∷◌, ◌++◌, length, take}
use Rattle.std.proofs.Common.{arith, refl, sym, ap, ◌∙◌, subst, append_assoc, length-append}
use Rattle.std.proofs.lemmas.List.{append-nil}
use Rattle.gob_num.specs.Unsigned.{IsUnsigned}
use Rattle.gob_num.specs.Signed.{IsSigned}
use Rattle.gob_types.specs.declared.id.TypeId.{TypeId}
use Rattle.gob_types.specs.declared.reason.Reason.{Reason}
use Rattle.gob_types.specs.Base.{base_table, wire_type}
use Rattle.gob_wire_fields.specs.BaseTable.{earlier_base_table}
use Rattle.gob_types.specs.Table.{Table}
use Rattle.gob_value.specs.Spelling.{Spells}
use Rattle.gob_value.specs.Top.{SpellsTop}
use Rattle.gob_read.specs.First.{IsFirst}
use Rattle.gob_stream.specs.declared.fault.Refusal.{Refusal}
use Rattle.gob_stream.specs.Bounds.{Bounds}
use Rattle.gob_stream.specs.Item.{StreamItem, defines, puts}
use Rattle.gob_stream.specs.Body.{Body, definition, value, MayDefine, MayPut}
use Rattle.gob_stream.specs.Stream.{IsItem, counted, AreItems, no_more, and_then, Stream}
use Rattle.gob_stream.specs.WriterRefusal.{RefusesId, reserved, defined_twice, too_many, RefusesType, private_type}
use Rattle.gob_stream.specs.WriterRefusal.{undefined, bottomless}
use Rattle.gob_stream.specs.Refusing.{behind, refuses, RefusesBody, short, refused_id, refused_type, refused_value}
use Rattle.gob_stream.specs.Refusing.{refused_description, described_wrongly}
use Rattle.gob_stream.specs.Refusing as refusing
use Rattle.gob_stream.specs.Outcome.{BeginsWithStream, LongestStream, RefusesNext, refused_count, refused_body, Ending}
use Rattle.gob_stream.specs.Outcome.{the_end, refused, EndsSo, at_the_end, next_refused, within_an_item, Outcome}
use Rattle.gob_wire_fields.specs.Earlier.{IsLaterField, RefusesLater, in_value, in_description, EndsAtLater, at_later}
use Rattle.gob_stream.proofs.PublicLaws.{NoNext, gives_items, one_more, counted_some}
use Rattle.gob_stream.proofs.PublicLaws.{take_prefix}
use Rattle.gob_stream.proofs.PublicLaws.{outcome_refused, outcome_within}
use Rattle.gob_wire_fields.proofs.WiderLaws.{IsWider, base_wider, more_wider, none_later, none_earlier, defined_later}
use Rattle.gob_wire_fields.proofs.WiderLaws.{defined_earlier, reaches_later, reaches_earlier, grounded_later}
use Rattle.gob_wire_fields.proofs.WiderLaws.{grounded_earlier, ready_later, ready_earlier}
use Rattle.gob_wire_fields.proofs.WiderSpelled.{spells_later, spells_earlier, LeadsIn}
use Rattle.gob_wire_fields.proofs.WiderExpects.{top_later, top_earlier, LeadsTop, leads_struct}
use Rattle.gob_wire_fields.proofs.WiderRefused.{leads_refused, refused_earlier, first_later, first_somehow}

-- ---- items on to the later fields

may_define_later : {L : Bounds} {T U : Table} {id : TypeId} → IsWider T U → MayDefine earlier_base_table L T id
    → MayDefine base_table L U id
may_define_later {L = L} {T = T} {id = id} w m =
    let room : length T < 17 + L.types = m.room in record {
      own = m.own;
      new = none_later id w m.new;
      room =
          omega (arith, w.size);
    }

may_put_later : {T U : Table} {t : TypeId} → IsWider T U → MayPut T t → MayPut U t
may_put_later w m = record { public = m.public; ready = ready_later w m.ready }

-- the types behind an item, in both
record LaterBody (L : Bounds) (U : Table) (i : StreamItem) (d : List ℕ) (V : Table) : Type 0 where
  table : Table
  body : Body base_table L U i d table
  wider : IsWider V table

body_later : {L : Bounds} {T U V : Table} {i : StreamItem} {d : List ℕ} → IsWider T U
    → Body earlier_base_table L T i d V → LaterBody L U i d V
body_later {U = U} w (definition {id = id} {s = s} m l ds n a p) = record {
  table = U ++ (id, s) ∷ [];
  body =
      definition (may_define_later w m) l ds n a (spells_later w p);
  wider = more_wider ((id, s) ∷ []) w;
}
body_later {U = U} w (value m l a p) = record {
  table = U;
  body = value (may_put_later w m) l a (top_later w p);
  wider =
      w;
}

pub record LaterStream (L : Bounds) (U : Table) (offset : ℕ) (items : List StreamItem) (b : List ℕ) (V : Table) : Type
    0 where
  pub table : Table
  pub stream : AreItems base_table L U offset items b table
  pub wider : IsWider V table

pub continues_later : {L : Bounds} {T U V : Table} {offset : ℕ} {items : List StreamItem} {b : List ℕ} → IsWider T U
    → AreItems earlier_base_table L T offset items b V → LaterStream L U offset items b V
continues_later {U = U} w no_more = record { table = U; stream = no_more; wider = w }
continues_later w (and_then (counted u l s p) e r) =
    let d = body_later w p in
    let c = continues_later d.wider r in
    record { table = c.table; stream = and_then (counted u l s d.body) e c.stream; wider = c.wider }

-- ---- what is refused, on to the later fields

id_later : {L : Bounds} {T U : Table} {id : TypeId} {r : Reason} → IsWider T U → RefusesId earlier_base_table L T id r
    → RefusesId base_table L U id r
id_later w (reserved n) = reserved n
id_later {id = id} w (defined_twice o n) = defined_twice o (λ e. n (none_earlier id w e))
id_later {L = L} {T = T} {U = U} {id = id} w (too_many o n f) = too_many o (none_later id w n)
    (λ (room : length U < 17 + L.types). f (let r : length T < 17 + L.types = omega (arith, w.size) in r))

type_later : {T U : Table} {t : TypeId} {r : Reason} → IsWider T U → RefusesType T t r → RefusesType U t r
type_later w (private_type e) = private_type e
type_later w (undefined {u = u} n h d l) = undefined n (reaches_later w h) (λ x. d (defined_earlier u w x))
    (λ v k x. l v (reaches_earlier w k) (λ y. x (defined_later v w y)))
type_later w (bottomless n all h g l) =
    bottomless n (λ v k. defined_later v w (all v (reaches_earlier w k))) (reaches_later w h)
    (λ x. g (grounded_earlier w x)) (λ v k x. l v (reaches_earlier w k) (λ y. x (grounded_later w y)))

body_refused_later : {L : Bounds} {T U : Table} {offset m : ℕ} {y : List ℕ} {R : Refusal} → IsWider T U
    → RefusesBody earlier_base_table L T offset m y R → RefusesBody base_table L U offset m y R
    ⊎ RefusesLater L T offset y R
body_refused_later w (refusing.RefusesBody.bad_head h) = inl (refusing.RefusesBody.bad_head h)
body_refused_later w (refusing.RefusesBody.not_minimal h) = inl (refusing.RefusesBody.not_minimal h)
body_refused_later w (short n h) = inl (short n h)
body_refused_later w (refused_id z e n s q) = inl (refused_id z e n s (id_later w q))
body_refused_later w (refused_type z e s q) = inl (refused_type z e s (type_later w q))
body_refused_later {L = L} {T = T} {U = U} {offset = offset} {m = m} {y = y} w (refused_value {t = t} {a = a} {R = R} z
    e s p f) = by (first_later w f)
  where
    by : IsFirst U t L.depth (m - length a) z R ⊎ IsLaterField T t z R
        → RefusesBody base_table L U offset m y (behind (offset + length a) R)
        ⊎ RefusesLater L T offset y (behind (offset + length a) R)
    by (inl g) = inl (refused_value z e s (may_put_later w p) g)
    by (inr x) = inr (in_value z e s p x)
body_refused_later {L = L} {T = T} {U = U} {offset = offset} {m = m} {y = y} w (refused_description {a = a} {R = R} z e
    n s p f) = by (first_later w f)
  where
    by : IsFirst U wire_type L.depth (m - length a) z R ⊎ IsLaterField T wire_type z R
        → RefusesBody base_table L U offset m y (behind (offset + length a) R)
        ⊎ RefusesLater L T offset y (behind (offset + length a) R)
    by (inl g) = inl (refused_description z e n s (may_define_later w p) g)
    by (inr x) = inr (in_description z e n s p x)
body_refused_later w (described_wrongly e l n s p q d x) =
    inl (described_wrongly e l n s (may_define_later w p) (spells_later w q) d x)

-- of a count, and of the body behind it
data NextLater (L : Bounds) (T : Table) (offset : ℕ) (z : List ℕ) (R : Refusal) : Type 0 where
  later_body : {m : ℕ} {c : List ℕ} (r : List ℕ) → z ≡ c ++ r → IsUnsigned m c
      → RefusesLater L T (offset + length c) (take m r) R → NextLater L T offset z R

next_later : {L : Bounds} {T U : Table} {offset : ℕ} {z : List ℕ} {R : Refusal} → IsWider T U
    → RefusesNext earlier_base_table L T offset z R → RefusesNext base_table L U offset z R ⊎ NextLater L T offset z R
next_later w (refused_count q) = inl (refused_count q)
next_later {L = L} {T = T} {U = U} {offset = offset} {z = z} w (refused_body {m = m} {c = c} {R = R} r e u l k q) =
    by (body_refused_later w q)
  where
    by : RefusesBody base_table L U (offset + length c) m (take m r) R ⊎ RefusesLater L T (offset + length c) (take m r)
        R → RefusesNext base_table L U offset z R ⊎ NextLater L T offset z R
    by (inl p) = inl (refused_body r e u l k p)
    by (inr x) = inr (later_body r e u x)

-- ---- back, where nothing is refused

may_define_earlier : {L : Bounds} {T U : Table} {id : TypeId} → IsWider T U → MayDefine base_table L U id
    → MayDefine earlier_base_table L T id
may_define_earlier {L = L} {U = U} {id = id} w m =
    let room : length U < 17 + L.types = m.room in record {
      own = m.own;
      new = none_earlier id w m.new;
      room =
          omega (arith, w.size);
    }

may_put_earlier : {T U : Table} {t : TypeId} → IsWider T U → MayPut U t → MayPut T t
may_put_earlier w m = record { public = m.public; ready = ready_earlier w m.ready }

id_earlier : {L : Bounds} {T U : Table} {id : TypeId} {r : Reason} → IsWider T U → RefusesId base_table L U id r
    → RefusesId earlier_base_table L T id r
id_earlier w (reserved n) = reserved n
id_earlier {id = id} w (defined_twice o n) = defined_twice o (λ e. n (none_later id w e))
id_earlier {L = L} {T = T} {U = U} {id = id} w (too_many o n f) = too_many o (none_earlier id w n)
    (λ (room : length T < 17 + L.types). f (let r : length U < 17 + L.types = omega (arith, w.size) in r))

type_earlier : {T U : Table} {t : TypeId} {r : Reason} → IsWider T U → RefusesType U t r → RefusesType T t r
type_earlier w (private_type e) = private_type e
type_earlier w (undefined {u = u} n h d l) = undefined n (reaches_earlier w h) (λ x. d (defined_later u w x))
    (λ v k x. l v (reaches_later w k) (λ y. x (defined_earlier v w y)))
type_earlier w (bottomless n all h g l) =
    bottomless n (λ v k. defined_earlier v w (all v (reaches_later w k))) (reaches_earlier w h)
    (λ x. g (grounded_later w x)) (λ v k x. l v (reaches_later w k) (λ y. x (grounded_earlier w y)))

-- nothing of the body is refused by the earlier base table
abbrev Unrefused : Bounds → Table → (offset m : ℕ) → List ℕ → Type 0
Unrefused L T offset m y = (R : Refusal) → ¬ RefusesBody earlier_base_table L T offset m y R

-- so a value in it leads to no later field
value_leads : {L : Bounds} {T U : Table} {offset m : ℕ} {t : TypeId} {y a : List ℕ} (z : List ℕ) → IsWider T U
    → Unrefused L T offset m y → y ≡ a ++ z → IsSigned (pos t.0) a → MayPut T t → LeadsTop T t z → ⊥
value_leads z w none e s p x = first_somehow (leads_refused w x) (λ R f. none _ (refused_value z e s p f))

description_leads : {L : Bounds} {T U : Table} {offset m n : ℕ} {id : TypeId} {y a : List ℕ} (z : List ℕ) → IsWider T U
    → Unrefused L T offset m y → y ≡ a ++ z → id.0 ≡ n + 1 → IsSigned (negsuc n) a → MayDefine earlier_base_table L T id
    → LeadsTop T wire_type z → ⊥
description_leads z w none e n s p x = first_somehow (leads_refused w x)
    (λ R f. none _ (refused_description z e n s p f))

wire_leads : {T U : Table} {z : List ℕ} → IsWider T U → LeadsIn T wire_type z → LeadsTop T wire_type z
wire_leads w x = leads_struct w.before tt x

body_refused_earlier : {L : Bounds} {T U : Table} {offset m : ℕ} {y : List ℕ} {R : Refusal} → IsWider T U
    → Unrefused L T offset m y → RefusesBody base_table L U offset m y R → ⊥
body_refused_earlier w none (refusing.RefusesBody.bad_head h) = none _ (refusing.RefusesBody.bad_head h)
body_refused_earlier w none (refusing.RefusesBody.not_minimal h) = none _ (refusing.RefusesBody.not_minimal h)
body_refused_earlier w none (short n h) = none _ (short n h)
body_refused_earlier w none (refused_id z e n s q) = none _ (refused_id z e n s (id_earlier w q))
body_refused_earlier w none (refused_type z e s q) = none _ (refused_type z e s (type_earlier w q))
body_refused_earlier w none (refused_value z e s p f) =
    elim (refused_earlier w f.refused) [
      | inl q ↦ first_somehow q (λ R g. none _ (refused_value z e s (may_put_earlier w p) g))
      | inr x ↦ value_leads z w none e s (may_put_earlier w p) x.leads
    ]
body_refused_earlier w none (refused_description z e n s p f) =
    elim (refused_earlier w f.refused) [
      | inl q ↦ first_somehow q (λ R g. none _ (refused_description z e n s (may_define_earlier w p) g))
      | inr x ↦ description_leads z w none e n s (may_define_earlier w p) x.leads
    ]
body_refused_earlier w none (described_wrongly {z = z} e l n s p q d x) =
    elim (spells_earlier w q) [
      | inl k ↦ none _ (described_wrongly e l n s (may_define_earlier w p) k d x)
      | inr y ↦ description_leads z w none e n s (may_define_earlier w p) (wire_leads w y)
    ]

-- nor of what comes next
abbrev pub NextUnrefused : Bounds → Table → ℕ → List ℕ → Type 0
NextUnrefused L T offset z = (R : Refusal) → ¬ RefusesNext earlier_base_table L T offset z R

next_refused_earlier : {L : Bounds} {T U : Table} {offset : ℕ} {z : List ℕ} {R : Refusal} → IsWider T U
    → NextUnrefused L T offset z → RefusesNext base_table L U offset z R → ⊥
next_refused_earlier w none (refused_count q) = none _ (refused_count q)
next_refused_earlier w none (refused_body r e u l k q) =
    body_refused_earlier w (λ R p. none R (refused_body r e u l k p)) q

record EarlierBody (L : Bounds) (T : Table) (i : StreamItem) (d : List ℕ) : Type 0 where
  table : Table
  body : Body earlier_base_table L T i d table

body_earlier : {L : Bounds} {T U V : Table} {offset m : ℕ} {i : StreamItem} {d : List ℕ} → IsWider T U
    → Unrefused L T offset m d → Body base_table L U i d V → EarlierBody L T i d
body_earlier {L = L} {T = T} w none (definition {id = id} {v = v} {s = s} {a = a} {b = b} p l ds n k q) =
    by (spells_earlier w q)
  where
    by : Spells T wire_type v b ⊎ LeadsIn T wire_type b → EarlierBody L T (defines id v) (a ++ b)
    by (inl h) = record { table = _; body = definition (may_define_earlier w p) l ds n k h }
    by (inr x) = absurd (description_leads b w none refl n k (may_define_earlier w p) (wire_leads w x))
body_earlier {L = L} {T = T} w none (value {t = t} {v = v} {a = a} {b = b} p l k q) = by (top_earlier w q)
  where
    by : SpellsTop T t v b ⊎ LeadsTop T t b → EarlierBody L T (puts t v) (a ++ b)
    by (inl h) = record { table = _; body = value (may_put_earlier w p) l k h }
    by (inr x) = absurd (value_leads b w none refl k (may_put_earlier w p) x)

record EarlierItem (L : Bounds) (T : Table) (offset : ℕ) (i : StreamItem) (b : List ℕ) : Type 0 where
  table : Table
  item : IsItem earlier_base_table L T offset i b table

counted_earlier : {L : Bounds} {T U V : Table} {offset : ℕ} {i : StreamItem} {z b : List ℕ} (y : List ℕ) → IsWider T U
    → NextUnrefused L T offset z → IsItem base_table L U offset i b V → z ≡ b ++ y → EarlierItem L T offset i b
counted_earlier {L = L} {T = T} {offset = offset} {z = z} y w none (counted {c = c} {d = d} u l s p) e =
    let same : d ≡ take (length d) (d ++ y) = sym (take_prefix d y) in
    let h = body_earlier {offset = offset + length c} {m = length d} w
    (λ R q. none R (refused_body (d ++ y) (e ∙ append_assoc c d y) u l (omega (arith, s, length-append c d))
    (subst (λ x. RefusesBody earlier_base_table L T (offset + length c) (length d) x R) same q))) p in
    record { table = h.table; item = counted u l s h.body }

-- ---- the outcome

nothing_next : {base : Table} {L : Bounds} {T : Table} {offset : ℕ} → NoNext base L T offset []
nothing_next i U b y q e = let some = counted_some q in absurd (omega (arith, ap length e, length-append b y))

-- no item stands next where the bytes give no more items by the earlier base table
no_item_next : {L : Bounds} {T U : Table} {items : List StreamItem} {bytes f z : List ℕ} → IsWider T U
    → Stream earlier_base_table L items f T → bytes ≡ f ++ z
    → ((others : List StreamItem) → BeginsWithStream earlier_base_table L bytes others → length others ≤ length items)
    → NextUnrefused L T (length f) z → NoNext base_table L U (length f) z
no_item_next {items = items} {f = f} {z = z} w p e longest none i V b y q g =
    let h = counted_earlier y w none q g in
    let few = longest (items ++ i ∷ []) (record {
      prefix = f ++ b;
      rest = y;
      table = h.table;
      stream =
          one_more {next = length f} p (omega arith) h.item;
      whole = e ∙ ap (λ z. f ++ z) g ∙ sym (append_assoc f b y);
    })
    in
    absurd (omega (arith, length-append items (i ∷ [])))

pub outcomes_stay : (L : Bounds) (bytes : List ℕ) (items : List StreamItem) (e : Ending)
    → Outcome earlier_base_table L bytes items e → Outcome base_table L bytes items e ⊎ EndsAtLater L bytes items e
outcomes_stay L bytes items e o = by e o.ends
  where
    by : (e : Ending) → EndsSo earlier_base_table L bytes items e → Outcome base_table L bytes items e
        ⊎ EndsAtLater L bytes items e
    by the_end (at_the_end p) =
        let c = continues_later base_wider p in
        inl (record {
          gives = subst (λ b. LongestStream base_table L b items) (append-nil bytes)
              (gives_items [] c.stream nothing_next);
          ends = at_the_end c.stream;
        })
    by (refused R) (next_refused {f = f} {T = T} z p g r) = next (continues_later base_wider p)
      where
        next : LaterStream L base_table 0 items f T → Outcome base_table L bytes items (refused R)
            ⊎ EndsAtLater L bytes items (refused R)
        next c = found (next_later c.wider r)
          where
            found : RefusesNext base_table L c.table (length f) z R ⊎ NextLater L T (length f) z R
                → Outcome base_table L bytes items (refused R) ⊎ EndsAtLater L bytes items (refused R)
            found (inl q) = inl (outcome_refused z g c.stream q)
            found (inr (later_body r e u x)) = inr (at_later r p (g ∙ ap (λ z. f ++ z) e) u x)
    by _ (within_an_item z p g n none) =
        let c = continues_later base_wider p in
        inl (outcome_within z g c.stream n (no_item_next c.wider p g o.gives.longest none)
        (λ R q. next_refused_earlier c.wider none q))
