-- A refusal is the same whatever follows the bytes that show it.
use Rattle.std.proofs.Common.{◌≡◌, ℕ, ◌+◌, ◌-◌, ◌<◌, ◌≤◌, ◌⊎◌, inl, inr, List, [], ◌∷◌, ◌++◌, length, take}
use Rattle.std.proofs.Common.{drop}
use Rattle.std.proofs.Common.{arith, refl, sym, ap, ◌∙◌, subst, append_assoc, length-append}
use Rattle.std.proofs.lemmas.Bool.{cases_lt}
use Rattle.std.proofs.lemmas.List.{take-append-le, take-append-drop, length-take}
use Rattle.gob_num.specs.Unsigned.{IsUnsigned, IsUnsignedPrefix}
use Rattle.gob_num.specs.Unsigned as unsigned
use Rattle.gob_num.proofs.PublicLaws.{unsigned_length}
use Rattle.gob_types.specs.Base.{wire_type}
use Rattle.gob_types.specs.Table.{Table}
use Rattle.gob_types.proofs.PublicLaws.{Keeps}
use Rattle.gob_value.specs.Top.{HasStructs}
use Rattle.gob_read.specs.Expected.{a_number, nil, within_number}
use Rattle.gob_read.specs.Expects.{ExpectsTop}
use Rattle.gob_read.specs.First.{IsFirst}
use Rattle.gob_read.specs.Refusal as body
use Rattle.gob_read.specs.Viable.{IsShallow, IsViable}
use Rattle.gob_read.proofs.PublicLaws.{append_nil, nothing_yet, seen_within}
use Rattle.gob_stream.specs.declared.fault.Refusal.{Refusal}
use Rattle.gob_stream.specs.Bounds.{Bounds}
use Rattle.gob_stream.specs.Refusing.{RefusesBody, RefusesCount}
use Rattle.gob_stream.specs.Refusing as counts
use Rattle.gob_stream.proofs.Stream.ShownLaws.{goes_on_behind, take_past, past_within, bad_shown, minimal_shown}
use Rattle.gob_stream.proofs.Stream.ShownLaws.{some_bad, two_padded}
use Rattle.gob_stream.proofs.Stream.ShownLaws.{number_shown, first_shown, count_shown, count_seen, body_shown}
use Rattle.gob_stream.proofs.Stream.ShownLaws.{body_seen}
use Rattle.gob_stream.proofs.Stream.ShownLaws.{body_seen_behind}
use Rattle.gob_filled.specs.Standing.{Level, Next, in_value, in_filling, Stands, at_value, behind_name}
use Rattle.gob_filled.specs.Standing.{behind_definition}
use Rattle.gob_filled.specs.Standing.{at_inner, behind_inner}
use Rattle.gob_filled.specs.Outcome.{RefusesInner, bad_head, not_minimal, short, too_long, RefusesNextCount}
use Rattle.gob_filled.specs.Outcome.{NothingStands}
use Rattle.gob_filled.specs.Outcome.{RefusesAt, in_skeleton, short_name, as_in_an_item, inner_count, next_count}
use Rattle.gob_filled.specs.Outcome.{RefusesFilled, refused_count, refused_body, refused_value}
use Rattle.gob_filled.proofs.Refused.{stands_keep}
use Rattle.gob_filled.proofs.Contained.{no_type_or_value, no_whole_definition}

-- ---- a count within a segment

inner_seen_behind : {at end : ℕ} {q : List ℕ} {R : Refusal} → RefusesInner at end q R → at ≤ R.seen
inner_seen_behind (bad_head h) = omega arith
inner_seen_behind (not_minimal h) = omega arith
inner_seen_behind (short e h) = omega arith
inner_seen_behind (too_long r e u l) = omega arith

inner_within : {at end : ℕ} {R : Refusal} (y p x : List ℕ) → RefusesInner at end (y ++ p) R → at + length y < end
    → R.seen ≤ at + length y → RefusesInner at end (y ++ x) R
inner_within y p x (bad_head h) l n = bad_head (bad_shown y p x (omega arith) h)
inner_within y p x (not_minimal h) l n = not_minimal (minimal_shown y p x (omega arith) h)
inner_within y p x (short e h) l n = absurd (omega arith)
inner_within y p x (too_long {c = c} r e u k) l n =
    let g = number_shown y p c r x e (omega arith) in too_long g.0 g.1 u k

inner_shown : {at end : ℕ} {R : Refusal} (y p x : List ℕ) → RefusesInner at end (take (end - at) (y ++ p)) R
    → R.seen ≤ at + length y → RefusesInner at end (take (end - at) (y ++ x)) R
inner_shown {at = at} {end = end} {R = R} y p x h n =
    elim (cases_lt (length y) (end - at)) [
      | inl l ↦
          let m = end - at in
          let before = subst (λ q. RefusesInner at end q R) (take_past y p m (omega arith)) h in
          subst (λ q. RefusesInner at end q R) (sym (take_past y x m (omega arith)))
          (inner_within y (take (m - length y) p) (take (m - length y) x) before (omega arith) n)
      | inr l ↦
          subst (λ q. RefusesInner at end q R)
          (take-append-le (end - at) y p l ∙ sym (take-append-le (end - at) y x l)) h
    ]

count_seen_behind : {L : Bounds} {offset : ℕ} {z : List ℕ} {R : Refusal} → RefusesCount L offset z R → offset ≤ R.seen
count_seen_behind (counts.RefusesCount.bad_head h) = omega arith
count_seen_behind (counts.RefusesCount.not_minimal h) = omega arith
count_seen_behind (counts.RefusesCount.item_too_long r e u l) = omega arith
count_seen_behind (counts.RefusesCount.stream_too_long r e u l k) = omega arith

next_seen_behind : (L : Bounds) (left at : ℕ) (q : List ℕ) (R : Refusal) (levels : List Level)
    → RefusesNextCount L left at levels q R → at ≤ R.seen
next_seen_behind L left at q R [] h = count_seen_behind h
next_seen_behind L left at q R (around ∷ levels) h = inner_seen_behind h

next_shown : (L : Bounds) (left at : ℕ) (y p x : List ℕ) (R : Refusal) (levels : List Level)
    → RefusesNextCount L left at levels (y ++ p) R → R.seen ≤ at + length y
    → RefusesNextCount L left at levels (y ++ x) R
next_shown L left at y p x R [] h n = count_shown y p x h n
next_shown L left at y p x R (around ∷ levels) h n = inner_shown y p x h n

-- ---- a body in which neither a type nor a definition stands

body_nothing : {base : Table} {L : Bounds} {T : Table} {offset m : ℕ} {R : Refusal} (y p x : List ℕ)
    → HasStructs T wire_type → RefusesBody base L T offset m (take m (y ++ p)) R
    → NothingStands base L T m (take m (y ++ p)) → R.seen ≤ offset + length y
    → NothingStands base L T m (take m (y ++ x))
body_nothing {base = base} {L = L} {T = T} {offset = offset} {m = m} {R = R} y p x wire h ns n =
    elim (cases_lt (length y) m) [
      | inl l ↦ record {
        no_type = no_type_or_value there
            (λ t a z S same e sg may first. absurd
            (let seen = ap (λ (R : Refusal). R.seen) same in
            let prefix = sym (take_past y x m (omega arith)) ∙ e in
            let g = goes_on_behind y (take (m - length y) x) a z prefix (omega arith) in
            ns.no_type t a (g.more ++ take (m - length y) p)
            (take_past y p m (omega arith) ∙ ap (λ (l : List ℕ). l ++ take (m - length y) p) g.prefix
            ∙ append_assoc a g.more (take (m - length y) p)) sg may))
            (λ none. none);
        no_definition = no_whole_definition wire there (inr (omega arith));
      }
      | inr l ↦
          subst (λ y. NothingStands base L T m y) (take-append-le m y p l ∙ sym (take-append-le m y x l)) ns
    ]
  where
    there : RefusesBody base L T offset m (take m (y ++ x)) R
    there = body_shown y p x h n

-- ---- where bytes stand

-- the next number of the level is that of an interface
record IsAtNil (lv : Level) : Type 0 where
  pub depth : ℕ
  pub expects : ExpectsTop lv.table lv.type lv.done (a_number nil) depth
  pub not_deep : depth ≤ lv.limit
  pub shallow : IsShallow lv.table lv.type lv.limit lv.done

data AreAtNil : List Level → Type 0 where
  no_level : AreAtNil []
  and_level : {lv : Level} {levels : List Level} → IsAtNil lv → AreAtNil levels → AreAtNil (lv ∷ levels)

-- nothing of the level is read, or it stands behind such a number
record IsBehindNil (lv : Level) : Type 0 where
  pub before : List ℕ
  pub done_is : lv.done ≡ before ++ 0 ∷ []
  pub depth : ℕ
  pub expects : ExpectsTop lv.table lv.type before (a_number nil) depth
  pub not_deep : depth ≤ lv.limit
  pub shallow : IsShallow lv.table lv.type lv.limit before

abbrev LevelsStand : List Level → Next → Type 0
LevelsStand [] next = ⊥
LevelsStand (lv ∷ levels) in_value = ((lv.done ≡ []) ⊎ IsBehindNil lv) × AreAtNil levels
LevelsStand (lv ∷ levels) (in_filling d) = IsAtNil lv × AreAtNil levels

levels_stand : {base : Table} {L : Bounds} {T : Table} {offset : ℕ} {z : List ℕ} {U : Table} {levels : List Level}
    {next : Next} {left : ℕ} → Stands base L T offset z U levels next left → LevelsStand levels next
levels_stand (at_value u l e s sg few may k) = (inl refl, no_level)
levels_stand (behind_name c s p ex dl sh some u fit) =
    (record { depth = _; expects = ex; not_deep = dl; shallow = sh }, (levels_stand p).1)
levels_stand (behind_definition p def e k) =
    let s = levels_stand p in let n = s.0 in
    (record { depth = n.depth; expects = n.expects; not_deep = n.not_deep; shallow = n.shallow }, s.1)
levels_stand (at_inner p may sg u e l) = let s = levels_stand p in (inl refl, and_level s.0 s.1)
levels_stand (behind_inner b p sp de e) = ended (levels_stand p).1
  where
    ended : {around : Level} {levels : List Level} → AreAtNil (around ∷ levels)
        → LevelsStand (record around { done = around.done ++ 0 ∷ [] } ∷ levels) in_value
    ended {around = around} (and_level n ns) = (
      inr (record {
        before = around.done;
        done_is = refl;
        depth = n.depth;
        expects = n.expects;
        not_deep = n.not_deep;
        shallow = n.shallow;
      }),
      ns,
    )

-- a refusal of what follows is shown by more than what is read
begun_seen : {lv : Level} {S : body.Refusal} (rest : ℕ) (q : List ℕ) → (lv.done ≡ []) ⊎ IsBehindNil lv
    → IsFirst lv.table lv.type lv.limit (length lv.done + rest) (lv.done ++ q) S → length lv.done ≤ S.seen
begun_seen rest q (inl e) h = let n = ap length e in omega arith
begun_seen {lv = lv} {S = S} rest q (inr b) h =
    let size : length lv.done ≡ length b.before + 1 = ap length b.done_is ∙ length-append b.before (0 ∷ []) in
    let viable : IsViable lv.table lv.type lv.limit (length lv.done + rest) b.before = record {
      before = b.before;
      under_way = [];
      expected = a_number nil;
      depth = b.depth;
      expects = b.expects;
      whole = sym (append_nil b.before);
      within = within_number (record { number = 0; rest = 0 ∷ []; more = λ e. cc; spelled = counted });
      not_deep = b.not_deep;
      shallow = b.shallow;
      room = omega arith;
    } in
    let there = ap (λ (l : List ℕ). l ++ q) b.done_is ∙ append_assoc b.before (0 ∷ []) q in
    let seen = nothing_yet (0 ∷ q) viable
    (subst (λ z. body.Refused lv.table lv.type lv.limit (length lv.done + rest) z S) there h.refused) in
    omega arith
  where
    counted : IsUnsigned 0 (0 ∷ [])
    counted = unsigned.IsUnsigned.short (omega arith)

-- it is shown by as many bytes at least as lead there
at_seen : {base : Table} {L : Bounds} {T : Table} {offset at : ℕ} {z : List ℕ} {U : Table} {w : List ℕ}
    {levels : List Level} {next : Next} {left : ℕ} {R : Refusal} → Stands base L T offset z U levels next left
    → RefusesAt base L at U w levels next left R → at ≤ R.seen
at_seen {at = at} {w = w} p (in_skeleton {lv = lv} h n pl se re) =
    let l = begun_seen (lv.end - at) (take (lv.end - at) w) (levels_stand p).0 h in omega arith
at_seen {at = at} p (short_name {lv = lv} {a = a} c r ex dl sh eq u full few) =
    omega (arith, ap length eq, length-append c (a ++ r), length-append a r, (unsigned_length u).0)
at_seen p (as_in_an_item h ns) = body_seen_behind h
at_seen p (inner_count eq sg may h) = let n = inner_seen_behind h in omega arith
at_seen {L = L} p (next_count {lv = lv} {levels = levels} {left = left} {R = R} q eq def ends h) =
    let n = next_seen_behind L left lv.end q R levels h in omega arith

-- ---- what follows them

all_of : (y p x : List ℕ) (m : ℕ) → m ≤ length y → take m (y ++ x) ≡ take m (y ++ p)
all_of y p x m l = take-append-le m y x l ∙ sym (take-append-le m y p l)

at_shown : {base : Table} {L : Bounds} {at : ℕ} {U : Table} {levels : List Level} {next : Next} {left : ℕ} {R : Refusal}
    (y p x : List ℕ) → HasStructs U wire_type → RefusesAt base L at U (y ++ p) levels next left R
    → R.seen ≤ at + length y → RefusesAt base L at U (y ++ x) levels next left R
at_shown {at = at} y p x wire (in_skeleton {lv = lv} {S = S} h n pl se re) l =
    in_skeleton {lv = lv} {S = S} (elim (cases_lt (length y) (lv.end - at)) [
      | inl few ↦ longer few
      | inr all ↦ subst (λ q. IsFirst lv.table lv.type lv.limit (length lv.done + (lv.end - at)) (lv.done ++ q) S)
          (sym (all_of y p x (lv.end - at) all)) h
    ]) n pl se re
  where
    longer : length y < lv.end - at
        → IsFirst lv.table lv.type lv.limit (length lv.done + (lv.end - at)) (lv.done ++ take (lv.end - at) (y ++ x)) S
    longer few =
        let m = lv.end - at in
        let prefix = take (m - length y) p in
        let rest = take (m - length y) x in
        let size = length-append lv.done y in
        let before = ap (λ (l : List ℕ). lv.done ++ l) (take_past y p m (omega arith))
        ∙ sym (append_assoc lv.done y prefix) in
        let behind = append_assoc lv.done y rest
        ∙ ap (λ (l : List ℕ). lv.done ++ l) (sym (take_past y x m (omega arith))) in
        subst (λ z. IsFirst lv.table lv.type lv.limit (length lv.done + (lv.end - at)) z S) behind
        (first_shown (lv.done ++ y) prefix rest h before (omega arith)
        (omega (arith, past_within y p m few, length-append (lv.done ++ y) prefix, length-append y prefix))
        (omega (arith, past_within y x m few, length-append (lv.done ++ y) rest, length-append y rest)))
at_shown {at = at} y p x wire (short_name {lv = lv} c r ex dl sh eq u full few) l =
    let same = all_of y p x (lv.end - at) (omega arith) in
    short_name c r ex dl sh (same ∙ eq) u (ap length same ∙ full) few
at_shown y p x wire (as_in_an_item h ns) l = as_in_an_item (body_shown y p x h l) (body_nothing y p x wire h ns l)
at_shown {at = at} y p x wire (inner_count {lv = lv} {n = n} {q = q} {R = R} eq sg may h) l =
    elim (cases_lt (length y) (lv.end - at)) [
      | inl few ↦
          let m = lv.end - at in
          let prefix = take (m - length y) p in
          let rest = take (m - length y) x in
          let s = inner_seen_behind h in
          let g = goes_on_behind y prefix n q (sym (take_past y p m (omega arith)) ∙ eq) (omega arith) in
          let size : length y ≡ length n + length g.more = ap length g.prefix ∙ length-append n g.more in
          inner_count
          (take_past y x m (omega arith) ∙ ap (λ (l : List ℕ). l ++ rest) g.prefix ∙ append_assoc n g.more rest) sg may
          (inner_within g.more prefix rest (subst (λ q. RefusesInner (at + length n) lv.end q R) g.rest h) (omega arith)
          (omega arith))
      | inr all ↦ inner_count (all_of y p x (lv.end - at) all ∙ eq) sg may h
    ]
at_shown {L = L} {at = at} y p x wire (next_count {lv = lv} {levels = levels} {left = left} {b = b}
    {R = R} q eq def ends h) l =
    let s = next_seen_behind L left lv.end q R levels h in
    let g = goes_on_behind y p b q eq (omega arith) in
    let size : length y ≡ length b + length g.more = ap length g.prefix ∙ length-append b g.more in
    next_count (g.more ++ x) (ap (λ (l : List ℕ). l ++ x) g.prefix ∙ append_assoc b g.more x) def ends
    (next_shown L left lv.end g.more p x R levels
    (subst (λ q. RefusesNextCount L left lv.end levels q R) g.rest h) (omega arith))

wire_in : {T U : Table} → Keeps T U → HasStructs T wire_type → HasStructs U wire_type
wire_in k w = record { shape = w.shape; found = k.shape wire_type w.shape w.found; struct = w.struct }

pub filled_shown : {base : Table} {L : Bounds} {T : Table} {offset : ℕ} {R : Refusal} (y p x : List ℕ)
    → HasStructs T wire_type → RefusesFilled base L T offset (y ++ p) R → R.seen ≤ offset + length y
    → RefusesFilled base L T offset (y ++ x) R
filled_shown y p x wire (refused_count h) n = refused_count (count_shown y p x h n)
filled_shown {base = base} {L = L} {T = T} {offset = offset} {R = R} y p x wire
    (refused_body {m = m} {c = c} r e u l s h ns) n =
    let b = body_seen_behind h in
    let g = goes_on_behind y p c r e (omega arith) in
    let size : length y ≡ length c + length g.more = ap length g.prefix ∙ length-append c g.more in
    let there = subst (λ r. RefusesBody base L T (offset + length c) m (take m r) R) g.rest h in
    refused_body (g.more ++ x) (ap (λ (l : List ℕ). l ++ x) g.prefix ∙ append_assoc c g.more x) u l s
    (body_shown g.more p x there (omega arith))
    (body_nothing g.more p x wire there (subst (λ r. NothingStands base L T m (take m r)) g.rest ns) (omega arith))
filled_shown {base = base} {L = L} {offset = offset} {R = R} y p x wire
    (refused_value {U = U} {y = z} {w = w} {levels = levels} {next = next} {left = left} e k h) n =
    let s = at_seen k h in
    let g = goes_on_behind y p z w e (omega arith) in
    let size : length y ≡ length z + length g.more = ap length g.prefix ∙ length-append z g.more in
    refused_value (ap (λ (l : List ℕ). l ++ x) g.prefix ∙ append_assoc z g.more x) k
    (at_shown g.more p x (wire_in (stands_keep k) wire)
    (subst (λ w. RefusesAt base L (offset + length z) U w levels next left R) g.rest h) (omega arith))

-- ---- the bytes that show it are there

inner_seen : {at end : ℕ} {q : List ℕ} {R : Refusal} → RefusesInner at end q R → R.seen ≤ at + length q
inner_seen {q = q} (bad_head h) = let n = some_bad q h in omega arith
inner_seen {q = q} (not_minimal h) = let n = two_padded q h in omega arith
inner_seen (short e h) = omega arith
inner_seen (too_long {c = c} r e u l) = omega (arith, ap length e, length-append c r)

next_seen : (L : Bounds) (left at : ℕ) (q : List ℕ) (R : Refusal) (levels : List Level)
    → RefusesNextCount L left at levels q R → R.seen ≤ at + length q
next_seen L left at q R [] h = count_seen h
next_seen L left at q R (around ∷ levels) h = let n = inner_seen h in omega (arith, length-take (around.end - at) q)

at_there : {base : Table} {L : Bounds} {at : ℕ} {U : Table} {w : List ℕ} {levels : List Level} {next : Next} {left : ℕ}
    {R : Refusal} → RefusesAt base L at U w levels next left R → R.seen ≤ at + length w
at_there {at = at} {w = w} (in_skeleton {lv = lv} h n pl se re) =
    let s = seen_within h.refused in
    omega (arith, length-append lv.done (take (lv.end - at) w), length-take (lv.end - at) w)
at_there {at = at} {w = w} (short_name {lv = lv} c r ex dl sh eq u full few) =
    omega (arith, length-take (lv.end - at) w)
at_there {at = at} {w = w} (as_in_an_item {lv = lv} h ns) =
    let s = body_seen h in omega (arith, length-take (lv.end - at) w)
at_there {at = at} {w = w} (inner_count {lv = lv} {n = n} {q = q} eq sg may h) =
    let s = inner_seen h in
    omega (arith, ap length eq, length-append n q, length-take (lv.end - at) w)
at_there {L = L} (next_count {lv = lv} {levels = levels} {left = left} {b = b} {R = R} q eq def ends h) =
    let s = next_seen L left lv.end q R levels h in omega (arith, ap length eq, length-append b q)

pub filled_there : {base : Table} {L : Bounds} {T : Table} {offset : ℕ} {z : List ℕ} {R : Refusal}
    → RefusesFilled base L T offset z R → R.seen ≤ offset + length z
filled_there (refused_count h) = count_seen h
filled_there (refused_body {m = m} {c = c} r e u l s h ns) =
    let n = body_seen h in omega (arith, ap length e, length-append c r, length-take m r)
filled_there (refused_value {y = y} {w = w} e p h) =
    let n = at_there h in omega (arith, ap length e, length-append y w)

pub filled_seen_behind : {base : Table} {L : Bounds} {T : Table} {offset : ℕ} {z : List ℕ} {R : Refusal}
    → RefusesFilled base L T offset z R → offset ≤ R.seen
filled_seen_behind (refused_count h) = count_seen_behind h
filled_seen_behind (refused_body r e u l s h ns) = let n = body_seen_behind h in omega arith
filled_seen_behind (refused_value e p h) = let n = at_seen p h in omega arith

pub filled_stays : {base : Table} {L : Bounds} {T : Table} {offset : ℕ} {z others : List ℕ} {R : Refusal}
    → HasStructs T wire_type → RefusesFilled base L T offset z R
    → take (R.seen - offset) others ≡ take (R.seen - offset) z → RefusesFilled base L T offset others R
filled_stays {base = base} {L = L} {T = T} {offset = offset} {z = z} {others = others} {R = R} wire h e =
    let k = R.seen - offset in
    let behind = filled_seen_behind h in
    let there = filled_there h in
    let parts : z ≡ take k others ++ drop k z = sym (take-append-drop k z)
    ∙ ap (λ (l : List ℕ). l ++ drop k z) (sym e) in
    let size : length (take k others) ≡ k = ap length e ∙ (omega (arith, length-take k z)) in
    subst (λ z. RefusesFilled base L T offset z R) (take-append-drop k others)
    (filled_shown (take k others) (drop k z) (drop k others) wire
    (subst (λ z. RefusesFilled base L T offset z R) parts h) (omega arith))
