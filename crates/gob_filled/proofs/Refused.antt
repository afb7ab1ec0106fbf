-- One refusal is given, and none where the bytes begin with an item.
use Rattle.std.proofs.Common.{◌≡◌, ℕ, pos, ◌+◌, ◌-◌, ◌≤◌, ◌⊎◌, inl, inr, List, [], ◌∷◌, ◌++◌, length, take, arith, refl}
use Rattle.std.proofs.Common.{sym, ap, ◌∙◌, subst, append_assoc, length-append}
use Rattle.gob_num.specs.Unsigned.{IsUnsigned}
use Rattle.gob_num.specs.Signed.{IsSigned}
use Rattle.gob_num.proofs.PublicLaws.{unsigned_prefix}
use Rattle.gob_types.specs.declared.id.TypeId.{TypeId}
use Rattle.gob_types.specs.Base.{wire_type}
use Rattle.gob_types.specs.Table.{Table}
use Rattle.gob_types.proofs.PublicLaws.{Keeps, shape_of-append}
use Rattle.gob_value.specs.Tree.{Tree, depth}
use Rattle.gob_value.specs.Top.{SpellsTop, HasStructs}
use Rattle.gob_read.specs.Refusal.{Refused}
use Rattle.gob_read.proofs.PublicLaws.{only_extra, append_nil}
use Rattle.gob_read.proofs.Grammar.Compare.{whole_meets_top}
use Rattle.gob_read.proofs.Grammar.Firsts.{not_allowed_not_met}
use Rattle.gob_read.proofs.Grammar.Prefixes.{same_end}
use Rattle.gob_stream.specs.declared.fault.Refusal.{Refusal}
use Rattle.gob_stream.specs.Bounds.{Bounds}
use Rattle.gob_stream.specs.Body.{MayPut}
use Rattle.gob_stream.specs.Outcome as strict
use Rattle.gob_stream.specs.Refusing.{RefusesBody, RefusesCount}
use Rattle.gob_stream.proofs.Stream.RefusingLaws.{count_not, next_once as strict_once, body_once, HasWireStruct}
use Rattle.gob_stream.proofs.Stream.ShownLaws.{take_past}
use Rattle.gob_filled.specs.Definition.{Defines, defines}
use Rattle.gob_filled.specs.Stream.{defining, IsFilledItem, of_definition}
use Rattle.gob_filled.specs.Standing.{Level, Next, in_value, Stands, at_value, behind_name, behind_definition, at_inner}
use Rattle.gob_filled.specs.Standing.{behind_inner, IsWholeItem}
use Rattle.gob_filled.specs.Outcome.{RefusesAt, in_skeleton, short_name, NothingStands, RefusesFilled, refused_count}
use Rattle.gob_filled.specs.Outcome.{refused_body, refused_value}
use Rattle.gob_filled.proofs.Prefix.{unmet, further, not_defined}
use Rattle.gob_filled.proofs.OneWay.{State, state, bytes_of, Onto, here, first, goes_on, Step, by_name, Start, start}
use Rattle.gob_filled.proofs.OneWay.{started, one_way}
use Rattle.gob_filled.proofs.Final.{whole, once, rests}

pub in_turn : {T U V : Table} → Keeps T U → Keeps U V → Keeps T V
in_turn k l = record { shape = λ t s e. l.shape t s (k.shape t s e) }

pub definition_keeps : {base : Table} {L : Bounds} {T U : Table} {id : TypeId} {v : Tree} {b : List ℕ}
    → Defines base L T id v b U → Keeps T U
definition_keeps {T = T} (defines {id = id} {s = r} may de d i s k) =
    record { shape = λ t s e. shape_of-append T ((id, r) ∷ []) t s e }

pub stands_keep : {base : Table} {L : Bounds} {T : Table} {offset : ℕ} {z : List ℕ} {U : Table} {levels : List Level}
    {next : Next} {left : ℕ} → Stands base L T offset z U levels next left → Keeps T U
stands_keep (at_value u l e s sg short may k) = record { shape = λ t s e. e }
stands_keep (behind_name c s p ex l sh some u fit) = stands_keep p
stands_keep (behind_definition p def e k) = in_turn (stands_keep p) (definition_keeps def)
stands_keep (at_inner p may sg u e l) = stands_keep p
stands_keep (behind_inner b p sp de e) = stands_keep p

wire_kept : {T U : Table} → Keeps T U → HasStructs T wire_type → HasWireStruct U
wire_kept k w = record { shape = w.shape; there = k.shape wire_type w.shape w.found; struct = w.struct }

-- how an item of a value begins
pub record Begins (L : Bounds) (T : Table) (offset : ℕ) (z : List ℕ) : Type 0 where
  pub announced : ℕ
  pub count : List ℕ
  pub number : List ℕ
  pub rest : List ℕ
  pub type : TypeId
  pub counts : IsUnsigned announced count
  pub item : announced ≤ L.item
  pub stream : offset + length count + announced ≤ L.stream
  pub names : IsSigned (pos type.0) number
  pub short : length number ≤ announced
  pub may : MayPut T type
  pub whole : z ≡ count ++ (number ++ rest)

of_start : {base : Table} {L : Bounds} {T : Table} {offset : ℕ} {S : State} (x z : List ℕ) → Start base L T offset S
    → z ≡ bytes_of S ++ x → Begins L T offset z
of_start x z (start {t = t} {m = m} {c = c} {a = a} u l e s sg short may k) h =
    record {
      announced = m;
      count = c;
      number = a;
      rest = x;
      type = t;
      counts = u;
      item = l;
      stream = omega arith;
      names = sg;
      short = short;
      may = may;
      whole = h ∙ append_assoc c a x;
    }

pub begins : {base : Table} {L : Bounds} {T : Table} {offset : ℕ} {y : List ℕ} {U : Table} {levels : List Level}
    {next : Next} {left : ℕ} (w z : List ℕ) → Stands base L T offset y U levels next left
    → z ≡ y ++ w → Begins L T offset z
begins w z p e =
    let s = started p in
    let m = goes_on s.onto in
    of_start (m.0 ++ w) z s.start (e ∙ ap (λ (l : List ℕ). l ++ w) m.1 ∙ append_assoc (bytes_of s.from) m.0 w)

prefix_of_body : (n q r : List ℕ) (m : ℕ) → r ≡ n ++ q → length n ≤ m → take m r ≡ n ++ take (m - length n) q
prefix_of_body n q r m e l = ap (λ r. take m r) e ∙ take_past n q m l

not_body : {base : Table} {L : Bounds} {T : Table} {offset m : ℕ} {z c : List ℕ} → Begins L T offset z → (r : List ℕ)
    → z ≡ c ++ r → IsUnsigned m c → NothingStands base L T m (take m r) → ⊥
not_body {m = m} b r e u ns =
    let count = unsigned_prefix (b.number ++ b.rest) r b.counts u (sym b.whole ∙ e) in
    let few = b.short in let v = count.value in
    ns.no_type b.type b.number (take (m - length b.number) b.rest)
    (prefix_of_body b.number b.rest r m (sym count.rest) (omega arith)) b.names b.may

-- a count that is refused, or a body that is for its prefix, begins no value
not_begun : {base : Table} {L : Bounds} {T : Table} {offset : ℕ} {z : List ℕ} {R : Refusal} → Begins L T offset z
    → RefusesFilled base L T offset z R
    → ((U : Table) (y w : List ℕ) (levels : List Level) (next : Next) (left : ℕ) → z ≡ y ++ w
    → Stands base L T offset y U levels next left → RefusesAt base L (offset + length y) U w levels next left R → ⊥)
    → ⊥
not_begun b (refused_count h) f = count_not (b.number ++ b.rest) h b.counts b.whole b.item b.stream
not_begun b (refused_body r e u l s h ns) f = not_body b r e u ns
not_begun b (refused_value {U = U} {y = y} {w = w} {levels = levels} {next = next} {left = left} e p h) f =
    f U y w levels next left e p h

abbrev AtState : Table → Bounds → ℕ → State → List ℕ → Refusal → Type 0
AtState base L offset (state y U levels next left) w R = RefusesAt base L (offset + length y) U w levels next left R

-- a refused standing, and another one
same_state : {base : Table} {L : Bounds} {U V : Table} (offset : ℕ) {left left' : ℕ} {y y' w w' : List ℕ}
    {levels levels' : List Level} {next next' : Next} {R S : Refusal} → HasWireStruct U
    → RefusesAt base L (offset + length y) U w levels next left R
    → RefusesAt base L (offset + length y') V w' levels' next' left' S
    → state y U levels next left ≡ state y' V levels' next' left' → y ++ w ≡ y' ++ w' → R ≡ S
same_state {base = base} {L = L} {U = U} offset {left = left} {y = y} {y' = y'} {w = w} {w' = w'} {levels = levels}
    {next = next} {S = S} wire h k e f =
    let eb : y ≡ y' = ap bytes_of e in
    let there : RefusesAt base L (offset + length y) U w' levels next left S = back e k in
    once wire h (subst (λ w. RefusesAt base L (offset + length y) U w levels next left S)
    (sym (same_end y w w' (f ∙ ap (λ (l : List ℕ). l ++ w') (sym eb)))) there)
  where
    back : {V : Table} {y' : List ℕ} {levels' : List Level} {next' : Next} {left' : ℕ}
        → state y U levels next left ≡ state y' V levels' next' left'
        → RefusesAt base L (offset + length y') V w' levels' next' left' S
        → RefusesAt base L (offset + length y) U w' levels next left S
    back e k = subst (λ s. AtState base L offset s w' S) (sym e) k

value_once : {base : Table} {L : Bounds} {T U V : Table} {offset left left' : ℕ} {z y y' w w' : List ℕ}
    {levels levels' : List Level} {next next' : Next} {R S : Refusal} → HasStructs T wire_type
    → z ≡ y ++ w → Stands base L T offset y U levels next left
    → RefusesAt base L (offset + length y) U w levels next left R
    → z ≡ y' ++ w' → Stands base L T offset y' V levels' next' left'
    → RefusesAt base L (offset + length y') V w' levels' next' left' S → R ≡ S
value_once {offset = offset} {w = w} {w' = w'} wire e p h e' p' h' =
    elim (one_way w w' p p' (sym e ∙ e')) [
      | inl o ↦ same_state offset (wire_kept (stands_keep p) wire) h h' (rests w' refl h o (sym e ∙ e')) (sym e ∙ e')
      | inr o ↦ same_state offset (wire_kept (stands_keep p) wire) h h' (sym (rests w refl h' o (sym e' ∙ e)))
          (sym e ∙ e')
    ]

as_strict : {L : Bounds} {offset : ℕ} {z : List ℕ} {R : Refusal} (base T : Table) → RefusesCount L offset z R
    → strict.RefusesNext base L T offset z R
as_strict base T h = strict.refused_count h

pub refused_once : {base : Table} {L : Bounds} {T : Table} {offset : ℕ} {z : List ℕ} {R S : Refusal}
    → HasStructs T wire_type → RefusesFilled base L T offset z R → RefusesFilled base L T offset z S → R ≡ S
refused_once {base = base} {T = T} wire (refused_count h) (refused_count k) =
    strict_once (record { shape = wire.shape; there = wire.found; struct = wire.struct }) (as_strict base T h)
    (as_strict base T k)
refused_once wire (refused_count h) (refused_body r e u l s k ns) = absurd (count_not r h u e l s)
refused_once {z = z} wire (refused_count h) (refused_value {w = w} e p k) = let b = begins w z p e in
    absurd (count_not (b.number ++ b.rest) h b.counts b.whole b.item b.stream)
refused_once wire (refused_body r e u l s k ns) (refused_count h) = absurd (count_not r h u e l s)
refused_once {base = base} {L = L} {T = T} {offset = offset} {S = S} wire (refused_body {m = m} {c = c} r e u l s k ns)
    (refused_body {m = m'} {c = c'} r' e' u' l' s' k' ns') =
    let count = unsigned_prefix r r' u u' (sym e ∙ e') in
    body_once (record { shape = wire.shape; there = wire.found; struct = wire.struct }) k
    (subst (λ r. RefusesBody base L T (offset + length c) m (take m r) S) (sym count.rest)
    (subst (λ (c : List ℕ). RefusesBody base L T (offset + length c) m (take m r') S) (sym count.bytes)
    (subst (λ m. RefusesBody base L T (offset + length c') m (take m r') S) (sym count.value) k')))
refused_once {z = z} wire (refused_body r e u l s k ns) (refused_value {w = w} f p h) =
    absurd (not_body (begins w z p f) r e u ns)
refused_once {z = z} wire (refused_value {w = w} e p h) (refused_count k) = let b = begins w z p e in
    absurd (count_not (b.number ++ b.rest) k b.counts b.whole b.item b.stream)
refused_once {z = z} wire (refused_value {w = w} f p h) (refused_body r e u l s k ns) =
    absurd (not_body (begins w z p f) r e u ns)
refused_once wire (refused_value e p h) (refused_value e' p' h') = value_once wire e p h e' p' h'

-- ---- an item isn't refused

record FirstStep (base : Table) (L : Bounds) (offset : ℕ) (S Q : State) : Type 0 where
  pub behind : State
  pub bytes : List ℕ
  pub step : Step base L offset S bytes behind
  pub read : bytes_of behind ≡ bytes_of S ++ bytes
  pub onto : Onto base L offset behind Q

no_or_first : {base : Table} {L : Bounds} {offset : ℕ} {S Q : State} → Onto base L offset S Q
    → (S ≡ Q) ⊎ FirstStep base L offset S Q
no_or_first here = inl refl
no_or_first (first {R = R} {p = p} s e o) = inr (record { behind = R; bytes = p; step = s; read = e; onto = o })

apart : (b p m w : List ℕ) → ((b ++ p) ++ m) ++ w ≡ b ++ (p ++ (m ++ w))
apart b p m w = simp append_assoc

grouped : (c a s x : List ℕ) → (c ++ (a ++ s)) ++ x ≡ c ++ (a ++ (s ++ x))
grouped c a s x = simp append_assoc

-- no step is left where the outermost value is whole
no_step : {base : Table} {L : Bounds} {offset left : ℕ} {b p : List ℕ} {U : Table} {lv : Level} {v : Tree} {S : State}
    (rest x w : List ℕ) → SpellsTop lv.table lv.type v (lv.done ++ rest)
    → Step base L offset (state b U (lv ∷ []) in_value left) p S → p ++ w ≡ rest ++ x → ⊥
no_step {lv = lv} rest x w sp (by_name {a = a} c s ex dl sh some u fit) e =
    unmet s (s ++ w) some u (whole_meets_top (a ++ (s ++ w)) x sp ex
    (further lv.done c (a ++ (s ++ w)) ∙ ap (λ (l : List ℕ). lv.done ++ l) (sym (grouped c a s w) ∙ e)
    ∙ sym (further lv.done rest x)))

-- the end of an item is the last standing
ends_there : {base : Table} {L : Bounds} {T U V : Table} {offset left left' : ℕ} {y b w : List ℕ} (rest x : List ℕ)
    {lv : Level} {levels : List Level} {next : Next} {v : Tree} {R : Refusal}
    → Stands base L T offset b U (lv ∷ []) in_value left → SpellsTop lv.table lv.type v (lv.done ++ rest)
    → depth v ≤ lv.limit → offset + length (b ++ rest) ≡ lv.end
    → Stands base L T offset y V levels next left' → RefusesAt base L (offset + length y) V w levels next left' R
    → y ++ w ≡ (b ++ rest) ++ x → ⊥
ends_there {base = base} {L = L} {U = U} {V = V} {offset = offset} {left = left} {left' = left'} {y = y} {b = b}
    {w = w} rest x {lv = lv} {levels = levels} {next = next} {R = R} p sp de ends q h e =
    elim (one_way (rest ++ x) w p q (sym (e ∙ append_assoc b rest x))) [
      | inl o ↦ elim (no_or_first o) [
        | inl k ↦ same k
        | inr f ↦
            let m = goes_on f.onto in
            no_step rest x (m.0 ++ w) sp f.step
            (sym (same_end b (rest ++ x) (f.bytes ++ (m.0 ++ w))
            (sym (append_assoc b rest x) ∙ sym e ∙ ap (λ (l : List ℕ). l ++ w)
            (m.1 ∙ ap (λ (l : List ℕ). l ++ m.0) f.read) ∙ apart b f.bytes m.0 w)))
      ]
      | inr o ↦ same (sym (rests (rest ++ x) refl h o (e ∙ append_assoc b rest x)))
    ]
  where
    same : state b U (lv ∷ []) in_value left ≡ state y V levels next left' → ⊥
    same k =
        let eb : b ≡ y = ap bytes_of k in
        let there : AtState base L offset (state b U (lv ∷ []) in_value left) w R =
        subst (λ s. AtState base L offset s w R) (sym k) h in
        at_end rest x sp de (let n = ends in omega (arith, length-append b rest))
        (same_end b w (rest ++ x) (ap (λ (l : List ℕ). l ++ w) eb ∙ e ∙ append_assoc b rest x)) there
      where
        at_end : {base : Table} {L : Bounds} {at left : ℕ} {U : Table} {w : List ℕ} (rest x : List ℕ) {lv : Level}
            {v : Tree} {R : Refusal} → SpellsTop lv.table lv.type v (lv.done ++ rest) → depth v ≤ lv.limit
            → lv.end - at ≡ length rest → w ≡ rest ++ x → RefusesAt base L at U w (lv ∷ []) in_value left R → ⊥
        at_end {at = at} {w = w} rest x {lv = lv} sp de size f (in_skeleton {S = S} h n pl se re) =
            let there = ap (λ (l : List ℕ). lv.done ++ l) (whole rest x w (lv.end - at) (sym f) size)
            ∙ sym (append_nil (lv.done ++ rest)) in
            let r =
            only_extra [] sp de (subst (λ y. Refused lv.table lv.type lv.limit (length lv.done + (lv.end - at)) y S)
            there h.refused) in
            let less = r.1 in omega (arith, length-append lv.done rest)
        at_end {at = at} {w = w} rest x {lv = lv} sp de size f (short_name {a = a} c r ex dl sh eq u full few) =
            let there : c ++ (a ++ r) ≡ rest = sym eq ∙ whole rest x w (lv.end - at) (sym f) size in
            not_allowed_not_met r u (λ e. omega arith) (whole_meets_top (a ++ r) [] sp ex
            (further lv.done c (a ++ r) ∙ ap (λ (l : List ℕ). lv.done ++ l) there
            ∙ sym (append_nil (lv.done ++ rest))))

pub item_not_refused : {base : Table} {L : Bounds} {T U : Table} {offset : ℕ} {b : List ℕ} {R : Refusal} (y : List ℕ)
    → IsWholeItem base L T offset b U → RefusesFilled base L T offset (b ++ y) R → ⊥
item_not_refused {b = b} y k h =
    not_begun (begins (k.rest ++ y) (b ++ y) k.stands (ap (λ (l : List ℕ). l ++ y) k.whole
    ∙ append_assoc k.before k.rest y)) h
    (λ V z w levels next left e p r. ends_there k.rest y k.stands k.spelled k.not_deep k.ends p r
    (sym e ∙ ap (λ (l : List ℕ). l ++ y) k.whole))

pub definition_not_refused : {base : Table} {L : Bounds} {T U : Table} {offset : ℕ} {id : TypeId} {v : Tree}
    {b : List ℕ} {R : Refusal} (y : List ℕ) → IsFilledItem base L T offset (defining id v) b U
    → RefusesFilled base L T offset (b ++ y) R → ⊥
definition_not_refused y (of_definition {c = c} {d = d} n l s p) (refused_count h) =
    count_not (d ++ y) h n (append_assoc c d y) l (omega (arith, length-append c d))
definition_not_refused {base = base} {L = L} {T = T} {U = U} {id = id} {v = v} y (of_definition {c = c} {d = d} n l s p)
    (refused_body {m = m} r e u k t h ns) =
    let count = unsigned_prefix (d ++ y) r n u (sym (append_assoc c d y) ∙ e) in
    let there = whole d y r m count.rest (sym count.value) in
    ns.no_definition id v U (ap length there ∙ count.value) (subst (λ y. Defines base L T id v y U) (sym there) p)
definition_not_refused {base = base} {L = L} {T = T} y (of_definition {c = c} {d = d} n l s p)
    (refused_value {w = w} e q h) =
    let b = begins w ((c ++ d) ++ y) q e in
    let count = unsigned_prefix (d ++ y) (b.number ++ b.rest) n b.counts (sym (append_assoc c d y) ∙ b.whole) in
    not_defined b.rest y p b.names (sym count.rest)
