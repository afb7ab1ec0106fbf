-- Where bytes of an item lead: the types that stand there are all that its whole definitions give.
use Rattle.std.proofs.Common.{◌≡◌, ℕ, ◌+◌, ◌-◌, ◌<◌, ◌⊎◌, inl, inr, List, [], ◌∷◌, ◌++◌, length, take, arith, refl}
use Rattle.std.proofs.Common.{sym, ap, ◌∙◌, subst, append_assoc, append-nil, length-append}
use Rattle.gob_num.proofs.PublicLaws.{unsigned_prefix}
use Rattle.gob_types.specs.Base.{base_table}
use Rattle.gob_types.specs.Table.{Table}
use Rattle.gob_types.specs.declared.id.TypeId.{TypeId}
use Rattle.gob_value.specs.Tree.{Tree}
use Rattle.gob_read.proofs.Grammar.Prefixes.{same_end}
use Rattle.gob_stream.specs.Bounds.{Bounds}
use Rattle.gob_stream.specs.declared.fault.Refusal.{Refusal}
use Rattle.gob_stream.proofs.Stream.RefusingLaws.{count_not}
use Rattle.gob_stream.proofs.Stream.ShownLaws.{take_past}
use Rattle.gob_filled.specs.Definition.{Defines}
use Rattle.gob_filled.specs.Outcome.{RefusesAt, in_skeleton, short_name, as_in_an_item, inner_count, next_count}
use Rattle.gob_filled.specs.Outcome.{RefusesFilled, refused_count, refused_body, refused_value}
use Rattle.gob_filled.specs.Standing.{Level, Next, in_value, in_filling, Stands, at_value, behind_name}
use Rattle.gob_filled.specs.Standing.{behind_definition, at_inner, behind_inner}
use Rattle.gob_filled.proofs.Final.{stuck, whole}
use Rattle.gob_filled.proofs.OneWay.{State, state, bytes_of, Step, by_name, by_definition, by_type, by_end, Onto, here}
use Rattle.gob_filled.proofs.OneWay.{first, goes_on, one_way}
use Rattle.gob_filled.proofs.Prefix.{same_definition, not_defined}
use Rattle.gob_filled.proofs.Refused.{Begins, begins}
use Rattle.gob_go.specs.Reading.{LeadsAtMostTo, LeadsToTypes, before_item, behind_whole, types_at, types_refused}
use Rattle.gob_go.proofs.ItemsLaws.{Grown, same_grown, grown_on, defines_grown, stands_grown}

-- ---- from step to step
apart : (z p m x : List ℕ) → ((z ++ p) ++ m) ++ x ≡ z ++ (p ++ (m ++ x))
apart z p m x = simp append_assoc

-- where no step leads on, nothing stands further
pub stays : {L : Bounds} {offset left : ℕ} {z w : List ℕ} {U : Table} {levels : List Level} {next : Next} {S : State}
    (x : List ℕ) → ((p x : List ℕ) (R : State) → Step base_table L offset (state z U levels next left) p R
    → p ++ x ≡ w → ⊥)
    → Onto base_table L offset (state z U levels next left) S → z ++ w ≡ bytes_of S ++ x
    → state z U levels next left ≡ S
stays x n here e = refl
stays {z = z} {w = w} x n (first {R = R} {p = p} s f o) e =
    let m = goes_on o in
    absurd
    (n p (m.0 ++ x) R s
    (sym (same_end z w (p ++ (m.0 ++ x)) (e ∙ ap (λ (l : List ℕ). l ++ x) (m.1 ∙ ap (λ (l : List ℕ). l ++ m.0) f)
    ∙ apart z p m.0 x))))

abbrev table_in : State → Table
table_in (state z U levels next left) = U

step_grown : {L : Bounds} {offset : ℕ} {S R : State} {p : List ℕ} → Step base_table L offset S p R
    → Grown (table_in S) (table_in R)
step_grown (by_name c s ex dl sh some u fit) = same_grown refl
step_grown (by_definition def_ e k) = defines_grown def_
step_grown (by_type may sg u e l) = same_grown refl
step_grown (by_end b sp de e) = same_grown refl

onto_grown : {L : Bounds} {offset : ℕ} {S R : State} → Onto base_table L offset S R → Grown (table_in S) (table_in R)
onto_grown here = same_grown refl
onto_grown (first s e o) = grown_on (step_grown s) (onto_grown o)

joined : (y b c m w : List ℕ) → ((y ++ (b ++ c)) ++ m) ++ w ≡ y ++ (b ++ (c ++ (m ++ w)))
joined y b c m w = simp append_assoc

-- where a definition stands, what leads on has its type
past_definition : {L : Bounds} {offset : ℕ} {A : State} {y : List ℕ} {S : Table} {lv : Level} {levels : List Level}
    {d left : ℕ} {id : TypeId} {v : Tree} {b : List ℕ} {V : Table} (w r : List ℕ)
    → Onto base_table L offset (state y S (lv ∷ levels) (in_filling d) left) A → Defines base_table L S id v b V
    → bytes_of A ++ w ≡ y ++ (b ++ r)
    → (state y S (lv ∷ levels) (in_filling d) left ≡ A) ⊎ Grown V (table_in A)
past_definition w r here def_ e = inl refl
past_definition {y = y} {b = b} w r (first (by_definition {b = b'} {c = c} def' ends k) f o) def_ e =
    let m = goes_on o in
    let one = same_definition (c ++ (m.0 ++ w)) r def' def_
    (same_end y (b' ++ (c ++ (m.0 ++ w))) (b ++ r)
    (sym (ap (λ (l : List ℕ). l ++ w) m.1 ∙ joined y b' c m.0 w) ∙ e)) in
    inr (grown_on (same_grown one.table) (onto_grown o))
past_definition {y = y} {b = b} w r (first (by_type {n = n} {c = c} may sg u ends l) f o) def_ e =
    let m = goes_on o in
    not_defined (c ++ (m.0 ++ w)) r def_ sg
    (same_end y (n ++ (c ++ (m.0 ++ w))) (b ++ r) (sym (ap (λ (l : List ℕ). l ++ w) m.1 ∙ joined y n c m.0 w) ∙ e))

-- ---- definitions that end a segment
abbrev DefinesAt : Bounds → ℕ → State → TypeId → Tree → List ℕ → Table → Type 0
DefinesAt L offset (state y S [] next left) id v b V = ⊥
DefinesAt L offset (state y S (lv ∷ levels) in_value left) id v b V = ⊥
DefinesAt L offset (state y S (lv ∷ levels) (in_filling d) left) id v b V = Defines base_table L S id v b V
    × (offset + length (y ++ b) ≡ lv.end)

-- behind the one that stands there, if one does, the types are these; else too
pub record DefinesAtMost (L : Bounds) (offset : ℕ) (S : State) (w : List ℕ) (U : Table) : Type 0 where
  pub grown : Grown (table_in S) U
  pub last : (id : TypeId) (v : Tree) (b r : List ℕ) (V : Table) → DefinesAt L offset S id v b V → w ≡ b ++ r → V ≡ U

pub none_in_value : {L : Bounds} {offset left : ℕ} {y w : List ℕ} {S : Table} {lv : Level} {levels : List Level}
    → DefinesAtMost L offset (state y S (lv ∷ levels) in_value left) w S
none_in_value = record { grown = same_grown refl; last = λ id v b r V h e. absurd h }

-- the segment goes on
pub none_so_short : {L : Bounds} {offset d left : ℕ} {y w : List ℕ} {S : Table} {lv : Level} {levels : List Level}
    → offset + length (y ++ w) < lv.end → DefinesAtMost L offset (state y S (lv ∷ levels) (in_filling d) left) w S
none_so_short {y = y} {w = w} l = record {
  grown = same_grown refl;
  last = λ id v b r V h e. absurd
      (omega (arith, h.1, ap length e, length-append y w, length-append y b, length-append b r));
}

pub one_defined : {L : Bounds} {offset d left : ℕ} {y b : List ℕ} {S U : Table} {lv : Level} {levels : List Level}
    {id : TypeId} {v : Tree} (q : List ℕ) → Defines base_table L S id v b U
    → DefinesAtMost L offset (state y S (lv ∷ levels) (in_filling d) left) (b ++ q) U
one_defined q def_ = record {
  grown = defines_grown def_;
  last = λ id v b r V h e. sym (same_definition q r def_ h.0 e).table;
}

-- ---- the types where bytes lead
pub stands_lead : {L : Bounds} {T : Table} {offset : ℕ} {y : List ℕ} {U : Table} {levels : List Level} {next : Next}
    {left : ℕ} (w z : List ℕ) → Stands base_table L T offset y U levels next left → z ≡ y ++ w
    → LeadsToTypes L T offset z U
stands_lead w z (at_value u l e s sg short may k) f = before_item refl
stands_lead w z (behind_name {z = y} {a = a} c s p ex dl sh some u fit) f =
    stands_lead ((c ++ (a ++ s)) ++ w) z p (f ∙ append_assoc y (c ++ (a ++ s)) w)
stands_lead w z (behind_definition {z = y} {b = b} {c = c} p def_ e k) f =
    behind_whole (c ++ w) p def_ e (f ∙ append_assoc y (b ++ c) w ∙ ap (λ (l : List ℕ). y ++ l) (append_assoc b c w))
stands_lead w z (at_inner {z = y} {n = n} {c = c} p may sg u e l) f =
    stands_lead ((n ++ c) ++ w) z p (f ∙ append_assoc y (n ++ c) w)
stands_lead w z (behind_inner {z = y} b p sp de e) f = stands_lead (b ++ w) z p (f ∙ append_assoc y b w)

-- no others stand where no step leads on
pub leads_no_further : {L : Bounds} {T U S : Table} {offset left : ℕ} {z y : List ℕ} {levels : List Level} {next : Next}
    (w : List ℕ) → Stands base_table L T offset y S levels next left → z ≡ y ++ w
    → ((p x : List ℕ) (R : State) → Step base_table L offset (state y S levels next left) p R → p ++ x ≡ w → ⊥)
    → DefinesAtMost L offset (state y S levels next left) w U → (V : Table) → LeadsToTypes L T offset z V → Grown V U
leads_no_further w p e n t V (before_item f) = grown_on (same_grown (sym f)) (grown_on (stands_grown p) t.grown)
leads_no_further {L = L} {U = U} {S = S} {offset = offset} {left = left} {y = y} {levels = levels} {next = next} w p e n
    t V (behind_whole {y = y'} {b = b} {S = S'} {lv = lv} {levels = around} {d = d} {left = left'} {id = id} {v = v} r q
    def_ ends f) =
    elim (one_way w (b ++ r) p q (sym e ∙ f)) [
      | inl o ↦ at (stays (b ++ r) n o (sym e ∙ f))
      | inr o ↦ elim (past_definition w r o def_ (sym e ∙ f)) [
        | inl k ↦ at (sym k)
        | inr g ↦ grown_on g t.grown
      ]
    ]
  where
    at : state y S levels next left ≡ state y' S' (lv ∷ around) (in_filling d) left' → Grown V U
    at k =
        let there : DefinesAt L offset (state y S levels next left) id v b V =
        subst (λ s. DefinesAt L offset s id v b V) (sym k) (def_, ends) in
        let rest : w ≡ b ++ r = same_end y w (b ++ r) (sym e ∙ f ∙ ap (λ (l : List ℕ). l ++ (b ++ r))
        (sym (ap bytes_of k))) in
        same_grown (sym (t.last id v b r V there rest))

pub leads_at_most : {L : Bounds} {T U S : Table} {offset left : ℕ} {z y : List ℕ} {levels : List Level} {next : Next}
    (w : List ℕ) → Stands base_table L T offset y S levels next left → z ≡ y ++ w
    → ((p x : List ℕ) (R : State) → Step base_table L offset (state y S levels next left) p R → p ++ x ≡ w → ⊥)
    → DefinesAtMost L offset (state y S levels next left) w U → LeadsToTypes L T offset z U
    → LeadsAtMostTo L T offset z U
leads_at_most w p e n t l = record {
  leads = l;
  last = λ V k. let g = leads_no_further w p e n t V k in (g.more, g.grown);
}

-- where no value begins, they are those before the item
pub leads_nowhere : {L : Bounds} {T U : Table} {offset : ℕ} {z : List ℕ} → U ≡ T → (Begins L T offset z → ⊥)
    → LeadsAtMostTo L T offset z U
leads_nowhere {L = L} {T = T} {U = U} {offset = offset} {z = z} e n = record { leads = before_item e; last = at }
  where
    at : (V : Table) → LeadsToTypes L T offset z V → (more : Table) × (U ≡ V ++ more)
    at V (before_item f) = let g : Grown V U = same_grown (e ∙ sym f) in (g.more, g.grown)
    at V (behind_whole {b = b} r q def_ ends f) = absurd (n (begins (b ++ r) z q f))

-- ---- where they are refused
at_defines : {L : Bounds} {U : Table} {offset left : ℕ} {y w : List ℕ} {levels : List Level} {next : Next} {R : Refusal}
    (h : RefusesAt base_table L (offset + length y) U w levels next left R)
    → DefinesAtMost L offset (state y U levels next left) w (types_at h)
at_defines (in_skeleton f n p s r) = none_in_value
at_defines (short_name c r ex dl sh t u l k) = none_in_value
at_defines {L = L} {U = U} {offset = offset} {y = y} {w = w} (as_in_an_item {lv = lv} body ns) = record {
  grown = same_grown refl;
  last = λ id v b r V h e.
      let all : take (lv.end - (offset + length y)) w ≡ b = whole b r w (lv.end - (offset + length y)) (sym e)
      (omega (arith, h.1, length-append y b)) in
      absurd
      (ns.no_definition id v V (omega (arith, ap length all, h.1, length-append y b))
      (subst (λ (l : List ℕ). Defines base_table L U id v l V) (sym all) h.0));
}
at_defines {offset = offset} {y = y} {w = w} (inner_count {lv = lv} {n = n} {q = q} eq sg may k) = record {
  grown = same_grown refl;
  last = λ id v b r V h e.
      let all : take (lv.end - (offset + length y)) w ≡ b = whole b r w (lv.end - (offset + length y)) (sym e)
      (omega (arith, h.1, length-append y b)) in
      not_defined q [] h.0 sg (sym eq ∙ all ∙ sym (append-nil b));
}
at_defines (next_count q eq def_ ends k) = record {
  grown = defines_grown def_;
  last = λ id v b r V h e. sym (same_definition q r def_ h.0 (sym eq ∙ e)).table;
}

at_leads : {L : Bounds} {T U : Table} {offset left : ℕ} {y w : List ℕ} {levels : List Level} {next : Next} {R : Refusal}
    (z : List ℕ) → Stands base_table L T offset y U levels next left → z ≡ y ++ w
    → (h : RefusesAt base_table L (offset + length y) U w levels next left R) → LeadsToTypes L T offset z (types_at h)
at_leads {w = w} z p e (in_skeleton f n pl s r) = stands_lead w z p e
at_leads {w = w} z p e (short_name c r ex dl sh t u l k) = stands_lead w z p e
at_leads {w = w} z p e (as_in_an_item body ns) = stands_lead w z p e
at_leads {w = w} z p e (inner_count eq sg may k) = stands_lead w z p e
at_leads {y = y} z p e (next_count {b = b} q eq def_ ends k) =
    behind_whole q p def_ (omega (arith, ends, length-append y b)) (e ∙ ap (λ (l : List ℕ). y ++ l) eq)

pub refused_lead : {L : Bounds} {T : Table} {offset : ℕ} {z : List ℕ} {R : Refusal}
    (r : RefusesFilled base_table L T offset z R) → LeadsAtMostTo L T offset z (types_refused r)
refused_lead (refused_count h) =
    leads_nowhere refl (λ b. count_not (b.number ++ b.rest) h b.counts b.whole b.item b.stream)
refused_lead (refused_body {m = m} r e u l s h ns) = leads_nowhere refl (λ b.
    let count = unsigned_prefix (b.number ++ b.rest) r b.counts u (sym b.whole ∙ e) in
    let few = b.short in let v = count.value in
    ns.no_type b.type b.number (take (m - length b.number) b.rest)
    (ap (λ r. take m r) (sym count.rest) ∙ take_past b.number b.rest m (omega arith)) b.names b.may)
refused_lead {z = z} (refused_value {w = w} e p h) =
    leads_at_most w p e (λ q x S st k. stuck x refl h st k) (at_defines h) (at_leads z p e h)
