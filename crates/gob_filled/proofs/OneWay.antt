-- Bytes stand in one way: of two standings within the same bytes one leads to the other.
use Rattle.std.proofs.Common.{◌≡◌, ℕ, pos, ◌+◌, ◌-◌, ◌<◌, ◌≤◌, ◌⊎◌, inl, inr, List, [], ◌∷◌, ◌++◌, length, arith, refl}
use Rattle.std.proofs.Common.{sym, ap, ◌∙◌, subst, append_assoc}
use Rattle.gob_num.specs.Unsigned.{IsUnsigned}
use Rattle.gob_num.specs.Signed.{IsSigned}
use Rattle.gob_num.proofs.PublicLaws.{append_split, unsigned_prefix, signed_prefix, regroup}
use Rattle.gob_types.specs.declared.id.TypeId.{TypeId}
use Rattle.gob_types.specs.Table.{Table}
use Rattle.gob_value.specs.Tree.{Tree, depth}
use Rattle.gob_value.specs.Top.{SpellsTop}
use Rattle.gob_value.proofs.PublicLaws.{same_top}
use Rattle.gob_read.specs.Expected.{a_number, nil}
use Rattle.gob_read.specs.Expects.{ExpectsTop}
use Rattle.gob_read.specs.Viable.{IsShallow}
use Rattle.gob_read.proofs.Grammar.Compare.{whole_meets_top, unmet_once}
use Rattle.gob_read.proofs.Grammar.Prefixes.{same_end}
use Rattle.gob_stream.specs.Bounds.{Bounds}
use Rattle.gob_stream.specs.Body.{MayPut}
use Rattle.gob_stream.proofs.PublicLaws.{same_id}
use Rattle.gob_filled.specs.Definition.{Defines}
use Rattle.gob_filled.specs.Standing.{Level, new_level, Next, in_value, in_filling, IsNextCount, of_item, within}
use Rattle.gob_filled.specs.Standing.{Stands, at_value, behind_name, behind_definition, at_inner, behind_inner}
use Rattle.gob_filled.proofs.Prefix.{unmet, further, same_definition, not_defined}

pub data State : Type 0 where
  state : List ℕ → Table → List Level → Next → ℕ → State

abbrev pub bytes_of : State → List ℕ
bytes_of (state z U levels next left) = z

-- one step, over these bytes
pub data Step (base : Table) (L : Bounds) (offset : ℕ) : State → List ℕ → State → Type 0 where
  by_name : {z a : List ℕ} {U : Table} {lv : Level} {levels : List Level} {d left : ℕ} (c s : List ℕ)
      → ExpectsTop lv.table lv.type (lv.done ++ c) (a_number nil) d → d ≤ lv.limit
      → IsShallow lv.table lv.type lv.limit (lv.done ++ c) → 0 < length s → IsUnsigned (length s) a
      → offset + length (z ++ (c ++ (a ++ s))) ≤ lv.end
      → Step base L offset (state z U (lv ∷ levels) in_value left) (c ++ (a ++ s))
      (state (z ++ (c ++ (a ++ s))) U (record lv { done = lv.done ++ c } ∷ levels) (in_filling d) left)
  by_definition : {z b c : List ℕ} {U V : Table} {lv : Level} {levels : List Level} {id : TypeId} {v : Tree}
      {d end left left' : ℕ} → Defines base L U id v b V
      → offset + length (z ++ b) ≡ lv.end → IsNextCount L lv.end left levels c end left'
      → Step base L offset (state z U (lv ∷ levels) (in_filling d) left) (b ++ c)
      (state (z ++ (b ++ c)) V (record lv { end = end } ∷ levels) (in_filling d) left')
  by_type : {z n c : List ℕ} {U : Table} {lv : Level} {levels : List Level} {u : TypeId} {d m end left : ℕ} → MayPut U u
      → IsSigned (pos u.0) n → IsUnsigned m c
      → end ≡ offset + length (z ++ (n ++ c)) + m → end ≤ lv.end
      → Step base L offset (state z U (lv ∷ levels) (in_filling d) left) (n ++ c)
      (state (z ++ (n ++ c)) U (new_level U u (lv.limit - d) end ∷ (lv ∷ levels)) in_value left)
  by_end : {z : List ℕ} {U : Table} {lv around : Level} {levels : List Level} {v : Tree} {left : ℕ} (b : List ℕ)
      → SpellsTop lv.table lv.type v (lv.done ++ b) → depth v ≤ lv.limit
      → offset + length (z ++ b) ≡ lv.end
      → Step base L offset (state z U (lv ∷ (around ∷ levels)) in_value left) b
      (state (z ++ b) U (record around { done = around.done ++ 0 ∷ [] } ∷ levels) in_value left)

record OneStep (p q x y : List ℕ) (S R : State) : Type 0 where
  pub bytes : p ≡ q
  pub rest : x ≡ y
  pub state_is : S ≡ R

pos_injective : {m n : ℕ} → pos m ≡ pos n → m ≡ n
pos_injective e = cc

two : {a b c d : List ℕ} → a ≡ c → b ≡ d → a ++ b ≡ c ++ d
two e f = cc

named : (z : List ℕ) (U : Table) (lv : Level) (levels : List Level) (left : ℕ) {d d' : ℕ} {c c' a a' s s' : List ℕ}
    → c ≡ c' → a ≡ a' → s ≡ s' → d ≡ d'
    → state (z ++ (c ++ (a ++ s))) U (record lv { done = lv.done ++ c } ∷ levels) (in_filling d) left ≡ state
    (z ++ (c' ++ (a' ++ s'))) U (record lv { done = lv.done ++ c' } ∷ levels) (in_filling d') left
named z U lv levels left {d = d} {d' = d'} {c = c} {c' = c'} {a = a} {a' = a'} {s = s} {s' = s'} e f g h =
    ap (λ (c : List ℕ). state (z ++ (c ++ (a ++ s))) U (record lv { done = lv.done ++ c } ∷ levels) (in_filling d) left)
    e
    ∙ ap (λ (l : List ℕ). state (z ++ (c' ++ l)) U (record lv { done = lv.done ++ c' } ∷ levels) (in_filling d) left)
    (two f g)
    ∙ ap (λ (d : ℕ). state (z ++ (c' ++ (a' ++ s'))) U (record lv { done = lv.done ++ c' } ∷ levels)
    (in_filling d) left) h

record OneCount (c d x y : List ℕ) (end end' left left' : ℕ) : Type 0 where
  pub bytes : c ≡ d
  pub rest : x ≡ y
  pub end_is : end ≡ end'
  pub left_is : left ≡ left'

one_count : {L : Bounds} {at left end end' left' left'' : ℕ} {levels : List Level} {c d : List ℕ} (x y : List ℕ)
    → IsNextCount L at left levels c end left' → IsNextCount L at left levels d end' left''
    → c ++ x ≡ d ++ y → OneCount c d x y end end' left' left''
one_count x y (of_item u l e s k) (of_item u' l' e' s' k') h = let r = unsigned_prefix x y u u' h in
    let n = ap length r.bytes in let v = r.value in record {
      bytes = r.bytes;
      rest = r.rest;
      end_is = omega arith;
      left_is = omega arith;
    }
one_count x y (within u e l) (within u' e' l') h = let r = unsigned_prefix x y u u' h in let n = ap length r.bytes in
    let v = r.value in record { bytes = r.bytes; rest = r.rest; end_is = omega arith; left_is = refl }

defined_state : (z : List ℕ) {V V' : Table} (lv : Level) (levels : List Level) (d : ℕ) {end end' left left' : ℕ}
    {p q : List ℕ} → p ≡ q → V ≡ V' → end ≡ end' → left ≡ left'
    → state (z ++ p) V (record lv { end = end } ∷ levels) (in_filling d) left ≡ state (z ++ q) V'
    (record lv { end = end' } ∷ levels) (in_filling d) left'
defined_state z {V = V} {V' = V'} lv levels d {end = end} {end' = end'} {left = left} {left' = left'} {p = p}
    {q = q} e f g h =
    ap (λ (p : List ℕ). state (z ++ p) V (record lv { end = end } ∷ levels) (in_filling d) left) e
    ∙ ap (λ (V : Table). state (z ++ q) V (record lv { end = end } ∷ levels) (in_filling d) left) f
    ∙ ap (λ (end : ℕ). state (z ++ q) V' (record lv { end = end } ∷ levels) (in_filling d) left) g
    ∙ ap (λ (left : ℕ). state (z ++ q) V' (record lv { end = end' } ∷ levels) (in_filling d) left) h

typed_state : (z : List ℕ) (U : Table) (lv : Level) (levels : List Level) (limit left : ℕ) {end end' : ℕ}
    {u u' : TypeId} {p q : List ℕ} → p ≡ q → u ≡ u' → end ≡ end'
    → state (z ++ p) U (new_level U u limit end ∷ (lv ∷ levels)) in_value left ≡ state (z ++ q) U
    (new_level U u' limit end' ∷ (lv ∷ levels)) in_value left
typed_state z U lv levels limit left {end = end} {end' = end'} {u = u} {u' = u'} {p = p} {q = q} e f g =
    ap (λ (p : List ℕ). state (z ++ p) U (new_level U u limit end ∷ (lv ∷ levels)) in_value left) e
    ∙ ap (λ (u : TypeId). state (z ++ q) U (new_level U u limit end ∷ (lv ∷ levels)) in_value left) f
    ∙ ap (λ (end : ℕ). state (z ++ q) U (new_level U u' limit end ∷ (lv ∷ levels)) in_value left) g

grouped : (c a s x : List ℕ) → (c ++ (a ++ s)) ++ x ≡ c ++ (a ++ (s ++ x))
grouped c a s x = simp append_assoc

one_step : {base : Table} {L : Bounds} {offset : ℕ} {S R Q : State} {p q : List ℕ} (x y : List ℕ)
    → Step base L offset S p R → Step base L offset S q Q → p ++ x ≡ q ++ y → OneStep p q x y R Q
one_step x y (by_name {z = z} {a = a} {U = U} {lv = lv} {levels = levels} {left = left} c s ex l sh some u fit)
    (by_name {a = a'} c' s' ex' l' sh' some' u' fit') h =
    let one = unmet_once (a ++ (s ++ x)) (a' ++ (s' ++ y)) ex ex'
    (further lv.done c (a ++ (s ++ x)) ∙ ap (λ (l : List ℕ). lv.done ++ l)
    (sym (grouped c a s x) ∙ h ∙ grouped c' a' s' y) ∙ sym (further lv.done c' (a' ++ (s' ++ y))))
    (unmet s (s ++ x) some u) (unmet s' (s' ++ y) some' u') in
    let ec = same_end lv.done c c' one.bytes in
    let name = unsigned_prefix (s ++ x) (s' ++ y) u u' one.rest in
    let text = append_split s s' x y name.value name.rest in
    record {
      bytes = two ec (two name.bytes text.0);
      rest = text.1;
      state_is = named z U lv levels left ec name.bytes text.0 (ap (λ (v : _ × ℕ). v.1) one.value);
    }
one_step x y (by_name {a = a} {lv = lv} c s ex l sh some u fit) (by_end b sp de e) h =
    absurd
    (unmet s (s ++ x) some u (whole_meets_top (a ++ (s ++ x)) y sp ex
    (further lv.done c (a ++ (s ++ x)) ∙ ap (λ (l : List ℕ). lv.done ++ l) (sym (grouped c a s x) ∙ h)
    ∙ sym (further lv.done b y))))
one_step x y (by_end {lv = lv} b sp de e) (by_name {a = a} c s ex l sh some u fit) h =
    absurd
    (unmet s (s ++ y) some u (whole_meets_top (a ++ (s ++ y)) x sp ex
    (further lv.done c (a ++ (s ++ y)) ∙ ap (λ (l : List ℕ). lv.done ++ l) (sym (grouped c a s y) ∙ sym h)
    ∙ sym (further lv.done b x))))
one_step x y (by_end {z = z} {U = U} {lv = lv} {around = around} {levels = levels} {left = left} b sp de e)
    (by_end b' sp' de' e') h =
    let r = same_top x y sp sp' (further lv.done b x ∙ ap (λ (l : List ℕ). lv.done ++ l) h ∙ sym (further lv.done b' y))
    in
    let eb = same_end lv.done b b' r.bytes in
    record {
      bytes = eb;
      rest = r.rest;
      state_is = ap (λ (b : List ℕ). state (z ++ b) U
          (record around { done = around.done ++ 0 ∷ [] } ∷ levels) in_value left) eb;
    }
one_step x y (by_definition {z = z} {b = b} {c = c} {lv = lv} {levels = levels} {d = d} def e k)
    (by_definition {b = b'} {c = c'} def' e' k') h =
    let one = same_definition (c ++ x) (c' ++ y) def def' (regroup b c x b' c' y h) in
    let count = one_count x y k k' one.rest in
    record {
      bytes = two one.bytes count.bytes;
      rest = count.rest;
      state_is = defined_state z lv levels d (two one.bytes count.bytes) one.table count.end_is count.left_is;
    }
one_step x y (by_definition {b = b} {c = c} def e k) (by_type {n = n} {c = c'} may sg u e' l) h =
    not_defined (c' ++ y) (c ++ x) def sg (sym (append_assoc n c' y) ∙ sym h ∙ append_assoc b c x)
one_step x y (by_type {n = n} {c = c'} may sg u e' l) (by_definition {b = b} {c = c} def e k) h =
    not_defined (c' ++ x) (c ++ y) def sg (sym (append_assoc n c' x) ∙ h ∙ append_assoc b c y)
one_step {offset = offset} x y (by_type {z = z} {n = n} {c = c} {U = U} {lv = lv} {levels = levels} {d = d} {m = m}
    {end = end} {left = left} may sg u e l) (by_type {n = n'} {c = c'} {m = m'} {end = end'} may' sg' u' e' l') h =
    let number = signed_prefix (c ++ x) (c' ++ y) sg sg' (regroup n c x n' c' y h) in
    let count = unsigned_prefix x y u u' number.rest in
    let bytes = two number.bytes count.bytes in
    let ends : end ≡ end' = e ∙ ap (λ (l : List ℕ). offset + length (z ++ l) + m) bytes
    ∙ ap (λ (m : ℕ). offset + length (z ++ (n' ++ c')) + m) count.value ∙ sym e' in
    record {
      bytes = bytes;
      rest = count.rest;
      state_is = typed_state z U lv levels (lv.limit - d) left bytes
          (same_id (pos_injective number.value)) ends;
    }

-- any steps, the first of them first
pub data Onto (base : Table) (L : Bounds) (offset : ℕ) : State → State → Type 0 where
  here : {S : State} → Onto base L offset S S
  first : {S R Q : State} {p : List ℕ} → Step base L offset S p R → bytes_of R ≡ bytes_of S ++ p
      → Onto base L offset R Q → Onto base L offset S Q

then_step : {base : Table} {L : Bounds} {offset : ℕ} {S R Q : State} {p : List ℕ} → Onto base L offset S R
    → Step base L offset R p Q → bytes_of Q ≡ bytes_of R ++ p → Onto base L offset S Q
then_step here s e = first s e here
then_step (first t f o) s e = first t f (then_step o s e)

-- the bytes of a later state go on behind those of an earlier one
pub goes_on : {base : Table} {L : Bounds} {offset : ℕ} {S R : State} → Onto base L offset S R
    → (p : List ℕ) × (bytes_of R ≡ bytes_of S ++ p)
goes_on {S = S} here = ([], sym (append_nil (bytes_of S)))
  where
    append_nil : (l : List ℕ) → l ++ [] ≡ l
    append_nil [] = refl
    append_nil (x ∷ l) = ap (λ k. x ∷ k) (append_nil l)
goes_on {S = S} (first {p = p} s e o) = let r = goes_on o in (
  p ++ r.0,
  r.1 ∙ ap (λ (l : List ℕ). l ++ r.0) e
      ∙ append_assoc (bytes_of S) p r.0,
)

-- where an item of a value begins
pub data Start (base : Table) (L : Bounds) (T : Table) (offset : ℕ) : State → Type 0 where
  start : {t : TypeId} {m end left : ℕ} {c a : List ℕ} → IsUnsigned m c → m ≤ L.item → end ≡ offset + length c + m
      → end ≤ L.stream
      → IsSigned (pos t.0) a → length a ≤ m → MayPut T t → left ≡ L.item - m
      → Start base L T offset (state (c ++ a) T (new_level T t L.depth end ∷ []) in_value left)

pub record Started (base : Table) (L : Bounds) (T : Table) (offset : ℕ) (S : State) : Type 0 where
  pub from : State
  pub start : Start base L T offset from
  pub onto : Onto base L offset from S

pub started : {base : Table} {L : Bounds} {T : Table} {offset : ℕ} {z : List ℕ} {U : Table} {levels : List Level}
    {next : Next} {left : ℕ} → Stands base L T offset z U levels next left
    → Started base L T offset (state z U levels next left)
started (at_value u l e s sg short may k) = record { from = _; start = start u l e s sg short may k; onto = here }
started (behind_name c s p ex l sh some u fit) = let r = started p in
    record { from = r.from; start = r.start; onto = then_step r.onto (by_name c s ex l sh some u fit) refl }
started (behind_definition p def e k) = let r = started p in record {
  from = r.from;
  start = r.start;
  onto = then_step r.onto (by_definition def e k) refl;
}
started (at_inner p may sg u e l) = let r = started p in record {
  from = r.from;
  start = r.start;
  onto = then_step r.onto (by_type may sg u e l) refl;
}
started (behind_inner b p sp de e) = let r = started p in record {
  from = r.from;
  start = r.start;
  onto = then_step r.onto (by_end b sp de e) refl;
}

start_state : (T : Table) (depth : ℕ) {t t' : TypeId} {p q : List ℕ} {end end' left left' : ℕ} → p ≡ q → t ≡ t'
    → end ≡ end' → left ≡ left'
    → state p T (new_level T t depth end ∷ []) in_value left ≡ state q T (new_level T t' depth end' ∷ []) in_value left'
start_state T depth {t = t} {t' = t'} {p = p} {q = q} {end = end} {end' = end'} {left = left} {left' = left'} e f g h =
    ap (λ (p : List ℕ). state p T (new_level T t depth end ∷ []) in_value left) e
    ∙ ap (λ (t : TypeId). state q T (new_level T t depth end ∷ []) in_value left) f
    ∙ ap (λ (end : ℕ). state q T (new_level T t' depth end ∷ []) in_value left) g
    ∙ ap (λ (left : ℕ). state q T (new_level T t' depth end' ∷ []) in_value left) h

one_start : {base : Table} {L : Bounds} {T : Table} {offset : ℕ} {S R : State} (x y : List ℕ) → Start base L T offset S
    → Start base L T offset R → bytes_of S ++ x ≡ bytes_of R ++ y → S ≡ R
one_start {L = L} {T = T} {offset = offset} x y (start {c = c} {a = a} u l e s sg short may k)
    (start {c = c'} {a = a'} u' l' e' s' sg' short' may' k') h =
    let count = unsigned_prefix (a ++ x) (a' ++ y) u u' (regroup c a x c' a' y h) in
    let number = signed_prefix x y sg sg' count.rest in
    let n = ap length count.bytes in let m = count.value in
    start_state T L.depth (two count.bytes number.bytes) (same_id (pos_injective number.value)) (omega arith)
    (omega arith)

-- of two states from one start within the same bytes one leads to the other
pub compared : {base : Table} {L : Bounds} {offset : ℕ} {S R Q : State} (x y : List ℕ) → Onto base L offset S R
    → Onto base L offset S Q → bytes_of R ++ x ≡ bytes_of Q ++ y
    → Onto base L offset R Q ⊎ Onto base L offset Q R
compared x y here o h = inl o
compared x y (first s e o) here h = inr (first s e o)
compared {base = base} {L = L} {offset = offset} {S = S} {R = R} {Q = Q} x y (first {R = A} {p = p} s e o)
    (first {R = B} {p = q} s' e' o') h =
    let m = goes_on o in
    let n = goes_on o' in
    let left : bytes_of R ++ x ≡ bytes_of S ++ (p ++ (m.0 ++ x)) =
    ap (λ (l : List ℕ). l ++ x) (m.1 ∙ ap (λ (l : List ℕ). l ++ m.0) e) ∙ apart (bytes_of S) p m.0 x in
    let right : bytes_of Q ++ y ≡ bytes_of S ++ (q ++ (n.0 ++ y)) =
    ap (λ (l : List ℕ). l ++ y) (n.1 ∙ ap (λ (l : List ℕ). l ++ n.0) e') ∙ apart (bytes_of S) q n.0 y in
    let one = one_step (m.0 ++ x) (n.0 ++ y) s s' (same_end (bytes_of S) (p ++ (m.0 ++ x)) (q ++ (n.0 ++ y))
    (sym left ∙ h ∙ right)) in
    compared x y o (subst (λ S. Onto base L offset S Q) (sym one.state_is) o') h
  where
    apart : (s p m x : List ℕ) → ((s ++ p) ++ m) ++ x ≡ s ++ (p ++ (m ++ x))
    apart s p m x = simp append_assoc

-- of two standings within the same bytes one leads to the other
pub one_way : {base : Table} {L : Bounds} {T U V : Table} {offset left left' : ℕ} {z y : List ℕ}
    {levels others : List Level} {next next' : Next} (x w : List ℕ)
    → Stands base L T offset z U levels next left → Stands base L T offset y V others next' left' → z ++ x ≡ y ++ w
    → Onto base L offset (state z U levels next left) (state y V others next' left') ⊎ Onto base L offset
    (state y V others next' left') (state z U levels next left)
one_way {base = base} {L = L} {V = V} {offset = offset} {left' = left'} {y = y} {others = others}
    {next' = next'} x w p q e =
    let a = started p in
    let b = started q in
    let m = goes_on a.onto in
    let n = goes_on b.onto in
    let one = one_start (m.0 ++ x) (n.0 ++ w) a.start b.start
    (sym (append_assoc (bytes_of a.from) m.0 x) ∙ ap (λ (l : List ℕ). l ++ x) (sym m.1) ∙ e
    ∙ ap (λ (l : List ℕ). l ++ w) n.1 ∙ append_assoc (bytes_of b.from) n.0 w) in
    compared x w a.onto (subst (λ S. Onto base L offset S (state y V others next' left')) (sym one) b.onto) e
