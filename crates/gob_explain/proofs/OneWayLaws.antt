-- Rows that lead over the same bytes are cut alike.
use Rattle.std.proofs.Common.{◌≡◌, ◌≢◌, ℕ, ◌<◌, List, [], ◌∷◌, ◌++◌, length, refl, sym, ap, ◌∙◌, subst, arith}
use Rattle.gob_num.specs.Unsigned.{IsUnsigned, short, long}
use Rattle.gob_num.proofs.PublicLaws.{unsigned_prefix, append_split}
use Rattle.gob_types.specs.declared.id.TypeId.{TypeId}
use Rattle.gob_types.specs.declared.kind.Kind.{Kind}
use Rattle.gob_types.specs.Table.{Table}
use Rattle.gob_read.specs.Expected.{Expected, a_number, raw}
use Rattle.gob_read.specs.Expects.{ExpectsAt, Expects, ExpectsTop}
use Rattle.gob_read.specs.Expects as expects
use Rattle.gob_read.proofs.Grammar.Compare.{expects_once}
use Rattle.gob_explain.specs.Rows.{Row, joined}
use Rattle.gob_explain.specs.Laws.{Answers, EachStands, cuts}

-- raw bytes are expected only where there are some
at_some : {T : Table} {k : Kind} {q : List ℕ} {w : Expected} (n : ℕ) → ExpectsAt T k q w → w ≡ raw n → 0 < n
at_some n expects.first e = cc
at_some n (expects.second p) e = cc
at_some n (expects.byte_content {n = m} l p) e = let is : m ≡ n = cc in subst (λ n. 0 < n) is l
at_some n (expects.text_content {n = m} l p) e = let is : m ≡ n = cc in subst (λ n. 0 < n) is l
at_some n (expects.opaque_content {n = m} l p) e = let is : m ≡ n = cc in subst (λ n. 0 < n) is l
at_some n (expects.next_delta l r) e = cc

part_some : {T : Table} {t : TypeId} {p : List ℕ} {w : Expected} {d : ℕ} (n : ℕ) → Expects T t p w d → w ≡ raw n → 0 < n
part_some n (expects.in_itself f a) e = at_some n a e
part_some n (expects.in_part f m a) e = part_some n a e

top_some : {T : Table} {t : TypeId} {p : List ℕ} {w : Expected} {d : ℕ} (n : ℕ) → ExpectsTop T t p w d → w ≡ raw n
    → 0 < n
top_some n (expects.in_struct f i a) e = part_some n a e
top_some n (expects.at_tag f i) e = cc
top_some n (expects.behind_tag f i a) e = part_some n a e

no_number : {n : ℕ} {b : List ℕ} → IsUnsigned n b → b ≢ []
no_number (short l) e = cc
no_number (long l) e = cc

-- a row has bytes
pub row_some : {T : Table} {t : TypeId} {p b : List ℕ} {d : ℕ} (w : Expected) → ExpectsTop T t p w d → Answers w b
    → b ≢ []
row_some (a_number a) x y e = no_number y.1 e
row_some {b = b} (raw n) x y e =
    let some = top_some n x refl in
    let none : length b ≡ 0 = ap length e in
    omega arith

-- what answers the same ends at the same place
pub answers_once : (w : Expected) (b c x y : List ℕ) → Answers w b → Answers w c → b ++ x ≡ c ++ y → (b ≡ c) × (x ≡ y)
answers_once (a_number a) b c x y p q e = let s = unsigned_prefix x y p.1 q.1 e in (s.bytes, s.rest)
answers_once (raw n) b c x y p q e = append_split b c x y (p ∙ sym q) e

pub front_none : (b c : List ℕ) → [] ≡ b ++ c → b ≡ []
front_none [] c e = refl
front_none (x ∷ b) c e = cc

pub cut_alike : (T : Table) (t : TypeId) (p : List ℕ) (rs : List Row) (ss : List Row) → EachStands T t p rs
    → EachStands T t p ss
    → joined rs ≡ joined ss → cuts rs ≡ cuts ss
cut_alike T t p [] [] g h e = refl
cut_alike T t p [] (s ∷ ss) g h e = absurd (row_some h.0.0 h.0.1 h.0.2 (front_none s.bytes (joined ss) e))
cut_alike T t p (r ∷ rs) [] g h e = absurd (row_some g.0.0 g.0.1 g.0.2 (front_none r.bytes (joined rs) (sym e)))
cut_alike T t p (r ∷ rs) (s ∷ ss) g h e =
    let same = expects_once g.0.1 h.0.1 in
    let ends = answers_once h.0.0 r.bytes s.bytes (joined rs) (joined ss) (subst (λ w. Answers w r.bytes) same.0
    g.0.2) h.0.2 e in
    let rest = cut_alike T t (p ++ s.bytes) rs ss (subst (λ b. EachStands T t (p ++ b) rs) ends.0 g.1) h.1 ends.1 in
    ap (λ d. (d, r.bytes) ∷ cuts rs) same.1 ∙ ap (λ b. (s.depth, b) ∷ cuts rs) ends.0
    ∙ ap (λ (l : List (ℕ × List ℕ)). (s.depth, s.bytes) ∷ l) rest
