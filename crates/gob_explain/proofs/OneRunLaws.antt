-- There is one way to cut bytes into rows, also where interfaces hold others.
use Rattle.std.proofs.Common.{◌≡◌, ℕ, pos, negsuc, ◌+◌, ◌*◌, ◌≤◌, List, [], ◌∷◌, ◌++◌, length, drop, refl}
use Rattle.std.proofs.Common.{sym, ap, ◌∙◌, subst, arith}
use Rattle.gob_num.specs.Signed.{IsSigned, negative, not_negative}
use Rattle.gob_num.specs.Unsigned.{IsUnsigned}
use Rattle.gob_num.proofs.PublicLaws.{append_split, unsigned_prefix}
use Rattle.gob_types.specs.declared.id.TypeId.{TypeId}
use Rattle.gob_types.specs.Base.{id}
use Rattle.gob_types.specs.Table.{Table}
use Rattle.gob_value.specs.Top.{SpellsTop}
use Rattle.gob_value.specs.Tree.{Tree}
use Rattle.gob_read.specs.Expected.{Expected}
use Rattle.gob_read.specs.Expects.{ExpectsTop}
use Rattle.gob_read.proofs.Grammar.Compare.{expects_once, met_some, whole_meets_top}
use Rattle.gob_explain.specs.declared.row.Row.{Row}
use Rattle.gob_explain.specs.Laws.{Answers}
use Rattle.gob_explain.specs.Open.{Due, Open, a_filling, a_value, count, name}
use Rattle.gob_explain.specs.Reach.{places}
use Rattle.gob_explain.specs.Walk.{Ends, RowsLead, Steps, between}
use Rattle.gob_explain.specs.Walk as walk
use Rattle.gob_explain.proofs.BetweenLaws.{between_length, between_rest}
use Rattle.gob_explain.proofs.OneWayLaws.{answers_once}
use Rattle.gob_explain.proofs.TakesLaws.{comes_expects}

-- the same is open, but for the types of interfaces that are filled
pub data Like : List Open → List Open → Type 0 where
  none_like : Like [] []
  value_like : {t : TypeId} {base : ℕ} {p : List ℕ} {o m : List Open} → Like o m
      → Like (a_value t base p ∷ o) (a_value t base p ∷ m)
  filling_like : {u v : TypeId} {d : ℕ} {due : Due} {o m : List Open} → Like o m
      → Like (a_filling u d due ∷ o) (a_filling v d due ∷ m)

pub like_itself : (o : List Open) → Like o o
like_itself [] = none_like
like_itself (a_value t base p ∷ o) = value_like (like_itself o)
like_itself (a_filling u d due ∷ o) = filling_like (like_itself o)

pub like_back : {o m : List Open} → Like o m → Like m o
like_back none_like = none_like
like_back (value_like l) = value_like (like_back l)
like_back (filling_like l) = filling_like (like_back l)

-- two rows lie as deep, have the same bytes, and leave the same open
pub record Once (r s : Row) (b c : List ℕ) (next behind : List Open) : Type 0 where
  pub deep : r.depth ≡ s.depth
  pub bytes : b ≡ c
  pub like : Like next behind

odd_number : {n : ℕ} {b : List ℕ} → IsSigned (negsuc n) b → IsUnsigned (2 * n + 1) b
odd_number (negative u) = u

even_number : {n : ℕ} {b : List ℕ} → IsSigned (pos n) b → IsUnsigned (2 * n) b
even_number (not_negative u) = u

pub one_sign : {m n : ℕ} {b c : List ℕ} (x y : List ℕ) → b ++ x ≡ c ++ y → IsSigned (negsuc m) b → ¬ IsSigned (pos n) c
one_sign x y e p q = let one = (unsigned_prefix x y (odd_number p) (even_number q) e).value in absurd (omega arith)

pub one_type : {v w : TypeId} {b c : List ℕ} (x y : List ℕ) → b ++ x ≡ c ++ y → IsSigned (pos v.0) b
    → IsSigned (pos w.0) c → v ≡ w
one_type {v = v} {w = w} x y e p q =
    let one = (unsigned_prefix x y (even_number p) (even_number q) e).value in
    let same : v.0 ≡ w.0 = omega arith in
    ap id same

pub steps_once : {T : Table} (r s : Row) (b c x y : List ℕ) {o m next behind : List Open} → b ++ x ≡ c ++ y → Like o m
    → Steps T o r b next → Steps T m s c behind → Once r s b c next behind
steps_once r s b c x y e none_like k q = elim k [ ]
steps_once {T = T} r s b c x y e (value_like {t = t} {base = base} {p = p} {o = o} {m = m} l)
    (walk.in_value {w = w} first d answers tells) (walk.in_value {w = v} second k others told) =
    let same = expects_once (comes_expects first) (comes_expects second) in
    let cut = answers_once w b c x y answers (subst (λ v. Answers v c) (sym same.0) others) e in
    record {
      deep = d ∙ ap (λ d. base + d) same.1 ∙ sym k;
      bytes = cut.0;
      like = subst (λ q. Like (a_value t base (p ++ b) ∷ o) (a_value t base (p ++ q) ∷ m)) cut.0 (value_like l);
    }
steps_once r s b c x y e (value_like l) (walk.in_value first d answers tells) (walk.of_filling second k up q n) =
    let same = expects_once (comes_expects first) (comes_expects second) in
    let zero = subst (λ w. Answers w b) same.0 answers in
    let one = (unsigned_prefix x y zero.1 q e).value in
    absurd (omega (arith, zero.2))
steps_once r s b c x y e (value_like l) (walk.of_filling first k up q n) (walk.in_value second d answers tells) =
    let same = expects_once (comes_expects second) (comes_expects first) in
    let zero = subst (λ w. Answers w c) same.0 answers in
    let one = (unsigned_prefix x y q zero.1 e).value in
    absurd (omega (arith, zero.2))
steps_once r s b c x y e (value_like {t = t} {base = base} {p = p} {o = o} {m = m} l)
    (walk.of_filling {deep = deep} first d up q n) (walk.of_filling {deep = below} second k on z j) =
    let same = expects_once (comes_expects first) (comes_expects second) in
    let one = unsigned_prefix x y q z e in
    let level : r.depth ≡ s.depth = d ∙ ap (λ d. base + d) same.1 ∙ sym k in
    let under : deep ≡ below = up ∙ ap (λ d. d + 1) level ∙ sym on in
    record {
      deep = level;
      bytes = one.bytes;
      like = subst (λ k. Like (a_filling r.id deep (name r.number) ∷ (a_value t base p ∷ o))
          (a_filling s.id k (name s.number) ∷ (a_value t base p ∷ m))) under
          (subst (λ k. Like (a_filling r.id deep (name r.number) ∷ (a_value t base p ∷ o))
          (a_filling s.id deep (name k) ∷ (a_value t base p ∷ m))) one.value (filling_like (value_like l)));
    }
steps_once r s b c x y e (filling_like l) (walk.of_name is n k) (walk.of_name also i j) = record {
  deep = is.2 ∙ sym also.2;
  bytes = (append_split b c x y (k ∙ sym j) e).0;
  like = filling_like l;
}
steps_once r s b c x y e (filling_like l) (walk.of_definition is q p) (walk.of_definition also z k) = record {
  deep = is.2 ∙ sym also.2;
  bytes = (unsigned_prefix x y q z e).bytes;
  like = value_like (filling_like l);
}
steps_once r s b c x y e (filling_like l) (walk.of_definition is q p) (walk.of_type also z k) =
    absurd (one_sign x y e p k)
steps_once r s b c x y e (filling_like l) (walk.of_type is q p) (walk.of_definition also z k) =
    absurd (one_sign y x (sym e) k p)
steps_once r s b c x y e (filling_like {u = u} {v = i} {d = d} {o = o} {m = m} l) (walk.of_type {v = v} is q p)
    (walk.of_type {v = w} also z k) = record {
      deep = is.2 ∙ sym also.2;
      bytes = (unsigned_prefix x y q z e).bytes;
      like = subst (λ w. Like (a_filling u d (count v) ∷ o) (a_filling i d (count w) ∷ m)) (one_type x y e p k)
          (filling_like l);
    }
steps_once r s b c x y e (filling_like l) (walk.of_segment is q) (walk.of_segment also z) = record {
  deep = is.2 ∙ sym also.2;
  bytes = (unsigned_prefix x y q z e).bytes;
  like = filling_like l;
}
steps_once r s b c x y e (filling_like l) (walk.of_count is q) (walk.of_count also z) = record {
  deep = is.2 ∙ sym also.2;
  bytes = (unsigned_prefix x y q z e).bytes;
  like = value_like (filling_like l);
}

-- nothing comes next in what is whole
pub not_whole : {T : Table} {t : TypeId} {p : List ℕ} {v : Tree} {w : Expected} {d : ℕ} → SpellsTop T t v p
    → ¬ ExpectsTop T t p w d
not_whole s x = met_some x (whole_meets_top [] [] s x refl)

pub no_row_there : {T : Table} (s : Row) {c : List ℕ} {o m next behind : List Open} → Like o m → Ends T o next
    → ¬ Steps T m s c behind
no_row_there s none_like k q = elim k [ ]
no_row_there s (filling_like l) k q = elim k [ ]
no_row_there s (value_like l) (walk.description_ends p) (walk.in_value c d a t) = not_whole p (comes_expects c)
no_row_there s (value_like l) (walk.description_ends p) (walk.of_filling c d k u n) = not_whole p (comes_expects c)
no_row_there s (value_like l) (walk.filling_ends p) (walk.in_value c d a t) = not_whole p (comes_expects c)
no_row_there s (value_like l) (walk.filling_ends p) (walk.of_filling c d k u n) = not_whole p (comes_expects c)

pub ends_once : {T : Table} {o m next behind : List Open} → Like o m → Ends T o next → Ends T m behind
    → Like next behind
ends_once none_like k q = elim k [ ]
ends_once (value_like none_like) k q = elim k [ ]
ends_once (value_like (value_like l)) k q = elim k [ ]
ends_once (filling_like l) k q = elim k [ ]
ends_once (value_like (filling_like l)) (walk.description_ends p) (walk.description_ends q) = filling_like l
ends_once (value_like (filling_like (value_like l))) (walk.filling_ends p) (walk.filling_ends q) = value_like l

lead_order : {T : Table} {bytes : List ℕ} {o last : List Open} {at end : ℕ} {rs : List Row}
    → RowsLead T bytes o at rs last end → at ≤ end
lead_order walk.no_row = omega arith
lead_order (walk.row_then r l i s more) = let n = lead_order more in omega arith
lead_order (walk.end_then e more) = lead_order more

none_lead : {T : Table} {bytes : List ℕ} {o last : List Open} {at end : ℕ} {rs : List Row}
    → RowsLead T bytes o at rs last end → end ≤ at → places rs ≡ []
none_lead walk.no_row l = refl
none_lead (walk.row_then r k i s more) l = let n = lead_order more in absurd (omega arith)
none_lead (walk.end_then e more) l = none_lead more l

one_run : {T : Table} {bytes : List ℕ} {o m last other : List Open} {at start end : ℕ} {rs ss : List Row} → Like o m
    → at ≡ start → RowsLead T bytes o at rs last end → RowsLead T bytes m start ss other end → places rs ≡ places ss
one_run l e walk.no_row q = sym (none_lead q (omega arith))
one_run l e (walk.row_then r k i s more) walk.no_row = none_lead (walk.row_then r k i s more) (omega arith)
one_run l e (walk.end_then f more) walk.no_row = none_lead (walk.end_then f more) (omega arith)
one_run {bytes = bytes} l e (walk.row_then r k i p more) (walk.row_then s j n q others) =
    let rest : between r.begin r.end bytes ++ drop r.end bytes ≡ between s.begin s.end bytes ++ drop s.end bytes =
    between_rest bytes r.begin r.end (omega arith) ∙ ap (λ a. drop a bytes) e
    ∙ sym (between_rest bytes s.begin s.end (omega arith)) in
    let one = steps_once r s (between r.begin r.end bytes) (between s.begin s.end bytes) (drop r.end bytes)
    (drop s.end bytes) rest l p q in
    let long = between_length bytes r.begin r.end (omega arith) i in
    let size = between_length bytes s.begin s.end (omega arith) n in
    let same = ap length one.bytes in
    let end : r.end ≡ s.end = omega arith in
    let deep = one.deep in
    let later = one_run one.like end more others in
    cc
one_run l e (walk.row_then r k i p more) (walk.end_then f others) = absurd (no_row_there r (like_back l) f p)
one_run l e (walk.end_then f more) (walk.row_then s j n q others) = absurd (no_row_there s l f q)
one_run l e (walk.end_then f more) (walk.end_then g others) = one_run (ends_once l f g) e more others

pub are_one_run : (T : Table) (bytes : List ℕ) (opens last other : List Open) (at end : ℕ) (rs ss : List Row)
    → RowsLead T bytes opens at rs last end → RowsLead T bytes opens at ss other end → places rs ≡ places ss
are_one_run T bytes opens last other at end rs ss p q = one_run (like_itself opens) refl p q
