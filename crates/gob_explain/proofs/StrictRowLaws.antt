-- Rows of a value in which no interface holds another: they stand in the bytes one behind another.
use Rattle.std.proofs.Common.{◌≡◌, ℕ, suc, ◌+◌, ◌-◌, ◌<◌, ◌≤◌, List, [], ◌∷◌, ◌++◌, length, Some}
use Rattle.std.proofs.Common.{refl, sym, ap, ◌∙◌, subst, arith, append_assoc}
use Rattle.gob_types.specs.Ready.{IsReady}
use Rattle.gob_types.specs.declared.id.TypeId.{TypeId}
use Rattle.gob_types.specs.declared.kind.Kind.{Kind}
use Rattle.gob_types.specs.declared.kind.Kind.TheVariants as kind
use Rattle.gob_types.specs.declared.kind.Shape.{Shape}
use Rattle.gob_types.specs.Table.{Table, shape_of}
use Rattle.gob_value.specs.Top.{IsStruct, SpellsTop}
use Rattle.gob_value.specs.Tree.{Tree, depth}
use Rattle.gob_read.specs.Expected.{Expected, a_number, delta, first_allowed, raw}
use Rattle.gob_read.specs.Expects.{Expects, ExpectsAt, ExpectsTop, no_fields}
use Rattle.gob_read.specs.Expects as expects
use Rattle.gob_read.proofs.Grammar.Compare.{expects_once}
use Rattle.gob_read.proofs.Grammar.Deep.{expects_top_within}
use Rattle.gob_explain.specs.declared.row.Row.{Row}
use Rattle.gob_explain.specs.declared.row.What.{What}
use Rattle.gob_explain.specs.declared.row.What.TheVariants as what
use Rattle.gob_explain.specs.Laws.{Answers, EachStands, Leads}
use Rattle.gob_explain.specs.Open.{Open, a_value}
use Rattle.gob_explain.specs.Rows as spec
use Rattle.gob_explain.specs.Rows.{joined}
use Rattle.gob_explain.specs.Walk.{BeginsPart, Comes, Ends, HasRawBytes, Steps, TellsNumber, between}
use Rattle.gob_explain.specs.Walk as walk
use Rattle.gob_explain.specs.Whole.{HasNoneDeeper}
use Rattle.gob_explain.proofs.BetweenLaws.{IsLeft, left_behind, left_front}
use Rattle.gob_explain.proofs.BodyLaws.{struct_begins, value_begins}
use Rattle.gob_explain.proofs.OneWayLaws.{answers_once, front_none, row_some}
use Rattle.gob_explain.proofs.OnwardLaws.{Goes, IsOfReady, all_gone, end_goes, goes_then, none_then, row_goes}
use Rattle.gob_explain.proofs.PlaceLaws.{stand_top}
use Rattle.gob_explain.proofs.ReachLaws.{has_bytes}
use Rattle.gob_explain.proofs.RowLaws.{append_nil, explained_top}
use Rattle.gob_explain.proofs.TakesLaws.{enters_part}

-- ---- what comes next is something in a part

-- what comes next, and what it is in which part
pub record ComesSo (T : Table) (t : TypeId) (p : List ℕ) (w : Expected) (d : ℕ) : Type 0 where
  pub what : What
  pub part : TypeId
  pub comes : Comes T t p w what part d

first_comes : {T : Table} {t u : TypeId} {s : Shape} {around : ℕ} (p : List ℕ) (k : Kind) → s.kind ≡ k
    → BeginsPart T t p u around → shape_of T u ≡ Some s → ComesSo T t p (a_number (first_allowed k)) (suc around)
first_comes {T = T} {t = t} {u = u} {around = around} p (kind.Struct fields) e b f =
    let n : length fields - 0 ≡ length fields = omega arith in
    record {
      what = what.Delta;
      part = u;
      comes = subst (λ n. Comes T t p (a_number (delta n)) what.Delta u (suc around)) n
          (subst (λ q. Comes T t q (a_number (delta (length fields - 0))) what.Delta u (suc around)) (append_nil p)
          (walk.of_delta p b f e no_fields));
    }
first_comes {T = T} {t = t} {u = u} {s = s} {around = around} p k e b f = record {
  what = what.First;
  part = u;
  comes = subst (λ k. Comes T t p (a_number (first_allowed k)) what.First u (suc around)) e
      (walk.of_first b f (subst (λ k. ¬ IsStruct k) (sym e) (λ i. i)));
}

at_comes : {T : Table} {t u : TypeId} {s : Shape} {w : Expected} {q : List ℕ} {around : ℕ} (p : List ℕ) (k : Kind)
    → s.kind ≡ k → BeginsPart T t p u around → shape_of T u ≡ Some s → ExpectsAt T k q w
    → ComesSo T t (p ++ q) w (suc around)
at_comes {T = T} {t = t} {w = w} {around = around} p k e b f expects.first =
    subst (λ l. ComesSo T t l w (suc around)) (sym (append_nil p)) (first_comes p k e b f)
at_comes p k e b f (expects.second n) = record { what = what.Imaginary; part = _; comes = walk.of_imaginary p b f e n }
at_comes p k e b f (expects.byte_content l n) =
    record { what = what.Raw; part = _; comes = walk.of_raw p b f (subst HasRawBytes (sym e) tt) l n }
at_comes p k e b f (expects.text_content l n) =
    record { what = what.Raw; part = _; comes = walk.of_raw p b f (subst HasRawBytes (sym e) tt) l n }
at_comes p k e b f (expects.opaque_content l n) =
    record { what = what.Raw; part = _; comes = walk.of_raw p b f (subst HasRawBytes (sym e) tt) l n }
at_comes p k e b f (expects.next_delta l r) = record { what = what.Delta; part = _; comes = walk.of_delta p b f e r }

part_comes : {T : Table} {t u : TypeId} {w : Expected} {q : List ℕ} {around d : ℕ} (p : List ℕ)
    → BeginsPart T t p u around → Expects T u q w d → ComesSo T t (p ++ q) w (around + d)
part_comes {T = T} {t = t} {w = w} {q = q} {around = around} p b (expects.in_itself {s = s} f a) =
    subst (λ d. ComesSo T t (p ++ q) w d) (omega arith) (at_comes p s.kind refl b f a)
part_comes {T = T} {t = t} {w = w} {around = around} p b (expects.in_part {d = d} {p = r} {q = q} f n a) =
    let deep : around + 1 + d ≡ around + suc d = omega arith in
    subst (λ d. ComesSo T t (p ++ (q ++ r)) w d) deep
    (subst (λ l. ComesSo T t l w (around + 1 + d)) (append_assoc p q r) (part_comes (p ++ q) (enters_part b f n) a))

pub top_comes : {T : Table} {t : TypeId} {p : List ℕ} {w : Expected} {d : ℕ} → ExpectsTop T t p w d
    → ComesSo T t p w d
top_comes {T = T} {t = t} {p = p} {w = w} {d = d} (expects.in_struct f i a) =
    subst (λ d. ComesSo T t p w d) (omega arith) (part_comes [] (struct_begins f i) a)
top_comes (expects.at_tag f n) = record { what = what.Tag; part = _; comes = walk.of_tag f n }
top_comes {T = T} {t = t} {p = p} {w = w} {d = d} (expects.behind_tag f n a) =
    subst (λ d. ComesSo T t p w d) (omega arith) (part_comes (0 ∷ []) (value_begins f n) a)

-- the number that the row of these bytes tells
told_number : (w : Expected) (b : List ℕ) → Answers w b → (n : ℕ) × TellsNumber w n b
told_number (a_number a) b h = (h.0, h.1)
told_number (raw n) b h = (n, refl)

-- ---- rows in bytes

-- rows lead to where these bytes are left
pub record Gone (T : Table) (bytes : List ℕ) (most : ℕ) (opens : List Open) (at : ℕ) (last : List Open)
    (rest : List ℕ) : Type 0 where
  pub rows : List Row
  pub end : ℕ
  pub goes : Goes T bytes opens at rows last end
  pub low : HasNoneDeeper most rows
  pub left : IsLeft bytes end rest

pub gone_none : {T : Table} {bytes rest : List ℕ} {opens : List Open} {at : ℕ} (most : ℕ) → IsLeft bytes at rest
    → Gone T bytes most opens at opens rest
gone_none most l = record { rows = []; end = _; goes = all_gone; low = tt; left = l }

pub gone_then : {T : Table} {bytes x y : List ℕ} {most at : ℕ} {opens mid last : List Open}
    (p : Gone T bytes most opens at mid x) → Gone T bytes most mid p.end last y → Gone T bytes most opens at last y
gone_then {most = most} p q = record {
  rows = p.rows ++ q.rows;
  end = q.end;
  goes = goes_then p.goes q.goes;
  low = none_then most p.rows q.rows p.low q.low;
  left = q.left;
}

pub gone_end : {T : Table} {bytes x : List ℕ} {most at : ℕ} {opens mid last : List Open}
    → Gone T bytes most opens at mid x → IsOfReady T mid → Ends T mid last → Gone T bytes most opens at last x
gone_end p y e = gone_then p (record {
  rows = [];
  end = p.end;
  goes = end_goes y e all_gone;
  low = tt;
  left = p.left;
})

-- the row of these bytes
abbrev pub row_of : What → TypeId → (depth number at : ℕ) → List ℕ → Row
row_of x u d n at a = record { what = x; id = u; depth = d; number = n; begin = at; end = at + length a }

pub gone_row : {T : Table} {bytes : List ℕ} {most : ℕ} {opens last : List Open} (x : What) (u : TypeId) (d n at : ℕ)
    (a rest : List ℕ) → IsLeft bytes at (a ++ rest) → 0 < length a → d ≤ most → IsOfReady T opens
    → Steps T opens (row_of x u d n at a) a last → Gone T bytes most opens at last rest
gone_row {T = T} {bytes = bytes} {opens = opens} {last = last} x u d n at a rest left some low y s =
    let behind = left_behind bytes at a rest left some in
    record {
      rows = row_of x u d n at a ∷ [];
      end = at + length a;
      goes = row_goes (row_of x u d n at a) y (omega arith) behind.1
          (subst (λ b. Steps T opens (row_of x u d n at a) b last) (sym (left_front bytes at a rest left)) s) all_gone;
      low = (low, tt);
      left = behind;
    }

-- the rows of a skeleton
rows_gone : {T : Table} {t : TypeId} {v : Tree} {whole : List ℕ} {most below : ℕ} {outer : List Open}
    (bytes x rest : List ℕ) → IsReady T t → SpellsTop T t v whole → below + depth v ≤ most → (ss : List spec.Row)
    (at : ℕ) (p : List ℕ) → EachStands T t p ss → p ++ (joined ss ++ x) ≡ whole → IsLeft bytes at (joined ss ++ rest)
    → Gone T bytes most (a_value t below p ∷ outer) at (a_value t below (p ++ joined ss) ∷ outer) rest
rows_gone {T = T} {t = t} {most = most} {below = below} {outer = outer} bytes x rest y v low [] at p h e left =
    subst (λ q. Gone T bytes most (a_value t below p ∷ outer) at (a_value t below q ∷ outer) rest)
    (sym (append_nil p)) (gone_none most left)
rows_gone {T = T} {t = t} {whole = whole} {most = most} {below = below} {outer = outer} bytes x rest y v low (s ∷ ss)
    at p h e left =
    let b = joined ss in
    let so = top_comes h.0.1 in
    let n = told_number h.0.0 s.bytes h.0.2 in
    let some = has_bytes s.bytes (row_some h.0.0 h.0.1 h.0.2) in
    let deep = expects_top_within ((s.bytes ++ b) ++ x) [] v h.0.1 (e ∙ sym (append_nil whole)) in
    let here = gone_row {T = T} {bytes = bytes} {most = most} {opens = a_value t below p ∷ outer} so.what so.part
    (below + s.depth) n.0 at s.bytes (b ++ rest) (left.0 ∙ append_assoc s.bytes b rest, left.1) some (omega arith) y
    (walk.in_value so.comes refl h.0.2 n.1) in
    let after : (p ++ s.bytes) ++ (b ++ x) ≡ whole =
    append_assoc p s.bytes (b ++ x) ∙ ap (λ l. p ++ l) (sym (append_assoc s.bytes b x)) ∙ e in
    subst (λ q. Gone T bytes most (a_value t below p ∷ outer) at (a_value t below q ∷ outer) rest)
    (append_assoc p s.bytes b)
    (gone_then here (rows_gone bytes x rest y v low ss here.end (p ++ s.bytes) h.1 after here.left))

pub skeleton_gone : {T : Table} {t : TypeId} {v : Tree} {whole : List ℕ} {most below at : ℕ} {outer : List Open}
    (bytes p b x rest : List ℕ) → IsReady T t → SpellsTop T t v whole → below + depth v ≤ most → Leads T t p b
    → p ++ (b ++ x) ≡ whole → IsLeft bytes at (b ++ rest)
    → Gone T bytes most (a_value t below p ∷ outer) at (a_value t below (p ++ b) ∷ outer) rest
skeleton_gone {T = T} {t = t} {most = most} {below = below} {at = at} {outer = outer} bytes p b x rest y v low l e
    left =
    subst (λ q. Gone T bytes most (a_value t below p ∷ outer) at (a_value t below (p ++ q) ∷ outer) rest) l.2
    (rows_gone bytes x rest y v low l.0 at p l.1 (ap (λ q. p ++ (q ++ x)) l.2 ∙ e)
    (left.0 ∙ ap (λ q. q ++ rest) (sym l.2), left.1))

-- ---- from within

-- rows that lead to a place further on lead there from one that others lead to
rows_on : (T : Table) (t : TypeId) (p c : List ℕ) (rs ss : List spec.Row) → EachStands T t p rs → EachStands T t p ss
    → joined ss ≡ joined rs ++ c → Leads T t (p ++ joined rs) c
rows_on T t p c [] ss g h e = (ss, subst (λ q. EachStands T t q ss) (sym (append_nil p)) h, e)
rows_on T t p c (r ∷ rs) [] g h e =
    absurd (row_some g.0.0 g.0.1 g.0.2 (front_none r.bytes (joined rs ++ c) (e ∙ append_assoc r.bytes (joined rs) c)))
rows_on T t p c (r ∷ rs) (s ∷ ss) g h e =
    let same = expects_once g.0.1 h.0.1 in
    let cut = answers_once h.0.0 r.bytes s.bytes (joined rs ++ c) (joined ss)
    (subst (λ w. Answers w r.bytes) same.0 g.0.2) h.0.2 (sym (append_assoc r.bytes (joined rs) c) ∙ sym e) in
    subst (λ q. Leads T t q c) (append_assoc p r.bytes (joined rs))
    (rows_on T t (p ++ r.bytes) c rs ss g.1
    (subst (λ b. EachStands T t (p ++ b) ss) (sym cut.0) h.1) (sym cut.1))

pub lead_on : {T : Table} {t : TypeId} (p c : List ℕ) → Leads T t [] p → Leads T t [] (p ++ c) → Leads T t p c
lead_on {T = T} {t = t} p c f g =
    subst (λ q. Leads T t q c) f.2
    (rows_on T t [] c f.0 g.0 f.1 g.1 (g.2 ∙ ap (λ q. q ++ c) (sym f.2)))

pub whole_leads : {T : Table} {t : TypeId} {v : Tree} {b : List ℕ} → SpellsTop T t v b → Leads T t [] b
whole_leads {T = T} {t = t} {v = v} {b = b} s =
    let x = explained_top T t v b s in
    (x.0, stand_top T t v x.0 x.1, x.2)
