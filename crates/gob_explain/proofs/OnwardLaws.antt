-- Rows go on from wherever others stop that began with them, up to where a value is whole.
use Rattle.std.proofs.Common.{◌≡◌, ℕ, ◌+◌, ◌<◌, ◌≤◌, List, [], ◌∷◌, ◌++◌, length, drop, Bool, true, false}
use Rattle.std.proofs.Common.{refl, sym, ap, ◌∙◌, subst, arith}
use Rattle.gob_types.specs.Ready.{IsReady}
use Rattle.gob_types.specs.declared.id.TypeId.{TypeId}
use Rattle.gob_types.specs.Table.{Table}
use Rattle.gob_value.specs.Top.{SpellsTop}
use Rattle.gob_value.specs.Tree.{Tree}
use Rattle.gob_read.specs.Expected.{Allows, Expected, a_number, nil}
use Rattle.gob_read.specs.Expects.{ExpectsTop}
use Rattle.gob_read.proofs.Grammar.Compare.{expects_once}
use Rattle.gob_explain.specs.declared.row.Row.{Row}
use Rattle.gob_explain.specs.Body.{EndsSo, IsWholeValue, begins_value}
use Rattle.gob_explain.specs.Laws.{Answers}
use Rattle.gob_explain.specs.Open.{Open, a_filling, a_value}
use Rattle.gob_explain.specs.Walk.{Awaits, Ends, RowsLead, Steps, StopsAt, between, opened}
use Rattle.gob_explain.specs.Walk as walk
use Rattle.gob_explain.specs.Whole.{HasNoneDeeper}
use Rattle.gob_explain.proofs.BetweenLaws.{between_length, between_rest}
use Rattle.gob_explain.proofs.OneRunLaws.{Like, none_like, value_like, filling_like, ends_once, like_back}
use Rattle.gob_explain.proofs.OneRunLaws.{like_itself, no_row_there, not_whole, steps_once}
use Rattle.gob_explain.proofs.ReachLaws.{opens_more}
use Rattle.gob_explain.proofs.TakesLaws.{comes_expects}

-- the value at hand, if what comes next belongs to one, is of a type that is ready
abbrev pub IsOfReady : Table → List Open → Type 0
IsOfReady T [] = Unit {0}
IsOfReady T (a_value t base p ∷ outer) = IsReady T t
IsOfReady T (a_filling u d due ∷ outer) = Unit {0}

-- rows lead from one place to the other, through values of types that are ready
pub data Goes (T : Table) (bytes : List ℕ) : List Open → ℕ → List Row → List Open → ℕ → Type 0 where
  all_gone : {opens : List Open} {at : ℕ} → Goes T bytes opens at [] opens at
  row_goes : {opens next last : List Open} {rows : List Row} {end : ℕ} (r : Row) → IsOfReady T opens → r.begin < r.end
      → r.end ≤ length bytes → Steps T opens r (between r.begin r.end bytes) next
      → Goes T bytes next r.end rows last end → Goes T bytes opens r.begin (r ∷ rows) last end
  end_goes : {opens next last : List Open} {rows : List Row} {at end : ℕ} → IsOfReady T opens → Ends T opens next
      → Goes T bytes next at rows last end → Goes T bytes opens at rows last end

pub goes_lead : {T : Table} {bytes : List ℕ} {opens last : List Open} {at end : ℕ} {rows : List Row}
    → Goes T bytes opens at rows last end → RowsLead T bytes opens at rows last end
goes_lead all_gone = walk.no_row
goes_lead (row_goes r y l i s g) = walk.row_then r l i s (goes_lead g)
goes_lead (end_goes y e g) = walk.end_then e (goes_lead g)

pub goes_then : {T : Table} {bytes : List ℕ} {opens mid last : List Open} {at place end : ℕ} {rows more : List Row}
    → Goes T bytes opens at rows mid place → Goes T bytes mid place more last end
    → Goes T bytes opens at (rows ++ more) last end
goes_then all_gone h = h
goes_then (row_goes r y l i s g) h = row_goes r y l i s (goes_then g h)
goes_then (end_goes y e g) h = end_goes y e (goes_then g h)

pub none_then : (most : ℕ) (rows more : List Row) → HasNoneDeeper most rows → HasNoneDeeper most more
    → HasNoneDeeper most (rows ++ more)
none_then most [] more h k = k
none_then most (r ∷ rows) more h k = (h.0, none_then most rows more h.1 k)

-- rows go on to the end from where others stopped
record Onward (T : Table) (bytes : List ℕ) (most : ℕ) (stop : List Open) (place : ℕ) (last : List Open)
    (end : ℕ) : Type 0 where
  pub opens : List Open
  pub begin : ℕ
  pub rows : List Row
  pub like : Like stop opens
  pub same : place ≡ begin
  pub goes : Goes T bytes opens begin rows last end
  pub low : HasNoneDeeper most rows

-- behind a whole value that is in no other comes nothing, and nothing ends
no_step : {T : Table} {t : TypeId} {p b : List ℕ} {v : Tree} {o m next : List Open} (r : Row) → SpellsTop T t v p
    → o ≡ a_value t 0 p ∷ [] → Like o m → ¬ Steps T m r b next
no_step r s e none_like q = elim q [ ]
no_step r s e (filling_like l) q = cc
no_step {T = T} {t = t} {p = p} r s e (value_like {t = u} {p = q} l) (walk.in_value {d = d} {w = w} c k a n) =
    let is_type : u ≡ t = cc in
    let is_front : q ≡ p = cc in
    not_whole s (subst (λ q. ExpectsTop T t q w d) is_front
    (subst (λ u. ExpectsTop T u q w d) is_type (comes_expects c)))
no_step {T = T} {t = t} {p = p} r s e (value_like {t = u} {p = q} l) (walk.of_filling {d = d} c k i a n) =
    let is_type : u ≡ t = cc in
    let is_front : q ≡ p = cc in
    not_whole s (subst (λ q. ExpectsTop T t q (a_number nil) d) is_front
    (subst (λ u. ExpectsTop T u q (a_number nil) d) is_type (comes_expects c)))

no_end : {T : Table} {t : TypeId} {p : List ℕ} {o m next : List Open} → o ≡ a_value t 0 p ∷ [] → Like o m
    → ¬ Ends T m next
no_end e none_like q = elim q [ ]
no_end e (filling_like l) q = elim q [ ]
no_end e (value_like none_like) q = elim q [ ]
no_end e (value_like (value_like l)) q = elim q [ ]
no_end e (value_like (filling_like l)) q = cc

onward : {T : Table} {bytes : List ℕ} {t : TypeId} {most : ℕ} {o m stop last : List Open} {at start place end : ℕ}
    {rs ss : List Row}
    → IsWholeValue T t last → Like o m → at ≡ start → RowsLead T bytes o at rs stop place
    → Goes T bytes m start ss last end
    → HasNoneDeeper most ss → Onward T bytes most stop place last end
onward w l e walk.no_row g low = record { opens = _; begin = _; rows = _; like = l; same = e; goes = g; low = low }
onward w l e (walk.row_then r k i p more) all_gone low = absurd (no_step r w.spelled w.open_ (like_back l) p)
onward {bytes = bytes} w l e (walk.row_then r k i p more) (row_goes s y j n q g) low =
    let rest : between r.begin r.end bytes ++ drop r.end bytes ≡ between s.begin s.end bytes ++ drop s.end bytes =
    between_rest bytes r.begin r.end (omega arith) ∙ ap (λ a. drop a bytes) e
    ∙ sym (between_rest bytes s.begin s.end (omega arith)) in
    let one = steps_once r s (between r.begin r.end bytes) (between s.begin s.end bytes) (drop r.end bytes)
    (drop s.end bytes) rest l p q in
    let long = between_length bytes r.begin r.end (omega arith) i in
    let size = between_length bytes s.begin s.end (omega arith) n in
    let same = ap length one.bytes in
    onward w one.like (omega arith) more g low.1
onward w l e (walk.row_then r k i p more) (end_goes y f g) low = absurd (no_row_there r (like_back l) f p)
onward w l e (walk.end_then f more) all_gone low = absurd (no_end w.open_ (like_back l) f)
onward w l e (walk.end_then f more) (row_goes s y j n q g) low = absurd (no_row_there s l f q)
onward w l e (walk.end_then f more) (end_goes y h g) low = onward w (ends_once l f h) e more g low

-- the row that stands there is what comes next, and lies as deep
row_answers : {T : Table} {o m next : List Open} {w : Expected} {d : ℕ} {b : List ℕ} (r : Row) → Like o m
    → Awaits T o w d → Steps T m r b next → Answers w b × (r.depth ≡ d)
row_answers r none_like aw s = elim aw [ ]
row_answers {b = b} r (value_like {base = base} l) (walk.awaits_number {a = a} x) (walk.in_value c k h n) =
    let same = expects_once (comes_expects c) x in
    let there = subst (λ w. Answers w b) same.0 h in
    ((there.0, there.1, opens_more a there.0 there.2), k ∙ ap (λ d. base + d) same.1)
row_answers {b = b} r (value_like {base = base} l) (walk.awaits_number {a = a} x) (walk.of_filling c k i q n) =
    let same = expects_once (comes_expects c) x in
    let is : nil ≡ a = cc in
    ((r.number, q, subst (λ a. Allows (opened a) r.number) is tt), k ∙ ap (λ d. base + d) same.1)
row_answers {b = b} r (value_like {base = base} l) (walk.awaits_raw x) (walk.in_value c k h n) =
    let same = expects_once (comes_expects c) x in
    (subst (λ w. Answers w b) same.0 h, k ∙ ap (λ d. base + d) same.1)
row_answers r (value_like l) (walk.awaits_raw x) (walk.of_filling c k i q n) =
    let same = expects_once (comes_expects c) x in
    let no = same.0 in
    cc
row_answers r (filling_like l) walk.awaits_name (walk.of_name is n k) = (k, is.2)
row_answers r (filling_like l) walk.awaits_type_number (walk.of_definition is q p) = ((_, q, tt), is.2)
row_answers r (filling_like l) walk.awaits_type_number (walk.of_type is q p) = ((_, q, tt), is.2)
row_answers r (filling_like l) walk.awaits_segment (walk.of_segment is q) = ((_, q, tt), is.2)
row_answers r (filling_like l) walk.awaits_count (walk.of_count is q) = ((_, q, tt), is.2)

-- nothing comes next in a whole value
whole_awaits : {T : Table} {t : TypeId} {base : ℕ} {p : List ℕ} {v : Tree} {outer : List Open} {w : Expected} {d : ℕ}
    → SpellsTop T t v p → ¬ Awaits T (a_value t base p ∷ outer) w d
whole_awaits s (walk.awaits_number x) = not_whole s x
whole_awaits s (walk.awaits_raw x) = not_whole s x

none_awaited : {T : Table} {t : TypeId} {o m : List Open} {w : Expected} {d : ℕ} → IsWholeValue T t m → Like o m
    → ¬ Awaits T o w d
none_awaited h none_like aw = elim aw [ ]
none_awaited h (filling_like l) aw = let e = h.open_ in cc
none_awaited {T = T} {t = t} {w = w} {d = d} h (value_like {t = u} {base = base} {p = q} {o = o} l) aw =
    let e = h.open_ in
    let is_type : u ≡ t = cc in
    let is_front : q ≡ h.skeleton = cc in
    whole_awaits {base = base} {outer = o} h.spelled
    (subst (λ q. Awaits T (a_value t base q ∷ o) w d) is_front
    (subst (λ u. Awaits T (a_value u base q ∷ o) w d) is_type aw))

end_awaits : {T : Table} {o m next : List Open} {w : Expected} {d : ℕ} → Like o m → Ends T m next → ¬ Awaits T o w d
end_awaits none_like e aw = elim e [ ]
end_awaits (filling_like l) e aw = elim e [ ]
end_awaits (value_like l) (walk.description_ends s) aw = whole_awaits s aw
end_awaits (value_like l) (walk.filling_ends s) aw = whole_awaits s aw

-- where rows go on a value is of a type that is ready
is_of_ready : {T : Table} {u : TypeId} {base : ℕ} {p : List ℕ} {outer m : List Open}
    → Like (a_value u base p ∷ outer) m → IsOfReady T m → IsReady T u
is_of_ready (value_like l) y = y

whole_of_ready : {T : Table} {t : TypeId} {m : List Open} → IsReady T t → IsWholeValue T t m → IsOfReady T m
whole_of_ready {T = T} y w = subst (IsOfReady T) (sym w.open_) y

-- where rows go on, none stop
no_stop : {T : Table} {bytes : List ℕ} {t : TypeId} {most : ℕ} {stop m last : List Open} {place begin end : ℕ}
    {rows : List Row} → IsReady T t → IsWholeValue T t last → Like stop m → place ≡ begin
    → Goes T bytes m begin rows last end → HasNoneDeeper most rows → ¬ StopsAt T bytes most stop place
no_stop y w l e all_gone low (walk.none_stands (walk.not_there aw f)) = none_awaited w l aw
no_stop y w l e all_gone low (walk.none_stands (walk.too_deep aw f)) = none_awaited w l aw
no_stop y w l e all_gone low (walk.not_ready n) = n (is_of_ready l (whole_of_ready y w))
no_stop {bytes = bytes} y w l e (row_goes r h k i s g) low (walk.none_stands (walk.not_there {w = x} aw f)) =
    let there = (row_answers r l aw s).0 in
    f r.end (omega arith) i (subst (λ n. Answers x (between n r.end bytes)) (sym e) there)
no_stop y w l e (row_goes r h k i s g) low (walk.none_stands (walk.too_deep aw f)) =
    let there = (row_answers r l aw s).1 in
    let deep = low.0 in
    absurd (omega arith)
no_stop y w l e (row_goes r h k i s g) low (walk.not_ready n) = n (is_of_ready l h)
no_stop y w l e (end_goes h f g) low (walk.none_stands (walk.not_there aw i)) = end_awaits l f aw
no_stop y w l e (end_goes h f g) low (walk.none_stands (walk.too_deep aw i)) = end_awaits l f aw
no_stop y w l e (end_goes h f g) low (walk.not_ready n) = n (is_of_ready l h)

-- where a value is whole, rows are at their end
at_end : {T : Table} {bytes : List ℕ} {t : TypeId} {stop m last : List Open} {place begin end : ℕ} {rows : List Row}
    → IsWholeValue T t stop → Like stop m → place ≡ begin → Goes T bytes m begin rows last end → place ≡ end
at_end w l e all_gone = e
at_end w l e (row_goes r h k i s g) = absurd (no_step r w.spelled w.open_ l s)
at_end w l e (end_goes h f g) = absurd (no_end w.open_ l f)

ends_there : {T : Table} {bytes : List ℕ} {t : TypeId} {most place end : ℕ} {stop last : List Open} (is_whole : Bool)
    → IsReady T t → IsWholeValue T t last → Onward T bytes most stop place last end
    → EndsSo T t bytes most is_whole stop place → (is_whole ≡ true) × (place ≡ end)
ends_there true y w k h = (refl, at_end h k.like k.same k.goes)
ends_there false y w k h = absurd (no_stop y w k.like k.same k.goes k.low h)

pub over : {T : Table} {bytes : List ℕ} {t : TypeId} {last : List Open} {end : ℕ} {rows : List Row} → IsReady T t
    → Goes T bytes (begins_value t) 0 rows last end → IsWholeValue T t last
    → (most place : ℕ) (ss : List Row) (stop : List Open) (is_whole : Bool) → HasNoneDeeper most rows
    → RowsLead T bytes (begins_value t) 0 ss stop place → EndsSo T t bytes most is_whole stop place
    → (is_whole ≡ true) × (place ≡ end)
over y g w most place ss stop is_whole low lead h =
    ends_there is_whole y w (onward w (like_itself _) refl lead g low) h
