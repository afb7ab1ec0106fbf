-- Elements of a list, and entries of a map, gone over at once.
use Rattle.std.proofs.Common.{◌≡◌, ◌≢◌, ℕ, suc, ◌+◌, ◌-◌, ◌<◌, ◌≤◌, inl, inr, List, [], ◌∷◌, ◌++◌, length, take, drop}
use Rattle.std.proofs.Common.{arith, refl, sym, ap, ◌∙◌, subst, append_assoc, length-append, length-take}
use Rattle.std.specs.Prelude.{pos, negsuc, Some, slice_get}
use Rattle.std.proofs.lemmas.Bool.{cases_lt}
use Rattle.gob_types.specs.declared.id.TypeId.{TypeId}
use Rattle.gob_types.specs.Table.{Table}
use Rattle.gob_value.specs.Tree.{Tree, Trees, no_tree, tree, Pairs, no_pair, pair, Fields, no_field, field, tree_count}
use Rattle.gob_value.specs.Tree.{pair_count, depth, trees_depth, pairs_depth}
use Rattle.gob_value.specs.Tree as Value
use Rattle.gob_value.specs.Spelling.{Spells, SpellsEach, no_element, element, SpellsPairs, no_entry, entry}
use Rattle.gob_value.specs.WholeParts.{HasElements, HasEntries}
use Rattle.gob_read.specs.Expected.{Expected}
use Rattle.gob_read.specs.Expects.{Expects, ExpectsTop, in_struct, behind_tag, in_part}
use Rattle.gob_read.specs.Viable.{IsShallow}
use Rattle.gob_read.specs.Laws.{IsExpected, is_number, is_raw, BeginsExpected}
use Rattle.gob_read.specs.Event.{Event, HasRawEvents, no_bytes, more_bytes, HasEvents, tell_bool, tell_not_negative}
use Rattle.gob_read.specs.Event.{tell_negative, tell_uint, tell_float, tell_complex, tell_nil, tell_bytes, tell_text}
use Rattle.gob_read.specs.Event.{tell_opaque, tell_many, tell_pairs, tell_fields, HaveEvents, tell_none, tell_each}
use Rattle.gob_read.specs.Event.{PairsHaveEvents, tell_no_pair, tell_pair, FieldsHaveEvents, tell_no_field, tell_field}
use Rattle.gob_read.specs.Machine.OpenPath.{OpenPath, at_once, behind_tag as behind_tag', in_list, at_key, at_value}
use Rattle.gob_read.specs.Machine.OpenPath.{in_field, AtNext, at_part}
use Rattle.gob_read.specs.Machine.Steps.{IsPlaced}
use Rattle.gob_read.specs.Machine.Running.{IsOpenRun, IsOpenSomewhere, IsBefore, IsStepped, TakesMore, Steps}
use Rattle.gob_read.specs.Machine.BasicParts.{IsInList, IsInMap, TakesBasicParts, some_parts_taken}
use Rattle.gob_read.specs.declared.frame.Frame.{Frame}
use Rattle.gob_read.specs.declared.frame.Frame.TheVariants as frame
use Rattle.gob_read.specs.declared.next.Moved.TheVariants.{ToNext}
use Rattle.gob_read.specs.declared.next.Next.TheVariants.{Number}
use Rattle.gob_read.specs.declared.next.NextNumber.TheVariants.{Part}
use Rattle.gob_read.specs.declared.run.Run.{Run}
use Rattle.gob_read.specs.declared.run.Advance.{Advance}
use Rattle.gob_read.proofs.Grammar.Prefixes.{Prefix, prefix_of, prefix_length, append_nil, rest_behind}
use Rattle.gob_read.proofs.Grammar.Whole.{Meets}
use Rattle.gob_read.proofs.Grammar.Compare.{compare_top, met_some}
use Rattle.gob_read.proofs.Grammar.Onward.{Takes, number_taken, raw_taken, takes_least}
use Rattle.gob_read.proofs.Grammar.Deep.{expects_within}
use Rattle.gob_read.proofs.Grammar.Stops.{stops_type}
use Rattle.gob_read.proofs.Grammar.Inside.{Inside, outermost, one_in, InsideTop, inside_struct, inside_behind_tag}
use Rattle.gob_read.proofs.Machine.Places.{within_inside}
use Rattle.gob_read.proofs.Machine.Moves.{part_whole, next_element, key_read, next_pair}
use Rattle.gob_read.proofs.Machine.ItemSteps.{placed_begun}
use Rattle.gob_read.proofs.Machine.Runs.{size, settled_stepped, fresh_is, below_some}
use Rattle.gob_read.proofs.Machine.BasicPartSteps.{Moves, moves_more, head_is, part_deep}

-- ---- each value has events
raw_told_at_once : (s : List ℕ) → (us : List Event) × HasRawEvents s us
raw_told_at_once s = (_, more_bytes s no_bytes)

mutual
  some_events : (v : Tree) → (us : List Event) × HasEvents v us
  some_events (Value.bool b) = (_, tell_bool)
  some_events (Value.int (pos n)) = (_, tell_not_negative)
  some_events (Value.int (negsuc n)) = (_, tell_negative)
  some_events (Value.uint n) = (_, tell_uint)
  some_events (Value.float p) = (_, tell_float)
  some_events (Value.complex p q) = (_, tell_complex)
  some_events Value.nil = (_, tell_nil)
  some_events (Value.bytes s) = (_, tell_bytes (raw_told_at_once s).1)
  some_events (Value.text s) = (_, tell_text (raw_told_at_once s).1)
  some_events (Value.opaque s) = (_, tell_opaque (raw_told_at_once s).1)
  some_events (Value.many vs) = (_, tell_many (events_of_each vs).1)
  some_events (Value.pairs ps) = (_, tell_pairs (events_of_pairs ps).1)
  some_events (Value.fields fs) = (_, tell_fields (events_of_fields fs).1)

  events_of_each : (vs : Trees) → (us : List Event) × HaveEvents vs us
  events_of_each no_tree = (_, tell_none)
  events_of_each (tree v vs) = (_, tell_each (some_events v).1 (events_of_each vs).1)

  events_of_pairs : (ps : Pairs) → (us : List Event) × PairsHaveEvents ps us
  events_of_pairs no_pair = (_, tell_no_pair)
  events_of_pairs (pair k e ps) = (_, tell_pair (some_events k).1 (some_events e).1 (events_of_pairs ps).1)

  events_of_fields : (fs : Fields) → (us : List Event) × FieldsHaveEvents fs us
  events_of_fields no_field = (_, tell_no_field)
  events_of_fields (field f v fs) = (_, tell_field (some_events v).1 (events_of_fields fs).1)

-- ---- behind a whole part all is shallow, if the part isn't too deep where it lies
item_takes : {w : Expected} {c : List ℕ} → IsExpected w c → Takes w c
item_takes (is_number l u) = number_taken u
item_takes (is_raw e) = raw_taken (sym e)

-- what has only begun isn't there
begun_not_met : {w : Expected} {r : List ℕ} → BeginsExpected w r → Meets w r → ⊥
begun_not_met {r = r} b m = takes_least r b.rest (item_takes b.item) refl b.more m

inside_on : {T : Table} {t u : TypeId} {k d : ℕ} {p q : List ℕ} {w : Expected} → Inside T t p u k → Expects T u q w d
    → Expects T t (p ++ q) w (k + d)
inside_on {T = T} {t = t} {d = d} {q = q} {w = w} outermost a = subst (Expects T t q w) (omega arith) a
inside_on {T = T} {t = t} {d = d} {q = r} {w = w} (one_in {d = c} {p = p} {q = q} e n i) a =
    let deeper : suc (c + d) ≡ suc c + d = omega arith in
    subst (Expects T t ((q ++ p) ++ r) w) deeper (subst (λ l. Expects T t l w (suc (c + d))) (sym (append_assoc q p r))
    (in_part e n (inside_on i a)))

inside_top_on : {T : Table} {t u : TypeId} {k d : ℕ} {p q : List ℕ} {w : Expected} → InsideTop T t p u k
    → Expects T u q w d → ExpectsTop T t (p ++ q) w (k + d)
inside_top_on (inside_struct e i a) b = in_struct e i (inside_on a b)
inside_top_on (inside_behind_tag e i a) b = behind_tag e i (inside_on a b)

pub part_shallow : {T : Table} {t u : TypeId} {k limit : ℕ} {v : Tree} {p b : List ℕ} → IsShallow T t limit p
    → InsideTop T t p u k → Spells T u v b → k + depth v ≤ limit → IsShallow T t limit (p ++ b)
part_shallow {T = T} {t = t} {k = k} {limit = limit} {v = v} {p = p} {b = b} s i o l = record { each = each }
  where
    behind : (q m x : List ℕ) (w : Expected) (d : ℕ) → ExpectsTop T t q w d → q ≡ p ++ m → b ≡ m ++ x → x ≢ []
        → d ≤ limit
    behind q m x w d a e f n =
        let g = stops_type m x o f n in
        let within = expects_within (g.under_way ++ x) [] o g.expects (sym (append_assoc g.before g.under_way x)
        ∙ ap (λ l. l ++ x) (sym g.whole) ∙ sym f ∙ sym (append_nil b)) in
        let there = append_assoc p g.before g.under_way ∙ ap (λ l. p ++ l) (sym g.whole) ∙ sym e ∙ sym (append_nil q) in
        elim (compare_top g.under_way [] (inside_top_on i g.expects) a there) [
          | inl z ↦ let same : k + g.depth ≡ d = ap (λ (v : Expected × ℕ). v.1) z.value in omega arith
          | inr z ↦ absurd (elim z [ inl h ↦ begun_not_met g.begun h | inr h ↦ met_some a h ])
        ]

    before : (q : List ℕ) (f : Prefix q p) → length q < length p → f.rest ≢ []
    before q f h z = let n = prefix_length q p f in let m = ap length z in omega arith

    each : (q x : List ℕ) (w : Expected) (d : ℕ) → ExpectsTop T t q w d → p ++ b ≡ q ++ x → x ≢ [] → d ≤ limit
    each q x w d a e n =
        elim (cases_lt (length q) (length p)) [
          | inl h ↦ (let f = prefix_of q p x b (sym e) (omega arith) in s.each q f.rest w d a f.whole (before q f h))
          | inr h ↦ (let f = prefix_of p q b x e h in behind q f.rest x w d a f.whole (rest_behind p q b x e f) n)
        ]

-- ---- over parts, one after another
-- a part of the type begins behind the bytes, inside these open parts, and all before it is shallow
pub record IsOver (T : Table) (t : TypeId) (limit : ℕ) (fs : List Frame) (z : List ℕ) (u : TypeId) : Type 0 where
  pub events : List Event
  pub within : OpenPath T t fs z events u
  pub shallow : IsShallow T t limit z

pub elements_over : {T : Table} {t e : TypeId} {limit m : ℕ} {fs : List Frame} {vs : Trees} {z b : List ℕ}
    → IsOver T t limit (frame.Many e (tree_count vs + m) ∷ fs) z e → SpellsEach T e vs b
    → length fs + 1 + trees_depth vs ≤ limit
    → IsOver T t limit (frame.Many e m ∷ fs) (z ++ b) e
elements_over {T = T} {t = t} {e = e} {limit = limit} {m = m} {fs = fs} {z = z} o no_element l =
    subst (λ y. IsOver T t limit (frame.Many e m ∷ fs) y e) (sym (append_nil z))
    (subst (λ n. IsOver T t limit (frame.Many e n ∷ fs) z e) (omega arith) o)
elements_over {T = T} {t = t} {e = e} {limit = limit} {m = m} {fs = fs} {z = z} o
    (element {v = v} {vs = vs} {b = b} {c = c} s ps) l =
    let one : tree_count vs + 1 + m ≡ suc (tree_count vs + m) = omega arith in
    let w = subst (λ n. OpenPath T t (frame.Many e n ∷ fs) z o.events e) one o.within in
    let next : IsOver T t limit (frame.Many e (tree_count vs + m) ∷ fs) (z ++ b) e =
    record {
      events = _;
      within = next_element (part_whole w s (some_events v).1);
      shallow =
          part_shallow o.shallow (within_inside w) s (omega arith);
    } in
    subst (λ y. IsOver T t limit (frame.Many e m ∷ fs) y e) (append_assoc z b c) (elements_over next ps (omega arith))

pub entries_over : {T : Table} {t k e : TypeId} {limit m : ℕ} {fs : List Frame} {ps : Pairs} {z b : List ℕ}
    → IsOver T t limit (frame.Key k e (pair_count ps + m) ∷ fs) z k → SpellsPairs T k e ps b
    → length fs + 1 + pairs_depth ps ≤ limit
    → IsOver T t limit (frame.Key k e m ∷ fs) (z ++ b) k
entries_over {T = T} {t = t} {k = k} {e = e} {limit = limit} {m = m} {fs = fs} {z = z} o no_entry l =
    subst (λ y. IsOver T t limit (frame.Key k e m ∷ fs) y k) (sym (append_nil z))
    (subst (λ n. IsOver T t limit (frame.Key k e n ∷ fs) z k) (omega arith) o)
entries_over {T = T} {t = t} {k = k} {e = e} {limit = limit} {m = m} {fs = fs} {z = z} o
    (entry {x = x} {v = v} {ps = ps} {a = a} {b = b} {c = c} r s q) l =
    let one : pair_count ps + 1 + m ≡ suc (pair_count ps + m) = omega arith in
    let w = subst (λ n. OpenPath T t (frame.Key k e n ∷ fs) z o.events k) one o.within in
    let value = key_read (part_whole w r (some_events x).1) in
    let shallow = part_shallow o.shallow (within_inside w) r (omega arith) in
    let next : IsOver T t limit (frame.Key k e (pair_count ps + m) ∷ fs) ((z ++ a) ++ b) k =
    record {
      events = _;
      within = next_pair (part_whole value s (some_events v).1);
      shallow =
          part_shallow shallow (within_inside value) s (omega arith);
    } in
    subst (λ y. IsOver T t limit (frame.Key k e m ∷ fs) y k) (append_assoc (z ++ a) b c ∙ append_assoc z a (b ++ c))
    (entries_over next q (omega arith))

-- ---- the step of the reader
module _ {T : Table} {X O : Type 0} {received : X → List Event → Type 0} {old new : Run X O} {u : TypeId}
    {f g : Frame} where
  skipped : (bytes : List ℕ) → old.state.expected ≡ Number (Part u) → slice_get old.state.stack 0 ≡ Some f
      → new.state.stack ≡ g ∷ drop 1 old.state.stack → new.state.expected ≡ Number (Part u)
      → ((us : List Event) → received new.state.builder us)
      → IsOpenSomewhere T received old → old.start ≡ old.taken → Moves old new (length bytes)
      → ((t : TypeId) (z : List ℕ) → IsOver T t old.depth (f ∷ drop 1 old.state.stack) z u
      → IsOver T t old.depth (g ∷ drop 1 old.state.stack) (z ++ bytes) u) → Steps T received old new bytes ToNext
  skipped bytes e i k a untold o fresh m over = record { each = step }
    where
      none : old.number ≡ []
      none = fresh_is (Part u) e o fresh

      step : (t : TypeId) (z : List ℕ) → IsOpenRun T t received old z → IsStepped T t received new (z ++ bytes) ToNext
      step t z p =
          let h = p.reached in
          let n = size h.before h.under_way h.whole in
          let s = h.start_is in let c = h.taken_is in let d = m.taken in
          let nothing = below_some h.under_way (omega arith) in
          let there : z ≡ h.before = h.whole ∙ ap (λ r. h.before ++ r) nothing ∙ append_nil h.before in
          let b = placed_begun e h.placed in
          let at : IsOver T t old.depth (f ∷ drop 1 old.state.stack) h.before u =
          record {
            events = b.us;
            within = subst (λ fs. OpenPath T t fs h.before b.us u) (head_is old.state.stack i)
                b.within;
            shallow = h.shallow;
          } in
          let j = over t h.before at in
          let placed : IsPlaced T t received new.state (h.before ++ bytes) [] =
          record {
            us = j.events;
            at = subst (λ fs. AtNext T t fs new.state.expected (h.before ++ bytes) [] j.events)
                (sym k) (subst (λ w. AtNext T t (g ∷ drop 1 old.state.stack) w (h.before ++ bytes) [] j.events) (sym a)
                (at_part j.within));
            told = untold j.events;
          } in
          let y : h.before ++ bytes ≡ z ++ bytes = ap (λ l. l ++ bytes) (sym there) in
          let shallow = subst (λ n. IsShallow T t n (z ++ bytes)) (sym m.depth_is)
          (subst (IsShallow T t old.depth) y j.shallow) in
          settled_stepped received new ToNext h.ready y (m.number ∙ none) (let q = m.start in
          omega (arith, length-append z bytes)) (omega (arith, length-append z bytes)) shallow placed

-- elements that stand whole in the piece
pub elements_skipped : {T : Table} {X O : Type 0} {received : X → List Event → Type 0} {old new : Run X O} {e : TypeId}
    {left count limit used : ℕ} {s : Advance} (rest : List ℕ) → old.state.expected ≡ Number (Part e)
    → IsInList e left old.state.stack
    → new.state.stack ≡ frame.Many e (left - count) ∷ drop 1 old.state.stack → new.state.expected ≡ old.state.expected
    → ((us : List Event) → received new.state.builder us) → IsOpenSomewhere T received old → old.start ≡ old.taken
    → Moves old new used
    → count ≤ left → limit ≡ old.depth - length old.state.stack → HasElements T e limit count rest used → 0 < used
    → s.used ≡ used → s.moved ≡ ToNext → TakesBasicParts T received old new rest s
elements_skipped {T = T} {received = received} {old = old} {new = new} {e = e} {left = left} {count = count} {used =
    used} {s = s} rest a i k b untold o fresh m l d h some p w =
    let deep = part_deep a o in
    let few = h.inside in
    let n = h.counted in
    let size : length (take used rest) ≡ used = omega (arith, length-take used rest) in
    let all : tree_count h.values + (left - count) ≡ left = omega arith in
    let head = ap length (head_is old.state.stack i) in
    let within = h.within in
    let steps = skipped {f = frame.Many e left} (take used rest) a i k (b ∙ a) untold o fresh
    (subst (Moves old new) (sym size) m)
    (λ t z v. elements_over (subst (λ n. IsOver T t old.depth (frame.Many e n ∷ drop 1 old.state.stack) z e) (sym all)
    v) h.spelled (omega arith)) in
    some_parts_taken (record {
      some = omega arith;
      takes = record {
        few = omega arith;
        more = subst (λ n. TakesMore old new n) (sym p) (moves_more m);
        steps = subst (λ n. Steps T received old new (take n rest) s.moved) (sym p)
            (subst (Steps T received old new (take used rest)) (sym w) steps);
      };
    }) m.start

-- entries that stand whole
pub entries_skipped : {T : Table} {X O : Type 0} {received : X → List Event → Type 0} {old new : Run X O} {k e : TypeId}
    {left count limit used : ℕ} {s : Advance} (rest : List ℕ) → old.state.expected ≡ Number (Part k)
    → IsInMap k e left old.state.stack
    → new.state.stack ≡ frame.Key k e (left - count) ∷ drop 1 old.state.stack → new.state.expected ≡ old.state.expected
    → ((us : List Event) → received new.state.builder us) → IsOpenSomewhere T received old → old.start ≡ old.taken
    → Moves old new used
    → count ≤ left → limit ≡ old.depth - length old.state.stack → HasEntries T k e limit count rest used → 0 < used
    → s.used ≡ used → s.moved ≡ ToNext → TakesBasicParts T received old new rest s
entries_skipped {T = T} {received = received} {old = old} {new = new} {k = key} {e = e} {left = left} {count = count}
    {used = used} {s = s} rest a i k b untold o fresh m l d h some p w =
    let deep = part_deep a o in
    let few = h.inside in
    let n = h.counted in
    let size : length (take used rest) ≡ used = omega (arith, length-take used rest) in
    let all : pair_count h.pairs + (left - count) ≡ left = omega arith in
    let head = ap length (head_is old.state.stack i) in
    let within = h.within in
    let steps = skipped {f = frame.Key key e left} (take used rest) a i k (b ∙ a) untold o fresh
    (subst (Moves old new) (sym size) m)
    (λ t z v. entries_over (subst (λ n. IsOver T t old.depth (frame.Key key e n ∷ drop 1 old.state.stack) z key)
    (sym all) v) h.spelled (omega arith)) in
    some_parts_taken (record {
      some = omega arith;
      takes = record {
        few = omega arith;
        more = subst (λ n. TakesMore old new n) (sym p) (moves_more m);
        steps = subst (λ n. Steps T received old new (take n rest) s.moved) (sym p)
            (subst (Steps T received old new (take used rest)) (sym w) steps);
      };
    }) m.start

-- in a map a key is expected
key_within : {T : Table} {t : TypeId} {fs : List Frame} {z : List ℕ} {us : List Event} {u k e : TypeId} {left : ℕ}
    → OpenPath T t fs z us u → IsInMap k e left fs → u ≡ k
key_within (at_once s i) h = cc
key_within (behind_tag' s i) h = cc
key_within (in_list w k i n b c) h = cc
key_within (at_key w k n b c) h = cc
key_within (at_value w k n b c x y) h = cc
key_within (in_field w k b l m g n) h = cc

key_is : {T : Table} {X O : Type 0} {received : X → List Event → Type 0} {run : Run X O} {id k e : TypeId} {left : ℕ}
    → run.state.expected ≡ Number (Part id) → IsOpenSomewhere T received run → IsInMap k e left run.state.stack
    → run.state.expected ≡ Number (Part k)
key_is a o h = a ∙ ap (λ u. Number (Part u)) (key_within (placed_begun a o.open_.reached.placed).within h)

pub before_key : {T : Table} {X O : Type 0} {received : X → List Event → Type 0} {run : Run X O} {id k e : TypeId}
    {left : ℕ} {rest : List ℕ} → IsBefore T received run (Number (Part id)) rest → IsInMap k e left run.state.stack
    → IsBefore T received run (Number (Part k)) rest
before_key b h = record {
  expected = key_is b.expected b.has_read h;
  has_read = b.has_read;
  some = b.some;
  room =
      b.room;
}
