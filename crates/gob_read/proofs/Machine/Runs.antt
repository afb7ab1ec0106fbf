-- What a reader has come to, byte by byte and piece by piece, and what is refused there.
use Rattle.std.proofs.Common.{◌≡◌, ℕ, zero, suc, ◌+◌, ◌^◌, ◌<◌, ◌≤◌, inl, inr, List, [], ◌∷◌, ◌++◌, length, arith, refl}
use Rattle.std.proofs.Common.{sym, ap, ◌∙◌, subst, append_assoc, length-append, get_or, take, drop}
use Rattle.std.specs.Prelude.{Result, Ok, Err}
use Rattle.std.proofs.lemmas.Bool.{cases_lt}
use Rattle.gob_num.specs.Unsigned.{IsUnsigned, IsUnsignedPrefix, IsBadHead, IsNotMinimal, BeginsNumber}
use Rattle.gob_num.proofs.PublicLaws.{prefix_begins, begins_prefix, prefix_not_padded}
use Rattle.gob_types.specs.declared.id.TypeId.{TypeId}
use Rattle.gob_types.specs.declared.reason.Reason.TheVariants as reason
use Rattle.gob_types.specs.Table.{Table}
use Rattle.gob_types.specs.Ready.{IsReady}
use Rattle.gob_read.specs.Expected.{Allowed, a_number, raw, within_number, within_raw}
use Rattle.gob_read.specs.Expects.{ExpectsTop}
use Rattle.gob_read.specs.Refusal.{Refusal}
use Rattle.gob_read.specs.First.{IsFirst}
use Rattle.gob_read.specs.Viable.{IsShallow, IsViable}
use Rattle.gob_read.specs.Event.{Event}
use Rattle.gob_read.specs.Machine.OpenPath.{AtNext}
use Rattle.gob_read.specs.Machine.Steps.{CanTake, CanTakeRaw, IsPlaced, IsRead, Settled, TakesRaw}
use Rattle.gob_read.specs.Machine.Running.{TakesMore, IsOpenSomewhere, IsOpenIn, IsBeforeIn, IsUnderWayAt, depth_of}
use Rattle.gob_read.specs.Machine.Running.{IsReached, IsOpenRun, IsFinished, IsStepped, Steps, RefusesAt, TakesBytes}
use Rattle.gob_read.specs.Machine.Running.{BytesAnswers, TakesSome, TakesNumber, RefusesNumber, NumberAnswers}
use Rattle.gob_read.specs.Machine.Running.{JudgesFor, EndsFor, StopsFor}
use Rattle.gob_read.specs.declared.next.Moved.{Moved}
use Rattle.gob_read.specs.declared.next.Moved.TheVariants.{ToNext, PastValue}
use Rattle.gob_read.specs.declared.next.Next.{Next}
use Rattle.gob_read.specs.declared.next.Next.TheVariants.{Top, Number, Raw}
use Rattle.gob_read.specs.declared.next.NextNumber.{NextNumber}
use Rattle.gob_read.specs.declared.state.State.{State}
use Rattle.gob_read.specs.declared.stop.Stop.{Stop}
use Rattle.gob_read.specs.declared.stop.Stop.TheVariants as stops
use Rattle.gob_read.specs.declared.run.Run.{Run}
use Rattle.gob_read.proofs.Grammar.Prefixes.{append_nil}
use Rattle.gob_read.proofs.Grammar.Firsts.{bad_head_first, not_minimal_first, not_allowed_first, short_first}
use Rattle.gob_read.proofs.Grammar.Firsts.{too_deep_first, extra_first}
use Rattle.gob_read.proofs.Grammar.Onward.{number_taken, raw_taken, shallow_on}
use Rattle.gob_read.proofs.Machine.Places.{item_expects, raw_expects, place_expects, one_depth, at_any, no_top}

-- a number may be taken, of which these bytes came
pub record NumberOpen (T : Table) (t : TypeId) {X O : Type 0} (received : X → List Event → Type 0) (run : Run X O)
    (z : List ℕ) : Type 0 where
  pub ready : IsReady T t
  pub before : List ℕ
  pub under_way : List ℕ
  pub placed : IsPlaced T t received run.state before under_way
  pub allowed : Allowed
  pub depth : ℕ
  pub expects : ExpectsTop T t before (a_number allowed) depth
  pub not_deep : depth ≤ run.depth
  pub shallow : IsShallow T t run.depth before
  pub whole : z ≡ before ++ under_way
  pub number_is : run.number ≡ under_way
  pub begins : BeginsNumber under_way
  pub start_is : run.start ≡ length before
  pub taken_is : run.taken ≡ length z

pub number_open : {T : Table} {t : TypeId} {X O : Type 0} {received : X → List Event → Type 0} {run : Run X O}
    {z : List ℕ} (i : NextNumber) → run.state.expected ≡ Number i → IsOpenRun T t received run z
    → NumberOpen T t received run z
number_open {T = T} {t = t} {run = run} i e o =
    let h = o.reached in
    let w = item_expects i h.ready (subst (λ a. AtNext T t run.state.stack a h.before h.under_way h.placed.us) e
    h.placed.at) in
    let n = subst (λ a. IsUnderWayAt a run.number h.under_way) e h.number_is in
    record {
      ready = h.ready;
      before = h.before;
      under_way = h.under_way;
      placed = h.placed;
      allowed = w.allowed;
      depth = _;
      expects = w.expects;
      not_deep = subst (λ a. depth_of a run.state.stack ≤ run.depth) e o.not_deep;
      shallow = h.shallow;
      whole = h.whole;
      number_is = n.0;
      begins = n.1;
      start_is = h.start_is;
      taken_is = h.taken_is;
    }

placed_any : {T : Table} {t : TypeId} {X O : Type 0} {received : X → List Event → Type 0} {state : State X O}
    {p r : List ℕ} (i : NextNumber) (r' : List ℕ) → state.expected ≡ Number i → IsPlaced T t received state p r
    → IsPlaced T t received state p r'
placed_any {T = T} {t = t} {state = state} {p = p} {r = r} i r' e b =
    record {
      us = b.us;
      at = subst (λ a. AtNext T t state.stack a p r' b.us) (sym e)
          (at_any i r' (subst (λ a. AtNext T t state.stack a p r b.us) e b.at));
      told = b.told;
    }

number_under_way : {number r : List ℕ} {a : Next} {i : NextNumber} → a ≡ Number i → number ≡ r → BeginsNumber r
    → IsUnderWayAt a number r
number_under_way {number = number} {r = r} e n b = subst (λ a. IsUnderWayAt a number r) (sym e) (n, b)

pub fresh_number : {number : List ℕ} (a : Next) → number ≡ [] → IsUnderWayAt a number []
fresh_number (Top u) e = (e, refl)
fresh_number (Number i) e = (e, tt)
fresh_number (Raw left) e = e

-- an equal refusal
pub first_is : {T : Table} {t : TypeId} {limit announced : ℕ} {z : List ℕ} {R S : Refusal}
    → IsFirst T t limit announced z R → R.place ≡ S.place → R.seen ≡ S.seen → R.reason ≡ S.reason
    → IsFirst T t limit announced z S
first_is {T = T} {t = t} {limit = limit} {announced = announced} {z = z} {R = R} {S = S} h p s r =
    subst (IsFirst T t limit announced z) one h
  where
    one : R ≡ S
    one = ap (λ v. record { place = v; seen = R.seen; reason = R.reason }) p
        ∙ ap (λ v. record { place = S.place; seen = v; reason = R.reason }) s
        ∙ ap (λ v. record { place = S.place; seen = S.seen; reason = v }) r

pub same_first : {T : Table} {t : TypeId} {d d' l l' : ℕ} {z z' : List ℕ} {r : Refusal} → d ≡ d' → l ≡ l' → z ≡ z'
    → IsFirst T t d l z r → IsFirst T t d' l' z' r
same_first {T = T} {t = t} {d = d} {d' = d'} {l = l} {l' = l'} {z = z} {z' = z'} {r = r} e f g h =
    subst (λ z. IsFirst T t d' l' z r) g (subst (λ l. IsFirst T t d' l z r) f (subst (λ d. IsFirst T t d l z r) e h))

pub size : {z : List ℕ} (p r : List ℕ) → z ≡ p ++ r → length z ≡ length p + length r
size p r e = let j = ap length e in omega (arith, length-append p r)

further : {z : List ℕ} (p r c : List ℕ) → z ≡ p ++ r → z ++ c ≡ p ++ (r ++ c)
further p r c e = ap (λ l. l ++ c) e ∙ append_assoc p r c

-- one more byte of a number
pub number_goes_on : {T : Table} {X O : Type 0} {received : X → List Event → Type 0} {run new : Run X O}
    (i : NextNumber) (b : ℕ) → run.state.expected ≡ Number i → new.state ≡ run.state → new.number ≡ run.number ++ b ∷ []
    → new.start ≡ run.start
    → new.taken ≡ run.taken + 1 → new.depth ≡ run.depth → IsUnsignedPrefix (run.number ++ b ∷ [])
    → Steps T received run new (b ∷ []) ToNext
number_goes_on {T = T} {X = X} {O = O} {received = received} {run = run} {new = new} i b e s n a k d f =
    record { each = step }
  where
    step : (t : TypeId) (z : List ℕ) → IsOpenRun T t received run z → IsReached T t received new (z ++ b ∷ [])
    step t z o =
        let h = number_open i e o in
        let more : run.number ++ b ∷ [] ≡ h.under_way ++ b ∷ [] = ap (λ l. l ++ b ∷ []) h.number_is in
        let l : depth_of run.state.expected run.state.stack ≤ new.depth =
        subst (λ k. depth_of run.state.expected run.state.stack ≤ k) (sym d) o.not_deep in
        record {
          ready = h.ready;
          before = h.before;
          under_way = h.under_way ++ b ∷ [];
          placed = subst (λ (s : State X O). IsPlaced T t received s h.before (h.under_way ++ b ∷ [])) (sym s)
              (placed_any i (h.under_way ++ b ∷ []) e h.placed);
          whole = further h.before h.under_way (b ∷ []) h.whole;
          number_is = number_under_way (ap (λ (s : State X O). s.expected) s ∙ e) (n ∙ more)
              (prefix_begins {bytes = h.under_way ++ b ∷ []} (subst IsUnsignedPrefix more f));
          start_is = a ∙ h.start_is;
          taken_is = (let m = h.taken_is in omega (arith, length-append z (b ∷ [])));
          shallow = subst (λ k. IsShallow T t k h.before) (sym d) h.shallow;
          judged = λ _. subst (λ (s : State X O). depth_of s.expected s.stack ≤ new.depth) (sym s) l;
        }

bad_first : (r : List ℕ) (b : ℕ) (x : List ℕ) → BeginsNumber r → IsBadHead (r ++ b ∷ []) → (length r ≡ 0)
    × IsBadHead (r ++ b ∷ x)
bad_first [] b x n h = (refl, h)
bad_first (c ∷ []) b x n h = absurd (omega arith)
bad_first (c ∷ d ∷ r) b x n h = absurd (omega arith)

minimal_first : (r : List ℕ) (b : ℕ) (x : List ℕ) → BeginsNumber r → IsNotMinimal (r ++ b ∷ []) → (length r ≡ 1)
    × IsNotMinimal (r ++ b ∷ x)
minimal_first [] b x n h = absurd h
minimal_first (c ∷ []) b x n h = (refl, h)
minimal_first (c ∷ d ∷ r) b x n h = absurd (prefix_not_padded (begins_prefix {bytes = c ∷ d ∷ r} n) h)

-- a byte that begins no number
pub bad_head_refused : {T : Table} {X O : Type 0} {received : X → List Event → Type 0} {run : Run X O} (i : NextNumber)
    (b : ℕ) → run.state.expected ≡ Number i → IsBadHead (run.number ++ b ∷ [])
    → RefusesAt T received run (b ∷ []) (record { place = run.start; seen = run.taken + 1; reason = reason.BadHead })
bad_head_refused {T = T} {received = received} {run = run} i b e k = record { each = refused }
  where
    refused : (t : TypeId) (z x : List ℕ) → IsOpenRun T t received run z → IsFirst T t run.depth run.length (z
        ++ (b ∷ [] ++ x)) (record { place = run.start; seen = run.taken + 1; reason = reason.BadHead })
    refused t z x o =
        let h = number_open i e o in
        let f = bad_first h.under_way b x h.begins (subst (λ r. IsBadHead (r ++ b ∷ [])) h.number_is k) in
        let n = size h.before h.under_way h.whole in
        let j = h.start_is in let m = h.taken_is in let c = f.0 in
        first_is (bad_head_first {announced = run.length} (h.under_way ++ b ∷ x) h.expects h.not_deep h.shallow
        (further h.before h.under_way (b ∷ x) h.whole) f.1) (sym h.start_is) (omega arith) refl

-- a number that is longer than it needs
pub not_minimal_refused : {T : Table} {X O : Type 0} {received : X → List Event → Type 0} {run : Run X O}
    (i : NextNumber) (b : ℕ) → run.state.expected ≡ Number i → IsNotMinimal (run.number ++ b ∷ [])
    → RefusesAt T received run (b ∷ []) (record { place = run.start; seen = run.taken + 1; reason = reason.NotMinimal })
not_minimal_refused {T = T} {received = received} {run = run} i b e k = record { each = refused }
  where
    refused : (t : TypeId) (z x : List ℕ) → IsOpenRun T t received run z → IsFirst T t run.depth run.length (z
        ++ (b ∷ [] ++ x)) (record { place = run.start; seen = run.taken + 1; reason = reason.NotMinimal })
    refused t z x o =
        let h = number_open i e o in
        let f = minimal_first h.under_way b x h.begins (subst (λ r. IsNotMinimal (r ++ b ∷ [])) h.number_is k) in
        let n = size h.before h.under_way h.whole in
        let j = h.start_is in let m = h.taken_is in let c = f.0 in
        first_is (not_minimal_first {announced = run.length} (h.under_way ++ b ∷ x) h.expects h.not_deep h.shallow
        (further h.before h.under_way (b ∷ x) h.whole) f.1) (sym h.start_is) (omega arith) refl

-- a number that isn't allowed
pub not_allowed_refused : {T : Table} {X O : Type 0} {received : X → List Event → Type 0} {run mid : Run X O} {n : ℕ}
    {refusal : Refusal} (i : NextNumber) (c : List ℕ) → run.state.expected ≡ Number i → mid.state ≡ run.state
    → mid.start ≡ run.start
    → mid.taken ≡ run.taken + length c → IsUnsigned n (run.number ++ c) → RefusesNumber T received mid n refusal
    → RefusesAt T received run c refusal
not_allowed_refused {T = T} {X = X} {O = O} {received = received} {run = run} {mid = mid} {n = n} {refusal = refusal} i
    c e s a k u r = record { each = refused }
  where
    refused : (t : TypeId) (z x : List ℕ) → IsOpenRun T t received run z → IsFirst T t run.depth run.length (z
        ++ (c ++ x)) refusal
    refused t z x o =
        let h = number_open i e o in
        let y = r.refuses.each t h.before h.under_way h.ready
        (subst (λ (s : State X O). IsPlaced T t received s h.before h.under_way) (sym s) h.placed) in
        let deep = one_depth y.expects h.expects in let l = h.not_deep in
        let v : IsUnsigned n (h.under_way ++ c) = subst (λ r. IsUnsigned n (r ++ c)) h.number_is u in
        let there : z ++ (c ++ x) ≡ h.before ++ ((h.under_way ++ c) ++ x) = further h.before h.under_way (c
        ++ x) h.whole ∙ ap (λ l. h.before ++ l) (sym (append_assoc h.under_way c x)) in
        let q = size h.before h.under_way h.whole in
        let m = length-append h.under_way c in
        let j = h.taken_is in let f = r.seen_is in
        first_is (not_allowed_first {announced = run.length} x y.expects (omega arith) h.shallow there v y.not_allowed)
        (sym (r.place_is ∙ a ∙ h.start_is)) (omega arith) y.reason_is

-- behind what was read whole
pub settled_stepped : {T : Table} {t : TypeId} {X O : Type 0} (received : X → List Event → Type 0) (new : Run X O)
    {y z : List ℕ} (moved : Moved) → IsReady T t → y ≡ z → new.number ≡ [] → new.start ≡ length z → new.taken ≡ length z
    → IsShallow T t new.depth z
    → Settled T t received new.state y moved → IsStepped T t received new z moved
settled_stepped {T = T} {t = t} received new PastValue d e n a m k r =
    record { read = subst (IsRead T t received new.state) e r; taken_is = m; shallow = k }
settled_stepped {T = T} {t = t} received new {z = z} ToNext d e n a m k r = record {
  ready = d;
  before = z;
  under_way = [];
  placed = subst (λ y. IsPlaced T t received new.state y []) e r;
  whole = sym (append_nil z);
  number_is = fresh_number new.state.expected n;
  start_is = a;
  taken_is = m;
  shallow = k;
  judged = λ l. absurd (omega arith);
}

-- a whole number, or the end of one, may be taken
pub number_can_take : {T : Table} {X O : Type 0} {received : X → List Event → Type 0} {run : Run X O} {n : ℕ}
    (i : NextNumber) (c : List ℕ) → run.state.expected ≡ Number i → IsOpenSomewhere T received run
    → IsUnsigned n (run.number ++ c) → run.taken + length c < 2 ^ 64
    → CanTake T received run.state i n
number_can_take {n = n} i c e o u small =
    let h = number_open i e o.open_ in
    let q = size h.before h.under_way h.whole in
    let m = h.taken_is in
    record {
      expected = e;
      type = o.type;
      ready = h.ready;
      before = h.before;
      so_far = h.under_way;
      bytes = h.under_way ++ c;
      placed = h.placed;
      spelled = subst (λ r. IsUnsigned n (r ++ c)) h.number_is u;
      small = omega (arith, length-append h.before (h.under_way ++ c), length-append h.under_way c);
    }

-- where the next item may be taken, more may be
pub open_in : {X O : Type 0} {received : X → List Event → Type 0} {run : Run X O} {next : Next} {rest : List ℕ}
    → IsBeforeIn received run next rest → IsOpenIn received run
open_in b = record { table = b.table; open_ = b.before.has_read }

-- raw bytes may be taken
pub raw_can_take : {X O : Type 0} {received : X → List Event → Type 0} {run : Run X O} {left : ℕ} (bytes : List ℕ)
    → run.state.expected ≡ Raw left → IsOpenIn received run → length bytes ≤ left → run.taken + length bytes < 2 ^ 64
    → CanTakeRaw received run.state left bytes
raw_can_take bytes e o few small =
    let h = o.open_.open_.reached in
    let q = size h.before h.under_way h.whole in
    let m = h.taken_is in
    record {
      expected = e;
      few = few;
      table = o.table;
      type = o.open_.type;
      before = h.before;
      so_far = h.under_way;
      placed = h.placed;
      small = omega (arith, length-append h.before (h.under_way ++ bytes), length-append h.under_way bytes);
    }

-- a whole number was taken
pub number_stepped : {T : Table} {X O : Type 0} {received : X → List Event → Type 0} {run mid new : Run X O} {n : ℕ}
    {moved : Moved} (i : NextNumber) (c : List ℕ) → run.state.expected ≡ Number i → mid.state ≡ run.state
    → mid.number ≡ []
    → mid.taken ≡ run.taken + length c → mid.depth ≡ run.depth → IsUnsigned n (run.number ++ c)
    → TakesNumber T received mid new n moved → Steps T received run new c moved
number_stepped {T = T} {X = X} {O = O} {received = received} {run = run} {mid = mid} {new = new} {n = n} {moved = moved}
    i c e s b k d u f = record { each = step }
  where
    step : (t : TypeId) (z : List ℕ) → IsOpenRun T t received run z → IsStepped T t received new (z ++ c) moved
    step t z o =
        let h = number_open i e o in
        let v : IsUnsigned n (h.under_way ++ c) = subst (λ r. IsUnsigned n (r ++ c)) h.number_is u in
        let there = further h.before h.under_way c h.whole in
        let deep : run.depth ≡ new.depth = sym (f.more.depth_is ∙ d) in
        let m = h.taken_is in let j = f.more.taken in let start = f.start_is in
        let over : IsShallow T t new.depth (z ++ c) = subst (λ k. IsShallow T t k (z ++ c)) deep
        (subst (IsShallow T t run.depth) (sym there) (shallow_on h.shallow h.expects h.not_deep (number_taken v)))
        in
        settled_stepped received new moved h.ready (sym there) (f.number_is ∙ b) (omega (arith, length-append z c))
        (omega (arith, length-append z c)) over
        (f.takes.each t h.before h.under_way (h.under_way ++ c) h.ready
        (subst (λ (s : State X O). IsPlaced T t received s h.before h.under_way) (sym s) h.placed) v)

-- raw bytes were taken
pub raw_stepped : {T : Table} {X O : Type 0} {received : X → List Event → Type 0} {run new : Run X O} {moved : Moved}
    (left : ℕ) (bytes : List ℕ) → run.state.expected ≡ Raw left → length bytes ≤ left → new.number ≡ run.number
    → new.taken ≡ run.taken + length bytes → new.depth ≡ run.depth
    → (length bytes ≡ left → new.start ≡ run.taken + length bytes) → (length bytes < left → new.start ≡ run.start)
    → TakesRaw received run.state new.state left bytes moved → Steps T received run new bytes moved
raw_stepped {T = T} {X = X} {O = O} {received = received} {run = run} {new = new} {moved = moved} left bytes e few n k d
    at_end before_end f = record { each = step }
  where
    deep_is : {rest : ℕ} → new.state.expected ≡ Raw rest → new.state.stack ≡ run.state.stack
        → length run.state.stack + 1 ≤ run.depth → depth_of new.state.expected new.state.stack ≤ new.depth
    deep_is a s l = let m : depth_of new.state.expected new.state.stack ≡ length run.state.stack + 1 =
        ap (λ a. depth_of a new.state.stack) a ∙ ap (λ fs. length fs + 1) s in omega arith

    step : (t : TypeId) (z : List ℕ) → IsOpenRun T t received run z → IsStepped T t received new (z ++ bytes) moved
    step t z o =
        let h = o.reached in
        let w = raw_expects (subst (λ a. AtNext T t run.state.stack a h.before h.under_way h.placed.us) e h.placed.at)
        in
        let l : length run.state.stack + 1 ≤ run.depth = subst (λ a. depth_of a run.state.stack ≤ run.depth) e
        o.not_deep in
        let none : run.number ≡ [] = subst (λ a. IsUnderWayAt a run.number h.under_way) e h.number_is in
        let there = further h.before h.under_way bytes h.whole in
        let m = h.taken_is in
        let taken : new.taken ≡ length (z ++ bytes) = omega (arith, length-append z bytes) in
        elim (cases_lt (length bytes) left) [
          | inl some ↦
              let r = f.other T t h.before h.under_way h.placed some in
              subst (IsStepped T t received new (z ++ bytes)) (sym r.more) (record {
                ready = h.ready;
                before = h.before;
                under_way = h.under_way ++ bytes;
                placed = r.placed;
                whole = there;
                number_is = subst (λ a. IsUnderWayAt a new.number (h.under_way ++ bytes)) (sym r.expected) (n ∙ none);
                start_is = before_end some ∙ h.start_is;
                taken_is = taken;
                shallow = subst (λ k. IsShallow T t k h.before) (sym d) h.shallow;
                judged = λ _. deep_is r.expected r.stack l;
              })
          | inr all ↦
              let same : length bytes ≡ left = omega arith in
              let over : IsShallow T t new.depth (z ++ bytes) = subst (λ k. IsShallow T t k (z ++ bytes)) (sym d)
              (subst (IsShallow T t run.depth) (sym there)
              (shallow_on h.shallow w.expects l
              (raw_taken (let q = w.left_is in omega (arith, length-append h.under_way bytes))))) in
              settled_stepped received new moved h.ready (sym there) (n ∙ none) (let a = at_end same in omega arith)
              taken over (f.last T t h.before h.under_way h.placed (sym same))
        ]

pub below_some : (xs : List ℕ) → length xs ≤ 0 → xs ≡ []
below_some [] l = refl
below_some (x ∷ xs) l = absurd (omega arith)

-- a part that begins too deep
pub judged_deep : {T : Table} {X O : Type 0} {received : X → List Event → Type 0} {run : Run X O}
    → run.depth < depth_of run.state.expected run.state.stack
    → JudgesFor T received run (record { place = run.taken; seen = run.taken; reason = reason.TooDeep })
judged_deep {T = T} {received = received} {run = run} l = record { each = refused }
  where
    refused : (t : TypeId) (z x : List ℕ) → IsReached T t received run z → length (z ++ x) ≤ run.length
        → IsFirst T t run.depth run.length (z ++ x) (record {
          place = run.taken;
          seen = run.taken;
          reason =
              reason.TooDeep;
        })
    refused t z x h f =
        let none : h.under_way ≡ [] = below_some h.under_way (not_some (length h.under_way) h.judged) in
        let there : z ≡ h.before = h.whole ∙ ap (λ r. h.before ++ r) none ∙ append_nil h.before in
        let w = place_expects run.state.expected h.ready h.placed.at in
        let m = h.taken_is in
        let n : length z ≡ length h.before = ap length there in
        first_is (too_deep_first {announced = run.length} x w.expects l h.shallow (ap (λ l. l ++ x) there))
        (omega arith) (omega arith) refl
      where
        not_some : (n : ℕ) → (0 < n → depth_of run.state.expected run.state.stack ≤ run.depth) → n ≤ 0
        not_some zero f = omega arith
        not_some (suc n) f = absurd (let k = f (omega arith) in omega arith)

-- the grammar's own word for where the reader stands
pub reached_stood : {T : Table} {t : TypeId} {X O : Type 0} {received : X → List Event → Type 0} {run : Run X O}
    {announced : ℕ} {z : List ℕ} → IsReached T t received run z → depth_of run.state.expected run.state.stack ≤
    run.depth → run.taken < announced
    → IsViable T t run.depth announced z
reached_stood {T = T} {t = t} {run = run} {announced = announced} {z = z} h l room = from run.state.expected refl
  where
    at_place : (a : Next) → run.state.expected ≡ a → AtNext T t run.state.stack a h.before h.under_way h.placed.us
    at_place a e = subst (λ a. AtNext T t run.state.stack a h.before h.under_way h.placed.us) e h.placed.at

    not_deep : (a : Next) → run.state.expected ≡ a → depth_of a run.state.stack ≤ run.depth
    not_deep a e = subst (λ a. depth_of a run.state.stack ≤ run.depth) e l

    short : length z < announced
    short = let m = h.taken_is in omega arith

    from : (a : Next) → run.state.expected ≡ a → IsViable T t run.depth announced z
    from (Top u) e = absurd (no_top (at_place (Top u) e))
    from (Number i) e =
        let w = item_expects i h.ready (at_place (Number i) e) in
        let n = subst (λ a. IsUnderWayAt a run.number h.under_way) e h.number_is in
        record {
          before = h.before;
          under_way = h.under_way;
          expected = a_number w.allowed;
          depth = _;
          expects = w.expects;
          whole = h.whole;
          within = within_number (begins_prefix {bytes = h.under_way} n.1);
          not_deep = not_deep (Number i) e;
          shallow = h.shallow;
          room = short;
        }
    from (Raw left) e =
        let w = raw_expects (at_place (Raw left) e) in
        record {
          before = h.before;
          under_way = h.under_way;
          expected = raw w.count;
          depth = _;
          expects = w.expects;
          whole = h.whole;
          within = within_raw (let m = w.left_is in let k = w.some_left in omega arith);
          not_deep = not_deep (Raw left) e;
          shallow = h.shallow;
          room = short;
        }

-- the end of a body that goes on
pub judged_short : {T : Table} {X O : Type 0} {received : X → List Event → Type 0} {run : Run X O}
    → depth_of run.state.expected run.state.stack ≤ run.depth → run.taken ≡ run.length
    → JudgesFor T received run (record { place = run.taken; seen = run.taken; reason = reason.Short })
judged_short {T = T} {received = received} {run = run} l e = record { each = refused }
  where
    refused : (t : TypeId) (z x : List ℕ) → IsReached T t received run z → length (z ++ x) ≤ run.length
        → IsFirst T t run.depth run.length (z ++ x) (record {
          place = run.taken;
          seen = run.taken;
          reason =
              reason.Short;
        })
    refused t z x h f =
        let m = h.taken_is in
        let i : IsViable T t run.depth (run.taken + 1) z = reached_stood h l (omega arith) in
        let none : x ≡ [] = below_some x (omega (arith, length-append z x)) in
        let there : z ++ x ≡ i.before ++ i.under_way = ap (λ x. z ++ x) none ∙ append_nil z ∙ i.whole in
        let n : length (z ++ x) ≡ run.length = omega (arith, length-append z x) in
        first_is (short_first i.under_way i.expects i.not_deep i.shallow there n i.within) (sym e) (sym e) refl

-- the end of a value before that of its body
pub finished_extra : {X O : Type 0} {received : X → List Event → Type 0} {run : Run X O} → run.taken < run.length
    → EndsFor received run (record { place = run.taken; seen = run.taken; reason = reason.Extra })
finished_extra {received = received} {run = run} l = record { each = refused }
  where
    refused : (T : Table) (t : TypeId) (z x : List ℕ) → IsFinished T t received run z
        → IsFirst T t run.depth run.length (z ++ x) (record {
          place = run.taken;
          seen = run.taken;
          reason =
              reason.Extra;
        })
    refused T t z x h = let m = h.taken_is in first_is (extra_first {announced = run.length} x h.read.spelled h.shallow
        refl (omega arith)) (sym m) (sym m) refl

-- what the number gives its bytes give
pub number_answers : (T : Table) {X O : Type 0} (received : X → List Event → Type 0) (run mid new : Run X O) {n : ℕ}
    (i : NextNumber) (c : List ℕ) (r : Result Moved Stop) → run.state.expected ≡ Number i → mid.state ≡ run.state
    → mid.number ≡ [] → mid.start ≡ run.start
    → mid.taken ≡ run.taken + length c → mid.length ≡ run.length → mid.depth ≡ run.depth
    → IsUnsigned n (run.number ++ c) → NumberAnswers T received mid new n r → BytesAnswers T received run new c r
number_answers T received run mid new i c (Ok moved) e s b a k l d u h =
    record {
      more = record {
        taken = (let m = h.more.taken in omega arith);
        length_is = h.more.length_is ∙ l;
        depth_is =
            h.more.depth_is ∙ d;
      };
      steps = number_stepped i c e s b k d u h;
    }
number_answers T received run mid new i c (Err (stops.Refused p q r)) e s b a k l d u h =
    not_allowed_refused i c e s a k u h
number_answers T received run mid new i c (Err stops.Memory) e s b a k l d u h = h
number_answers T received run mid new i c (Err stops.Failed) e s b a k l d u h = h

-- of the item's first byte on a number has nothing under way
pub fresh_is : {T : Table} {X O : Type 0} {received : X → List Event → Type 0} {run : Run X O} (i : NextNumber)
    → run.state.expected ≡ Number i → IsOpenSomewhere T received run → run.start ≡ run.taken → run.number ≡ []
fresh_is i e o f =
    let h = number_open i e o.open_ in
    let n = size h.before h.under_way h.whole in
    let j = h.start_is in let m = h.taken_is in
    h.number_is ∙ below_some h.under_way (omega arith)

-- a refusal that the front of the piece shows the piece shows
pub refused_further : (T : Table) {X O : Type 0} (received : X → List Event → Type 0) (run : Run X O) (bytes : List ℕ)
    {piece : List ℕ} (more : List ℕ) (stop : Stop) → bytes ++ more ≡ piece
    → StopsFor (λ refusal. RefusesAt T received run bytes refusal) stop
    → StopsFor (λ refusal. RefusesAt T received run piece refusal) stop
refused_further T received run bytes {piece = piece} more (stops.Refused p s r) e h = record {
  each = λ t z x o.
      same_first refl refl (ap (λ l. z ++ l) (sym (append_assoc bytes more x) ∙ ap (λ l. l ++ x) e))
      (h.each t z (more ++ x) o);
}
refused_further T received run bytes more stops.Memory e h = h
refused_further T received run bytes more stops.Failed e h = h

pub head_and_rest : (xs : List ℕ) → 0 < length xs → (get_or xs 0 0 ∷ []) ++ drop 1 xs ≡ xs
head_and_rest [] l = absurd (omega arith)
head_and_rest (x ∷ xs) l = refl

pub take_and_drop : (xs : List ℕ) (n : ℕ) → take n xs ++ drop n xs ≡ xs
take_and_drop [] zero = refl
take_and_drop [] (suc n) = refl
take_and_drop (x ∷ xs) zero = refl
take_and_drop (x ∷ xs) (suc n) = ap (λ l. x ∷ l) (take_and_drop xs n)

take_prefix : (xs ys : List ℕ) → take (length xs) (xs ++ ys) ≡ xs
take_prefix [] ys = refl
take_prefix (x ∷ xs) ys = ap (λ l. x ∷ l) (take_prefix xs ys)

-- bytes at the front of the rest of a piece
pub prefix_taken : {T : Table} {X O : Type 0} {received : X → List Event → Type 0} {old new : Run X O} {moved : Moved}
    {used : ℕ} {rest : List ℕ} (bytes more : List ℕ) → bytes ++ more ≡ rest → used ≡ length bytes → 0 < used
    → TakesBytes T received old new bytes moved
    → TakesSome T received old new rest (record { used = used; moved = moved })
prefix_taken {T = T} {received = received} {old = old} {new = new} {moved = moved} {used = used} {rest = rest} bytes
    more
    e u some h =
    let cut : take used rest ≡ bytes = ap (λ n. take n rest) u ∙ ap (λ l. take (length bytes) l) (sym e)
    ∙ take_prefix bytes more in
    record {
      some = some;
      takes = record {
        few = omega (arith, ap length e, length-append bytes more);
        more = subst (TakesMore old new) (sym u) h.more;
        steps = subst (λ c. Steps T received old new c moved) (sym cut) h.steps;
      };
    }

pub raw_some : {X O : Type 0} {received : X → List Event → Type 0} {run : Run X O} {left : ℕ}
    → run.state.expected ≡ Raw left → IsOpenIn received run → 0 < left
raw_some {run = run} e o = let h = o.open_.open_.reached in
    (raw_expects (subst (λ a. AtNext o.table o.open_.type run.state.stack a h.before h.under_way h.placed.us) e
    h.placed.at)).some_left
