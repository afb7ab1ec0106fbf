-- What a reader of bodies has come to, push by push.
use Rattle.std.proofs.Common.{◌≡◌, ℕ, zero, suc, ◌-◌, ◌<◌, ◌≤◌, inl, inr, List, [], ◌∷◌, ◌++◌, ◌+◌, length, take, min}
use Rattle.std.proofs.Common.{Option, Some, None, arith, refl, sym, ap, ◌∙◌, subst, length-append, length-take}
use Rattle.std.proofs.lemmas.Bool.{cases_lt}
use Rattle.gob_types.specs.declared.id.TypeId.{TypeId}
use Rattle.gob_types.specs.Table.{Table}
use Rattle.gob_types.specs.Ready.{IsReady}
use Rattle.gob_types.proofs.PublicLaws.{ready_defined}
use Rattle.gob_value.specs.Tree.{Tree}
use Rattle.gob_value.specs.Top.{HasStructs, SpellsTop}
use Rattle.gob_read.specs.Viable.{IsShallow, IsViable}
use Rattle.gob_read.specs.Event.{Event, HasEvents}
use Rattle.gob_read.specs.Building.{IsComplete}
use Rattle.gob_read.specs.Machine.Kinds.{BeginsAs, as_struct, as_tagged, number_stays, raw_stays}
use Rattle.gob_read.specs.Machine.OpenPath.{AtNext, at_tag, at_part, at_once}
use Rattle.gob_read.specs.Machine.Running.{IsReached, IsReachedSomewhere, StopsFor, RunGoesOn, RunFinishes}
use Rattle.gob_read.specs.Machine.Running.{RefusesPiece}
use Rattle.gob_read.specs.Calls.Reader.{HasReadSoFar, nothing_taken, taken_so_far, RunHasRead, ReaderHasRead}
use Rattle.gob_read.specs.Calls.Reader.{IsUsableReader, HasReadSome, ReaderTakesPiece, EndsBody, ReaderRefusesBody}
use Rattle.gob_read.specs.Calls.Reader.{Stops}
use Rattle.gob_read.specs.Calls.Reader.{RefusesHonestly}
use Rattle.gob_read.specs.Calls.UpToNil.{IsClearRun, IsRunAtNil, StopsAtNil}
use Rattle.gob_read.specs.Machine.Nil.{IsAtNil, IsClear, ExpectsNil, ComesToNil}
use Rattle.gob_read.specs.declared.frame.Frame.{Frame}
use Rattle.gob_read.specs.declared.next.Next.{Next}
use Rattle.gob_read.specs.declared.next.Next.TheVariants.{Top, Number}
use Rattle.gob_read.specs.declared.next.NextNumber.TheVariants.{Tag, Part}
use Rattle.gob_read.specs.declared.state.State.{State}
use Rattle.gob_read.specs.declared.stop.Stop.{Stop}
use Rattle.gob_read.specs.declared.stop.Stop.TheVariants as stops
use Rattle.gob_read.specs.declared.run.Run.{Run}
use Rattle.gob_read.proofs.Grammar.Deepest.{shallow_within}
use Rattle.gob_read.proofs.Grammar.Honest.{first_honest}
use Rattle.gob_read.proofs.Machine.KindLaws.{struct_type}
use Rattle.gob_read.proofs.Grammar.Onward.{shallow_start}
use Rattle.gob_read.proofs.Machine.Places.{no_top}
use Rattle.gob_read.proofs.Machine.Runs.{same_first, fresh_number}
use Rattle.gob_read.proofs.Machine.Pieces.{take_all}

-- the type of the body was looked up, and nothing else happened
pub record HasBegun (T : Table) {X O : Type 0} (run new : Run X O) : Type 0 where
  pub begins : BeginsAs T run.state.expected new.state.expected
  pub builder : new.state.builder ≡ run.state.builder
  pub stack : new.state.stack ≡ run.state.stack
  pub number : new.number ≡ run.number
  pub start : new.start ≡ run.start
  pub taken : new.taken ≡ run.taken
  pub length_is : new.length ≡ run.length
  pub depth_is : new.depth ≡ run.depth

begun_place : {T : Table} {t : TypeId} {a a' : Next} → IsReady T t → a ≡ Top t → BeginsAs T a a'
    → AtNext T t [] a' [] [] []
begun_place {T = T} {t = t} r e (as_struct {t = u} i) =
    let one : u ≡ t = cc in
    let j = subst (HasStructs T) one i in
    subst (λ u. AtNext T t [] (Number (Part u)) [] [] []) (sym one) (at_part (at_once j.found j.struct))
begun_place {T = T} {t = t} r e (as_tagged {t = u} n) =
    let one : u ≡ t = cc in
    let s = ready_defined r in
    subst (λ u. AtNext T t [] (Number (Tag u)) [] [] []) (sym one)
    (at_tag s.1 (λ k. n (subst (HasStructs T) (sym one) (struct_type s.1 k))))
begun_place r e number_stays = cc
begun_place r e raw_stays = cc

stays : {T : Table} {t : TypeId} {fs : List Frame} {a a' : Next} {p r : List ℕ} {us : List Event}
    → AtNext T t fs a p r us → BeginsAs T a a' → a' ≡ a
stays at (as_struct i) = absurd (no_top at)
stays at (as_tagged n) = absurd (no_top at)
stays at number_stays = refl
stays at raw_stays = refl

same_state : {X O : Type 0} (s r : State X O) → s.builder ≡ r.builder → s.stack ≡ r.stack → s.expected ≡ r.expected
    → s ≡ r
same_state s r b f a =
    ap (λ v. record { builder = v; stack = s.stack; expected = s.expected }) b
    ∙ ap (λ v. record { builder = r.builder; stack = v; expected = s.expected }) f
    ∙ ap (λ v. record { builder = r.builder; stack = r.stack; expected = v }) a

same_run : {X O : Type 0} (s r : Run X O) → s.state ≡ r.state → s.number ≡ r.number → s.start ≡ r.start
    → s.taken ≡ r.taken → s.length ≡ r.length → s.depth ≡ r.depth → s ≡ r
same_run s r a b c d e f =
    ap (λ v. record {
      state = v;
      number = s.number;
      start = s.start;
      taken = s.taken;
      length = s.length;
      depth =
          s.depth;
    }) a
    ∙ ap (λ v. record {
      state = r.state;
      number = v;
      start = s.start;
      taken = s.taken;
      length = s.length;
      depth =
          s.depth;
    }) b
    ∙ ap (λ v. record {
      state = r.state;
      number = r.number;
      start = v;
      taken = s.taken;
      length = s.length;
      depth =
          s.depth;
    }) c
    ∙ ap (λ v. record {
      state = r.state;
      number = r.number;
      start = r.start;
      taken = v;
      length = s.length;
      depth =
          s.depth;
    }) d
    ∙ ap (λ v. record {
      state = r.state;
      number = r.number;
      start = r.start;
      taken = r.taken;
      length = v;
      depth =
          s.depth;
    }) e
    ∙ ap (λ v. record {
      state = r.state;
      number = r.number;
      start = r.start;
      taken = r.taken;
      length = r.length;
      depth =
          v;
    }) f

pub begun_reached : {T : Table} {t : TypeId} {X O : Type 0} {received : X → List Event → Type 0} {run new : Run X O}
    {z : List ℕ} → HasBegun T run new → HasReadSoFar T t received run z → IsReached T t received new z
begun_reached {T = T} {t = t} {X = X} {received = received} {run = run} {new = new} b (nothing_taken n) = record {
  ready = n.ready;
  before = [];
  under_way = [];
  placed = record {
    us = [];
    at = subst (λ fs. AtNext T t fs new.state.expected [] [] []) (sym (b.stack ∙ n.stack))
        (begun_place n.ready n.expected b.begins);
    told = subst (λ (x : X). received x []) (sym b.builder) n.told;
  };
  whole = refl;
  number_is = fresh_number new.state.expected (b.number ∙ n.number_is);
  start_is = b.start ∙ n.start_is;
  taken_is = b.taken ∙ n.taken_is;
  shallow = shallow_start;
  judged = λ l. absurd (omega arith);
}
begun_reached {T = T} {t = t} {X = X} {O = O} {received = received} {run = run} {new = new} {z = z} b (taken_so_far h) =
    let state = same_state new.state run.state b.builder b.stack (stays h.placed.at b.begins) in
    subst (λ (r : Run X O). IsReached T t received r z)
    (sym (same_run new run state b.number b.start b.taken b.length_is b.depth_is)) h

-- a reader that hasn't ended
pub usable_somewhere : {T : Table} {X O : Type 0} {received : X → List Event → Type 0} {run : Run X O}
    {o : Option (Run X O)} → Some run ≡ o → IsUsableReader T received o → HasReadSome T received run
usable_somewhere {T = T} {received = received} e u = subst (IsUsableReader T received) (sym e) u

pub reached_somewhere : {T : Table} {X O : Type 0} {received : X → List Event → Type 0} {run new : Run X O}
    → HasBegun T run new → HasReadSome T received run → IsReachedSomewhere T received new
reached_somewhere b s = record { type = s.type; bytes = s.bytes; reached = begun_reached b s.after.so_far }

taken_is : {T : Table} {t : TypeId} {X O : Type 0} {received : X → List Event → Type 0} {run : Run X O} {z : List ℕ}
    → HasReadSoFar T t received run z → run.taken ≡ length z
taken_is (nothing_taken n) = n.taken_is
taken_is (taken_so_far h) = h.taken_is

whole_piece : (piece z : List ℕ) (count taken len : ℕ) → count ≡ min (len - taken) (length piece) → taken ≡ length z
    → length (z ++ take count piece) < len → take count piece ≡ piece
whole_piece piece z count taken len e f l =
    elim (cases_lt count (length piece)) [
      | inr k ↦ take_all piece count k
      | inl k ↦ absurd (let n : count ≡ len - taken = omega arith in omega (
        arith,
        length-append z (take count piece),
        length-take count piece,
      ))
    ]

take_min : (xs : List ℕ) (n : ℕ) → take (min n (length xs)) xs ≡ take n xs
take_min xs n =
    elim (cases_lt n (length xs)) [
      | inl l ↦ ap (λ k. take k xs) (omega arith)
      | inr l ↦ (let e : min n (length xs) ≡ length xs = omega arith in ap (λ k. take k xs) e
          ∙ take_all xs (length xs) (omega arith) ∙ sym (take_all xs n l))
    ]

take_fewer : (xs : List ℕ) (n m : ℕ) → n ≤ length (take m xs) → take n (take m xs) ≡ take n xs
take_fewer [] n zero l = refl
take_fewer [] n (suc m) l = refl
take_fewer (x ∷ xs) zero zero l = refl
take_fewer (x ∷ xs) zero (suc m) l = refl
take_fewer (x ∷ xs) (suc n) zero l = absurd (omega arith)
take_fewer (x ∷ xs) (suc n) (suc m) l = ap (λ l. x ∷ l) (take_fewer xs n m (omega arith))

take_short : (xs : List ℕ) (m : ℕ) → length (take m xs) ≤ length xs
take_short [] zero = omega arith
take_short [] (suc m) = omega arith
take_short (x ∷ xs) zero = omega arith
take_short (x ∷ xs) (suc m) = omega (arith, take_short xs m)

-- so much of the piece as is announced is read on
pub record ReadsOn (T : Table) {X O : Type 0} (run mid : Run X O) (o : Option (Run X O)) (piece : List ℕ) (count : ℕ) :
    Type 0 where
  pub was : Some run ≡ o
  pub begun : HasBegun T run mid
  pub count_is : count ≡ min (run.length - run.taken) (length piece)

pub reads_on : {T : Table} {X O : Type 0} (run : Run X O) (state : State X O) {o : Option (Run X O)} {piece : List ℕ}
    {count : ℕ} → Some run ≡ o → BeginsAs T run.state.expected state.expected → state.builder ≡ run.state.builder
    → state.stack ≡ run.state.stack
    → count ≡ min (run.length - run.taken) (length piece)
    → ReadsOn T run (record {
      state = state;
      number = run.number;
      start = run.start;
      taken = run.taken;
      length =
          run.length;
      depth = run.depth;
    }) o piece count
reads_on run state e a b f n = record {
  was = e;
  count_is = n;
  begun = record {
    begins = a;
    builder = b;
    stack = f;
    number = refl;
    start = refl;
    taken = refl;
    length_is = refl;
    depth_is = refl;
  };
}

after_is : {T : Table} {t : TypeId} {limit announced : ℕ} {X O : Type 0} {received : X → List Event → Type 0}
    {run : Run X O} {o : Option (Run X O)} {z : List ℕ} → Some run ≡ o → ReaderHasRead T t limit announced received o z
    → RunHasRead T t limit announced received run z
after_is {T = T} {t = t} {limit = limit} {announced = announced} {received = received} {z = z} e h =
    subst (λ o. ReaderHasRead T t limit announced received o z) (sym e) h

pub push_more : {T : Table} {t : TypeId} {limit announced : ℕ} {X O : Type 0} {received : X → List Event → Type 0}
    {run mid new : Run X O} {o : Option (Run X O)} {z piece : List ℕ} {count : ℕ} → ReadsOn T run mid o piece count
    → RunGoesOn T received mid new (take count piece)
    → ReaderHasRead T t limit announced received o z → ReaderTakesPiece T t limit announced received (Some new) z piece
push_more {T = T} {t = t} {limit = limit} {announced = announced} {received = received} {run = run} {mid = mid}
    {new = new} {z = z} {piece = piece} {count = count} p g s =
    let a : RunHasRead T t limit announced received run z = after_is p.was s in
    let h = begun_reached p.begun a.so_far in
    let depth = p.begun.depth_is ∙ a.depth_is in
    let len = p.begun.length_is ∙ a.length_is in
    let i : IsViable T t limit announced (z ++ take count piece) =
    subst (λ n. IsViable T t limit n (z ++ take count piece)) len
    (subst (λ k. IsViable T t k mid.length (z ++ take count piece)) depth (g.viable t z h)) in
    let whole : take count piece ≡ piece = whole_piece piece z count run.taken announced (p.count_is
    ∙ ap (λ n. min (n - run.taken) (length piece)) a.length_is) (taken_is a.so_far) i.room in
    let there : IsViable T t limit announced (z ++ piece) = subst (λ l. IsViable T t limit announced (z ++ l)) whole i
    in
    record {
      after = record {
        so_far = taken_so_far (subst (λ l. IsReached T t received new (z ++ l)) whole (g.reached t z h));
        depth_is = g.same.depth_is ∙ depth;
        length_is = g.same.length_is ∙ len;
        within = (let r = there.room in omega arith);
      };
      viable = there;
    }

pub push_nil : {T : Table} {t : TypeId} {limit announced : ℕ} {X O : Type 0} {received : X → List Event → Type 0}
    {run mid new : Run X O} {o : Option (Run X O)} {z piece : List ℕ} {count used : ℕ} → ReadsOn T run mid o piece count
    → ComesToNil T received mid new (take count piece) used → ReaderHasRead T t limit announced received o z
    → StopsAtNil T t limit announced received (Some new) z piece used
push_nil {T = T} {t = t} {limit = limit} {announced = announced} {received = received} {run = run} {mid = mid}
    {new = new} {z = z} {piece = piece} {count = count} {used = used} p g s =
    let a : RunHasRead T t limit announced received run z = after_is p.was s in
    let h = begun_reached p.begun a.so_far in
    let depth = p.begun.depth_is ∙ a.depth_is in
    let len = p.begun.length_is ∙ a.length_is in
    let one : take used (take count piece) ≡ take used piece = take_fewer piece used count g.within in
    let i : IsViable T t limit announced (z ++ take used (take count piece)) =
    subst (λ n. IsViable T t limit n (z ++ take used (take count piece))) len
    (subst (λ k. IsViable T t k mid.length (z ++ take used (take count piece))) depth (g.goes_on.viable t z h)) in
    let there : IsViable T t limit announced (z ++ take used piece) = subst (λ l. IsViable T t limit announced (z ++ l))
    one i in
    record {
      within = (let w = g.within in omega (arith, take_short piece count));
      takes = record {
        after = record {
          so_far = taken_so_far (subst (λ l. IsReached T t received new (z ++ l)) one (g.goes_on.reached t z h));
          depth_is = g.goes_on.same.depth_is ∙ depth;
          length_is = g.goes_on.same.length_is ∙ len;
          within = (let r = there.room in omega arith);
        };
        viable = there;
      };
      nil = subst (λ l. ExpectsNil T t (z ++ l)) one (g.nil t z h);
    }

begins_clear : {T : Table} {a a' : Next} {A : Type 0} → BeginsAs T a a' → (a ≡ a' → A) → ((t : TypeId) → a ≡ Top t → A)
    → A
begins_clear (as_struct {t = t} i) f g = g t refl
begins_clear (as_tagged {t = t} n) f g = g t refl
begins_clear number_stays f g = f refl
begins_clear raw_stays f g = f refl

-- behind the start of a body, no part is expected without its number
begins_new : {T : Table} {t v : TypeId} {X O : Type 0} (received : X → List Event → Type 0) (run : Run X O) {z : List ℕ}
    → HasReadSoFar T t received run z → run.state.expected ≡ Top v → run.start ≡ run.taken
begins_new received run (nothing_taken n) f = n.start_is ∙ sym n.taken_is
begins_new {T = T} {t = t} received run (taken_so_far r) f =
    absurd (no_top (subst (λ a. AtNext T t run.state.stack a r.before r.under_way r.placed.us) f r.placed.at))

-- a body that begins has no number under way
pub clear_begun : {T : Table} {X O : Type 0} (received : X → List Event → Type 0) (run : Run X O) (state : State X O)
    {o : Option (Run X O)} → Some run ≡ o → IsUsableReader T received o → BeginsAs T run.state.expected state.expected
    → IsClearRun T o → IsClear T (record {
      state = state;
      number = run.number;
      start = run.start;
      taken = run.taken;
      length = run.length;
      depth = run.depth;
    })
clear_begun {T = T} {X = X} {O = O} received run state e h b c u g k =
    begins_clear b (λ f. (subst (IsClearRun T) (sym e) c) u (f ∙ g) k)
    (λ v f. begins_new received run (usable_somewhere e h).after.so_far f)

-- with another length announced
pub announced_anew : {T : Table} {t : TypeId} {X O : Type 0} {received : X → List Event → Type 0} {run : Run X O}
    {z : List ℕ} (n : ℕ) → HasReadSoFar T t received run z
    → HasReadSoFar T t received (record {
      state = run.state;
      number = run.number;
      start = run.start;
      taken = run.taken;
      length = n;
      depth = run.depth;
    }) z
announced_anew n (nothing_taken r) = nothing_taken (record {
  ready = r.ready;
  expected = r.expected;
  stack = r.stack;
  told = r.told;
  number_is = r.number_is;
  start_is = r.start_is;
  taken_is = r.taken_is;
})
announced_anew n (taken_so_far r) = taken_so_far (record {
  ready = r.ready;
  before = r.before;
  under_way = r.under_way;
  placed = r.placed;
  whole = r.whole;
  number_is = r.number_is;
  start_is = r.start_is;
  taken_is = r.taken_is;
  shallow = r.shallow;
  judged = r.judged;
})

pub announced_left : {T : Table} {t : TypeId} {limit : ℕ} (announced : ℕ) {X O : Type 0} {received : X → List Event
    → Type 0} {run : Run X O} {o : Option (Run X O)} {z : List ℕ} (left n : ℕ) → Some run ≡ o
    → ReaderHasRead T t limit announced received o z
    → n ≡ length z + left → RunHasRead T t limit (length z + left) received
    (record {
      state = run.state;
      number = run.number;
      start = run.start;
      taken = run.taken;
      length = n;
      depth =
          run.depth;
    }) z
announced_left {T = T} {t = t} {limit = limit} announced {received = received} {run = run} {z = z} left n e h i =
    let a : RunHasRead T t limit announced received run z = after_is e h in
    record { so_far = announced_anew n a.so_far; depth_is = a.depth_is; length_is = i; within = omega arith }

pub room_announced : {T : Table} (t : TypeId) (limit announced : ℕ) {X O : Type 0} {received : X → List Event → Type 0}
    {run : Run X O} {o : Option (Run X O)} (z : List ℕ) (left n : ℕ) → Some run ≡ o
    → ReaderHasRead T t limit announced received o z → 0 < left
    → n ≡ length z + left → (t' : TypeId) (limit' announced' : ℕ) (z' : List ℕ)
    → RunHasRead T t' limit' announced' received (record {
      state = run.state;
      number = run.number;
      start = run.start;
      taken = run.taken;
      length = n;
      depth = run.depth;
    }) z' → length z' < announced'
room_announced {T = T} t limit announced {received = received} {run = run} z left n e h some i t' limit' announced' z'
    h' =
    let a : RunHasRead T t limit announced received run z = after_is e h in
    let x = taken_is a.so_far in let y = taken_is h'.so_far in let l = h'.length_is in omega arith

pub taken_now : (T : Table) (t : TypeId) (limit announced : ℕ) {X O : Type 0} (received : X → List Event → Type 0)
    (run : Run X O) {o : Option (Run X O)} (z : List ℕ) → Some run ≡ o → ReaderHasRead T t limit announced received o z
    → run.taken ≡ length z
taken_now T t limit announced received run z e h =
    let a : RunHasRead T t limit announced received run z = after_is e h in taken_is a.so_far

-- no lookup is needed where the number of an interface comes next
pub nil_stays : {T : Table} {X O : Type 0} (run : Run X O) → IsAtNil T run
    → BeginsAs T run.state.expected run.state.expected
nil_stays {T = T} run n = subst (λ a. BeginsAs T a a) (sym n.expected) number_stays

pub run_at_nil : {T : Table} {X O : Type 0} (run : Run X O) {o : Option (Run X O)} → Some run ≡ o → IsRunAtNil T o
    → IsAtNil T run
run_at_nil {T = T} run e n = subst (IsRunAtNil T) (sym e) n

pub run_clear : {T : Table} {X O : Type 0} (run : Run X O) {o : Option (Run X O)} → Some run ≡ o → IsClearRun T o
    → IsClear T run
run_clear {T = T} run e c = subst (IsClearRun T) (sym e) c

pub room_left : (T : Table) {X O : Type 0} (received : X → List Event → Type 0) (run : Run X O) {o : Option (Run X O)}
    → Some run ≡ o → IsUsableReader T received o
    → ((t : TypeId) (limit announced : ℕ) (z : List ℕ) → ReaderHasRead T t limit announced received o z
    → length z < announced) → run.taken + 1 ≤ run.length
room_left T received run e h room =
    let s = usable_somewhere e h in
    let l = room s.type s.limit s.announced s.bytes
    (subst (λ o. ReaderHasRead T s.type s.limit s.announced received o s.bytes) e s.after) in
    let n = taken_is s.after.so_far in let m = s.after.length_is in
    omega arith

pub push_complete : {T : Table} {X O : Type 0} {received : X → List Event → Type 0} {mid new : Run X O} {piece : List ℕ}
    {used : ℕ} {builder : X} → IsReachedSomewhere T received mid → RunFinishes T received mid new piece used
    → builder ≡ new.state.builder → IsComplete received builder
push_complete {received = received} s f one = let r = (f.finished s.type s.bytes s.reached).read in
    record { told = r.us; value = r.value; so_far = subst (λ b. received b r.us) (sym one) r.told; tells = r.tells }

pub push_done : {T : Table} {t : TypeId} (limit : ℕ) {announced : ℕ} {X O : Type 0} {received : X → List Event → Type 0}
    {means : O → Tree → Type 0} {run mid new : Run X O} {o ended : Option (Run X O)} {z piece : List ℕ} {count used : ℕ}
    {builder : X} {out : O} → ReadsOn T run mid o piece count
    → RunFinishes T received mid new (take count piece) used → builder ≡ new.state.builder
    → ((us : List Event) (v : Tree) → received builder us → HasEvents v us → means out v) → ended ≡ None
    → ReaderHasRead T t limit announced received o z → EndsBody T t limit announced means ended z piece out used
push_done {T = T} {t = t} limit {announced = announced} {received = received} {run = run} {new = new} {z = z} {piece =
    piece} {count = count} {used = used} p f same m e s =
    let a : RunHasRead T t limit announced received run z = after_is p.was s in
    let h = begun_reached p.begun a.so_far in
    let r = (f.finished t z h).read in
    let one : take used (take count piece) ≡ take used piece = take_fewer piece used count f.within in
    let shallow : IsShallow T t limit (z ++ take used (take count piece)) =
    subst (λ k. IsShallow T t k (z ++ take used (take count piece))) (f.same.depth_is ∙ p.begun.depth_is
    ∙ a.depth_is) (f.finished t z h).shallow in
    record {
      ended = e;
      within = (let w = f.within in omega (arith, take_short piece count));
      made = record {
        value = r.value;
        spelled = subst (λ l. SpellsTop T t r.value (z ++ l)) one r.spelled;
        not_deep = shallow_within r.spelled shallow;
        all = ap (λ l. length (z ++ l)) (sym one) ∙ f.all t z h ∙ p.begun.length_is ∙ a.length_is;
        meant = m r.us r.value (subst (λ b. received b r.us) (sym same) r.told) r.tells;
      };
    }

pub push_stops : (T : Table) {X O : Type 0} (received : X → List Event → Type 0) (run mid : Run X O)
    (o : Option (Run X O)) (piece : List ℕ) (count : ℕ) (stop : Stop) → ReadsOn T run mid o piece count
    → StopsFor (λ refusal. RefusesPiece T received mid (take count piece) refusal) stop
    → Stops o (λ refusal. ReaderRefusesBody T received o piece refusal) stop
push_stops T received run mid o piece count (stops.Refused q s r) p k = record {
  each = λ t limit announced z h.
      let a : RunHasRead T t limit announced received run z = after_is p.was h in
      let n = taken_is a.so_far in let m = a.length_is in
      let room : take count piece ≡ take (announced - length z) piece = ap (λ k. take k piece) p.count_is
      ∙ take_min piece (run.length - run.taken) ∙ ap (λ k. take k piece) (omega arith) in
      same_first (p.begun.depth_is ∙ a.depth_is) (p.begun.length_is ∙ a.length_is) (ap (λ l. z ++ l) room)
      (k.each t z (begun_reached p.begun a.so_far));
}
push_stops T received run mid o piece count stops.Memory p k = k
push_stops T received run mid o piece count stops.Failed p k = absurd k

ready_taken : {T : Table} {t : TypeId} {X O : Type 0} {received : X → List Event → Type 0} {run : Run X O} {z : List ℕ}
    → HasReadSoFar T t received run z → IsReady T t
ready_taken (nothing_taken n) = n.ready
ready_taken (taken_so_far r) = r.ready

stands_ready : {T : Table} {t : TypeId} (limit announced : ℕ) {X O : Type 0} (received : X → List Event → Type 0)
    (run : Option (Run X O)) (z : List ℕ) → ReaderHasRead T t limit announced received run z → IsReady T t
stands_ready limit announced received None z h = absurd h
stands_ready limit announced received (Some run) z h = ready_taken h.so_far

-- what a push refuses is refused honestly
pub stops_honestly : (T : Table) {X O : Type 0} (received : X → List Event → Type 0) (o : Option (Run X O))
    (piece : List ℕ) (stop : Stop)
    → Stops o (λ refusal. ReaderRefusesBody T received o piece refusal) stop
    → Stops o (λ refusal. RefusesHonestly T received o piece refusal) stop
stops_honestly T received o piece (stops.Refused q s r) k =
    record {
      each = λ t limit announced z l h. first_honest l (stands_ready limit announced received o z h)
          (k.each t limit announced z h);
    }
stops_honestly T received o piece stops.Memory k = k
stops_honestly T received o piece stops.Failed k = k
