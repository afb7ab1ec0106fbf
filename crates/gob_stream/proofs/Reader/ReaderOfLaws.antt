-- What a reader has read goes on from call to call, and how it ends, in any grammar of items.
use Rattle.std.proofs.Common.{◌≡◌, ◌≢◌, ℕ, ◌+◌, ◌-◌, ◌<◌, ◌≤◌, arith, List, [], ◌∷◌, ◌++◌, length, take, drop, Option}
use Rattle.std.proofs.Common.{Some, None, Result, Ok, Err, Bool, true, false, ◌∙◌, ap, sym, subst, refl, append_assoc}
use Rattle.std.proofs.Common.{append-nil, inl, inr, length-append, length-take, take-append-drop, is_some, not, IfSome}
use Rattle.std.proofs.Common.{IfErr}
use Rattle.std.proofs.lemmas.List.{length-take-le}
use Rattle.std.specs.Result.{IsErrAnd}
use Rattle.std.specs.Io.KnownBytes.{Consumes, IsAtEnd}
use Rattle.std.proofs.KnownBytes.{Consumes-trans, Consumes-kept}
use Rattle.gob_num.proofs.PublicLaws.{unsigned_length}
use Rattle.gob_types.specs.Defined.{types}
use Rattle.gob_types.specs.Table.{Table}
use Rattle.gob_stream.specs.Bounds.{Bounds}
use Rattle.gob_stream.specs.Calls.ReaderOf.{BringsOnce, EndsWithIn, FillsBy, GivesAllButIn, HasReadBy, KnowsTypesBy}
use Rattle.gob_stream.specs.Calls.ReaderOf.{LacksBy, none_wait, some_wait, PassesBy, PassesOneBy, ReadsOnce, StepsBy}
use Rattle.gob_stream.specs.Calls.ReaderOf.{StepsOnBy, StopsBy, left_to_read, most_ahead, room_in, session_of}
use Rattle.gob_stream.specs.Calls.ReaderOf.{types_behind, waits_in}
use Rattle.gob_stream.specs.Calls.Waiting.{Grows}
use Rattle.gob_stream.specs.Grammar.{GivesIn, RefusesIn, StreamIn}
use Rattle.gob_stream.specs.Honest.{OfRefusal}
use Rattle.gob_stream.specs.Reading.{CountsReads, SomeTaken, Taken}
use Rattle.gob_stream.specs.Stepping.{FinishAnswersBy, GivesAllBy, GivesNoMoreBy, HasBegunNextBy, ReadsItemsBy}
use Rattle.gob_stream.specs.Stepping.{ReadsOnBy, StepAnswersBy, Stepping}
use Rattle.gob_stream.specs.declared.fault.Fault.{Fault}
use Rattle.gob_stream.specs.declared.fault.Fault.TheVariants as fault
use Rattle.gob_stream.specs.declared.reader_of.ReaderOf.{ReaderOf}
use Rattle.gob_stream.specs.declared.session.Advance.{Advance}
use Rattle.gob_stream.specs.declared.values.Passed.{Passed}
use Rattle.gob_stream.specs.declared.whole.Awaited.{Awaited}

-- ---- known bytes
taken_so : (bytes : List ℕ) (now : Option (List ℕ)) (taken : List ℕ) → Consumes (Some bytes) now taken
    → Taken bytes now taken
taken_so bytes None taken c = absurd c
taken_so bytes (Some left) taken c = record { left = left; known = refl; whole = c }

pub taken_known : (read now : Option (List ℕ)) (bytes taken : List ℕ) → read ≡ Some bytes → Consumes read now taken
    → Taken bytes now taken
taken_known read now bytes taken known c = taken_so bytes now taken
    (subst (λ (o : Option (List ℕ)). Consumes o now taken) known c)

none_left : (now : Option (List ℕ)) (left : List ℕ) → now ≡ Some left → IsAtEnd now → left ≡ []
none_left now left e h = subst IsAtEnd e h

pub no_bytes : (z : List ℕ) → length z ≡ 0 → z ≡ []
no_bytes [] l = refl
no_bytes (x ∷ z) l = absurd (omega arith)

-- ---- what is counted
counts_as : (A : Type 0) (old new : ℕ) (e : Fault) → CountsReads {A = Unit {0}} old new (Err e)
    → CountsReads {A = A} old new (Err e)
counts_as A old new (fault.Refused R) h = h
counts_as A old new fault.Read h = h
counts_as A old new fault.Memory h = h
counts_as A old new fault.Failed h = h

-- at the error that a `?` returns
pub counts_at : (A : Type 0) (old mid new : ℕ) (res : Result A Fault) (e : Fault) → IsErrAnd res (λ x. x ≡ e)
    → mid ≡ old
    → CountsReads {A = Unit {0}} mid new (Err e) → CountsReads {A = A} old new res
counts_at A old mid new (Ok a) e is same h = absurd is
counts_at A old mid new (Err f) e is same h =
    subst (λ e. CountsReads {A = A} old new (Err e)) (sym is)
    (counts_as A old new e (subst (λ n. CountsReads {A = Unit {0}} n new (Err e)) same h))

-- where nothing was read
pub counts_nothing : (A : Type 0) (old new : ℕ) (res : Result A Fault) → new ≡ old → IfErr res (λ e. e ≢ fault.Read)
    → CountsReads {A = A} old new res
counts_nothing A old new (Ok a) same other = same
counts_nothing A old new (Err (fault.Refused R)) same other = same
counts_nothing A old new (Err fault.Read) same other = absurd (other refl)
counts_nothing A old new (Err fault.Memory) same other = same
counts_nothing A old new (Err fault.Failed) same other = same

-- ---- what is said of a refusal, whatever a call answers

pub refusal_at : {A : Type 0} (B P : Type 0) (res : Result A Fault) (e : Fault) → IsErrAnd res (λ x. x ≡ e)
    → OfRefusal {A = B} (λ _. P) (Err e) → OfRefusal (λ _. P) res
refusal_at B P (Ok a) e is h = absurd is
refusal_at B P (Err (fault.Refused R)) e is h = subst (λ e. OfRefusal {A = B} (λ _. P) (Err e)) (sym is) h
refusal_at B P (Err fault.Read) e is h = tt
refusal_at B P (Err fault.Memory) e is h = tt
refusal_at B P (Err fault.Failed) e is h = tt

-- a read refuses nothing
pub read_refuses_none : {X I : Type 0} (r r' : ReaderOf X I) (old new : Option (List ℕ)) (P : Type 0) (e : Fault)
    → ReadsOnce r r' old new (Err e) → OfRefusal {A = Unit {0}} (λ _. P) (Err e)
read_refuses_none r r' old new P (fault.Refused R) h = absurd h
read_refuses_none r r' old new P fault.Read h = tt
read_refuses_none r r' old new P fault.Memory h = tt
read_refuses_none r r' old new P fault.Failed h = tt

-- ---- how much is left to read
-- each read brings it nearer to where it stops reading
falls : (ended : Bool) (waits more after : List ℕ) (taken most : ℕ) → after ≡ waits ++ more
    → (ended ≡ false → 0 < length more)
    → (0 < length waits → taken + length waits < most)
    → left_to_read ended after taken most < left_to_read false waits taken most
falls true [] more [] taken most e some h = omega arith
falls true [] more (c ∷ after) taken most e some h = omega arith
falls true (b ∷ waits) more [] taken most e some h = absurd (omega (arith, ap length e, length-append (b ∷ waits) more))
falls true (b ∷ waits) more (c ∷ after) taken most e some h = omega (arith, ap length e, length-append (b ∷ waits) more)
falls false [] more [] taken most e some h = let some = some refl in absurd (omega (arith, ap length e))
falls false [] more (c ∷ after) taken most e some h = omega arith
falls false (b ∷ waits) more [] taken most e some h =
    absurd (omega (arith, ap length e, length-append (b ∷ waits) more))
falls false (b ∷ waits) more (c ∷ after) taken most e some h =
    let some = some refl in
    let few : 0 < length (b ∷ waits) = omega arith in
    let within = h few in
    omega (arith, ap length e, length-append (b ∷ waits) more)

-- no more wait than there is room for
waits_few : {X I : Type 0} (r : ReaderOf X I) → length (waits_in r) ≤ room_in r
waits_few r = let few = length-take (r.waiting.end - r.waiting.start) (drop r.waiting.start r.waiting.room.items) in
    omega (arith, few, r.waiting.in_bounds)

module _ {X I Told : Type 0} (d : Stepping X I Told) where
  lacks_few : {r : ReaderOf X I} → LacksBy d r → 0 < length (waits_in r)
      → d.taken (session_of r) + length (waits_in r) < (d.limits (session_of r)).stream
  lacks_few (none_wait e) some = absurd (omega (arith, some, ap length e))
  lacks_few (some_wait between begun given open_) some = omega (arith, begun.stream, begun.short)

  pub reads_fall : {r r' : ReaderOf X I} {old new : Option (List ℕ)} → session_of r' ≡ session_of r
      → BringsOnce r r' old new → LacksBy d r → r.ended ≡ false
      → left_to_read r'.ended (waits_in r') (d.taken (session_of r')) (d.limits (session_of r')).stream
      < left_to_read r.ended (waits_in r) (d.taken (session_of r)) (d.limits (session_of r)).stream
  reads_fall {r = r} {r' = r'} same b l open_ =
      let S = (d.limits (session_of r)).stream in
      let T = d.taken (session_of r) in
      subst (λ (s : X). left_to_read r'.ended (waits_in r') (d.taken s) (d.limits s).stream
      < left_to_read r.ended (waits_in r) T S) (sym same)
      (subst (λ (e : Bool). left_to_read r'.ended (waits_in r') T S < left_to_read e (waits_in r) T S) (sym open_)
      (falls r'.ended (waits_in r) b.more (waits_in r') T S b.behind b.some (lacks_few l)))

  -- the room doesn't grow beyond what an item wants
  grows_few : {r : ReaderOf X I} {room : ℕ} → LacksBy d r → Grows (room_in r) room (length (waits_in r))
      → room_in r ≤ most_ahead (d.limits (session_of r)) → room ≤ most_ahead (d.limits (session_of r))
  grows_few l (inl less) few = omega (arith, less, few)
  grows_few (none_wait e) (inr more) few = omega (arith, more, ap length e)
  grows_few (some_wait between begun given open_) (inr more) few =
      let head = unsigned_length begun.counts in
      omega (arith, more, begun.short, begun.all, begun.item, head.1)

  -- the room and the limits are as they were
  pub record IsAsWide (r r' : ReaderOf X I) : Type 0 where
    pub ended : r'.ended ≡ r.ended
    pub room : room_in r' ≡ room_in r
    pub limits : d.limits (session_of r') ≡ d.limits (session_of r)

  -- what the item that is awaited says of what waits
  pub lacks_some : (r : ReaderOf X I) (piece : List ℕ) (o : Option Awaited) (none : Bool)
      → is_some o ≡ not none → none ≡ false → IfSome o (λ a. d.between (session_of r))
      → IfSome o (λ a. HasBegunNextBy d (session_of r) a.id a.head a.size piece)
      → IfSome o (λ a. GivesNoMoreBy d (session_of r) piece) → piece ≡ waits_in r → r.ended ≡ false → LacksBy d r
  lacks_some r piece None none e f p q g same open_ = cc
  lacks_some r piece (Some a) none e f p q g same open_ =
      some_wait p (subst (λ (l : List ℕ). HasBegunNextBy d (session_of r) a.id a.head a.size l) same q)
      (subst (λ (l : List ℕ). GivesNoMoreBy d (session_of r) l) same g) open_

  -- ---- what was read

  -- the begin of what was read, of known bytes
  pub read_so : {r : ReaderOf X I} {read now : Option (List ℕ)} {items : List Told} (bytes : List ℕ)
      → (h : HasReadBy d r read now items) → read ≡ Some bytes → Taken bytes now (h.taken ++ waits_in r)
  read_so {r = r} {read = read} {now = now} bytes h known =
      taken_known read now bytes (h.taken ++ waits_in r) known h.input

  -- ---- reading on
  -- it has read so, and these are the types behind the items
  pub record StandsOn (r : ReaderOf X I) (T : Table) (read now : Option (List ℕ)) (items : List Told) : Type 0 where
    pub has : HasReadBy d r read now items
    pub table : types_behind d has ≡ T

  pub stands_so : {r : ReaderOf X I} {read now : Option (List ℕ)} {items : List Told}
      → (h : HasReadBy d r read now items) → StandsOn r (types_behind d h) read now items
  stands_so h = record { has = h; table = refl }

  -- the session by its other name
  record GaveWith (s : X) (items : List Told) (taken : List ℕ) (T : Table) : Type 0 where
    gave : d.read s items taken
    table : d.behind s items taken gave ≡ T

  gave_there : {s s' : X} {items : List Told} {taken : List ℕ} → s' ≡ s → (a : d.read s items taken)
      → GaveWith s' items taken (d.behind s items taken a)
  gave_there {s = s} {items = items} {taken = taken} same a =
      subst (λ (t : X). GaveWith t items taken (d.behind s items taken a)) (sym same)
      (record { gave = a; table = refl })

  pub read_on : {r r' : ReaderOf X I} {T : Table} {read old new : Option (List ℕ)} {items : List Told}
      → session_of r' ≡ session_of r → LacksBy d r → BringsOnce r r' old new → StandsOn r T read old items
      → StandsOn r' T read new items
  read_on {r = r} {r' = r'} {read = read} {old = old} {new = new} same l b h =
      let taken = h.has.taken in
      let g = gave_there same h.has.gave in
      record {
        has = record {
          taken = taken;
          input = subst (λ (l : List ℕ). Consumes read new l)
              (append_assoc taken (waits_in r) b.more ∙ ap (λ (l : List ℕ). taken ++ l) (sym b.behind))
              (Consumes-trans read old new (taken ++ waits_in r) b.more h.has.input b.read);
          gave = g.gave;
          end = b.end;
          room = subst (λ (s : X). room_in r' ≤ most_ahead (d.limits s)) (sym same)
              (grows_few l b.room h.has.room);
        };
        table = g.table ∙ h.table;
      }

  -- ---- the ends
  -- all bytes of the input were taken
  record AreAll (bytes taken : List ℕ) (now : Option (List ℕ)) : Type 0 where
    all : taken ≡ bytes
    end : now ≡ Some []

  all_taken : {r : ReaderOf X I} {read now : Option (List ℕ)} {items : List Told} (bytes : List ℕ)
      → (h : HasReadBy d r read now items) → read ≡ Some bytes → waits_in r ≡ [] → r.ended ≡ true
      → AreAll bytes h.taken now
  all_taken {r = r} {now = now} bytes h known none end =
      let t = read_so bytes h known in
      let left = none_left now t.left t.known (h.end end) in
      record {
        all = sym (t.whole ∙ ap (λ (l : List ℕ). (h.taken ++ waits_in r) ++ l) left
            ∙ append-nil (h.taken ++ waits_in r) ∙ ap (λ (l : List ℕ). h.taken ++ l) none ∙ append-nil h.taken);
        end = t.known ∙ ap Some left;
      }

  -- within an item
  pub ends_within : {r : ReaderOf X I} {read now : Option (List ℕ)} {items : List Told} (s' : X) (e : Fault)
      → (h : HasReadBy d r read now items) → waits_in r ≡ [] → r.ended ≡ true
      → FinishAnswersBy d (types_behind d h) (session_of r) s' items h.taken (Err e)
      → StopsBy d (session_of r) (types_behind d h) read now items e
  ends_within {r = r} {items = items} s' (fault.Refused R) h none end finish = λ bytes known.
      subst (λ (l : List ℕ). RefusesIn d.grammar (d.within (d.limits (session_of r))) (types_behind d h) items l R)
      (all_taken bytes h known none end).all finish.0
  ends_within s' fault.Read h none end finish = absurd finish
  ends_within s' fault.Memory h none end finish = absurd finish
  ends_within s' fault.Failed h none end finish = absurd finish

  -- where nothing waits, what leads there is all that was taken
  pub end_knows : {r : ReaderOf X I} {read now : Option (List ℕ)} {items : List Told} (s' : X) (e : Fault)
      → (h : HasReadBy d r read now items) → waits_in r ≡ []
      → FinishAnswersBy d (types_behind d h) (session_of r) s' items h.taken (Err e)
      → OfRefusal {A = Unit {0}} (λ _. KnowsTypesBy d (d.limits (session_of r)) read now items (types (d.table s')))
      (Err e)
  end_knows {now = now} s' (fault.Refused R) h none f = λ bytes known. record {
    bytes = h.taken;
    taken = subst (λ (l : List ℕ). Taken bytes now l) (ap (λ (l : List ℕ). h.taken ++ l) none ∙ append-nil h.taken)
        (read_so bytes h known);
    holds = f.1;
  }
  end_knows s' fault.Read h none f = tt
  end_knows s' fault.Memory h none f = tt
  end_knows s' fault.Failed h none f = tt

  -- behind a step
  pub step_knows : {r : ReaderOf X I} {read now : Option (List ℕ)} {items : List Told} (s' : X) (e : Fault)
      → (h : HasReadBy d r read now items)
      → StepAnswersBy d (types_behind d h) (session_of r) s' items h.taken (waits_in r) (Err e)
      → OfRefusal {A = Unit {0}} (λ _. KnowsTypesBy d (d.limits (session_of r)) read now items (types (d.table s')))
      (Err e)
  step_knows {r = r} s' (fault.Refused R) h f = λ bytes known.
      record { bytes = h.taken ++ waits_in r; taken = read_so bytes h known; holds = f.1 }
  step_knows s' fault.Read h f = tt
  step_knows s' fault.Memory h f = tt
  step_knows s' fault.Failed h f = tt

  -- the session is as it was before the reads
  pub knows_so : (s s' : X) (read now : Option (List ℕ)) (items : List Told) (U : Table) (res : Result Bool Fault)
      → s' ≡ s → OfRefusal (λ _. KnowsTypesBy d (d.limits s') read now items U) res
      → OfRefusal (λ _. KnowsTypesBy d (d.limits s) read now items U) res
  knows_so s s' read now items U res same h =
      subst (λ (s : X). OfRefusal (λ _. KnowsTypesBy d (d.limits s) read now items U) res) same h

  -- ---- taking what waits
  pub takes_on : {r r' : ReaderOf X I} {read now : Option (List ℕ)} {items all : List Told} (used : ℕ)
      (h : HasReadBy d r read now items) → waits_in r' ≡ drop used (waits_in r) → IsAsWide r r'
      → d.read (session_of r') all (h.taken ++ take used (waits_in r)) → HasReadBy d r' read now all
  takes_on {r = r} {r' = r'} {read = read} {now = now} used h left same a = record {
    taken = h.taken ++ take used (waits_in r);
    input = subst (λ (l : List ℕ). Consumes read now l)
        (ap (λ (l : List ℕ). h.taken ++ l) (sym (take-append-drop used (waits_in r))
        ∙ ap (λ (l : List ℕ). take used (waits_in r) ++ l) (sym left))
        ∙ sym (append_assoc h.taken (take used (waits_in r)) (waits_in r')))
        h.input;
    gave = a;
    end = λ e. h.end (sym same.ended ∙ e);
    room = omega (arith, h.room, same.room, ap (λ (L : Bounds). L.item) same.limits);
  }

  -- ---- at the error that a `?` returns
  pub steps_at : (r : ReaderOf X I) (T : Table) (r' : ReaderOf X I) (read now : Option (List ℕ)) (items : List Told)
      (res : Result (Advance I) Fault) (e : Fault) → IsErrAnd res (λ x. x ≡ e)
      → StopsBy d (session_of r) T read now items e → StepsBy d r T r' read now items res
  steps_at r T r' read now items (Ok step) e is h = absurd is
  steps_at r T r' read now items (Err f) e is h =
      subst (λ e. StopsBy d (session_of r) T read now items e) (sym is) h

  pub fills_at : (s : X) (T : Table) (r' : ReaderOf X I) (read now : Option (List ℕ)) (items : List Told)
      (res : Result Bool Fault) (e : Fault) → IsErrAnd res (λ x. x ≡ e) → StopsBy d s T read now items e
      → FillsBy d s T r' read now items res
  fills_at s T r' read now items (Ok more) e is h = absurd is
  fills_at s T r' read now items (Err f) e is h = subst (λ e. StopsBy d s T read now items e) (sym is) h

  -- the session is as it was before the reads
  pub fills_from : {T : Table} (s : X) (q r' : ReaderOf X I) (read now : Option (List ℕ)) (items : List Told)
      (res : Result Bool Fault) → session_of q ≡ s → (h : StandsOn q T read now items)
      → FillsBy d (session_of q) (types_behind d h.has) r' read now items res → FillsBy d s T r' read now items res
  fills_from {T = T} s q r' read now items res same h f =
      subst (λ (s : X). FillsBy d s T r' read now items res) same
      (subst (λ (T : Table). FillsBy d (session_of q) T r' read now items res) h.table f)

  -- ---- what a read that answers so has done
  pub goes_on : (s : X) (T : Table) (r' : ReaderOf X I) (read now : Option (List ℕ)) (items : List Told)
      (more : Bool) → more ≡ true → FillsBy d s T r' read now items (Ok more)
      → HasReadBy d r' read now items × (d.taken (session_of r') ≡ d.taken s)
      × (types (d.table (session_of r')) ≡ types (d.table s))
  goes_on s T r' read now items true e f = f
  goes_on s T r' read now items false e f = cc

  pub has_ended : (s : X) (T : Table) (r' : ReaderOf X I) (read now : Option (List ℕ)) (items : List Told)
      (more : Bool) → more ≡ false → FillsBy d s T r' read now items (Ok more)
      → ((bytes : List ℕ) → read ≡ Some bytes
      → EndsWithIn d.grammar (d.within (d.limits s)) (types (d.table s)) (d.taken s) items bytes now)
      × (types (d.table (session_of r')) ≡ types (d.table s))
  has_ended s T r' read now items true e f = cc
  has_ended s T r' read now items false e f = f

  -- a step
  pub steps_on : {r r' : ReaderOf X I} {read now : Option (List ℕ)} {items : List Told} (T : Table) (step : Advance I)
      → (h : HasReadBy d r read now items) → waits_in r' ≡ drop step.used (waits_in r) → IsAsWide r r'
      → StepAnswersBy d T (session_of r) (session_of r') items h.taken (waits_in r) (Ok step)
      → StepsOnBy d r r' read now items step
  steps_on T step h left same a = record {
    more = a.more;
    gives = a.gives;
    takes = record { after = takes_on step.used h left same a.after; onward = a.onward };
  }

  -- past one item
  pub passes_one : {r r' : ReaderOf X I} (used : ℕ) → used ≤ length (waits_in r)
      → waits_in r' ≡ drop used (waits_in r) → IsAsWide r r'
      → d.taken (session_of r') ≡ d.taken (session_of r) + length (take used (waits_in r))
      → ReadsOnBy d (session_of r) (session_of r') (take used (waits_in r)) → PassesOneBy d r r' used
  passes_one {r = r} used within left same taken on = λ read now items i h there. record {
    after = takes_on used h left same (on items h.taken i h.gave there);
    onward = omega (arith, taken, length-take-le used (waits_in r) within);
  }

  -- past items of values that stand whole
  pub passes_from : {r r' : ReaderOf X I} (passed : Passed)
      → ReadsItemsBy d (session_of r) (session_of r') passed.items passed.used (waits_in r)
      → waits_in r' ≡ drop passed.used (waits_in r) → IsAsWide r r'
      → d.taken (session_of r') ≡ d.taken (session_of r) + passed.used → PassesBy d r r' passed
  passes_from passed p left same taken = record {
    more = p.given;
    counted = p.counted;
    none = p.none;
    each = λ read now items h. record {
      after = takes_on passed.used h left same (p.passed items h.taken h.gave);
      onward = taken;
    };
  }

  -- between two items
  pub ends_whole : {r : ReaderOf X I} {read now : Option (List ℕ)} {items : List Told} (s' : X) (u : Unit {0})
      → (h : HasReadBy d r read now items) → waits_in r ≡ [] → r.ended ≡ true
      → FinishAnswersBy d (types_behind d h) (session_of r) s' items h.taken (Ok u) → (bytes : List ℕ)
      → read ≡ Some bytes
      → EndsWithIn d.grammar (d.within (d.limits (session_of r))) (types (d.table (session_of r)))
      (d.taken (session_of r)) items bytes now
  ends_whole {r = r} {items = items} s' u h none end finish bytes known =
      let a = all_taken bytes h known none end in
      let s = session_of r in
      record {
        stream = subst (λ (l : List ℕ). StreamIn d.grammar (d.within (d.limits s)) items l (types (d.table s))) a.all
            finish.0;
        count = finish.1 ∙ ap length a.all;
        end = a.end;
      }

  -- ---- why no more items come
  -- all of what was read but what waits was taken
  pub ahead_in : {items : List Told} (r : ReaderOf X I) (read now : Option (List ℕ)) (T : Table)
      (bytes taken : List ℕ) → Consumes read now (taken ++ waits_in r)
      → GivesIn d.grammar (d.within (d.limits (session_of r))) T items taken
      → room_in r ≤ most_ahead (d.limits (session_of r)) → read ≡ Some bytes
      → SomeTaken bytes now (GivesAllButIn d.grammar (d.within (d.limits (session_of r))) T items)
  ahead_in r read now T bytes taken input gives room known =
      let few = waits_few r in
      record {
        bytes = taken ++ waits_in r;
        taken = taken_known read now bytes (taken ++ waits_in r) known input;
        holds = record {
          prefix = taken;
          rest = waits_in r;
          whole = refl;
          few = omega (arith, few, room, d.keeps (d.limits (session_of r)));
          gives = gives;
        };
      }

  pub step_stops : {r : ReaderOf X I} {read now : Option (List ℕ)} {items : List Told} (s' : X) (e : Fault)
      → (h : HasReadBy d r read now items)
      → StepAnswersBy d (types_behind d h) (session_of r) s' items h.taken (waits_in r) (Err e)
      → StopsBy d (session_of r) (types_behind d h) read now items e
  step_stops {r = r} {items = items} s' (fault.Refused R) h f = λ bytes known.
      let t = read_so bytes h known in
      subst (λ (l : List ℕ). RefusesIn d.grammar (d.within (d.limits (session_of r))) (types_behind d h) items l R)
      (sym t.whole) (f.0 t.left)
  step_stops s' fault.Read h f = absurd f
  step_stops {r = r} {read = read} {now = now} s' fault.Memory h f = λ bytes known.
      ahead_in r read now (types_behind d h) bytes h.taken h.input f h.room known
  step_stops s' fault.Failed h f = absurd f

  -- what waits and isn't whole gives no item
  lacks_gives : {r : ReaderOf X I} {items : List Told} {taken : List ℕ} → LacksBy d r → GivesAllBy d (session_of r)
      → (a : d.read (session_of r) items taken)
      → GivesIn d.grammar (d.within (d.limits (session_of r))) (d.behind (session_of r) items taken a) items
      (taken ++ waits_in r)
  lacks_gives {r = r} {items = items} {taken = taken} (none_wait e) g a =
      subst (λ (l : List ℕ). GivesIn d.grammar (d.within (d.limits (session_of r)))
      (d.behind (session_of r) items taken a) items l)
      (sym (append-nil taken) ∙ ap (λ (l : List ℕ). taken ++ l) (sym e)) (g items taken a)
  lacks_gives {items = items} {taken = taken} (some_wait between begun given open_) g a = given items taken a

  -- a read failed, or no memory was had for it
  stops_there : {r : ReaderOf X I} {read old : Option (List ℕ)} {items : List Told} (r' : ReaderOf X I)
      (new : Option (List ℕ)) (e : Fault) → LacksBy d r → GivesAllBy d (session_of r) → ReadsOnce r r' old new (Err e)
      → (h : HasReadBy d r read old items) → StopsBy d (session_of r) (types_behind d h) read new items e
  stops_there r' new (fault.Refused R) l g o h = absurd o
  stops_there {r = r} {read = read} {old = old} r' new fault.Read l g o h = λ bytes known. record {
    bytes = h.taken ++ waits_in r;
    taken = taken_known read new bytes (h.taken ++ waits_in r) known
        (Consumes-kept read old new (h.taken ++ waits_in r) h.input o.1);
    holds = lacks_gives l g h.gave;
  }
  stops_there {r = r} {read = read} {old = old} {items = items} r' new fault.Memory l g o h = λ bytes known.
      ahead_in r read new (types_behind d h) bytes h.taken
      (Consumes-kept read old new (h.taken ++ waits_in r) h.input o.1) (g items h.taken h.gave) h.room known
  stops_there r' new fault.Failed l g o h = absurd o

  pub read_stops : {r : ReaderOf X I} {T : Table} {read old : Option (List ℕ)} {items : List Told} (s : X)
      (r' : ReaderOf X I) (new : Option (List ℕ)) (e : Fault) → session_of r ≡ s → LacksBy d r
      → GivesAllBy d (session_of r) → ReadsOnce r r' old new (Err e) → StandsOn r T read old items
      → StopsBy d s T read new items e
  read_stops {r = r} {T = T} {read = read} {items = items} s r' new e same l g o h =
      subst (λ (s : X). StopsBy d s T read new items e) same
      (subst (λ (T : Table). StopsBy d (session_of r) T read new items e) h.table (stops_there r' new e l g o h.has))
