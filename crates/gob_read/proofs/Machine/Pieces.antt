-- What a reader has come to within a piece, item by item.
use Rattle.std.proofs.Common.{◌≡◌, ℕ, zero, suc, ◌+◌, ◌-◌, ◌≤◌, List, [], ◌∷◌, ◌++◌, length, take, drop, arith, refl}
use Rattle.std.proofs.Common.{sym, ap, ◌∙◌, subst, append_assoc, length-append, length-drop, zero-add, suc-add}
use Rattle.std.specs.Prelude.{Result, Ok, Err, IsErrAnd}
use Rattle.gob_types.specs.declared.id.TypeId.{TypeId}
use Rattle.gob_types.specs.Table.{Table}
use Rattle.gob_read.specs.Viable.{IsViable}
use Rattle.gob_read.specs.Event.{Event}
use Rattle.gob_read.specs.Machine.Running.{PieceAnswers, IsReached, IsReachedSomewhere, IsOpenSomewhere, IsFinished}
use Rattle.gob_read.specs.Machine.Running.{IsStepped, TakesMore, TakesSome, StopsFor, RefusesAt, MayGoOn, JudgesFor}
use Rattle.gob_read.specs.Machine.Running.{EndsFor, RunFinishes, RunAdvances, RefusesPiece}
use Rattle.gob_read.specs.declared.stop.Stop.{Stop}
use Rattle.gob_read.specs.declared.stop.Stop.TheVariants as stops
use Rattle.gob_read.specs.declared.next.Moved.TheVariants.{ToNext, PastValue}
use Rattle.gob_read.specs.declared.run.Run.{Run}
use Rattle.gob_read.specs.declared.run.Advance.{Advance}
use Rattle.gob_read.proofs.Grammar.Prefixes.{append_nil}
use Rattle.gob_read.proofs.Machine.Runs.{reached_stood, same_first, take_and_drop}

take_none : (n : ℕ) → take {A = ℕ} n [] ≡ []
take_none zero = refl
take_none (suc n) = refl

pub take_further : (xs : List ℕ) (used count : ℕ) → take (used + count) xs ≡ take used xs ++ take count (drop used xs)
take_further xs zero count = ap (λ n. take n xs) (zero-add count)
take_further [] (suc used) count = rw suc-add (sym (take_none count))
take_further (x ∷ xs) (suc used) count = rw suc-add (ap (λ l. x ∷ l) (take_further xs used count))

pub take_all : (xs : List ℕ) (n : ℕ) → length xs ≤ n → take n xs ≡ xs
take_all [] zero l = refl
take_all [] (suc n) l = refl
take_all (x ∷ xs) zero l = absurd (omega arith)
take_all (x ∷ xs) (suc n) l = ap (λ l. x ∷ l) (take_all xs n (omega arith))

-- the slice from there on is the rest
pub slice_rest : (piece : List ℕ) (used : ℕ) → take (length piece - used) (drop used piece) ≡ drop used piece
slice_rest piece used = take_all (drop used piece) (length piece - used) (omega (arith, length-drop used piece))

-- what was read so far, with more of the piece
further_read : (z piece : List ℕ) (used count : ℕ) → (z ++ take used piece)
    ++ take count (take (length piece - used) (drop used piece)) ≡ z ++ take (used + count) piece
further_read z piece used count =
    ap (λ l. (z ++ take used piece) ++ take count l) (slice_rest piece used)
    ∙ append_assoc z (take used piece) (take count (drop used piece))
    ∙ ap (λ l. z ++ l) (sym (take_further piece used count))

all_read : (z piece : List ℕ) (used : ℕ) → (z ++ take used piece) ++ drop used piece ≡ z ++ piece
all_read z piece used = append_assoc z (take used piece) (drop used piece) ∙ ap (λ l. z ++ l) (take_and_drop piece used)

-- wherever the reader stood, so many bytes of the piece were taken, of so many items at least
pub record HasCome (T : Table) {X O : Type 0} (received : X → List Event → Type 0) (old new : Run X O) (piece : List ℕ)
    (used count : ℕ) : Type 0 where
  pub within : used ≤ length piece
  pub more : TakesMore old new used
  pub onward : count ≤ used
  pub reached : (t : TypeId) (z : List ℕ) → IsReached T t received old z
      → IsReached T t received new (z ++ take used piece)

pub come_start : {T : Table} {X O : Type 0} {received : X → List Event → Type 0} {run : Run X O} (piece : List ℕ)
    → HasCome T received run run piece 0 0
come_start {T = T} {received = received} {run = run} piece = record {
  within = omega arith;
  more = record { taken = omega arith; length_is = refl; depth_is = refl };
  onward = omega arith;
  reached = λ t z h. subst (IsReached T t received run) (sym (append_nil z)) h;
}

pub come_on : {T : Table} {X O : Type 0} {received : X → List Event → Type 0} {old mid new : Run X O} {piece : List ℕ}
    {used count : ℕ} {step : Advance} → HasCome T received old mid piece used count → MayGoOn T received mid
    → TakesSome T received mid new (take (length piece - used) (drop used piece)) step → step.moved ≡ ToNext
    → HasCome T received old new piece (used + step.used) (count + 1)
come_on {T = T} {received = received} {old = old} {new = new} {piece = piece} {used = used} {step = step} h o s e =
    let w = h.within in let n = s.takes.few in let j = s.some in let i = h.onward in
    let m = s.takes.more in let a = h.more.taken in let b = m.taken in
    record {
      within = omega (arith, ap length (slice_rest piece used), length-drop used piece);
      more = record {
        taken = omega arith;
        length_is = m.length_is ∙ h.more.length_is;
        depth_is = m.depth_is
            ∙ h.more.depth_is;
      };
      onward = omega arith;
      reached = λ t z k. subst (λ z. IsStepped T t received new z ToNext) (further_read z piece used step.used)
          (subst (IsStepped T t received new ((z ++ take used piece)
          ++ take step.used (take (length piece - used) (drop used piece)))) e
          (s.takes.steps.each t (z ++ take used piece) (o.each t (z ++ take used piece) (h.reached t z k))));
    }

-- the value is whole behind the step
pub record HasEnded (T : Table) {X O : Type 0} (received : X → List Event → Type 0) (old new : Run X O) (piece : List ℕ)
    (used : ℕ) : Type 0 where
  pub within : used ≤ length piece
  pub more : TakesMore old new used
  pub finished : (t : TypeId) (z : List ℕ) → IsReached T t received old z
      → IsFinished T t received new (z ++ take used piece)

pub come_end : {T : Table} {X O : Type 0} {received : X → List Event → Type 0} {old mid new : Run X O} {piece : List ℕ}
    {used count : ℕ} {step : Advance} → HasCome T received old mid piece used count → MayGoOn T received mid
    → TakesSome T received mid new (take (length piece - used) (drop used piece)) step → step.moved ≡ PastValue
    → HasEnded T received old new piece (used + step.used)
come_end {T = T} {received = received} {old = old} {new = new} {piece = piece} {used = used} {step = step} h o s e =
    let w = h.within in let n = s.takes.few in
    let m = s.takes.more in let a = h.more.taken in let b = m.taken in
    record {
      within = omega (arith, ap length (slice_rest piece used), length-drop used piece);
      more = record {
        taken = omega arith;
        length_is = m.length_is ∙ h.more.length_is;
        depth_is = m.depth_is
            ∙ h.more.depth_is;
      };
      finished = λ t z k. subst (λ z. IsStepped T t received new z PastValue) (further_read z piece used step.used)
          (subst (IsStepped T t received new ((z ++ take used piece)
          ++ take step.used (take (length piece - used) (drop used piece)))) e
          (s.takes.steps.each t (z ++ take used piece) (o.each t (z ++ take used piece) (h.reached t z k))));
    }

-- more may be taken there
pub come_open : {T : Table} {X O : Type 0} {received : X → List Event → Type 0} {old mid : Run X O} {piece : List ℕ}
    {used count : ℕ} → IsReachedSomewhere T received old → HasCome T received old mid piece used count
    → MayGoOn T received mid → IsOpenSomewhere T received mid
come_open w h o = record { type = w.type; bytes = _; open_ = o.each w.type _ (h.reached w.type w.bytes w.reached) }

-- the whole piece was taken
pub come_all : {T : Table} {X O : Type 0} {received : X → List Event → Type 0} {old new : Run X O} {piece : List ℕ}
    {used count : ℕ} → HasCome T received old new piece used count → MayGoOn T received new → length piece ≤ used
    → RunAdvances T received old new piece ToNext used
come_all {T = T} {received = received} {old = old} {new = new} {piece = piece} {used = used} h o l = (
  let w = h.within in omega arith,
  record {
    same = record { length_is = h.more.length_is; depth_is = h.more.depth_is };
    reached = reached;
    viable =
        viable;
  },
)
  where
    reached : (t : TypeId) (z : List ℕ) → IsReached T t received old z → IsReached T t received new (z ++ piece)
    reached t z k = subst (λ l. IsReached T t received new (z ++ l)) (take_all piece used l) (h.reached t z k)

    viable : (t : TypeId) (z : List ℕ) → IsReached T t received old z → IsViable T t old.depth old.length (z ++ piece)
    viable t z k =
        let i = o.each t (z ++ piece) (reached t z k) in
        subst (λ d. IsViable T t d old.length (z ++ piece)) h.more.depth_is
        (subst (λ n. IsViable T t new.depth n (z ++ piece)) h.more.length_is
        (reached_stood i.reached i.not_deep i.room))

pub ended_all : {T : Table} {X O : Type 0} {received : X → List Event → Type 0} {old new : Run X O} {piece : List ℕ}
    {used : ℕ} → HasEnded T received old new piece used → new.taken ≡ new.length
    → RunFinishes T received old new piece used
ended_all h e = record {
  same = record { length_is = h.more.length_is; depth_is = h.more.depth_is };
  within = h.within;
  finished = h.finished;
  all = λ t z k. sym (h.finished t z k).taken_is ∙ e ∙ h.more.length_is;
}

-- what is refused behind so much of the piece is refused of the piece
pub judge_stops : (T : Table) {X O : Type 0} (received : X → List Event → Type 0) (old new : Run X O) {piece : List ℕ}
    {used count : ℕ} (stop : Stop) → HasCome T received old new piece used count → old.taken + length piece ≤ old.length
    → StopsFor (λ refusal. (T : Table) → JudgesFor T received new refusal) stop
    → StopsFor (λ refusal. RefusesPiece T received old piece refusal) stop
judge_stops T received old new {piece = piece} {used = used} (stops.Refused p s r) h l k = record {
  each = λ t z i.
      same_first h.more.depth_is h.more.length_is (all_read z piece used)
      ((k T).each t (z ++ take used piece) (drop used piece) (h.reached t z i)
      (let e = ap length (all_read z piece used) in let m = i.taken_is in let n = h.more.length_is in
      omega (arith, length-append z piece)));
}
judge_stops T received old new stops.Memory h l k = k
judge_stops T received old new stops.Failed h l k = k

pub step_stops : (T : Table) {X O : Type 0} (received : X → List Event → Type 0) (old mid : Run X O) {piece : List ℕ}
    {used count : ℕ} (stop : Stop) → HasCome T received old mid piece used count → MayGoOn T received mid
    → StopsFor (λ refusal. RefusesAt T received mid (take (length piece - used) (drop used piece)) refusal) stop
    → StopsFor (λ refusal. RefusesPiece T received old piece refusal) stop
step_stops T received old mid {piece = piece} {used = used} (stops.Refused p s r) h o k = record {
  each = λ t z i.
      same_first h.more.depth_is h.more.length_is (ap (λ l. (z ++ take used piece)
      ++ l) (append_nil (take (length piece - used) (drop used piece)) ∙ slice_rest piece used)
      ∙ all_read z piece used)
      (k.each t (z ++ take used piece) [] (o.each t (z ++ take used piece) (h.reached t z i)));
}
step_stops T received old mid stops.Memory h o k = k
step_stops T received old mid stops.Failed h o k = k

pub end_stops : (T : Table) {X O : Type 0} (received : X → List Event → Type 0) (old new : Run X O) {piece : List ℕ}
    {used : ℕ} (stop : Stop) → HasEnded T received old new piece used
    → StopsFor (λ refusal. EndsFor received new refusal) stop
    → StopsFor (λ refusal. RefusesPiece T received old piece refusal) stop
end_stops T received old new {piece = piece} {used = used} (stops.Refused p s r) h k = record {
  each = λ t z i.
      same_first h.more.depth_is h.more.length_is (all_read z piece used)
      (k.each T t (z ++ take used piece) (drop used piece) (h.finished t z i));
}
end_stops T received old new stops.Memory h k = k
end_stops T received old new stops.Failed h k = k

-- the stop that a `?` returns is the callee's
pub stop_passed : (T : Table) {X O : Type 0} (received : X → List Event → Type 0) (old new : Run X O) (piece : List ℕ)
    (stop : Stop) (r : Result Advance Stop) → IsErrAnd r (λ y. y ≡ stop)
    → StopsFor (λ refusal. RefusesPiece T received old piece refusal) stop
    → PieceAnswers T received old new piece r
stop_passed T received old new piece stop (Ok a) is k = absurd is
stop_passed T received old new piece stop (Err y) is k =
    subst (StopsFor (λ refusal. RefusesPiece T received old piece refusal)) (sym is) k
