-- A reader that stops before the numbers of interfaces.
use Rattle.std.proofs.Common.{◌≡◌, ◌≢◌, ℕ, ◌+◌, ◌<◌, inl, inr, List, [], ◌∷◌, ◌++◌, length, take, Result, Ok, Err}
use Rattle.std.proofs.Common.{arith, refl, sym, ap, ◌∙◌, subst, append_assoc, length-append}
use Rattle.std.specs.Prelude.{IfOk, IfErr, IsErrAnd}
use Rattle.gob_num.proofs.PublicLaws.{append_split, begins_prefix}
use Rattle.gob_types.specs.declared.id.TypeId.{TypeId}
use Rattle.gob_types.specs.declared.basic.Basic.TheVariants as basic
use Rattle.gob_types.specs.declared.kind.Kind.{Kind}
use Rattle.gob_types.specs.declared.kind.Kind.TheVariants as kind
use Rattle.gob_types.specs.declared.reason.Reason.TheVariants as reason
use Rattle.gob_types.specs.Table.{Table}
use Rattle.gob_types.specs.Ready.{IsReady}
use Rattle.gob_read.specs.Expected.{Allowed, any, tag, truth_value, array_count, delta, nil, a_number, raw, reason_of}
use Rattle.gob_read.specs.Expected.{Expected, first_allowed, within_number}
use Rattle.gob_read.specs.Expects.{ExpectsTop, second}
use Rattle.gob_read.specs.Expects as expects
use Rattle.gob_read.specs.Viable.{IsViable}
use Rattle.gob_read.specs.Refusal.{Refusal, Refused, extra, too_deep, short_of, bad_head_at, not_minimal_at}
use Rattle.gob_read.specs.Refusal.{not_allowed}
use Rattle.gob_read.specs.Event.{Event}
use Rattle.gob_read.specs.Machine.Kinds.{HasKind}
use Rattle.gob_read.specs.Machine.OpenPath.{OpenPath, AtNext, at_tag, at_part, at_second, at_delta}
use Rattle.gob_read.specs.Machine.Steps.{TakesRaw}
use Rattle.gob_read.specs.Machine.Running.{IsReached, IsOpenSomewhere, IsBeforeIn, StopsFor, RefusesAt, RefusesPiece}
use Rattle.gob_read.specs.Machine.Running.{RestAnswers, MayGoOn}
use Rattle.gob_read.specs.Machine.Running.{IsUnderWayAt, depth_of}
use Rattle.gob_read.specs.Calls.Reader.{HasReadSoFar, nothing_taken, taken_so_far}
use Rattle.gob_read.specs.Machine.Nil.{IsAtNil, IsNotAtNil, IsClear, StepsClear, StopsHere, IsNoInterface, ExpectsNil}
use Rattle.gob_read.specs.Machine.Nil.{ComesToNil, NilAnswers}
use Rattle.gob_read.specs.declared.to_nil.Came.{Came}
use Rattle.gob_read.specs.declared.frame.Frame.{Frame}
use Rattle.gob_read.specs.declared.next.Next.{Next}
use Rattle.gob_read.specs.declared.next.Next.TheVariants.{Top, Number, Raw}
use Rattle.gob_read.specs.declared.next.NextNumber.TheVariants.{Tag, Part, Second, Delta}
use Rattle.gob_read.specs.declared.next.Moved.{Moved}
use Rattle.gob_read.specs.declared.run.Run.{Run}
use Rattle.gob_read.specs.declared.run.Advance.{Advance}
use Rattle.gob_read.specs.declared.state.State.{State}
use Rattle.gob_read.specs.declared.stop.Stop.{Stop}
use Rattle.gob_read.specs.declared.stop.Stop.TheVariants as stops
use Rattle.gob_read.proofs.Grammar.Compare.{expects_once, unmet_once, met_some}
use Rattle.gob_read.proofs.Grammar.Firsts.{ends_not_met}
use Rattle.gob_read.proofs.Grammar.Prefixes.{append_nil}
use Rattle.gob_read.proofs.Machine.Places.{raw_expects, no_top, part_expects, part_defined, expected_in, within_inside}
use Rattle.gob_read.proofs.Machine.Places.{delta_expects}
use Rattle.gob_read.proofs.Machine.Runs.{reached_stood}
use Rattle.gob_read.proofs.Machine.Pieces.{HasCome}

pub if_ok : {A E : Type 0} {P Q : A → Type 0} (r : Result A E) → ((x : A) → P x → Q x) → IfOk r P → IfOk r Q
if_ok (Ok x) f p = f x p
if_ok (Err e) f p = tt

raw_no_part : {left : ℕ} {u : TypeId} {A : Type 0} → Raw left ≡ Number (Part u) → A
raw_no_part e = cc

-- raw bytes go on
pub raw_clear : {X O : Type 0} {received : X → List Event → Type 0} {run : Run X O} {new : State X O} {left : ℕ}
    {rest bytes : List ℕ} {moved : Moved} {A : Type 0} (u : TypeId)
    → IsBeforeIn received run (Raw left) rest → length bytes < left → TakesRaw received run.state new left bytes moved
    → new.expected ≡ Number (Part u) → A
raw_clear u b l k e =
    let r = b.before.has_read.open_.reached in
    let s = k.other b.table b.before.has_read.type r.before r.under_way r.placed l in raw_no_part (sym s.expected ∙ e)

-- what was no interface's number is none's behind a step
pub number_clear : {T : Table} {X O : Type 0} (old new : Run X O) → IsNotAtNil T old → StepsClear old new
    → IsClear T new
number_clear old new n (inl s) u e k = s
number_clear old new n (inr s) u e k = absurd (n u (sym s ∙ e) k)

-- an allowed number that is refused as an interface's is one
is_nil : (a : Allowed) → reason_of a ≡ reason.InterfaceValue → a ≡ nil
is_nil any e = cc
is_nil tag e = cc
is_nil truth_value e = cc
is_nil (array_count n) e = cc
is_nil (delta n) e = cc
is_nil nil e = refl

of_nil : (k : Kind) → first_allowed k ≡ nil → k ≡ kind.Basic basic.Interface
of_nil (kind.Basic basic.Bool) e = cc
of_nil (kind.Basic basic.Int) e = cc
of_nil (kind.Basic basic.Uint) e = cc
of_nil (kind.Basic basic.Float) e = cc
of_nil (kind.Basic basic.Bytes) e = cc
of_nil (kind.Basic basic.Str) e = cc
of_nil (kind.Basic basic.Complex) e = cc
of_nil (kind.Basic basic.Interface) e = refl
of_nil (kind.Array e' n) e = cc
of_nil (kind.Slice e') e = cc
of_nil (kind.Struct fs) e = cc
of_nil (kind.Map k e') e = cc
of_nil (kind.Opaque m) e = cc

number_is : {a b : Allowed} → a_number a ≡ a_number b → a ≡ b
number_is e = cc

-- where nil is expected, an interface's number is
nil_item : {T : Table} {t : TypeId} {fs : List Frame} {p r : List ℕ} {us : List Event} {d : ℕ} (a : Next) → IsReady T t
    → AtNext T t fs a p r us → ExpectsTop T t p (a_number nil) d
    → (u : TypeId) × (a ≡ Number (Part u)) × HasKind T u (kind.Basic basic.Interface)
nil_item (Top u) d a x = absurd (no_top a)
nil_item (Raw left) d a x = absurd (let w = raw_expects a in no_number (expects_once w.expects x).0)
  where
    no_number : {n : ℕ} {b : Allowed} → raw n ≡ a_number b → ⊥
    no_number e = cc
nil_item (Number (Tag u)) d (at_tag e n) x = absurd (none (expects_once (expects.at_tag e n) x).0)
  where
    none : a_number tag ≡ a_number nil → ⊥
    none e = cc
nil_item (Number (Part u)) d (at_part w) x =
    let k = part_defined d w in (
      u,
      refl,
      record {
        shape = k.0;
        there = k.1;
        kind = of_nil k.0.kind
            (number_is (expects_once (part_expects w (record { shape = k.0; there = k.1; kind = refl })) x).0);
      },
    )
nil_item (Number (Second q)) d (at_second w h n) x = absurd (none
    (expects_once (expected_in (within_inside w) h (second n)) x).0)
  where
    none : a_number any ≡ a_number nil → ⊥
    none e = cc
nil_item (Number Delta) d (at_delta o l) x = absurd (none (expects_once (delta_expects o l) x).0)
  where
    none : {n : ℕ} → a_number (delta n) ≡ a_number nil → ⊥
    none e = cc

-- a refusal of an interface is at a place where nil is expected
record AtInterface (T : Table) (t : TypeId) (z : List ℕ) (place : ℕ) : Type 0 where
  pub before : List ℕ
  pub rest : List ℕ
  pub depth : ℕ
  pub expects : ExpectsTop T t before (a_number nil) depth
  pub whole : z ≡ before ++ rest
  pub place_is : place ≡ length before

at_interface : {T : Table} {t : TypeId} {limit announced : ℕ} {z : List ℕ} {R : Refusal}
    → Refused T t limit announced z R → R.reason ≡ reason.InterfaceValue → AtInterface T t z R.place
at_interface (extra r s e l) k = absurd (other k)
  where
    other : reason.Extra ≡ reason.InterfaceValue → ⊥
    other e = cc
at_interface (too_deep r x e l) k = absurd (other k)
  where
    other : reason.TooDeep ≡ reason.InterfaceValue → ⊥
    other e = cc
at_interface (short_of r x e l w) k = absurd (other k)
  where
    other : reason.Short ≡ reason.InterfaceValue → ⊥
    other e = cc
at_interface (bad_head_at r x e h) k = absurd (other k)
  where
    other : reason.BadHead ≡ reason.InterfaceValue → ⊥
    other e = cc
at_interface (not_minimal_at r x e h) k = absurd (other k)
  where
    other : reason.NotMinimal ≡ reason.InterfaceValue → ⊥
    other e = cc
at_interface {T = T} {t = t} (not_allowed {p = p} {c = c} r {a = a} {d = d} x e u n) k =
    record {
      before = p;
      rest = c ++ r;
      depth = d;
      expects = subst (λ a. ExpectsTop T t p (a_number a) d)
          (is_nil a k) x;
      whole = e;
      place_is = refl;
    }

-- where something else is expected, the item there isn't refused as an interface
not_there : {T : Table} {X O : Type 0} {received : X → List Event → Type 0} {run : Run X O} {rest : List ℕ}
    {R : Refusal} → IsOpenSomewhere T received run → IsNotAtNil T run
    → RefusesAt T received run rest R → R.place ≡ run.start → R.reason ≢ reason.InterfaceValue
not_there {T = T} {run = run} {rest = rest} o n k p e =
    let r = o.open_.reached in
    let i = at_interface (k.each o.type o.bytes [] o.open_).refused e in
    let far = append_split i.before r.before i.rest (r.under_way ++ (rest ++ [])) (sym i.place_is ∙ p ∙ r.start_is)
    (sym i.whole ∙ ap (λ (l : List ℕ). l ++ (rest ++ [])) r.whole ∙ append_assoc r.before r.under_way (rest ++ [])) in
    let x = subst (λ b. ExpectsTop T o.type b (a_number nil) i.depth) far.0 i.expects in
    let item = nil_item run.state.expected r.ready r.placed.at x in
    n item.0 item.1 item.2

pub none_refused : {T : Table} {X O : Type 0} {received : X → List Event → Type 0} {old : Run X O} (new : Run X O)
    (rest : List ℕ) (r : Result Advance Stop) → IsOpenSomewhere T received old → IsNotAtNil T old
    → RestAnswers T received old new rest r → IfErr r (StopsHere old) → IfErr r IsNoInterface
none_refused new rest (Ok a) o n k h = tt
none_refused new rest (Err (stops.Refused place seen why)) o n k h = not_there o n k h
none_refused new rest (Err stops.Memory) o n k h = tt
none_refused new rest (Err stops.Failed) o n k h = tt

-- where a part begins
open_at : {T : Table} {t : TypeId} {fs : List Frame} {p r : List ℕ} {us : List Event} (u : TypeId)
    → AtNext T t fs (Number (Part u)) p r us → OpenPath T t fs p us u
open_at u (at_part w) = w

nothing_more : (b u : List ℕ) → length u ≡ 0 → b ++ u ≡ b
nothing_more b [] e = append_nil b
nothing_more b (x ∷ u) e = absurd (omega arith)

-- before the number of an interface the grammar expects nil
pub expects_nil : {T : Table} {t : TypeId} {X O : Type 0} {received : X → List Event → Type 0} {run : Run X O}
    {z : List ℕ} → IsReached T t received run z → IsAtNil T run → IsClear T run → ExpectsNil T t z
expects_nil {T = T} {t = t} {run = run} {z = z} r n c =
    let fresh = c n.id n.expected n.kind in
    let none : length r.under_way ≡ 0 = (let a = r.start_is in let b = r.taken_is in
    omega (arith, ap length r.whole, length-append r.before r.under_way)) in
    let z_is : z ≡ r.before = r.whole ∙ nothing_more r.before r.under_way none in
    let w =
    open_at n.id (subst (λ a. AtNext T t run.state.stack a r.before r.under_way r.placed.us) n.expected r.placed.at)
    in
    record {
      depth = length run.state.stack + 1;
      expects = subst
          (λ z. ExpectsTop T t z (a_number nil) (length run.state.stack + 1)) (sym z_is) (part_expects w n.kind);
    }

-- an interface whose number comes next lies as deep as the part that is begun
pub nil_depth : {T : Table} {t : TypeId} {X O : Type 0} {received : X → List Event → Type 0} {run : Run X O} {e : ℕ}
    {z : List ℕ} → IsAtNil T run → HasReadSoFar T t received run z → ExpectsTop T t z (a_number nil) e
    → depth_of run.state.expected run.state.stack ≡ e
nil_depth n (nothing_taken f) x = absurd (let z = sym f.expected ∙ n.expected in cc)
nil_depth {T = T} {t = t} {run = run} {z = z} n (taken_so_far r) x =
    let w =
    open_at n.id (subst (λ a. AtNext T t run.state.stack a r.before r.under_way r.placed.us) n.expected r.placed.at)
    in
    let begun = subst (λ a. IsUnderWayAt a run.number r.under_way) n.expected r.number_is in
    let same = unmet_once r.under_way [] (part_expects w n.kind) x (sym r.whole ∙ sym (append_nil z))
    (ends_not_met (within_number (begins_prefix {bytes = r.under_way} begun.1))) (met_some x) in
    ap (λ a. depth_of a run.state.stack) n.expected ∙ ap (λ (v : Expected × ℕ). v.1) same.value

-- so far in a piece, before such a number
pub comes_to_nil : {T : Table} {X O : Type 0} {received : X → List Event → Type 0} {old new : Run X O} {piece : List ℕ}
    {used count : ℕ} → HasCome T received old new piece used count → MayGoOn T received new
    → IsAtNil T new → IsClear T new → ComesToNil T received old new piece used
comes_to_nil {T = T} {received = received} {old = old} {new = new} {piece = piece} {used = used} h o n c = record {
  within = h.within;
  goes_on = record {
    same = record { length_is = h.more.length_is; depth_is = h.more.depth_is };
    reached = h.reached;
    viable = λ t z k.
        let i = o.each t (z ++ take used piece) (h.reached t z k) in
        subst (λ d. IsViable T t d old.length (z ++ take used piece)) h.more.depth_is
        (subst (λ n. IsViable T t new.depth n (z ++ take used piece)) h.more.length_is
        (reached_stood i.reached i.not_deep i.room));
  };
  nil = λ t z k. expects_nil (h.reached t z k) n c;
}

-- the stop that a `?` returns is the callee's
pub nil_stop_passed : (T : Table) {X O : Type 0} (received : X → List Event → Type 0) (old new : Run X O)
    (piece : List ℕ) (stop : Stop) (r : Result Came Stop) → IsErrAnd r (λ y. y ≡ stop)
    → StopsFor (λ refusal. RefusesPiece T received old piece refusal) stop
    → NilAnswers T received old new piece r
nil_stop_passed T received old new piece stop (Ok a) is k = absurd is
nil_stop_passed T received old new piece stop (Err y) is k = subst
    (StopsFor (λ refusal. RefusesPiece T received old piece refusal)) (sym is) k

pub never_passed : (stop : Stop) (r : Result Came Stop) → IsErrAnd r (λ y. y ≡ stop) → IsNoInterface stop
    → IfErr r IsNoInterface
never_passed stop (Ok a) is k = tt
never_passed stop (Err y) is k = subst IsNoInterface (sym is) k
