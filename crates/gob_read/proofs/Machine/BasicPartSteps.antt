-- Parts that stand whole in a piece, taken one behind another.
use Rattle.std.proofs.Common.{◌≡◌, ℕ, ◌+◌, ◌-◌, ◌^◌, ◌<◌, ◌≤◌, List, [], ◌∷◌, ◌++◌, length, take, drop, get_or, zero}
use Rattle.std.proofs.Common.{suc, Option, Some, None, arith, refl, sym, ap, ◌∙◌, subst, append_assoc, length-append}
use Rattle.std.proofs.Common.{length-drop, length-take}
use Rattle.std.specs.Prelude.{slice_get}
use Rattle.gob_num.specs.Unsigned.{IsUnsigned, short}
use Rattle.gob_types.specs.declared.id.TypeId.{TypeId}
use Rattle.gob_types.specs.declared.basic.Basic.{Basic}
use Rattle.gob_types.specs.declared.kind.Field.{Field}
use Rattle.gob_types.specs.declared.kind.Kind.TheVariants as kind
use Rattle.gob_types.specs.Table.{Table}
use Rattle.gob_read.specs.declared.event.RawKind.{RawKind}
use Rattle.gob_read.specs.declared.frame.Frame.{Frame}
use Rattle.gob_read.specs.declared.frame.Frame.TheVariants as frame
use Rattle.gob_read.specs.declared.next.Moved.{Moved}
use Rattle.gob_read.specs.declared.next.Moved.TheVariants.{ToNext}
use Rattle.gob_read.specs.declared.next.Next.TheVariants.{Number, Raw}
use Rattle.gob_read.specs.declared.next.NextNumber.{NextNumber}
use Rattle.gob_read.specs.declared.next.NextNumber.TheVariants.{Part, Delta}
use Rattle.gob_read.specs.declared.state.State.{State}
use Rattle.gob_read.specs.declared.run.Run.{Run}
use Rattle.gob_read.specs.declared.run.Advance.{Advance}
use Rattle.gob_read.specs.declared.basic_parts.Entered.{Entered}
use Rattle.gob_read.specs.Event.{Event, number, raw_start, raw_more, leave}
use Rattle.gob_read.specs.Building.{TakesEvent}
use Rattle.gob_read.specs.Machine.Frames as Frames
use Rattle.gob_read.specs.Machine.Frames.{to_delta, to_element, item_of}
use Rattle.gob_read.specs.Machine.Kinds.{HasKind, IsScalar, IsRawKind}
use Rattle.gob_read.specs.Machine.OpenPath.{OpenPath, at_once, behind_tag, in_list, at_key, at_value, in_field}
use Rattle.gob_read.specs.Machine.Steps.{StepEnds, CanGoOn, StepGoesOn, CanTakeRaw}
use Rattle.gob_read.specs.Machine.Running.{IsOpenSomewhere, IsOpenIn, IsBefore, IsStepped, TakesMore, Steps, TakesBytes}
use Rattle.gob_read.specs.Machine.Running.{TakesOfRest, TakesSome, MayGoOn, depth_of, item_depth}
use Rattle.gob_read.specs.Machine.BasicParts.{MayTakeBasic, TakesBasicEvents, told_nothing, told_number, told_bytes}
use Rattle.gob_read.specs.Machine.BasicParts.{IsInFields, IsInList, IsFollowedBy, TakesBasicParts, no_part_taken}
use Rattle.gob_read.specs.Machine.BasicParts.{some_parts_taken, PassesParts, TakesBasicPart, not_taken, part_taken}
use Rattle.gob_read.specs.Machine.BasicParts.{EntersField, NamesField, TakesFieldDelta, not_named, named, CanEndFields}
use Rattle.gob_read.specs.Machine.BasicParts.{EndsFields}
use Rattle.gob_read.proofs.Grammar.Prefixes.{append_nil}
use Rattle.gob_read.proofs.Machine.Parts.{ended_on, begins_ended}
use Rattle.gob_read.proofs.Machine.FirstSteps.{number_ended, length_placed}
use Rattle.gob_read.proofs.Machine.FieldSteps.{at_delta_of, delta_inside, delta_takes, field_placed}
use Rattle.gob_read.proofs.Machine.ItemSteps.{placed_begun, part_takes, first_takes, raw_ended}
use Rattle.gob_read.proofs.Machine.Pieces.{HasCome, come_start, come_on, come_open, take_further, slice_rest}
use Rattle.gob_read.proofs.Machine.Runs.{number_stepped, raw_stepped, fresh_is}

pub head_is : (fs : List Frame) {f : Frame} → slice_get fs 0 ≡ Some f → fs ≡ f ∷ drop 1 fs
head_is [] h = cc
head_is (g ∷ fs) h = cc

pub opens_here : {T : Table} {X O : Type 0} {received : X → List Event → Type 0} {run : Run X O}
    → depth_of run.state.expected run.state.stack ≤ run.depth → run.taken < run.length → MayGoOn T received run
opens_here l r = record { each = λ t z h. record { reached = h; not_deep = l; room = r } }

-- one step behind another
pub steps_then : {T : Table} {X O : Type 0} {received : X → List Event → Type 0} {old mid new : Run X O} {a b : List ℕ}
    {moved : Moved} → Steps T received old mid a ToNext → MayGoOn T received mid → Steps T received mid new b moved
    → Steps T received old new (a ++ b) moved
steps_then {T = T} {received = received} {new = new} {a = a} {b = b} {moved = moved} f o g =
    record {
      each = λ t z h. subst (λ l. IsStepped T t received new l moved) (append_assoc z a b)
          (g.each t (z ++ a) (o.each t (z ++ a) (f.each t z h)));
    }

-- so many more bytes are taken, and the next item begins behind them
pub record Moves {X O : Type 0} (old new : Run X O) (count : ℕ) : Type 0 where
  pub taken : new.taken ≡ old.taken + count
  pub start : new.start ≡ new.taken
  pub number : new.number ≡ old.number
  pub length_is : new.length ≡ old.length
  pub depth_is : new.depth ≡ old.depth

pub moves_more : {X O : Type 0} {old new : Run X O} {count : ℕ} → Moves old new count → TakesMore old new count
moves_more m = record { taken = m.taken; length_is = m.length_is; depth_is = m.depth_is }

-- the run with so many more bytes taken
abbrev behind : {X O : Type 0} → Run X O → ℕ → Run X O
behind run count = record {
  state = run.state;
  number = run.number;
  start = run.start;
  taken = run.taken + count;
  length = run.length;
  depth = run.depth;
}

-- behind a whole part the innermost open part goes on
goes_behind : {X O : Type 0} {received : X → List Event → Type 0} {mid new : State X O} {f g : Frame}
    → slice_get mid.stack 0 ≡ Some f → Frames.FrameGoesOn f g → new.stack ≡ g ∷ drop 1 mid.stack
    → new.expected ≡ Number (item_of g) → new.builder ≡ mid.builder → StepEnds received mid new ToNext
goes_behind f on s w b = record { each = λ T t z e. ended_on f on s w b e }

-- a part is whole with what the builder was told, inside the open parts that it began in
abbrev ended_with : {X O : Type 0} → State X O → X → State X O
ended_with state builder = record { builder = builder; stack = state.stack; expected = state.expected }

-- a part that one number spells
pub scalar_stepped : {T : Table} {X O : Type 0} {received : X → List Event → Type 0} {run new : Run X O} {id : TypeId}
    {g : Frame} {n a : ℕ} {b : Basic} (c : List ℕ) → run.state.expected ≡ Number (Part id)
    → IsFollowedBy g run.state.stack → run.number ≡ []
    → HasKind T id (kind.Basic b) → IsScalar (kind.Basic b) n b a
    → TakesEvent received run.state.builder new.state.builder (number b a 0)
    → new.state.stack ≡ g ∷ drop 1 run.state.stack → new.state.expected ≡ Number (item_of g)
    → Moves run new (length c) → IsUnsigned n c → Steps T received run new c ToNext
scalar_stepped {T = T} {received = received} {run = run} {new = new} {id = id} {g = g} {n = n} {a = a} {b = b} c e f
    none h i told s w m spelled =
    let begins = begins_ended {mid = ended_with run.state new.state.builder} {P = λ k. IsScalar k n b a}
    (number_ended refl told) (goes_behind {mid = ended_with run.state new.state.builder} f.innermost f.goes_on s w
    refl) in
    number_stepped {mid = behind run (length c)} (Part id) c e refl none refl refl
    (subst (λ (r : List ℕ). IsUnsigned n (r ++ c)) (sym none) spelled)
    (record {
      takes = part_takes e (first_takes h i begins);
      start_is = m.start ∙ m.taken;
      number_is = m.number;
      more =
          record { taken = (let t = m.taken in omega arith); length_is = m.length_is; depth_is = m.depth_is };
    })

-- a part that a count of bytes and the bytes spell
pub bytes_stepped : {T : Table} {X O : Type 0} {received : X → List Event → Type 0} {run new : Run X O} {id : TypeId}
    {g : Frame} {b : Basic} {x : RawKind} {one two : X} (c bytes : List ℕ) → run.state.expected ≡ Number (Part id)
    → IsFollowedBy g run.state.stack → run.number ≡ []
    → HasKind T id (kind.Basic b) → IsRawKind (kind.Basic b) x → TakesEvent received run.state.builder one (raw_start x)
    → TakesEvent received one two (raw_more bytes) → TakesEvent received two new.state.builder leave
    → new.state.stack ≡ g ∷ drop 1 run.state.stack → new.state.expected ≡ Number (item_of g)
    → Moves run new (length c + length bytes) → IsUnsigned (length bytes) c → 0 < length bytes
    → length run.state.stack + 1 ≤ run.depth → run.taken + length c < run.length
    → Steps T received run new (c ++ bytes) ToNext
bytes_stepped {T = T} {X = X} {O = O} {received = received} {run = run} {new = new} {id = id} {g = g} {b = b} {x = x}
    {one = one} {two = two} c bytes e f none h i begun more ended s w m spelled some deep room =
    steps_then {mid = mid} first (opens_here deep room) second
  where
    mid : Run X O
    mid = record {
      state = record { builder = one; stack = run.state.stack; expected = Raw (length bytes) };
      number =
          run.number;
      start = run.taken + length c;
      taken = run.taken + length c;
      length = run.length;
      depth = run.depth;
    }

    whole : State X O
    whole = ended_with mid.state new.state.builder

    first : Steps T received run mid c ToNext
    first =
        number_stepped {mid = behind run (length c)} (Part id) c e refl none refl refl
        (subst (λ (r : List ℕ). IsUnsigned (length bytes) (r ++ c)) (sym none) spelled)
        (record {
          takes = part_takes e
              (first_takes h i (record { each = length_placed refl refl begun (λ z. absurd (omega arith)) }));
          start_is =
              refl;
          number_is = refl;
          more = record { taken = omega arith; length_is = refl; depth_is = refl };
        })

    second : Steps T received mid new bytes ToNext
    second =
        raw_stepped (length bytes) bytes refl (omega arith) m.number (let t = m.taken in omega arith) m.depth_is
        (λ _. (let t = m.taken in let k = m.start in omega arith)) (λ l. absurd (omega arith))
        (record {
          last = λ T t p r b z. (goes_behind {mid = whole} f.innermost f.goes_on s w refl).each T t (p
              ++ (r ++ bytes)) (raw_ended {mid = whole} bytes refl refl more ended refl b);
          other =
              λ T t p r b l. absurd (omega arith);
        })

-- the part can be told
pub can_tell_basic : {T : Table} {X O : Type 0} {received : X → List Event → Type 0} {run : Run X O} {id : TypeId}
    {n used : ℕ} {b : Basic} (rest : List ℕ) → run.state.expected ≡ Number (Part id) → IsOpenSomewhere T received run
    → run.start ≡ run.taken → run.taken + length rest < 2 ^ 64
    → HasKind T id (kind.Basic b) → used ≤ length rest → IsUnsigned n (take used rest)
    → MayTakeBasic received run.state b n (take (length rest - used) (drop used rest))
can_tell_basic {T = T} {id = id} {used = used} {b = b} rest e o f l h w spelled =
    let r = o.open_.reached in
    let k = r.start_is in
    record {
      begins = record {
        table = T;
        type = o.type;
        id = id;
        kind = kind.Basic b;
        before = r.before;
        bytes =
            take used rest;
        begun = placed_begun e r.placed;
        has = h;
        holds = refl;
        spelled = spelled;
        small =
            omega (arith, length-append r.before (take used rest), length-take used rest);
      };
      small = omega (arith, length-take used rest, ap length (slice_rest rest used), length-drop used rest);
    }

pub can_take_told : {X O : Type 0} {received : X → List Event → Type 0} {state : State X O} {b : Basic} {x : RawKind}
    {n : ℕ} {one : X} {more : List ℕ} → MayTakeBasic received state b n more → IsRawKind (kind.Basic b) x → 0 < n
    → n ≤ length more → TakesEvent received state.builder one (raw_start x)
    → CanTakeRaw {O = O} received (record { builder = one; stack = state.stack; expected = Raw n }) n (take n more)
can_take_told {received = received} {state = state} {x = x} {n = n} {one = one} {more = more} r i some few told =
    let g = r.begins in
    record {
      expected = refl;
      few = omega (arith, length-take n more);
      table = g.table;
      type = g.type;
      before = g.before ++ g.bytes;
      so_far = [];
      placed = length_placed {state = state} {mid = record { builder = one; stack = state.stack; expected = Raw n }}
          refl refl told (λ z. absurd (omega arith)) g.table g.type g.id g.kind g.before g.bytes g.begun g.has
          (subst (λ k. IsRawKind k x) (sym g.holds) i) g.spelled;
      small = (let l = r.small in omega (
        arith,
        length-take n more,
        length-append (g.before ++ g.bytes) (take n more),
        length-append g.before g.bytes,
      ));
    }

-- the part was told, and taken so
pub basic_takes : {T : Table} {X O : Type 0} {received : X → List Event → Type 0} {old new : Run X O} {mid : State X O}
    {id : TypeId} {g : Frame} {b : Basic} {n used more : ℕ} (rest : List ℕ) → old.state.expected ≡ Number (Part id)
    → IsFollowedBy g old.state.stack → IsOpenSomewhere T received old
    → old.start ≡ old.taken → old.taken + length rest ≤ old.length → HasKind T id (kind.Basic b) → used ≤ length rest
    → 0 < used → IsUnsigned n (take used rest) → TakesBasicEvents received old.state mid b n
    (take (length rest - used) (drop used rest)) (Some more)
    → new.state.builder ≡ mid.builder → new.state.stack ≡ g ∷ drop 1 mid.stack → new.state.expected ≡ Number (item_of g)
    → Moves old new (used + more) → TakesBasicPart T received old new g rest (used + more)
basic_takes {T = T} {X = X} {O = O} {received = received} {old = old} {new = new} {mid = mid} {id = id} {g = g} {b = b}
    {n = n} {used = used} {more = more} rest e f o fresh room h w some spelled tells s k a m = from tells
  where
    next : List ℕ
    next = take (length rest - used) (drop used rest)

    size : length next ≡ length rest - used
    size = ap length (slice_rest rest used) ∙ length-drop used rest

    cut : take (used + more) rest ≡ take used rest ++ take more next
    cut = take_further rest used more ∙ ap (λ l. take used rest ++ take more l) (sym (slice_rest rest used))

    none : old.number ≡ []
    none = fresh_is (Part id) e o fresh

    deep : length old.state.stack + 1 ≤ old.depth
    deep = subst (λ a. depth_of a old.state.stack ≤ old.depth) e o.open_.not_deep

    passed : more ≤ length next → Steps T received old new (take used rest ++ take more next) ToNext
        → new.state.stack ≡ g ∷ drop 1 old.state.stack → TakesBasicPart T received old new g rest (used + more)
    passed l steps stack = part_taken (omega arith) (omega (arith, size)) (record {
      more = record {
        taken = (let t = m.taken in omega (arith, size, length-take (used + more) rest));
        length_is =
            m.length_is;
        depth_is = m.depth_is;
      };
      steps = subst (λ c. Steps T received old new c ToNext) (sym cut) steps;
      fresh = m.start;
    }) a stack (ap length stack ∙ sym (ap length (head_is old.state.stack f.innermost)))

    moved : {count : ℕ} → count ≡ used + more → Moves old new count
    moved c = record {
      taken = (let t = m.taken in omega arith);
      start = m.start;
      number = m.number;
      length_is =
          m.length_is;
      depth_is = m.depth_is;
    }

    builder_is : {mid' : X} {t : Event} → TakesEvent received mid' mid.builder t
        → TakesEvent received mid' new.state.builder t
    builder_is {mid' = mid'} {t = t} h = subst (λ x. TakesEvent received mid' x t) (sym s) h

    stack_is : mid.stack ≡ old.state.stack → new.state.stack ≡ g ∷ drop 1 old.state.stack
    stack_is same = k ∙ ap (λ (l : List Frame). g ∷ drop 1 l) same

    from : TakesBasicEvents received old.state mid b n next (Some more)
        → TakesBasicPart T received old new g rest (used + more)
    from (told_number z i told kept) =
        let nothing : take more next ≡ [] = subst (λ j. take j next ≡ []) (sym z) refl in
        passed (omega arith)
        (subst (λ c. Steps T received old new c ToNext) (sym (ap (λ l. take used rest ++ l) nothing
        ∙ append_nil (take used rest)))
        (scalar_stepped (take used rest) e f none h i (builder_is told) (stack_is kept.stack) a
        (moved (omega (arith, length-take used rest))) spelled))
        (stack_is kept.stack)
    from (told_bytes z i l few begun told ended kept) =
        let count : length (take n next) ≡ n = omega (arith, length-take n next) in
        passed (omega arith)
        (subst (λ j. Steps T received old new (take used rest ++ take j next) ToNext) (sym z)
        (bytes_stepped (take used rest) (take n next) e f none h i begun told (builder_is ended) (stack_is kept.stack) a
        (moved (omega (arith, length-take used rest, count)))
        (subst (λ j. IsUnsigned j (take used rest)) (sym count) spelled) (omega arith) deep
        (omega (arith, length-take used rest, size))))
        (stack_is kept.stack)

-- the delta leads to a field
pub can_go_on : {T : Table} {X O : Type 0} {received : X → List Event → Type 0} {run : Run X O} {u : TypeId}
    {types : List Field} {next n : ℕ} → run.state.expected ≡ Number Delta → IsInFields u next run.state.stack
    → HasKind T u (kind.Struct types) → IsOpenSomewhere T received run
    → run.start ≡ run.taken → run.taken + 1 < 2 ^ 64 → n < 128 → CanGoOn received run.state u types next n
can_go_on {T = T} {n = n} e f h o fresh l s =
    let r = o.open_.reached in
    let k = r.start_is in
    record {
      table = T;
      type = o.type;
      before = r.before;
      bytes = n ∷ [];
      inside = (delta_inside e f h r.placed).0;
      spelled = short s;
      small = omega (arith, length-append r.before (n ∷ []));
    }

pub name_takes : {T : Table} {X O : Type 0} {received : X → List Event → Type 0} {old new : Run X O} {u : TypeId}
    {types : List Field} {next n f : ℕ} {part : Field} → old.state.expected ≡ Number Delta
    → IsInFields u next old.state.stack → HasKind T u (kind.Struct types) → IsOpenSomewhere T received old
    → old.start ≡ old.taken → n < 128 → next ≤ f → f + 1 ≡ next + n → slice_get types f ≡ Some part
    → NamesField received old.state new.state u f part.id → Moves old new 1
    → EntersField T received old new n u (f + 1) part.id
name_takes {T = T} {received = received} {old = old} {new = new} {u = u} {next = next} {n = n} {f = f} {part = part} e i
    h o fresh s l m g names moves = record {
      passes = record { more = moves_more moves; steps = steps; fresh = moves.start };
      expected = names.expected;
      inside = ap (λ (l : List Frame). slice_get l 0) names.stack;
      as_deep = ap length names.stack ∙ sym (ap length (head_is old.state.stack i));
    }
  where
    none : old.number ≡ []
    none = fresh_is Delta e o fresh

    steps : Steps T received old new (n ∷ []) ToNext
    steps =
        number_stepped {mid = behind old 1} Delta (n ∷ []) e refl none refl refl
        (subst (λ (r : List ℕ). IsUnsigned n (r ++ n ∷ [])) (sym none) (short s))
        (record {
          takes = delta_takes e i h (record {
            each = field_placed f names.stack names.expected names.told l m g;
          });
          start_is = moves.start ∙ moves.taken;
          number_is = moves.number;
          more =
              record {
                taken = (let t = moves.taken in omega arith);
                length_is = moves.length_is;
                depth_is =
                    moves.depth_is;
              };
        })

-- the end of the struct
pub can_end_fields : {X O : Type 0} {received : X → List Event → Type 0} {run : Run X O}
    → run.state.expected ≡ Number Delta → IsOpenIn received run → run.start ≡ run.taken → run.length < 2 ^ 64
    → CanEndFields received run.state
can_end_fields e o fresh l =
    let r = o.open_.open_.reached in
    let d = at_delta_of e r.placed in
    let k = r.start_is in
    let room = o.open_.open_.room in
    record {
      id = d.id;
      types = d.types;
      next = d.next;
      goes_on = record {
        table = o.table;
        type = o.open_.type;
        before = r.before;
        bytes = 0 ∷ [];
        inside = d.inside;
        spelled = short (omega arith);
        small =
            omega (arith, length-append r.before (0 ∷ []));
      };
    }

pub end_steps : {X O : Type 0} {received : X → List Event → Type 0} {old new : Run X O} {moved : Moved}
    → old.state.expected ≡ Number Delta → IsOpenIn received old → old.start ≡ old.taken
    → EndsFields received old.state new.state moved → Moves old new 1 → (T : Table)
    → TakesBytes T received old new (0 ∷ []) moved
end_steps {old = old} e o fresh ends moves T =
    let none = fresh_is Delta e o.open_ fresh in
    record {
      more = moves_more moves;
      steps = number_stepped {mid = behind old 1} Delta (0 ∷ []) e refl none refl refl
          (subst (λ (r : List ℕ). IsUnsigned 0 (r ++ 0 ∷ [])) (sym none) (short (omega arith)))
          (record {
            takes = record {
              each = λ t p r c d b n. (let x = at_delta_of e b in (ends.each x.id x.types x.next).each T
                  t p c x.inside n);
            };
            start_is = moves.start ∙ moves.taken;
            number_is = moves.number;
            more = record {
              taken = (let t = moves.taken in omega arith);
              length_is = moves.length_is;
              depth_is =
                  moves.depth_is;
            };
          });
    }

-- nothing was told
pub untold : {X O : Type 0} {received : X → List Event → Type 0} {old new : State X O} {b : Basic} {n : ℕ}
    {more : List ℕ} {used : Option ℕ} → used ≡ None → TakesBasicEvents received old new b n more used → new ≡ old
untold z (told_nothing e) = e
untold z (told_number e i t k) = cc
untold z (told_bytes e i l few a b c k) = cc

pub told_as : {X O : Type 0} {received : X → List Event → Type 0} {old new : State X O} {b : Basic} {n used : ℕ}
    {more : List ℕ} {r : Option ℕ} → r ≡ Some used → TakesBasicEvents received old new b n more r
    → TakesBasicEvents received old new b n more (Some used)
told_as {received = received} {old = old} {new = new} {b = b} {n = n} {more = more} e h =
    subst (TakesBasicEvents received old new b n more) e h

pub told_within : {X O : Type 0} {received : X → List Event → Type 0} {old new : State X O} {b : Basic} {n used : ℕ}
    {more : List ℕ} → TakesBasicEvents received old new b n more (Some used) → used ≤ length more
told_within (told_number z i t k) = omega arith
told_within (told_bytes z i l few a b c k) = omega arith

pub told_stack : {X O : Type 0} {received : X → List Event → Type 0} {old new : State X O} {b : Basic} {n used : ℕ}
    {more : List ℕ} → TakesBasicEvents received old new b n more (Some used) → new.stack ≡ old.stack
told_stack (told_number z i t k) = k.stack
told_stack (told_bytes z i l few a b c k) = k.stack

pub frame_some : (fs : List Frame) {f : Frame} → slice_get fs 0 ≡ Some f → 0 < length fs
frame_some [] h = cc
frame_some (g ∷ fs) h = omega arith

-- no delta was taken, or one was
pub unnamed : {T : Table} {X O : Type 0} {received : X → List Event → Type 0} {old new : Run X O} {n : ℕ} {u : TypeId}
    {r : Option Entered} → r ≡ None → TakesFieldDelta T received old new n u r → new ≡ old
unnamed z (not_named e) = e
unnamed z (named e) = cc

pub named_as : {T : Table} {X O : Type 0} {received : X → List Event → Type 0} {old new : Run X O} {n : ℕ} {u : TypeId}
    {r : Option Entered} {e : Entered} → r ≡ Some e → TakesFieldDelta T received old new n u r
    → EntersField T received old new n u e.next e.part
named_as {T = T} {received = received} {old = old} {new = new} {n = n} {u = u} z h =
    entered (subst (TakesFieldDelta T received old new n u) z h)
  where
    entered : {e : Entered} → TakesFieldDelta T received old new n u (Some e)
        → EntersField T received old new n u e.next e.part
    entered (named e) = e

-- within an open part so much of the piece was taken, and this is expected
pub record AtItem (T : Table) {X O : Type 0} (received : X → List Event → Type 0) (old run : Run X O) (rest : List ℕ)
    (used count : ℕ) (i : NextNumber) (f : Frame) : Type 0 where
  pub come : HasCome T received old run rest used count
  pub expected : run.state.expected ≡ Number i
  pub inside : slice_get run.state.stack 0 ≡ Some f
  pub fresh : run.start ≡ run.taken
  pub deep : length run.state.stack < run.depth

pub item_start : {T : Table} {X O : Type 0} {received : X → List Event → Type 0} {run : Run X O} {i : NextNumber}
    {f : Frame} (rest : List ℕ) → run.state.expected ≡ Number i → slice_get run.state.stack 0 ≡ Some f
    → run.start ≡ run.taken → length run.state.stack < run.depth → AtItem T received run run rest 0 0 i f
item_start rest a i f d = record { come = come_start rest; expected = a; inside = i; fresh = f; deep = d }

-- it may be taken where more of the piece is there
pub item_opens : {T : Table} {X O : Type 0} {received : X → List Event → Type 0} {old run : Run X O} {rest : List ℕ}
    {used count : ℕ} {i : NextNumber} {f : Frame} → AtItem T received old run rest used count i f
    → item_depth i (length run.state.stack) ≤ length run.state.stack + 1 → old.taken + length rest ≤ old.length
    → used < length rest → MayGoOn T received run
item_opens {run = run} h l room some =
    let d : depth_of run.state.expected run.state.stack ≤ run.depth =
    subst (λ a. depth_of a run.state.stack ≤ run.depth) (sym h.expected) (let k = h.deep in omega arith) in
    let t = h.come.more.taken in let n = h.come.more.length_is in
    opens_here d (omega arith)

pub item_open : {T : Table} {X O : Type 0} {received : X → List Event → Type 0} {old run : Run X O} {rest : List ℕ}
    {used count : ℕ} {i : NextNumber} {f : Frame} → AtItem T received old run rest used count i f
    → IsOpenSomewhere T received old → item_depth i (length run.state.stack) ≤ length run.state.stack + 1
    → old.taken + length rest ≤ old.length → used < length rest → IsOpenSomewhere T received run
item_open h o l room some = come_open (record { type = o.type; bytes = o.bytes; reached = o.open_.reached }) h.come
    (item_opens h l room some)

pub rest_some : (rest : List ℕ) (used : ℕ) → length (take (length rest - used) (drop used rest)) ≡ length rest - used
rest_some rest used = ap length (slice_rest rest used) ∙ length-drop used rest

-- and the rest of the piece, or its next byte, is before it
before_part : {T : Table} {X O : Type 0} {received : X → List Event → Type 0} {old run : Run X O} {rest : List ℕ}
    {used count : ℕ} {i j : NextNumber} {f : Frame} (bytes : List ℕ) → AtItem T received old run rest used count i f
    → IsBefore T received old (Number j) rest → item_depth i (length run.state.stack) ≤ length run.state.stack + 1
    → used + length bytes ≤ length rest → 0 < length bytes → IsBefore T received run (Number i) bytes
before_part bytes h b l few some =
    let r = b.room in let t = h.come.more.taken in let n = h.come.more.length_is in
    record {
      expected = h.expected;
      has_read = item_open h b.has_read l b.room (omega arith);
      some = some;
      room =
          omega arith;
    }

pub item_before : {T : Table} {X O : Type 0} {received : X → List Event → Type 0} {old run : Run X O} {rest : List ℕ}
    {used count : ℕ} {i j : NextNumber} {f : Frame} → AtItem T received old run rest used count i f
    → IsBefore T received old (Number j) rest → item_depth i (length run.state.stack) ≤ length run.state.stack + 1
    → used < length rest → IsBefore T received run (Number i) (take (length rest - used) (drop used rest))
item_before {rest = rest} {used = used} h b l some = before_part (take (length rest - used) (drop used rest)) h b l
    (omega (arith, rest_some rest used)) (omega (arith, rest_some rest used))

pub byte_before : {T : Table} {X O : Type 0} {received : X → List Event → Type 0} {old run : Run X O} {rest : List ℕ}
    {used count byte : ℕ} {i j : NextNumber} {f : Frame} → AtItem T received old run rest used count i f
    → IsBefore T received old (Number j) rest → item_depth i (length run.state.stack) ≤ length run.state.stack + 1
    → used < length rest → IsBefore T received run (Number i) (byte ∷ [])
byte_before {byte = byte} h b l some = before_part (byte ∷ []) h b l (omega arith) (omega arith)

pub come_steps : {T : Table} {X O : Type 0} {received : X → List Event → Type 0} {old new : Run X O} {rest : List ℕ}
    {used count : ℕ} → HasCome T received old new rest used count → Steps T received old new (take used rest) ToNext
come_steps h = record { each = λ t z o. h.reached t z o.reached }

one_at : (xs : List ℕ) (used : ℕ) → used < length xs → take 1 (drop used xs) ≡ get_or xs used 0 ∷ []
one_at [] used l = absurd (omega arith)
one_at (x ∷ xs) zero l = refl
one_at (x ∷ xs) (suc used) l = one_at xs used (omega arith)

-- its first byte
one_of_rest : (rest : List ℕ) (used : ℕ) → used < length rest → take 1 (take (length rest - used) (drop used rest)) ≡
    get_or rest used 0 ∷ []
one_of_rest rest used l = ap (λ (l : List ℕ). take 1 l) (slice_rest rest used) ∙ one_at rest used l

-- the delta was taken
pub named_on : {T : Table} {X O : Type 0} {received : X → List Event → Type 0} {old run new : Run X O} {rest : List ℕ}
    {used count next next' : ℕ} {u part : TypeId} → AtItem T received old run rest used count Delta
    (frame.Fields u next) → old.taken + length rest ≤ old.length → used < length rest
    → EntersField T received run new (get_or rest used 0) u next' part
    → AtItem T received old new rest (used + 1) (count + 1) (Part part) (frame.Fields u next')
named_on {T = T} {received = received} {run = run} {new = new} {rest = rest} {used = used} h room some e =
    let n = e.passes.more.depth_is in let m = e.as_deep in let d = h.deep in
    record {
      come = come_on {step = record { used = 1; moved = ToNext }} h.come (item_opens h (omega arith) room some)
          (record {
            some = omega arith;
            takes = record {
              few = omega (arith, rest_some rest used);
              more = e.passes.more;
              steps = subst (λ c. Steps T received run new c ToNext) (sym (one_of_rest rest used some)) e.passes.steps;
            };
          }) refl;
      expected = e.expected;
      inside = e.inside;
      fresh = e.passes.fresh;
      deep = omega arith;
    }

-- what a taken part was taken so
pub record IsBasicTaken (T : Table) {X O : Type 0} (received : X → List Event → Type 0) (old new : Run X O)
    (next : Frame) (rest : List ℕ) (used : ℕ) : Type 0 where
  pub within : used ≤ length rest
  pub passes : PassesParts T received old new (take used rest)
  pub expected : new.state.expected ≡ Number (item_of next)
  pub stack : new.state.stack ≡ next ∷ drop 1 old.state.stack
  pub as_deep : length new.state.stack ≡ length old.state.stack

pub taken_some : {T : Table} {X O : Type 0} {received : X → List Event → Type 0} {old new : Run X O} {g : Frame}
    {rest : List ℕ} {used : ℕ} → TakesBasicPart T received old new g rest used → 0 < used
    → IsBasicTaken T received old new g rest used
taken_some (not_taken e) l = absurd (omega arith)
taken_some (part_taken s w p a k d) l = record { within = w; passes = p; expected = a; stack = k; as_deep = d }

pub taken_within : {T : Table} {X O : Type 0} {received : X → List Event → Type 0} {old new : Run X O} {g : Frame}
    {rest : List ℕ} {used : ℕ} → TakesBasicPart T received old new g rest used → used ≤ length rest
taken_within (not_taken e) = omega arith
taken_within (part_taken s w p a k d) = w

pub basic_taken : {T : Table} {X O : Type 0} {received : X → List Event → Type 0} {old new : Run X O} {g : Frame}
    {rest : List ℕ} {used : ℕ} → IsBasicTaken T received old new g rest used
    → TakesOfRest T received old new rest (record { used = used; moved = ToNext })
basic_taken {rest = rest} {used = used} p =
    record {
      few = p.within;
      more =
          record {
            taken = (let t = p.passes.more.taken in let w = p.within in omega (arith, length-take used rest));
            length_is = p.passes.more.length_is;
            depth_is = p.passes.more.depth_is;
          };
      steps = p.passes.steps;
    }

-- the part was taken
pub basic_on : {T : Table} {X O : Type 0} {received : X → List Event → Type 0} {old run new : Run X O} {rest : List ℕ}
    {used count taken : ℕ} {f g : Frame} {part : TypeId} → AtItem T received old run rest used count (Part part) f
    → old.taken + length rest ≤ old.length → used < length rest
    → 0 < taken → IsBasicTaken T received run new g (take (length rest - used) (drop used rest)) taken
    → AtItem T received old new rest (used + taken) (count + 1) (item_of g) g
basic_on {taken = taken} h room some l p =
    let n = p.passes.more.depth_is in let m = p.as_deep in let d = h.deep in
    record {
      come = come_on {step = record { used = taken; moved = ToNext }} h.come (item_opens h (omega arith) room some)
          (record { some = l; takes = basic_taken p }) refl;
      expected = p.expected;
      inside = ap (λ (l : List Frame). slice_get l 0) p.stack;
      fresh = p.passes.fresh;
      deep = omega arith;
    }

-- and that of a field, behind which a delta is expected
pub field_on : {T : Table} {X O : Type 0} {received : X → List Event → Type 0} {old run new : Run X O} {rest : List ℕ}
    {used count taken next : ℕ} {f : Frame} {u part : TypeId} {i : NextNumber}
    → AtItem T received old run rest used count (Part part) f → IsBefore T received old (Number i) rest
    → used < length rest
    → TakesBasicPart T received run new (frame.Fields u next) (take (length rest - used) (drop used rest)) taken
    → 0 < taken → AtItem T received old new rest (used + taken) (count + 1) Delta (frame.Fields u next)
field_on h b some t l = basic_on h b.room some l (taken_some t l)

pub fewer : {T : Table} {X O : Type 0} {received : X → List Event → Type 0} {old run : Run X O} {rest : List ℕ}
    {used count : ℕ} {i : NextNumber} {f : Frame} (less : ℕ) → AtItem T received old run rest used count i f
    → less ≤ count → AtItem T received old run rest used less i f
fewer less h l = record {
  come = record {
    within = h.come.within;
    more = h.come.more;
    onward =
        (let k = h.come.onward in omega arith);
    reached = h.come.reached;
  };
  expected = h.expected;
  inside = h.inside;
  fresh = h.fresh;
  deep = h.deep;
}

pub more_then : {X O : Type 0} {old mid new : Run X O} {a b : ℕ} → TakesMore old mid a → TakesMore mid new b
    → TakesMore old new (a + b)
more_then f g = record {
  taken = (let x = f.taken in let y = g.taken in omega arith);
  length_is = g.length_is
      ∙ f.length_is;
  depth_is = g.depth_is ∙ f.depth_is;
}

-- more was taken behind it
pub behind_it : {T : Table} {X O : Type 0} {received : X → List Event → Type 0} {old mid new : Run X O} {step : Advance}
    (rest : List ℕ) (used : ℕ) → TakesOfRest T received old mid rest (record { used = used; moved = ToNext })
    → MayGoOn T received mid
    → TakesOfRest T received mid new (take (length rest - used) (drop used rest)) step
    → TakesOfRest T received old new rest (record { used = used + step.used; moved = step.moved })
behind_it {T = T} {received = received} {old = old} {new = new} {step = step} rest used f o g =
    let cut : take (used + step.used) rest ≡ take used rest
    ++ take step.used (take (length rest - used) (drop used rest)) = take_further rest used step.used
    ∙ ap (λ l. take used rest ++ take step.used l) (sym (slice_rest rest used)) in
    record {
      few = (let l = f.few in let k = g.few in omega (arith, rest_some rest used));
      more = more_then f.more g.more;
      steps = subst (λ c. Steps T received old new c step.moved) (sym cut) (steps_then f.steps o g.steps);
    }

-- what was taken within the open part
pub item_passed : {T : Table} {X O : Type 0} {received : X → List Event → Type 0} {old run : Run X O} {rest : List ℕ}
    {used count : ℕ} {i : NextNumber} {f : Frame} → AtItem T received old run rest used count i f
    → TakesOfRest T received old run rest (record { used = used; moved = ToNext })
item_passed h = record { few = h.come.within; more = h.come.more; steps = come_steps h.come }

-- the struct has ended
pub end_on : {T : Table} {X O : Type 0} {received : X → List Event → Type 0} {old run new : Run X O} {rest : List ℕ}
    {used count next : ℕ} {u : TypeId} {moved : Moved} → AtItem T received old run rest used count Delta
    (frame.Fields u next) → old.taken + length rest ≤ old.length → used < length rest → get_or rest used 0 ≡ 0
    → TakesBytes T received run new (0 ∷ []) moved
    → TakesOfRest T received old new rest (record { used = used + 1; moved = moved })
end_on {T = T} {received = received} {run = run} {new = new} {rest = rest} {used = used} {moved = moved} h room some z
    s =
    let one : take 1 (take (length rest - used) (drop used rest)) ≡ 0 ∷ [] = one_of_rest rest used some
    ∙ ap (λ n. n ∷ []) z in
    behind_it {step = record { used = 1; moved = moved }} rest used (item_passed h)
    (item_opens h (omega arith) room some)
    (record {
      few = omega (arith, rest_some rest used);
      more = s.more;
      steps =
          subst (λ c. Steps T received run new c moved) (sym one) s.steps;
    })

pub ends_go_on : {X O : Type 0} {received : X → List Event → Type 0} {old new : State X O} {u : TypeId}
    {types : List Field} {next n : ℕ} {moved : Moved} → n ≡ 0 → EndsFields received old new moved
    → StepGoesOn received old new u types next n moved
ends_go_on {received = received} {old = old} {new = new} {u = u} {types = types} {next = next} {moved = moved} z e =
    subst (λ n. StepGoesOn received old new u types next n moved) (sym z) (e.each u types next)

pub go_on_ends : {X O : Type 0} {received : X → List Event → Type 0} {state : State X O} {u : TypeId}
    {types : List Field} {next n : ℕ} → n ≡ 0 → CanGoOn received state u types next n → CanEndFields received state
go_on_ends {received = received} {state = state} {u = u} {types = types} {next = next} z r =
    record { id = u; types = types; next = next; goes_on = subst (λ n. CanGoOn received state u types next n) z r }

pub same_passed : {T : Table} {X O : Type 0} {received : X → List Event → Type 0} {old run new : Run X O}
    {rest : List ℕ} {step : Advance} → new ≡ run → TakesOfRest T received old run rest step
    → TakesOfRest T received old new rest step
same_passed {T = T} {received = received} {old = old} {rest = rest} {step = step} e h =
    subst (λ r. TakesOfRest T received old r rest step) (sym e) h

pub same_fresh : {X O : Type 0} {run new : Run X O} → new ≡ run → run.start ≡ run.taken → new.start ≡ new.taken
same_fresh e h = subst (λ r. r.start ≡ r.taken) (sym e) h

-- what was taken within a list, or nothing
pub item_or_not : {T : Table} {X O : Type 0} {received : X → List Event → Type 0} {old run : Run X O} {rest : List ℕ}
    {used count : ℕ} {i : NextNumber} {f : Frame} → AtItem T received old run rest used count i f
    → (used ≡ 0 → run ≡ old) → TakesBasicParts T received old run rest (record { used = used; moved = ToNext })
item_or_not {used = zero} h same = no_part_taken refl (same refl)
item_or_not {used = suc used} h same = some_parts_taken (record { some = omega arith; takes = item_passed h }) h.fresh

pub taken_or_not : {T : Table} {X O : Type 0} {received : X → List Event → Type 0} {old run new : Run X O}
    {rest : List ℕ} {used count taken : ℕ} {f g : Frame} {part : TypeId}
    → AtItem T received old run rest used count (Part part) f → (used ≡ 0 → run ≡ old)
    → old.taken + length rest ≤ old.length → used < length rest
    → TakesBasicPart T received run new g (take (length rest - used) (drop used rest)) taken
    → TakesBasicParts T received old new rest (record { used = used + taken; moved = ToNext })
taken_or_not {T = T} {received = received} {old = old} {new = new} {rest = rest} {used = used} h same room some
    (not_taken e) =
    subst (λ n. TakesBasicParts T received old new rest (record { used = n; moved = ToNext })) (omega arith)
    (subst (λ r. TakesBasicParts T received old r rest (record { used = used; moved = ToNext })) (sym e)
    (item_or_not h same))
taken_or_not h same room some (part_taken s w p a k d) =
    some_parts_taken (record {
      some = omega arith;
      takes =
          item_passed (basic_on h room some s (record {
            within = w;
            passes = p;
            expected = a;
            stack = k;
            as_deep =
                d;
          }));
    }) p.fresh

-- in a list an element is expected
element_within : {T : Table} {t : TypeId} {fs : List Frame} {z : List ℕ} {us : List Event} {u e : TypeId} {left : ℕ}
    → OpenPath T t fs z us u → IsInList e left fs → u ≡ e
element_within (at_once s i) h = cc
element_within (behind_tag s i) h = cc
element_within (in_list w k i n b c) h = cc
element_within (at_key w k n b c) h = cc
element_within (at_value w k n b c x y) h = cc
element_within (in_field w k b l m g n) h = cc

element_is : {T : Table} {X O : Type 0} {received : X → List Event → Type 0} {run : Run X O} {id e : TypeId} {left : ℕ}
    → run.state.expected ≡ Number (Part id) → IsOpenSomewhere T received run → IsInList e left run.state.stack
    → run.state.expected ≡ Number (Part e)
element_is a o h = a ∙ ap (λ u. Number (Part u)) (element_within (placed_begun a o.open_.reached.placed).within h)

pub before_element : {T : Table} {X O : Type 0} {received : X → List Event → Type 0} {run : Run X O} {id e : TypeId}
    {left : ℕ} {rest : List ℕ} → IsBefore T received run (Number (Part id)) rest → IsInList e left run.state.stack
    → IsBefore T received run (Number (Part e)) rest
before_element b h = record {
  expected = element_is b.expected b.has_read h;
  has_read = b.has_read;
  some = b.some;
  room = b.room;
}

pub goes_to_element : {e : TypeId} (left less : ℕ) → left ≡ less + 1
    → Frames.FrameGoesOn (frame.Many e left) (frame.Many e less)
goes_to_element zero less h = absurd (omega arith)
goes_to_element {e = e} (suc left) less h = subst (λ n. Frames.FrameGoesOn (frame.Many e (suc left)) (frame.Many e n))
    (omega arith) to_element

-- behind the first part
pub part_deep : {T : Table} {X O : Type 0} {received : X → List Event → Type 0} {run : Run X O} {id : TypeId}
    → run.state.expected ≡ Number (Part id) → IsOpenSomewhere T received run → length run.state.stack + 1 ≤ run.depth
part_deep {run = run} e o = subst (λ a. depth_of a run.state.stack ≤ run.depth) e o.open_.not_deep

-- what was taken, or not
pub taken_parts : {T : Table} {X O : Type 0} {received : X → List Event → Type 0} {old new : Run X O} {rest : List ℕ}
    {s : Advance} → TakesBasicParts T received old new rest s → 0 < s.used → TakesSome T received old new rest s
taken_parts (no_part_taken z e) l = absurd (omega arith)
taken_parts (some_parts_taken h f) l = h

pub no_parts : {T : Table} {X O : Type 0} {received : X → List Event → Type 0} {old new : Run X O} {rest : List ℕ}
    {s : Advance} → TakesBasicParts T received old new rest s → s.used ≤ 0 → new ≡ old
no_parts (no_part_taken z e) l = e
no_parts (some_parts_taken h f) l = absurd (let k = h.some in omega arith)

pub parts_fresh : {T : Table} {X O : Type 0} {received : X → List Event → Type 0} {old new : Run X O} {rest : List ℕ}
    {s : Advance} → TakesBasicParts T received old new rest s → 0 < s.used → new.start ≡ new.taken
parts_fresh (no_part_taken z e) l = absurd (omega arith)
parts_fresh (some_parts_taken h f) l = f
