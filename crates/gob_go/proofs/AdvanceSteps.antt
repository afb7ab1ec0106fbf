-- A step of a session over the front of a piece.
use Rattle.std.proofs.Common.{Bool}
use Rattle.std.proofs.Common.{◌≡◌, ℕ, ◌+◌, ◌^◌, ◌<◌, ◌≤◌, inl, inr, List, [], ◌++◌, length, take, drop, Option}
use Rattle.std.proofs.Common.{None, IfSome, Result, Ok, Err, arith, refl, sym, ap, ◌∙◌, subst, append_assoc}
use Rattle.std.proofs.Common.{length-append}
use Rattle.std.proofs.lemmas.Bool.{cases_lt}
use Rattle.std.proofs.lemmas.List.{append-nil, length-take, take-append-drop}
use Rattle.gob_num.specs.Unsigned.{IsUnsignedPrefix, AreBytes}
use Rattle.gob_num.proofs.PublicLaws.{begins_prefix, bytes-append, bytes_prefix, bytes_rest}
use Rattle.gob_types.specs.Base.{base_table}
use Rattle.gob_types.specs.Defined.{Defined, types}
use Rattle.gob_types.specs.Table.{Table}
use Rattle.gob_stream.specs.declared.fault.Fault.{Fault}
use Rattle.gob_stream.specs.declared.fault.Fault.TheVariants as fault
use Rattle.gob_stream.specs.declared.fault.Refusal.{Refusal}
use Rattle.gob_stream.specs.Bounds.{Bounds, within_trees}
use Rattle.gob_filled.specs.Stream.{FilledItem}
use Rattle.gob_filled.specs.Outcome.{RefusesFilled, next_refused}
use Rattle.gob_filled.proofs.Outcomes.{no_item}
use Rattle.gob_filled.proofs.Shown.{filled_shown}
use Rattle.gob_go.specs.Machine.HasRead.{StageHasRead, in_count, in_type_number, in_definition}
use Rattle.gob_go.specs.Machine.HasRead.{in_put, StandsAfter, StandsSomewhere, IsUsable}
use Rattle.gob_go.specs.Machine.SessionState.{SessionState}
use Rattle.gob_go.specs.Machine.Stages.{IsWithinItem, StageAnswers, count_at, StepsOn, goes_on, gives, refuses_it}
use Rattle.gob_go.specs.Machine.Stages.{no_memory, AdvancesOver, over_some, over_item, StepAnswersSo}
use Rattle.gob_go.specs.Reading.{RefusesWith, HasTypesWithin}
use Rattle.gob_go.specs.declared.item.GoItem.{GoItem}
use Rattle.gob_go.specs.declared.stage.Stage.{Stage}
use Rattle.gob_go.specs.declared.stage.Stage.TheVariants as stage
use Rattle.gob_go.specs.declared.stage.Stepped.{Stepped}
use Rattle.gob_go.proofs.ItemsLaws.{Grown, grown_on, items_grown, wire_of, item_ends, items_end, one_more, longest}
use Rattle.gob_go.proofs.SessionSteps.{stands_so, usable}
use Rattle.gob_go.proofs.UnderWayLaws.{unrefused, stage_grown, stage_bound}
use Rattle.gob_stream.specs.declared.session.Advance.{Advance}

pub item_of : {keep : Bool} {s : SessionState} {items : List FilledItem} {bytes : List ℕ}
    → StandsAfter keep s items bytes
    → IsWithinItem keep (within_trees s.limits) s.types s.taken s.stage
item_of a =
    let t = a.taken in let g = grown_on (items_grown a.stream) (stage_grown a.stage) in
    record {
      table = a.table;
      offset = length a.prefix;
      bytes = a.under_way;
      are_bytes = bytes_rest a.prefix a.under_way (subst AreBytes a.whole a.are_bytes);
      in_item = a.stage;
      taken_is = omega (arith, ap length a.whole, length-append a.prefix a.under_way);
      within = (let n = items_end a.stream (omega arith) in omega arith);
      known = record { base = record { more = g.more; grown = g.grown }; most = a.room };
    }

pub step_bound : {keep : Bool} {L : Bounds} {T : Table} {d d' : Defined} {offset taken : ℕ} {stepped : Stepped}
    (z piece : List ℕ)
    → offset ≤ L.stream → taken ≡ offset + length z
    → StepsOn keep L T offset d z piece d' (Ok stepped) → taken + stepped.used ≤ L.stream + 9
step_bound z piece l t (goes_on {used = used} e k s) = let n = stage_bound l s in
    omega (arith, length-append z (take used piece), length-take used piece)
step_bound z piece l t (gives {used = used} e k q w m) = let n = item_ends q in
    omega (arith, length-append z (take used piece), length-take used piece)

pub steps_few : {keep : Bool} {L : Bounds} {T : Table} {d d' : Defined} {offset : ℕ} {stepped : Stepped}
    {z piece : List ℕ}
    → StepsOn keep L T offset d z piece d' (Ok stepped) → stepped.used ≤ length piece
steps_few (goes_on e k s) = k
steps_few (gives e k q w m) = k

-- behind an item no byte of the next one was taken
pub step_between : {keep : Bool} {L : Bounds} {T : Table} {d d' : Defined} {offset taken : ℕ} {stepped : Stepped}
    (z piece : List ℕ)
    → taken ≡ offset + length z → StepsOn keep L T offset d z piece d' (Ok stepped)
    → IfSome stepped.item (λ _. stepped.stage ≡ count_at (taken + stepped.used))
step_between z piece t (goes_on e k s) = tt
step_between {taken = taken} z piece t (gives {used = used} {next = next} e k q w n) =
    ap (λ n. count_at n) (let here : next ≡ taken + used =
    omega (arith, length-append z (take used piece), length-take used piece) in here)

-- ---- the reader moves on
no_bytes : IsUnsignedPrefix []
no_bytes = begins_prefix {bytes = []} tt

take_bytes : (n : ℕ) (piece : List ℕ) → AreBytes piece → AreBytes (take n piece)
take_bytes n piece b = bytes_prefix (take n piece) (drop n piece) (subst AreBytes (sym (take-append-drop n piece)) b)

-- the reader that has moved on so
abbrev pub moved : SessionState → Defined → Stepped → SessionState
moved s d stepped = record {
  limits = s.limits;
  types = d;
  taken = s.taken + stepped.used;
  stage = stepped.stage;
  keeps = s.keeps;
}

pub advanced : {keep : Bool} {s : SessionState} {d : Defined} {items : List FilledItem} {bytes piece : List ℕ}
    {stepped : Stepped}
    (a : StandsAfter keep s items bytes) → AreBytes piece → s.limits.stream < 2 ^ 63
    → StepsOn keep (within_trees s.limits) a.table (length a.prefix) s.types a.under_way piece d (Ok stepped)
    → 0 < stepped.used
    → AdvancesOver keep (moved s d stepped) items bytes piece stepped.used stepped.item
advanced {bytes = bytes} {piece = piece} a b most (goes_on {used = used} m k st) some =
    let t = a.taken in
    over_some (λ more. some) k (record {
      prefix = a.prefix;
      under_way = a.under_way ++ take used piece;
      table = a.table;
      whole = ap (λ l. l ++ take used piece) a.whole ∙ append_assoc a.prefix a.under_way (take used piece);
      are_bytes = bytes-append bytes (take used piece) a.are_bytes (take_bytes used piece b);
      stream = a.stream;
      stage = st;
      taken = omega (arith, length-append bytes (take used piece), length-take used piece);
      room = m ∙ a.room;
      kept = a.kept;
    })
advanced {keep = keep} {s = s} {d = d} {bytes = bytes} {piece = piece} a b most
    (gives {used = used} {next = next} m k q w n) some =
    let t = a.taken in let few = item_ends q in
    let all = a.prefix ++ (a.under_way ++ take used piece) in
    let here : next ≡ length (a.prefix ++ (a.under_way ++ take used piece)) =
    omega (arith, length-append a.prefix (a.under_way ++ take used piece)) in
    let behind : StageHasRead keep (within_trees s.limits) (types d) (length all) (types d) (count_at (length all)) [] =
    in_count [] refl (record {
      begins = refl;
      ends = refl;
      bytes = refl;
      prefix = no_bytes;
      room = omega (arith, length-append a.prefix (a.under_way ++ take used piece));
    }) in
    over_item some k w (record {
      prefix = all;
      under_way = [];
      table = types d;
      whole = ap (λ l. l ++ take used piece) a.whole ∙ append_assoc a.prefix a.under_way (take used piece)
          ∙ sym (append-nil all);
      are_bytes = bytes-append bytes (take used piece) a.are_bytes (take_bytes used piece b);
      stream = one_more a.stream (omega arith) q;
      stage = subst (λ n. StageHasRead keep (within_trees s.limits) (types d) (length all) (types d) (count_at n) [])
          (sym here) behind;
      taken = omega (arith, length-append bytes (take used piece), length-take used piece);
      room = m ∙ a.room;
      kept = a.kept;
    })

pub usable_on : {s s' : SessionState} {piece : List ℕ} {used : ℕ} {given : Option GoItem} → StandsSomewhere s
    → ((items : List FilledItem) (bytes : List ℕ) → StandsAfter s.keeps s items bytes
    → AdvancesOver s.keeps s' items bytes piece used given) → IsUsable s'
usable_on {s = s} {s' = s'} {piece = piece} a f =
    over (f a.items a.bytes a.after)
  where
    over : {used : ℕ} {given : Option GoItem} → AdvancesOver s.keeps s' a.items a.bytes piece used given → IsUsable s'
    over (over_some p l b) = usable b
    over (over_item p l w b) = usable b

-- what a step answers where it is known what is kept
pub kept_step : {keep : Bool} {s : SessionState} {items : List FilledItem} {bytes : List ℕ} (s' : SessionState)
    (piece : List ℕ) (result : Result (Advance GoItem) Fault) → StandsAfter keep s items bytes
    → (StandsAfter s.keeps s items bytes → StepAnswersSo s.keeps s s' items bytes piece result)
    → StepAnswersSo keep s s' items bytes piece result
kept_step {s = s} {items = items} {bytes = bytes} s' piece result a f =
    subst (λ k. StepAnswersSo k s s' items bytes piece result) a.kept (f (stands_so a))

pub kept_advance : {keep : Bool} {s s' : SessionState} {items : List FilledItem} {bytes piece : List ℕ} {used : ℕ}
    {given : Option GoItem} → StandsAfter keep s items bytes
    → (StandsAfter s.keeps s items bytes → AdvancesOver s.keeps s' items bytes piece used given)
    → AdvancesOver keep s' items bytes piece used given
kept_advance {s' = s'} {items = items} {bytes = bytes} {piece = piece} {used = used} {given = given} a f =
    subst (λ k. AdvancesOver k s' items bytes piece used given) a.kept (f (stands_so a))

-- ---- or stops

-- a refusal is shown by more than the bytes before
shown_later : {keep : Bool} {L : Bounds} {T U : Table} {offset : ℕ} {expects : Stage} {y : List ℕ} {R : Refusal}
    (x : List ℕ)
    → StageHasRead keep L T offset U expects y → Grown base_table T → RefusesFilled base_table L T offset (y ++ x) R
    → offset + length y < R.seen
shown_later {L = L} {T = T} {offset = offset} {y = y} {R = R} x s g h =
    elim (cases_lt (offset + length y) R.seen) [
      | inl l ↦ l
      | inr l ↦ absurd (unrefused s (subst (λ z. RefusesFilled base_table L T offset z R) (append-nil y)
          (filled_shown y x [] (wire_of g) h l)))
    ]

pub stopped_by : {keep : Bool} {s : SessionState} {items : List FilledItem} {bytes piece : List ℕ} {d : Defined}
    {f : Fault}
    (s' : SessionState) (a : StandsAfter keep s items bytes) → s'.types ≡ d
    → StepsOn keep (within_trees s.limits) a.table (length a.prefix) s.types a.under_way piece d (Err f)
    → StepAnswersSo keep s s' items bytes piece (Err f)
stopped_by {s = s} {items = items} {bytes = bytes} {piece = piece} {d = d} s' a e (refuses_it {R = R} r) =
    let all = ap (λ l. l ++ piece) a.whole ∙ append_assoc a.prefix a.under_way piece in
    let later = shown_later piece a.stage (items_grown a.stream) r.refuses in (
      record {
        outcome = record {
          gives = record {
            begins = record {
              prefix = a.prefix;
              rest = a.under_way ++ piece;
              table = a.table;
              stream = a.stream;
              whole = all;
            };
            longest = longest (a.under_way ++ piece) a.stream all (λ i U b x h k. no_item x h
                (subst (λ z. RefusesFilled base_table (within_trees s.limits) a.table (length a.prefix) z R) k
                r.refuses));
          };
          ends = next_refused (a.under_way ++ piece) a.stream all r.refuses;
        };
        shown = r.shown;
      },
      record {
        prefix = a.prefix;
        rest = a.under_way ++ piece;
        table = a.table;
        stream = a.stream;
        whole = all;
        refuses = subst (λ d. RefusesWith (within_trees s.limits) a.table (length a.prefix) (a.under_way ++ piece) R
            (types d)) (sym e) r;
      },
      omega (arith, ap length a.whole, length-append a.prefix a.under_way),
    )
stopped_by {s = s} {piece = piece} {d = d} s' a e (no_memory h) = record {
  prefix = a.prefix;
  rest = a.under_way ++ piece;
  table = a.table;
  stream = a.stream;
  whole = ap (λ l. l ++ piece) a.whole ∙ append_assoc a.prefix a.under_way piece;
  within = subst (λ d. HasTypesWithin (within_trees s.limits) a.table (length a.prefix) (a.under_way ++ piece)
      (types d)) (sym e) h;
}

-- by whichever name the session goes
pub stopped_there : {keep : Bool} {s t : SessionState} {items : List FilledItem} {bytes piece : List ℕ} {d : Defined}
    {f : Fault} (s' : SessionState) → s ≡ t → s'.types ≡ d
    → ((a : StandsAfter s.keeps s items bytes)
    → StepsOn s.keeps (within_trees s.limits) a.table (length a.prefix) s.types a.under_way piece d (Err f))
    → StandsAfter keep t items bytes → StepAnswersSo keep t s' items bytes piece (Err f)
stopped_there {keep = keep} {s = s} {items = items} {bytes = bytes} {piece = piece} {f = f} s' e k h a =
    let b = subst (λ s. StandsAfter keep s items bytes) (sym e) a in
    subst (λ s. StepAnswersSo keep s s' items bytes piece (Err f)) e
    (kept_step s' piece (Err f) b (λ c. stopped_by s' c k (h c)))

-- no read failed
pub never_read : {keep : Bool} {L : Bounds} {T : Table} {d d' : Defined} {offset : ℕ} {z piece : List ℕ} {f : Fault}
    → StepsOn keep L T offset d z piece d' (Err f) → f ≡ fault.Read → ⊥
never_read (refuses_it r) is = cc
never_read (no_memory h) is = cc

-- by whichever name what was expected goes
pub within_there : {keep : Bool} {L : Bounds} {d : Defined} {taken : ℕ} {old now : Stage} → now ≡ old
    → IsWithinItem keep L d taken old
    → IsWithinItem keep L d taken now
within_there {keep = keep} {L = L} {d = d} {taken = taken} e s = subst (λ st. IsWithinItem keep L d taken st) (sym e) s

-- and so much was taken with it, and no byte of the next item
pub advance_bound : {keep : Bool} {s : SessionState} {d : Defined} {items : List FilledItem} {bytes piece : List ℕ}
    {stepped : Stepped} (a : StandsAfter keep s items bytes)
    → StepsOn keep (within_trees s.limits) a.table (length a.prefix) s.types a.under_way piece d (Ok stepped)
    → s.taken + stepped.used ≤ s.limits.stream + 9
advance_bound {piece = piece} a h =
    let t = a.taken in
    let l = items_end a.stream (omega arith) in
    step_bound a.under_way piece (omega arith) (omega (arith, ap length a.whole, length-append a.prefix a.under_way)) h

pub advance_between : {keep : Bool} {s : SessionState} {d : Defined} {items : List FilledItem} {bytes piece : List ℕ}
    {stepped : Stepped} (a : StandsAfter keep s items bytes)
    → StepsOn keep (within_trees s.limits) a.table (length a.prefix) s.types a.under_way piece d (Ok stepped)
    → IfSome stepped.item (λ _. stepped.stage ≡ count_at (s.taken + stepped.used))
advance_between {piece = piece} a h =
    let t = a.taken in
    step_between a.under_way piece (omega (arith, ap length a.whole, length-append a.prefix a.under_way)) h

-- and so what its stage answers is of the bytes under way
pub stepped_on : {keep : Bool} {s : SessionState} {d' : Defined} {items : List FilledItem} {bytes piece : List ℕ}
    {now : Stage}
    {result : Result Stepped Fault} → now ≡ s.stage
    → StageAnswers keep (within_trees s.limits) s.types d' now piece result
    → AreBytes piece → (a : StandsAfter keep s items bytes)
    → StepsOn keep (within_trees s.limits) a.table (length a.prefix) s.types a.under_way piece d' result
stepped_on {keep = keep} {s = s} {piece = piece} e r b a =
    r.each a.table (length a.prefix) a.under_way
    (subst (λ st. StageHasRead keep (within_trees s.limits) a.table (length a.prefix) (types s.types) st
    a.under_way) (sym e)
    a.stage)
    (bytes-append a.under_way piece (bytes_rest a.prefix a.under_way (subst AreBytes a.whole a.are_bytes)) b)

-- where the piece has no byte there is no step
pub over_nothing : {keep : Bool} {s : SessionState} {items : List FilledItem} {bytes piece : List ℕ} → length piece ≡ 0
    → StandsAfter keep s items bytes → AdvancesOver keep s items bytes piece 0 None
over_nothing {keep = keep} {s = s} {items = items} {bytes = bytes} none a =
    over_some (λ some. omega arith) (omega arith) (subst (λ b. StandsAfter keep s items b) (sym (append-nil bytes)) a)

-- a session that has failed has read nothing
pub not_read : {keep : Bool} {s : SessionState} {items : List FilledItem} {bytes : List ℕ} {A : Type 0}
    → StandsAfter keep s items bytes
    → s.stage ≡ stage.Failed → A
not_read {keep = keep} {s = s} a e = absurd (none a.stage e)
  where
    none : {L : Bounds} {T U : Table} {offset : ℕ} {expects : Stage} {y : List ℕ}
        → StageHasRead keep L T offset U expects y → expects ≡ stage.Failed → ⊥
    none (in_count q g n) e = cc
    none (in_type_number a g k n) e = cc
    none (in_definition a y g k d) e = cc
    none (in_put p) e = cc
