-- What follows behind the bytes that were taken of the item of a value.
use Rattle.std.proofs.Common.{Bool}
use Rattle.std.proofs.Common.{◌≡◌, ℕ, ◌+◌, ◌≤◌, List, ◌++◌, length, take, drop, Option, Some, None, Ok}
use Rattle.std.proofs.Common.{Err, arith, refl, sym, ap, ◌∙◌, subst, append_assoc, length-append, length-drop}
use Rattle.std.proofs.lemmas.List.{length-take, drop-take, take-append-drop}
use Rattle.gob_read.proofs.PublicLaws.{take_fewer}
use Rattle.gob_types.specs.Defined.{Defined, types}
use Rattle.gob_types.specs.Table.{Table}
use Rattle.gob_stream.specs.declared.fault.Fault.{Fault}
use Rattle.gob_stream.specs.Bounds.{Bounds}
use Rattle.gob_go.specs.declared.filled.Filled.{Filled, out-Filled}
use Rattle.gob_go.specs.declared.item.GoItem.TheVariants as item
use Rattle.gob_go.specs.declared.level.Level.{Level}
use Rattle.gob_go.specs.declared.levels.Levels.{Levels}
use Rattle.gob_go.specs.declared.part.PutPart.{PutPart}
use Rattle.gob_go.specs.declared.part.PartTaken.{PartTaken}
use Rattle.gob_go.specs.declared.put.PutStage.{PutStage}
use Rattle.gob_go.specs.declared.stage.Stage.TheVariants as stage
use Rattle.gob_go.specs.declared.stage.Stepped.{Stepped}
use Rattle.gob_go.specs.Meaning.{means_value, is_filled, IsFilled}
use Rattle.gob_go.specs.Reading.{RefusesWith, HasTypesWithin}
use Rattle.gob_go.specs.declared.levels.Goes.{Goes}
use Rattle.gob_go.specs.Machine.HasRead.{PartHasRead, PutIsWhole, StageHasRead, in_put}
use Rattle.gob_go.specs.Machine.Stages.{IsWithinItem, IsInPut}
use Rattle.gob_go.specs.Machine.Stages.{count_at, StageBehind, PartSteps, part_goes_on, item_ends, part_refused}
use Rattle.gob_go.specs.Machine.Stages.{GoesSteps, value_goes_on, goes_to_end, goes_refused, no_memory_there}
use Rattle.gob_go.specs.Machine.Stages.{behind_value, no_memory_for_part, StepsOn, goes_on, gives, refuses_it}
use Rattle.gob_go.specs.Machine.Stages.{no_memory}

pub none_behind : (levels : Levels) (taken used : ℕ) {next : Option PutPart} {stepped : Stepped} {innermost : Level}
    (kept : Filled) → next ≡ None → innermost ≡ levels.innermost
    → (out-Filled kept).skeleton ≡ innermost.skeleton.bytes → (out-Filled kept).fillings ≡ innermost.fillings
    → stepped ≡ record { used = used; stage = count_at (taken + used); item = Some (item.Put innermost.id kept) }
    → StageBehind levels taken used next stepped
none_behind levels taken used {stepped = stepped} kept n i s f e =
    subst (λ next. StageBehind levels taken used next stepped) (sym n) (
      kept,
      s ∙ ap (λ (l : Level). l.skeleton.bytes) i,
      f ∙ ap (λ (l : Level). l.fillings) i,
      e ∙ ap (λ (l : Level). record {
        used = used;
        stage = count_at (taken + used);
        item = Some (item.Put l.id kept);
      }) i,
    )

pub taken_then : (xs : List ℕ) (n m : ℕ) → take n xs ++ take m (drop n xs) ≡ take (n + m) xs
taken_then xs n m =
    ap (λ (l : List ℕ). l ++ take m (drop n xs)) (sym (take_fewer xs n (n + m) (omega arith)))
    ∙ ap (λ (l : List ℕ). take n (take (n + m) xs) ++ l) (sym (drop-take n m xs))
    ∙ take-append-drop n (take (n + m) xs)

pub both_taken : (z piece : List ℕ) (used more : ℕ)
    → (z ++ take used piece) ++ take more (drop used piece) ≡ z ++ take (used + more) piece
both_taken z piece used more =
    append_assoc z (take used piece) (take more (drop used piece))
    ∙ ap (λ (l : List ℕ). z ++ l) (taken_then piece used more)

pub all_taken : (z piece : List ℕ) (used : ℕ) → (z ++ take used piece) ++ drop used piece ≡ z ++ piece
all_taken z piece used = append_assoc z (take used piece) (drop used piece)
    ∙ ap (λ (l : List ℕ). z ++ l) (take-append-drop used piece)

-- the step of a part is one of its item
pub part_stepped : {keep : Bool} {L : Bounds} {T : Table} {offset at : ℕ} {d d' : Defined} {z piece : List ℕ}
    {levels : Levels}
    {taken : PartTaken} (stepped : Stepped) → PartSteps keep L T offset d z piece levels d' (Ok taken)
    → at ≡ offset + length z → StageBehind levels at taken.used taken.next stepped
    → StepsOn keep L T offset d z piece d' (Ok stepped)
part_stepped {keep = keep} {L = L} {T = T} {offset = offset} {d = d} {d' = d'} {z = z} {piece = piece} stepped
    (part_goes_on m w h) a b =
    subst (λ s. StepsOn keep L T offset d z piece d' (Ok s)) (sym b) (goes_on m w (in_put h))
part_stepped {keep = keep} {L = L} {T = T} {offset = offset} {at = at} {d = d} {d' = d'} {z = z} {piece = piece}
    {levels = levels}
    stepped (item_ends {used = used} m w h) a b =
    let kept = b.0 in
    subst (λ s. StepsOn keep L T offset d z piece d' (Ok s)) (sym b.3)
    (gives m w h.item (λ on. means_value (subst (λ v. IsFilled (types d') levels.innermost.id kept v) (sym h.value_is)
    (is_filled (rw b.1 (h.spelled on)) (rw b.2 (h.filled on)))))
    (omega (arith, length-append z (take used piece), length-take used piece)))

pub part_stopped : {keep : Bool} {L : Bounds} {T : Table} {offset : ℕ} {d d' : Defined} {z piece : List ℕ}
    {levels : Levels}
    (f : Fault) → PartSteps keep L T offset d z piece levels d' (Err f) → StepsOn keep L T offset d z piece d' (Err f)
part_stopped f (part_refused r) = refuses_it r
part_stopped f (no_memory_for_part t) = no_memory t

-- behind bytes that were taken before
pub part_behind : {keep : Bool} {L : Bounds} {T : Table} {offset : ℕ} {d d' : Defined} {z piece : List ℕ}
    {levels : Levels} (used : ℕ)
    (taken : PartTaken) → PartSteps keep L T offset d (z ++ take used piece) (drop used piece) levels d' (Ok taken)
    → used ≤ length piece
    → PartSteps keep L T offset d z piece levels d' (Ok (record { used = used + taken.used; next = taken.next }))
part_behind {keep = keep} {L = L} {T = T} {offset = offset} {d' = d'} {z = z} {piece = piece} {levels = levels} used
    taken
    (part_goes_on {next = next} {used = more} m w h) l =
    part_goes_on m (omega (arith, length-drop used piece))
    (subst (λ y. PartHasRead keep L T offset (types d') levels next y) (both_taken z piece used more) h)
part_behind {keep = keep} {L = L} {T = T} {offset = offset} {d' = d'} {z = z} {piece = piece} {levels = levels} used
    taken
    (item_ends {used = more} m w h) l =
    item_ends m (omega (arith, length-drop used piece))
    (subst (λ y. PutIsWhole keep L T offset (types d') levels y) (both_taken z piece used more) h)

pub part_stopped_behind : {keep : Bool} {L : Bounds} {T : Table} {offset : ℕ} {d d' : Defined} {z piece : List ℕ}
    {levels : Levels}
    (used : ℕ) (f : Fault) → PartSteps keep L T offset d (z ++ take used piece) (drop used piece) levels d' (Err f)
    → PartSteps keep L T offset d z piece levels d' (Err f)
part_stopped_behind {L = L} {T = T} {offset = offset} {d' = d'} {z = z} {piece = piece} used f
    (part_refused {R = R} r) =
    part_refused (subst (λ y. RefusesWith L T offset y R (types d')) (all_taken z piece used) r)
part_stopped_behind {L = L} {T = T} {offset = offset} {d' = d'} {z = z} {piece = piece} used f (no_memory_for_part t) =
    no_memory_for_part (subst (λ y. HasTypesWithin L T offset y (types d')) (all_taken z piece used) t)

-- what ended values go on with
pub goes_behind : {keep : Bool} {L : Bounds} {T : Table} {offset used : ℕ} {d : Defined} {z piece : List ℕ}
    {levels : Levels}
    (goes : Goes) → GoesSteps keep L T offset d (z ++ take used piece) levels (Ok goes) → used ≤ length piece
    → PartSteps keep L T offset d z piece levels d (Ok (record { used = used; next = behind_value goes }))
goes_behind goes (value_goes_on h) l = part_goes_on refl l h
goes_behind goes (goes_to_end h) l = item_ends refl l h

pub goes_stopped : {keep : Bool} {L : Bounds} {T : Table} {offset : ℕ} {d : Defined} {z piece : List ℕ}
    {levels : Levels}
    (used : ℕ) (f : Fault) → GoesSteps keep L T offset d (z ++ take used piece) levels (Err f)
    → HasTypesWithin L T offset (z ++ piece) (types d) → PartSteps keep L T offset d z piece levels d (Err f)
goes_stopped {L = L} {T = T} {offset = offset} {d = d} {z = z} {piece = piece} used f (goes_refused {R = R} r) t =
    part_refused (subst (λ y. RefusesWith L T offset y R (types d)) (all_taken z piece used) (r (drop used piece)))
goes_stopped used f no_memory_there t = no_memory_for_part t

pub in_put_of : {keep : Bool} {L : Bounds} {T : Table} {offset : ℕ} {U : Table} {put : PutStage} {z : List ℕ}
    → StageHasRead keep L T offset U (stage.Put put) z → PartHasRead keep L T offset U put.levels put.part z
in_put_of (in_put h) = h

pub is_in_put : {keep : Bool} {L : Bounds} {d : Defined} {taken : ℕ} {put : PutStage}
    → IsWithinItem keep L d taken (stage.Put put)
    → IsInPut keep L d taken put.levels put.part
is_in_put w = record {
  table = w.table;
  offset = w.offset;
  bytes = w.bytes;
  are_bytes = w.are_bytes;
  has_read = in_put_of w.in_item;
  taken_is = w.taken_is;
  within = w.within;
  known = w.known;
}
