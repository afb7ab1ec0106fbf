-- What a session reads step by step, written again.
use Rattle.std.proofs.Common.{◌≡◌, ℕ, ◌+◌, ◌-◌, List, [], ◌∷◌, ◌++◌, length, take, drop, Some, None, refl, sym, ap}
use Rattle.std.proofs.Common.{Err, subst, ◌∙◌, append_assoc, arith, true}
use Rattle.std.proofs.Math.Seq.{take-add}
use Rattle.std.proofs.lemmas.List.{take-append-drop, take_rest}
use Rattle.gob_types.specs.Base.{base_table}
use Rattle.gob_types.specs.Defined.{types}
use Rattle.gob_types.specs.Table.{Table, shape_of}
use Rattle.gob_stream.specs.Bounds.{Bounds, within_trees}
use Rattle.gob_filled.specs.Outcome.{FilledOutcome, the_end, EndsFilled, at_the_end}
use Rattle.gob_filled.specs.Stream.{FilledItem, FilledStream}
use Rattle.gob_stream.specs.declared.fault.Fault.{Fault}
use Rattle.gob_stream.specs.declared.fault.Fault.TheVariants as fault
use Rattle.gob_go.specs.Calls.Session.{FinishAnswers, HasRead, IsBetweenItems, StepAnswers}
use Rattle.gob_go.specs.declared.item.GoItem.{GoItem}
use Rattle.gob_go.specs.declared.stage.Stage.{Stage}
use Rattle.gob_go.specs.Machine.HasRead.{StageHasRead, in_count, in_type_number, in_definition, in_put}
use Rattle.gob_go.specs.Machine.SessionState.{SessionState}
use Rattle.gob_go.specs.Machine.Stages.{count_at, AdvancesOver, over_some, over_item}
use Rattle.gob_go.proofs.ItemsLaws.{last_of, one_reading}
use Rattle.gob_go_writer.specs.Item.{IsItemOf}
use Rattle.gob_go_writer.specs.Calls.Again.{HasWritten, IsStream, StopsAgain}

-- a session that has taken nothing, and nothing written
pub nothing_written : {s : SessionState} → HasRead s [] [] → HasWritten s [] []
nothing_written h = record { items = []; after = h; written = front_of h.prefix h.under_way h.whole }
  where
    front_of : (p q : List ℕ) → [] ≡ p ++ q → [] ≡ p
    front_of [] q e = refl
    front_of (x ∷ p) q e = absurd (cc e)

-- the bytes of the items are the same, however many bytes came behind them
same_prefix : {s : SessionState} (s' : SessionState) {items : List FilledItem} {bytes p : List ℕ} {U : Table}
    (more y : List ℕ) (h : HasRead s items bytes) → s'.limits ≡ s.limits
    → FilledStream base_table (within_trees s'.limits) items p U → bytes ++ more ≡ p ++ y → h.prefix ≡ p
same_prefix s' {items = items} {p = p} {U = U} more y h e stream f =
    (one_reading (h.under_way ++ more) y h.stream
    (subst (λ (L : Bounds). FilledStream base_table (within_trees L) items p U) e stream)
    (sym (append_assoc h.prefix h.under_way more) ∙ ap (λ b. b ++ more) (sym h.whole) ∙ f)).bytes

-- no item is whole with the bytes that were taken
pub none_written : {s s' : SessionState} {bytes out piece : List ℕ} {used : ℕ} (h : HasWritten s bytes out)
    → s'.limits ≡ s.limits → AdvancesOver true s' h.items bytes piece used None
    → HasWritten s' (bytes ++ take used piece) out
none_written {s' = s'} {piece = piece} {used = used} h e (over_some some few after) = record {
  items = h.items;
  after = after;
  written = h.written ∙ same_prefix s' (take used piece) after.under_way h.after e after.stream after.whole;
}

-- between items the types are those behind the last one
types_between : {L : Bounds} {T U : Table} {offset n : ℕ} {st : Stage} {z : List ℕ}
    → StageHasRead true L T offset U st z → st ≡ count_at n → U ≡ T
types_between (in_count q e n) f = e
types_between (in_type_number a e c n) f = absurd (cc f)
types_between (in_definition a y e c d) f = absurd (cc f)
types_between (in_put p) f = absurd (cc f)

pub record WritesItem (s' : SessionState) (given : GoItem) (bytes out : List ℕ) : Type 0 where
  pub spelling : List ℕ
  pub is : IsItemOf (types s'.types) given spelling
  pub written : (new : List ℕ) → new ≡ out ++ spelling → HasWritten s' bytes new

-- one is
pub item_written : {s s' : SessionState} {bytes out piece : List ℕ} {used : ℕ} {given : GoItem}
    (h : HasWritten s bytes out) → s'.limits ≡ s.limits → IsBetweenItems s'
    → AdvancesOver true s' h.items bytes piece used (Some given)
    → WritesItem s' given (bytes ++ take used piece) out
item_written {s' = s'} {piece = piece} {used = used} h e between (over_item {i = i} some few means after) =
    let last = last_of h.items after.stream in
    let same : h.after.prefix ≡ last.before = same_prefix s' (take used piece)
    (last.bytes ++ after.under_way) h.after e last.items_are
    (after.whole ∙ ap (λ b. b ++ after.under_way) last.whole ∙ append_assoc last.before last.bytes after.under_way) in
    let here : types s'.types ≡ after.table = types_between after.stage between in
    record {
      spelling = last.bytes;
      is = record {
        limits = within_trees s'.limits;
        before = last.table;
        behind = after.table;
        offset = 0 + length last.before;
        item = i;
        means = means refl;
        is = last.item;
        grown = λ t s m. subst (λ U. shape_of U t ≡ Some s) (sym here) m;
        shallow = omega arith;
      };
      written = λ new f. record {
        items = h.items ++ i ∷ [];
        after = after;
        written = f ∙ ap (λ b. b ++ last.bytes) (h.written ∙ same) ∙ sym last.whole;
      };
    }

-- all of a stream
whole_prefix : {s : SessionState} {items : List FilledItem} {bytes : List ℕ} (after : HasRead s items bytes)
    → EndsFilled base_table (within_trees s.limits) bytes items the_end → after.prefix ≡ bytes
whole_prefix {s = s} after (at_the_end stream) = same_prefix s [] [] after refl stream refl

pub all_written : {s : SessionState} {bytes out : List ℕ} (h : HasWritten s bytes out)
    → FilledOutcome base_table (within_trees s.limits) bytes h.items the_end → out ≡ bytes
all_written h o = h.written ∙ whole_prefix h.after o.ends

-- the bytes up to here, and a step behind them
pub step_further : (bytes : List ℕ) (used step : ℕ)
    → take used bytes ++ take step (take (length bytes - used) (drop used bytes)) ≡ take (used + step) bytes
step_further bytes used step =
    ap (λ l. take used bytes ++ take step l) (take_rest bytes used) ∙ sym (take-add used step bytes)

-- so all of them
pub further : (bytes : List ℕ) (used : ℕ) → take used bytes ++ take (length bytes - used) (drop used bytes) ≡ bytes
further bytes used = ap (λ l. take used bytes ++ l) (take_rest bytes used) ∙ take-append-drop used bytes

-- a step that is refused, or lacks memory
pub step_stops : (s s' : SessionState) (items : List FilledItem) (bytes piece : List ℕ) (e : Fault)
    → StepAnswers s s' items bytes piece (Err e) → StopsAgain (within_trees s.limits) (bytes ++ piece) e
step_stops s s' items bytes piece (fault.Refused R) a = (items, a.0.outcome)
step_stops s s' items bytes piece fault.Memory a = tt
step_stops s s' items bytes piece fault.Read a = absurd a
step_stops s s' items bytes piece fault.Failed a = absurd a

-- the end of the bytes, where an item is under way
pub end_stops : (s s' : SessionState) (items : List FilledItem) (bytes : List ℕ) (e : Fault)
    → FinishAnswers s s' items bytes (Err e) → StopsAgain (within_trees s.limits) bytes e
end_stops s s' items bytes (fault.Refused R) a = (items, a.0)
end_stops s s' items bytes fault.Memory a = absurd a
end_stops s s' items bytes fault.Read a = absurd a
end_stops s s' items bytes fault.Failed a = absurd a

-- all that was read is a stream
pub all_read : {s : SessionState} {bytes out : List ℕ} (h : HasWritten s bytes out) → out ≡ bytes
    → IsStream (within_trees s.limits) bytes
all_read {s = s} h e = (
  h.items,
  h.after.table,
  subst (λ b. FilledStream base_table (within_trees s.limits) h.items b h.after.table) (sym h.written ∙ e)
      h.after.stream,
)
