-- What a session answers at the end of its input.
use Rattle.std.proofs.Common.{Bool}
use Rattle.std.proofs.Common.{◌≡◌, ◌≢◌, ℕ, List, [], ◌∷◌, ◌++◌, length, arith, refl, sym, ap, ◌∙◌, subst, length-append}
use Rattle.std.proofs.lemmas.List.{append-nil}
use Rattle.gob_num.specs.Unsigned.{IsUnsigned}
use Rattle.gob_num.proofs.PublicLaws.{unsigned_length}
use Rattle.gob_types.specs.declared.reason.Reason.TheVariants as reason
use Rattle.gob_types.specs.Base.{base_table}
use Rattle.gob_types.specs.Table.{Table}
use Rattle.gob_stream.specs.declared.fault.Refusal.{Refusal}
use Rattle.gob_stream.specs.Bounds.{Bounds, within_trees}
use Rattle.gob_stream.specs.Refusing.{refuses}
use Rattle.gob_filled.specs.Outcome.{BeginsFilled, LongestFilled, FilledOutcome, at_the_end, within_an_item, the_end}
use Rattle.gob_filled.specs.Outcome.{refused}
use Rattle.gob_filled.specs.Stream.{FilledItem, FilledStream}
use Rattle.gob_filled.proofs.Refused.{begins}
use Rattle.gob_go.specs.Machine.HasRead.{StageHasRead, in_count, in_type_number, in_definition, in_put, StandsAfter}
use Rattle.gob_go.specs.Machine.SessionState.{SessionState}
use Rattle.gob_go.specs.declared.count.ItemCount.{ItemCount}
use Rattle.gob_go.specs.declared.stage.Stage.{Stage}
use Rattle.gob_go.specs.declared.stage.Stage.TheVariants as stage
use Rattle.gob_go.proofs.ItemsLaws.{longest}
use Rattle.gob_go.proofs.UnderWayLaws.{no_item_yet, unrefused, part_at_rest}

-- ---- where an item begins

-- the count of the next item is expected from there on
pub record ExpectsCount (offset : ℕ) (expects : Stage) : Type 0 where
  pub at : ItemCount
  pub is : expects ≡ stage.Count at
  pub begins_at : at.number.rest.begin ≡ offset

not_nothing : {m : ℕ} {c : List ℕ} {A : Type 0} (y : List ℕ) → IsUnsigned m c → c ++ y ≡ [] → A
not_nothing {c = c} y u e =
    absurd (let l = (unsigned_length u).0 in omega (arith, ap length e, length-append c y))

pub nothing_expects : {keep : Bool} {L : Bounds} {T U : Table} {offset : ℕ} {expects : Stage} {y : List ℕ}
    → StageHasRead keep L T offset U expects y → y ≡ [] → ExpectsCount offset expects
nothing_expects (in_count q g n) e = record { at = _; is = refl; begins_at = n.begins }
nothing_expects (in_type_number a g k n) e = not_nothing a k.count e
nothing_expects (in_definition a y g k d) e = not_nothing (a ++ y) k.count e
nothing_expects {y = y} (in_put p) e =
    let a = part_at_rest p in
    let b = begins a.behind y a.stands a.whole in
    not_nothing (b.number ++ b.rest) b.counts (sym b.whole ∙ e)

-- what is expected is the count of an item that begins at the offset
count_begins : {keep : Bool} {L : Bounds} {T U : Table} {offset : ℕ} {expects : Stage} {y : List ℕ} {at : ItemCount}
    → StageHasRead keep L T offset U expects y → expects ≡ stage.Count at → at.number.rest.begin ≡ offset
count_begins {at = at} (in_count {number = number} q g n) e =
    let same : record { number = number } ≡ at = cc in
    ap (λ (at : ItemCount). at.number.rest.begin) (sym same) ∙ n.begins
count_begins (in_type_number a g k n) e = absurd (cc)
count_begins (in_definition a y g k d) e = absurd (cc)
count_begins (in_put p) e = absurd (cc)

no_bytes : (z : List ℕ) → length z ≡ 0 → z ≡ []
no_bytes [] e = refl
no_bytes (x ∷ z) e = absurd (omega arith)

-- no byte of it came
pub count_begins_here : {keep : Bool} {s : SessionState} {items : List FilledItem} {bytes : List ℕ} {at : ItemCount}
    (a : StandsAfter keep s items bytes) → s.stage ≡ stage.Count at → at.number.rest.begin ≡ s.taken → a.under_way ≡ []
count_begins_here a e f =
    let begin = count_begins a.stage e in let t = a.taken in
    no_bytes a.under_way (omega (arith, ap length a.whole, length-append a.prefix a.under_way))

-- one count is expected
pub one_begin : {expects : Stage} {at others : ItemCount} → expects ≡ stage.Count at → expects ≡ stage.Count others
    → at.number.rest.begin ≡ others.number.rest.begin
one_begin {at = at} {others = others} e f =
    let same : at ≡ others = cc in ap (λ (at : ItemCount). at.number.rest.begin) same

-- ---- what the bytes give
behind_stream : {keep : Bool} {s : SessionState} {items : List FilledItem} {bytes : List ℕ}
    → StandsAfter keep s items bytes
    → BeginsFilled base_table (within_trees s.limits) bytes items
behind_stream a = record {
  prefix = a.prefix;
  rest = a.under_way;
  table = a.table;
  stream = a.stream;
  whole = a.whole;
}

-- and with no longer one
pub given_longest : {keep : Bool} {s : SessionState} {items : List FilledItem} {bytes : List ℕ}
    → StandsAfter keep s items bytes
    → LongestFilled base_table (within_trees s.limits) bytes items
given_longest a = record {
  begins = behind_stream a;
  longest = longest a.under_way a.stream a.whole (λ i U b x h k. no_item_yet x a.stage h k);
}

-- between two items they are the end of a stream
pub after_none : {keep : Bool} {s : SessionState} {items : List FilledItem} {bytes : List ℕ}
    (a : StandsAfter keep s items bytes)
    → a.under_way ≡ [] → FilledOutcome base_table (within_trees s.limits) bytes items the_end
after_none {s = s} {items = items} a e =
    let all = a.whole ∙ ap (λ l. a.prefix ++ l) e ∙ append-nil a.prefix in
    record {
      gives = given_longest a;
      ends = at_the_end (subst (λ b. FilledStream base_table (within_trees s.limits) items b a.table) (sym all)
          a.stream);
    }

-- within an item they end too early
after_some : {keep : Bool} {s : SessionState} {items : List FilledItem} {bytes : List ℕ}
    (a : StandsAfter keep s items bytes)
    → a.under_way ≢ []
    → FilledOutcome base_table (within_trees s.limits) bytes items
    (refused (refuses (length bytes) (length bytes) reason.Ended))
after_some a n = record {
  gives = given_longest a;
  ends = within_an_item a.under_way a.stream a.whole n (λ R h. unrefused a.stage h);
}

pub ended_within : {keep : Bool} {s : SessionState} {items : List FilledItem} {bytes : List ℕ} {R : Refusal}
    → StandsAfter keep s items bytes
    → ((at : ItemCount) → s.stage ≡ stage.Count at → at.number.rest.begin ≢ s.taken)
    → R ≡ refuses s.taken s.taken reason.Ended
    → FilledOutcome base_table (within_trees s.limits) bytes items (refused R) × (R.reason ≡ reason.Ended)
ended_within {s = s} {items = items} {bytes = bytes} a n e =
    let here = e ∙ ap (λ m. refuses m m reason.Ended) a.taken in (
      subst (λ R. FilledOutcome base_table (within_trees s.limits) bytes items (refused R)) (sym here)
          (after_some a (λ u. let k = nothing_expects a.stage u in let b = k.begins_at in let t = a.taken in
          n k.at k.is (omega (arith, ap length a.whole, ap length u, length-append a.prefix a.under_way)))),
      ap (λ (R : Refusal). R.reason) e,
    )
