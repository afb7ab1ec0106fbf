-- What a session has come to within a piece, step by step.
use Rattle.std.proofs.Common.{Bool, true}
use Rattle.std.proofs.Common.{◌≡◌, ℕ, ◌≤◌, List, [], ◌∷◌, ◌++◌, length, take, drop, Option, Some, None}
use Rattle.std.proofs.Common.{IfSome, Result, Ok, Err, arith, refl, sym, ap, ◌∙◌, subst, append_assoc, length-append}
use Rattle.std.proofs.lemmas.List.{append-nil, take-append-drop}
use Rattle.gob_types.specs.Base.{base_table}
use Rattle.gob_types.specs.Defined.{types}
use Rattle.gob_types.specs.Table.{Table}
use Rattle.gob_stream.specs.declared.fault.Fault.{Fault}
use Rattle.gob_stream.specs.declared.fault.Fault.TheVariants as fault
use Rattle.gob_stream.specs.declared.fault.Refusal.{Refusal}
use Rattle.gob_stream.specs.declared.session.Advance.{Advance}
use Rattle.gob_stream.specs.Bounds.{Bounds, within_trees}
use Rattle.gob_stream.specs.Feeding.{FeedsBy, ReachesBy, StopsBy, TakesBy}
use Rattle.gob_stream.specs.Feeding.{at_item, at_step, had_failed, no_item, no_step, one_item}
use Rattle.gob_stream.specs.Reading.{Given}
use Rattle.gob_stream.proofs.Reader.ReadStreamSteps.{given_as}
use Rattle.gob_filled.specs.Outcome.{RefusesFilled, refused_count, refused_body, refused_value, RefusesAt}
use Rattle.gob_filled.specs.Outcome.{in_skeleton, short_name, as_in_an_item, inner_count, next_count, BeginsFilled}
use Rattle.gob_filled.specs.Standing.{Level, Next, Stands}
use Rattle.gob_filled.specs.Stream.{FilledItem, IsFilledItem, FilledStream}
use Rattle.gob_go.specs.Calls.Session.{FeedAnswers, FeedsHonestly, IsBetweenItems}
use Rattle.gob_go.specs.GoStepping.{StepsSo, go_stepping}
use Rattle.gob_go.specs.Machine.HasRead.{StageHasRead, in_count, in_type_number, in_definition, in_put, HasRead}
use Rattle.gob_go.specs.Machine.SessionState.{SessionState}
use Rattle.gob_go.specs.Machine.Stages.{count_at, AdvancesOver, over_some, over_item}
use Rattle.gob_go.specs.Meaning.{ItemMeans, ItemsMean, mean_none}
use Rattle.gob_go.specs.Reading.{GivesOn, ShowsRefusal, RefusesBehind, GivesOfTaken, HasTypesWithin, as_before}
use Rattle.gob_go.specs.Reading.{behind_item, within_value, behind_definition, HasTypesBeyond, types_at, types_refused}
use Rattle.gob_go.specs.declared.item.GoItem.{GoItem}
use Rattle.gob_go.specs.declared.stage.Stage.{Stage}
use Rattle.gob_go.proofs.AdvanceSteps.{not_read}
use Rattle.gob_go.proofs.HonestLaws.{always_honest}
use Rattle.gob_go.proofs.ItemsLaws.{Grown, same_grown, grown_on, grown_keeps, defines_grown, stands_grown, item_grown}
use Rattle.gob_go.proofs.ItemsLaws.{Last, last_of, one_reading, longest}
use Rattle.gob_go.proofs.MeaningLaws.{all_mean_on, one_means_more}
use Rattle.gob_go.proofs.UnderWayLaws.{stage_grown, no_item_yet}

-- the items were given behind the others, and all are those of the bytes
pub record ReadsTo (s' : SessionState) (given : List GoItem) (items : List FilledItem) (bytes : List ℕ) : Type 0 where
  pub more : List FilledItem
  pub all : List FilledItem
  pub all_are : all ≡ items ++ more
  pub after : HasRead s' all bytes
  pub mean : ItemsMean after.table given more

-- wherever the session stood, it has read these bytes more now
record HasFed (s s' : SessionState) (given : List GoItem) (z : List ℕ) : Type 0 where
  limits : s'.limits ≡ s.limits
  fed : (items : List FilledItem) (bytes : List ℕ) → HasRead s items bytes → ReadsTo s' given items (bytes ++ z)

read_none : {s : SessionState} {items : List FilledItem} {bytes : List ℕ} → HasRead s items bytes
    → ReadsTo s [] items (bytes ++ [])
read_none {s = s} {items = items} {bytes = bytes} a = record {
  more = [];
  all = items;
  all_are = sym (append-nil items);
  after = subst (λ b. HasRead s items b) (sym (append-nil bytes)) a;
  mean = mean_none;
}

stands_over : {s' : SessionState} {items : List FilledItem} {bytes piece : List ℕ} {used : ℕ} {item : Option GoItem}
    → AdvancesOver true s' items bytes piece used item → item ≡ None → HasRead s' items (bytes ++ take used piece)
stands_over (over_some p l a) e = a
stands_over (over_item p l m a) e = absurd (cc)

-- an item is whole with it
record GivesOne (s' : SessionState) (items : List FilledItem) (bytes : List ℕ) (given : GoItem) : Type 0 where
  item : FilledItem
  mean : ItemMeans (types s'.types) given item
  after : HasRead s' (items ++ item ∷ []) bytes

gives_over : {s' : SessionState} {items : List FilledItem} {bytes piece : List ℕ} {used : ℕ} {item : Option GoItem}
    {given : GoItem} → AdvancesOver true s' items bytes piece used item → item ≡ Some given
    → GivesOne s' items (bytes ++ take used piece) given
gives_over (over_some p l a) e = absurd (cc)
gives_over {s' = s'} {given = given} (over_item {given = one} {i = i} p l m a) e =
    let same : one ≡ given = cc in
    record { item = i; mean = subst (λ x. ItemMeans (types s'.types) x i) same (m refl); after = a }

-- behind which no byte was taken, so the types are those of the stream
pub between_table : {keep : Bool} {L : Bounds} {T U : Table} {offset n : ℕ} {expects : Stage} {y : List ℕ}
    → StageHasRead keep L T offset U expects y → expects ≡ count_at n → U ≡ T
between_table (in_count q g k) e = g
between_table (in_type_number a g k n) e = absurd (cc)
between_table (in_definition a y g k d) e = absurd (cc)
between_table (in_put p) e = absurd (cc)

is_between : (s : SessionState) {item : Option GoItem} {given : GoItem} → IfSome item (λ _. IsBetweenItems s)
    → item ≡ Some given → IsBetweenItems s
is_between s b e = subst (λ i. IfSome i (λ _. IsBetweenItems s)) e b

-- equal items lead to one table
pub one_table : {s s' : SessionState} {items : List FilledItem} {b c : List ℕ} (x y : List ℕ) (a : HasRead s items b)
    (h : HasRead s' items c) → s'.limits ≡ s.limits → b ++ x ≡ c ++ y → a.table ≡ h.table
one_table {s = s} {items = items} x y a h e f =
    (one_reading (a.under_way ++ x) (h.under_way ++ y) a.stream
    (subst (λ L. FilledStream base_table (within_trees L) items h.prefix h.table) e h.stream)
    (sym (append_assoc a.prefix a.under_way x) ∙ ap (λ l. l ++ x) (sym a.whole) ∙ f ∙ ap (λ l. l ++ y) h.whole
    ∙ append_assoc h.prefix h.under_way y)).table

-- the last of them, and what was given before it
record GivesLast (t' : SessionState) (given : List GoItem) (one : GoItem) (all more : List FilledItem)
    (bytes : List ℕ) : Type 0 where
  item : FilledItem
  after : HasRead t' (all ++ item ∷ []) bytes
  last : Last (within_trees t'.limits) base_table 0 all item after.prefix after.table
  mean : ItemsMean last.table given more
  one_means : ItemMeans after.table one item
  types_are : types t'.types ≡ after.table

gives_last : {t t' : SessionState} {given : List GoItem} {items : List FilledItem} {bytes piece : List ℕ}
    {step : Advance GoItem} {one : GoItem} (before : ReadsTo t given items bytes) → TakesBy go_stepping t t' piece step
    → step.item ≡ Some one → GivesLast t' given one before.all before.more (bytes ++ take step.used piece)
gives_last {t' = t'} {given = given} {bytes = bytes} {piece = piece} {step = step} {one = one} before o e =
    let more = take step.used piece in
    let g = gives_over (o.answers.advances before.all bytes before.after) e in
    let a = g.after in
    let table = between_table a.stage (is_between t' o.between e) in
    let last = last_of before.all a.stream in
    let b = before.after in
    let stream = subst (λ L. FilledStream base_table (within_trees L) before.all last.before last.table) o.limits
    last.items_are in
    let same = one_reading (b.under_way ++ more) (last.bytes ++ a.under_way) b.stream stream
    (sym (append_assoc b.prefix b.under_way more) ∙ ap (λ l. l ++ more) (sym b.whole)
    ∙ a.whole ∙ ap (λ l. l ++ a.under_way) last.whole ∙ append_assoc last.before last.bytes a.under_way) in
    record {
      item = g.item;
      after = a;
      last = last;
      mean = subst (λ T. ItemsMean T given before.more) same.table before.mean;
      one_means = subst (λ T. ItemMeans T one g.item) table g.mean;
      types_are = table;
    }

fed_by : {s s' : SessionState} {given : List GoItem} {z : List ℕ} → ReachesBy go_stepping s given z s'
    → HasFed s s' given z
fed_by no_step = record { limits = refl; fed = λ items bytes a. read_none a }
fed_by {s' = s'} (no_item {given = given} {z = z} {piece = piece} {step = step} h o none) =
    let so_far = fed_by h in
    let more = take step.used piece in
    record {
      limits = o.limits ∙ so_far.limits;
      fed = λ items bytes a.
          let there = so_far.fed items bytes a in
          let all = append_assoc bytes z more in
          let now = subst (λ b. HasRead s' there.all b) all
          (stands_over (o.answers.advances there.all (bytes ++ z) there.after) none) in
          record {
            more = there.more;
            all = there.all;
            all_are = there.all_are;
            after = now;
            mean = subst (λ T. ItemsMean T given there.more)
                (one_table more [] there.after now o.limits (all ∙ sym (append-nil (bytes ++ (z ++ more))))) there.mean;
          };
    }
fed_by {s' = s'} (one_item {given = given} {z = z} {piece = piece} {step = step} {item = item} h o one) =
    let so_far = fed_by h in
    record {
      limits = o.limits ∙ so_far.limits;
      fed = λ items bytes a.
          let there = so_far.fed items bytes a in
          let g = gives_last there o one in
          subst (λ b. ReadsTo s' (given ++ item ∷ []) items b) (append_assoc bytes z (take step.used piece)) (record {
            more = there.more ++ g.item ∷ [];
            all = there.all ++ g.item ∷ [];
            all_are = ap (λ l. l ++ g.item ∷ []) there.all_are ∙ append_assoc items there.more (g.item ∷ []);
            after = g.after;
            mean = one_means_more (all_mean_on (grown_keeps (item_grown g.last.item)) g.mean) g.one_means;
          });
    }

-- ---- how feeding ends
-- the whole piece was taken
fed_all : {s s' : SessionState} {given : List GoItem} {piece : List ℕ} → HasFed s s' given piece
    → (items : List FilledItem) (bytes : List ℕ) → HasRead s items bytes
    → GivesOn (types s'.types) given items (λ all. HasRead s' all (bytes ++ piece))
fed_all {s' = s'} {piece = piece} h items bytes a =
    let there = h.fed items bytes a in
    record {
      more = there.more;
      mean = all_mean_on (grown_keeps (stage_grown there.after.stage)) there.mean;
      holds = subst (λ i. HasRead s' i (bytes ++ piece)) there.all_are there.after;
    }

-- no list that the bytes begin with is longer
gives_all : {s : SessionState} {items : List FilledItem} {bytes : List ℕ} → HasRead s items bytes
    → (others : List FilledItem) → BeginsFilled base_table (within_trees s.limits) bytes others
    → length others ≤ length items
gives_all a = longest a.under_way a.stream a.whole (λ i U b x h e. no_item_yet x a.stage h e)

-- without memory for the item that is whole with a step
gives_but_last : {t' : SessionState} {given : List GoItem} {one : GoItem} {all more : List FilledItem}
    {bytes whole : List ℕ} {taken : ℕ} (rest : List ℕ) → GivesLast t' given one all more bytes → taken ≡ length bytes
    → bytes ++ rest ≡ whole → GivesOfTaken (within_trees t'.limits) taken whole all
gives_but_last {all = all} {bytes = bytes} rest g t e =
    let a = g.after in
    record {
      prefix = bytes;
      rest = rest;
      whole = sym e;
      taken_is = t;
      given = record {
        prefix = g.last.before;
        rest = g.last.bytes ++ a.under_way;
        table = g.last.table;
        stream = g.last.items_are;
        whole = a.whole ∙ ap (λ l. l ++ a.under_way) g.last.whole
            ∙ append_assoc g.last.before g.last.bytes a.under_way;
      };
      but_last = λ others b. let l = gives_all a others b in omega (arith, length-append all (g.item ∷ []));
    }

types_behind_last : {t' : SessionState} {given : List GoItem} {one : GoItem} {all more : List FilledItem}
    {bytes whole : List ℕ} {U : Table} (rest : List ℕ) (g : GivesLast t' given one all more bytes)
    → U ≡ g.after.table → bytes ++ rest ≡ whole → HasTypesBeyond (within_trees t'.limits) whole all U
types_behind_last {t' = t'} {bytes = bytes} rest g u e =
    let a = g.after in let l = g.last in
    record {
      prefix = l.before;
      rest = l.bytes ++ (a.under_way ++ rest);
      table = l.table;
      stream = l.items_are;
      whole = sym e ∙ ap (λ b. b ++ rest) a.whole ∙ ap (λ b. (b ++ a.under_way) ++ rest) l.whole
          ∙ spread l.before l.bytes a.under_way rest;
      within = subst (λ U. HasTypesWithin (within_trees t'.limits) l.table (length l.before)
          (l.bytes ++ (a.under_way ++ rest)) U) (sym u) (behind_item (a.under_way ++ rest)
          (subst (λ n. IsFilledItem base_table (within_trees t'.limits) l.table n g.item l.bytes a.table) (omega arith)
          l.item) refl);
    }
  where
    spread : (b c u r : List ℕ) → ((b ++ c) ++ u) ++ r ≡ b ++ (c ++ (u ++ r))
    spread b c u r = simp append_assoc

lost : {t' : SessionState} {given : List GoItem} {one : GoItem} {items all more : List FilledItem}
    {bytes whole : List ℕ} {U : Table} {taken : ℕ} {L : Bounds} (rest : List ℕ) → t'.limits ≡ L → all ≡ items ++ more
    → (g : GivesLast t' given one all more bytes) → U ≡ g.after.table → taken ≡ length bytes
    → bytes ++ rest ≡ whole
    → GivesOn U given items (λ is. GivesOfTaken (within_trees L) taken whole is
    × HasTypesBeyond (within_trees L) whole is U)
lost {t' = t'} {given = given} {items = items} {more = more} {whole = whole} {U = U} {taken = taken} rest l are g u t
    e =
    record {
      more = more;
      mean = subst (λ U. ItemsMean U given more) (sym u) (all_mean_on (grown_keeps (item_grown g.last.item)) g.mean);
      holds = subst (λ L. GivesOfTaken (within_trees L) taken whole (items ++ more)
          × HasTypesBeyond (within_trees L) whole (items ++ more) U) l
          (subst (λ is. GivesOfTaken (within_trees t'.limits) taken whole is
          × HasTypesBeyond (within_trees t'.limits) whole is U) are
          (gives_but_last rest g t e, types_behind_last rest g u e));
    }

-- ---- at a fault of a step
at_grown : {L : Bounds} {T U : Table} {offset at left : ℕ} {z w : List ℕ} {levels : List Level} {next : Next}
    {R : Refusal} → Stands base_table L T offset z U levels next left
    → (r : RefusesAt base_table L at U w levels next left R) → Grown T (types_at r)
at_grown p (in_skeleton f n pl se re) = stands_grown p
at_grown p (short_name c r ex dl sh t u l k) = stands_grown p
at_grown p (as_in_an_item b n) = stands_grown p
at_grown p (inner_count t sg may r) = stands_grown p
at_grown p (next_count q t def_ e r) = grown_on (stands_grown p) (defines_grown def_)

refused_grown : {L : Bounds} {T : Table} {offset : ℕ} {z : List ℕ} {R : Refusal}
    (r : RefusesFilled base_table L T offset z R) → Grown T (types_refused r)
refused_grown (refused_count r) = same_grown refl
refused_grown (refused_body r e u l k b n) = same_grown refl
refused_grown (refused_value e p r) = at_grown p r

within_grown : {L : Bounds} {T U : Table} {offset : ℕ} {bytes : List ℕ} → HasTypesWithin L T offset bytes U → Grown T U
within_grown (as_before e) = same_grown e
within_grown (behind_item r i e) = item_grown i
within_grown (within_value r p e) = stands_grown p
within_grown (behind_definition r p def_ e) = grown_on (stands_grown p) (defines_grown def_)

-- the items stay what was given of them
mean_there : {t : SessionState} {given : List GoItem} {items : List FilledItem} {bytes prefix : List ℕ} {T U : Table}
    (x y : List ℕ) (before : ReadsTo t given items bytes)
    → FilledStream base_table (within_trees t.limits) before.all prefix T → bytes ++ x ≡ prefix ++ y → Grown T U
    → ItemsMean U given before.more
mean_there {given = given} x y before s e g =
    let a = before.after in
    let same = one_reading (a.under_way ++ x) y a.stream s
    (sym (append_assoc a.prefix a.under_way x) ∙ ap (λ l. l ++ x) (sym a.whole) ∙ e) in
    all_mean_on (grown_keeps g) (subst (λ T. ItemsMean T given before.more) same.table before.mean)

-- what a refusal tells of the bytes
abbrev RefusesSo : Bounds → List ℕ → List FilledItem → Refusal → Table → Type 0
RefusesSo L bytes all R U = ShowsRefusal (within_trees L) bytes all R × RefusesBehind (within_trees L) bytes all R U

refused_so : {t : SessionState} {given : List GoItem} {items : List FilledItem} {R : Refusal} {U : Table} {L : Bounds}
    {bytes whole : List ℕ} (rest : List ℕ) → t.limits ≡ L → bytes ++ rest ≡ whole
    → (before : ReadsTo t given items bytes) → RefusesSo t.limits (bytes ++ rest) before.all R U
    → GivesOn U given items (λ all. RefusesSo L whole all R U)
refused_so {t = t} {items = items} {R = R} {U = U} {bytes = bytes} {whole = whole} rest l w before (shows, behind) =
    let grown = subst (λ U. Grown behind.table U) (sym behind.refuses.table) (refused_grown behind.refuses.refuses) in
    record {
      more = before.more;
      mean = mean_there rest behind.rest before behind.stream behind.whole grown;
      holds = subst (λ L. RefusesSo L whole (items ++ before.more) R U) l
          (subst (λ all. RefusesSo t.limits whole all R U) before.all_are
          (subst (λ b. RefusesSo t.limits b before.all R U) w (shows, behind)));
    }

-- what a fault of memory tells of them, where so many were taken
abbrev LacksMemory : Bounds → ℕ → List ℕ → List FilledItem → Table → Type 0
LacksMemory L taken bytes all U = GivesOfTaken (within_trees L) taken bytes all
    × HasTypesBeyond (within_trees L) bytes all U

no_memory_so : {t : SessionState} {given : List GoItem} {items : List FilledItem} {U : Table} {taken : ℕ} {L : Bounds}
    {bytes whole : List ℕ} (rest : List ℕ) → t.limits ≡ L → bytes ++ rest ≡ whole → taken ≡ t.taken
    → (before : ReadsTo t given items bytes)
    → HasTypesBeyond (within_trees t.limits) (bytes ++ rest) before.all U
    → GivesOn U given items (λ all. LacksMemory L taken whole all U)
no_memory_so {t = t} {items = items} {U = U} {taken = taken} {bytes = bytes} {whole = whole} rest l w v before beyond =
    let a = before.after in
    record {
      more = before.more;
      mean = mean_there rest beyond.rest before beyond.stream beyond.whole (within_grown beyond.within);
      holds = subst (λ L. LacksMemory L taken whole (items ++ before.more) U) l
          (subst (λ all. LacksMemory t.limits taken whole all U) before.all_are (
            record {
              prefix = bytes;
              rest = rest;
              whole = sym w;
              taken_is = v ∙ a.taken;
              given = record {
                prefix = a.prefix;
                rest = a.under_way;
                table = a.table;
                stream = a.stream;
                whole = a.whole;
              };
              but_last = λ others b. let n = gives_all a others b in omega arith;
            },
            subst (λ b. HasTypesBeyond (within_trees t.limits) b before.all U) w beyond,
          ));
    }

stops_so : {t : SessionState} {items : List FilledItem} {given : List GoItem} {rest : List ℕ} (s s' : SessionState)
    (bytes z piece : List ℕ) (f : Fault) → (before : ReadsTo t given items (bytes ++ z)) → t.limits ≡ s.limits
    → (bytes ++ z) ++ rest ≡ bytes ++ piece → StepsSo true t s' rest (Err f)
    → FeedAnswers s s' items bytes piece given (Err f)
stops_so {rest = rest} s s' bytes z piece (fault.Refused R) before l w o =
    let r = o.advances before.all (bytes ++ z) before.after in (
      refused_so rest l w before (r.0, r.1),
      let n = r.2 in omega (arith, length-append bytes z),
    )
stops_so s s' bytes z piece fault.Read before l w o = o.advances before.all (bytes ++ z) before.after
stops_so {rest = rest} s s' bytes z piece fault.Memory before l w o =
    no_memory_so rest l w o.taken before (o.advances before.all (bytes ++ z) before.after)
stops_so s s' bytes z piece fault.Failed before l w o = o.advances before.all (bytes ++ z) before.after

stops : {s s' : SessionState} {piece : List ℕ} {given : List GoItem} {f : Fault}
    → StopsBy go_stepping s s' piece given f → (items : List FilledItem) (bytes : List ℕ) → HasRead s items bytes
    → FeedAnswers s s' items bytes piece given (Err f)
stops (had_failed failed) items bytes a = not_read a failed
stops {s = s} {s' = s'} {piece = piece} (at_step {z = z} {rest = rest} {f = f} h w o) items bytes a =
    let so_far = fed_by h in
    stops_so s s' bytes z piece f (so_far.fed items bytes a) so_far.limits
    (append_assoc bytes z rest ∙ ap (λ l. bytes ++ l) (sym w)) o
stops (at_item {z = z} {rest = rest} {step = step} h w o one k v) items bytes a =
    let so_far = fed_by h in
    let there = so_far.fed items bytes a in
    let g = gives_last there o one in
    let more = take step.used rest in
    let left = drop step.used rest in
    lost left (o.limits ∙ so_far.limits) there.all_are g (ap types k ∙ g.types_are) (v ∙ g.after.taken)
    (append_assoc (bytes ++ z) more left ∙ ap (λ l. (bytes ++ z) ++ l) (take-append-drop step.used rest)
    ∙ append_assoc bytes z rest ∙ ap (λ l. bytes ++ l) (sym w))

-- what feeding a piece answers
pub feeds : (s s' : SessionState) (piece : List ℕ) (given : List GoItem) (result : Result (Unit {0}) Fault)
    → FeedsBy go_stepping s s' piece given result → (items : List FilledItem) (bytes : List ℕ) → HasRead s items bytes
    → FeedAnswers s s' items bytes piece given result
feeds s s' piece given (Ok u) h = fed_all (fed_by h)
feeds s s' piece given (Err f) h = stops h

-- ---- each refusal is honest
feeds_honestly : (s s' : SessionState) (items : List FilledItem) (bytes piece : List ℕ) (given : List GoItem)
    (result : Result (Unit {0}) Fault) → FeedAnswers s s' items bytes piece given result
    → FeedsHonestly s items (types s'.types) (bytes ++ piece) given result
feeds_honestly s s' items bytes piece given (Ok u) f = tt
feeds_honestly s s' items bytes piece given (Err (fault.Refused R)) f =
    record { more = f.0.more; mean = f.0.mean; holds = always_honest _ _ _ R }
feeds_honestly s s' items bytes piece given (Err fault.Read) f = tt
feeds_honestly s s' items bytes piece given (Err fault.Memory) f = tt
feeds_honestly s s' items bytes piece given (Err fault.Failed) f = tt

-- of whatever was given and taken before
pub always_feeds_honestly : (s s' : SessionState) (piece : List ℕ) {old new : List GoItem}
    (result : Result (Unit {0}) Fault)
    → Given old new (λ given. (items : List FilledItem) (bytes : List ℕ) → HasRead s items bytes
    → FeedAnswers s s' items bytes piece given result)
    → Given old new (λ given. (items : List FilledItem) (bytes : List ℕ) → HasRead s items bytes
    → FeedsHonestly s items (types s'.types) (bytes ++ piece) given result)
always_feeds_honestly s s' piece result =
    given_as (λ given h items bytes a. feeds_honestly s s' items bytes piece given result (h items bytes a))
