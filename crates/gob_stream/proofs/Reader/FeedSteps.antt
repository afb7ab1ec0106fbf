-- What a reader has come to within a piece, step by step.
use Rattle.std.proofs.Common.{◌≡◌, ℕ, List, [], ◌∷◌, ◌++◌, length, take, drop, Option, Some, None}
use Rattle.std.proofs.Common.{Result, Ok, Err, arith, refl, sym, ap, ◌∙◌, subst, append_assoc, length-append}
use Rattle.std.proofs.lemmas.List.{append-nil, take-append-drop}
use Rattle.gob_types.specs.Table.{Table}
use Rattle.gob_types.specs.Base.{base_table}
use Rattle.gob_types.specs.Defined.{types}
use Rattle.gob_value.specs.Tree.{Tree}
use Rattle.gob_read.specs.Building.{Building}
use Rattle.gob_stream.specs.declared.fault.Fault.{Fault}
use Rattle.gob_stream.specs.declared.fault.Fault.TheVariants as fault
use Rattle.gob_stream.specs.declared.item.Item as declared
use Rattle.gob_stream.specs.declared.session.Advance.{Advance}
use Rattle.gob_stream.specs.Machine.SessionState.{SessionState}
use Rattle.gob_stream.specs.Bounds.{Bounds, no_deeper}
use Rattle.gob_stream.specs.Feeding.{FeedsBy, ReachesBy, StopsBy, TakesBy}
use Rattle.gob_stream.specs.Feeding.{at_item, at_step, had_failed, no_item, no_step, one_item}
use Rattle.gob_stream.specs.Item.{StreamItem, ItemMeans, ItemsMean, mean_none, mean_more}
use Rattle.gob_stream.specs.Stream.{Stream}
use Rattle.gob_stream.specs.StrictStepping.{StepsSo, strict_stepping}
use Rattle.gob_stream.specs.Machine.HasRead.{HasRead}
use Rattle.gob_stream.specs.Outcome.{BeginsWithStream, LongestStream}
use Rattle.gob_stream.specs.Outcome.{LongestButLast}
use Rattle.gob_stream.specs.Reading.{GivesOn, ShowsRefusal, HasTypesBehind, HasTypesBeyond, GivesOfTaken}
use Rattle.gob_stream.specs.Calls.Reads.{FeedAnswers}
use Rattle.gob_stream.specs.Machine.ReadParts.{AdvancesOver, over_some, over_item}
use Rattle.gob_stream.proofs.Reader.FailedSteps.{not_read}
use Rattle.gob_stream.proofs.Stream.StreamLaws.{but_none, before_last}
use Rattle.gob_stream.proofs.Reader.UnderWayLaws.{after_gives}

-- ---- the items
one_item_more : {O : Type 0} {means : O → Tree → Type 0} {given : List (declared.Item O)} {items : List StreamItem}
    {one : declared.Item O} {i : StreamItem}
    → ItemsMean means given items → ItemMeans means one i → ItemsMean means (given ++ one ∷ []) (items ++ i ∷ [])
one_item_more mean_none m = mean_more m mean_none
one_item_more (mean_more n ms) m = mean_more n (one_item_more ms m)

-- ---- what was read of the piece
-- wherever the reader stood, it stands behind these bytes more now, and the items were given
record HasFed {X O : Type 0} {most : ℕ} (building : Building X O most) (s s' : SessionState X O)
    (given : List (declared.Item O)) (z : List ℕ) : Type 0 where
  limits : s'.limits ≡ s.limits
  fed : (items : List StreamItem) (bytes : List ℕ) → HasRead building s items bytes
      → GivesOn building.means given items (λ all. HasRead building s' all (bytes ++ z))

stands_over : {X O : Type 0} {most : ℕ} {building : Building X O most} {s' : SessionState X O} {items : List StreamItem}
    {bytes piece : List ℕ} {used : ℕ} {item : Option (declared.Item O)}
    → AdvancesOver building s' items bytes piece used item → item ≡ None
    → HasRead building s' items (bytes ++ take used piece)
stands_over (over_some p l a) e = a
stands_over (over_item p l m a) e = absurd (cc)

-- an item is whole with it
record GivesOne {X O : Type 0} {most : ℕ} (building : Building X O most) (s' : SessionState X O)
    (items : List StreamItem) (bytes : List ℕ) (given : declared.Item O) : Type 0 where
  item : StreamItem
  mean : ItemMeans building.means given item
  after : HasRead building s' (items ++ item ∷ []) bytes

gives_over : {X O : Type 0} {most : ℕ} {building : Building X O most} {s' : SessionState X O} {items : List StreamItem}
    {bytes piece : List ℕ} {used : ℕ} {item : Option (declared.Item O)} {given : declared.Item O}
    → AdvancesOver building s' items bytes piece used item → item ≡ Some given
    → GivesOne building s' items (bytes ++ take used piece) given
gives_over (over_some p l a) e = absurd (cc)
gives_over {building = building} {given = given} (over_item {given = one} {i = i} p l m a) e =
    let same : one ≡ given = cc in
    record { item = i; mean = subst (λ x. ItemMeans building.means x i) same m; after = a }

fed_by : {X O : Type 0} {most : ℕ} (building : Building X O most) {s s' : SessionState X O}
    {given : List (declared.Item O)} {z : List ℕ} → ReachesBy (strict_stepping building) s given z s'
    → HasFed building s s' given z
fed_by building {s = s} no_step = record {
  limits = refl;
  fed = λ items bytes a. record {
    more = [];
    mean = mean_none;
    holds = subst (λ b. HasRead building s (items ++ []) b) (sym (append-nil bytes))
        (subst (λ i. HasRead building s i bytes) (sym (append-nil items)) a);
  };
}
fed_by building {s' = s'} (no_item {z = z} {piece = piece} {step = step} h o none) =
    let so_far = fed_by building h in
    record {
      limits = o.limits ∙ so_far.limits;
      fed = λ items bytes a.
          let there = so_far.fed items bytes a in
          record {
            more = there.more;
            mean = there.mean;
            holds = subst (λ b. HasRead building s' (items ++ there.more) b)
                (append_assoc bytes z (take step.used piece))
                (stands_over (o.answers.advances (items ++ there.more) (bytes ++ z) there.holds) none);
          };
    }
fed_by building {s' = s'} (one_item {z = z} {piece = piece} {step = step} h o one) =
    let so_far = fed_by building h in
    record {
      limits = o.limits ∙ so_far.limits;
      fed = λ items bytes a.
          let there = so_far.fed items bytes a in
          let g = gives_over (o.answers.advances (items ++ there.more) (bytes ++ z) there.holds) one in
          record {
            more = there.more ++ g.item ∷ [];
            mean = one_item_more there.mean g.mean;
            holds = subst (λ i. HasRead building s' i (bytes ++ (z ++ take step.used piece)))
                (append_assoc items there.more (g.item ∷ []))
                (subst (λ b. HasRead building s' ((items ++ there.more) ++ g.item ∷ []) b)
                (append_assoc bytes z (take step.used piece)) g.after);
          };
    }

-- ---- how feeding ends
-- the bytes begin with the stream of the items that were given, behind which these are the types
types_behind : {X O : Type 0} {most : ℕ} {building : Building X O most} {s : SessionState X O} {L : Bounds}
    {items : List StreamItem} {bytes all : List ℕ} {T : Table} (rest : List ℕ)
    → HasRead building s items bytes → s.limits ≡ L → T ≡ types s.types → bytes ++ rest ≡ all
    → HasTypesBehind (no_deeper most L) all items T
types_behind {most = most} {s = s} {L = L} {items = items} rest a e t f = record {
  prefix = a.prefix;
  rest = a.under_way ++ rest;
  stream =
      subst (λ (T : Table). Stream base_table (no_deeper most L) items a.prefix T) (sym t)
      (subst (λ L. Stream base_table (no_deeper most L) items a.prefix (types s.types)) e a.stream);
  whole = sym f ∙ ap (λ l. l ++ rest) a.whole ∙ append_assoc a.prefix a.under_way rest;
}

-- nor behind any further item
types_at : {L : Bounds} {bytes : List ℕ} {items : List StreamItem} {T : Table} → HasTypesBehind L bytes items T
    → HasTypesBeyond L bytes items T
types_at {L = L} {bytes = bytes} {items = items} {T = T} b =
    record {
      more = [];
      at_most_one = omega arith;
      behind = subst (λ i. HasTypesBehind L bytes i T)
          (sym (append-nil items)) b;
    }

types_one_on : {L : Bounds} {bytes : List ℕ} {items : List StreamItem} {T : Table} (i : StreamItem)
    → HasTypesBehind L bytes (items ++ i ∷ []) T → HasTypesBeyond L bytes items T
types_one_on i b = record { more = i ∷ []; at_most_one = omega arith; behind = b }

-- and what they give
given_by : {X O : Type 0} {most : ℕ} {building : Building X O most} {s : SessionState X O} {L : Bounds}
    {items : List StreamItem} {bytes : List ℕ}
    → HasRead building s items bytes → s.limits ≡ L → LongestStream base_table (no_deeper most L)
    bytes items
given_by {most = most} {items = items} {bytes = bytes} a e =
    subst (λ L. LongestStream base_table (no_deeper most L) bytes items) e (after_gives a)

behind_stream : {X O : Type 0} {most : ℕ} {building : Building X O most} {s : SessionState X O} {L : Bounds}
    {items : List StreamItem} {bytes : List ℕ} (more : List ℕ)
    → HasRead building s items bytes → s.limits ≡ L → BeginsWithStream base_table (no_deeper most L)
    (bytes ++ more) items
behind_stream more a e = let b = types_behind more a e refl refl in record {
  prefix = b.prefix;
  rest = b.rest;
  table = _;
  stream = b.stream;
  whole = b.whole;
}

taken_so : {L : Bounds} {taken : ℕ} {prefix bytes : List ℕ} {items : List StreamItem} (rest : List ℕ)
    → taken ≡ length prefix → prefix ++ rest ≡ bytes → LongestButLast base_table L prefix items
    → GivesOfTaken L taken bytes items
taken_so {prefix = prefix} rest t e g = record { prefix = prefix; rest = rest; whole = sym e; taken_is = t; given = g }

-- without memory for the item that is whole with a step
lost : {X O : Type 0} {most : ℕ} (building : Building X O most) {s t t' : SessionState X O}
    {given : List (declared.Item O)} {z rest piece : List ℕ} {step : Advance (declared.Item O)} {one : declared.Item O}
    (s' : SessionState X O) → HasFed building s t given z → piece ≡ z ++ rest
    → TakesBy (strict_stepping building) t t' rest step → step.item ≡ Some one → s'.types ≡ t'.types
    → s'.taken ≡ t'.taken → (items : List StreamItem) (bytes : List ℕ) → HasRead building s items bytes
    → FeedAnswers building s s' items bytes piece given (Err fault.Memory)
lost building {z = z} {rest = rest} {piece = piece} {step = step} s' h w o e k v items bytes a =
    let there = h.fed items bytes a in
    let one = gives_over (o.answers.advances (items ++ there.more) (bytes ++ z) there.holds) e in
    let more = take step.used rest in
    let left = drop step.used rest in
    let whole : ((bytes ++ z) ++ more) ++ left ≡ bytes ++ piece =
    append_assoc (bytes ++ z) more left ∙ ap (λ l. (bytes ++ z) ++ l) (take-append-drop step.used rest)
    ∙ append_assoc bytes z rest ∙ ap (λ l. bytes ++ l) (sym w) in
    record {
      more = there.more;
      mean = there.mean;
      holds = (
        taken_so left (v ∙ one.after.taken) whole (before_last one.item (behind_stream more there.holds h.limits)
            (given_by one.after (o.limits ∙ h.limits))),
        types_one_on one.item (types_behind left one.after (o.limits ∙ h.limits) (ap types k) whole),
      );
    }

-- at a fault of a step
stops_so : {X O : Type 0} {most : ℕ} {building : Building X O most} {t : SessionState X O} {items : List StreamItem}
    {given : List (declared.Item O)} {rest : List ℕ} (s s' : SessionState X O) (bytes z piece : List ℕ) (f : Fault)
    → GivesOn building.means given items (λ all. HasRead building t all (bytes ++ z)) → t.limits ≡ s.limits
    → (bytes ++ z) ++ rest ≡ bytes ++ piece → StepsSo building t s' rest (Err f)
    → FeedAnswers building s s' items bytes piece given (Err f)
stops_so {most = most} {items = items} {rest = rest} s s' bytes z piece (fault.Refused R) there l w o =
    let r = o.advances (items ++ there.more) (bytes ++ z) there.holds in (
      record {
        more = there.more;
        mean = there.mean;
        holds = (
          subst (λ b. ShowsRefusal (no_deeper most s.limits) b (items ++ there.more) R) w
              (subst (λ L. ShowsRefusal (no_deeper most L) ((bytes ++ z) ++ rest) (items ++ there.more) R) l r.0),
          types_behind rest there.holds l (ap types o.types) w,
        );
      },
      let n = r.1 in omega (arith, length-append bytes z),
    )
stops_so {items = items} s s' bytes z piece fault.Read there l w o =
    o.advances (items ++ there.more) (bytes ++ z) there.holds
stops_so {rest = rest} s s' bytes z piece fault.Memory there l w o = record {
  more = there.more;
  mean = there.mean;
  holds = (
    taken_so rest (o.taken ∙ there.holds.taken) w (but_none (given_by there.holds l)),
    types_at (types_behind rest there.holds l (ap types o.types) w),
  );
}
stops_so {items = items} s s' bytes z piece fault.Failed there l w o =
    o.advances (items ++ there.more) (bytes ++ z) there.holds

stops : {X O : Type 0} {most : ℕ} (building : Building X O most) {s s' : SessionState X O} {piece : List ℕ}
    {given : List (declared.Item O)} {f : Fault} → StopsBy (strict_stepping building) s s' piece given f
    → (items : List StreamItem) (bytes : List ℕ) → HasRead building s items bytes
    → FeedAnswers building s s' items bytes piece given (Err f)
stops building (had_failed failed) items bytes a = absurd (not_read a failed)
stops building {s = s} {s' = s'} {piece = piece} (at_step {z = z} {rest = rest} {f = f} h w o) items bytes a =
    let so_far = fed_by building h in
    stops_so s s' bytes z piece f (so_far.fed items bytes a) so_far.limits
    (append_assoc bytes z rest ∙ ap (λ l. bytes ++ l) (sym w)) o
stops building {s' = s'} (at_item h w o e k v) items bytes a =
    lost building s' (fed_by building h) w o e k v items bytes a

-- what feeding a piece answers
pub feeds : {X O : Type 0} {most : ℕ} (building : Building X O most) (s s' : SessionState X O) (piece : List ℕ)
    (given : List (declared.Item O)) (result : Result (Unit {0}) Fault)
    → FeedsBy (strict_stepping building) s s' piece given result
    → (items : List StreamItem) (bytes : List ℕ) → HasRead building s items bytes
    → FeedAnswers building s s' items bytes piece given result
feeds building s s' piece given (Ok u) h = (fed_by building h).fed
feeds building s s' piece given (Err f) h = stops building h
