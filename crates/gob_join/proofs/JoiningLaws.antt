-- How a run goes on that takes in the items of a stream, and how it ends.
use Rattle.std.proofs.Common.{◌≡◌, ℕ, ◌<◌, List, [], ◌∷◌, ◌++◌, Option, Some, None, Result, Ok, Err, OnOk, IfErr}
use Rattle.std.proofs.Common.{arith, refl}
use Rattle.std.proofs.Common.{◌≢◌}
use Rattle.std.proofs.Common.{sym, subst, ap, ◌∙◌, append_assoc}
use Rattle.std.specs.Prelude.{IfSome}
use Rattle.std.specs.Result.{IsErrAnd}
use Rattle.std.specs.Io.KnownBytes.{Appends, Consumes, append_known}
use Rattle.std.proofs.KnownBytes.{Appends-nil, Appends-trans}
use Rattle.std.proofs.lemmas.List.{append-nil, append_cancel_left}
use Rattle.gob_types.specs.Base.{base_table}
use Rattle.gob_types.specs.declared.kind.Shape.{Shape}
use Rattle.gob_types.specs.Table.{Table}
use Rattle.gob_types.proofs.PublicLaws.{Keeps}
use Rattle.gob_stream.specs.Bounds.{Bounds, within_trees}
use Rattle.gob_stream.specs.Calls.Writing.{CountsFault, SentPrefix}
use Rattle.gob_stream.specs.Reading.{CountsReads}
use Rattle.gob_stream.specs.declared.fault.WriteFault.{WriteFault}
use Rattle.gob_stream.specs.declared.fault.WriteFault.TheVariants as writing
use Rattle.gob_stream.specs.declared.fault.Fault.{Fault}
use Rattle.gob_stream.specs.declared.fault.Fault.TheVariants as reading
use Rattle.gob_stream.specs.declared.session.Advance.{Advance}
use Rattle.gob_filled.specs.Definition.{defines}
use Rattle.gob_filled.specs.Filled.{Filled, Fillings}
use Rattle.gob_filled.specs.Outcome.{FilledOutcome, refused}
use Rattle.gob_filled.specs.Stream.{FilledItem, FilledStream, IsFilledItem, of_definition, AreFilledItems}
use Rattle.gob_filled.specs.Stream.{no_more, and_then}
use Rattle.gob_filled.specs.Stream as stream
use Rattle.gob_filled.proofs.Prefix.{one_loosely}
use Rattle.gob_filled.proofs.Refused.{in_turn}
use Rattle.gob_filled.proofs.Unique.{one_filled}
use Rattle.gob_go.specs.Calls.Reader.{EndsWith, GoReader, HasReadFrom, StepsOnFrom, StopsFrom, gives_none, gives_one}
use Rattle.gob_go.specs.Calls.Reader.{GivesItems, session_of, waits_in}
use Rattle.gob_go.specs.Calls.Session.{IsBetweenItems, limits_of, types_of}
use Rattle.gob_go.specs.Meaning.{ItemMeans}
use Rattle.gob_go.specs.declared.item.GoItem.{GoItem}
use Rattle.gob_go.proofs.SessionAnswers.{table_between}
use Rattle.gob_go_writer.specs.Calls.Writer.{HasPut}
use Rattle.gob_go_writer.specs.Calls.Writer as writer
use Rattle.gob_go_writer.specs.declared.writer.GoWriter.{GoWriter}
use Rattle.gob_join.specs.Faults.{CountsJoinReads, CountsJoinWrites, reading_fault, taking_fault}
use Rattle.gob_join.specs.Joining.{JoinAnswers, JoinsCut, JoinsSome, JoinsWhole}
use Rattle.gob_join.specs.Machine.Joining.{JoinsAll, JoinsNext, JoinsSo, ReadsOn, ReadsSo, StopsJoining}
use Rattle.gob_join.specs.Machine.Joining.{TakesStep}
use Rattle.gob_join.specs.Renaming.{AreRenamed, no_items, items_then, AreRenamedFillings, none_renamed, one_renamed}
use Rattle.gob_join.specs.Renaming.{Extends, IsRenamedItem, of_item, IsRenamedValue, of_value, IsRenaming, NewId}
use Rattle.gob_join.specs.Renaming.{values_of}
use Rattle.gob_join.specs.Taking.{TakesItem}
use Rattle.gob_join.specs.declared.fault.TakeFault.{TakeFault}
use Rattle.gob_join.specs.declared.fault.TakeFault.TheVariants as taking
use Rattle.gob_join.specs.declared.join_fault.JoinFault.{JoinFault}
use Rattle.gob_join.specs.declared.join_fault.JoinFault.TheVariants as fault
use Rattle.gob_join.proofs.TakingLaws.{item_keeps, none_grown, renaming_on, values_append}

-- ---- the types behind more items

items_keep : {L : Bounds} {T U : Table} {offset : ℕ} {items : List FilledItem} {b : List ℕ}
    → AreFilledItems base_table L T offset items b U → Keeps T U
items_keep no_more = record { shape = λ t s e. e }
items_keep (and_then i n is) = in_turn (item_keeps i) (items_keep is)

-- an item leads to the same types wherever it stands
pub one_behind : {L : Bounds} {T U V : Table} {o p : ℕ} {i : FilledItem} {b c : List ℕ}
    → IsFilledItem base_table L T o i b U → IsFilledItem base_table L T p i c V → U ≡ V
one_behind {T = T} (of_definition n l s (defines {id = t} may dp de i sg sp))
    (of_definition m k r (defines may' dp' de' i' sg' sp')) =
    ap (λ (r : Shape). T ++ (t, r) ∷ []) (one_loosely de de' refl)
one_behind (stream.of_value may s k c) (stream.of_value may' s' k' c') = (one_filled k k' refl).table

keeps_behind : {L : Bounds} {T U V : Table} {o p : ℕ} {items all : List FilledItem} {b c : List ℕ}
    (more : List FilledItem) → AreFilledItems base_table L T o items b U → AreFilledItems base_table L T p all c V
    → all ≡ items ++ more → Keeps U V
keeps_behind more no_more all e = items_keep all
keeps_behind more (and_then i n is) no_more e = absurd (cc e)
keeps_behind {L = L} {T = T} {U = Z} more (and_then {next = n} {i = i} {items = is} {c = x} a u ks)
    (and_then {U = W} {offset = o} {i = j} {items = js} {b = y} b v ls) e =
    let first : j ≡ i = cc in
    let rest : js ≡ is ++ more = cc in
    let same = one_behind a (subst (λ k. IsFilledItem base_table L T o k y W) first b) in
    keeps_behind more (subst (λ T. AreFilledItems base_table L T n is x Z) same ks) ls rest

pub table_grows : {L M : Bounds} {T U : Table} {given all : List FilledItem} {b c : List ℕ} (more : List FilledItem)
    → M ≡ L → all ≡ given ++ more → FilledStream base_table L given b T → FilledStream base_table M all c U → Keeps T U
table_grows {U = U} {all = all} {c = c} more same e p q =
    keeps_behind more p (subst (λ M. FilledStream base_table M all c U) same q) e

-- ---- values renamed stay so where more ids stand for others

mutual
  value_stays : {R S : NewId} {v w : Filled} → Extends R S → IsRenamedValue R v w → IsRenamedValue S v w
  value_stays x (of_value fs) = of_value (fillings_stay x fs)

  pub fillings_stay : {R S : NewId} {fs gs : Fillings} → Extends R S → AreRenamedFillings R fs gs
      → AreRenamedFillings S fs gs
  fillings_stay x none_renamed = none_renamed
  fillings_stay x (one_renamed e v fs) = one_renamed (x.kept _ _ e) (value_stays x v) (fillings_stay x fs)

item_stays : {R S : NewId} {i j : FilledItem} → Extends R S → IsRenamedItem R i j → IsRenamedItem S i j
item_stays x (of_item e v) = of_item (x.kept _ _ e) (value_stays x v)

renamed_then : {R S : NewId} {is js ks ls : List FilledItem} → Extends R S → AreRenamed R is js → AreRenamed S ks ls
    → AreRenamed S (is ++ ks) (js ++ ls)
renamed_then x no_items b = b
renamed_then x (items_then i is) b = items_then (item_stays x i) (renamed_then x is b)

-- ---- from item to item

pub joins_first : {r : GoReader} {read : Option (List ℕ)} {w : GoWriter} {before : List FilledItem} {out : List ℕ}
    {ids : NewId} (start : Option (List ℕ)) → HasReadFrom r read read [] → ((T U : Table) → IsRenaming ids T U)
    → HasPut w before out → JoinsSo r read read w before out ids start start
joins_first {w = w} {before = before} {out = out} start h none p = record {
  given = [];
  has = h;
  joins = record {
    items = [];
    more = [];
    put = subst (λ is. HasPut w is (out ++ [])) (sym (append-nil before))
        (subst (λ b. HasPut w before b) (sym (append-nil out)) p);
    sent = Appends-nil start;
    renaming = none _ _;
    values = no_items;
  };
}

-- the types that were there are there
pub renaming_here : {r r' : GoReader} {read now next : Option (List ℕ)} {w : GoWriter} {before : List FilledItem}
    {out : List ℕ} {ids : NewId} {start sent : Option (List ℕ)} {all : List FilledItem} (more : List FilledItem)
    (s : JoinsSo r read now w before out ids start sent) → limits_of (session_of r') ≡ limits_of (session_of r)
    → (h : HasReadFrom r' read next all) → all ≡ s.given ++ more
    → IsRenaming ids h.gave.table (writer.types_of w)
renaming_here {w = w} more s same h e =
    renaming_on (table_grows more (ap within_trees same) e s.has.gave.stream h.gave.stream).shape
    (none_grown (writer.types_of w)) s.joins.renaming

-- nothing more was given
pub joins_still : {r r' : GoReader} {read now next : Option (List ℕ)} {w : GoWriter} {before : List FilledItem}
    {out : List ℕ} {ids : NewId} {start sent : Option (List ℕ)} {all more : List FilledItem}
    (s : JoinsSo r read now w before out ids start sent) → limits_of (session_of r') ≡ limits_of (session_of r)
    → HasReadFrom r' read next all → all ≡ s.given ++ more → more ≡ []
    → JoinsSo r' read next w before out ids start sent
joins_still {ids = ids} {all = all} {more = more} s same h e none = record {
  given = all;
  has = h;
  joins = record {
    items = s.joins.items;
    more = s.joins.more;
    put = s.joins.put;
    sent = s.joins.sent;
    renaming = renaming_here more s same h e;
    values = subst (λ is. AreRenamed ids (values_of is) (values_of s.joins.items))
        (sym (e ∙ ap (λ l. s.given ++ l) none ∙ append-nil s.given)) s.joins.values;
  };
}

-- an item was taken in
pub joins_item : {r r' : GoReader} {read now next : Option (List ℕ)} {w w' : GoWriter} {before : List FilledItem}
    {out old text : List ℕ} {ids now_ids : NewId} {start mid new : Option (List ℕ)} {all : List FilledItem}
    {i : FilledItem} {T : Table} (s : JoinsSo r read now w before out ids start mid)
    → (h : HasReadFrom r' read next all) → all ≡ s.given ++ i ∷ [] → T ≡ h.gave.table → old ≡ []
    → (t : TakesItem w w' (before ++ s.joins.items) (out ++ s.joins.more) old text T ids now_ids i)
    → Appends mid new text → JoinsSo r' read next w' before out now_ids start new
joins_item {w' = w'} {before = before} {out = out} {old = old} {text = text} {now_ids = S} {start = start} {mid = mid}
    {new = new} {all = all} {i = i} s h e same empty t sent = record {
      given = all;
      has = h;
      joins = record {
        items = s.joins.items ++ t.more;
        more = s.joins.more ++ t.on.spelled;
        put = subst (λ is. HasPut w' is (out ++ (s.joins.more ++ t.on.spelled)))
            (append_assoc before s.joins.items t.more)
            (subst (λ b. HasPut w' ((before ++ s.joins.items) ++ t.more) b)
            (append_assoc out s.joins.more t.on.spelled) t.on.put);
        sent = Appends-trans start mid new s.joins.more t.on.spelled s.joins.sent
            (subst (λ l. Appends mid new l) (t.on.text ∙ ap (λ l. l ++ t.on.spelled) empty) sent);
        renaming = subst (λ T. IsRenaming S T (writer.types_of w')) same t.renaming;
        values = subst (λ is. AreRenamed S (values_of is) (values_of (s.joins.items ++ t.more))) (sym e)
            (subst (λ is. AreRenamed S is (values_of (s.joins.items ++ t.more)))
            (sym (values_append s.given (i ∷ [])))
            (subst (λ is. AreRenamed S (values_of s.given ++ values_of (i ∷ [])) is)
            (sym (values_append s.joins.items t.more)) (renamed_then t.extends s.joins.values t.values)));
      };
    }

-- what a step gave was taken in
pub joins_step : {r r' : GoReader} {read now next : Option (List ℕ)} {w w' : GoWriter} {before : List FilledItem}
    {out old : List ℕ} {ids now_ids : NewId} {start mid new : Option (List ℕ)} {more : List FilledItem}
    {T : Table} (o : Option GoItem) (text : List ℕ) (s : JoinsSo r read now w before out ids start mid)
    → limits_of (session_of r') ≡ limits_of (session_of r) → (h : HasReadFrom r' read next (s.given ++ more))
    → T ≡ types_of (session_of r') → old ≡ [] → IfSome o (λ _. IsBetweenItems (session_of r'))
    → GivesItems (types_of (session_of r')) o more → TakesStep o w w' old text T ids now_ids → Appends mid new text
    → JoinsSo r' read next w' before out now_ids start new
joins_step {r' = r'} {read = read} {next = next} {w = w} {w' = w'} {before = before} {out = out} {old = old}
    {ids = ids} {now_ids = S} {start = start} {mid = mid} {new = new} {more = more} None text s same h here
    empty between gives t sent =
    subst (λ ids. JoinsSo r' read next w' before out ids start new) (sym t.2)
    (subst (λ w. JoinsSo r' read next w before out ids start new) (sym t.0)
    (joins_sent (joins_still s same h refl (none gives)) (subst (λ l. Appends mid new l) (t.1 ∙ empty) sent)))
  where
    none : {more : List FilledItem} → GivesItems (types_of (session_of r')) None more → more ≡ []
    none gives_none = refl

    joins_sent : JoinsSo r' read next w before out ids start mid → Appends mid new []
        → JoinsSo r' read next w before out ids start new
    joins_sent q a = record {
      given = q.given;
      has = q.has;
      joins = record {
        items = q.joins.items;
        more = q.joins.more;
        put = q.joins.put;
        sent = subst (λ l. Appends start new l) (append-nil q.joins.more)
            (Appends-trans start mid new q.joins.more [] q.joins.sent a);
        renaming = q.joins.renaming;
        values = q.joins.values;
      };
    }
joins_step {r' = r'} {read = read} {next = next} {w = w} {w' = w'} {before = before} {out = out} {ids = ids}
    {now_ids = S} {start = start} {new = new} {T = T} (Some given) text s same h here empty between gives t sent =
    by h gives
  where
    by : {more : List FilledItem} → HasReadFrom r' read next (s.given ++ more)
        → GivesItems (types_of (session_of r')) (Some given) more → JoinsSo r' read next w' before out S start new
    by h (gives_one {i = i} m) =
        let table : T ≡ h.gave.table = here ∙ sym (table_between h.gave between) in
        let before_it = renaming_here (i ∷ []) s same h refl in
        let taken = t i (before ++ s.joins.items) (out ++ s.joins.more) s.joins.put
        (subst (λ T. IsRenaming ids T (writer.types_of w)) (sym table) before_it)
        (subst (λ T. ItemMeans T given i) (sym here) m) in
        joins_item s h refl table empty taken sent

-- what taking in an item answers, whichever items were put before
pub step_taken : {given : GoItem} {item : Option GoItem} {w : GoWriter} {T : Table} {ids : NewId} (w' : GoWriter)
    (old new : List ℕ) (now_ids : NewId) (r : Result (Unit {0}) TakeFault) → item ≡ Some given
    → ((i : FilledItem) (items : List FilledItem) (bytes : List ℕ) → HasPut w items bytes
    → IsRenaming ids T (writer.types_of w) → ItemMeans T given i
    → OnOk r (TakesItem w w' items bytes old new T ids now_ids i))
    → OnOk r (TakesStep item w w' old new T ids now_ids)
step_taken {w = w} {T = T} {ids = ids} w' old new S (Ok u) e f =
    subst (λ o. TakesStep o w w' old new T ids S) (sym e) (λ i items bytes h r m. f i items bytes h r m)
step_taken w' old new S (Err x) e f = tt

-- some bytes more were taken
pub reads_on : {r r' : GoReader} {read now : Option (List ℕ)} {step : Advance GoItem} (s : ReadsSo r read now)
    → 0 < step.used → StepsOnFrom r r' read now s.given step → ReadsOn r r' read now
reads_on s some st = record {
  so = record { given = s.given ++ st.more; has = st.takes.after };
  onward = omega (arith, some, st.takes.onward);
}

-- ---- what stops it

-- what stands in front is read, and some bytes are left
rest_of : (bytes taken waits prefix under_way : List ℕ) (now : Option (List ℕ)) → taken ≡ prefix ++ under_way
    → Consumes (Some bytes) now (taken ++ waits) → (rest : List ℕ) × (bytes ≡ prefix ++ rest)
rest_of bytes taken waits prefix under_way None e c = absurd c
rest_of bytes taken waits prefix under_way (Some left) e c = (
  under_way ++ (waits ++ left),
  c ∙ ap (λ t. (t ++ waits) ++ left) e ∙ append_assoc (prefix ++ under_way) waits left
      ∙ append_assoc prefix under_way (waits ++ left),
)

-- the values of the items that were read are out
pub some_joined : {r : GoReader} {read now : Option (List ℕ)} {w : GoWriter} {before : List FilledItem}
    {out : List ℕ} {ids : NewId} {start sent : Option (List ℕ)} (r' : GoReader) (w' : GoWriter)
    (s : JoinsSo r read now w before out ids start sent)
    → limits_of (session_of r') ≡ limits_of (session_of r) → writer.limits_of w ≡ writer.limits_of w'
    → (bytes : List ℕ) → read ≡ Some bytes
    → JoinsSome (within_trees (limits_of (session_of r'))) bytes w' before out start sent
some_joined {r = r} {now = now} {w = w} {before = before} {out = out} {ids = ids} {start = start} {sent = sent} r' w'
    s same keeps bytes known =
    let gave = s.has.gave in
    let rest = rest_of bytes s.has.taken (waits_in r) gave.prefix gave.under_way now gave.whole
    (subst (λ read. Consumes read now (s.has.taken ++ waits_in r)) known s.has.input) in
    subst (λ (L : Bounds). JoinsSome (within_trees L) bytes w' before out start sent) (sym same) (record {
      given = s.given;
      begins = record {
        prefix = gave.prefix;
        rest = rest.0;
        table = gave.table;
        stream = gave.stream;
        whole = rest.1;
      };
      writer = w;
      limits = keeps;
      ids = ids;
      joins = s.joins;
    })

-- bytes that are known can be told with more behind them
pub appends_made : (known : Option (List ℕ)) (text : List ℕ) → Appends known (append_known known text) text
appends_made None text = tt
appends_made (Some xs) text = refl

-- a prefix of the text went out behind what had: so a prefix of both did
pub cut_short : (start mid new : Option (List ℕ)) (more text all : List ℕ) → Appends start mid more
    → SentPrefix text mid new → Appends start (append_known mid text) all → SentPrefix all start new
cut_short None mid new more text all a p b = record { prefix = []; rest = all; whole = refl; out = tt }
cut_short (Some x) None new more text all a p b = absurd a
cut_short (Some x) (Some y) new more text all a p b = record {
  prefix = more ++ p.prefix;
  rest = p.rest;
  whole = append_cancel_left x all (more ++ text) (sym b ∙ ap (λ l. l ++ text) a ∙ append_assoc x more text)
      ∙ ap (λ l. more ++ l) p.whole ∙ sym (append_assoc more p.prefix p.rest);
  out = Appends-trans (Some x) (Some y) new more p.prefix a p.out;
}

pub joins_stopped : {r : GoReader} {read now : Option (List ℕ)} {w : GoWriter} {before : List FilledItem}
    {out : List ℕ} {ids : NewId} {start sent : Option (List ℕ)} (r' : GoReader) (next : Option (List ℕ)) (e : Fault)
    (T : Table) (s : JoinsSo r read now w before out ids start sent)
    → limits_of (session_of r') ≡ limits_of (session_of r) → StopsFrom (session_of r) T read next s.given e
    → StopsJoining r' read next w before out start sent (reading_fault e)
joins_stopped {w = w} {ids = ids} r' next (reading.Refused R) T s same stops = λ bytes known. (
  s.given,
  subst (λ (L : Bounds). FilledOutcome base_table (within_trees L) bytes s.given (refused R)) (sym same)
      (stops bytes known).outcome,
  record {
    prefix = s.has.gave.prefix;
    table = s.has.gave.table;
    stream = subst (λ (L : Bounds). FilledStream base_table (within_trees L) s.given s.has.gave.prefix
        s.has.gave.table) (sym same) s.has.gave.stream;
    ids = ids;
    joins = s.joins;
  },
)
joins_stopped {w = w} r' next reading.Read T s same stops = some_joined r' w s same refl
joins_stopped {w = w} r' next reading.Memory T s same stops = some_joined r' w s same refl
joins_stopped {w = w} r' next reading.Failed T s same stops = some_joined r' w s same refl

-- at the error that a `?` returns
pub next_at : (r r' : GoReader) (read now : Option (List ℕ)) (w : GoWriter) (before : List FilledItem) (out : List ℕ)
    (ids : NewId) (start sent : Option (List ℕ)) (res : Result (Unit {0}) JoinFault) (e : JoinFault)
    → IsErrAnd res (λ x. x ≡ e) → StopsJoining r' read now w before out start sent e
    → JoinsNext r r' read now w before out ids start sent res
next_at r r' read now w before out ids start sent (Ok u) e is h = absurd is
next_at r r' read now w before out ids start sent (Err f) e is h =
    subst (λ e. StopsJoining r' read now w before out start sent e) (sym is) h

pub taking_at : {old : GoWriter} {was : NewId} (r r' : GoReader) (read now : Option (List ℕ)) (w : GoWriter)
    (before : List FilledItem) (out : List ℕ) (ids : NewId) (start sent : Option (List ℕ))
    (res : Result (Unit {0}) JoinFault) (e : TakeFault) → IsErrAnd res (λ x. x ≡ taking_fault e)
    → JoinsSo r read now old before out was start sent → limits_of (session_of r') ≡ limits_of (session_of r)
    → writer.limits_of old ≡ writer.limits_of w → JoinsNext r r' read now w before out ids start sent res
taking_at r r' read now w before out ids start sent res e is s same keeps =
    next_at r r' read now w before out ids start sent res (taking_fault e) is (stopped e)
  where
    stopped : (e : TakeFault) → StopsJoining r' read now w before out start sent (taking_fault e)
    stopped (taking.Full a) = some_joined r' w s same keeps
    stopped taking.Memory = some_joined r' w s same keeps
    stopped taking.Failed = some_joined r' w s same keeps

pub all_at : (r : GoReader) (read now : Option (List ℕ)) (w : GoWriter) (before : List FilledItem) (out : List ℕ)
    (start sent : Option (List ℕ)) (res : Result (Unit {0}) JoinFault) (e : JoinFault)
    → IsErrAnd res (λ x. x ≡ e) → StopsJoining r read now w before out start sent e
    → JoinsAll r read now w before out start sent res
all_at r read now w before out start sent (Ok u) e is h = absurd is
all_at r read now w before out start sent (Err f) e is h =
    subst (λ e. StopsJoining r read now w before out start sent e) (sym is) h

-- ---- what is counted

pub reading_writes : (failures : ℕ) (e : Fault) (res : Result (Unit {0}) JoinFault)
    → IsErrAnd res (λ x. x ≡ reading_fault e) → CountsJoinWrites failures failures res
reading_writes failures e (Ok u) is = absurd is
reading_writes failures e (Err f) is = subst (λ f. CountsJoinWrites failures failures (Err f)) (sym is) (so e)
  where
    so : (e : Fault) → CountsJoinWrites failures failures (Err (reading_fault e))
    so (reading.Refused R) = refl
    so reading.Read = refl
    so reading.Memory = refl
    so reading.Failed = refl

pub taking_writes : (failures : ℕ) (e : TakeFault) (res : Result (Unit {0}) JoinFault)
    → IsErrAnd res (λ x. x ≡ taking_fault e) → CountsJoinWrites failures failures res
taking_writes failures e (Ok u) is = absurd is
taking_writes failures e (Err f) is = subst (λ f. CountsJoinWrites failures failures (Err f)) (sym is) (so e)
  where
    so : (e : TakeFault) → CountsJoinWrites failures failures (Err (taking_fault e))
    so (taking.Full r) = refl
    so taking.Memory = refl
    so taking.Failed = refl

pub writing_writes : (old new : ℕ) (e : WriteFault) (res : Result (Unit {0}) JoinFault)
    → IsErrAnd res (λ x. x ≡ fault.Write) → e ≡ writing.Write → CountsFault old new e → CountsJoinWrites old new res
writing_writes old new e (Ok u) is w h = absurd is
writing_writes old new e (Err f) is w h =
    subst (λ f. CountsJoinWrites old new (Err f)) (sym is) (subst (CountsFault old new) w h)

pub reading_unread : (e : Fault) (res : Result (Unit {0}) JoinFault) → IsErrAnd res (λ x. x ≡ reading_fault e)
    → e ≢ reading.Read → IfErr res (λ given. given ≢ fault.Read)
reading_unread e (Ok u) is other = tt
reading_unread e (Err f) is other = λ r. so e other (sym is ∙ r)
  where
    so : (e : Fault) → e ≢ reading.Read → reading_fault e ≡ fault.Read → ⊥
    so (reading.Refused R) other r = absurd (cc r)
    so reading.Read other r = other refl
    so reading.Memory other r = absurd (cc r)
    so reading.Failed other r = absurd (cc r)

pub taking_unread : (e : TakeFault) (res : Result (Unit {0}) JoinFault) → IsErrAnd res (λ x. x ≡ taking_fault e)
    → IfErr res (λ given. given ≢ fault.Read)
taking_unread e (Ok u) is = tt
taking_unread e (Err f) is = λ r. so e (sym is ∙ r)
  where
    so : (e : TakeFault) → taking_fault e ≡ fault.Read → ⊥
    so (taking.Full a) r = absurd (cc r)
    so taking.Memory r = absurd (cc r)
    so taking.Failed r = absurd (cc r)

pub reads_counted : (A : Type 0) (old mid new : ℕ) (e : Fault) (res : Result (Unit {0}) JoinFault)
    → IsErrAnd res (λ x. x ≡ reading_fault e) → mid ≡ old → CountsReads {A = A} mid new (Err e)
    → CountsJoinReads old new res
reads_counted A old mid new e (Ok u) is same h = absurd is
reads_counted A old mid new e (Err f) is same h =
    subst (λ f. CountsJoinReads old new (Err f)) (sym is) (so e (subst (λ m. CountsReads {A = A} m new (Err e)) same h))
  where
    so : (e : Fault) → CountsReads {A = A} old new (Err e) → CountsJoinReads old new (Err (reading_fault e))
    so (reading.Refused R) h = h
    so reading.Read h = h.0
    so reading.Memory h = h
    so reading.Failed h = h

-- no read failed behind those that were counted
pub reads_stay : (old new : ℕ) (e : JoinFault) (res : Result (Unit {0}) JoinFault) → IsErrAnd res (λ x. x ≡ e)
    → e ≢ fault.Read → new ≡ old → CountsJoinReads old new res
reads_stay old new e (Ok u) is other same = absurd is
reads_stay old new e (Err f) is other same = subst (λ f. CountsJoinReads old new (Err f)) (sym is) (so e other)
  where
    so : (e : JoinFault) → e ≢ fault.Read → CountsJoinReads old new (Err e)
    so (fault.Refused R) other = same
    so (fault.Full a) other = same
    so fault.Read other = absurd (other refl)
    so fault.Write other = same
    so fault.Memory other = same
    so fault.Failed other = same

pub writes_on : (old mid new : ℕ) (e : JoinFault) (res : Result (Unit {0}) JoinFault) → IsErrAnd res (λ x. x ≡ e)
    → mid ≡ old → CountsJoinWrites mid new (Err e) → CountsJoinWrites old new res
writes_on old mid new e (Ok u) is same h = absurd is
writes_on old mid new e (Err f) is same h = subst (λ f. CountsJoinWrites old new (Err f)) (sym is)
    (subst (λ m. CountsJoinWrites m new (Err e)) same h)

-- ---- all of it

pub joins_whole : {r : GoReader} {read now : Option (List ℕ)} {w : GoWriter} {before : List FilledItem} {out : List ℕ}
    {ids : NewId} {start sent : Option (List ℕ)} {bytes : List ℕ} {taken : ℕ} (r' : GoReader)
    (next : Option (List ℕ)) (s : JoinsSo r read now w before out ids start sent)
    → limits_of (session_of r') ≡ limits_of (session_of r)
    → EndsWith (within_trees (limits_of (session_of r))) (types_of (session_of r)) taken s.given bytes next
    → JoinsWhole (within_trees (limits_of (session_of r'))) bytes next w before out start sent
joins_whole {r = r} {w = w} {ids = ids} {bytes = bytes} r' next s same e = record {
  given = s.given;
  table = types_of (session_of r);
  stream = subst (λ (L : Bounds). FilledStream base_table (within_trees L) s.given bytes (types_of (session_of r)))
      (sym same) e.stream;
  end = e.end;
  ids = ids;
  joins = record {
    items = s.joins.items;
    more = s.joins.more;
    put = s.joins.put;
    sent = s.joins.sent;
    renaming = renaming_on (table_grows [] refl (sym (append-nil s.given)) s.has.gave.stream e.stream).shape
        (none_grown (writer.types_of w)) s.joins.renaming;
    values = s.joins.values;
  };
}

pub all_answers : (L : Bounds) (r : GoReader) (bytes : List ℕ) (read now : Option (List ℕ)) (w : GoWriter)
    (before : List FilledItem) (out : List ℕ) (start sent : Option (List ℕ)) (res : Result (Unit {0}) JoinFault)
    → limits_of (session_of r) ≡ L → read ≡ Some bytes → JoinsAll r read now w before out start sent res
    → JoinAnswers (within_trees L) bytes now w before out start sent res
all_answers L r bytes read now w before out start sent (Ok u) same known h =
    subst (λ L. JoinsWhole (within_trees L) bytes now w before out start sent) same (h bytes known)
all_answers L r bytes read now w before out start sent (Err (fault.Refused R)) same known h =
    subst (λ L. JoinAnswers (within_trees L) bytes now w before out start sent (Err (fault.Refused R))) same
    (h bytes known)
all_answers L r bytes read now w before out start sent (Err (fault.Full a)) same known h =
    subst (λ L. JoinsSome (within_trees L) bytes w before out start sent) same (h bytes known)
all_answers L r bytes read now w before out start sent (Err fault.Read) same known h =
    subst (λ L. JoinsSome (within_trees L) bytes w before out start sent) same (h bytes known)
all_answers L r bytes read now w before out start sent (Err fault.Write) same known h =
    subst (λ L. JoinsCut (within_trees L) bytes w before out start sent) same (h bytes known)
all_answers L r bytes read now w before out start sent (Err fault.Memory) same known h =
    subst (λ L. JoinsSome (within_trees L) bytes w before out start sent) same (h bytes known)
all_answers L r bytes read now w before out start sent (Err fault.Failed) same known h =
    subst (λ L. JoinsSome (within_trees L) bytes w before out start sent) same (h bytes known)

-- no item was read
none_joined : (L : Bounds) (bytes : List ℕ) (w : GoWriter) (before : List FilledItem) (out : List ℕ)
    (start : Option (List ℕ)) → HasPut w before out → JoinsSome L bytes w before out start start
none_joined L bytes w before out start p = record {
  given = [];
  begins = record { prefix = []; rest = bytes; table = base_table; stream = no_more; whole = refl };
  writer = w;
  limits = refl;
  ids = λ t. None;
  joins = record {
    items = [];
    more = [];
    put = subst (λ is. HasPut w is (out ++ [])) (sym (append-nil before))
        (subst (λ b. HasPut w before b) (sym (append-nil out)) p);
    sent = Appends-nil start;
    renaming = record { each = λ t u e. absurd (cc e) };
    values = no_items;
  };
}

-- where there was no memory for a reader
pub no_memory : (L : Bounds) (bytes : List ℕ) (now : Option (List ℕ)) (w : GoWriter) (before : List FilledItem)
    (out : List ℕ) (start : Option (List ℕ)) (res : Result (Unit {0}) JoinFault) → HasPut w before out
    → IsErrAnd res (λ x. x ≡ fault.Memory) → JoinAnswers L bytes now w before out start start res
no_memory L bytes now w before out start (Ok u) p is = absurd is
no_memory L bytes now w before out start (Err f) p is =
    subst (λ f. JoinAnswers L bytes now w before out start start (Err f)) (sym is)
    (none_joined L bytes w before out start p)
