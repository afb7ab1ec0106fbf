-- The text of an item that is taken of a stream.
use Rattle.std.proofs.Common.{◌≡◌, ◌∙◌, ℕ, ◌+◌, ◌<◌, ◌≤◌, List, [], ◌∷◌, ◌++◌, length, take, drop, arith, refl, sym, ap}
use Rattle.std.proofs.Common.{subst, Option, Some, None, IfSome, length-append, Bool, true, false, Ok, Err, Result}
use Rattle.std.specs.Result.{IsErrAnd}
use Rattle.std.proofs.lemmas.List.{append-nil, length-take-le}
use Rattle.gob_num.specs.Unsigned.{AreBytes}
use Rattle.gob_num.proofs.PublicLaws.{bytes-append, signed_unsigned, unsigned_bytes}
use Rattle.gob_types.specs.Base.{base_table}
use Rattle.gob_types.specs.Defined.{types}
use Rattle.gob_types.specs.Table.{Table}
use Rattle.gob_types.specs.declared.id.TypeId.{TypeId}
use Rattle.gob_value.specs.Tree.{Tree, depth}
use Rattle.gob_value.specs.Whole.{IsWhole}
use Rattle.gob_stream.specs.Bounds.{Bounds, greatest_depth}
use Rattle.gob_stream.specs.Calls.ReaderOf.{types_behind}
use Rattle.gob_stream.specs.Item.{puts}
use Rattle.gob_stream.specs.Stepping.{GivesAllBy, GivesItemsOf, gives_none, gives_one, HasItemNextBy, in_format}
use Rattle.gob_stream.specs.Whole.{HasBody}
use Rattle.gob_stream.specs.declared.fault.Fault.{Fault}
use Rattle.gob_stream.specs.declared.fault.Fault.TheVariants as reading
use Rattle.gob_stream.specs.declared.session.Advance.{Advance}
use Rattle.gob_stream.proofs.PublicLaws.{counted_some, whole_item}
use Rattle.gob_filled.specs.Filled.{as_it_stands, filled, Fillings, no_filling, with_fillings}
use Rattle.gob_filled.specs.Stream.{FilledItem, putting, IsFilledItem, of_value, AreFilledItems, last_counted, no_more}
use Rattle.gob_go.specs.Calls.Reader.{GoReader, HasReadFrom, PassesOne, session_of, StepsOnFrom, waits_in}
use Rattle.gob_go.specs.Calls.Session.{IsBetweenItems, table_of, types_of}
use Rattle.gob_go.specs.GoStepping.{go_stepping}
use Rattle.gob_go.specs.Meaning.{ItemMeans}
use Rattle.gob_go.specs.declared.item.GoItem.{GoItem}
use Rattle.gob_tool.proofs.TextLaws.{no_memory}
use Rattle.gob_split.proofs.TextLaws.{one_item, same_item}
use Rattle.gob_split.specs.Machine.Items.{IsMadeOf, IsWholeNext, TakesNext, TakesNoMore, TakesNone, TakesText}
use Rattle.gob_split.specs.Machine.Items.{text_in}
use Rattle.gob_split.specs.Text.{IsTextOf}
use Rattle.gob_split.specs.declared.item_text.ItemText.{ItemText}

-- ---- a value that waits as a whole
deep_so : {L : Bounds} {T U : Table} {t : TypeId} {offset : ℕ} {v : Tree} {fs : Fillings} {b : List ℕ}
    → IsFilledItem base_table L T offset (putting t (filled v fs)) b U → depth v ≤ L.depth
deep_so (of_value may sg (with_fillings sp de fl) cs) = de

whole_stands : {L M : Bounds} {T : Table} {offset at used limit : ℕ} {id : TypeId} {body piece : List ℕ}
    (n : HasBody L T offset id body used piece) → AreBytes body → (w : IsWhole T id limit body)
    → depth w.value ≤ M.depth → length (take used piece) ≤ M.item → at + length (take used piece) ≤ M.stream
    → IsFilledItem base_table M T at (putting id (filled w.value no_filling)) (take used piece) T
whole_stands {M = M} {T = T} {at = at} {id = id} {body = body} n are w deep size room =
    let s = n.number ++ body in
    let long = ap length n.whole in
    let both = length-append n.count s in
    subst (λ (z : List ℕ). IsFilledItem base_table M T at (putting id (filled w.value no_filling)) z T) (sym n.whole)
    (of_value n.may n.names (with_fillings w.spelled deep (as_it_stands are))
    (last_counted {c = n.count} s (bytes-append n.number body (unsigned_bytes (signed_unsigned n.names).1) are) n.counts
    (omega (arith, size, long, both)) (omega (arith, room, long))))

whole_text : {L : Bounds} {T : Table} {offset used limit : ℕ} {id : TypeId} {body piece : List ℕ} (x : ItemText)
    (n : HasBody L T offset id body used piece) → AreBytes body → (w : IsWhole T id limit body)
    → x.bytes.items ≡ take used piece → x.definitions ≡ 0
    → IsTextOf T (putting id (filled w.value no_filling)) (text_in x)
whole_text {T = T} {used = used} {id = id} {piece = piece} x n are w same none =
    λ L before at bytes shallow is M offset d t size room.
    let front : take x.definitions x.bytes.items ≡ [] = ap (λ k. take k x.bytes.items) none in
    let rest : drop x.definitions x.bytes.items ≡ take used piece =
    ap (λ k. drop k x.bytes.items) none ∙ same in
    let text = ap length front in
    let long = ap length rest in
    let both = length-append (take x.definitions x.bytes.items) (drop x.definitions x.bytes.items) in
    let here = same_item (filled w.value no_filling) is in
    let deep = deep_so is in
    let i = putting id (filled w.value no_filling) in
    record {
      definitions_are = subst (λ (z : List ℕ). AreFilledItems base_table M before offset [] z T) (sym front)
          (subst (λ (U : Table). AreFilledItems base_table M before offset [] [] U) here no_more);
      value_is = subst (λ (z : List ℕ). AreFilledItems base_table M T
          (offset + length (take x.definitions x.bytes.items)) (i ∷ []) z T) (sym rest)
          (one_item (whole_stands n are w (omega (arith, deep, d)) (omega (arith, size, long, both))
          (omega (arith, room, long, both, text))));
    }

pub whole_taken : {r r' : GoReader} {id : TypeId} {body : List ℕ} {used : ℕ} (x : ItemText)
    → IsWholeNext r id body used → x.bytes.items ≡ take used (waits_in r) → x.definitions ≡ 0 → PassesOne r r' used
    → IsBetweenItems (session_of r') → table_of (session_of r') ≡ table_of (session_of r)
    → (read now : Option (List ℕ)) (given : List FilledItem) → HasReadFrom r read now given
    → TakesText r r' read now given x
whole_taken {r = r} {r' = r'} {id = id} {used = used} x w same none p between table = λ read now given h.
    let next = whole_item greatest_depth refl w.next w.is.whole in
    let t = p read now given (putting id (filled w.is.whole.value no_filling)) h (in_format next) in
    let some = counted_some next in
    let size = length-take-le used (waits_in r) w.next.within in
    record {
      item = putting id (filled w.is.whole.value no_filling);
      after = t.after;
      within = omega (arith, none);
      text = subst (λ (T : Table). IsTextOf T (putting id (filled w.is.whole.value no_filling)) (text_in x))
          (sym (ap (λ d. types d) table)) (whole_text x w.next w.is.are_bytes w.is.whole same none);
      between = between;
      onward = omega (arith, t.onward, some, size);
    }

pub has_item : {r : GoReader} {id : TypeId} {body : List ℕ} {used : ℕ} → IsWholeNext r id body used
    → HasItemNextBy go_stepping (session_of r) (take used (waits_in r))
has_item {id = id} w = (
  putting id (filled w.is.whole.value no_filling),
  in_format (whole_item greatest_depth refl w.next w.is.whole),
)

-- ---- a step
pub step_taken : {r r' : GoReader} {read now : Option (List ℕ)} {given : List FilledItem} {step : Advance GoItem}
    {kept : GoItem} {x : ItemText} → StepsOnFrom r r' read now given step → step.item ≡ Some kept → 0 < step.used
    → IfSome step.item (λ _. IsBetweenItems (session_of r')) → IsMadeOf (types_of (session_of r')) kept x
    → TakesText r r' read now given x
step_taken {r = r} {r' = r'} {read = read} {now = now} {given = given} {step = step} {kept = kept} {x = x} st is some
    between made =
    by st.takes.after (subst (λ (o : Option GoItem). IfSome o (λ _. IsBetweenItems (session_of r'))) is between)
    (subst (λ (o : Option GoItem). GivesItemsOf
    (λ g i. ItemMeans (types_of (session_of r')) g i) o st.more) is st.gives)
  where
    by : {more : List FilledItem} → HasReadFrom r' read now (given ++ more) → IsBetweenItems (session_of r')
        → GivesItemsOf (λ g i. ItemMeans (types_of (session_of r')) g i) (Some kept) more
        → TakesText r r' read now given x
    by h between (gives_one {i = i} m) = record {
      item = i;
      after = h;
      within = made.within;
      text = made.is i m;
      between = between;
      onward = omega (arith, some, st.takes.onward);
    }

pub step_none : {r r' : GoReader} {read now : Option (List ℕ)} {given : List FilledItem} {step : Advance GoItem}
    → StepsOnFrom r r' read now given step → step.item ≡ None → 0 < step.used → TakesNone r r' read now given
step_none {r = r} {r' = r'} {read = read} {now = now} {given = given} {step = step} st is some =
    by st.takes.after
    (subst (λ (o : Option GoItem). GivesItemsOf
    (λ g i. ItemMeans (types_of (session_of r')) g i) o st.more) is st.gives)
  where
    by : {more : List FilledItem} → HasReadFrom r' read now (given ++ more)
        → GivesItemsOf (λ g i. ItemMeans (types_of (session_of r')) g i) None more → TakesNone r r' read now given
    by h gives_none = record {
      after = subst (λ (l : List FilledItem). HasReadFrom r' read now l) (append-nil given) h;
      onward = omega (arith, some, st.takes.onward);
    }

pub memory_stops : {r : GoReader} {read now : Option (List ℕ)} {given : List FilledItem}
    → GivesAllBy go_stepping (session_of r) → HasReadFrom r read now given
    → TakesNoMore r read now given reading.Memory
memory_stops gives h = record { table = types_behind go_stepping h; stops = no_memory go_stepping gives h }

-- ---- what a turn took
pub took : {r r' : GoReader} {read now : Option (List ℕ)} {given : List FilledItem} {x : ItemText} (b : Bool) → b ≡ true
    → TakesNext r r' read now given x (Ok b) → TakesText r r' read now given x
took true e t = t
took false e t = cc

pub took_none : {r r' : GoReader} {read now : Option (List ℕ)} {given : List FilledItem} (x : ItemText) (b : Bool)
    → b ≡ false → TakesNext r r' read now given x (Ok b) → TakesNone r r' read now given
took_none x true e t = cc
took_none x false e t = t

-- at the error that a `?` returns
pub takes_at : {r : GoReader} {read now : Option (List ℕ)} {given : List FilledItem} (r' : GoReader) (x : ItemText)
    (e : Fault) (b : Result Bool Fault) → IsErrAnd b (λ f. f ≡ e) → TakesNoMore r read now given e
    → TakesNext r r' read now given x b
takes_at r' x e (Ok b) is h = absurd is
takes_at {r = r} {read = read} {now = now} {given = given} r' x e (Err f) is h =
    subst (λ e. TakesNoMore r read now given e) (sym is) h
